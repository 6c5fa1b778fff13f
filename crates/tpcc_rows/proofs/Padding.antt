-- Texts that zeros follow.
use Rattle.std.proofs.Common.{◌≡◌, ℕ, zero, suc, List, [], ◌∷◌, ◌++◌, take, drop, refl, ap, ◌∙◌, append_assoc, length, length-append, ◌≤◌, ◌<◌, ◌+◌, ◌-◌, inl, inr, sym, subst, arith, true, false, not, get_or}
use Rattle.std.specs.Prelude.{◌==◌, replicate}
use Rattle.std.specs.List.{prefix_len}
use Rattle.std.specs.List.Sorted.{IsPartitionPoint, IsPartitionedBy}
use Rattle.std.proofs.Math.Seq.{take-append_seam, take-append-add, drop-append-add}
use Rattle.std.proofs.lemmas.List.{drop-replicate, get_or-append_right, get_or-replicate, length-replicate, length-take, replicate-append-replicate}
use Rattle.std.proofs.lemmas.List.Elements.{All-head, All-tail, All-append, All-nil, All-take}
use Rattle.std.proofs.lemmas.List.Folds.{length-prefix_len}
use Rattle.std.proofs.lemmas.List.Sums.{prefix_len_is, prefix_len_passes}
use Rattle.std.proofs.lemmas.Bool.{cases_lt, true≢false}
use Rattle.tpcc_rows.specs.Texts.{ArePrintable, IsPadded, IsPrintable, IsText, before_zeros, clip}

printable_filled : (b : ℕ) → 32 ≤ b → not (b == 0) ≡ true
printable_filled b h = grind arith

-- a text ends where zeros begin
prefix-padded : (xs : List ℕ) (k : ℕ) → ArePrintable xs → prefix_len (λ b. not (b == 0)) (xs ++ replicate k 0) ≡ length xs
prefix-padded [] zero h = refl
prefix-padded [] (suc k) h = refl
prefix-padded (x ∷ xs) k h =
    let rest : prefix_len (λ b. not (b == 0)) (xs ++ replicate k 0) ≡ length xs = prefix-padded xs k (All-tail IsPrintable x xs h) in
    rw (printable_filled x (All-head IsPrintable x xs h).0) (omega (arith, rest))

before_zeros-padded : (xs : List ℕ) (k : ℕ) → ArePrintable xs → before_zeros (xs ++ replicate k 0) ≡ xs
unfolding before_zeros
before_zeros-padded xs k h = ap (λ n. take n (xs ++ replicate k 0)) (prefix-padded xs k h) ∙ take-append_seam xs (replicate k 0)

-- a text and zeros behind it
pub before_zeros-filled : (n : ℕ) (xs : List ℕ) → IsText n xs → before_zeros (xs ++ replicate (n - length xs) 0) ≡ xs
before_zeros-filled n xs h = before_zeros-padded xs (n - length xs) h.printable

pub padded : (n : ℕ) (xs : List ℕ) → IsText n xs → IsPadded n (xs ++ replicate (n - length xs) 0)
padded n xs h =
    let same = before_zeros-filled n xs h in
    record { text = subst (IsText n) (sym same) h; zeros = ap (λ v. v ++ replicate (n - length v) 0) (sym same) }

-- to write at a text's end is to append
pub laid_behind : (n : ℕ) (bytes part : List ℕ) (place : ℕ) → IsPadded n bytes → place ≡ length (before_zeros bytes)
    → take place bytes ++ (part ++ drop (place + length part) bytes)
    ≡ (before_zeros bytes ++ part) ++ replicate (n - length (before_zeros bytes ++ part)) 0
laid_behind n bytes part place h at =
    let text = before_zeros bytes in
    let k = n - length text in
    let front : take place bytes ≡ text =
    ap (take place) h.zeros ∙ ap (λ m. take m (text ++ replicate k 0)) at ∙ take-append_seam text (replicate k 0) in
    let back : drop (place + length part) bytes ≡ replicate (k - length part) 0 =
    ap (drop (place + length part)) h.zeros ∙ ap (λ m. drop (m + length part) (text ++ replicate k 0)) at
    ∙ drop-append-add text (replicate k 0) (length part) ∙ drop-replicate (length part) k 0 in
    let left : k - length part ≡ n - length (text ++ part) = omega (arith, length-append text part) in
    ap (λ front. front ++ (part ++ drop (place + length part) bytes)) front
    ∙ ap (λ back. text ++ (part ++ back)) back
    ∙ sym (append_assoc text part (replicate (k - length part) 0))
    ∙ ap (λ m. (text ++ part) ++ replicate m 0) left

zero_not_filled : (b : ℕ) → b ≡ 0 → not (b == 0) ≡ true → true ≡ false
zero_not_filled b e h = sym h ∙ ap (λ m. not (m == 0)) e

-- from where a text ends, each byte is a zero
zero_behind : (n : ℕ) (bytes : List ℕ) (j d : ℕ) → IsPadded n bytes → length (before_zeros bytes) ≤ j → j < n → get_or bytes j d ≡ 0
zero_behind n bytes j d h behind below =
    let text = before_zeros bytes in
    let k = n - length text in
    ap (λ bs. get_or bs j d) h.zeros ∙ get_or-append_right text (replicate k 0) (length text) j d refl behind
    ∙ get_or-replicate k (j - length text) 0 d (omega (arith, h.text.fits))

length-padded : (n : ℕ) (bytes : List ℕ) → IsPadded n bytes → length bytes ≡ n
length-padded n bytes h =
    let text = before_zeros bytes in
    let k = n - length text in
    ap length h.zeros ∙ length-append text (replicate k 0) ∙ ap (λ m. length text + m) (length-replicate k 0) ∙ omega (arith, h.text.fits)

length-before_zeros : (bytes : List ℕ) → length (before_zeros bytes) ≡ prefix_len (λ b. not (b == 0)) bytes
unfolding before_zeros
length-before_zeros bytes = length-prefix_len (λ b. not (b == 0)) bytes

parted : (n : ℕ) (bytes : List ℕ) → IsPadded n bytes → IsPartitionedBy (λ b. not (b == 0)) bytes
parted n bytes h i j d up below filled = elim (cases_lt j (length (before_zeros bytes))) [
  | inl early ↦ prefix_len_passes (λ b. not (b == 0)) bytes i d (omega (arith, length-before_zeros bytes))
  | inr late ↦ absurd (true≢false (zero_not_filled (get_or bytes j d) (zero_behind n bytes j d h (omega arith) (omega (arith, length-padded n bytes h))) filled))
]

-- where the filled bytes are parted from the others
pub text_ends : (n : ℕ) (bytes : List ℕ) (i : ℕ) → IsPadded n bytes → i ≤ length bytes
    → (IsPartitionedBy (λ b. not (b == 0)) bytes → IsPartitionPoint (λ b. not (b == 0) ≡ true) (λ b. not (b == 0) ≡ false) bytes i)
    → i ≡ length (before_zeros bytes)
text_ends n bytes i h low point =
    let at = point (parted n bytes h) in
    sym (length-before_zeros bytes ∙ prefix_len_is (λ b. not (b == 0)) bytes i 0 low (λ k below. at.0 k 0 (omega arith) below) (λ below. at.1 i 0 (omega arith) below))

still_text : (n room : ℕ) (text bytes : List ℕ) → IsText n text → length text + room ≡ n → ArePrintable bytes → IsText n (text ++ take room bytes)
still_text n room text bytes h whole print = record {
  fits = rw (length-append text (take room bytes), length-take room bytes) (omega (arith, whole));
  printable = All-append IsPrintable text (take room bytes) h.printable (All-take IsPrintable room bytes print);
}

clipped : (n room : ℕ) (text bytes : List ℕ) → length text + room ≡ n → text ++ take room bytes ≡ clip n (text ++ bytes)
unfolding clip
clipped n room text bytes whole = sym (take-append-add text bytes room) ∙ ap (λ m. take m (text ++ bytes)) whole

pub record IsAppended (n : ℕ) (text bytes after : List ℕ) : Type 0 where
  pub still : IsPadded n after
  pub value : before_zeros after ≡ clip n (text ++ bytes)

-- to write what there is room for at a text's end
pub appended : (n : ℕ) (before bytes after part : List ℕ) (place : ℕ) → IsPadded n before → place ≡ length (before_zeros before) → place ≤ n
    → ArePrintable bytes → part ≡ take (n - place) bytes → after ≡ take place before ++ (part ++ drop (place + length part) before)
    → IsAppended n (before_zeros before) bytes after
appended n before bytes after part place h at low print first e =
    let text = before_zeros before in
    let room = n - place in
    let whole : length text + room ≡ n = omega (arith, at) in
    let fits : place + length part ≤ n = rw (first, length-take room bytes) (omega arith) in
    let shape : after ≡ (text ++ part) ++ replicate (n - length (text ++ part)) 0 = e ∙ laid_behind n before part place h at in
    let is : IsText n (text ++ part) = subst (λ p. IsText n (text ++ p)) (sym first) (still_text n room text bytes h.text whole print) in
    record {
      still = subst (IsPadded n) (sym shape) (padded n (text ++ part) is);
      value = ap before_zeros shape ∙ before_zeros-filled n (text ++ part) is ∙ ap (λ p. text ++ p) first ∙ clipped n room text bytes whole;
    }

-- no text
none : (n : ℕ) → IsText n []
none n = record { fits = omega arith; printable = All-nil IsPrintable }

pub all_zeros : (n : ℕ) → IsPadded n (replicate n 0)
all_zeros n = let whole : n - 0 ≡ n = omega arith in subst (λ m. IsPadded n (replicate m 0)) whole (padded n [] (none n))

pub no_text : (n : ℕ) → before_zeros (replicate n 0) ≡ []
no_text n = let whole : n - 0 ≡ n = omega arith in subst (λ m. before_zeros (replicate m 0) ≡ []) whole (before_zeros-filled n [] (none n))

-- more zeros behind a text
longer : (n m : ℕ) (bytes : List ℕ) → IsPadded n bytes → n ≤ m → bytes ++ replicate (m - n) 0 ≡ before_zeros bytes ++ replicate (m - length (before_zeros bytes)) 0
longer n m bytes h up =
    let text = before_zeros bytes in
    let k = n - length text in
    let count : k + (m - n) ≡ m - length text = omega (arith, h.text.fits) in
    ap (λ bs. bs ++ replicate (m - n) 0) h.zeros ∙ append_assoc text (replicate k 0) (replicate (m - n) 0)
    ∙ ap (λ zs. text ++ zs) (replicate-append-replicate k (m - n) 0 ∙ ap (λ j. replicate j 0) count)

-- a text of a limit fits within a greater one
fits_too : (n m : ℕ) (xs : List ℕ) → IsText n xs → n ≤ m → IsText m xs
fits_too n m xs h up = record { fits = omega (arith, h.fits); printable = h.printable }

pub record IsWidened (m : ℕ) (text after : List ℕ) : Type 0 where
  pub still : IsPadded m after
  pub value : before_zeros after ≡ text

-- to write a text and its zeros at the start of more zeros
pub widened : (n m : ℕ) (bytes after : List ℕ) → IsPadded n bytes → n ≤ m → after ≡ take 0 (replicate m 0) ++ (bytes ++ drop (0 + length bytes) (replicate m 0))
    → IsWidened m (before_zeros bytes) after
widened n m bytes after h up e =
    let text = before_zeros bytes in
    let is : IsText m text = fits_too n m text h.text up in
    let whole : 0 + length bytes ≡ n = omega (arith, length-padded n bytes h) in
    let rest : drop (0 + length bytes) (replicate m 0) ≡ replicate (m - n) 0 =
    ap (λ j. drop j (replicate m 0)) whole ∙ drop-replicate n m 0 in
    let shape : after ≡ text ++ replicate (m - length text) 0 = e ∙ ap (λ zs. bytes ++ zs) rest ∙ longer n m bytes h up in
    record {
      still = subst (IsPadded m) (sym shape) (padded m text is);
      value = ap before_zeros shape ∙ before_zeros-filled m text is;
    }
