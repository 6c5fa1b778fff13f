-- Texts stand in the order of the numbers that their padded bytes spell.
use Rattle.std.proofs.Common.{◌≡◌, ℕ, zero, suc, ◌+◌, ◌*◌, ◌-◌, ◌^◌, ◌<◌, ◌≤◌, List, [], ◌∷◌, ◌++◌, length, refl, sym, ap, ap₂, subst, ◌∙◌, arith}
use Rattle.std.specs.Cmp.{nat_cmp_is}
use Rattle.std.specs.Cmp.Lexicographic.{slice_cmp}
use Rattle.std.specs.Int.{byte_worth, from_be_bytes, sum_through, w128}
use Rattle.std.specs.Ordering.{MatchOrdering, nat_cmp, ordering_then}
use Rattle.std.specs.Prelude.{replicate, slice_index}
use Rattle.std.specs.declared.cmp.Ordering.{Ordering}
use Rattle.std.specs.declared.cmp.Ordering.TheVariants.{Less, Equal, Greater}
use Rattle.std.proofs.Math.Nat.{mul-le-mul_right, pow-suc, suc-mul}
use Rattle.std.proofs.lemmas.Cmp.{ranked}
use Rattle.std.proofs.lemmas.List.{length-append, length-replicate}
use Rattle.std.proofs.lemmas.List.Elements.{All-head, All-tail}
use Rattle.tpcc_rows.specs.Texts.{ArePrintable, IsPadded, IsPrintable, before_zeros}

-- the number that bytes spell, the first of which counts most
abbrev spelled : List ℕ → ℕ
spelled [] = 0
spelled (b ∷ bs) = b * 256 ^ length bs + spelled bs

-- a first byte that is less decides
first-decides : (power x y r s : ℕ) → x < y → r < power → x * power + r < y * power + s
first-decides power x y r s less low =
    let next : (x + 1) * power ≤ y * power = mul-le-mul_right power (omega (arith, less)) in
    omega (arith, next, low)

by-first : (power x y r s : ℕ) → r < power → s < power → nat_cmp (x * power + r) (y * power + s) ≡ ordering_then (nat_cmp x y) (nat_cmp r s)
by-first power x y r s h g = at (nat_cmp x y) (ranked x y _ refl)
  where
    more : (o : Ordering) → MatchOrdering o (r < s) (r ≡ s) (s < r) → MatchOrdering o (x * power + r < x * power + s) (x * power + r ≡ x * power + s) (x * power + s < x * power + r)
    more Less less = omega (arith, less)
    more Equal same = omega (arith, same)
    more Greater greater = omega (arith, greater)

    at : (o : Ordering) → MatchOrdering o (x < y) (x ≡ y) (y < x) → nat_cmp (x * power + r) (y * power + s) ≡ ordering_then o (nat_cmp r s)
    at Less less = sym (nat_cmp_is (x * power + r) (y * power + s) Less (first-decides power x y r s less h))
    at Equal same =
        ap (λ z. nat_cmp (x * power + r) (z * power + s)) (sym same)
        ∙ sym (nat_cmp_is (x * power + r) (x * power + s) (nat_cmp r s) (more (nat_cmp r s) (ranked r s _ refl)))
    at Greater greater = sym (nat_cmp_is (x * power + r) (y * power + s) Greater (first-decides power y x s r greater g))

-- ---- bytes, and zeros behind them
abbrev padded : List ℕ → ℕ → List ℕ
padded text zeros = text ++ replicate zeros 0

zeros-spell : (zeros : ℕ) → spelled (replicate zeros 0) ≡ 0
zeros-spell zero = refl
zeros-spell (suc zeros) = let rest = zeros-spell zeros in omega (arith, rest)

positive : (n : ℕ) → 0 < 256 ^ n
positive zero = omega arith
positive (suc n) = let h = positive n in omega (arith, h)

below : (text : List ℕ) (zeros : ℕ) → ArePrintable text → spelled (padded text zeros) < 256 ^ length (padded text zeros)
below [] zeros h = let none = zeros-spell zeros in let some = positive (length (padded [] zeros)) in omega (arith, none, some)
below (b ∷ bs) zeros h =
    let (low, high) = All-head IsPrintable b bs h in
    let rest = below bs zeros (All-tail IsPrintable b bs h) in
    let power = 256 ^ length (padded bs zeros) in
    let most : suc b * power ≤ 256 * power = mul-le-mul_right power (omega (arith, high)) in
    let more = suc-mul b power in
    let whole = pow-suc 256 (length (padded bs zeros)) in
    omega (arith, rest, most, more, whole)

nothing-less : (n b : ℕ) (bs : List ℕ) (m : ℕ) → ArePrintable (b ∷ bs) → spelled (padded [] n) < spelled (padded (b ∷ bs) m)
nothing-less n b bs m h =
    let (low, high) = All-head IsPrintable b bs h in
    let power = 256 ^ length (padded bs m) in
    let some : 1 * power ≤ b * power = mul-le-mul_right power (omega (arith, low)) in
    let none = zeros-spell n in
    let one = positive (length (padded bs m)) in
    omega (arith, none, some, one)

in-order : (one other : List ℕ) (n m : ℕ) → ArePrintable one → ArePrintable other → length (padded one n) ≡ length (padded other m)
    → nat_cmp (spelled (padded one n)) (spelled (padded other m)) ≡ slice_cmp nat_cmp one other
in-order [] [] n m h g same = ap₂ nat_cmp (zeros-spell n) (zeros-spell m)
in-order [] (y ∷ ys) n m h g same = sym (nat_cmp_is (spelled (padded [] n)) (spelled (padded (y ∷ ys) m)) Less (nothing-less n y ys m g))
in-order (x ∷ xs) [] n m h g same = sym (nat_cmp_is (spelled (padded (x ∷ xs) n)) (spelled (padded [] m)) Greater (nothing-less m x xs n h))
in-order (x ∷ xs) (y ∷ ys) n m h g same =
    let lengths : length (padded xs n) ≡ length (padded ys m) = omega (arith, same) in
    let left = All-tail IsPrintable x xs h in
    let right = All-tail IsPrintable y ys g in
    ap (λ k. nat_cmp (spelled (padded (x ∷ xs) n)) (y * 256 ^ k + spelled (padded ys m))) (sym lengths)
    ∙ by-first (256 ^ length (padded xs n)) x y (spelled (padded xs n)) (spelled (padded ys m)) (below xs n left) (subst (λ k. spelled (padded ys m) < 256 ^ k) (sym lengths) (below ys m right))
    ∙ ap (λ o. ordering_then (nat_cmp x y) o) (in-order xs ys n m left right lengths)

-- ---- `from_be_bytes` spells
sum-from-front : (f : ℕ → ℕ) (k : ℕ) → sum_through f (suc k) ≡ f 0 + sum_through (λ i. f (suc i)) k
sum-from-front f zero = refl
sum-from-front f (suc k) = let front = sum-from-front f k in omega (arith, front)

spells : (k : ℕ) (bytes : List ℕ) → length bytes ≡ suc k → sum_through (λ i. byte_worth (k - i) (slice_index bytes i)) k ≡ spelled bytes
spells k [] long = absurd (omega (arith, long))
spells zero (b ∷ []) long = omega arith
spells zero (b ∷ c ∷ bs) long = absurd (omega (arith, long))
spells (suc k) (b ∷ bs) long =
    let rest : length bs ≡ suc k = omega (arith, long) in
    let first : suc k - 0 ≡ suc k = omega arith in
    let less : (i : ℕ) → suc k - suc i ≡ k - i = λ i. omega arith in
    sum-from-front (λ i. byte_worth (suc k - i) (slice_index (b ∷ bs) i)) k
    ∙ (λ t. byte_worth (first t) b + sum_through (λ i. byte_worth (less i t) (slice_index bs i)) k)
    ∙ ap₂ (λ n sum. b * 256 ^ n + sum) (sym rest) (spells k bs rest)

long : (bytes : List ℕ) → IsPadded 16 bytes → length bytes ≡ 16
long bytes h =
    let fits = h.text.fits in
    let parts = length-append (before_zeros bytes) (replicate (16 - length (before_zeros bytes)) 0) in
    let zeros = length-replicate {A = ℕ} (16 - length (before_zeros bytes)) 0 in
    ap length h.zeros ∙ omega (arith, fits, parts, zeros)

pub same_order : (one other : List ℕ) → IsPadded 16 one → IsPadded 16 other
    → nat_cmp (from_be_bytes w128 one) (from_be_bytes w128 other) ≡ slice_cmp nat_cmp (before_zeros one) (before_zeros other)
same_order one other h g =
    let n = 16 - length (before_zeros one) in
    let m = 16 - length (before_zeros other) in
    ap₂ nat_cmp (spells 15 one (long one h) ∙ ap spelled h.zeros) (spells 15 other (long other g) ∙ ap spelled g.zeros)
    ∙ in-order (before_zeros one) (before_zeros other) n m h.text.printable g.text.printable (ap length (sym h.zeros) ∙ long one h ∙ sym (long other g) ∙ ap length g.zeros)
