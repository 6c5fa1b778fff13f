-- Words that tell stamps, in their parts.
use Rattle.std.proofs.Common.{◌≡◌, ◌≢◌, ◌∙◌, ◌<◌, ◌^◌, ℕ, zero, suc, List, [], ◌∷◌, ◌++◌, length, get_or, true, Option, Some, None, append_assoc, sym, ap, subst, arith, rules}
use Rattle.std.specs.Borrow.{Bor}
use Rattle.std.specs.Prelude.{MatchOption, codes, decimal}
use Rattle.std.specs.Char.{is_ascii_digit}
use Rattle.std.specs.List.{list_all}
use Rattle.std.proofs.lemmas.Bool.{and_parts}
use Rattle.std.proofs.lemmas.Bool.Decides.{nat_tests}
use Rattle.std.proofs.lemmas.Fmt.{digits_decimal}
use Rattle.std.proofs.lemmas.Option.{none-some}
use Rattle.std.proofs.lemmas.Str.Parse.{IsNumeralModel, numerals_by_value}
use Rattle.std.proofs.lemmas.Str.Pattern.{IsSplitOnceResult, split_after}
use Rattle.std.specs.Str.Parse.{digits_value}
use Rattle.executor.specs.declared.next_batch.TheConstants.{LAST_NUMBER}
use Rattle.executor.specs.declared.stamp.Stamp.{Stamp}
use Rattle.hex.proofs.HexLemmas.{decode_sized-encode_lower}
use Rattle.hex.specs.Hex.{decode_sized}
use Rattle.records.proofs.SpellingLemmas.{number_in-decimal}
use Rattle.records.specs.Fields.{number_in}
use Rattle.runner.specs.StampText.{AreRead, Tells, stamp_word}
use Rattle.runner.specs.Text.{token_digits}
use Rattle.tpcc_rows.specs.declared.id.TheConstants.{END_OF_NUMBERS}

own : IsNumeralModel (λ ds. list_all is_ascii_digit ds ≡ true) (digits_value 10)
own = numerals_by_value _ (search rules)

digit-no_comma : (c : ℕ) → is_ascii_digit c ≡ true → c ≢ 44
digit-no_comma c digit same = grind (arith, nat_tests)

no_comma : (xs : List ℕ) → list_all is_ascii_digit xs ≡ true → (i : ℕ) → i < length xs → get_or xs i 0 ≢ 44
no_comma [] all i low = absurd (omega (arith, low))
no_comma (x ∷ xs) all zero low = digit-no_comma x (and_parts (is_ascii_digit x) (list_all is_ascii_digit xs) all).0
no_comma (x ∷ xs) all (suc i) low = no_comma xs (and_parts (is_ascii_digit x) (list_all is_ascii_digit xs) all).1 i (omega (arith, low))

decimal-no_comma : (n : ℕ) → n < 2 ^ 64 → (i : ℕ) → i < length (decimal n) → get_or (decimal n) i 0 ≢ 44
decimal-no_comma n small = no_comma (decimal n) (digits_decimal own n small)

-- what stands behind the first number, and behind the second
abbrev pub behind_first : Stamp → List ℕ
behind_first stamp = decimal stamp.next ++ 44 ∷ token_digits stamp.token

word-parts : (stamp : Stamp) → stamp_word stamp ≡ decimal stamp.sequence ++ 44 ∷ behind_first stamp
word-parts stamp =
    let first = decimal stamp.sequence in
    let second = decimal stamp.next in
    let token = token_digits stamp.token in
    append_assoc (first ++ codes "," ++ second) (codes ",") token
    ∙ append_assoc (first ++ codes ",") second (codes "," ++ token)
    ∙ append_assoc first (codes ",") (second ++ (codes "," ++ token))

-- a word that tells a stamp is cut behind its first number
pub first-cut : (word : List ℕ) (stamp : Stamp) (r : Option (Bor (List ℕ) × Bor (List ℕ))) → IsSplitOnceResult 44 word r → Tells word stamp
    → MatchOption r ⊥ (λ x. (x.0.now ≡ decimal stamp.sequence) × (x.1.now ≡ behind_first stamp))
first-cut word stamp r cut (within, token, is) =
    let small = within.0 in
    split_after 44 word (decimal stamp.sequence) (behind_first stamp) r cut (omega arith) (is ∙ word-parts stamp) (decimal-no_comma stamp.sequence (omega (arith, small)))

-- and behind its second
pub second-cut : (word rest : List ℕ) (stamp : Stamp) (r : Option (Bor (List ℕ) × Bor (List ℕ))) → IsSplitOnceResult 44 rest r → Tells word stamp → rest ≡ behind_first stamp
    → MatchOption r ⊥ (λ x. (x.0.now ≡ decimal stamp.next) × (x.1.now ≡ token_digits stamp.token))
second-cut word rest stamp r cut (within, token, is) same =
    let small = within.1.1 in
    split_after 44 rest (decimal stamp.next) (token_digits stamp.token) r cut (omega arith) same (decimal-no_comma stamp.next (omega (arith, small)))

-- its parts say it
pub parts-read : (word : List ℕ) (stamp : Stamp) → Tells word stamp → AreRead (decimal stamp.sequence) (decimal stamp.next) (token_digits stamp.token) stamp
unfolding token_digits
parts-read word stamp (within, token, is) =
    let most = within.0 in
    let last = within.1.1 in (
      number_in-decimal 0 LAST_NUMBER stamp.sequence (omega arith) within.0 (omega (arith, most)),
      number_in-decimal 1 END_OF_NUMBERS stamp.next within.1.0 within.1.1 (omega (arith, last)),
      decode_sized-encode_lower stamp.token 32 token.0 token.1,
    )

-- so there is a first cut, and a second
pub first-none : (word : List ℕ) (stamp : Stamp) (r : Option (Bor (List ℕ) × Bor (List ℕ))) → IsSplitOnceResult 44 word r → Tells word stamp → r ≡ None → ⊥
first-none word stamp None cut tells is = first-cut word stamp None cut tells
first-none word stamp (Some x) cut tells is = none-some x (sym is)

pub second-none : (word rest : List ℕ) (stamp : Stamp) (r : Option (Bor (List ℕ) × Bor (List ℕ))) → IsSplitOnceResult 44 rest r → Tells word stamp → rest ≡ behind_first stamp
    → r ≡ None → ⊥
second-none word rest stamp None cut tells same is = second-cut word rest stamp None cut tells same
second-none word rest stamp (Some x) cut tells same is = none-some x (sym is)

the-same : (x y : Bor (List ℕ) × Bor (List ℕ)) → Some x ≡ Some y → x ≡ y
the-same x y e = cc

pub first-some : (word : List ℕ) (stamp : Stamp) (r : Option (Bor (List ℕ) × Bor (List ℕ))) (x : Bor (List ℕ) × Bor (List ℕ)) → IsSplitOnceResult 44 word r → Tells word stamp
    → r ≡ Some x → (x.0.now ≡ decimal stamp.sequence) × (x.1.now ≡ behind_first stamp)
first-some word stamp None x cut tells is = absurd (none-some x is)
first-some word stamp (Some y) x cut tells is =
    subst (λ (z : Bor (List ℕ) × Bor (List ℕ)). (z.0.now ≡ decimal stamp.sequence) × (z.1.now ≡ behind_first stamp)) (the-same y x is) (first-cut word stamp (Some y) cut tells)

pub second-some : (word rest : List ℕ) (stamp : Stamp) (r : Option (Bor (List ℕ) × Bor (List ℕ))) (x : Bor (List ℕ) × Bor (List ℕ)) → IsSplitOnceResult 44 rest r → Tells word stamp
    → rest ≡ behind_first stamp → r ≡ Some x → (x.0.now ≡ decimal stamp.next) × (x.1.now ≡ token_digits stamp.token)
second-some word rest stamp None x cut tells same is = absurd (none-some x is)
second-some word rest stamp (Some y) x cut tells same is =
    subst (λ (z : Bor (List ℕ) × Bor (List ℕ)). (z.0.now ≡ decimal stamp.next) × (z.1.now ≡ token_digits stamp.token)) (the-same y x is) (second-cut word rest stamp (Some y) cut tells same)

-- and the parts between them say it
pub parts-same : (word : List ℕ) (stamp : Stamp) (sequence next token : List ℕ) → Tells word stamp → sequence ≡ decimal stamp.sequence → next ≡ decimal stamp.next
    → token ≡ token_digits stamp.token → AreRead sequence next token stamp
parts-same word stamp sequence next token tells a b d =
    let read = parts-read word stamp tells in (
      ap (λ (t : List ℕ). number_in 0 LAST_NUMBER t) a ∙ read.0,
      ap (λ (t : List ℕ). number_in 1 END_OF_NUMBERS t) b ∙ read.1,
      ap (λ (t : List ℕ). decode_sized t 32) d ∙ read.2,
    )

pub same-stamp : (x y : Stamp) → Some x ≡ Some y → x ≡ y
same-stamp x y e = cc
