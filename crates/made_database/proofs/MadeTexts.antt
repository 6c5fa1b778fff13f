-- Texts whose parts fit.
use Rattle.std.proofs.Common.{◌≡◌, ℕ, ◌+◌, ◌<◌, ◌≤◌, ◌^◌, List, [], ◌++◌, length, decimal, ap, ◌∙◌, append_assoc, arith, length-append}
use Rattle.std.proofs.lemmas.Fmt.{length-decimal-le}
use Rattle.std.specs.Prelude.{codes, ◌/◌, ◌%◌}
use Rattle.tpcc_rows.specs.Texts.{clip}
use Rattle.tpcc_rows.proofs.Clips.{clip_all, then_clipped}
use Rattle.made_database.specs.Made.{made_info}

-- one more part
pub pushed : (n : ℕ) (a old new : List ℕ) → new ≡ clip n (old ++ a) → length old + length a ≤ n → new ≡ old ++ a
pushed n a old new e fits =
    let whole = length-append old a in
    e ∙ clip_all n (old ++ a) (omega (arith, whole, fits))

-- a word followed by a number
pub word_number : (n k : ℕ) (word start mid new : List ℕ) → start ≡ [] → mid ≡ clip n (start ++ word) → new ≡ clip n (mid ++ decimal k) → k < 10 ^ 9 → length word + 9 ≤ n → new ≡ word ++ decimal k
word_number n k word start mid new none first second small room =
    let digits : length (decimal k) ≤ 9 = length-decimal-le 9 k (omega arith) small (omega (arith, small)) in
    let whole = length-append word (decimal k) in
    then_clipped n word (decimal k) start mid new first second
    ∙ ap (λ (s : List ℕ). clip n (s ++ (word ++ decimal k))) none
    ∙ clip_all n (word ++ decimal k) (omega (arith, digits, whole, room))

pub info_parts : (d x : ℕ) (mid new : List ℕ) → x ≡ d → d ≤ 10 → mid ≡ codes "DIST" ++ decimal (x / 10) → new ≡ clip 24 (mid ++ decimal (x % 10)) → new ≡ made_info d
unfolding made_info
info_parts d x mid new e small first second =
    let tens : length (decimal (x / 10)) ≤ 9 = length-decimal-le 9 (x / 10) (omega arith) (omega (arith, e, small)) (omega (arith, e, small)) in
    let ones : length (decimal (x % 10)) ≤ 9 = length-decimal-le 9 (x % 10) (omega arith) (omega (arith, e, small)) (omega (arith, e, small)) in
    let whole : length mid ≡ 4 + length (decimal (x / 10)) = ap length first ∙ length-append (codes "DIST") (decimal (x / 10)) in
    pushed 24 (decimal (x % 10)) mid new second (omega (arith, whole, tens, ones))
    ∙ ap (λ (m : List ℕ). m ++ decimal (x % 10)) first
    ∙ append_assoc (codes "DIST") (decimal (x / 10)) (decimal (x % 10))
    ∙ ap (λ n. codes "DIST" ++ (decimal (n / 10) ++ decimal (n % 10))) e
