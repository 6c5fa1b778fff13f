-- What it means that nothing is against a batch.
use Rattle.std.proofs.Common.{◌≡◌, ◌||◌, ◌+◌, ◌<◌, ◌≤◌, ℕ, Bool, true, false, if◌then◌else◌, length, Some, None, nat_lt, refl, arith}
use Rattle.std.proofs.lemmas.Bool.Decides.{nat_tests}
use Rattle.requests.specs.declared.request.Batch.{Batch}
use Rattle.executor.specs.Executions.{refusal_for}
use Rattle.executor.specs.Chains.{Chain}
use Rattle.executor.specs.declared.refusal.Refusal.TheVariants as refusal

free : (long exhausted place : Bool) → (if long then Some refusal.BatchTooLong else if exhausted then Some refusal.NumbersExhausted else if place then None else Some refusal.PointsFull) ≡ None → (exhausted ≡ false) × (place ≡ true)
free true exhausted place is = cc
free false true place is = cc
free false false true is = (refl, refl)
free false false false is = cc

neither : (a b : Bool) → (a || b) ≡ false → (a ≡ false) × (b ≡ false)
neither true b is = cc
neither false true is = cc
neither false false is = (refl, refl)

pub place_for : (most : ℕ) (chain : Chain) (batch : Batch) → refusal_for most chain batch ≡ None → length chain.earlier < most
place_for most chain batch is =
    let place : nat_lt (length chain.earlier) most ≡ true = (free (nat_lt 1024 (length batch.requests)) (nat_lt 999999999999999 (chain.present.sequence + 1) || nat_lt 1000000000000000 (chain.present.next + length batch.requests)) (nat_lt (length chain.earlier) most) is).1 in
    grind (arith, nat_tests, place)

pub numbers_for : (most : ℕ) (chain : Chain) (batch : Batch) → refusal_for most chain batch ≡ None → (chain.present.sequence + 1 ≤ 999999999999999) × (chain.present.next + length batch.requests ≤ 1000000000000000)
numbers_for most chain batch is =
    let none = (free (nat_lt 1024 (length batch.requests)) (nat_lt 999999999999999 (chain.present.sequence + 1) || nat_lt 1000000000000000 (chain.present.next + length batch.requests)) (nat_lt (length chain.earlier) most) is).0 in
    let both = neither (nat_lt 999999999999999 (chain.present.sequence + 1)) (nat_lt 1000000000000000 (chain.present.next + length batch.requests)) none in
    let sequence = both.0 in
    let next = both.1 in
    (grind (arith, nat_tests, sequence), grind (arith, nat_tests, next))
