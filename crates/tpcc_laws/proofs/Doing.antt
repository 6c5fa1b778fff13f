-- What a step that wasn't refused went through.
use Rattle.std.proofs.Common.{◌≡◌, ℕ, ℤ, ◌≤ℤ◌, Bool, true, false, cond, Option, Some, None, IsSome, Result, Ok, Err, refl, subst, arith, pos, negsuc}
use Rattle.std.specs.Prelude.{nat_le, int_le}
use Rattle.std.specs.Option.{ok_or}
use Rattle.std.proofs.lemmas.Int.{ints}
use Rattle.std.proofs.lemmas.Bool.Decides.{nat_tests}
use Rattle.requests.specs.declared.reply.RequestRefusal.{RequestRefusal}
use Rattle.tpcc_model.specs.Staging.{◌>>=◌}
use Rattle.tpcc_rows.specs.Limits.{IsBetween, IsCents, between, cents_of, is_between, is_cents}
use Rattle.tpcc_rows.proofs.Singles.{and-left, and-right}

-- a stage that ended well, and what came after it
pub ok-by : {A B P : Type 0} (x : Result A RequestRefusal) (f : A → Result B RequestRefusal) (y : B) → (x >>= f) ≡ Ok y → ((a : A) → x ≡ Ok a → f a ≡ Ok y → P) → P
ok-by (Ok a) f y h k = k a refl h
ok-by (Err e) f y h k = let no : ⊥ = cc in absurd no

pub ok_or-ok : {A : Type 0} (o : Option A) (e : RequestRefusal) (a : A) → ok_or o e ≡ Ok a → o ≡ Some a
ok_or-ok None e a h = cc
ok_or-ok (Some x) e a h = cc

pub is_there : {A : Type 0} (o : Option A) (a : A) → o ≡ Some a → IsSome o
is_there None a h = cc
is_there (Some x) a h = refl

-- a test that let a value pass
pub passed : {A : Type 0} (b : Bool) (x y : A) → cond b (Some x) None ≡ Some y → (b ≡ true) × (x ≡ y)
passed true x y h = (refl, cc)
passed false x y h = let no : ⊥ = cc in absurd no

pub cents-some : (z y : ℤ) → cents_of z ≡ Some y → (z ≡ y) × IsCents y
cents-some z y h =
    let (test, same) = passed (is_cents z) z y h in
    let low = and-left (int_le (negsuc 999999999999999) z) (int_le z (pos 1000000000000000)) test in
    let high = and-right (int_le (negsuc 999999999999999) z) (int_le z (pos 1000000000000000)) test in
    (same, subst IsCents same (let l : negsuc 999999999999999 ≤ℤ z = grind (arith, ints) in l, let h : z ≤ℤ pos 1000000000000000 = grind (arith, ints) in h))

pub between-some : (low high n m : ℕ) → between low high n ≡ Some m → (n ≡ m) × IsBetween low high m
between-some low high n m h =
    let (test, same) = passed (is_between low high n) n m h in
    let above = and-left (nat_le low n) (nat_le n high) test in
    let below = and-right (nat_le low n) (nat_le n high) test in
    (same, subst (IsBetween low high) same (grind (arith, nat_tests), grind (arith, nat_tests)))
