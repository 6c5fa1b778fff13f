-- What is told place by place is told of the whole batch.
use Rattle.std.proofs.Common.{◌≡◌, ℕ, zero, suc, List, [], ◌∷◌, length, ◌<◌, map, reverse, take, Option, None, Some, IfSome, slice_get, refl, sym, ap, ◌∙◌, subst, ◌++◌, arith}
use Rattle.std.proofs.lemmas.Option.{slice_get-map}
use Rattle.std.proofs.Math.Seq.{take-append_seam}
use Rattle.std.proofs.lemmas.List.{append-nil, append_assoc, length-map, reverse-append}
use Rattle.serializability.specs.Footprints.{Footprint}
use Rattle.requests.specs.declared.request.Request.{Request}
use Rattle.tpcc_model.specs.Database.{Database}
use Rattle.tpcc_model.specs.Soundness.{IsSound}
use Rattle.tpcc_rows.specs.declared.granule.Granule.{Granule}
use Rattle.profiles.specs.Declarations.{declared, declared_after, each_after}
use Rattle.profiles.specs.Places.{AreDeclared}

pub some-of : {A : Type 0} {x y : A} → Some x ≡ Some y → x ≡ y
some-of h = cc

-- ---- lists made of each element and those before it
pub length-each_after : {A B : Type 0} (f : List A → A → B) (earlier xs : List A) → length (each_after f earlier xs) ≡ length xs
length-each_after f earlier [] = refl
length-each_after f earlier (x ∷ xs) = ap suc (length-each_after f (x ∷ earlier) xs)

reverse-more : {A : Type 0} (x : A) (xs earlier : List A) → reverse (x ∷ xs) ++ earlier ≡ reverse xs ++ (x ∷ earlier)
reverse-more {A = A} x xs earlier = ap (λ (ys : List A). ys ++ earlier) (reverse-append (x ∷ []) xs) ∙ append_assoc (reverse xs) (x ∷ []) earlier

each_after-at : {A B : Type 0} (f : List A → A → B) (earlier xs : List A) (n : ℕ) (x : A) → slice_get xs n ≡ Some x → slice_get (each_after f earlier xs) n ≡ Some (f (reverse (take n xs) ++ earlier) x)
each_after-at f earlier [] n x h = cc
each_after-at f earlier (y ∷ ys) zero x h = ap (λ z. Some (f earlier z)) (some-of h)
each_after-at {A = A} f earlier (y ∷ ys) (suc n) x h = each_after-at f (y ∷ earlier) ys n x h ∙ ap (λ (e : List A). Some (f e x)) (sym (reverse-more y (take n ys) earlier))

-- as each element has it that stands in the list from the start
pub each-at : {A B : Type 0} (f : List A → A → B) (xs : List A) (n : ℕ) (x : A) → slice_get xs n ≡ Some x → slice_get (each_after f [] xs) n ≡ Some (f (reverse (take n xs)) x)
each-at {A = A} f xs n x h = each_after-at f [] xs n x h ∙ ap (λ (e : List A). Some (f e x)) (append-nil (reverse (take n xs)))

-- two lists alike at each place
pub alike : {A : Type 0} (xs ys : List A) → length xs ≡ length ys → ((n : ℕ) (x y : A) → slice_get xs n ≡ Some x → slice_get ys n ≡ Some y → x ≡ y) → xs ≡ ys
alike [] [] e h = refl
alike [] (y ∷ ys) e h = absurd (omega (arith, e))
alike (x ∷ xs) [] e h = absurd (omega (arith, e))
alike (x ∷ xs) (y ∷ ys) e h = rw (h 0 x y refl refl) (ap (λ zs. y ∷ zs) (alike xs ys (omega (arith, e)) (λ n a b p q. h (suc n) a b p q)))

pub IfSome-weaker : {A : Type 0} (o : Option A) (P Q : A → Type 0) → ((x : A) → P x → Q x) → IfSome o P → IfSome o Q
IfSome-weaker None P Q f h = h
IfSome-weaker (Some x) P Q f h = f x h

pub length-declared : (db : Database) (requests : List Request) → length (declared db requests) ≡ length requests
length-declared db requests = length-each_after (declared_after db) [] requests

pub some_at : {A : Type 0} (xs : List A) (n : ℕ) → n < length xs → (x : A) × (slice_get xs n ≡ Some x)
some_at [] n below = absurd (omega (arith, below))
some_at (x ∷ xs) zero below = (x, refl)
some_at (x ∷ xs) (suc n) below = some_at xs n (omega (arith, below))

pub all_declared : (db : Database) (requests : List Request) (told : List (Option (Footprint Granule))) (footprints : List (Footprint Granule))
    → IsSound db → AreDeclared db requests told → map Some footprints ≡ told → footprints ≡ declared db requests
all_declared db requests told footprints sound d e =
    let many : length footprints ≡ length requests = (let l : length (map Some footprints) ≡ length requests = rw e d.0 in sym (length-map footprints Some) ∙ l) in
    alike footprints (declared db requests) (many ∙ sym (length-declared db requests)) λ n x y at_x at_y.
    let there : slice_get told n ≡ Some (Some x) = rw (sym e) (rw (slice_get-map Some footprints n) (rw at_x refl)) in
    some-of (sym (d.1 n (Some x) there sound) ∙ at_y)

-- a list whose places are all written
pub all_written : {X : Type 0} (n : ℕ) (xs ys : List X) → length xs ≡ n → take n (xs ++ ys) ≡ xs
all_written n xs ys e = subst (λ m. take m (xs ++ ys) ≡ xs) e (take-append_seam xs ys)
