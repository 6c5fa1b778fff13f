-- What is told of the deliveries of a batch.
use Rattle.std.proofs.Common.{◌≡◌, ◌<◌, ◌∙◌, Bool, ℕ, zero, suc, true, false, if◌then◌else◌, List, [], ◌∷◌, length, map, option_map, Option, None, Some, is_some, slice_get, refl, sym, ap, ap₂, subst, arith}
use Rattle.std.proofs.lemmas.Option.{slice_get-map, slice_get_within}
use Rattle.requests.specs.declared.request.Request.{Request}
use Rattle.serializability.specs.Footprints.{Footprint}
use Rattle.tpcc_model.specs.Database.{Database}
use Rattle.tpcc_model.specs.Soundness.{IsSound}
use Rattle.tpcc_rows.specs.declared.granule.Granule.{Granule}
use Rattle.profiles.specs.Declarations.{declared}
use Rattle.profiles.specs.Places.{AreDeclared}
use Rattle.profiles.specs.Told.{is_delivery, told_of, told_of_deliveries}
use Rattle.profiles.proofs.Declarations.{alike, length-declared, some-of, some_at}

length-told : (requests : List Request) (footprints : List (Footprint Granule)) → length footprints ≡ length requests → length (told_of_deliveries requests footprints) ≡ length requests
length-told [] footprints same = refl
length-told (q ∷ requests) [] same = absurd (omega (arith, same))
length-told (q ∷ requests) (f ∷ footprints) same = ap suc (length-told requests footprints (omega (arith, same)))

told-at : (requests : List Request) (footprints : List (Footprint Granule)) (n : ℕ) (q : Request) (f : Footprint Granule) → slice_get requests n ≡ Some q → slice_get footprints n ≡ Some f
    → slice_get (told_of_deliveries requests footprints) n ≡ Some (told_of q f)
told-at [] footprints n q f at_q at_f = cc
told-at (r ∷ requests) [] n q f at_q at_f = cc
told-at (r ∷ requests) (g ∷ footprints) zero q f at_q at_f = ap₂ (λ (r : Request) (g : Footprint Granule). Some (told_of r g)) (some-of at_q) (some-of at_f)
told-at (r ∷ requests) (g ∷ footprints) (suc n) q f at_q at_f = told-at requests footprints n q f at_q at_f

-- a place that is told as it should be, and tells what is declared
right_place : (q : Request) (f : Footprint Granule) (place : Option (Footprint Granule)) → is_some place ≡ is_delivery q → ((g : Footprint Granule) → place ≡ Some g → g ≡ f) → place ≡ told_of q f
right_place q f None marked is = by (is_delivery q) marked
  where
    by : (b : Bool) → false ≡ b → None ≡ (if b then Some f else None)
    by false h = refl
    by true h = cc
right_place q f (Some g) marked is = by (is_delivery q) marked
  where
    by : (b : Bool) → true ≡ b → Some g ≡ (if b then Some f else None)
    by true h = ap Some (is g refl)
    by false h = cc

module _ (db : Database) (requests : List Request) (told : List (Option (Footprint Granule))) (sound : IsSound db) (are : AreDeclared db requests told) (marked : map is_some told ≡ map is_delivery requests) where
  marked_at : (n : ℕ) (q : Request) (place : Option (Footprint Granule)) → slice_get requests n ≡ Some q → slice_get told n ≡ Some place → is_some place ≡ is_delivery q
  marked_at n q place at_q at_told =
      some-of (sym (slice_get-map is_some told n ∙ ap (λ (o : Option (Option (Footprint Granule))). option_map is_some o) at_told)
      ∙ ap (λ (bs : List Bool). slice_get bs n) marked
      ∙ slice_get-map is_delivery requests n ∙ ap (λ (o : Option Request). option_map is_delivery o) at_q)

  pub told_is : told ≡ told_of_deliveries requests (declared db requests)
  told_is =
      let many = length-told requests (declared db requests) (length-declared db requests) in
      alike told (told_of_deliveries requests (declared db requests)) (are.0 ∙ sym many) λ n x y at_x at_y.
      let q = some_at requests n (subst (λ m. n < m) are.0 (slice_get_within _ n x at_x)) in
      let f = some_at (declared db requests) n (subst (λ m. n < m) (are.0 ∙ sym (length-declared db requests)) (slice_get_within _ n x at_x)) in
      right_place q.0 f.0 x (marked_at n q.0 x q.1 at_x)
      (λ g is. some-of (sym (are.1 n (Some g) (at_x ∙ ap Some is) sound) ∙ f.1))
      ∙ some-of (sym (told-at requests (declared db requests) n q.0 f.0 q.1 f.1) ∙ at_y)
