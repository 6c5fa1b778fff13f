-- Touches within a view.
use Rattle.std.proofs.Common.{◌≡◌, ◌&&◌, Bool, true, false, List, [], ◌∷◌, ◌++◌, map, inl, inr, refl, sym, ap, ap₂, ◌∙◌}
use Rattle.std.proofs.lemmas.Bool.{and_parts}
use Rattle.std.specs.List.{list_all}
use Rattle.serializability.specs.Footprints.{Footprint, Has, joined, joined_all, writing}
use Rattle.tpcc_rows.specs.declared.granule.Granule.{Granule}
use Rattle.worker_rows.specs.Views.{View, covers, may_read, may_write}

all-append : {X : Type 0} (p : X → Bool) (xs ys : List X) → list_all p (xs ++ ys) ≡ (list_all p xs && list_all p ys)
all-append p [] ys = refl
all-append p (x ∷ xs) ys = ap (λ b. p x && b) (all-append p xs ys) ∙ and-assoc (p x) (list_all p xs) (list_all p ys)
  where
    and-assoc : (a b c : Bool) → (a && (b && c)) ≡ ((a && b) && c)
    and-assoc true b c = refl
    and-assoc false b c = refl

crossed : (a b c d : Bool) → ((a && b) && (c && d)) ≡ ((a && c) && (b && d))
crossed true true c d = refl
crossed true false true d = refl
crossed true false false d = refl
crossed false b c d = refl

pub covers-joined : (view : View) (e f : Footprint Granule) → covers view (joined e f) ≡ (covers view e && covers view f)
covers-joined view e f =
    ap₂ (λ a b. a && b) (all-append (may_read view) e.reads f.reads) (all-append (may_write view) e.writes f.writes)
    ∙ crossed (list_all (may_read view) e.reads) (list_all (may_read view) f.reads) (list_all (may_write view) e.writes) (list_all (may_write view) f.writes)

pub covers-joined_all : (view : View) (fs : List (Footprint Granule)) → covers view (joined_all fs) ≡ list_all (covers view) fs
covers-joined_all view [] = refl
covers-joined_all view (f ∷ fs) = covers-joined view f (joined_all fs) ∙ ap (λ b. covers view f && b) (covers-joined_all view fs)

pub covers-map : {X : Type 0} (view : View) (touched : X → Footprint Granule) (xs : List X) → covers view (joined_all (map touched xs)) ≡ list_all (λ x. covers view (touched x)) xs
covers-map view touched [] = refl
covers-map view touched (x ∷ xs) = covers-joined view (touched x) (joined_all (map touched xs)) ∙ ap (λ b. covers view (touched x) && b) (covers-map view touched xs)

-- what may be written is covered
written : (read write : Bool) → (write ≡ true → read ≡ true) → write ≡ ((read && true) && (write && true))
written true true h = refl
written true false h = refl
written false true h = sym (h refl)
written false false h = refl

pub covers_writing : (view : View) (g : Granule) (may : Bool) → may ≡ may_write view g → (may ≡ true → may_read view g ≡ true) → may ≡ covers view (writing g)
covers_writing view g may is read = is ∙ written (may_read view g) (may_write view g) (λ e. read (is ∙ e))

-- each granule that is read may be
read_each : (p : Granule → Bool) (gs : List Granule) → list_all p gs ≡ true → (g : Granule) → Has gs g → p g ≡ true
read_each p [] all g has = absurd has
read_each p (h ∷ gs) all g (inl e) = ap p (sym e) ∙ (and_parts _ _ all).0
read_each p (h ∷ gs) all g (inr has) = read_each p gs (and_parts _ _ all).1 g has

pub covered_reads : (view : View) (touch : Footprint Granule) → covers view touch ≡ true → (g : Granule) → Has touch.reads g → may_read view g ≡ true
covered_reads view touch within g has = read_each (may_read view) touch.reads (and_parts _ _ within).0 g has
