-- What is told of the requests of a batch that is executed in order.
use Rattle.std.proofs.Common.{◌≡◌, ◌||◌, ◌&&◌, ◌+◌, ℕ, Bool, true, false, if◌then◌else◌, List, [], ◌∷◌, None, Some, Result, Ok, Err, OnOk, map, refl, ap, ap₂, sym}
use Rattle.catalog.specs.CardMap.{Cards}
use Rattle.serializability.specs.Folds.{after}
use Rattle.serializability.specs.Footprints.{Footprint}
use Rattle.serializability.specs.InTurn.{strays_in_turn}
use Rattle.serializability.specs.Levels.{job_strays, jobs}
use Rattle.requests.specs.declared.request.Request.{Request}
use Rattle.tpcc_model.specs.Machine.{tpcc}
use Rattle.tpcc_model.specs.Steps.{steps_at}
use Rattle.tpcc_rows.specs.RowMap.{Rows}
use Rattle.tpcc_rows.specs.declared.granule.Granule.{Granule}
use Rattle.profiles.specs.Told.{is_delivery, told_of, told_of_deliveries}
use Rattle.profile_laws.specs.Straying.{deliveries_stray_in_turn}
use Rattle.executor.specs.InOrder.{place_strays, told_strays_in_turn}

pub stays_so : (strayed here : Bool) → here ≡ false → strayed ≡ (strayed || here)
stays_so true here stays = refl
stays_so false here stays = sym stays

pub on_ok : {T E : Type 0} (r : Result T E) (P : Type 0) → P → OnOk r P
on_ok (Ok x) P holds = holds
on_ok (Err e) P holds = tt

-- where all is told
pub all_told : (cards : Cards) (moment : ℕ) (rows : Rows) (n : ℕ) (requests : List Request) (footprints : List (Footprint Granule))
    → told_strays_in_turn cards moment rows n requests (map Some footprints) ≡ strays_in_turn (tpcc cards moment) rows (jobs n requests footprints)
all_told cards moment rows n [] footprints = refl
all_told cards moment rows n (q ∷ requests) [] = refl
all_told cards moment rows n (q ∷ requests) (f ∷ footprints) =
    ap (λ (later : Bool). place_strays cards moment rows n q (Some f) || later) (all_told cards moment (after (steps_at cards moment) rows n q) (n + 1) requests footprints)

-- where the deliveries tell
told_place : (cards : Cards) (moment : ℕ) (rows : Rows) (n : ℕ) (q : Request) (f : Footprint Granule)
    → place_strays cards moment rows n q (told_of q f) ≡ (is_delivery q && job_strays (tpcc cards moment) rows (record { number = n; request = q; declared = f }))
told_place cards moment rows n q f = by (is_delivery q)
  where
    by : (b : Bool) → place_strays cards moment rows n q (if b then Some f else None) ≡ (b && job_strays (tpcc cards moment) rows (record { number = n; request = q; declared = f }))
    by true = refl
    by false = refl

pub deliveries_told : (cards : Cards) (moment : ℕ) (rows : Rows) (n : ℕ) (requests : List Request) (footprints : List (Footprint Granule))
    → told_strays_in_turn cards moment rows n requests (told_of_deliveries requests footprints) ≡ deliveries_stray_in_turn cards moment rows (jobs n requests footprints)
deliveries_told cards moment rows n [] footprints = refl
deliveries_told cards moment rows n (q ∷ requests) [] = refl
deliveries_told cards moment rows n (q ∷ requests) (f ∷ footprints) =
    ap₂ (λ (here later : Bool). here || later) (told_place cards moment rows n q f) (deliveries_told cards moment (after (steps_at cards moment) rows n q) (n + 1) requests footprints)
