-- Without bounds each touch is within the view.
use Rattle.std.proofs.Common.{◌≡◌, ◌&&◌, true, List, [], ◌∷◌, None, refl, ap₂}
use Rattle.std.specs.List.{list_all}
use Rattle.serializability.specs.Footprints.{Footprint}
use Rattle.tpcc_rows.specs.RowMap.{Rows}
use Rattle.tpcc_rows.specs.declared.granule.Granule.{Granule}
use Rattle.worker_rows.specs.Views.{View, covers}

all_pass : (gs : List Granule) → list_all (λ g. true) gs ≡ true
all_pass [] = refl
all_pass (g ∷ gs) = all_pass gs

pub covers_whole : (rows : Rows) (touch : Footprint Granule) → (let view : View = record { rows = rows; bounds = None } in covers view touch ≡ true)
covers_whole rows touch = ap₂ (λ a b. a && b) (all_pass touch.reads) (all_pass touch.writes)
