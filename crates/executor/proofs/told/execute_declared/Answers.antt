use Rattle.std.proofs.Common.{◌∙◌, List, Some, ap, length}
use Rattle.std.proofs.lemmas.List.{length-map}
use Rattle.serializability.specs.Footprints.{Footprint}
use Rattle.serializability.specs.InTurn.{strays_in_turn}
use Rattle.serializability.specs.Levels.{jobs}
use Rattle.tpcc_model.specs.Machine.{tpcc}
use Rattle.tpcc_rows.specs.declared.granule.Granule.{Granule}
use Rattle.executor.proofs.InTurn.{all_told}
use Rattle.executor.proofs.told.execute_declared.Goals as goal

pub execute_told-requires-clause-each : goal.execute_told-requires-clause-each
execute_told-requires-clause-each g c κs lives = length-map c.args.footprints.now Some ∙ c.requires.each

pub execute_told-requires-clause-tells : goal.execute_told-requires-clause-tells
execute_told-requires-clause-tells g c κs lives =
    let cards = c.args.catalog.now in
    let rows = c.args.store.now.rows in
    let batch = c.args.next.now.batch.now in
    let first = c.args.next.now.stamp.next in
    all_told cards batch.moment rows first batch.requests c.args.footprints.now
    ∙ ap (λ (fs : List (Footprint Granule)). strays_in_turn (tpcc cards batch.moment) rows (jobs first batch.requests fs)) c.requires.declared
