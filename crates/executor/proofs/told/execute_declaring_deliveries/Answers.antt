use Rattle.std.proofs.Common.{◌≡◌, ◌∙◌, List, Option, ap, length, sym}
use Rattle.serializability.specs.Footprints.{Footprint}
use Rattle.requests.specs.declared.request.Request.{Request}
use Rattle.tpcc_model.specs.Database.{database}
use Rattle.tpcc_rows.specs.declared.granule.Granule.{Granule}
use Rattle.profiles.specs.Declarations.{declared}
use Rattle.profiles.specs.Told.{told_of_deliveries}
use Rattle.executor.specs.InOrder.{told_strays_in_turn}
use Rattle.executor.proofs.InTurn.{deliveries_told}
use Rattle.executor.proofs.told.execute_declaring_deliveries.Goals as goal

pub execute_told-requires-clause-each : goal.execute_told-requires-clause-each
execute_told-requires-clause-each g c κs lives =
    ap (λ (told : List (Option (Footprint Granule))). length told) c.as_slice.ensures.value
    ∙ c.in_ok-told.ensures.each
    ∙ ap (λ (qs : List Request). length qs) c.as_slice-requests.ensures

-- only deliveries stray, and they tell
pub execute_told-requires-clause-tells : goal.execute_told-requires-clause-tells
execute_told-requires-clause-tells g c κs lives =
    let cards = c.args.catalog.now in
    let rows = c.args.store.now.rows in
    let batch = c.args.next.now.batch.now in
    let first = c.args.next.now.stamp.next in
    let db = database cards rows in
    let told : c.in_ok-told.told.items ≡ told_of_deliveries batch.requests (declared db batch.requests) =
    c.in_ok-told.ensures.told c.requires.sound.database ∙ ap (λ (qs : List Request). told_of_deliveries qs (declared db qs)) c.as_slice-requests.ensures in
    ap (told_strays_in_turn cards batch.moment rows first batch.requests) (c.as_slice.ensures.value ∙ told)
    ∙ deliveries_told cards batch.moment rows first batch.requests (declared db batch.requests)
    ∙ sym (c.only_deliveries_stray.ensures cards rows batch.moment first batch.requests c.requires.sound.database)
