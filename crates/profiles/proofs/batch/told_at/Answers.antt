use Rattle.std.proofs.Common.{◌≡◌, IfSome, Option, Some, slice_get, subst, sym, ap, ◌∙◌}
use Rattle.std.proofs.lemmas.Result.{IfOk-weaker}
use Rattle.serializability.specs.Footprints.{Footprint}
use Rattle.tpcc_model.specs.Database.{Database, database}
use Rattle.tpcc_rows.specs.declared.granule.Granule.{Granule}
use Rattle.profiles.specs.Declarations.{declared, declared_after}
use Rattle.profiles.proofs.Declarations.{each-at}
use Rattle.profiles.proofs.batch.told_at.Goals as goal

pub returns : goal.returns
returns c =
    let db : Database = database c.args.catalog.now c.args.store.now.rows in
    let requests = c.args.batch.now.requests.now in
    let place = c.args.place in
    let request = c.request-request.result.now in
    IfOk-weaker c.of.result _ _ (λ told is sound.
    subst (λ (told : Option (Footprint Granule)). IfSome told (λ footprint. slice_get (declared db requests) place ≡ Some footprint)) (sym is)
    (each-at (declared_after db) requests place request c.request-request.ensures ∙ ap Some (sym (c.in_ok-footprint.ensures sound)))) c.of.ensures
