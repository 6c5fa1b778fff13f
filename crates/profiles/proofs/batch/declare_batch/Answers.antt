use Rattle.std.proofs.Common.{rules, ◌∙◌, List, length, Option, Some, sym, ap}
use Rattle.std.proofs.lemmas.List.{length-map}
use Rattle.std.proofs.lemmas.Result.{IfOk-weaker}
use Rattle.serializability.specs.Footprints.{Footprint}
use Rattle.tpcc_model.specs.Database.{Database, database}
use Rattle.tpcc_rows.specs.declared.granule.Granule.{Granule}
use Rattle.profiles.specs.Places.{AreDeclared}
use Rattle.profiles.proofs.Declarations.{all_declared}
use Rattle.profiles.proofs.batch.declare_batch.Goals as goal

pub returns-clause-declared : goal.returns-clause-declared
returns-clause-declared g c = λ sound.
    let db : Database = database c.args.catalog.now c.args.store.now.rows in
    let requests = c.args.requests.now in
    let told = c.in_ok-told.told.items in
    let declared : AreDeclared db requests told = search rules in
    IfOk-weaker c.taken.result _ _ (λ footprints taken. all_declared db requests told footprints.items sound declared taken) c.taken.ensures

pub returns-clause-each : goal.returns-clause-each
returns-clause-each g c =
    let db : Database = database c.args.catalog.now c.args.store.now.rows in
    let requests = c.args.requests.now in
    let told = c.in_ok-told.told.items in
    let declared : AreDeclared db requests told = search rules in
    IfOk-weaker c.taken.result _ _ (λ footprints taken.
    sym (length-map footprints.items Some) ∙ ap (λ (all : List (Option (Footprint Granule))). length all) taken ∙ declared.0) c.taken.ensures
