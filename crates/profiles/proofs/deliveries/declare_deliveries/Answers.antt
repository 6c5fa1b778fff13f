use Rattle.std.proofs.Common.{rules, ◌≡◌, is_some, map}
use Rattle.tpcc_model.specs.Database.{Database, database}
use Rattle.profiles.specs.Places.{AreDeclared}
use Rattle.profiles.specs.Told.{is_delivery}
use Rattle.profiles.proofs.Told.{told_is}
use Rattle.profiles.proofs.deliveries.declare_deliveries.Goals as goal

pub returns-clause-told : goal.returns-clause-told
returns-clause-told g c = λ sound.
    let db : Database = database c.args.catalog.now c.args.store.now.rows in
    let requests = c.args.requests.now in
    let told = c.in_ok-told.told.items in
    let are : AreDeclared db requests told = search rules in
    let marked : map is_some told ≡ map is_delivery requests = search rules in
    told_is db requests told sound are marked
