use Rattle.std.proofs.Common.{rules, subst}
use Rattle.made_database.proofs.MadeSound.{made-sound}
use Rattle.made_database.proofs.making.make.Goals as goal
use Rattle.tpcc_model.specs.Soundness.{IsSound}

pub returns-clause-sound : goal.returns-clause-sound
returns-clause-sound c =
    subst IsSound (search rules) (made-sound c.args.warehouses c.args.customers c.args.items c.requires.warehouses.1 c.requires.customers.1 c.requires.items.1)
