use Rattle.std.proofs.Common.{◌∙◌}
use Rattle.tpcc_rows.proofs.Padding.{widened}
use Rattle.tpcc_rows.proofs.text.Text.widened.Goals as goal

pub invariant_of-result : goal.invariant_of-result
invariant_of-result g c = (widened g.row.N g.row.M c.self.inside.bytes c.write.new.into c.self.invariant c.requires c.write.ensures).still

pub returns : goal.returns
returns g c = (widened g.row.N g.row.M c.self.inside.bytes c.write.new.into c.self.invariant c.requires c.write.ensures).value ∙ c.self.view_is
