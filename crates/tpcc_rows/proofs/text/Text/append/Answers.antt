use Rattle.std.proofs.Common.{◌++◌, ◌∙◌, ap, length, sym}
use Rattle.tpcc_rows.specs.Texts.{clip}
use Rattle.tpcc_rows.proofs.Padding.{appended}
use Rattle.tpcc_rows.proofs.text.Text.append.Goals as goal

pub invariant_of-self : goal.invariant_of-self
invariant_of-self g c =
    (appended g.row.N c.self.inside.bytes c.args.bytes.now c.write.new.into c.first.result.now c.args.len c.self.invariant
    (c.requires.len ∙ ap length (sym c.self.view_is)) c.requires.fits c.requires.printable c.first.ensures c.write.ensures).still

pub returns : goal.returns
returns g c =
    (appended g.row.N c.self.inside.bytes c.args.bytes.now c.write.new.into c.first.result.now c.args.len c.self.invariant
    (c.requires.len ∙ ap length (sym c.self.view_is)) c.requires.fits c.requires.printable c.first.ensures c.write.ensures).value
    ∙ ap (λ text. clip g.row.N (text ++ c.args.bytes.now)) c.self.view_is
