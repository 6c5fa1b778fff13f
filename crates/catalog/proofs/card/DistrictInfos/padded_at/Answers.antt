use Rattle.std.proofs.Common.{◌≡◌, ◌/◌, ◌∙◌, ap, arith, subst, sym}
use Rattle.catalog.specs.Infos.{AreTexts, texts_of, width_of}
use Rattle.catalog.proofs.Packing.{placed}
use Rattle.catalog.proofs.card.DistrictInfos.padded_at.Goals as goal

pub returns-clause-value : goal.returns-clause-value
returns-clause-value c =
    let bytes = c.deref.result.now in
    let are = subst AreTexts (sym c.deref.ensures.value) c.self.invariant in
    let value = ap texts_of c.deref.ensures.value ∙ c.self.view_is in
    let width : c.len-width.result / 10 ≡ width_of bytes = omega (arith, c.len-width.ensures, c.deref.ensures.len) in
    (placed bytes c.args.self.now c.args.place (c.len-width.result / 10) are value width c.requires).value

pub returns-clause-padded : goal.returns-clause-padded
returns-clause-padded c =
    let bytes = c.deref.result.now in
    let are = subst AreTexts (sym c.deref.ensures.value) c.self.invariant in
    let value = ap texts_of c.deref.ensures.value ∙ c.self.view_is in
    let width : c.len-width.result / 10 ≡ width_of bytes = omega (arith, c.len-width.ensures, c.deref.ensures.len) in
    (placed bytes c.args.self.now c.args.place (c.len-width.result / 10) are value width c.requires).padded
