use Rattle.std.proofs.Common.{◌≡◌, IfOk, subst, ◌∙◌}
use Rattle.serializability.specs.Levels.{cut}
use Rattle.mixer.proofs.cut.mix.Goals as goal

-- src/cut.rt:59:1
pub returns : goal.returns
returns c =
    let found = c.deref.ensures.value ∙ c.in_ok-levels.ensures.levels in
    subst (λ all. IfOk c.cut_of.result (λ made. made ≡ cut all)) found c.cut_of.ensures
