use Rattle.std.proofs.Common.{rules, ◌≡◌, ◌≢◌, ◌∙◌, ap, refl, sym}
use Rattle.std.proofs.lemmas.Bool.{false≢true}
use Rattle.executor.specs.Chains.{Chain}
use Rattle.executor.proofs.Returns.{has-none, has-point, returned-to}
use Rattle.executor.proofs.executor.Executor.rollback_to.Goals as goal

pub returns-in_default-clause-none : goal.returns-in_default-clause-none
returns-in_default-clause-none c =
    let other : c.args.self.now.present.sequence ≢ c.args.sequence =
    λ same. let there : c.args.sequence ≡ c.self.inside.present.sequence = sym same ∙ sym (ap (λ (l : Chain). l.present.sequence) c.self.view_is) in search (rules, there) in
    (λ refused. has-none c.args.self.now c.args.sequence other (sym c.point_of.ensures ∙ c.in_default.is), λ none. refl)

pub returns-clause-chain : goal.returns-clause-chain
returns-clause-chain c =
    returned-to c.args.self.now c.go_back.new.self c.args.sequence c.in-Some.point c.go_back.ensures.cards c.go_back.ensures.earlier c.go_back.ensures.present (sym c.point_of.ensures ∙ c.in-Some.is)

pub returns-clause-none : goal.returns-clause-none
returns-clause-none c = (
  λ refused. absurd (false≢true refused),
  λ none. absurd (has-point c.args.self.now c.args.sequence c.in-Some.point (sym c.point_of.ensures ∙ c.in-Some.is) none),
)
