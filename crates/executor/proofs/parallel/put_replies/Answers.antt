use Rattle.std.proofs.Common.{◌≡◌, ◌∙◌, ◌<◌, ◌∷◌, ℕ, List, All, Some, ap, arith, length, subst, sym}
use Rattle.std.proofs.lemmas.List.{length-set}
use Rattle.std.proofs.lemmas.List.Elements.{All-rest}
use Rattle.workers.specs.declared.job.Done.{Done}
use Rattle.executor.specs.Slots.{with_each}
use Rattle.executor.proofs.Slots.{kept_more}
use Rattle.executor.proofs.parallel.put_replies.Goals as goal

pub put-requires : goal.put-requires
put-requires c = subst (λ (ds : List Done). All (λ done. done.place < length c.loop-outcome.replies) ds) c.in-Some.ensures.steps.0 c.loop-outcome.invariant.within 0 c.in-Some.outcome (omega arith)

pub loop-outcome-preserved : goal.loop-outcome-preserved
loop-outcome-preserved c =
    let one = c.in-Some.outcome in
    let slots = c.loop-outcome.replies in
    let before = c.loop-outcome.outcome-iterator.rest.items in
    let left = c.next.new.self.rest.items in
    let are : before ≡ one ∷ left = c.in-Some.ensures.steps.0 in
    let many : length c.put.new.self ≡ length slots = ap length c.put.ensures ∙ length-set slots one.place (Some one.reply) in
    record {
      within = subst (λ (n : ℕ). All (λ done. done.place < n) left) (sym many) (All-rest (λ (done : Done). done.place < length slots) one left before are c.loop-outcome.invariant.within);
      replies = ap (with_each left) c.put.ensures ∙ ap (λ (ds : List Done). with_each ds slots) (sym are) ∙ c.loop-outcome.invariant.replies;
      changes = kept_more (λ (done : Done). done.changes) c.loop-outcome.deltas.items c.push.new.self.items _ before left one c.in_ok-push.ensures.items are c.loop-outcome.invariant.changes;
    }
