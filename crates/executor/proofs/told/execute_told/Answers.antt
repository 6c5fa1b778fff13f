use Rattle.std.proofs.Common.{◌≡◌, ◌∙◌, Bool, IfOk, subst, sym}
use Rattle.signatures_simd.specs.Bits.{bit}
use Rattle.executor.specs.InOrder.{told_strays_in_turn}
use Rattle.executor.specs.LevelRuns.{strays}
use Rattle.executor.specs.Chains.{state_of}
use Rattle.executor.specs.Told.{told_by}
use Rattle.executor.proofs.told.execute_told.Goals as goal

-- what strays in its order strays in its levels
pub returns-clause-strayed : goal.returns-clause-strayed
returns-clause-strayed g c =
    let cards = c.args.catalog.now in
    let state = state_of c.args.store.now.rows c.args.next.now.stamp in
    let batch = c.args.next.now.batch.now in
    let same : told_strays_in_turn cards batch.moment state.rows state.next batch.requests (told_by c.args.told) ≡ strays cards state batch =
    c.requires.tells ∙ sym (c.strays_in_turn.ensures bit cards state batch c.requires.sound.database c.keep_within.ensures) in
    subst (λ (b : Bool). IfOk c.execute_in_order.result (λ pass. pass.strayed ≡ b)) same c.execute_in_order.ensures.strayed
