use Rattle.std.proofs.Common.{◌≡◌, ◌∙◌, ◌+◌, ap, ap₂, arith, max, sym, unwrap_or}
use Rattle.std.specs.List.{filter_map}
use Rattle.tpcc_rows.specs.LeafPicks.{greatest_below}
use Rattle.tpcc_rows.specs.Leaves.{page_rows}
use Rattle.tpcc_rows.specs.Picks.{greatest, picked}
use Rattle.tpcc_rows.proofs.LeafPicks.{greatest_below-more, greatest_below-zero, greatest-leaves}
use Rattle.tpcc_model.specs.Serial.{history_pick, next_number}
use Rattle.executor.proofs.Numbers.{or_zero-larger}
use Rattle.executor.proofs.opening.next_number.Goals as goal

pub loop-leaf-init : goal.loop-leaf-init
loop-leaf-init c = (omega arith, ap (λ o. unwrap_or o 0) (sym (greatest_below-zero history_pick c.args.store.now.rows)))

pub loop-leaf-preserved : goal.loop-leaf-preserved
unfolding picked
loop-leaf-preserved c =
    let rows = c.args.store.now.rows in
    let greater = c.max-last.ensures in
    let (small, so_far) = c.loop-leaf.invariant in
    let page = c.last_on_page.ensures.range in (
      omega (arith, greater, small, page),
      greater ∙ ap₂ max so_far (c.last_on_page.ensures.value ∙ ap (λ es. unwrap_or (greatest (filter_map (λ e. history_pick e.0 e.1) es)) 0) c.page.ensures)
          ∙ sym (or_zero-larger (greatest_below history_pick rows c.loop-leaf.leaf) (greatest (picked history_pick (page_rows rows c.loop-leaf.leaf)))) ∙ ap (λ o. unwrap_or o 0) (sym (greatest_below-more history_pick rows c.loop-leaf.leaf)),
    )

pub returns-clause-value : goal.returns-clause-value
unfolding next_number
returns-clause-value c =
    let rows = c.args.store.now.rows in
    let low = c.loop-leaf-test.false in
    let high = c.loop-leaf.auto.leaf-end in
    let all : c.loop-leaf.leaf ≡ 65536 = omega (arith, low, high) in
    ap (λ n. n + 1) (c.loop-leaf.invariant.1 ∙ ap (λ n. unwrap_or (greatest_below history_pick rows n) 0) all ∙ ap (λ o. unwrap_or o 0) (greatest-leaves history_pick rows))
