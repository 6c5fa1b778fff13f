use Rattle.std.proofs.Common.{◌≡◌, ◌<◌, ◌+◌, ℕ, None, drop, get_or, length}
use Rattle.std.specs.List.{list_all}
use Rattle.tpcc_rows.specs.Limits.{ten}
use Rattle.tpcc_rows.specs.Picks.{oldest}
use Rattle.tpcc_model.specs.Touches.{district_touch}
use Rattle.worker_rows.specs.Views.{covers}
use Rattle.transactions.specs.Lending.{lent}
use Rattle.transactions.proofs.delivery.oldest_orders.Given as goal

-- the districts so far have their oldest new orders, and those that are left decide
abbrev pub invariant-loop-index : goal.invariant-loop-index
invariant-loop-index g l =
    (length l.orders ≡ 10) × ((k : ℕ) → k < l.index → get_or l.orders k None ≡ oldest (lent (g.V.RowView.sees l.view)) l.p.warehouse (k + 1))
    × (list_all (λ d. covers (g.V.RowView.sees l.view) (district_touch (lent (g.V.RowView.sees l.view)) l.p d)) (drop l.index ten)
    ≡ list_all (λ d. covers (g.V.RowView.sees l.view) (district_touch (lent (g.V.RowView.sees l.view)) l.p d)) ten)
