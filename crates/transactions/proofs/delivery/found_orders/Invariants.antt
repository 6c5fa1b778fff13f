use Rattle.std.proofs.Common.{◌≡◌, Ok, take}
use Rattle.tpcc_model.specs.Staging.{for_each}
use Rattle.tpcc_rows.specs.Limits.{ten}
use Rattle.transactions.specs.DeliveryParts.{found_district, orders_of}
use Rattle.transactions.specs.Lending.{lent}
use Rattle.transactions.proofs.delivery.found_orders.Given as goal

-- the districts so far are found
abbrev pub invariant-loop-index : goal.invariant-loop-index
invariant-loop-index g l = for_each (found_district (lent (g.V.RowView.sees l.view)) l.p l.moment) (take l.index ten) ≡ Ok (orders_of l.found.items)
