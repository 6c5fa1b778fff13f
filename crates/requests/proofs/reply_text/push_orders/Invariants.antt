use Rattle.std.proofs.Common.{map, take}
use Rattle.records.specs.Spelling.{AddsFields, number_or_dash}
use Rattle.requests.proofs.reply_text.push_orders.Given as goal

abbrev pub invariant-loop-order : goal.invariant-loop-order
invariant-loop-order l = AddsFields l.initial.fields l.fields (map number_or_dash (take l.order-index l.orders))
