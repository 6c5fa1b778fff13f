use Rattle.std.proofs.Common.{rules, ◌≡◌, length, length-take-le, take, sym, ap, ◌∙◌, arith}
use Rattle.std.proofs.lemmas.List.Sorted.{IsPartitionPoint-from_clause}
use Rattle.catalog.specs.NameOrder.{Name, has_name}
use Rattle.catalog.proofs.Middles.{ends_among_first}
use Rattle.catalog.proofs.last_names.holders_in_front.Goals as goal

pub returns-then-not-has_name-clause-point : goal.returns-then-not-has_name-clause-point
returns-then-not-has_name-clause-point c =
    let name : Name = (c.args.warehouse, c.args.district, c.args.last.now) in
    let (short, there) = c.in-Some.ensures.lookup.3 in
    let front : length (take 16 c.args.customers.now) ≡ 16 = length-take-le 16 c.args.customers.now (omega (arith, short)) in
    let bound = c.partition_point.ensures.bound in
    ends_among_first name c.args.customers.now 16 c.partition_point.result short (λ d. ap (has_name name) (sym (there d)) ∙ sym c.has_name.ensures ∙ c.if-not-has_name.true) (omega (arith, front, bound))
    (λ h. IsPartitionPoint-from_clause (has_name name) _ c.partition_point.result c.partition_point.ensures.partitioned h (λ a r f k. search rules))

pub returns-clause-point : goal.returns-clause-point
returns-clause-point c = λ h. IsPartitionPoint-from_clause (has_name (c.args.warehouse, c.args.district, c.args.last.now)) _ c.partition_point-2.result c.partition_point-2.ensures.partitioned h (λ a r f k. search rules)
