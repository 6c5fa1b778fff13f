use Rattle.std.proofs.Common.{◌-◌, ◌≤◌, length, length-drop, drop, ap, ◌∙◌, rules, arith}
use Rattle.std.specs.Ordering.{is_lt}
use Rattle.std.proofs.lemmas.List.{take_all}
use Rattle.std.proofs.lemmas.List.Sorted.{IsPartitionPoint-from_clause}
use Rattle.catalog.specs.NameOrder.{Name, name_cmp, name_of}
use Rattle.catalog.proofs.Middles.{stands_from}
use Rattle.catalog.proofs.last_names.LastNames.holders.Goals as goal

pub returns-clause-place : goal.returns-clause-place
returns-clause-place c = λ cards are.
    let name : Name = (c.args.warehouse, c.args.district, c.args.last.now) in
    let start = c.partition_point-start.result in
    let all = c.deref-2.result.now in
    let long : length (drop start all) ≤ length all - start = omega (arith, length-drop start all) in
    stands_from cards c.args.self.now are name start c.holders_in_front.result c.deref.result.now _ (c.deref.ensures.value ∙ c.self.view_is)
    (take_all (length all - start) (drop start all) long ∙ ap (drop start) (c.deref-2.ensures.value ∙ c.self.view_is))
    c.partition_point-start.ensures.bound c.holders_in_front.ensures.bound
    (λ h. IsPartitionPoint-from_clause (λ n. is_lt (name_cmp (name_of n) name)) c.deref.result.now start c.partition_point-start.ensures.partitioned h (λ a r f k. search rules))
    c.holders_in_front.ensures.point
