use Rattle.std.proofs.Common.{rules, ◌≡◌, ◌∙◌, [], Some, true, false, ap, subst, sym, get_or, length, map, nat_lt, slice_get}
use Rattle.tpcc_rows.specs.RowMap.{Rows}
use Rattle.executor.specs.Chains.{IsExecutor, IsKeptState, Chain, state_of, states}
use Rattle.executor.proofs.ChainFacts.{all-dropped, next_of_one, next_of_two, stamped_dropped, where-ok}
use Rattle.executor.proofs.executor.Executor.commit.Goals.{in-Some, in-None}
use Rattle.executor.proofs.executor.Executor.commit.Goals as goal

pub returns-clause-sequence : goal.returns-clause-sequence
returns-clause-sequence c =
    let points = c.self.inside.engine.store.points in
    let stamps = c.self.inside.earlier.items in
    let present = state_of c.self.inside.engine.store.rows c.self.inside.present in
    sym (ap (λ (l : Chain). slice_get (map (λ state. state.sequence) (states l)) 1) c.self.view_is)
    ∙ elim c.match-get.branch [
      | in-Some w ↦
          let two : true ≡ nat_lt 1 (length stamps) = w.in-Some.ensures.lookup.0 ∙ ap (λ ss. nat_lt 1 (length ss)) c.deref.ensures.0 in
          let next : w.in-Some.next.now ≡ get_or stamps 1 w.in-Some.next.now = w.in-Some.ensures.lookup.1 ∙ ap (λ ss. get_or ss 1 w.in-Some.next.now) c.deref.ensures.0 in
          next_of_two points stamps present w.in-Some.next.now c.self.invariant.stamped two next ∙ ap Some (sym w.committed-is)
      | in-None w ↦
          let one : false ≡ nat_lt 1 (length stamps) = w.in-None.ensures.lookup.0 ∙ ap (λ ss. nat_lt 1 (length ss)) c.deref.ensures.0 in
          next_of_one points stamps present c.self.invariant.stamped one (λ none. search (rules, none)) ∙ ap Some (sym w.committed-is)
    ]

pub invariant_of-self : goal.invariant_of-self
invariant_of-self c =
    let was = c.match-get.self-inside in
    let same : was ≡ c.self.inside = elim c.match-get.branch [
      | in-Some w ↦ w.self-inside-is
      | in-None w ↦ w.self-inside-is
    ] in
    let held : IsExecutor was.engine was.earlier.items was.present = subst (λ inside. IsExecutor inside.engine inside.earlier.items inside.present) (sym same) c.self.invariant in
    let stamped = held.stamped in
    let some : was.engine.store.points ≡ [] → ⊥ = λ none. let size = ap length none in let no : length c.self.inside.earlier.items ≡ 0 = ap (λ inside. length inside.earlier.items) (sym same) ∙ stamped ∙ size in search (rules, no) in
    let fewer = where-ok c.drop_oldest.result c.drop_oldest.ensures.none some c.drop_oldest.ensures.points in
    record {
      stamped = stamped_dropped was.engine.store.points c.drop_oldest.new.self.points was.earlier.items c.remove.new.self.items fewer c.remove.ensures.items stamped;
      earlier = all-dropped (IsKeptState was.engine.catalog) was.engine.store.points c.drop_oldest.new.self.points was.earlier.items c.remove.new.self.items fewer c.remove.ensures.items held.earlier;
      present = subst (λ (rows : Rows). IsKeptState was.engine.catalog (state_of rows was.present)) (sym c.drop_oldest.ensures.rows) held.present;
    }
