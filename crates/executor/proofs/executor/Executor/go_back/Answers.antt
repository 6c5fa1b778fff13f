use Rattle.std.proofs.Common.{◌≡◌, ◌<◌, ◌∙◌, List, [], Some, ap, get_or, length, slice_get, sym, take, arith}
use Rattle.std.proofs.lemmas.Option.{slice_get-get_or}
use Rattle.merkle.proofs.Refreshing.{kept-clean}
use Rattle.executor.specs.Chains.{IsKeptState, Chain, states_of}
use Rattle.executor.specs.declared.stamp.Stamp.{Stamp}
use Rattle.executor.proofs.ChainFacts.{all-at, all-taken, is-ok, point-there, stamped_taken, states_of-get, states_of-take, where-ok}
use Rattle.executor.proofs.executor.Executor.go_back.Goals as goal
use Rattle.executor.proofs.executor.Executor.go_back.Goals.{After-truncate}

pub invariant_of-self-inside : goal.invariant_of-self-inside
invariant_of-self-inside c =
    let was = c.self.inside.engine in
    record { of_catalog = was.of_catalog; of_rows = kept-clean was.tree was.store c.back_to.new.self c.back_to.ensures.clean was.of_rows }

pub unwrap-requires : goal.unwrap-requires
unwrap-requires c =
    is-ok c.back_to.result c.back_to.ensures.none
    (point-there c.args.point c.self.inside.engine.store.points c.self.inside.earlier.items c.args.self.now.earlier c.self.invariant.stamped (ap (λ (l : Chain). l.earlier) c.self.view_is) c.requires)

-- the stamp that becomes the present one
abbrev stamp-of : After-truncate → Stamp
stamp-of c = get_or c.deref.result.now c.args.point (record { next = 0; sequence = 0; token = [] })

stamp-at : (c : After-truncate) → slice_get c.self.inside.earlier.items c.args.point ≡ Some (stamp-of c)
stamp-at c =
    let stamped = c.self.invariant.stamped in
    let past = point-there c.args.point c.self.inside.engine.store.points c.self.inside.earlier.items c.args.self.now.earlier stamped (ap (λ (l : Chain). l.earlier) c.self.view_is) c.requires in
    let inside : c.args.point < length c.self.inside.earlier.items = omega (arith, stamped, past) in
    slice_get-get_or c.self.inside.earlier.items c.args.point (record { next = 0; sequence = 0; token = [] }) inside
    ∙ ap (λ (ss : List Stamp). Some (get_or ss c.args.point (record { next = 0; sequence = 0; token = [] }))) (sym c.deref.ensures.0)

pub invariant_of-self : goal.invariant_of-self
invariant_of-self c =
    let points = c.self.inside.engine.store.points in
    let stamps = c.self.inside.earlier.items in
    let past = point-there c.args.point points stamps c.args.self.now.earlier c.self.invariant.stamped (ap (λ (l : Chain). l.earlier) c.self.view_is) c.requires in
    let fewer = where-ok c.back_to.result c.back_to.ensures.none past c.back_to.ensures.points in
    let rows = where-ok c.back_to.result c.back_to.ensures.none past c.back_to.ensures.rows in
    record {
      stamped = stamped_taken c.args.point points c.back_to.new.self.points stamps c.truncate.new.self.items fewer c.truncate.ensures.items c.self.invariant.stamped;
      earlier = all-taken (IsKeptState c.self.inside.engine.catalog) c.args.point points c.back_to.new.self.points stamps c.truncate.new.self.items fewer c.truncate.ensures.items c.self.invariant.earlier;
      present = all-at (IsKeptState c.self.inside.engine.catalog) c.args.point points stamps c.back_to.new.self.rows (stamp-of c) rows (stamp-at c) c.self.invariant.earlier;
    }

pub returns-clause-earlier : goal.returns-clause-earlier
returns-clause-earlier c =
    let points = c.self.inside.engine.store.points in
    let stamps = c.self.inside.earlier.items in
    let past = point-there c.args.point points stamps c.args.self.now.earlier c.self.invariant.stamped (ap (λ (l : Chain). l.earlier) c.self.view_is) c.requires in
    let fewer = where-ok c.back_to.result c.back_to.ensures.none past c.back_to.ensures.points in
    (λ i. states_of (fewer i) (c.truncate.ensures.items i)) ∙ states_of-take c.args.point points stamps ∙ ap (λ (l : Chain). take c.args.point l.earlier) c.self.view_is

pub returns-clause-present : goal.returns-clause-present
returns-clause-present c =
    let points = c.self.inside.engine.store.points in
    let stamps = c.self.inside.earlier.items in
    let past = point-there c.args.point points stamps c.args.self.now.earlier c.self.invariant.stamped (ap (λ (l : Chain). l.earlier) c.self.view_is) c.requires in
    let rows = where-ok c.back_to.result c.back_to.ensures.none past c.back_to.ensures.rows in
    sym (ap (λ (l : Chain). slice_get l.earlier c.args.point) c.self.view_is) ∙ states_of-get c.args.point points stamps c.back_to.new.self.rows (stamp-of c) rows (stamp-at c)
