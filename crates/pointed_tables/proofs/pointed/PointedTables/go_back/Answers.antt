use Rattle.std.proofs.Common.{◌≡◌, ◌<◌, ◌≤◌, ◌+◌, [], ◌∷◌, ◌++◌, length, length-append, slice_get, take, sym, ap, subst, ◌∙◌, arith}
use Rattle.std.specs.Option.{option_to_list}
use Rattle.rollback.specs.Pointed.{Pointed}
use Rattle.pointed_tables.specs.Logs.{IsPointed, points_of}
use Rattle.pointed_tables.proofs.Pointing.{IsBack, back-points, back-pop, back-rows, logs-last, room-last}
use Rattle.pointed_tables.proofs.Undoing.{clean-then}
use Rattle.pointed_tables.proofs.pointed.PointedTables.go_back.Goals as goal

pub undo_all-requires-clause-log : goal.undo_all-requires-clause-log
undo_all-requires-clause-log c =
    let store = c.loop-self.self-inside.store in
    let left = c.pop.new.self.items in
    let popped : c.loop-self.self-inside.points.items ≡ left ++ c.in-Some.log ∷ [] = c.pop.ensures.items ∙ ap (λ o. left ++ option_to_list o) c.in-Some.is in
    logs-last left c.in-Some.log store.rows (subst (λ ls. IsPointed ls store.rows store.room) popped c.loop-self.invariant.back.pointed).are_logs

pub undo_all-requires-clause-room : goal.undo_all-requires-clause-room
undo_all-requires-clause-room c =
    let store = c.loop-self.self-inside.store in
    let left = c.pop.new.self.items in
    let popped : c.loop-self.self-inside.points.items ≡ left ++ c.in-Some.log ∷ [] = c.pop.ensures.items ∙ ap (λ o. left ++ option_to_list o) c.in-Some.is in
    room-last left c.in-Some.log store.rows store.room (subst (λ ls. IsPointed ls store.rows store.room) popped c.loop-self.invariant.back.pointed)

pub loop-self-preserved-in-Some : goal.loop-self-preserved-in-Some
loop-self-preserved-in-Some c =
    let points = points_of c.self.inside.points.items c.self.inside.store.rows in
    let store = c.loop-self.self-inside.store in
    let left = c.pop.new.self.items in
    let popped : c.loop-self.self-inside.points.items ≡ left ++ c.in-Some.log ∷ [] = c.pop.ensures.items ∙ ap (λ o. left ++ option_to_list o) c.in-Some.is in
    let size : length c.loop-self.self-inside.points.items ≡ length left + 1 = rw popped (simp length-append) in
    let few : c.args.point ≤ length left = omega arith in
    record {
      back =
          back-pop c.args.point points c.self.inside.store.rows left c.in-Some.log store.rows c.undo_all.new.store.rows store.room c.undo_all.new.store.room few c.undo_all.ensures.rows c.undo_all.ensures.room
          (subst (λ ls. IsBack c.args.point points c.self.inside.store.rows ls store.rows store.room) popped c.loop-self.invariant.back);
      clean =
          clean-then c.self.inside.dirty c.loop-self.self-inside.dirty c.undo_all.new.dirty c.self.inside.store.rows store.rows c.undo_all.new.store.rows
          c.undo_all.ensures.clean c.loop-self.invariant.clean;
    }

pub returns-clause-rows : goal.returns-clause-rows
returns-clause-rows c =
    let points = points_of c.self.inside.points.items c.self.inside.store.rows in
    let small : c.args.point < length points = subst (λ (p : Pointed). c.args.point < length p.points) (sym c.self.view_is) c.requires in
    ap (λ (p : Pointed). slice_get p.points c.args.point) (sym c.self.view_is)
    ∙ back-rows c.args.point points c.self.inside.store.rows c.loop-self.self-inside.points.items c.loop-self.self-inside.store.rows c.loop-self.self-inside.store.room small (omega arith) c.loop-self.invariant.back

pub returns-clause-points : goal.returns-clause-points
returns-clause-points c =
    back-points c.args.point (points_of c.self.inside.points.items c.self.inside.store.rows) c.self.inside.store.rows c.loop-self.self-inside.points.items c.loop-self.self-inside.store.rows c.loop-self.self-inside.store.room (omega arith)
    c.loop-self.invariant.back
    ∙ ap (λ (p : Pointed). take c.args.point p.points) c.self.view_is
