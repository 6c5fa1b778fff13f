use Rattle.std.proofs.Common.{◌<◌, ◌≤◌, ◌∷◌, ◌++◌, [], length, ap, arith, refl, subst, sym, ◌∙◌}
use Rattle.sha2.specs.Sha256.{sha256}
use Rattle.row_store.specs.Slots.{slots}
use Rattle.tpcc_rows.specs.Encodings.{row_bytes}
use Rattle.tpcc_rows.specs.References.{row_of}
use Rattle.merkle.specs.Hashing.{IsFed, page_text}
use Rattle.merkle.proofs.PageTexts.{none_left, none_more, some_more}
use Rattle.merkle.proofs.hashing.hash_leaf.Goals as goal
use Rattle.merkle.proofs.hashing.hash_leaf.Goals.{in-Some, in_default}

pub loop-slot-init : goal.loop-slot-init
loop-slot-init c = (0 ∷ [], c.of_leaf-gathered.ensures, refl)

pub loop-slot-preserved : goal.loop-slot-preserved
loop-slot-preserved c =
    let (message, fed, whole) = c.loop-slot.invariant in
    let small = subst (λ n. c.loop-slot.slot < n) c.len-slot-end.ensures c.loop-slot-test.true in
    elim c.match-at.branch [
      | in-Some w ↦
          let row = row_of w.in-Some.row in
          let longer = message ++ row_bytes w.in-Some.key row in (
            longer,
            subst (λ g. IsFed g longer) (sym w.gathered-is) (w.push_row.ensures message fed),
            some_more (slots c.args.page) c.loop-slot.slot message (page_text c.args.page) whole w.in-Some.key row small w.in-Some.ensures,
          )
      | in_default w ↦ (
        message,
        subst (λ g. IsFed g message) (sym w.gathered-is) fed,
        none_more (slots c.args.page) c.loop-slot.slot message (page_text c.args.page) whole small w.in_default.ensures,
      )
    ]

pub returns : goal.returns
returns c =
    let (message, fed, whole) = c.loop-slot.invariant in
    let all : length (slots c.args.page) ≤ c.loop-slot.slot = omega (arith, c.len-slot-end.ensures, c.loop-slot-test.false) in
    c.finish.ensures message fed ∙ ap sha256 (none_left (slots c.args.page) c.loop-slot.slot message (page_text c.args.page) whole all)
