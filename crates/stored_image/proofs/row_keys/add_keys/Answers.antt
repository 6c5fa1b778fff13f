use Rattle.std.proofs.Common.{◌∙◌, ◌+◌, ◌∷◌, Some, arith, drop, sym, subst}
use Rattle.row_store.specs.Slots.{filled, lent, slots}
use Rattle.stored_image.proofs.RowKeys.{IsAdding, adding-added, adding-passed, filled-more}
use Rattle.stored_image.proofs.row_keys.add_keys.Goals as goal
use Rattle.stored_image.proofs.row_keys.add_keys.Goals.{then-stands_alone+in_ok-insert, else-stands_alone}

pub loop-slot-preserved : goal.loop-slot-preserved
loop-slot-preserved c =
    let old = c.args.keys.now in
    let ss = slots c.args.page in
    let e = lent (c.in-Some.key, c.in-Some.field-0-1) in
    let left = filled (drop (c.loop-slot.slot + 1) ss) in
    let here : IsAdding old (filled ss) (e ∷ left) c.loop-slot.keys =
    subst (λ es. IsAdding old (filled ss) es c.loop-slot.keys) (filled-more ss c.loop-slot.slot (Some e) (omega arith) c.in-Some.ensures) c.loop-slot.invariant in
    elim c.if-stands_alone.branch [
      | then-stands_alone+in_ok-insert w ↦ subst (IsAdding old (filled ss) left) (sym w.keys-is)
          (adding-added old (filled ss) e left c.loop-slot.keys here w.insert.new.self (sym c.stands_alone.ensures ∙ w.if-stands_alone.true) w.in_ok-insert.ensures.updates.0)
      | else-stands_alone w ↦ subst (IsAdding old (filled ss) left) (sym w.keys-is)
          (adding-passed old (filled ss) e left c.loop-slot.keys here (sym c.stands_alone.ensures ∙ w.if-stands_alone.false))
    ]
