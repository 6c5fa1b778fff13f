use Rattle.std.proofs.Common.{◌<◌, refl, sym, subst, ◌∙◌}
use Rattle.pointed_tables.proofs.Exchanging.{fits-given, more-exchanged, more-lowered}
use Rattle.pointed_tables.proofs.log.exchange_all.Goals as goal

pub exchange-requires : goal.exchange-requires
exchange-requires c =
    fits-given c.args.changes.items c.loop-n.olds.items c.loop-n.n c.loop-n.removals _ _ _ _ _ _ c.loop-n.invariant.exchanged (subst (λ k. c.loop-n.n < k) (c.len-n-end.ensures ∙ c.args.changes.ok.0) c.loop-n-test.true) c.index_mut.result.now c.index_mut.result.now c.index_mut.ensures.value c.requires

pub loop-n-preserved : goal.loop-n-preserved
loop-n-preserved c =
    let below = subst (λ k. c.loop-n.n < k) (c.len-n-end.ensures ∙ c.args.changes.ok.0) c.loop-n-test.true in
    record {
      exchanged =
          more-exchanged c.args.changes.items c.loop-n.olds.items c.loop-n.n c.loop-n.removals _ _ _ _ _ _ c.loop-n.invariant.exchanged below c.index_mut.result.now c.exchange.new.change c.index_mut.ensures.value
          _ _ c.in-Ok.removed _ c.in-Ok.ensures.made _ refl c.in-Ok.ensures.dirty c.in-Ok.ensures.room.0 c.in-Ok.ensures.room.1;
      lowered =
          more-lowered c.args.bounds.now c.loop-n.bounds c.note.new.self c.loop-n.olds.items c.exchange.new.change c.index.result.now c.loop-n.n
          (subst (λ k. c.loop-n.n < k) (sym c.loop-n.invariant.exchanged.len) below) c.index.ensures c.note.ensures.lowered c.note.ensures.noted c.loop-n.invariant.lowered;
    }
