use Rattle.std.proofs.Common.{◌≡◌, ◌∙◌, ap, subst, sym}
use Rattle.std.proofs.lemmas.List.{reverse-reverse}
use Rattle.std.specs.Prelude.{reverse}
use Rattle.loader.proofs.Late.{IsPutting, fits-next, last_first, put-more, put-none}
use Rattle.loader.proofs.joining.put_all.Goals as goal

pub loop-key-init : goal.loop-key-init
loop-key-init c =
    let back : reverse c.reverse.new.self.items ≡ c.args.rows.items = ap reverse c.reverse.ensures.items ∙ reverse-reverse c.args.rows.items in
    subst (λ left. IsPutting c.args.rows.items left c.args.tables.now) (sym back) (put-none c.args.rows.items c.args.tables.now c.requires.fit c.requires.none)

pub put-requires : goal.put-requires
put-requires c = fits-next _ _ (reverse c.pop.new.self.items) c.in-Some.key c.in-Some.row (last_first _ _ _ _ c.in-Some.ensures.items) c.loop-key.tables c.loop-key.invariant

pub loop-key-preserved-then-len-eq0 : goal.loop-key-preserved-then-len-eq0
loop-key-preserved-then-len-eq0 c =
    subst (λ left. IsPutting c.args.rows.items (reverse left) c.put.new.self) (sym c.shrink_to_fit.ensures.items)
    (put-more _ _ (reverse c.pop.new.self.items) c.in-Some.key c.in-Some.row (last_first _ _ _ _ c.in-Some.ensures.items) c.loop-key.tables c.loop-key.invariant c.put.new.self c.in_ok-put.ensures.ok)

pub loop-key-preserved : goal.loop-key-preserved
loop-key-preserved c =
    put-more _ _ (reverse c.pop.new.self.items) c.in-Some.key c.in-Some.row (last_first _ _ _ _ c.in-Some.ensures.items) c.loop-key.tables c.loop-key.invariant c.put.new.self c.in_ok-put.ensures.ok
