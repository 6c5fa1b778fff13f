use Rattle.std.proofs.Common.{rules, ◌≡◌, cond, is_none, is_some, refl, sym, ap, ◌∙◌}
use Rattle.pointed_tables.specs.Logs.{wants}
use Rattle.pointed_tables.proofs.Undoing.{wants-changed}
use Rattle.pointed_tables.proofs.log.exchange.Goals as goal

removal : (c : goal.After-rows_removed) → c.is_none-is_removal.result ≡ is_none c.args.change.now.1
removal c = search rules

pub returns-clause-made : goal.returns-clause-made
returns-clause-made c = record {
  key = refl;
  was = c.in_ok-exchange.ensures.value;
  fit = c.in_ok-exchange.ensures.kind;
  made = c.in_ok-exchange.ensures.ok;
  counted =
      c.rows_removed.ensures ∙ ap (λ b. cond b (cond (is_some c.exchange.new.row) 1 0) 0) (removal c)
      ∙ sym (wants-changed c.args.change.now.1 c.exchange.new.row c.args.store.now.rows c.args.change.now.0)
      ∙ ap (λ m. wants c.args.change.now.0 c.exchange.new.row m) (sym c.in_ok-exchange.ensures.ok);
}
