use Rattle.std.proofs.Common.{cond, ◌+◌, sym, ap, ◌∙◌}
use Rattle.std.specs.FinMap as map
use Rattle.tables.proofs.Tables.{on_err}
use Rattle.row_tables.proofs.Counting.{counted-more, room-more}
use Rattle.row_tables.proofs.Keyed.{fits-table, kept-put, keyed-put, new-fit-at, row-at, table-at}
use Rattle.row_tables.proofs.store.RowTables.put.Goals as goal

pub put-requires : goal.put-requires
put-requires c = fits-table c.args.key c.args.row c.requires ∙ sym (table-at _ c.self.invariant.are_kept c.args.key c.rank.ensures.limits c.rank.result c.rank.ensures.value)

pub more-self-inside-requires : goal.more-self-inside-requires
more-self-inside-requires c = room-more _ _ c.self.invariant

pub invariant_of-self-2 : goal.invariant_of-self-2
invariant_of-self-2 c = record {
  are_kept = kept-put _ c.self.invariant.are_kept c.args.key c.rank.ensures.limits c.rank.result c.rank.ensures.value _ c.args.row c.requires c.in_ok-was.ensures.ok;
  counted = counted-more _ _ c.self.invariant c.rank.result c.args.row _ _ _ c.in_ok-was.ensures.value c.in_ok-was.ensures.ok
      (c.more-self-inside.ensures ∙ ap (λ b. cond b c.self.inside.len (c.self.inside.len + 1)) c.is_some.ensures);
}

pub returns-clause-value : goal.returns-clause-value
returns-clause-value c = c.in_ok-was.ensures.value ∙ row-at _ c.self.invariant.are_kept c.args.key c.rank.ensures.limits c.rank.result c.rank.ensures.value ∙ ap (λ m. map.get m c.args.key) c.self.view_is

pub returns-clause-ok : goal.returns-clause-ok
returns-clause-ok c = keyed-put _ c.self.invariant.are_kept c.args.key c.rank.ensures.limits c.rank.result c.rank.ensures.value _ c.args.row c.requires c.in_ok-was.ensures.ok ∙ ap (λ m. map.insert m c.args.key c.args.row) c.self.view_is

pub returns-in_err-was-clause-new : goal.returns-in_err-was-clause-new
returns-in_err-was-clause-new c = on_err c.from_residual.result (sym (row-at _ c.self.invariant.are_kept c.args.key c.rank.ensures.limits c.rank.result c.rank.ensures.value ∙ ap (λ m. map.get m c.args.key) c.self.view_is) ∙ c.in_err-was.ensures.new)

pub returns-clause-kind : goal.returns-clause-kind
returns-clause-kind c = new-fit-at _ c.self.invariant.are_kept c.args.key c.rank.ensures.limits c.rank.result c.rank.ensures.value _ c.in_ok-was.ensures.value
