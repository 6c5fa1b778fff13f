use Rattle.std.proofs.Common.{◌≡◌, ◌+◌, Option, Some, None, cond, is_some, refl, sym, ap, ◌∙◌}
use Rattle.std.specs.FinMap as map
use Rattle.std.specs.Option.{option_map}
use Rattle.row_tables.proofs.Counting.{counted-more, room-more}
use Rattle.row_tables.proofs.Keyed.{fits-table, kept-put, keyed-put, new-fit-at, row-at, table-at}
use Rattle.row_tables.proofs.store.RowTables.put_row.Goals as goal

is_some-mapped : {A B : Type 0} (f : A → B) (o : Option A) → is_some (option_map f o) ≡ is_some o
is_some-mapped f None = refl
is_some-mapped f (Some x) = refl

pub put-requires : goal.put-requires
put-requires g c = table-at _ c.self.invariant.are_kept c.args.key.now c.rank.ensures.limits c.rank.result c.rank.ensures.value ∙ sym (fits-table c.args.key.now (g.R.TableRow.row_of c.args.row) c.requires)

pub more-self-inside-requires : goal.more-self-inside-requires
more-self-inside-requires g c = room-more _ _ c.self.invariant

pub invariant_of-self-2 : goal.invariant_of-self-2
invariant_of-self-2 g c = record {
  are_kept = kept-put _ c.self.invariant.are_kept c.args.key.now c.rank.ensures.limits c.rank.result c.rank.ensures.value _ (g.R.TableRow.row_of c.args.row) c.requires c.in_ok-was.ensures.ok;
  counted =
      counted-more _ _ c.self.invariant c.rank.result (g.R.TableRow.row_of c.args.row) _ (option_map g.R.TableRow.row_of c.in_ok-was.was') _ c.in_ok-was.ensures.value c.in_ok-was.ensures.ok
      (c.more-self-inside.ensures ∙ ap (λ b. cond b c.self.inside.len (c.self.inside.len + 1)) (c.is_some.ensures ∙ sym (is_some-mapped g.R.TableRow.row_of c.in_ok-was.was')));
}

pub returns-clause-value : goal.returns-clause-value
returns-clause-value g c = c.in_ok-was.ensures.value ∙ row-at _ c.self.invariant.are_kept c.args.key.now c.rank.ensures.limits c.rank.result c.rank.ensures.value ∙ ap (λ m. map.get m c.args.key.now) c.self.view_is

pub returns-clause-ok : goal.returns-clause-ok
returns-clause-ok g c =
    keyed-put _ c.self.invariant.are_kept c.args.key.now c.rank.ensures.limits c.rank.result c.rank.ensures.value _ (g.R.TableRow.row_of c.args.row) c.requires c.in_ok-was.ensures.ok
    ∙ ap (λ m. map.insert m c.args.key.now (g.R.TableRow.row_of c.args.row)) c.self.view_is

pub returns-clause-kind : goal.returns-clause-kind
returns-clause-kind g c = new-fit-at _ c.self.invariant.are_kept c.args.key.now c.rank.ensures.limits c.rank.result c.rank.ensures.value _ c.in_ok-was.ensures.value
