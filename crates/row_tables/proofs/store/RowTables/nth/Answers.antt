use Rattle.std.proofs.Common.{Some, sym, ap, subst, ◌∙◌, slice_get, arith}
use Rattle.std.specs.Prelude.{option_map}
use Rattle.tables.specs.Keys.{key_of}
use Rattle.tpcc_rows.specs.References.{row_of}
use Rattle.row_tables.specs.Parts.{AreInParts, part_rows}
use Rattle.row_tables.proofs.Parts.{few-there, has-key, in-parts, key-is, nth-part, rank-there}
use Rattle.row_tables.proofs.store.RowTables.nth.Goals as goal

pub returns-in_default-clause-value : goal.returns-in_default-clause-value
returns-in_default-clause-value c =
    ap (option_map (λ e. (key_of e.0, e.1))) c.in_default.ensures ∙ sym (nth-part _ c.self.invariant.are_kept c.args.part c.args.n)
    ∙ ap (λ rows. slice_get (part_rows rows c.args.part) c.args.n) c.self.view_is

pub returns-in_default-clause-parts : goal.returns-in_default-clause-parts
returns-in_default-clause-parts c = subst AreInParts c.self.view_is (in-parts _ c.self.invariant.are_kept)

pub returns-in_default-key_at-clause-value : goal.returns-in_default-key_at-clause-value
returns-in_default-key_at-clause-value c =
    absurd (has-key c.in-Some.rank (rank-there _ c.self.invariant.are_kept c.args.part c.args.n (c.in-Some.rank, row_of c.in-Some.row) (sym c.in-Some.ensures)) c.in_default-key_at.ensures)

pub returns-in_default-key_at-clause-parts : goal.returns-in_default-key_at-clause-parts
returns-in_default-key_at-clause-parts c = subst AreInParts c.self.view_is (in-parts _ c.self.invariant.are_kept)

pub returns-clause-value : goal.returns-clause-value
returns-clause-value c =
    ap (λ k. Some (k, row_of c.in-Some.row)) (key-is c.in-Some.rank c.in-Some-key_at.key c.in-Some-key_at.ensures)
    ∙ ap (option_map (λ e. (key_of e.0, e.1))) c.in-Some.ensures ∙ sym (nth-part _ c.self.invariant.are_kept c.args.part c.args.n)
    ∙ ap (λ rows. slice_get (part_rows rows c.args.part) c.args.n) c.self.view_is

pub returns-clause-parts : goal.returns-clause-parts
returns-clause-parts c = subst AreInParts c.self.view_is (in-parts _ c.self.invariant.are_kept)

pub returns-clause-few : goal.returns-clause-few
returns-clause-few c _ = let few = few-there _ c.self.invariant.are_kept c.args.part c.args.n (c.in-Some.rank, row_of c.in-Some.row) (sym c.in-Some.ensures) in omega (arith, few)
