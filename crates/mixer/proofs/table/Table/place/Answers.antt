use Rattle.std.proofs.Common.{◌==◌, ◌+◌, ℕ, List, [], ◌∷◌, ◌++◌, map, slice_index_or, ap, subst, sym, ◌∙◌}
use Rattle.serializability.specs.Footprints.{Footprint}
use Rattle.serializability.specs.LevelRows.{touched_bits, written_bits}
use Rattle.serializability.proofs.BitSets.{all_bits}
use Rattle.tpcc_rows.specs.declared.granule.Granule.{Granule}
use Rattle.mixer.specs.Columns.{IsColumn, IsRaised, raised}
use Rattle.mixer.specs.Slots.{slot}
use Rattle.mixer.proofs.Tops.{column_more}
use Rattle.mixer.proofs.table.Table.place.Goals as goal

pub returns-clause-columns : goal.returns-clause-columns
returns-clause-columns c = λ done are.
    let table = c.args.self.now in
    let f : Footprint Granule = c.args.footprint.now in
    let level = c.level_of-level.result in
    let slots : List Granule → List ℕ = map slot in
    let written : IsRaised (slots f.writes) (level + 1) table.written.items c.raise.new.column.items =
    subst (λ gs. IsRaised (slots gs) (level + 1) table.written.items c.raise.new.column.items) c.writes.ensures.value c.raise.ensures.raised in
    let reads : IsRaised (slots f.reads) (level + 1) table.touched.items c.raise-2.new.column.items =
    subst (λ gs. IsRaised (slots gs) (level + 1) table.touched.items c.raise-2.new.column.items) c.reads.ensures c.raise-2.ensures.raised in
    let touched : IsRaised (touched_bits slot f) (level + 1) table.touched.items c.raise-2.new.column.items =
    (λ n. reads n ∙ ap (λ t. raised t (level + 1) (slice_index_or table.touched.items n 0)) (all_bits slot f n c.writes.ensures.read)) in
    record {
      written =
          subst (λ n. IsColumn (written_bits slot) c.raise.new.column.items (done ++ (n, f) ∷ [])) (sym c.from.ensures)
          (column_more (written_bits slot) table.written.items c.raise.new.column.items done level f are.written written);
      touched =
          subst (λ n. IsColumn (touched_bits slot) c.raise-2.new.column.items (done ++ (n, f) ∷ [])) (sym c.from.ensures)
          (column_more (touched_bits slot) table.touched.items c.raise-2.new.column.items done level f are.touched touched);
    }
