use Rattle.std.proofs.Common.{◌≡◌, ◌≤◌, ℕ, List, map, max, ap, ◌∙◌, arith}
use Rattle.serializability.specs.Footprints.{Footprint}
use Rattle.serializability.proofs.BitSets.{all_bits}
use Rattle.tpcc_rows.specs.declared.granule.Granule.{Granule}
use Rattle.mixer.specs.Columns.{highest}
use Rattle.mixer.specs.Slots.{slot}
use Rattle.mixer.proofs.ColumnSteps.{highest_below}
use Rattle.mixer.proofs.Tops.{level_by_columns}
use Rattle.mixer.proofs.table.Table.level_of.Goals as goal

pub returns-clause-level : goal.returns-clause-level
returns-clause-level c = λ done are.
    let table = c.args.self.now in
    let f : Footprint Granule = c.args.footprint.now in
    let slots : List Granule → List ℕ = map slot in
    let written : c.highest-behind_writes.result ≡ highest table.written.items (slots f.reads) =
    c.highest-behind_writes.ensures ∙ (λ i. highest (c.deref.ensures.value i) (slots (c.reads.ensures i))) in
    let touched : c.highest-behind_touches.result ≡ highest table.touched.items (slots f.writes) =
    c.highest-behind_touches.ensures ∙ (λ i. highest (c.deref-2.ensures.value i) (slots (c.writes.ensures.value i))) in
    c.max.ensures
    ∙ (λ i. max (written i) (touched i))
    ∙ level_by_columns slot table.written.items table.touched.items done f are.written are.touched (λ b. all_bits slot f b c.writes.ensures.read)

pub returns-clause-bound : goal.returns-clause-bound
returns-clause-bound c =
    let table = c.args.self.now in
    let f : Footprint Granule = c.args.footprint.now in
    let slots : List Granule → List ℕ = map slot in
    let written : c.highest-behind_writes.result ≤ table.placed =
    (let at = highest_below table.placed table.written.items (slots f.reads) table.written_low in
    let same : c.highest-behind_writes.result ≡ highest table.written.items (slots f.reads) =
    c.highest-behind_writes.ensures ∙ (λ i. highest (c.deref.ensures.value i) (slots (c.reads.ensures i))) in omega arith) in
    let touched : c.highest-behind_touches.result ≤ table.placed =
    (let at = highest_below table.placed table.touched.items (slots f.writes) table.touched_low in
    let same : c.highest-behind_touches.result ≡ highest table.touched.items (slots f.writes) =
    c.highest-behind_touches.ensures ∙ (λ i. highest (c.deref-2.ensures.value i) (slots (c.writes.ensures.value i))) in omega arith) in
    omega (arith, c.max.ensures, written, touched)
