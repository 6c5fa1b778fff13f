use Rattle.std.proofs.Common.{◌≡◌, ℕ, ◌≤◌, Bool, List, [], Option, length, max, subst, sym, ◌∙◌, arith}
use Rattle.serializability.specs.BitSets.{meet}
use Rattle.serializability.specs.LevelRows.{last_from, level_above}
use Rattle.serializability.proofs.LevelRows.{last_bound}
use Rattle.serializability.proofs.RowSteps.{level_by_rows}
use Rattle.signatures_simd.specs.Bits.{bit}
use Rattle.mixer.proofs.rows.Rows.level_of.Goals as goal

above_within : (s : List Bool) (row items : List (List Bool)) (o : Option ℕ) → o ≡ last_from 0 (meet s) row → row ≡ items → level_above o ≤ length items
above_within s row items o last same =
    subst (λ x. level_above x ≤ length items) (sym last) (subst (λ xs. level_above (last_from 0 (meet s) xs) ≤ length items) (sym same) (last_bound (meet s) [] items))

pub level_above-behind_writes-requires : goal.level_above-behind_writes-requires
level_above-behind_writes-requires c =
    let within : level_above c.highest_meeting.result ≤ length c.args.self.now.writes.items = above_within c.args.own.now.reads _ _ _ c.highest_meeting.ensures c.deref.ensures.value in
    omega (arith, within, c.requires.writes)

pub level_above-behind_reads-requires : goal.level_above-behind_reads-requires
level_above-behind_reads-requires c =
    let within : level_above c.highest_meeting-2.result ≤ length c.args.self.now.reads.items = above_within c.args.own.now.writes _ _ _ c.highest_meeting-2.ensures c.deref-2.ensures.value in
    omega (arith, within, c.requires.reads)

pub returns-clause-level : goal.returns-clause-level
returns-clause-level c = λ done f are sig.
    c.max.ensures
    ∙ (λ i. max (c.level_above-behind_writes.ensures i) (c.level_above-behind_reads.ensures i))
    ∙ (λ i. max (level_above (c.highest_meeting.ensures i)) (level_above (c.highest_meeting-2.ensures i)))
    ∙ (λ i. max (level_above (last_from 0 (meet c.args.own.now.reads) (c.deref.ensures.value i))) (level_above (last_from 0 (meet c.args.own.now.writes) (c.deref-2.ensures.value i))))
    ∙ level_by_rows bit c.args.self.now.reads.items c.args.self.now.writes.items done c.args.own.now.reads c.args.own.now.writes f are sig

pub returns-clause-bound : goal.returns-clause-bound
returns-clause-bound c =
    let one : level_above c.highest_meeting.result ≤ length c.args.self.now.writes.items = above_within c.args.own.now.reads _ _ _ c.highest_meeting.ensures c.deref.ensures.value in
    let other : level_above c.highest_meeting-2.result ≤ length c.args.self.now.reads.items = above_within c.args.own.now.writes _ _ _ c.highest_meeting-2.ensures c.deref-2.ensures.value in
    omega (arith, one, other, c.max.ensures, c.level_above-behind_writes.ensures, c.level_above-behind_reads.ensures)
