use Rattle.std.proofs.Common.{◌∙◌, ℕ, replicate, arith}
use Rattle.std.proofs.Math.ListN.{length-replicate}
use Rattle.tpcc_rows.proofs.Clips.{clip_all}
use Rattle.made_database.specs.Made.{long_note}
use Rattle.made_database.proofs.made_records.long_note.Goals as goal

pub returns : goal.returns
unfolding long_note
returns c = c.from_start.ensures ∙ clip_all 500 (replicate 500 120) (omega (arith, length-replicate {A = ℕ} 500 120))
