use Rattle.std.proofs.Common.{◌≡◌, ◌≤◌, ◌-◌, []}
use Rattle.commands.proofs.RowLemmas.{IsAt}
use Rattle.commands.specs.Machine.{state_of}
use Rattle.commands.specs.Reader.{pulled}
use Rattle.commands.specs.Rows.{rows_from}
use Rattle.commands.specs.declared.record_reader.TheConstants.{MOST_BYTES}
use Rattle.csv.specs.Records.{fields_of, partial_of}
use Rattle.commands.proofs.record_reader.RecordReader.scan.Given as goal

-- the bytes that were read led to the fields so far, and those that are left go on from there
abbrev pub invariant-bytes : goal.invariant-bytes
invariant-bytes g l = (l.spent ≤ l.total)
    × (l.total ≤ MOST_BYTES)
    × (partial_of l.self.fields ≡ [])
    × (l.self.has_begun ≡ l.fn.self.has_begun)
    × (l.self.read ≡ l.fn.self.read)
    × (g.S.Source.failed l.source ≡ g.S.Source.failed l.fn.source)
    × IsAt (λ bytes. rows_from (state_of l.fn.self.state) [] [] 0 bytes) (state_of l.self.state) (fields_of l.self.fields) l.self.field.items (l.total - l.spent)
    (pulled l.fn.self.chunk (g.S.Source.left l.fn.source)) (pulled l.self.chunk (g.S.Source.left l.source))

abbrev pub decreases-bytes : goal.decreases-bytes
decreases-bytes g l = MOST_BYTES - l.total
