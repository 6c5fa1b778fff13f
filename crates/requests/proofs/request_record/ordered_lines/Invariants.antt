use Rattle.std.proofs.Common.{◌≡◌, ◌+◌, ◌*◌, ◌-◌, length}
use Rattle.csv.specs.Records.{fields_of}
use Rattle.requests.specs.RequestRecords.{ordered_lines_at}
use Rattle.requests.proofs.LineLemmas.{then_more}
use Rattle.requests.proofs.request_record.ordered_lines.Given as goal

-- these are the first lines
abbrev pub invariant-loop-number : goal.invariant-loop-number
invariant-loop-number l = (length l.lines.items ≡ l.number)
    × (ordered_lines_at (fields_of l.fields) 4 l.count ≡ then_more l.lines.items (ordered_lines_at (fields_of l.fields) (4 + 3 * l.number) (l.count - l.number)))
