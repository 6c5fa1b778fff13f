use Rattle.std.proofs.Common.{take}
use Rattle.std.specs.List.{flat_map}
use Rattle.requests.specs.Replies.{shown_line_fields}
use Rattle.records.specs.Spelling.{AddsFields}
use Rattle.requests.proofs.reply_text.push_shown_lines.Given as goal

abbrev pub invariant-loop-line : goal.invariant-loop-line
invariant-loop-line l = AddsFields l.initial.fields l.fields (flat_map shown_line_fields (take l.line-index l.lines))
