use Rattle.std.proofs.Common.{◌≡◌, ◌++◌, ◌+◌, ◌*◌, drop, length}
use Rattle.std.specs.List.{flat_map}
use Rattle.tpcc_model.specs.Tokens.{shown_line_bytes}
use Rattle.token.proofs.encoding.push_shown_lines.Given as goal

-- what was pushed and what is left are all
abbrev pub invariant-loop-line : goal.invariant-loop-line
invariant-loop-line l = record {
  whole : l.out ++ flat_map shown_line_bytes (drop l.line-index l.lines) ≡ l.initial.out ++ flat_map shown_line_bytes l.lines;
  len : length l.out ≡ length l.initial.out + 19 * l.line-index;
}
