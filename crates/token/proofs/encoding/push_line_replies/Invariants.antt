use Rattle.std.proofs.Common.{◌≡◌, ◌++◌, ◌+◌, ◌*◌, drop, length}
use Rattle.std.specs.List.{flat_map}
use Rattle.tpcc_model.specs.Tokens.{line_reply_bytes}
use Rattle.token.proofs.encoding.push_line_replies.Given as goal

-- what was pushed and what is left are all
abbrev pub invariant-loop-line : goal.invariant-loop-line
invariant-loop-line l = record {
  whole : l.out ++ flat_map line_reply_bytes (drop l.line-index l.lines) ≡ l.initial.out ++ flat_map line_reply_bytes l.lines;
  len : length l.out ≡ length l.initial.out + 9 * l.line-index;
}
