use Rattle.std.proofs.Common.{◌≡◌, drop}
use Rattle.eve_tpcc.specs.Tallies.{with_replies}
use Rattle.eve_tpcc.proofs.tally.Replies.count_all.Given as goal

-- the replies counted so far, with those left, are all replies
abbrev pub invariant-loop-reply : goal.invariant-loop-reply
invariant-loop-reply l = with_replies (drop l.reply-index l.replies) l.self ≡ with_replies l.replies l.fn.self
