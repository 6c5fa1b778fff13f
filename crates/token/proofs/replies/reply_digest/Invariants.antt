use Rattle.std.proofs.Common.{◌≡◌, ℕ, List, ◌++◌, ◌+◌, drop}
use Rattle.sha2.specs.Hashers.{Holds256}
use Rattle.tpcc_model.specs.Tokens.{replies_bytes}
use Rattle.token.proofs.replies.reply_digest.Given as goal

-- what was taken in and the replies that are left are all
abbrev pub invariant-loop-reply : goal.invariant-loop-reply
invariant-loop-reply l = (l.number ≡ l.first + l.reply-index) × ((m : List ℕ) × Holds256 l.hasher m × (m ++ replies_bytes l.number (drop l.reply-index l.replies) ≡ replies_bytes l.first l.replies))
