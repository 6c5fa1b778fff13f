use Rattle.std.proofs.Common.{◌≡◌, ◌+◌, ◌++◌, drop}
use Rattle.records.specs.Writer.{IsWriting, written}
use Rattle.runner.specs.Text.{replies_text}
use Rattle.runner.proofs.text.write_replies.Given as goal

-- the text so far, and that of the replies that are left
abbrev pub invariant-loop-reply : goal.invariant-loop-reply
invariant-loop-reply l =
    (l.next ≡ l.first + l.reply-index)
    × (IsWriting l.writer
    × (written l.writer ++ replies_text l.next (drop l.reply-index l.replies) ≡ written l.fn.writer ++ replies_text l.first l.replies))
