use Rattle.std.proofs.Common.{◌++◌, sym, ap, ◌∙◌, append-nil}
use Rattle.std.proofs.lemmas.List.{drop_all}
use Rattle.sha2.specs.Sha256.{sha256}
use Rattle.tpcc_model.specs.Tokens.{replies_bytes, replies_digest}
use Rattle.token.proofs.replies.reply_digest.Goals as goal

pub returns : goal.returns
unfolding replies_digest
returns c =
    let (message, holds, whole) = c.loop-reply.invariant.1 in
    let all = drop_all c.loop-reply.reply-index c.args.replies.now c.loop-reply-test.false in
    c.finalize.ensures message holds ∙ ap sha256 (sym (append-nil message) ∙ ap (λ replies. message ++ replies_bytes c.loop-reply.number replies) (sym all) ∙ whole)
