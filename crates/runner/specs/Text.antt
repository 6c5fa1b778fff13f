-- The text that a run writes.
use Rattle.std.specs.Prelude.{ℕ, ◌+◌, List, [], ◌∷◌, ◌++◌, codes, decimal}
use Rattle.hex.specs.Hex.{encode_lower}
use Rattle.catalog.specs.CardMap.{Cards}
use Rattle.executor.specs.Headline.{Completed, completed_serially}
use Rattle.executor.specs.declared.path.Path.{Path}
use Rattle.executor.specs.declared.path.Path.TheVariants as path
use Rattle.records.specs.Fields.{Fields}
use Rattle.requests.specs.Replies.{reply_text}
use Rattle.records.specs.Spelling.{text_of_record}
use Rattle.requests.specs.declared.reply.Reply.{Reply}
use Rattle.requests.specs.declared.request.Batch.{Batch}
use Rattle.tpcc_model.specs.Serial.{State, after_batch}

-- the records of replies, the first with this number
abbrev pub replies_text : ℕ → List Reply → List ℕ
replies_text number [] = []
replies_text number (reply ∷ replies) = reply_text number reply ++ replies_text (number + 1) replies

-- a token in 64 lower case hexadecimal digits
unfoldable pub token_digits : List ℕ → List ℕ
token_digits token = encode_lower token

-- the word of a path
abbrev pub path_word : Path → List ℕ
path_word path.Parallel = codes "parallel"
path_word path.Reran = codes "reran"
path_word path.Verdict = codes "verdict"
path_word path.Sequential = codes "sequential"

-- the record of a batch: its number, its path, and its token
abbrev pub batch_record_fields : ℕ → Path → List ℕ → Fields
batch_record_fields sequence path token = codes "batch" ∷ decimal sequence ∷ path_word path ∷ token_digits token ∷ []

abbrev pub batch_record_text : ℕ → Path → List ℕ → List ℕ
batch_record_text sequence path token = text_of_record (batch_record_fields sequence path token)

-- the records of the replies, and that of the batch
abbrev pub completed_text : Completed → List ℕ
completed_text done = replies_text done.first done.replies ++ batch_record_text done.sequence done.path done.token

-- as one thread completes the batch, which met this state
unfoldable pub batch_text : Cards → State → Batch → List ℕ
batch_text cards state batch = completed_text (completed_serially cards state batch)

-- the texts of batches, from this state on
abbrev pub text : Cards → State → List Batch → List ℕ
text cards state [] = []
text cards state (batch ∷ batches) = batch_text cards state batch ++ text cards (after_batch cards state batch) batches
