-- What a token covers.
use Rattle.std.specs.Prelude.{ℕ, List}
use Rattle.requests.specs.declared.reply.Reply.{Reply}
use Rattle.tpcc_model.specs.Database.{Database}
use Rattle.tpcc_model.specs.Tokens.{batch_token}

-- the number of a batch, the token before it, the database that it leaves, and its replies, the first of them with this
-- number
pub record Covered : Type 0 where
  pub sequence : ℕ
  pub prior : List ℕ
  pub database : Database
  pub first : ℕ
  pub replies : List Reply

abbrev pub token : Covered → List ℕ
token c = batch_token c.sequence c.prior c.database.cards c.database.rows c.first c.replies
