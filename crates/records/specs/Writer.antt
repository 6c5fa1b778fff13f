-- A writer of records, and what it has written.
use Rattle.std.specs.Prelude.{◌≡◌, ◌++◌, false, true, ℕ, List, Vec}
use Rattle.csv.specs.Writing.{default_writer, fields_written, has_written, with_flexible, writer_pending, writer_setup, writer_under}
use Rattle.csv.specs.declared.writer.Writer.{Writer}

module _ {A : Type 0} where
  -- a writer with the defaults, any numbers of fields, at the start of a record
  pub record IsWriting (writer : Writer (Vec ℕ A)) : Type 0 where
    pub setup : writer_setup writer ≡ with_flexible default_writer true
    pub fields : fields_written writer ≡ 0
    pub shown : has_written writer ≡ false

  -- the text so far
  abbrev pub written : Writer (Vec ℕ A) → List ℕ
  written writer = (writer_under writer).items ++ writer_pending writer
