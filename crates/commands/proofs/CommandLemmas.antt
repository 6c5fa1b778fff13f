-- Commands, record by record.
use Rattle.std.proofs.Common.{◌≡◌, ◌⊎◌, ◌∙◌, ◌<◌, ◌≤◌, ◌+◌, ◌-◌, ℕ, Bool, List, [], ◌∷◌, length, Option, Some, None, true, false, refl, inl, inr, arith}
use Rattle.std.specs.Prelude.{◌==◌, nat_lt, option_map}
use Rattle.std.specs.Io.KnownBytes.{Keeps}
use Rattle.commands.proofs.RowLemmas.{by-keeps}
use Rattle.commands.specs.CommandRecords.{names_command, opening_at}
use Rattle.commands.specs.Commands.{Hearing, Progress, StopsBy, begun, between, commands_from, commands_of, ended, settled, told, with_front, within}
use Rattle.commands.specs.Reader.{Turns, WhereKnown, following, gap, hearing_of}
use Rattle.commands.specs.Rows.{EndsWithin, IsLonger, Rows, with_row}
use Rattle.commands.specs.declared.command.Command.TheVariants as command
use Rattle.commands.specs.declared.command.Heard.TheVariants as heard
use Rattle.commands.specs.declared.record_reader.TheConstants.{LAST_RECORD, MOST_BYTES}
use Rattle.records.specs.Fields.{Fields}
use Rattle.records.specs.declared.fault.ReadError.{ReadError}
use Rattle.records.specs.declared.fault.ReadError.TheVariants as err
use Rattle.requests.specs.Batches.{batch_of, clean, fault}
use Rattle.requests.specs.declared.batch_record.BatchHead.{BatchHead}
use Rattle.requests.specs.declared.request.Request.{Request}

-- ---- one record
module _ (n spent : ℕ) (progress : Progress) where
  -- it is within its limits
  pub is-told : (old new : Option Rows) (f : Fields) (size total : ℕ) → Turns old new (λ o w. o ≡ with_row (f, size) w) → spent + size ≡ total → total ≤ MOST_BYTES → n + 1 ≤ LAST_RECORD
      → Turns old new (λ o w. commands_of o n spent progress ≡ told (n + 1) progress f (following w (n + 1) total))
  unfolding commands_from
  is-told None new f size total t sum room early = tt
  is-told (Some o) None f size total t sum room early = absurd t
  is-told (Some o) (Some w) f size total t sum room early =
      let short : nat_lt MOST_BYTES total ≡ false = grind arith in
      let low : nat_lt LAST_RECORD (n + 1) ≡ false = grind arith in
      rw (t, sum, short, low) refl

  -- a session has no number for it
  pub is-late : (old new : Option Rows) (f : Fields) (size total : ℕ) → Turns old new (λ o w. o ≡ with_row (f, size) w) → spent + size ≡ total → total ≤ MOST_BYTES → n ≡ LAST_RECORD
      → StopsBy err.InputTooLong (hearing_of old n spent progress)
  unfolding commands_from
  is-late None new f size total t sum room late = tt
  is-late (Some o) None f size total t sum room late = absurd t
  is-late (Some o) (Some w) f size total t sum room late =
      let short : nat_lt MOST_BYTES total ≡ false = grind arith in
      let high : nat_lt LAST_RECORD (n + 1) ≡ true = grind arith in
      inr (inr (rw (t, sum, short, high) refl))

  -- there is none
  pub is-ended : (old : Option Rows) → spent ≤ MOST_BYTES → WhereKnown old (EndsWithin (MOST_BYTES - spent)) → WhereKnown old (λ o. commands_of o n spent progress ≡ ended n progress)
  unfolding commands_from
  is-ended None room h = tt
  is-ended (Some ([], rest)) room h =
      let short : nat_lt MOST_BYTES (spent + rest) ≡ false = grind (arith, h, room) in
      rw short refl
  is-ended (Some (row ∷ rows, rest)) room h = absurd h

  -- it is too long
  pub is-longer : (old : Option Rows) → spent ≤ MOST_BYTES → WhereKnown old (IsLonger (MOST_BYTES - spent)) → StopsBy err.InputTooLong (hearing_of old n spent progress)
  unfolding commands_from
  is-longer None room h = tt
  is-longer (Some ([], rest)) room h =
      let long : nat_lt MOST_BYTES (spent + rest) ≡ true = grind (arith, h, room) in
      inr (inr (rw long refl))
  is-longer (Some (row ∷ rows, rest)) room h =
      let long : nat_lt MOST_BYTES (spent + row.1) ≡ true = grind (arith, h, room) in
      inr (inr (rw long refl))

-- ---- any reason to stop
-- memory was refused, or the bytes couldn't be read
pub by-ends : (e : ReadError) (h : Option Hearing) → (e ≡ err.Memory) ⊎ (e ≡ err.Read) → StopsBy e h
by-ends e None why = tt
by-ends e (Some h) (inl memory) = inl memory
by-ends e (Some h) (inr read) = inr (inl read)

-- ---- what is read first, and what follows
module _ {A : Type 0} (X Y : A → Hearing) (b : Option A) where
  pub then-turns : (a c : Option A) (Z : A → Hearing) → Turns a b (λ o w. X o ≡ Y w) → Turns b c (λ o w. Y o ≡ Z w) → Turns a c (λ o w. X o ≡ Z w)
  then-turns a c Z t u = by a b c t u
    where
      by : (a b c : Option A) → Turns a b (λ o w. X o ≡ Y w) → Turns b c (λ o w. Y o ≡ Z w) → Turns a c (λ o w. X o ≡ Z w)
      by None b c t u = tt
      by (Some o) None c t u = absurd t
      by (Some o) (Some w) None t u = absurd u
      by (Some o) (Some w) (Some v) t u = t ∙ u

  pub then-known : (a : Option A) (h : Hearing) → Turns a b (λ o w. X o ≡ Y w) → WhereKnown b (λ w. Y w ≡ h) → WhereKnown a (λ o. X o ≡ h)
  then-known a h t u = by a b t u
    where
      by : (a b : Option A) → Turns a b (λ o w. X o ≡ Y w) → WhereKnown b (λ w. Y w ≡ h) → WhereKnown a (λ o. X o ≡ h)
      by None b t u = tt
      by (Some o) None t u = absurd t
      by (Some o) (Some w) t u = t ∙ u

  pub then-stops : (a : Option A) (e : ReadError) → Turns a b (λ o w. X o ≡ Y w) → StopsBy e (option_map Y b) → StopsBy e (option_map X a)
  then-stops a e t u = by a b t u
    where
      by : (a b : Option A) → Turns a b (λ o w. X o ≡ Y w) → StopsBy e (option_map Y b) → StopsBy e (option_map X a)
      by None b t u = tt
      by (Some o) None t u = absurd t
      by (Some o) (Some w) t (inl memory) = inl memory
      by (Some o) (Some w) t (inr (inl read)) = inr (inl read)
      by (Some o) (Some w) t (inr (inr stop)) = inr (inr (t ∙ stop))

-- the same where what follows is that by another name
pub turns-by : {A : Type 0} (X Y Z : A → Hearing) (a b : Option A) → Turns a b (λ o w. X o ≡ Y w) → ((w : A) → Y w ≡ Z w) → Turns a b (λ o w. X o ≡ Z w)
turns-by X Y Z None b t same = tt
turns-by X Y Z (Some o) None t same = absurd t
turns-by X Y Z (Some o) (Some w) t same = t ∙ same w

pub no-turn : {A : Type 0} (X : A → Hearing) (a : Option A) → Turns a a (λ o w. X o ≡ X w)
no-turn X None = tt
no-turn X (Some o) = refl

pub known-stops : {A : Type 0} (X : A → Hearing) (a : Option A) (e : ReadError) → WhereKnown a (λ o. X o ≡ ([], fault e)) → StopsBy e (option_map X a)
known-stops X None e h = tt
known-stops X (Some o) e h = inr (inr h)

-- ---- between commands
pub ended-gap : (n : ℕ) (is_behind : Bool) → ended n (gap is_behind) ≡ ([], clean)
ended-gap n true = refl
ended-gap n false = refl

-- ---- the requests of a batch
module _ (head : BatchHead) (qs : List Request) where
  pub few-settled : (rest : Progress → Hearing) → length qs < head.count → settled head qs rest ≡ rest (within head qs)
  few-settled rest few =
      let more : (length qs == head.count) ≡ false = grind arith in
      rw more refl

  pub all-settled : (rest : Progress → Hearing) → length qs ≡ head.count → settled head qs rest ≡ with_front (heard.Command (command.Batch (batch_of head qs))) (rest between)
  all-settled rest all =
      let whole : (length qs == head.count) ≡ true = grind arith in
      rw whole refl

-- ---- records that are passed over
module _ (n : ℕ) (f : Fields) where
  pub told-between : (is_behind : Bool) (rest : Progress → Hearing) → is_behind ≡ false → told n (gap is_behind) f rest ≡ begun n (opening_at f) rest
  told-between true rest plain = cc plain
  told-between false rest plain = refl

  pub told-named : (is_behind : Bool) (rest : Progress → Hearing) → names_command f ≡ true → told n (gap is_behind) f rest ≡ begun n (opening_at f) rest
  told-named true rest named = rw named refl
  told-named false rest named = refl

  pub told-passed : (is_behind : Bool) (rows : Rows) (m total : ℕ) → is_behind ≡ true → names_command f ≡ false → told n (gap is_behind) f (following rows m total) ≡ commands_of rows m 0 (gap is_behind)
  told-passed true rows m total passing other = rw other refl
  told-passed false rows m total passing other = cc passing

-- ---- what ends a reading of records
module _ (X : List ℕ → Rows) (a b : Option (List ℕ)) (keeps : Keeps a b) (n spent : ℕ) (room : spent ≤ MOST_BYTES) (progress : Progress) where
  pub stops-scan : (e : ReadError) → (e ≡ err.Memory) ⊎ (e ≡ err.Read) ⊎ ((e ≡ err.InputTooLong) × WhereKnown (option_map X b) (IsLonger (MOST_BYTES - spent)))
      → StopsBy e (hearing_of (option_map X a) n spent progress)
  stops-scan e (inl memory) = by-ends e (hearing_of (option_map X a) n spent progress) (inl memory)
  stops-scan e (inr (inl read)) = by-ends e (hearing_of (option_map X a) n spent progress) (inr read)
  stops-scan e (inr (inr (late, longer))) =
      rw late (by-keeps X (λ r. StopsBy err.InputTooLong (hearing_of r n spent progress)) a b tt keeps (is-longer n spent progress (option_map X b) room longer))

  pub ends-scan : WhereKnown (option_map X b) (EndsWithin (MOST_BYTES - spent)) → WhereKnown (option_map X a) (λ o. commands_of o n spent progress ≡ ended n progress)
  ends-scan h = by-keeps X (λ r. WhereKnown r (λ o. commands_of o n spent progress ≡ ended n progress)) a b tt keeps (is-ended n spent progress (option_map X b) room h)

  module _ (new : Option Rows) (f : Fields) (total : ℕ) (t : Turns (option_map X b) new (λ o w. o ≡ with_row (f, total - spent) w)) (few : spent ≤ total) (most : total ≤ MOST_BYTES) where
    pub told-scan : n + 1 ≤ LAST_RECORD → Turns (option_map X a) new (λ o w. commands_of o n spent progress ≡ told (n + 1) progress f (following w (n + 1) total))
    told-scan early =
        by-keeps X (λ r. Turns r new (λ o w. commands_of o n spent progress ≡ told (n + 1) progress f (following w (n + 1) total))) a b tt keeps
        (is-told n spent progress (option_map X b) new f (total - spent) total t (omega (arith, few)) most early)

    pub late-scan : n ≡ LAST_RECORD → StopsBy err.InputTooLong (hearing_of (option_map X a) n spent progress)
    late-scan late =
        by-keeps X (λ r. StopsBy err.InputTooLong (hearing_of r n spent progress)) a b tt keeps
        (is-late n spent progress (option_map X b) new f (total - spent) total t (omega (arith, few)) most late)
