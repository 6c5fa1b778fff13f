-- One reading for runs and for sessions.
use Rattle.std.proofs.Common.{◌≡◌, ◌⊎◌, ◌∙◌, ◌+◌, ℕ, List, [], ◌∷◌, ◌++◌, length, map, Option, Some, None, true, false, refl, sym, ap, inl, inr, subst}
use Rattle.std.proofs.lemmas.Bool.{cases_Bool}
use Rattle.std.proofs.lemmas.Slice.Eq.{bytes_eq-Decides}
use Rattle.std.specs.Prelude.{◌==◌, Result, Ok, Err, codes, nat_lt}
use Rattle.csv.specs.Machine.{Read, ends_at_end, field_after, fields_after, is_end, next_record, step}
use Rattle.csv.specs.Records.{field_at}
use Rattle.csv.specs.Reading.{default_config, records_next, strip_bom}
use Rattle.csv.specs.declared.parser.State.{State}
use Rattle.csv.specs.declared.parser.State.TheVariants as at
use Rattle.commands.specs.CommandRecords.{alone_at, opening_at, rollback_at}
use Rattle.commands.specs.Commands.{Hearing, Progress, behind, begun, between, commands, commands_from, continued, counted, fault_at, measured, numbered, settled, with_front, within}
use Rattle.commands.specs.Laws.{BatchesAreHeard, HearsAlike, RowsAreRecords, as_heard}
use Rattle.commands.specs.Rows.{Row, rows_from, rows_in}
use Rattle.commands.specs.declared.command.Control.{Control}
use Rattle.commands.specs.declared.command.Control.TheVariants as control
use Rattle.commands.specs.declared.command.Command.TheVariants as command
use Rattle.commands.specs.declared.command.Heard.{Heard}
use Rattle.commands.specs.declared.command.Heard.TheVariants as heard
use Rattle.commands.specs.declared.command_record.Opening.{Opening}
use Rattle.commands.specs.declared.command_record.Opening.TheVariants as opening
use Rattle.commands.specs.declared.record_reader.TheConstants.{LAST_RECORD, MOST_BYTES}
use Rattle.records.proofs.RecordLemmas.{records_after-none, records_after-some}
use Rattle.records.specs.Fields.{Fields, ◌>>=◌, is_text}
use Rattle.records.specs.Records.{records_after}
use Rattle.records.specs.declared.fault.ReadError.TheVariants as err
use Rattle.records.specs.declared.fault.FaultKind.{FaultKind}
use Rattle.records.specs.declared.fault.FaultKind.TheVariants as fault_kind
use Rattle.requests.specs.BatchRecords.{head_at, request_at}
use Rattle.requests.specs.Batches as Run
use Rattle.requests.specs.Batches.{End, Reading, batch_of, batches, clean, fault, reading_from}
use Rattle.requests.specs.declared.batch_record.BatchHead.{BatchHead}
use Rattle.requests.specs.declared.request.Batch.{Batch}
use Rattle.requests.specs.declared.request.Request.{Request}

-- ---- records
-- the records from a state on are the next, and those after it
after-next : (s : State) (xs : List ℕ) → records_after s (Some xs) ≡ records_next (λ t ys. records_after t (Some ys)) (next_record default_config s [] [] xs)
after-next s xs = by (next_record default_config s [] [] xs) refl
  where
    by : (o : Option Read) → next_record default_config s [] [] xs ≡ o → records_after s (Some xs) ≡ records_next (λ t ys. records_after t (Some ys)) (next_record default_config s [] [] xs)
    by None e = records_after-none s xs e ∙ sym (ap (records_next (λ t ys. records_after t (Some ys))) e)
    by (Some p) e = records_after-some s xs p e ∙ sym (ap (records_next (λ t ys. records_after t (Some ys))) e)

rows-are-next : (s : State) (fields : Fields) (field : List ℕ) (n : ℕ) (xs : List ℕ)
    → map (λ row. row.0) (rows_from s fields field n xs).0 ≡ records_next (λ t ys. records_after t (Some ys)) (next_record default_config s fields field xs)
unfolding rows_from next_record
rows-are-next s fields field n [] = elim (cases_Bool (ends_at_end s)) [
  | inl ends ↦ rw ends (ap (λ (rs : List Fields). (fields ++ field ∷ []) ∷ rs) (sym (records_after-none at.StartRecord [] refl)))
  | inr goes ↦ rw goes refl
]
rows-are-next s fields field n (c ∷ rest) = elim (cases_Bool (is_end (step default_config s c).1)) [
  | inl ends ↦ rw ends (ap (λ (rs : List Fields). fields_after (step default_config s c).1 fields field ∷ rs)
      (rows-are-next (step default_config s c).0 [] [] 0 rest ∙ sym (after-next (step default_config s c).0 rest)))
  | inr goes ↦ rw goes (rows-are-next (step default_config s c).0 (fields_after (step default_config s c).1 fields field) (field_after (step default_config s c).1 c field) (n + 1) rest)
]

pub rows_are_records : RowsAreRecords
rows_are_records bytes = rows-are-next at.StartRecord [] [] 0 (strip_bom bytes) ∙ sym (after-next at.StartRecord (strip_bom bytes))

-- ---- openings
-- it begins no batch
IsNoBatch : Result Opening FaultKind → Type 0
IsNoBatch (Ok (opening.Batch head)) = ⊥
IsNoBatch (Ok (opening.Control c)) = Unit {0}
IsNoBatch (Err e) = Unit {0}

control-no-batch : (x : Result Control FaultKind) → IsNoBatch (x >>= (λ c. Ok (opening.Control c)))
unfolding IsNoBatch
control-no-batch (Ok c) = tt
control-no-batch (Err e) = tt

-- a record that doesn't name a batch
not-batch : (r : Fields) → is_text (codes "B") (field_at r 0) ≡ false → IsNoBatch (opening_at r)
unfolding IsNoBatch
not-batch r other = elim (cases_Bool (is_text (codes "C") (field_at r 0))) [
  | inl c ↦ rw c (control-no-batch (alone_at r control.Commit))
  | inr c ↦ rw c (elim (cases_Bool (is_text (codes "R") (field_at r 0))) [
    | inl back ↦ rw back (control-no-batch (rollback_at r))
    | inr back ↦ rw back (elim (cases_Bool (is_text (codes "T") (field_at r 0))) [
      | inl t ↦ rw t (control-no-batch (alone_at r control.State))
      | inr t ↦ rw t (elim (cases_Bool (is_text (codes "I") (field_at r 0))) [
        | inl i ↦ rw i (control-no-batch (alone_at r control.Image))
        | inr i ↦ rw i (elim (cases_Bool (is_text (codes "A") (field_at r 0))) [
          | inl a ↦ rw a (control-no-batch (alone_at r control.At))
          | inr a ↦ rw (a, other) tt
        ])
      ])
    ])
  ])
]

-- a record that names a batch
names-batch : (o : Option (List ℕ)) → is_text (codes "B") o ≡ true → o ≡ Some (codes "B")
names-batch None is = cc is
names-batch (Some bytes) is = ap (λ (b : List ℕ). Some b) ((bytes_eq-Decides bytes (codes "B")).0 is)

opening-of-batch : (r : Fields) → is_text (codes "B") (field_at r 0) ≡ true → opening_at r ≡ (head_at r >>= (λ head. Ok (opening.Batch head)))
opening-of-batch r is = rw (names-batch (field_at r 0) is) refl

head-of-other : (r : Fields) → is_text (codes "B") (field_at r 0) ≡ false → head_at r ≡ Err fault_kind.UnknownKind
head-of-other r other = rw other refl

-- ---- readings
abbrev Alike : Reading → Hearing → Type 0
Alike reading hearing = (hearing.1 ≡ fault err.InputTooLong) ⊎ HearsAlike reading hearing

-- the progress of a run, as one of a session
abbrev mine : Run.Progress → Progress
mine Run.between = between
mine (Run.within head requests) = within head requests

measured-alike : (size : ℕ) (reading : Reading) (hearing : Hearing) → Alike reading hearing → Alike reading (measured size hearing)
measured-alike size reading hearing h = elim (cases_Bool (nat_lt MOST_BYTES size)) [ inl long ↦ rw long (inl refl) | inr short ↦ rw short h ]

numbered-alike : (n : ℕ) (reading : Reading) (hearing : Hearing) → Alike reading hearing → Alike reading (numbered n hearing)
numbered-alike n reading hearing h = elim (cases_Bool (nat_lt LAST_RECORD n)) [ inl late ↦ rw late (inl refl) | inr early ↦ rw early h ]

-- a batch before both
front : (b : Batch) (reading : Reading) (hearing : Hearing) → Alike reading hearing → Alike (Run.with_front b reading) (with_front (as_heard b) hearing)
front b reading hearing (inl late) = inl late
front b (read, clean) hearing (inr is) = inr (ap (λ (h : Hearing). with_front (as_heard b) h) is)
front b (read, fault e) hearing (inr (rest, is, begins)) = inr (rest, ap (λ (hs : List Heard). as_heard b ∷ hs) is, begins)

module _ (readings : Run.Progress → Reading) (hearings : Progress → Hearing) (more : (p : Run.Progress) → Alike (readings p) (hearings (mine p))) where
  settled-alike : (head : BatchHead) (qs : List Request) → Alike (Run.settled head qs readings) (settled head qs hearings)
  settled-alike head qs = elim (cases_Bool (length qs == head.count)) [
    | inl whole ↦ rw whole (front (batch_of head qs) (readings Run.between) (hearings between) (more Run.between))
    | inr less ↦ rw less (more (Run.within head qs))
  ]

  continued-alike : (n : ℕ) (head : BatchHead) (qs : List Request) (x : Result Request FaultKind) → Alike (Run.continued n head qs x readings) (continued n head qs x hearings)
  continued-alike n head qs (Ok q) = settled-alike head (qs ++ q ∷ [])
  continued-alike n head qs (Err s) = inr (fault_at n s ∷ (hearings behind).0, refl, inl refl)

  headed-alike : (n : ℕ) (x : Result BatchHead FaultKind) → Alike (Run.begun n x readings) (begun n (x >>= (λ head. Ok (opening.Batch head))) hearings)
  headed-alike n (Ok head) = settled-alike head []
  headed-alike n (Err s) = inr (fault_at n s ∷ (hearings behind).0, refl, inl refl)

  other-alike : (n : ℕ) (x : Result Opening FaultKind) → IsNoBatch x → Alike (Run.begun n (Err fault_kind.UnknownKind) readings) (begun n x hearings)
  unfolding IsNoBatch
  other-alike n (Ok (opening.Batch head)) kind = absurd kind
  other-alike n (Ok (opening.Control c)) kind = inr (heard.Command (command.Control c) ∷ (hearings between).0, refl, (n, refl))
  other-alike n (Err s) kind = inr (fault_at n s ∷ (hearings behind).0, refl, inr refl)

  begun-alike : (n : ℕ) (r : Fields) → Alike (Run.begun n (head_at r) readings) (begun n (opening_at r) hearings)
  begun-alike n r = elim (cases_Bool (is_text (codes "B") (field_at r 0))) [
    | inl is ↦ subst (λ (x : Result Opening FaultKind). Alike (Run.begun n (head_at r) readings) (begun n x hearings)) (sym (opening-of-batch r is)) (headed-alike n (head_at r))
    | inr other ↦ subst (λ (x : Result BatchHead FaultKind). Alike (Run.begun n x readings) (begun n (opening_at r) hearings)) (sym (head-of-other r other)) (other-alike n (opening_at r) (not-batch r other))
  ]

alike : (rows : List Row) (rest n spent : ℕ) (p : Run.Progress) → Alike (reading_from (map (λ row. row.0) rows) (n + 1) p) (commands_from rows rest n spent (mine p))
unfolding commands_from reading_from
alike [] rest n spent Run.between = measured-alike (spent + rest) ([], clean) ([], clean) (inr refl)
alike [] rest n spent (Run.within head qs) = measured-alike (spent + rest) ([], fault (err.WrongCount (n + 1))) ([], fault (err.WrongCount (n + 1))) (inr ([], refl, refl))
alike (row ∷ rows) rest n spent Run.between =
    measured-alike (spent + row.1) _ _ (numbered-alike (n + 1) _ _
    (begun-alike (reading_from (map (λ row. row.0) rows) (n + 1 + 1)) (λ progress. commands_from rows rest (n + 1) (counted (spent + row.1) progress) progress)
    (λ p. alike rows rest (n + 1) (counted (spent + row.1) (mine p)) p) (n + 1) row.0))
alike (row ∷ rows) rest n spent (Run.within head qs) =
    measured-alike (spent + row.1) _ _ (numbered-alike (n + 1) _ _
    (continued-alike (reading_from (map (λ row. row.0) rows) (n + 1 + 1)) (λ progress. commands_from rows rest (n + 1) (counted (spent + row.1) progress) progress)
    (λ p. alike rows rest (n + 1) (counted (spent + row.1) (mine p)) p) (n + 1) head qs (request_at row.0)))

pub batches_are_heard : BatchesAreHeard
batches_are_heard bytes =
    subst (λ (rs : List Fields). Alike (reading_from rs 1 Run.between) (commands bytes)) (rows_are_records bytes) (alike (rows_in bytes).0 (rows_in bytes).1 0 0 Run.between)
