-- The records of answers other than a batch's.
use Rattle.std.specs.Prelude.{ℕ, List, [], ◌∷◌, ◌++◌, codes, decimal, length}
use Rattle.catalog.specs.CardMap.{Cards}
use Rattle.commands.specs.declared.command.RecordFault.{RecordFault}
use Rattle.executor.specs.Refusals.{refusal_code, refusal_name}
use Rattle.executor.specs.declared.refusal.Refusal.{Refusal}
use Rattle.records.specs.Faults.{code_of, name_of}
use Rattle.records.specs.Fields.{Fields}
use Rattle.records.specs.Spelling.{text_of_record}
use Rattle.requests.specs.Batches.{fault_of}
use Rattle.runner.specs.StoredRuns.{state_image}
use Rattle.runner.specs.Text.{token_digits}
use Rattle.tpcc_model.specs.Serial.{State}

-- `commit,SEQ`: the number of the batch
abbrev pub commit_fields : ℕ → Fields
commit_fields sequence = codes "commit" ∷ decimal sequence ∷ []

abbrev pub commit_text : ℕ → List ℕ
commit_text sequence = text_of_record (commit_fields sequence)

-- a word, the number of a state, and its token
abbrev pub told_fields : List ℕ → ℕ → List ℕ → Fields
told_fields word sequence token = word ∷ decimal sequence ∷ token_digits token ∷ []

abbrev pub told_text : List ℕ → ℕ → List ℕ → List ℕ
told_text word sequence token = text_of_record (told_fields word sequence token)

-- `rollback,SEQ,TOKEN`
abbrev pub rollback_text : State → List ℕ
rollback_text state = told_text (codes "rollback") state.sequence state.token

-- `state,SEQ,TOKEN`
abbrev pub state_text : State → List ℕ
state_text state = told_text (codes "state") state.sequence state.token

-- `image,SEQ,LENGTH`: the number of a state, and how many bytes its image has
abbrev pub image_fields : ℕ → ℕ → Fields
image_fields sequence count = codes "image" ∷ decimal sequence ∷ decimal count ∷ []

abbrev pub image_head : ℕ → ℕ → List ℕ
image_head sequence count = text_of_record (image_fields sequence count)

-- and after it the image
abbrev pub image_answer : Cards → State → List ℕ
image_answer cards state =
    let image = state_image cards state in
    image_head state.sequence (length image) ++ image

-- `refused,CODE,Name`
abbrev pub refused_fields : Refusal → Fields
refused_fields refusal = codes "refused" ∷ decimal (refusal_code refusal) ∷ refusal_name refusal ∷ []

abbrev pub refused_text : Refusal → List ℕ
refused_text refusal = text_of_record (refused_fields refusal)

-- `fault,CODE,Name,RECORD`: what is wrong with a record, and its number
abbrev pub fault_fields : RecordFault → Fields
fault_fields f = codes "fault" ∷ decimal (code_of (fault_of f.number f.kind)) ∷ name_of (fault_of f.number f.kind) ∷ decimal f.number ∷ []

abbrev pub fault_text : RecordFault → List ℕ
fault_text f = text_of_record (fault_fields f)
