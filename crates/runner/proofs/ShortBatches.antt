-- Batches that are read have at most 1,024 requests.
use Rattle.std.proofs.Common.{◌≡◌, ◌≤◌, ◌+◌, ◌++◌, ℕ, List, [], ◌∷◌, length, Option, Some, None, inl, inr, subst, arith, codes}
use Rattle.std.specs.Prelude.{◌==◌, ◌&&◌, nat_le, Result, Ok, Err, IfOk}
use Rattle.std.proofs.lemmas.Bool.{cases_Bool}
use Rattle.std.specs.Str.Parse.{digits_value}
use Rattle.csv.specs.Records.{field_at}
use Rattle.requests.specs.BatchRecords.{head_at, head_fields, request_at, too_long, verdict_of}
use Rattle.requests.specs.Batches.{Progress, Reading, batches, begun, between, continued, reading_from, settled, within}
use Rattle.records.specs.Fields.{Fields, ◌>>=◌, in_range, is_numeral, is_text, number_at, number_in, said_by}
use Rattle.records.specs.Records.{records_in}
use Rattle.records.specs.declared.fault.FaultKind.{FaultKind}
use Rattle.records.specs.declared.fault.FaultKind.TheVariants as fault_kind
use Rattle.requests.specs.declared.request.Batch.{Batch}
use Rattle.requests.specs.declared.request.Request.{Request}

-- where a batch is being read, its head's count is within the limit
abbrev IsShortProgress : Progress → Type 0
IsShortProgress between = Unit {0}
IsShortProgress (within head requests) = head.count ≤ 1024

-- ---- the record that begins a batch
bind-ok : {A B : Type 0} (P : B → Type 0) (r : Result A FaultKind) (f : A → Result B FaultKind) → ((a : A) → IfOk (f a) P) → IfOk (r >>= f) P
bind-ok P (Ok a) f h = h a
bind-ok P (Err e) f h = tt

-- the same, where something is known of what is bound
bind-known : {A B : Type 0} (Q : A → Type 0) (P : B → Type 0) (r : Result A FaultKind) (f : A → Result B FaultKind) → IfOk r Q → ((a : A) → Q a → IfOk (f a) P) → IfOk (r >>= f) P
bind-known Q P (Ok a) f known h = h a known
bind-known Q P (Err e) f known h = tt

in_range-most : (low high n : ℕ) → IfOk (in_range low high n) (λ m. m ≤ high)
in_range-most low high n = elim (cases_Bool (nat_le low n && nat_le n high)) [
  | inl inside ↦ rw inside (grind arith)
  | inr outside ↦ rw outside tt
]

number_in-most : (low high : ℕ) (bytes : List ℕ) → IfOk (number_in low high bytes) (λ m. m ≤ high)
number_in-most low high bytes = elim (cases_Bool (is_numeral bytes)) [
  | inl numeral ↦ rw numeral (in_range-most low high (digits_value 10 bytes))
  | inr other ↦ rw other tt
]

said-most : (low high : ℕ) (field : Option (List ℕ)) → IfOk (said_by (number_in low high) field) (λ m. m ≤ high)
said-most low high None = tt
said-most low high (Some bytes) = number_in-most low high bytes

too_long-same : (P : ℕ → Type 0) (r : Result ℕ FaultKind) → IfOk r P → IfOk (too_long r) P
too_long-same P (Ok n) h = h
too_long-same P (Err fault_kind.OutOfRange) h = tt
too_long-same P (Err fault_kind.BadField) h = tt
too_long-same P (Err fault_kind.WrongCount) h = tt
too_long-same P (Err fault_kind.UnknownKind) h = tt
too_long-same P (Err fault_kind.BatchTooLong) h = tt

head_fields-short : (fields : Fields) → IfOk (head_fields fields) (λ head. IsShortProgress (within head []))
unfolding head_fields
head_fields-short fields =
    bind-ok _ (number_at fields 1 0 999999999999) _ (λ moment.
    bind-ok _ (verdict_of (field_at fields 2)) _ (λ verdict.
    bind-known (λ n. n ≤ 1024) _ (too_long (number_at fields 3 0 1024)) _ (too_long-same (λ n. n ≤ 1024) (number_at fields 3 0 1024) (said-most 0 1024 (field_at fields 3))) (λ count most. most)))

head-short : (fields : Fields) → IfOk (head_at fields) (λ head. IsShortProgress (within head []))
head-short fields = elim (cases_Bool (is_text (codes "B") (field_at fields 0))) [
  | inl begins ↦ rw begins (elim (cases_Bool (length fields == 4)) [
    | inl whole ↦ rw whole (head_fields-short fields)
    | inr other ↦ rw other tt
  ])
  | inr other ↦ rw other tt
]

-- ---- batches
abbrev pub IsShort : Batch → Type 0
IsShort batch = length batch.requests ≤ 1024

abbrev pub AreShort : List Batch → Type 0
AreShort [] = Unit {0}
AreShort (batch ∷ batches) = IsShort batch × AreShort batches

abbrev GivesShort : (Progress → Reading) → Type 0
GivesShort rest = (p : Progress) → IsShortProgress p → AreShort (rest p).0

settled-short : (head : _) (requests : List Request) (rest : Progress → Reading) → IsShortProgress (within head requests) → GivesShort rest → AreShort (settled head requests rest).0
settled-short head requests rest few h = elim (cases_Bool (length requests == head.count)) [
  | inl whole ↦ let short : length requests ≤ 1024 = grind arith in rw whole (short, h between tt)
  | inr more ↦ rw more (h (within head requests) few)
]

begun-short : (n : ℕ) (r : _) (rest : Progress → Reading) → IfOk r (λ head. IsShortProgress (within head [])) → GivesShort rest → AreShort (begun n r rest).0
begun-short n (Ok head) rest few h = settled-short head [] rest few h
begun-short n (Err s) rest few h = tt

continued-short : (n : ℕ) (head : _) (requests : List Request) (r : Result Request FaultKind) (rest : Progress → Reading) → IsShortProgress (within head requests) → GivesShort rest → AreShort (continued n head requests r rest).0
continued-short n head requests (Ok request) rest few h = settled-short head (requests ++ request ∷ []) rest few h
continued-short n head requests (Err s) rest few h = tt

reading-short : (rows : List Fields) (n : ℕ) (p : Progress) → IsShortProgress p → AreShort (reading_from rows n p).0
unfolding reading_from
reading-short [] n between few = tt
reading-short [] n (within head requests) few = tt
reading-short (r ∷ rs) n between few = begun-short n (head_at r) (reading_from rs (n + 1)) (head-short r) (λ p few. reading-short rs (n + 1) p few)
reading-short (r ∷ rs) n (within head requests) few = continued-short n head requests (request_at r) (reading_from rs (n + 1)) few (λ p few. reading-short rs (n + 1) p few)

short-in : (done : List Batch) (batch : Batch) (rest : List Batch) → AreShort (done ++ batch ∷ rest) → IsShort batch
short-in [] batch rest all = all.0
short-in (b ∷ done) batch rest all = short-in done batch rest all.1

-- so it is with each of the batches of a text
pub short_batch : (bytes : List ℕ) (done : List Batch) (batch : Batch) (rest : List Batch) → (batches bytes).0 ≡ done ++ batch ∷ rest → IsShort batch
short_batch bytes done batch rest parts = short-in done batch rest (subst AreShort parts (reading-short (records_in bytes) 1 between tt))
