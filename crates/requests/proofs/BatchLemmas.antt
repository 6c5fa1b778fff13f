-- How many batches there are.
use Rattle.std.proofs.Common.{◌≤◌, ◌+◌, ℕ, List, [], ◌∷◌, ◌++◌, length, arith, inl, inr}
use Rattle.std.specs.Prelude.{◌==◌, Result, Ok, Err}
use Rattle.std.proofs.lemmas.Bool.{cases_Bool}
use Rattle.requests.specs.BatchRecords.{head_at, request_at}
use Rattle.requests.specs.Batches.{Progress, Reading, batches, begun, between, continued, reading_from, settled, within}
use Rattle.records.specs.Fields.{Fields}
use Rattle.records.specs.Records.{records_in}
use Rattle.requests.specs.declared.batch_record.BatchHead.{BatchHead}
use Rattle.records.specs.declared.fault.FaultKind.{FaultKind}
use Rattle.requests.specs.declared.request.Request.{Request}
use Rattle.records.proofs.RecordLemmas.{length-records_in}

length-settled : (h : BatchHead) (qs : List Request) (rest : Progress → Reading) (n : ℕ) → ((p : Progress) → length (rest p).0 ≤ n) → length (settled h qs rest).0 ≤ n + 1
length-settled h qs rest n less = elim (cases_Bool (length qs == h.count)) [
  | inl whole ↦ rw whole (let k = less between in omega (arith, k))
  | inr more ↦ rw more (let k = less (within h qs) in omega (arith, k))
]

length-begun : (n : ℕ) (r : Result BatchHead FaultKind) (rest : Progress → Reading) (m : ℕ) → ((p : Progress) → length (rest p).0 ≤ m) → length (begun n r rest).0 ≤ m + 1
length-begun n (Ok h) rest m less = length-settled h [] rest m less
length-begun n (Err e) rest m less = omega arith

length-continued : (n : ℕ) (h : BatchHead) (qs : List Request) (r : Result Request FaultKind) (rest : Progress → Reading) (m : ℕ) → ((p : Progress) → length (rest p).0 ≤ m) → length (continued n h qs r rest).0 ≤ m + 1
length-continued n h qs (Ok q) rest m less = length-settled h (qs ++ q ∷ []) rest m less
length-continued n h qs (Err e) rest m less = omega arith

-- each batch has a record of its own
pub length-reading_from : (rows : List Fields) (n : ℕ) (p : Progress) → length (reading_from rows n p).0 ≤ length rows
unfolding reading_from
length-reading_from [] n between = omega arith
length-reading_from [] n (within h qs) = omega arith
length-reading_from (r ∷ rs) n between =
    let k = length-begun n (head_at r) (reading_from rs (n + 1)) (length rs) (λ p. length-reading_from rs (n + 1) p) in omega (arith, k)
length-reading_from (r ∷ rs) n (within h qs) =
    let k = length-continued n h qs (request_at r) (reading_from rs (n + 1)) (length rs) (λ p. length-reading_from rs (n + 1) p) in omega (arith, k)

pub length-batches : (bytes : List ℕ) → length (batches bytes).0 ≤ length bytes + 1
length-batches bytes =
    let k = length-reading_from (records_in bytes) 1 between in
    let m = length-records_in bytes in omega (arith, k, m)
