-- Batches are read from how they are written.
use Rattle.std.proofs.Common.{◌≡◌, ◌∙◌, ◌+◌, ℕ, suc, List, [], ◌∷◌, ◌++◌, length, true, false, refl, ap, ap₂, arith, length-append, Some, map, add-zero, append-nil, zero-add, append_assoc}
use Rattle.std.specs.Prelude.{◌==◌, All, Ok}
use Rattle.std.specs.List.{flat_map}
use Rattle.std.proofs.lemmas.List.{map-append}
use Rattle.std.proofs.lemmas.List.Elements.{All-head, All-tail}
use Rattle.csv.specs.Reading.{strip_bom}
use Rattle.csv.specs.Records.{field_at}
use Rattle.csv.specs.Writing.{read_back}
use Rattle.requests.specs.BatchRecords.{head_at, head_fields, verdict_of}
use Rattle.requests.specs.Batches.{Reading, batch_of, batches, between, clean, reading_from, settled, with_front}
use Rattle.records.specs.Fields.{Fields}
use Rattle.records.specs.Records.{records_in}
use Rattle.requests.specs.BatchText.{IsReadBatch, batch_records, batches_text, head_record, request_record, verdict_text}
use Rattle.requests.specs.Requests.{IsReadRequest}
use Rattle.requests.specs.declared.batch_record.BatchHead.{BatchHead}
use Rattle.requests.specs.declared.request.Batch.{Batch}
use Rattle.requests.specs.declared.request.Request.{Request}
use Rattle.requests.specs.declared.request.Request.TheVariants as request
use Rattle.requests.specs.declared.request.Verdict.{Verdict}
use Rattle.requests.specs.declared.request.Verdict.TheVariants as verdict
use Rattle.requests.proofs.RequestRoundTrip.{request_at-request_record}
use Rattle.records.proofs.SpellingLemmas.{number-read, records_after-text}

verdict-read : (v : Verdict) → verdict_of (Some (verdict_text v)) ≡ Ok v
verdict-read verdict.Commit = refl
verdict-read verdict.Rerun = refl

abbrev head_of : Batch → BatchHead
head_of b = record { moment = b.moment; verdict = b.verdict; count = length b.requests }

-- the head of a batch is read from its record
head-read : (b : Batch) → IsReadBatch b → head_at (head_record b) ≡ Ok (head_of b)
unfolding field_at head_fields
head-read b h = rw (
  number-read 0 999999999999 b.moment h.moment (omega arith),
  verdict-read b.verdict,
  number-read 0 1024 (length b.requests) (omega arith, h.count) (omega arith),
) refl

-- the rest of a batch
rest-read : (h : BatchHead) (qs done : List Request) (rs : List Fields) (n : ℕ) → All IsReadRequest qs → length done + length qs ≡ h.count
    → settled h done (reading_from (map request_record qs ++ rs) n) ≡ with_front (batch_of h (done ++ qs)) (reading_from rs (n + length qs) between)
unfolding reading_from
rest-read h [] done rs n all is =
    let whole : (length done == h.count) ≡ true = grind arith in
    rw (whole, append-nil done, add-zero n) refl
rest-read h (q ∷ qs) done rs n all is =
    let more : (length done == h.count) ≡ false = grind arith in
    let read = request_at-request_record q (All-head IsReadRequest q qs all) in
    let count : length (done ++ q ∷ []) + length qs ≡ h.count = omega (arith, length-append done (q ∷ []), is) in
    let rest = rest-read h qs (done ++ q ∷ []) rs (n + 1) (All-tail IsReadRequest q qs all) count in
    let number : (n + 1) + length qs ≡ n + suc (length qs) = omega arith in
    rw (more, read) (rest ∙ ap₂ (λ (xs : List Request) (k : ℕ). with_front (batch_of h xs) (reading_from rs k between)) (append_assoc done (q ∷ []) qs) number)

records-read : (bs : List Batch) (n : ℕ) → All IsReadBatch bs → reading_from (flat_map batch_records bs) n between ≡ (bs, clean)
unfolding reading_from
records-read [] n all = refl
records-read (b ∷ bs) n all =
    let fits = All-head IsReadBatch b bs all in
    let rest = rest-read (head_of b) b.requests [] (flat_map batch_records bs) (n + 1) fits.requests (zero-add (length b.requests)) in
    let more = records-read bs ((n + 1) + length b.requests) (All-tail IsReadBatch b bs all) in
    rw (head-read b fits) (rest ∙ ap (λ (r : Reading). with_front b r) more)

-- the text begins with no byte order mark
strip_bom-letter : (xs : List ℕ) → strip_bom (66 ∷ xs) ≡ 66 ∷ xs
unfolding strip_bom
strip_bom-letter [] = refl
strip_bom-letter (a ∷ []) = refl
strip_bom-letter (a ∷ b ∷ rest) = refl

strip_bom-batches_text : (bs : List Batch) → strip_bom (batches_text bs) ≡ batches_text bs
unfolding strip_bom
strip_bom-batches_text [] = refl
strip_bom-batches_text (b ∷ bs) = strip_bom-letter _

-- each record has a field, so it is read as it was written
read_back-request : (q : Request) → read_back (request_record q) ≡ request_record q
read_back-request (request.NewOrder r) = refl
read_back-request (request.Payment r) = refl
read_back-request (request.OrderStatus r) = refl
read_back-request (request.Delivery r) = refl
read_back-request (request.StockLevel r) = refl

read_back-requests : (qs : List Request) → map read_back (map request_record qs) ≡ map request_record qs
read_back-requests [] = refl
read_back-requests (q ∷ qs) = ap₂ (λ (r : Fields) (rs : List Fields). r ∷ rs) (read_back-request q) (read_back-requests qs)

read_back-batches : (bs : List Batch) → map read_back (flat_map batch_records bs) ≡ flat_map batch_records bs
read_back-batches [] = refl
read_back-batches (b ∷ bs) =
    ap (λ (rs : List Fields). head_record b ∷ rs)
    (map-append read_back (map request_record b.requests) (flat_map batch_records bs)
    ∙ ap₂ (λ (xs ys : List Fields). xs ++ ys) (read_back-requests b.requests) (read_back-batches bs))

pub batches-batches_text : (bs : List Batch) → All IsReadBatch bs → batches (batches_text bs) ≡ (bs, clean)
batches-batches_text bs all =
    let written : records_in (batches_text bs) ≡ flat_map batch_records bs = rw (strip_bom-batches_text bs) (records_after-text (flat_map batch_records bs) ∙ read_back-batches bs) in
    rw written (records-read bs 1 all)
