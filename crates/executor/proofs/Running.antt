-- A run, one batch more.
use Rattle.std.proofs.Common.{◌≡◌, ℕ, zero, suc, ◌+◌, ◌<◌, List, [], ◌∷◌, ◌++◌, length, take, get_or, refl, sym, ap, subst, ◌∙◌, arith}
use Rattle.catalog.specs.CardMap.{Cards}
use Rattle.requests.specs.declared.request.Batch.{Batch}
use Rattle.tpcc_model.specs.Serial.{State, after_batch, serial}
use Rattle.executor.specs.Executions.{IsRecordOf}
use Rattle.executor.specs.Chains.{Chain, extended}
use Rattle.executor.specs.Paths.{path_of}
use Rattle.executor.specs.Runs.{AreRecordsOf, alone, chain_after}
use Rattle.executor.specs.declared.record.Record.{Record}

pub serial-more : (cards : Cards) (state : State) (done : List Batch) (batch : Batch) → serial cards state (done ++ batch ∷ []) ≡ after_batch cards (serial cards state done) batch
serial-more cards state [] batch = refl
serial-more cards state (first ∷ done) batch = serial-more cards (after_batch cards state first) done batch

-- the chain of one state, after one batch more
pub chain_more : (chain : Chain) (done : List Batch) (batch : Batch) → alone (extended (chain_after chain done) batch) ≡ chain_after chain (done ++ batch ∷ [])
chain_more chain [] batch = refl
chain_more chain (first ∷ done) batch =
    ap (λ (s : State). let l : Chain = record { cards = chain.cards; earlier = []; present = s } in l) (sym (serial-more chain.cards chain.present (first ∷ done) batch))

-- one record more
pub records_more : (cards : Cards) (state : State) (batches : List Batch) (records : List Record) (batch : Batch) (r : Record) → length records < length batches → batch ≡ get_or batches (length records) batch
    → AreRecordsOf cards state batches records → IsRecordOf cards (serial cards state (take (length records) batches)) batch (path_of cards (serial cards state (take (length records) batches)) batch) r
    → AreRecordsOf cards state batches (records ++ r ∷ [])
records_more cards state [] records batch r below at are is = absurd (omega (arith, below))
records_more cards state (b ∷ batches) [] batch r below at are is =
    (subst (λ (d : Batch). IsRecordOf cards state d (path_of cards state d) r) at is, tt)
records_more cards state (b ∷ batches) (first ∷ records) batch r below at are is =
    (are.0, records_more cards (after_batch cards state b) batches records batch r (omega (arith, below)) at are.1 is)

pub take_more : (batches : List Batch) (i : ℕ) (batch : Batch) → i < length batches → batch ≡ get_or batches i batch → take (i + 1) batches ≡ take i batches ++ batch ∷ []
take_more [] i batch below at = absurd (omega (arith, below))
take_more (b ∷ batches) zero batch below at = ap (λ (d : Batch). d ∷ []) (sym at)
take_more (b ∷ batches) (suc i) batch below at =
    ap (λ (n : ℕ). take n (b ∷ batches)) (let same : suc i + 1 ≡ suc (i + 1) = omega arith in same)
    ∙ ap (λ (ds : List Batch). b ∷ ds) (take_more batches i batch (omega (arith, below)) at)

-- the record of a batch that met the chain after those before it
pub record_at : (chain now : Chain) (done : List Batch) (batch : Batch) (r : Record) → now ≡ chain_after chain done → IsRecordOf now.cards now.present batch (path_of now.cards now.present batch) r
    → IsRecordOf chain.cards (serial chain.cards chain.present done) batch (path_of chain.cards (serial chain.cards chain.present done) batch) r
record_at chain now [] batch r at is = subst (λ (l : Chain). IsRecordOf l.cards l.present batch (path_of l.cards l.present batch) r) at is
record_at chain now (first ∷ done) batch r at is = subst (λ (l : Chain). IsRecordOf l.cards l.present batch (path_of l.cards l.present batch) r) at is
