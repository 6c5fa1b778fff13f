-- The texts of several fields, read one by one.
use Rattle.std.proofs.Common.{◌≡◌, ◌+◌, ℕ, suc, List, [], ◌∷◌, ◌++◌, Result, Ok, Err, refl, ap, sym, subst, append-nil, append_assoc}
use Rattle.std.specs.Result.{IsErrAnd}
use Rattle.records.specs.Fields.{◌>>=◌, Fields, text_at}
use Rattle.records.specs.declared.fault.FaultKind.{FaultKind}
use Rattle.image_records.specs.Columns.{texts_at}
use Rattle.image_records.specs.Faults.{IsFaultOf, Reads}
use Rattle.image_records.specs.declared.record_fault.RecordFault.{RecordFault}
use Rattle.image_records.specs.declared.record_fault.RecordFault.TheVariants as record_fault

-- the texts so far, then those of `count` fields from index `i` on
abbrev pub texts_after : List (List ℕ) → Fields → ℕ → ℕ → Result (List (List ℕ)) FaultKind
texts_after so_far fields i count = texts_at fields i count 24 >>= λ texts. Ok (so_far ++ texts)

pub text_more : (so_far : List (List ℕ)) (fields : Fields) (i count rest : ℕ) (t : List ℕ) → count ≡ suc rest → text_at fields i 24 ≡ Ok t
    → texts_after so_far fields i count ≡ texts_after (so_far ++ t ∷ []) fields (i + 1) rest
unfolding texts_at
text_more so_far fields i count rest t more is = rw (more, is) (rest-of (texts_at fields (i + 1) rest 24))
  where
    rest-of : (r : Result (List (List ℕ)) FaultKind) → ((r >>= λ texts. Ok (t ∷ texts)) >>= λ texts. Ok (so_far ++ texts)) ≡ (r >>= λ texts. Ok ((so_far ++ t ∷ []) ++ texts))
    rest-of (Ok texts) = ap Ok (sym (append_assoc so_far (t ∷ []) texts))
    rest-of (Err e) = refl

pub text_refused : (so_far : List (List ℕ)) (fields : Fields) (i count rest : ℕ) (e : FaultKind) → count ≡ suc rest → text_at fields i 24 ≡ Err e → texts_after so_far fields i count ≡ Err e
unfolding texts_at
text_refused so_far fields i count rest e more is = rw (more, is) refl

-- before the first and after the last
pub texts_begin : (fields : Fields) (i count : ℕ) → texts_at fields i count 24 ≡ texts_after [] fields i count
texts_begin fields i count = rest-of (texts_at fields i count 24)
  where
    rest-of : (r : Result (List (List ℕ)) FaultKind) → r ≡ (r >>= λ texts. Ok texts)
    rest-of (Ok texts) = refl
    rest-of (Err e) = refl

pub texts_end : (so_far : List (List ℕ)) (fields : Fields) (i count : ℕ) → count ≡ 0 → texts_after so_far fields i count ≡ Ok so_far
unfolding texts_at
texts_end so_far fields i count none = rw none (ap Ok (append-nil so_far))

-- a record's fault, as the code returns it
pub read_fault : {A : Type 0} (definition : Result A FaultKind) (result : Result A RecordFault) (e : FaultKind) → definition ≡ Err e → IsErrAnd result (λ fault. fault ≡ record_fault.OfKind e) → Reads definition result
read_fault definition (Ok x) e is by = absurd by
read_fault definition (Err fault) e is by = subst (IsFaultOf definition) (sym by) is
