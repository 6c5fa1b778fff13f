-- The lines of a new order, as a loop reads them.
use Rattle.std.proofs.Common.{◌≡◌, ◌∙◌, ◌+◌, ◌*◌, ◌-◌, ◌<◌, ◌≤◌, ℕ, suc, List, [], ◌∷◌, ◌++◌, refl, sym, ap, arith, append-nil, append_assoc}
use Rattle.std.specs.Prelude.{Result, Ok, Err}
use Rattle.records.specs.Fields.{◌>>=◌, Fields}
use Rattle.requests.specs.RequestRecords.{ordered_line_at, ordered_lines_at}
use Rattle.records.specs.declared.fault.FaultKind.{FaultKind}
use Rattle.requests.specs.declared.request.OrderedLine.{OrderedLine}

-- these lines, and then those
abbrev pub then_more : List OrderedLine → Result (List OrderedLine) FaultKind → Result (List OrderedLine) FaultKind
then_more lines more = more >>= λ rest. Ok (lines ++ rest)

joined : (lines : List OrderedLine) (line : OrderedLine) (more : Result (List OrderedLine) FaultKind) → then_more lines (more >>= λ rest. Ok (line ∷ rest)) ≡ then_more (lines ++ line ∷ []) more
joined lines line (Ok rest) = ap Ok (sym (append_assoc lines (line ∷ []) rest))
joined lines line (Err e) = refl

module _ (fields : Fields) (n count : ℕ) (below : n < count) where
  -- a line, and then those after it
  abbrev and_after : Result OrderedLine FaultKind → Result (List OrderedLine) FaultKind
  and_after said = said >>= λ line. ordered_lines_at fields (4 + 3 * (n + 1)) (count - (n + 1)) >>= λ rest. Ok (line ∷ rest)

  next-line : ordered_lines_at fields (4 + 3 * n) (count - n) ≡ and_after (ordered_line_at fields (4 + 3 * n))
  unfolding ordered_lines_at
  next-line =
      let left : count - n ≡ suc (count - (n + 1)) = omega arith in
      let place : 4 + 3 * (n + 1) ≡ (4 + 3 * n) + 3 = omega arith in
      rw (left, place) refl

  -- one line more
  pub then_more-line : (lines : List OrderedLine) (line : OrderedLine) → Ok line ≡ ordered_line_at fields (4 + 3 * n)
      → then_more lines (ordered_lines_at fields (4 + 3 * n) (count - n)) ≡ then_more (lines ++ line ∷ []) (ordered_lines_at fields (4 + 3 * (n + 1)) (count - (n + 1)))
  then_more-line lines line is =
      ap (then_more lines) (next-line ∙ ap and_after (sym is)) ∙ joined lines line (ordered_lines_at fields (4 + 3 * (n + 1)) (count - (n + 1)))

  -- a line at fault
  pub then_more-fault : (lines : List OrderedLine) (e : FaultKind) → Err e ≡ ordered_line_at fields (4 + 3 * n) → then_more lines (ordered_lines_at fields (4 + 3 * n) (count - n)) ≡ Err e
  then_more-fault lines e is = ap (then_more lines) (next-line ∙ ap and_after (sym is))

-- no line left
pub then_more-all : (fields : Fields) (i n count : ℕ) (lines : List OrderedLine) → count ≤ n → then_more lines (ordered_lines_at fields i (count - n)) ≡ Ok lines
unfolding ordered_lines_at
then_more-all fields i n count lines all =
    let none : count - n ≡ 0 = omega arith in
    rw none (ap Ok (append-nil lines))
