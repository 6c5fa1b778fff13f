-- The records of a text, byte by byte.
use Rattle.std.proofs.Common.{◌≡◌, ◌∙◌, ◌≤◌, ◌+◌, ℕ, List, [], ◌∷◌, ◌++◌, Option, Some, None, true, false, subst, inl, inr, arith}
use Rattle.std.proofs.lemmas.Bool.{cases_Bool}
use Rattle.std.specs.Prelude.{option_map}
use Rattle.std.specs.Io.KnownBytes.{Consumes, IsAtEnd, Keeps}
use Rattle.commands.specs.Reader.{Turns, WhereKnown}
use Rattle.commands.specs.Rows.{EndsWithin, IsLonger, Rows, rows_from, with_row}
use Rattle.csv.specs.Machine.{ends_at_end, field_after, fields_after, is_end, step}
use Rattle.csv.specs.Reading.{default_config}
use Rattle.csv.specs.declared.parser.State.{State}
use Rattle.csv.specs.declared.parser.State.TheVariants as at
use Rattle.records.specs.Fields.{Fields}

-- bytes that are as they were have the same records
pub by-keeps : (X : List ℕ → Rows) (Q : Option Rows → Type 0) (a b : Option (List ℕ)) → Q None → Keeps a b → Q (option_map X b) → Q (option_map X a)
by-keeps X Q None b none keeps h = none
by-keeps X Q (Some xs) None none keeps h = absurd keeps
by-keeps X Q (Some xs) (Some ys) none keeps h = subst (λ (zs : List ℕ). Q (Some (X zs))) keeps h

-- where a further byte comes, a record has more of them
longer : (s : State) (fields : Fields) (field : List ℕ) (n k : ℕ) (c : ℕ) (rest : List ℕ) → k ≤ n → IsLonger k (rows_from s fields field n (c ∷ rest))
unfolding rows_from
longer s fields field n k c [] few = elim (cases_Bool (is_end (step default_config s c).1)) [
  | inl ends ↦ rw ends (omega (arith, few))
  | inr goes ↦ rw goes (elim (cases_Bool (ends_at_end (step default_config s c).0)) [
    | inl last ↦ rw last (omega (arith, few))
    | inr none ↦ rw none (omega (arith, few))
  ])
]
longer s fields field n k c (d ∷ rest) few = elim (cases_Bool (is_end (step default_config s c).1)) [
  | inl ends ↦ rw ends (omega (arith, few))
  | inr goes ↦ rw goes (longer (step default_config s c).0 (fields_after (step default_config s c).1 fields field) (field_after (step default_config s c).1 c field) (n + 1) k d rest (omega (arith, few)))
]

-- a record is read as far as this
module _ (X : List ℕ → Rows) (s : State) (fields : Fields) (field : List ℕ) (n : ℕ) where
  abbrev pub IsAt : Option (List ℕ) → Option (List ℕ) → Type 0
  IsAt a b = Turns a b (λ o w. X o ≡ rows_from s fields field n w)

  module _ (c : ℕ) (s2 : State) (fields2 : Fields) (m : ℕ) (leads : s2 ≡ (step default_config s c).0) (more : m ≡ n + 1)
      (after : fields2 ≡ fields_after (step default_config s c).1 fields field) where
    -- a byte that doesn't end it
    pub goes : (field2 : List ℕ) (a b d : Option (List ℕ)) → is_end (step default_config s c).1 ≡ false → field2 ≡ field_after (step default_config s c).1 c field
        → IsAt a b → Consumes b d (c ∷ []) → Turns a d (λ o w. X o ≡ rows_from s2 fields2 field2 m w)
    unfolding rows_from
    goes field2 None b d on joins t took = tt
    goes field2 (Some o) None d on joins t took = absurd t
    goes field2 (Some o) (Some w) None on joins t took = absurd took
    goes field2 (Some o) (Some w) (Some v) on joins t took = rw (leads, more, after, joins) (rw (took, on) at t)

    -- a byte that ends it
    pub ends : (a b d : Option (List ℕ)) → is_end (step default_config s c).1 ≡ true → IsAt a b → Consumes b d (c ∷ [])
        → Turns (option_map X a) (option_map (λ w. rows_from s2 [] [] 0 w) d) (λ old new. old ≡ with_row (fields2, m) new)
    unfolding rows_from
    ends None b d stop t took = tt
    ends (Some o) None d stop t took = absurd t
    ends (Some o) (Some w) None stop t took = absurd took
    ends (Some o) (Some w) (Some v) stop t took = rw (leads, more, after) (rw (took, stop) at t)

  -- there is a byte more
  pub too-long : (a b d : Option (List ℕ)) (c k : ℕ) → k ≤ n → IsAt a b → Consumes b d (c ∷ []) → WhereKnown (option_map X a) (IsLonger k)
  too-long None b d c k few t took = tt
  too-long (Some o) None d c k few t took = absurd t
  too-long (Some o) (Some w) None c k few t took = absurd took
  too-long (Some o) (Some w) (Some v) c k few t took = rw (t, took) (longer s fields field n k c v few)

  -- there is no byte more, and that ends it
  pub last : (s2 : State) (fields2 : Fields) (m : ℕ) (a b d : Option (List ℕ)) → ends_at_end s ≡ true → s2 ≡ at.StartRecord → fields2 ≡ fields ++ field ∷ [] → m ≡ n → IsAt a b → IsAtEnd b → Keeps b d
      → Turns (option_map X a) (option_map (λ w. rows_from s2 [] [] 0 w) d) (λ old new. old ≡ with_row (fields2, m) new)
  unfolding rows_from
  last s2 fields2 m None b d stop start after same t none keeps = tt
  last s2 fields2 m (Some o) None d stop start after same t none keeps = absurd t
  last s2 fields2 m (Some o) (Some w) None stop start after same t none keeps = absurd keeps
  last s2 fields2 m (Some o) (Some w) (Some v) stop start after same t none keeps =
      let over : v ≡ [] = keeps ∙ none in
      rw (start, after, same, over) (rw (none, stop) at t)

  -- there is no byte more, and no record
  pub no-record : (a b : Option (List ℕ)) (k : ℕ) → ends_at_end s ≡ false → n ≤ k → IsAt a b → IsAtEnd b → WhereKnown (option_map X a) (EndsWithin k)
  unfolding rows_from
  no-record None b k goes few t none = tt
  no-record (Some o) None k goes few t none = absurd t
  no-record (Some o) (Some w) k goes few t none =
      let is : X o ≡ ([], n) = rw (none, goes) at t in
      rw is few
