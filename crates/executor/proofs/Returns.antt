-- A chain that is back at one of its states.
use Rattle.std.proofs.Common.{◌≡◌, ◌≢◌, ◌<◌, ◌⊎◌, ℕ, zero, suc, inl, inr, List, [], ◌∷◌, ◌++◌, length, take, drop, get_or, Some, None, slice_get, refl, ap, sym, ◌∙◌, arith}
use Rattle.std.proofs.lemmas.List.{append-nil, get_or_append_left, length_push}
use Rattle.std.proofs.lemmas.Option.{get_or_from_slice_get}
use Rattle.std.specs.List.{position}
use Rattle.tpcc_model.specs.Serial.{State}
use Rattle.executor.specs.Chains.{HasNone, IsReturned, Chain, states}
use Rattle.executor.proofs.ChainFacts.{found-at, is_numbered, none-at}

-- the present state is the last one
last-of : (earlier : List State) (present d : State) → get_or (earlier ++ present ∷ []) (length earlier) d ≡ present
last-of [] present d = refl
last-of (s ∷ earlier) present d = last-of earlier present d

module _ (chain : Chain) (n : ℕ) where
  pub returned-here : chain.present.sequence ≡ n → IsReturned n chain chain
  returned-here here = record { cards = refl; present = here; gone = ([], sym (append-nil (states chain))) }

  pub has-present : chain.present.sequence ≡ n → HasNone n chain → ⊥
  has-present here none =
      let size = length_push chain.earlier chain.present in
      none (length chain.earlier) chain.present (omega (arith, size)) (ap (λ (s : State). s.sequence) (last-of chain.earlier chain.present chain.present) ∙ here)

  pub has-none : chain.present.sequence ≢ n → position (is_numbered n) chain.earlier ≡ None → HasNone n chain
  has-none other none k d inside same =
      let size = length_push chain.earlier chain.present in
      let cases : (k < length chain.earlier) ⊎ (k ≡ length chain.earlier) = grind (arith, inside, size) in
      elim cases [
        | inl before ↦ none-at n chain.earlier none k d before (ap (λ (s : State). s.sequence) (sym (get_or_append_left chain.earlier (chain.present ∷ []) d k before)) ∙ same)
        | inr last ↦ other (ap (λ (s : State). s.sequence) (sym (last-of chain.earlier chain.present d) ∙ ap (λ m. get_or (states chain) m d) (sym last)) ∙ same)
      ]

  pub has-point : (i : ℕ) → position (is_numbered n) chain.earlier ≡ Some i → HasNone n chain → ⊥
  has-point i is none =
      let found = found-at n chain.earlier i chain.present is in
      let inside = found.0 in
      let size = length_push chain.earlier chain.present in
      none i chain.present (omega (arith, inside, size)) (ap (λ (s : State). s.sequence) (get_or_append_left chain.earlier (chain.present ∷ []) chain.present i inside) ∙ found.1)

-- the states up to one of them, and those after it
split-at : (earlier : List State) (present back : State) (i : ℕ) → slice_get earlier i ≡ Some back → earlier ++ present ∷ [] ≡ (take i earlier ++ back ∷ []) ++ (drop (suc i) earlier ++ present ∷ [])
split-at [] present back i at = let no : None ≡ Some back = at in cc
split-at (s ∷ earlier) present back zero at = let same : s ≡ back = cc in ap (λ (t : State). t ∷ (earlier ++ present ∷ [])) same
split-at (s ∷ earlier) present back (suc i) at = ap (λ (ss : List State). s ∷ ss) (split-at earlier present back i at)

pub returned-to : (old new : Chain) (n i : ℕ) → new.cards ≡ old.cards → new.earlier ≡ take i old.earlier → slice_get old.earlier i ≡ Some new.present → position (is_numbered n) old.earlier ≡ Some i → IsReturned n old new
returned-to old new n i cards earlier at is = record {
  cards = cards;
  present = ap (λ (s : State). s.sequence) (sym (get_or_from_slice_get old.earlier i new.present new.present at)) ∙ (found-at n old.earlier i new.present is).1;
  gone = (drop (suc i) old.earlier ++ old.present ∷ [], split-at old.earlier old.present new.present i at ∙ ap (λ (ss : List State). (ss ++ new.present ∷ []) ++ (drop (suc i) old.earlier ++ old.present ∷ [])) (sym earlier));
}
