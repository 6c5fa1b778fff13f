-- Cards, each at its own key, after one card more.
use Rattle.std.proofs.Common.{◌≡◌, List, [], ◌∷◌, ◌++◌, map, cond, Bool, ◌||◌, true, false, Option, Some, None, refl, sym, ap, ap₂, subst, ◌∙◌, inl, inr, Bor}
use Rattle.std.specs.Prelude.{is_some, option_copied}
use Rattle.std.specs.List.{list_any}
use Rattle.std.specs.Ordering.{eq_by_cmp}
use Rattle.std.specs.FinMap.{get, insert, find, from_entries, get-from_entries, get-insert, same_map}
use Rattle.std.proofs.lemmas.Bool.{cases_Bool}
use Rattle.std.proofs.lemmas.List.Folds.{list_any-append}
use Rattle.catalog.specs.declared.card.CardKey.{CardKey}
use Rattle.catalog.specs.declared.card.Card.{Card}
use Rattle.catalog.specs.CardKinds.{card_key}
use Rattle.catalog.specs.CardMap.{AreKeyed, Cards, card_key_cmp, cards_of, has_key, has_twins, keyed}
use Rattle.catalog.proofs.CardKeys.{card_key_cmp_total, exact_cards}
use Rattle.tpcc_rows.proofs.Singles.{entry_of, tied, ties_itself}

pub keyed-none : (es : List (CardKey × Card)) → es ≡ [] → AreKeyed (from_entries es)
keyed-none es h k c there =
    let none : get (from_entries {R = card_key_cmp} es) k ≡ None = get-from_entries card_key_cmp_total es k ∙ ap (λ (t : List (CardKey × Card)). find card_key_cmp k t) h in
    let no : None ≡ Some c = sym none ∙ there in
    cc

pub keyed-insert : (m : Cards) (key : CardKey) (card : Card) → card_key card ≡ key → AreKeyed m → AreKeyed (insert m key card)
keyed-insert m key card own are q c h = elim (entry_of card_key_cmp_total exact_cards m key card q c h) [
  | inl e ↦ sym (ap card_key e.1) ∙ own ∙ sym e.0
  | inr was ↦ are q c was
]

-- a reference in an option says as much as what it points to
pub some-copied : {X : Type 0} (o : Option (Bor X)) → is_some o ≡ is_some (option_copied o)
some-copied None = refl
some-copied (Some x) = refl

-- ---- cards in turn
find-end : (seen : List Card) (card : Card) (q : CardKey) → find card_key_cmp (card_key card) (map keyed seen) ≡ None
    → find card_key_cmp q (map keyed (seen ++ card ∷ [])) ≡ cond (eq_by_cmp card_key_cmp q (card_key card)) (Some card) (find card_key_cmp q (map keyed seen))
find-end [] card q fresh = refl
find-end (c ∷ seen) card q fresh = elim (cases_Bool (eq_by_cmp card_key_cmp (card_key card) (card_key c))) [
  | inl same ↦
      let some : find card_key_cmp (card_key card) (map keyed (c ∷ seen)) ≡ Some c = ap (λ b. cond b (Some c) (find card_key_cmp (card_key card) (map keyed seen))) same in
      cc
  | inr apart ↦
      let later : find card_key_cmp (card_key card) (map keyed seen) ≡ None = sym (ap (λ b. cond b (Some c) (find card_key_cmp (card_key card) (map keyed seen))) apart) ∙ fresh in
      ap (λ o. cond (eq_by_cmp card_key_cmp q (card_key c)) (Some c) o) (find-end seen card q later)
      ∙ turned (eq_by_cmp card_key_cmp q (card_key c)) (eq_by_cmp card_key_cmp q (card_key card)) c card (find card_key_cmp q (map keyed seen))
      (λ one two. let e : card_key card ≡ card_key c = sym (exact_cards q (card_key card) (tied _ two)) ∙ exact_cards q (card_key c) (tied _ one) in
      let yes : eq_by_cmp card_key_cmp (card_key card) (card_key c) ≡ true = subst (λ k. eq_by_cmp card_key_cmp (card_key card) k ≡ true) e (ties_itself card_key_cmp_total exact_cards (card_key card)) in
      let no : true ≡ false = sym yes ∙ apart in cc)
]
  where
    turned : (a b : Bool) (x y : Card) (o : Option Card) → (a ≡ true → b ≡ true → ⊥) → cond a (Some x) (cond b (Some y) o) ≡ cond b (Some y) (cond a (Some x) o)
    turned true true x y o h = absurd (h refl refl)
    turned true false x y o h = refl
    turned false b x y o h = refl

-- one card more, whose key none of those before has
pub cards_of-more : (seen : List Card) (card : Card) → get (cards_of seen) (card_key card) ≡ None → cards_of (seen ++ card ∷ []) ≡ insert (cards_of seen) (card_key card) card
cards_of-more seen card fresh =
    let unseen : find card_key_cmp (card_key card) (map keyed seen) ≡ None = sym (get-from_entries card_key_cmp_total (map keyed seen) (card_key card)) ∙ fresh in
    same_map card_key_cmp_total exact_cards _ _ (λ q.
    get-from_entries card_key_cmp_total (map keyed (seen ++ card ∷ [])) q ∙ find-end seen card q unseen
    ∙ sym (get-insert card_key_cmp_total (cards_of seen) (card_key card) card q
    ∙ ap (cond (eq_by_cmp card_key_cmp q (card_key card)) (Some card)) (get-from_entries card_key_cmp_total (map keyed seen) q)))

-- a key finds a card where one of the cards has it
any-find : (seen : List Card) (q : CardKey) → list_any (has_key q) seen ≡ is_some (find card_key_cmp q (map keyed seen))
any-find [] q = refl
any-find (c ∷ seen) q =
    let later = any-find seen q in
    elim (has_key q c) as (λ here. (here || list_any (has_key q) seen) ≡ is_some (cond here (Some c) (find card_key_cmp q (map keyed seen)))) [ true ↦ refl | false ↦ later ]

pub any-get : (seen : List Card) (q : CardKey) → list_any (has_key q) seen ≡ is_some (get (cards_of seen) q)
any-get seen q = any-find seen q ∙ sym (ap is_some (get-from_entries card_key_cmp_total (map keyed seen) q))

-- one card more, whose key none of those before has
pub has_twins-fresh : (seen : List Card) (card : Card) → list_any (has_key (card_key card)) seen ≡ false → has_twins (seen ++ card ∷ []) ≡ has_twins seen
has_twins-fresh [] card fresh = refl
has_twins-fresh (c ∷ seen) card fresh =
    let apart = neither (has_key (card_key card) c) _ fresh in
    ap₂ (λ a b. a || b)
    (list_any-append (λ twin. has_key (card_key twin) c) seen (card ∷ []) ∙ last (list_any (λ twin. has_key (card_key twin) c) seen) (has_key (card_key card) c) apart.0)
    (has_twins-fresh seen card apart.1)
  where
    neither : (a b : Bool) → (a || b) ≡ false → (a ≡ false) × (b ≡ false)
    neither true b none = cc
    neither false b none = (refl, none)

    last : (a b : Bool) → b ≡ false → (a || (b || false)) ≡ a
    last true b none = refl
    last false b none = rw none refl

-- a card whose key one of those before has
pub has_twins-seen : (seen : List Card) (card : Card) (rest : List Card) → list_any (has_key (card_key card)) seen ≡ true → has_twins (seen ++ card ∷ rest) ≡ true
has_twins-seen [] card rest there = cc
has_twins-seen (c ∷ seen) card rest there = elim (has_key (card_key card) c) as (λ here. has_key (card_key card) c ≡ here → (here || list_any (has_key (card_key card)) seen) ≡ true
    → (list_any (λ twin. has_key (card_key twin) c) (seen ++ card ∷ rest) || has_twins (seen ++ card ∷ rest)) ≡ true) [
      | true ↦ λ is found. ap (λ b. b || has_twins (seen ++ card ∷ rest)) (list_any-append (λ twin. has_key (card_key twin) c) seen (card ∷ rest)
          ∙ ap (λ b. list_any (λ twin. has_key (card_key twin) c) seen || (b || list_any (λ twin. has_key (card_key twin) c) rest)) is ∙ or_true _)
      | false ↦ λ is found. ap (λ b. list_any (λ twin. has_key (card_key twin) c) (seen ++ card ∷ rest) || b) (has_twins-seen seen card rest found) ∙ or_true _
    ] refl there
  where
    or_true : (a : Bool) → (a || true) ≡ true
    or_true true = refl
    or_true false = refl
