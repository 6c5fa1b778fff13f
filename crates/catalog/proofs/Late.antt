-- Cards in order, and late ones in place of others.
use Rattle.std.proofs.Common.{◌≡◌, Bool, true, false, ◌||◌, cond, List, [], ◌∷◌, ◌++◌, length, Option, Result, Ok, Err, Some, None, refl, sym, ap, ap₂, subst, ◌∙◌, inl, inr, arith}
use Rattle.std.specs.BTreeMap.{is_at}
use Rattle.std.specs.Map.{lookup}
use Rattle.std.specs.Prelude.{IfOk, OnErr, is_some}
use Rattle.std.specs.FinMap.{entries, find, from_entries, get, get-entries, get-from_entries, get-insert, insert, same_map}
use Rattle.std.specs.Option.{option_or}
use Rattle.std.specs.Ordering.{eq_by_cmp}
use Rattle.std.proofs.lemmas.Bool.{cases_Bool}
use Rattle.tpcc_rows.proofs.Maps.{get_value, one_put}
use Rattle.tpcc_rows.proofs.Singles.{tied}
use Rattle.catalog.specs.declared.card.Card.{Card}
use Rattle.catalog.specs.declared.card.CardKey.{CardKey}
use Rattle.catalog.specs.CardMap.{Cards, card_key_cmp, firsts, over}
use Rattle.catalog.proofs.CardKeys.{card_key_cmp_total, exact_cards}
use Rattle.catalog.proofs.InOrder.{find-both, some-or}

abbrev pub Entries : Type 0
Entries = List (CardKey × Card)

pub get-over : (late : Entries) (m : Cards) (q : CardKey) → get (over late m) q ≡ option_or (find card_key_cmp q late) (get m q)
get-over late m q =
    get-from_entries card_key_cmp_total (late ++ entries m) q ∙ find-both q late (entries m) ∙ ap (option_or (find card_key_cmp q late)) (sym (get-entries m q))

pub over-none : (late : Entries) (m : Cards) → late ≡ [] → over late m ≡ m
over-none late m none = same_map card_key_cmp_total exact_cards _ _ (λ q. get-over late m q ∙ ap (λ (es : Entries). option_or (find card_key_cmp q es) (get m q)) none)

chosen : (b : Bool) (x : Card) (o p : Option Card) → option_or (cond b (Some x) o) p ≡ cond b (Some x) (option_or o p)
chosen true x o p = refl
chosen false x o p = refl

-- what is found where one card more was put
find-put : (old new : Entries) (k : CardKey) (x : Card) → from_entries {R = card_key_cmp} new ≡ insert (from_entries old) k x → (q : CardKey)
    → find card_key_cmp q new ≡ cond (eq_by_cmp card_key_cmp q k) (Some x) (find card_key_cmp q old)
find-put old new k x put q =
    sym (get-from_entries card_key_cmp_total new q) ∙ ap (λ (m : Cards). get m q) put ∙ get-insert card_key_cmp_total (from_entries old) k x q
    ∙ ap (cond (eq_by_cmp card_key_cmp q k) (Some x)) (get-from_entries card_key_cmp_total old q)

-- one late card more
pub over-late : (old new : Entries) (m : Cards) (k : CardKey) (x : Card) → from_entries {R = card_key_cmp} new ≡ insert (from_entries old) k x → over new m ≡ insert (over old m) k x
over-late old new m k x put = same_map card_key_cmp_total exact_cards _ _ (λ q.
    get-over new m q ∙ ap (λ o. option_or o (get m q)) (find-put old new k x put q) ∙ chosen (eq_by_cmp card_key_cmp q k) x (find card_key_cmp q old) (get m q)
    ∙ sym (get-insert card_key_cmp_total (over old m) k x q ∙ ap (cond (eq_by_cmp card_key_cmp q k) (Some x)) (get-over old m q)))

-- a list in front, of which none has the key, and an entry of it
apart : (late : Entries) (k q : CardKey) (x : Card) (o : Option Card) → find card_key_cmp k late ≡ None
    → option_or (find card_key_cmp q late) (cond (eq_by_cmp card_key_cmp q k) (Some x) o) ≡ cond (eq_by_cmp card_key_cmp q k) (Some x) (option_or (find card_key_cmp q late) o)
apart late k q x o none = elim (cases_Bool (eq_by_cmp card_key_cmp q k)) [
  | inl same ↦
      let none-here : find card_key_cmp q late ≡ None = ap (λ j. find card_key_cmp j late) (exact_cards q k (tied _ same)) ∙ none in
      ap₂ (λ f b. option_or f (cond b (Some x) o)) none-here same ∙ sym (ap (λ b. cond b (Some x) (option_or (find card_key_cmp q late) o)) same)
  | inr other ↦
      ap (λ b. option_or (find card_key_cmp q late) (cond b (Some x) o)) other ∙ sym (ap (λ b. cond b (Some x) (option_or (find card_key_cmp q late) o)) other)
]

-- one card more in order
pub over-next : (late : Entries) (m : Cards) (k : CardKey) (x : Card) → find card_key_cmp k late ≡ None → over late (insert m k x) ≡ insert (over late m) k x
over-next late m k x none = same_map card_key_cmp_total exact_cards _ _ (λ q.
    get-over late (insert m k x) q ∙ ap (option_or (find card_key_cmp q late)) (get-insert card_key_cmp_total m k x q) ∙ apart late k q x (get m q) none
    ∙ sym (get-insert card_key_cmp_total (over late m) k x q ∙ ap (cond (eq_by_cmp card_key_cmp q k) (Some x)) (get-over late m q)))

-- ---- the earlier ones brought to the late ones
pub left-out : (late rest : Entries) (k : CardKey) (x : Card) → is_some (find card_key_cmp k late) ≡ true → firsts (late ++ (k, x) ∷ rest) ≡ firsts (late ++ rest)
left-out late rest k x there = same_map card_key_cmp_total exact_cards _ _ (λ q.
    get-from_entries card_key_cmp_total (late ++ (k, x) ∷ rest) q ∙ find-both q late ((k, x) ∷ rest) ∙ elim (cases_Bool (eq_by_cmp card_key_cmp q k)) [
      | inl same ↦ hidden (find card_key_cmp q late) _ _ (ap (λ j. is_some (find card_key_cmp j late)) (exact_cards q k (tied _ same)) ∙ there)
      | inr other ↦ ap (λ b. option_or (find card_key_cmp q late) (cond b (Some x) (find card_key_cmp q rest))) other
    ] ∙ sym (get-from_entries card_key_cmp_total (late ++ rest) q ∙ find-both q late rest))
  where
    hidden : (o p r : Option Card) → is_some o ≡ true → option_or o p ≡ option_or o r
    hidden None p r h = cc
    hidden (Some y) p r h = refl

pub brought : (old new rest : Entries) (k : CardKey) (x : Card) → find card_key_cmp k old ≡ None → from_entries {R = card_key_cmp} new ≡ insert (from_entries old) k x
    → firsts (new ++ rest) ≡ firsts (old ++ (k, x) ∷ rest)
brought old new rest k x none put = same_map card_key_cmp_total exact_cards _ _ (λ q.
    get-from_entries card_key_cmp_total (new ++ rest) q ∙ find-both q new rest ∙ ap (λ o. option_or o (find card_key_cmp q rest)) (find-put old new k x put q)
    ∙ chosen (eq_by_cmp card_key_cmp q k) x (find card_key_cmp q old) (find card_key_cmp q rest) ∙ sym (apart old k q x (find card_key_cmp q rest) none)
    ∙ sym (get-from_entries card_key_cmp_total (old ++ (k, x) ∷ rest) q ∙ find-both q old ((k, x) ∷ rest)))

-- ---- what a tree of late cards says
pub looked-up : (es : Entries) (q : CardKey) → lookup (is_at (card_key_cmp q)) es ≡ find card_key_cmp q es
looked-up es q = sym (get_value card_key_cmp_total exact_cards es q) ∙ get-from_entries card_key_cmp_total es q

pub over-updated : (old new : Entries) (m : Cards) (k own : CardKey) (x : Card) → k ≡ own
    → ((q : CardKey) → lookup (is_at (card_key_cmp q)) new ≡ cond (is_at (card_key_cmp k) q) (Some x) (lookup (is_at (card_key_cmp q)) old))
    → over new m ≡ insert (over old m) own x
over-updated old new m k own x is updates =
    over-late old new m k x (one_put card_key_cmp_total exact_cards old new k x updates) ∙ ap (λ q. insert (over old m) q x) is

pub twin-late : (late : Entries) (m : Cards) (k : CardKey) → is_some (find card_key_cmp k late) ≡ true → is_some (get (over late m) k) ≡ true
twin-late late m k there = ap is_some (get-over late m k) ∙ some-or (find card_key_cmp k late) (get m k) ∙ ap (λ b. b || is_some (get m k)) there

pub twin-in_order : (late : Entries) (m : Cards) (k : CardKey) → is_some (find card_key_cmp k late) ≡ false → is_some (get (over late m) k) ≡ is_some (get m k)
twin-in_order late m k none = ap is_some (get-over late m k) ∙ some-or (find card_key_cmp k late) (get m k) ∙ ap (λ b. b || is_some (get m k)) none

pub is-none : (o : Option Card) → is_some o ≡ false → o ≡ None
is-none None h = refl
is-none (Some x) h = cc

-- what is true of the cards before and of those with one more is true of those that are there
pub kept : {E : Type 0} (r : Result (Option Card) E) (given : Card) (old new : Cards) (P : Cards → Type 0) → (r ≡ Ok None → P new)
    → IfOk r (λ back. is_some back ≡ true → (back ≡ Some given) × (new ≡ old)) → OnErr r (new ≡ old) → P old → P new
kept (Ok None) given old new P taken back err was = taken refl
kept (Ok (Some x)) given old new P taken back err was = subst P (sym (back refl).1) was
kept (Err e) given old new P taken back err was = subst P (sym err) was

pub none-left : (es : Entries) → length es ≡ 0 → es ≡ []
none-left [] h = refl
none-left (e ∷ es) h = absurd (omega (arith, h))
