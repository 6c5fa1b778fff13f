-- A set of items with one item more.
use Rattle.std.proofs.Common.{◌≡◌, ◌+◌, ℕ, nat_eq, Bool, true, false, not, cond, ◌||◌, List, ◌∷◌, length, inl, inr, sym, ap, ◌∙◌, arith}
use Rattle.std.proofs.lemmas.Bool.{cases_eq}
use Rattle.std.proofs.lemmas.Bool.Decides.{nat_tests}
use Rattle.std.specs.BTreeMap.{is_at}
use Rattle.std.specs.BTreeSet.{BTreeSet, Updates, contains}
use Rattle.std.specs.Ordering.{nat_cmp}
use Rattle.std.specs.Set.{distinct_count, is_member, unique_keys}
use Rattle.transactions.specs.LowItems.{IsHeld}

module _ (old new : BTreeSet ℕ) (item : ℕ) (items : List ℕ) (held : IsHeld old items) where
  member_more : Updates nat_cmp old new item true → (q : ℕ) → contains nat_cmp new q ≡ is_member nat_eq (item ∷ items) q
  member_more updates q = updates.0 q ∙ elim (cases_eq q item) [
    | inl e ↦
        let at : is_at (nat_cmp item) q ≡ true = grind (arith, nat_tests) in
        let same : nat_eq q item ≡ true = grind (arith, nat_tests) in
        ap (λ b. cond b true (contains nat_cmp old q)) at ∙ sym (ap (λ b. b || is_member nat_eq items q) same)
    | inr apart ↦
        let at : is_at (nat_cmp item) q ≡ false = grind (arith, nat_tests) in
        let other : nat_eq q item ≡ false = grind (arith, nat_tests) in
        ap (λ b. cond b true (contains nat_cmp old q)) at ∙ held.members q ∙ sym (ap (λ b. b || is_member nat_eq items q) other)
  ]

  count_more : length new.keys ≡ length old.keys + cond (not (contains nat_cmp old item)) 1 0 → length new.keys ≡ distinct_count nat_eq (item ∷ items)
  count_more len = len ∙ ap (λ n. n + cond (not (contains nat_cmp old item)) 1 0) held.count ∙ ap (λ b. distinct_count nat_eq items + cond (not b) 1 0) (held.members item) ∙ at (is_member nat_eq items item)
    where
      at : (b : Bool) → distinct_count nat_eq items + cond (not b) 1 0 ≡ length (cond b (unique_keys nat_eq items) (item ∷ unique_keys nat_eq items))
      at true = omega arith
      at false = omega arith

  pub held-more : Updates nat_cmp old new item true → length new.keys ≡ length old.keys + cond (not (contains nat_cmp old item)) 1 0 → IsHeld new (item ∷ items)
  held-more updates len = record { members = member_more updates; count = count_more len }
