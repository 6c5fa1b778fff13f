-- The customers in the order of their names: where a last name stands, and which customer it means.
use Rattle.std.proofs.Common.{◌≡◌, ℕ, ◌<◌, ◌≤◌, List, length, get_or, Bool, true, false, ◌&&◌, refl, ap, ◌∙◌, arith, nat_eq}
use Rattle.std.specs.Cmp.{IsTotalOrder, both_tied, unsigned_ties}
use Rattle.std.specs.Cmp.Lexicographic.{slice_cmp, lists_ties}
use Rattle.std.specs.List.Sorted.{IsPartitionedBy}
use Rattle.std.specs.Ordering.{eq_by_cmp, is_eq, is_gt, is_lt, nat_cmp, ordering_reverse, ordering_then}
use Rattle.std.specs.declared.cmp.Ordering.{Ordering}
use Rattle.std.specs.declared.cmp.Ordering.TheVariants.{Less, Equal, Greater}
use Rattle.std.proofs.lemmas.Cmp.{nat_cmp_total, nat_list_cmp_total, on_total, then_total, tied_itself, upto}
use Rattle.std.proofs.lemmas.List.Sorted.{ranks_by, sorted_far}
use Rattle.std.proofs.lemmas.Map.Lookups.{exact_bytes, exact_pairs, exact_unsigned}
use Rattle.catalog.specs.declared.card.CustomerCard.{CustomerCard}
use Rattle.catalog.specs.declared.last_names.NamedCustomer.{NamedCustomer}
use Rattle.catalog.specs.LastNames.{is_holder}
use Rattle.catalog.specs.NameOrder.{AreInOrder, Name, name_cmp, name_of, named, named_cmp}
use Rattle.catalog.proofs.Counts.{two_counted}

-- ---- the orders are total, and only equal names tie
pub name_cmp_total : IsTotalOrder name_cmp
name_cmp_total = then_total (on_total (λ (n : Name). n.0) nat_cmp_total) (then_total (on_total (λ (n : Name). n.1) nat_cmp_total) (on_total (λ (n : Name). n.2) nat_list_cmp_total))

pub named_cmp_total : IsTotalOrder named_cmp
named_cmp_total = then_total (on_total name_of name_cmp_total) (then_total (on_total (λ c. c.first) nat_list_cmp_total) (on_total (λ c. c.customer) nat_cmp_total))

nested : (p q : ℕ × (ℕ × List ℕ)) → ordering_then (nat_cmp p.0 q.0) (ordering_then (nat_cmp p.1.0 q.1.0) (slice_cmp nat_cmp p.1.1 q.1.1)) ≡ Equal → p ≡ q
nested = exact_pairs nat_cmp (λ x y. ordering_then (nat_cmp x.0 y.0) (slice_cmp nat_cmp x.1 y.1)) exact_unsigned (exact_pairs nat_cmp (slice_cmp nat_cmp) exact_unsigned exact_bytes)

pub exact_names : (a b : Name) → name_cmp a b ≡ Equal → a ≡ b
exact_names a b h = ap (λ (p : ℕ × (ℕ × List ℕ)). (p.0, p.1.0, p.1.1)) (nested (a.0, (a.1, a.2)) (b.0, (b.1, b.2)) h)

whole : (p q : Name × (List ℕ × ℕ)) → ordering_then (name_cmp p.0 q.0) (ordering_then (slice_cmp nat_cmp p.1.0 q.1.0) (nat_cmp p.1.1 q.1.1)) ≡ Equal → p ≡ q
whole = exact_pairs name_cmp (λ x y. ordering_then (slice_cmp nat_cmp x.0 y.0) (nat_cmp x.1 y.1)) exact_names (exact_pairs (slice_cmp nat_cmp) nat_cmp exact_bytes exact_unsigned)

pub exact_named : (a b : NamedCustomer) → named_cmp a b ≡ Equal → a ≡ b
exact_named a b h =
    ap (λ (p : Name × (List ℕ × ℕ)). record { warehouse = p.0.0; district = p.0.1; last = p.0.2; first = p.1.0; customer = p.1.1 })
    (whole (name_of a, (a.first, a.customer)) (name_of b, (b.first, b.customer)) h)

and_assoc : (a b c : Bool) → ((a && b) && c) ≡ (a && (b && c))
and_assoc true b c = refl
and_assoc false b c = refl

-- a customer has the name where its name ties
pub holder_ties : (w d : ℕ) (last : List ℕ) (c : CustomerCard) → is_holder w d last c ≡ eq_by_cmp name_cmp (name_of (named c)) (w, d, last)
holder_ties w d last c =
    and_assoc (nat_eq c.warehouse w) (nat_eq c.district d) _
    ∙ both_tied (nat_eq c.warehouse w) _ _ _ (unsigned_ties c.warehouse w)
    (both_tied (nat_eq c.district d) _ _ _ (unsigned_ties c.district d) (lists_ties nat_cmp unsigned_ties c.last last))

-- ---- by cases of an order's answer
pub is_less : (o : Ordering) → is_lt o ≡ true → o ≡ Less
is_less Less h = refl
is_less Equal h = cc
is_less Greater h = cc

pub is_equal : (o : Ordering) → is_eq o ≡ true → o ≡ Equal
is_equal Less h = cc
is_equal Equal h = refl
is_equal Greater h = cc

only_equal : (o : Ordering) → is_lt o ≡ false → is_gt o ≡ false → is_eq o ≡ true
only_equal Less h g = cc
only_equal Equal h g = refl
only_equal Greater h g = cc

pub less_not_equal : (o : Ordering) → is_lt o ≡ true → is_eq o ≡ false
less_not_equal Less h = refl
less_not_equal Equal h = cc
less_not_equal Greater h = refl

equal_not_greater : (o : Ordering) → is_eq o ≡ true → is_gt o ≡ false
equal_not_greater Less h = refl
equal_not_greater Equal h = refl
equal_not_greater Greater h = cc

first_not_greater : (o p : Ordering) → is_lt (ordering_then o p) ≡ false → is_gt (ordering_reverse o) ≡ false
first_not_greater Less p h = cc
first_not_greater Equal p h = refl
first_not_greater Greater p h = refl

-- what is at most b is below what b is below
below : (a b t : Name) (o : Ordering) → name_cmp a b ≡ o → is_gt o ≡ false → is_lt (name_cmp b t) ≡ true → is_lt (name_cmp a t) ≡ true
below a b t Less e h g = ap is_lt (name_cmp_total.trans a b t e (is_less _ g))
below a b t Equal e h g = ap is_lt (name_cmp_total.congr a b t e) ∙ g
below a b t Greater e h g = cc

module _ (cards : List CustomerCard) (names : List NamedCustomer) (are : AreInOrder cards names) where
  pub ordered : (i j : ℕ) (d : NamedCustomer) → i ≤ j → j < length names → is_lt (named_cmp (get_or names j d) (get_or names i d)) ≡ false
  ordered = sorted_far (λ x y. is_lt (named_cmp x y)) (ranks_by named_cmp_total (λ c. c)) names are.sorted

  -- none comes twice
  pub strictly : (i j : ℕ) (d : NamedCustomer) → i < j → j < length names → (o : Ordering) → named_cmp (get_or names j d) (get_or names i d) ≡ o → is_lt o ≡ false → named_cmp (get_or names i d) (get_or names j d) ≡ Less
  strictly i j d rising short Less e h = cc
  strictly i j d rising short Equal e h =
      let twice = two_counted (eq_by_cmp named_cmp (get_or names j d)) names i j d rising short (ap is_eq e) (ap is_eq (tied_itself named_cmp_total (get_or names j d))) in
      let once = are.once (get_or names j d) in
      absurd (omega arith)
  strictly i j d rising short Greater e h = named_cmp_total.antisymm (get_or names i d) (get_or names j d) ∙ ap ordering_reverse e

  rises : (i j : ℕ) (d : NamedCustomer) → i ≤ j → j < length names → is_gt (name_cmp (name_of (get_or names i d)) (name_of (get_or names j d))) ≡ false
  rises i j d rising short =
      let up = first_not_greater (name_cmp (name_of (get_or names j d)) (name_of (get_or names i d))) _ (ordered i j d rising short) in
      ap is_gt (name_cmp_total.antisymm (name_of (get_or names i d)) (name_of (get_or names j d))) ∙ up

  -- a search by name finds where the name begins, and from there where it ends
  pub partitioned_below : (t : Name) → IsPartitionedBy (λ c. is_lt (name_cmp (name_of c) t)) names
  partitioned_below t i j d rising short h = below _ _ t _ refl (rises i j d rising short) h

  pub partitioned_at : (t : Name) (start : ℕ) → ((k : ℕ) (d : NamedCustomer) → start ≤ k → k < length names → is_lt (name_cmp (name_of (get_or names k d)) t) ≡ false) → (i j : ℕ) (d : NamedCustomer) → start ≤ i → i ≤ j → j < length names
      → eq_by_cmp name_cmp (name_of (get_or names j d)) t ≡ true → eq_by_cmp name_cmp (name_of (get_or names i d)) t ≡ true
  partitioned_at t start above i j d from rising short h =
      only_equal _ (above i d from (omega arith)) (upto name_cmp_total _ _ t (rises i j d rising short) (equal_not_greater _ h))
