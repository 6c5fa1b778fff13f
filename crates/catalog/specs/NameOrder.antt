-- The customers, sorted for the search by last name.
use Rattle.std.specs.Prelude.{◌≡◌, ℕ, ◌+◌, ◌<◌, ◌≤◌, Bool, true, false, List, length, slice_index_or, count_by}
use Rattle.std.specs.Cmp.Lexicographic.{slice_cmp}
use Rattle.std.specs.List.Sorted.{IsPartitionPoint, IsPartitionedBy, IsSorted}
use Rattle.std.specs.Ordering.{eq_by_cmp, nat_cmp, ordering_then}
use Rattle.std.specs.declared.cmp.Ordering.{Ordering}
use Rattle.catalog.specs.declared.card.CustomerCard.{CustomerCard}
use Rattle.catalog.specs.declared.last_names.NamedCustomer.{NamedCustomer}

abbrev pub named : CustomerCard → NamedCustomer
named c = record { warehouse = c.warehouse; district = c.district; last = c.last; first = c.first; customer = c.customer }

-- a district and a last name in it
abbrev pub Name : Type 0
Name = ℕ × ℕ × List ℕ

abbrev pub name_of : NamedCustomer → Name
name_of c = (c.warehouse, c.district, c.last)

-- by C_W_ID, C_D_ID and C_LAST
abbrev pub name_cmp : Name → Name → Ordering
name_cmp a b = ordering_then (nat_cmp a.0 b.0) (ordering_then (nat_cmp a.1 b.1) (slice_cmp nat_cmp a.2 b.2))

-- then by C_FIRST and C_ID
abbrev pub named_cmp : NamedCustomer → NamedCustomer → Ordering
named_cmp a b = ordering_then (name_cmp (name_of a) (name_of b)) (ordering_then (slice_cmp nat_cmp a.first b.first) (nat_cmp a.customer b.customer))

-- the customers of these cards, each once, in that order
pub record AreInOrder (cards : List CustomerCard) (names : List NamedCustomer) : Type 0 where
  pub sorted : IsSorted named_cmp names
  pub same : (test : NamedCustomer → Bool) → count_by test names ≡ count_by (λ c. test (named c)) cards
  pub once : (c : NamedCustomer) → count_by (eq_by_cmp named_cmp c) names ≤ 1

abbrev pub has_name : Name → NamedCustomer → Bool
has_name t c = eq_by_cmp name_cmp (name_of c) t

-- where all who have the name come first, they are exactly the first `count`
abbrev pub EndsAt : Name → List NamedCustomer → ℕ → Type 0
EndsAt t names count = IsPartitionedBy (has_name t) names → IsPartitionPoint (λ c. has_name t c ≡ true) (λ c. has_name t c ≡ false) names count

-- exactly the `count` customers from `start` on have the name
pub record StandsAt (names : List NamedCustomer) (t : Name) (start count : ℕ) : Type 0 where
  pub within : start + count ≤ length names
  pub before : (i : ℕ) (d : NamedCustomer) → i < start → has_name t (slice_index_or names i d) ≡ false
  pub here : (i : ℕ) (d : NamedCustomer) → start ≤ i → i < start + count → has_name t (slice_index_or names i d) ≡ true
  pub behind : (i : ℕ) (d : NamedCustomer) → start + count ≤ i → i < length names → has_name t (slice_index_or names i d) ≡ false
