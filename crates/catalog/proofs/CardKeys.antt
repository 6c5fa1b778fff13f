-- The order of the keys of cards: it is total, and only equal keys tie.
use Rattle.std.proofs.Common.{◌≡◌, ℕ, ap}
use Rattle.std.specs.Cmp.{IsTotalOrder}
use Rattle.std.specs.Ordering.{nat_cmp, ordering_then}
use Rattle.std.specs.declared.cmp.Ordering.TheVariants.{Equal}
use Rattle.std.proofs.lemmas.Map.Lookups.{exact_unsigned, exact_pairs}
use Rattle.catalog.specs.declared.card.CardKey.{CardKey}
use Rattle.catalog.specs.declared.card.CardKey.TheVariants.{Warehouse, District, Customer, Stock, Item}
use Rattle.catalog.specs.contracts.card.CardKeyOrd.TheImpl.Laws.{total-law}
use Rattle.catalog.specs.CardMap.{card_key_cmp}

pub card_key_cmp_total : IsTotalOrder card_key_cmp
card_key_cmp_total = total-law

-- columns that tie are equal
two : (p q : ℕ × ℕ) → ordering_then (nat_cmp p.0 q.0) (nat_cmp p.1 q.1) ≡ Equal → p ≡ q
two = exact_pairs nat_cmp nat_cmp exact_unsigned exact_unsigned

three : (p q : ℕ × (ℕ × ℕ)) → ordering_then (nat_cmp p.0 q.0) (ordering_then (nat_cmp p.1.0 q.1.0) (nat_cmp p.1.1 q.1.1)) ≡ Equal → p ≡ q
three = exact_pairs nat_cmp (λ x y. ordering_then (nat_cmp x.0 y.0) (nat_cmp x.1 y.1)) exact_unsigned two

-- keys that tie are one
pub exact_cards : (a b : CardKey) → card_key_cmp a b ≡ Equal → a ≡ b
exact_cards (Warehouse w) (Warehouse v) h = ap (λ x. Warehouse x) (exact_unsigned w v h)
exact_cards (District w d) (District v e) h = ap (λ (p : ℕ × ℕ). District p.0 p.1) (two (w, d) (v, e) h)
exact_cards (Customer w d c) (Customer v e b) h = ap (λ (p : ℕ × (ℕ × ℕ)). Customer p.0 p.1.0 p.1.1) (three (w, (d, c)) (v, (e, b)) h)
exact_cards (Stock w i) (Stock v j) h = ap (λ (p : ℕ × ℕ). Stock p.0 p.1) (two (w, i) (v, j) h)
exact_cards (Item i) (Item j) h = ap (λ x. Item x) (exact_unsigned i j h)
exact_cards a b h = cc
