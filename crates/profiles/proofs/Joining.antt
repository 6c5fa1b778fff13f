-- Footprints that are joined one after the other.
use Rattle.std.proofs.Common.{◌≡◌, ◌<◌, ◌≤◌, ◌+◌, ℕ, List, length, map, drop, get_or, sym, ap, ap₂, ◌∙◌}
use Rattle.std.proofs.lemmas.List.{append-nil, append_assoc, at_drop_all, at_drop_more}
use Rattle.serializability.specs.Footprints.{Footprint, joined, joined_all, untouched}

module _ {G : Type 0} where
  pub joined-joined : (e f g : Footprint G) → joined (joined e f) g ≡ joined e (joined f g)
  joined-joined e f g = ap₂ (λ (r w : List G). record { reads = r; writes = w }) (append_assoc e.reads f.reads g.reads) (append_assoc e.writes f.writes g.writes)

  pub joined-untouched : (f : Footprint G) → joined f untouched ≡ f
  joined-untouched f = ap₂ (λ (r w : List G). record { reads = r; writes = w }) (append-nil f.reads) (append-nil f.writes)

-- ---- joined over a list, one after the other
module _ {G X : Type 0} (f : X → Footprint G) (xs : List X) (i : ℕ) where
  pub joined-next : (x : X) (so_far more : Footprint G) → i < length xs → x ≡ get_or xs i x → more ≡ joined so_far (f x) → joined more (joined_all (map f (drop (i + 1) xs))) ≡ joined so_far (joined_all (map f (drop i xs)))
  joined-next x so_far more below is one =
      ap (λ (e : Footprint G). joined e (joined_all (map f (drop (i + 1) xs)))) (one ∙ ap (λ y. joined so_far (f y)) is)
      ∙ joined-joined so_far (f (get_or xs i x)) (joined_all (map f (drop (i + 1) xs)))
      ∙ sym (at_drop_more (λ ys. joined so_far (joined_all (map f ys))) xs i x below)

  pub joined-end : (so_far : Footprint G) → length xs ≤ i → so_far ≡ joined so_far (joined_all (map f (drop i xs)))
  joined-end so_far past = sym (at_drop_all (λ ys. joined so_far (joined_all (map f ys))) xs i past ∙ joined-untouched so_far)
