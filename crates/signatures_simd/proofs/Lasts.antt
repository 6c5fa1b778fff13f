-- The last place of a list at which something holds, looked for from the end.
use Rattle.std.proofs.Common.{◌≡◌, ℕ, zero, suc, ◌+◌, ◌<◌, ◌≤◌, Bool, true, false, List, [], ◌∷◌, Some, None, length, get_or, drop, sym, ap, ◌∙◌, arith, if◌then◌else◌}
use Rattle.std.proofs.lemmas.List.{drop_more, drop_all}
use Rattle.std.specs.Option.{option_or}
use Rattle.serializability.specs.LevelRows.{last_from}

module _ {X : Type 0} (p : X → Bool) where
  -- the last place from i on, from that behind i
  last_more : (xs : List X) (n i : ℕ) (d : X) → i < length xs → last_from n p (drop i xs) ≡ option_or (last_from (n + 1) p (drop (i + 1) xs)) (if p (get_or xs i d) then Some n else None)
  last_more xs n i d h = ap (last_from n p) (drop_more xs i d h)

  -- it is that of the whole list, where there is one
  last_whole : (xs : List X) (n i k : ℕ) → last_from (n + i) p (drop i xs) ≡ Some k → last_from n p xs ≡ Some k
  last_whole xs n zero k e =
      let same : n ≡ n + 0 = omega arith in
      ap (λ m. last_from m p xs) same ∙ e
  last_whole [] n (suc i) k e = e
  last_whole (x ∷ xs) n (suc i) k e =
      let next : n + 1 + i ≡ n + suc i = omega arith in
      ap (λ last. option_or last (if p x then Some n else None)) (last_whole xs (n + 1) i k (ap (λ m. last_from m p (drop i xs)) next ∙ e))

  pub none_at_end : (xs : List X) (n i : ℕ) → length xs ≤ i → last_from n p (drop i xs) ≡ None
  none_at_end xs n i h = ap (last_from n p) (drop_all i xs h)

  -- one place down: x at i, which is just below m, and nothing from m on
  pub none_more : (xs : List X) (i m : ℕ) (x : X) → i + 1 ≡ m → m ≤ length xs → x ≡ get_or xs i x → p x ≡ false → last_from m p (drop m xs) ≡ None → last_from i p (drop i xs) ≡ None
  none_more xs i m x next within read fails above =
      last_more xs i i x (omega (arith, next, within))
      ∙ (λ j. option_or (last_from (next j) p (drop (next j) xs)) (if p (sym read j) then Some i else None))
      ∙ (λ j. option_or (above j) (if fails j then Some i else None))

  pub last_at : (xs : List X) (i m : ℕ) (x : X) → i + 1 ≡ m → m ≤ length xs → x ≡ get_or xs i x → p x ≡ true → last_from m p (drop m xs) ≡ None → Some i ≡ last_from 0 p xs
  last_at xs i m x next within read holds above =
      let same : 0 + i ≡ i = omega arith in
      let here = ap (λ n. last_from n p (drop i xs)) same ∙ last_more xs i i x (omega (arith, next, within))
      ∙ (λ j. option_or (last_from (next j) p (drop (next j) xs)) (if p (sym read j) then Some i else None))
      ∙ (λ j. option_or (above j) (if holds j then Some i else None)) in
      sym (last_whole xs 0 i i here)
