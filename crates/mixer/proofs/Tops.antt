-- What columns tell of a level, and how they grow with those done.
use Rattle.std.proofs.Common.{◌≡◌, ℕ, ◌+◌, ◌==◌, ◌||◌, Bool, true, false, max, if◌then◌else◌, List, [], ◌∷◌, ◌++◌, map, refl, sym, ap, ◌∙◌, arith}
use Rattle.std.specs.List.{list_any}
use Rattle.serializability.specs.Footprints.{Footprint}
use Rattle.serializability.specs.LevelRows.{touched_bits, written_bits}
use Rattle.serializability.specs.Levels.{level_after}
use Rattle.serializability.specs.Signatures.{shares, meets_by}
use Rattle.serializability.proofs.BitSets.{shares_comm}
use Rattle.serializability.proofs.LevelRows.{level_either}
use Rattle.mixer.specs.Columns.{highest, raised, IsRaised, top, IsColumn}

-- in either order
both_orders : (x y : Bool) (n m t : ℕ) → (if x then max n (raised y m t) else raised y m t) ≡ raised y m (if x then max n t else t)
both_orders true true n m t = omega arith
both_orders true false n m t = refl
both_orders false true n m t = refl
both_orders false false n m t = refl

alone : (x : Bool) (n : ℕ) → (if x then max n 0 else 0) ≡ raised x n 0
alone true n = omega arith
alone false n = refl

module _ {F : Type 0} where
  same_level : (p q : F → F → Bool) (done : List (ℕ × F)) (f : F) → ((e : F) → p e f ≡ q e f) → level_after p done f ≡ level_after q done f
  same_level p q [] f same = refl
  same_level p q (d ∷ done) f same = λ i. if same d.1 i then max (d.0 + 1) (same_level p q done f same i) else same_level p q done f same i

  never : (done : List (ℕ × F)) (f : F) → level_after (λ e g. false) done f ≡ 0
  never [] f = refl
  never (d ∷ done) f = never done f

module _ {F : Type 0} (slots_of : F → List ℕ) where
  top_level : (slot : ℕ) (done : List (ℕ × F)) (f : F) → top slots_of done slot ≡ level_after (λ e g. list_any (◌==◌ slot) (slots_of e)) done f
  top_level slot [] f = refl
  top_level slot (d ∷ done) f = λ i. if list_any (◌==◌ slot) (slots_of d.1) then max (d.0 + 1) (top_level slot done f i) else top_level slot done f i

  -- the greatest number at slots is one more than the greatest level of those that have one of them
  pub highest_level : (column slots : List ℕ) (done : List (ℕ × F)) (f : F) → IsColumn slots_of column done → highest column slots ≡ level_after (λ e g. shares slots (slots_of e)) done f
  highest_level column [] done f is = sym (never done f)
  highest_level column (slot ∷ slots) done f is =
      (λ i. max (is slot i) (highest_level column slots done f is i))
      ∙ (λ i. max (top_level slot done f i) (level_after (λ e g. shares slots (slots_of e)) done f))
      ∙ sym (level_either (λ e g. list_any (◌==◌ slot) (slots_of e)) (λ e g. shares slots (slots_of e)) done f)

  top_more : (done : List (ℕ × F)) (level : ℕ) (f : F) (slot : ℕ) → top slots_of (done ++ (level, f) ∷ []) slot ≡ raised (list_any (◌==◌ slot) (slots_of f)) (level + 1) (top slots_of done slot)
  top_more [] level f slot = alone (list_any (◌==◌ slot) (slots_of f)) (level + 1)
  top_more (d ∷ done) level f slot =
      (λ i. if list_any (◌==◌ slot) (slots_of d.1) then max (d.0 + 1) (top_more done level f slot i) else top_more done level f slot i)
      ∙ both_orders (list_any (◌==◌ slot) (slots_of d.1)) (list_any (◌==◌ slot) (slots_of f)) (d.0 + 1) (level + 1) (top slots_of done slot)

  -- one more is done, and the numbers at its slots were raised to one more than its level
  pub column_more : (column new : List ℕ) (done : List (ℕ × F)) (level : ℕ) (f : F) → IsColumn slots_of column done → IsRaised (slots_of f) (level + 1) column new → IsColumn slots_of new (done ++ (level, f) ∷ [])
  column_more column new done level f is grown slot =
      grown slot ∙ ap (raised (list_any (◌==◌ slot) (slots_of f)) (level + 1)) (is slot) ∙ sym (top_more done level f slot)

-- numbers that are among the same lists share the same
shares_same : (xs ys zs : List ℕ) → ((b : ℕ) → list_any (◌==◌ b) xs ≡ list_any (◌==◌ b) ys) → shares xs zs ≡ shares ys zs
shares_same xs ys zs same = shares_comm xs zs ∙ each zs ∙ shares_comm zs ys
  where
    each : (ns : List ℕ) → shares ns xs ≡ shares ns ys
    each [] = refl
    each (n ∷ ns) = λ i. same n i || each ns i

-- ---- by both columns
module _ {G : Type 0} (bit : G → ℕ) where
  -- of a footprint of which what is read has all the numbers
  pub level_by_columns : (written touched : List ℕ) (done : List (ℕ × Footprint G)) (f : Footprint G) → IsColumn (written_bits bit) written done → IsColumn (touched_bits bit) touched done
      → ((b : ℕ) → list_any (◌==◌ b) (map bit f.reads) ≡ list_any (◌==◌ b) (touched_bits bit f))
      → max (highest written (map bit f.reads)) (highest touched (written_bits bit f)) ≡ level_after (meets_by bit) done f
  level_by_columns written touched done f is_written is_touched all =
      let rs : List ℕ = map bit f.reads in
      let ts : Footprint G → List ℕ = touched_bits bit in
      let ws : Footprint G → List ℕ = written_bits bit in
      (λ i. max (highest_level ws written rs done f is_written i) (highest_level ts touched (ws f) done f is_touched i))
      ∙ (λ i. max (same_level (λ e g. shares rs (ws e)) (λ e g. shares (ws e) (ts g)) done f (λ e. shares_same rs (ts f) (ws e) all ∙ shares_comm (ts f) (ws e)) i) (same_level (λ e g. shares (ws f) (ts e)) (λ e g. shares (ws g) (ts e)) done f (λ e. refl) i))
      ∙ sym (level_either (λ e g. shares (ws e) (ts g)) (λ e g. shares (ws g) (ts e)) done f)
