-- Lists of which each element has its bytes: they can be told apart, and each is of bytes.
use Rattle.std.proofs.Common.{◌≡◌, ℕ, ◌<◌, List, [], ◌∷◌, ◌++◌, length, length-append, append_assoc, cond, T, true, false, Bool, Some, refl, sym, ap, ◌∙◌, arith}
use Rattle.std.specs.Cmp.{IsTotalOrder}
use Rattle.std.specs.FinMap.{FinMap, IsAntisymmetric, entries, entries_sorted, find, get, get-entries, is_sorted}
use Rattle.std.specs.FinMap.Entries.{below_all, where_key}
use Rattle.std.specs.List.{AllByRecursion, flat_map}
use Rattle.std.specs.Ordering.{is_eq}
use Rattle.std.specs.declared.cmp.Ordering.{Ordering}
use Rattle.std.proofs.lemmas.Cmp.{tied_itself}
use Rattle.tpcc_rows.proofs.Fields.{IsApart}
use Rattle.tpcc_rows.proofs.Singles.{found_later, second}
use Rattle.token_laws.specs.CoveredLimits.{AreBytes}

-- ---- told apart
module _ {A : Type 0} {P : A → Type 0} {f : A → List ℕ} (one : IsApart P f) where
  -- the first of each, and what is behind them
  heads : (a b : A) (us vs : List A) (xs ys : List ℕ) → P a → P b → flat_map f (a ∷ us) ++ xs ≡ flat_map f (b ∷ vs) ++ ys → (a ≡ b) × (flat_map f us ++ xs ≡ flat_map f vs ++ ys)
  heads a b us vs xs ys p q e =
      one.apart a b (flat_map f us ++ xs) (flat_map f vs ++ ys) p q (sym (append_assoc (f a) (flat_map f us) xs) ∙ e ∙ append_assoc (f b) (flat_map f vs) ys)

  -- lists of one length, whatever is behind them
  pub counted : (us vs : List A) (xs ys : List ℕ) → length us ≡ length vs → AllByRecursion P us → AllByRecursion P vs → flat_map f us ++ xs ≡ flat_map f vs ++ ys → (us ≡ vs) × (xs ≡ ys)
  counted [] [] xs ys n p q e = (refl, e)
  counted [] (b ∷ vs) xs ys n p q e = absurd (omega (arith, n))
  counted (a ∷ us) [] xs ys n p q e = absurd (omega (arith, n))
  counted (a ∷ us) (b ∷ vs) xs ys n p q e =
      let first = heads a b us vs xs ys p.0 q.0 e in
      let rest = counted us vs xs ys (omega (arith, n)) p.1 q.1 first.1 in
      (λ i. first.0 i ∷ rest.0 i, rest.1)

  -- lists of any length, where nothing is behind them and no element is without bytes
  module _ (some : (a : A) → 0 < length (f a)) where
    pub whole : (us vs : List A) → AllByRecursion P us → AllByRecursion P vs → flat_map f us ++ [] ≡ flat_map f vs ++ [] → us ≡ vs
    whole [] [] p q e = refl
    whole [] (b ∷ vs) p q e = absurd (omega (arith, some b, length-append (f b) (flat_map f vs), length-append (flat_map f (b ∷ vs)) [], ap length e))
    whole (a ∷ us) [] p q e = absurd (omega (arith, some a, length-append (f a) (flat_map f us), length-append (flat_map f (a ∷ us)) [], ap length e))
    whole (a ∷ us) (b ∷ vs) p q e =
        let first = heads a b us vs [] [] p.0 q.0 e in
        let rest = whole us vs p.1 q.1 first.1 in
        λ i. first.0 i ∷ rest i

-- ---- of bytes
pub no_bytes : AreBytes []
no_bytes = record { each = tt }

pub bytes-cons : {x : ℕ} {xs : List ℕ} → x < 256 → AreBytes xs → AreBytes (x ∷ xs)
bytes-cons p q = record { each = (p, q.each) }

pub all-append : {A : Type 0} (P : A → Type 0) (us vs : List A) → AllByRecursion P us → AllByRecursion P vs → AllByRecursion P (us ++ vs)
all-append P [] vs p q = q
all-append P (u ∷ us) vs p q = (p.0, all-append P us vs p.1 q)

pub bytes-append : {xs ys : List ℕ} → AreBytes xs → AreBytes ys → AreBytes (xs ++ ys)
bytes-append {xs} {ys} p q = record { each = all-append (λ (b : ℕ). b < 256) xs ys p.each q.each }

pub bytes-flat_map : {A : Type 0} (P : A → Type 0) (f : A → List ℕ) → ((a : A) → P a → AreBytes (f a)) → (us : List A) → AllByRecursion P us → AreBytes (flat_map f us)
bytes-flat_map P f one [] p = no_bytes
bytes-flat_map P f one (u ∷ us) p = bytes-append (one u p.0) (bytes-flat_map P f one us p.1)

-- ---- what holds of each
pub narrowed : {A : Type 0} (P Q : A → Type 0) (us : List A) → ((a : A) → P a → Q a) → AllByRecursion P us → AllByRecursion Q us
narrowed P Q [] narrow h = tt
narrowed P Q (a ∷ us) narrow h = (narrow a h.0, narrowed P Q us narrow h.1)

-- of the entries of a map, where it holds of what the map has at each key
module _ {K X : Type 0} {R : K → K → Ordering} (total : IsTotalOrder R) (exact : IsAntisymmetric R) (P : K × X → Type 0) where
  each_found : (es : List (K × X)) → T (is_sorted R es) → ((k : K) (x : X) → find R k es ≡ Some x → P (k, x)) → AllByRecursion P es
  each_found [] s h = tt
  each_found (e ∷ es) s h =
      let here : find R e.0 (e ∷ es) ≡ Some e.1 = ap (λ r. cond (is_eq r) (Some e.1) (find R e.0 es)) (tied_itself total e.0) in
      (h e.0 e.1 here, each_found es (second (below_all R e.0 es) (is_sorted R es) s) (λ k x there. h k x (found_later total exact e es k x s there)))

  pub each_entry : (m : FinMap R X) → ((k : K) (x : X) → get m k ≡ Some x → P (k, x)) → AllByRecursion P (entries m)
  each_entry m h = each_found (entries m) (entries_sorted m) (λ k x there. h k x (get-entries m k ∙ there))

-- of those that pass a test too
pub each_kept : {K X : Type 0} (R : K → K → Ordering) (P : K × X → Type 0) (p : K → Bool) (es : List (K × X)) → AllByRecursion P es → AllByRecursion P (where_key R p es)
each_kept R P p [] h = tt
each_kept R P p (e ∷ es) h = elim (p e.0) as (λ b. AllByRecursion P (cond b (e ∷ where_key R p es) (where_key R p es))) [
  | true ↦ (h.0, each_kept R P p es h.1)
  | false ↦ each_kept R P p es h.1
]
