-- Jobs at the same places, and hashes put at their places.
use Rattle.std.proofs.Common.{◌≡◌, ◌≢◌, ℕ, zero, suc, ◌+◌, ◌-◌, ◌*◌, ◌<◌, ◌≤◌, Bool, true, false, cond, eqb, ◌||◌, ◌==◌, List, [], ◌∷◌, ◌++◌, All, length, get_or, set, take, drop, inl, inr, refl, sym, ap, subst, ◌∙◌, arith, length-append}
use Rattle.std.specs.List.{list_any}
use Rattle.std.specs.List.Sorted.{IsPermutation}
use Rattle.std.proofs.lemmas.List.{get_or-drop, get_or-set_same, get_or-set_other, get_or-take, length-set, length-take, length-drop, take_all, take_more_set}
use Rattle.std.proofs.lemmas.List.Folds.{list_any-append, list_any_at, Any-from_list_any}
use Rattle.std.proofs.lemmas.List.Sorted.{list_any-IsPermutation}
use Rattle.std.proofs.lemmas.Slice.{take-put_mid}
use Rattle.std.proofs.lemmas.Bool.{cases_lt, eqb-true, eq-eqb, ne_eqb, false_from_ne_true}
use Rattle.std.proofs.lemmas.Bool.Decides.{eqb_tells}
use Rattle.bit_sets.specs.BitSets.{has_bit}
use Rattle.merkle.specs.Jobs.{has_place, AreGathered, AreHashed, IsDone}
use Rattle.merkle.specs.Marking.{IsNext, IsNone, is_above}
use Rattle.merkle.specs.Nodes.{at, in_branch, left_of, IsAtLevel}
use Rattle.merkle.specs.declared.marks.TheConstants.{BRANCH_LEAVES}
use Rattle.merkle.specs.declared.jobs.Job.{Job}
use borrow.Rule.Slice.PartMut.{put_mid, mid_of, post_of, put_same, same_len_mid}

-- ---- places
-- one job in place of another at the same place
pub has_place-set : (jobs : List Job) (k : ℕ) (job d : Job) → k < length jobs → job.place ≡ (get_or jobs k d).place → (n : ℕ) → has_place (set jobs k job) n ≡ has_place jobs n
has_place-set [] k job d h e n = absurd (omega arith)
has_place-set (x ∷ xs) zero job d h e n = ap (λ p. eqb p n || has_place xs n) e
has_place-set (x ∷ xs) (suc k) job d h e n = ap (λ b. eqb x.place n || b) (has_place-set xs k job d (omega arith) e n)

-- what holds of the place of each job holds of each place that has one
pub of-place : (P : ℕ → Type 0) (jobs : List Job) → All (λ job. P job.place) jobs → (n : ℕ) → has_place jobs n ≡ true → P n
of-place P jobs all n h =
    let (k, x, small, is, same) = Any-from_list_any (λ job. eqb job.place n) jobs h in
    subst P (eqb-true x.place n same) (subst (λ job. P job.place) is (all k x small))

-- so it holds of jobs at the same places
pub all-kept : (P : ℕ → Type 0) (old new : List Job) → ((n : ℕ) → has_place new n ≡ has_place old n) → All (λ job. P job.place) old → All (λ job. P job.place) new
all-kept P old new same all = λ k d small.
    let n : ℕ = (get_or new k d).place in
    of-place P old all n (sym (same n) ∙ list_any_at (λ job. eqb job.place n) new k d small (eq-eqb n n refl))

-- ---- hashes put at their places
pub put-more : (value : ℕ → List ℕ) (old now : List (List ℕ)) (p i : ℕ) (h : List ℕ) (b : Bool) → h ≡ value p → p < length now
    → at now i ≡ cond b (value i) (at old i) → at (set now p h) i ≡ cond (b || eqb p i) (value i) (at old i)
put-more value old now p i h b is small e = elim (eqb_tells p i) [
  | inl t ↦ ap (at (set now p h)) (sym t.1) ∙ get_or-set_same now p h [] small ∙ is ∙ ap value t.1 ∙ sym (ap (λ t. cond (b || t) (value i) (at old i)) t.0 ∙ or-true b)
  | inr t ↦ let ne : i ≢ p = λ q. t.1 (sym q) in get_or-set_other now p i h [] ne ∙ e ∙ sym (ap (λ t. cond (b || t) (value i) (at old i)) t.0 ∙ or-false b)
] where
  or-true : (b : Bool) → cond (b || true) (value i) (at old i) ≡ value i
  or-true true = refl
  or-true false = refl

  or-false : (b : Bool) → cond (b || false) (value i) (at old i) ≡ cond b (value i) (at old i)
  or-false true = refl
  or-false false = refl

-- past the last place nothing is
pub at-past : (nodes : List (List ℕ)) (i : ℕ) → length nodes ≤ i → at nodes i ≡ []
at-past [] i h = refl
at-past (x ∷ nodes) zero h = absurd (omega (arith, h))
at-past (x ∷ nodes) (suc i) h = at-past nodes i (omega (arith, h))

-- ---- jobs done part by part
-- the jobs are at the same places, and the first of them are hashed
pub record IsDoneTo (value : ℕ → List ℕ) (k : ℕ) (old new : List Job) : Type 0 where
  pub len : length new ≡ length old
  pub places : (n : ℕ) → has_place new n ≡ has_place old n
  pub hashed : AreHashed value (take k new)

pub all-append : (P : Job → Type 0) (xs ys : List Job) → All P xs → All P ys → All P (xs ++ ys)
all-append P [] ys a b k d h = b k d h
all-append P (x ∷ xs) ys a b zero d h = a zero d (omega arith)
all-append P (x ∷ xs) ys a b (suc k) d h = all-append P xs ys (λ j e l. a (suc j) e (omega arith)) b k d (omega arith)

pub part-done : (value : ℕ → List ℕ) (old now mid : List Job) (s k e : ℕ) → s ≤ length now → s + k ≡ e → e ≤ length now → IsDoneTo value s old now → IsDone value (mid_of s k now) mid → IsDoneTo value e old (put_mid s k now mid)
part-done value old now mid s k e low sum high before part = record {
  len = same_len_mid s k now mid part.len ∙ before.len;
  places = λ n.
      let test : Job → Bool = λ job. eqb job.place n in
      list_any-append test (take s now) (mid ++ post_of s k now)
      ∙ ap (λ b. list_any test (take s now) || b) (list_any-append test mid (post_of s k now) ∙ ap (λ b. b || list_any test (post_of s k now)) (part.places n) ∙ sym (list_any-append test (mid_of s k now) (post_of s k now)))
      ∙ sym (list_any-append test (take s now) (mid_of s k now ++ post_of s k now))
      ∙ ap (λ jobs. has_place jobs n) (put_same s k now) ∙ before.places n;
  hashed =
      let wide : length (mid_of s k now) ≡ k = length-take k (drop s now) ∙ omega (arith, length-drop s now) in
      subst (AreHashed value) (sym (take-put_mid s k now mid e (omega (arith, part.len, wide)) low))
      (all-append (λ job. job.hash ≡ value job.place) (take s now) mid before.hashed part.hashed);
}

-- two parts that are done
pub both-done : (value : ℕ → List ℕ) (a b x y : List Job) → IsDone value a b → IsDone value x y → IsDone value (a ++ x) (b ++ y)
both-done value a b x y front back = record {
  len = length-append b y ∙ omega (arith, front.len, back.len, length-append a x);
  places = λ n.
      let test : Job → Bool = λ job. eqb job.place n in
      list_any-append test b y ∙ ap (λ t. t || list_any test y) (front.places n) ∙ ap (λ t. list_any test a || t) (back.places n) ∙ sym (list_any-append test a x);
  hashed = all-append (λ job. job.hash ≡ value job.place) b y front.hashed back.hashed;
}

pub none-done : (value : ℕ → List ℕ) (jobs : List Job) → IsDoneTo value 0 jobs jobs
none-done value jobs = record { len = refl; places = λ n. refl; hashed = λ k d h. absurd (omega arith) }

pub all-done : (value : ℕ → List ℕ) (k : ℕ) (old new : List Job) → length new ≤ k → IsDoneTo value k old new → IsDone value old new
all-done value k old new high to = record {
  len = to.len;
  places = to.places;
  hashed = subst (AreHashed value) (take_all k new high) to.hashed;
}

-- the same from a part's ends
pub step-done : (value : ℕ → List ℕ) (old now mid : List Job) (s e a b : ℕ) → s ≤ e → e ≤ length now → a ≡ s → b ≡ e → IsDoneTo value a old now → IsDone value (mid_of s (e - s) now) mid → IsDoneTo value b old (put_mid s (e - s) now mid)
step-done value old now mid s e a b low high first last before part =
    subst (λ n. IsDoneTo value n old (put_mid s (e - s) now mid)) (sym last)
    (part-done value old now mid s (e - s) e (omega arith) (omega arith) high (subst (λ n. IsDoneTo value n old now) first before) part)

pub all-part : (P : Job → Type 0) (xs : List Job) (s n : ℕ) → All P xs → All P (take n (drop s xs))
all-part P xs s n all k d h =
    let inside : k < length xs - s = omega (arith, h, length-take n (drop s xs), length-drop s xs) in
    let below : k < n = omega (arith, h, length-take n (drop s xs)) in
    subst P (sym (get_or-take n (drop s xs) k d below ∙ get_or-drop s xs k d)) (all (s + k) d (omega arith))

pub below_four : (P : ℕ → Type 0) → P 0 → P 1 → P 2 → P 3 → (k : ℕ) → k < 4 → P k
below_four P a b c d zero h = a
below_four P a b c d (suc zero) h = b
below_four P a b c d (suc (suc zero)) h = c
below_four P a b c d (suc (suc (suc zero))) h = d
below_four P a b c d (suc (suc (suc (suc k)))) h = absurd (omega arith)

-- what a place past the last job is read as
abbrev pub blank : Job
blank = record { place = 0; measure = 0; hash = [] }

-- one more job hashed
pub one-done : (value : ℕ → List ℕ) (old now : List Job) (k : ℕ) (job d : Job) → k < length now → job.place ≡ (get_or now k d).place → job.hash ≡ value job.place → IsDoneTo value k old now → IsDoneTo value (k + 1) old (set now k job)
one-done value old now k job d small same hash before = record {
  len = length-set now k job ∙ before.len;
  places = λ n. has_place-set now k job d small same n ∙ before.places n;
  hashed = subst (AreHashed value) (sym (take_more_set now k job small))
      (all-append (λ job. job.hash ≡ value job.place) (take k now) (job ∷ []) before.hashed (one hash));
} where
  one : job.hash ≡ value job.place → AreHashed value (job ∷ [])
  one h zero d l = h
  one h (suc k) d l = absurd (omega arith)

-- jobs moved and then done
pub moved-done : (value : ℕ → List ℕ) (old moved new : List Job) → length moved ≡ length old → ((n : ℕ) → has_place moved n ≡ has_place old n) → IsDone value moved new → IsDone value old new
moved-done value old moved new len places after = record { len = after.len ∙ len; places = λ n. after.places n ∙ places n; hashed = after.hashed }

pub places-sorted : (old new : List Job) → IsPermutation old new → (n : ℕ) → has_place new n ≡ has_place old n
places-sorted old new h n = sym (list_any-IsPermutation (λ job. eqb job.place n) old new h)

-- ---- jobs gathered one by one
or-nothing : (b : Bool) → (b || false) ≡ b
or-nothing true = refl
or-nothing false = refl

or-all : (b : Bool) → (b || true) ≡ true
or-all true = refl
or-all false = refl

has_place-more : (jobs : List Job) (job : Job) (k : ℕ) → has_place (jobs ++ job ∷ []) k ≡ (has_place jobs k || eqb job.place k)
has_place-more jobs job k = list_any-append (λ j. eqb j.place k) jobs (job ∷ []) ∙ ap (λ b. has_place jobs k || b) (or-nothing (eqb job.place k))

pub gathered-past : (Is : ℕ → Type 0) (test : ℕ → Bool) (low n : ℕ) (jobs : List Job) → AreGathered Is test low n jobs → (k : ℕ) → n ≤ k → has_place jobs k ≡ false
gathered-past Is test low n jobs g k h = false_from_ne_true (has_place jobs k) (λ e. let r = of-place (λ p. (low ≤ p) × (p < n) × Is p) jobs g.range k e in omega (arith, r.1, h))

pub gathered-before : (Is : ℕ → Type 0) (test : ℕ → Bool) (low n : ℕ) (jobs : List Job) → AreGathered Is test low n jobs → (k : ℕ) → k < low → has_place jobs k ≡ false
gathered-before Is test low n jobs g k h = false_from_ne_true (has_place jobs k) (λ e. let r = of-place (λ p. (low ≤ p) × (p < n) × Is p) jobs g.range k e in omega (arith, r.0, h))

pub gathered-zero : (Is : ℕ → Type 0) (test : ℕ → Bool) (low : ℕ) → AreGathered Is test low low []
gathered-zero Is test low = record { few = omega arith; range = λ k d h. absurd (omega (arith, h)); found = λ k l h i. absurd (omega (arith, l, h)) }

-- no place of these passes the test
pub gathered-to : (Is : ℕ → Type 0) (test : ℕ → Bool) (low n m : ℕ) (jobs : List Job) → n ≤ m → IsNone Is test n m → AreGathered Is test low n jobs → AreGathered Is test low m jobs
gathered-to Is test low n m jobs more none g = record {
  few = omega (arith, g.few, more);
  range = λ k d h. let r = g.range k d h in (r.0, omega (arith, r.1, more), r.2);
  found = λ k l h i. elim (cases_lt k n) [
    | inl s ↦ g.found k l s i
    | inr b ↦ gathered-past Is test low n jobs g k b ∙ sym (none k b h i)
  ];
}

-- up to the same place under another name
pub up-to : (Is : ℕ → Type 0) (test : ℕ → Bool) (low n m : ℕ) → n ≡ m → IsNone Is test low n → IsNone Is test low m
up-to Is test low n m same none = subst (IsNone Is test low) same none

-- the next place that passes the test
pub gathered-next : (Is : ℕ → Type 0) (test : ℕ → Bool) (low n m : ℕ) (jobs after : List Job) (job : Job) → job.place ≡ m → after ≡ jobs ++ job ∷ [] → IsNext Is test n m → AreGathered Is test low n jobs → AreGathered Is test low (m + 1) after
gathered-next Is test low n m jobs after job is more next before = subst (AreGathered Is test low (m + 1)) (sym more) gathered where
  g : AreGathered Is test low m jobs
  g = gathered-to Is test low n m jobs next.low next.before before

  only : (low ≤ job.place) × (job.place < m + 1) × Is job.place → All (λ job. (low ≤ job.place) × (job.place < m + 1) × Is job.place) (job ∷ [])
  only r zero d h = r
  only r (suc k) d h = absurd (omega (arith, h))

  gathered : AreGathered Is test low (m + 1) (jobs ++ job ∷ [])
  gathered = record {
    few = omega (arith, g.few, length-append jobs (job ∷ []));
    range = all-append (λ job. (low ≤ job.place) × (job.place < m + 1) × Is job.place) jobs (job ∷ []) (λ k d h. let r = g.range k d h in (r.0, omega (arith, r.1), r.2)) (only (omega (arith, is, g.few), omega (arith, is), subst Is (sym is) next.is));
    found = λ k l h i. has_place-more jobs job k ∙ elim (eqb_tells job.place k) [
      | inl t ↦ ap (λ b. has_place jobs k || b) t.0 ∙ or-all (has_place jobs k) ∙ sym (ap test (sym t.1 ∙ is) ∙ next.here)
      | inr t ↦ let ne : m ≢ k = λ e. t.1 (is ∙ e) in ap (λ b. has_place jobs k || b) t.0 ∙ or-nothing (has_place jobs k) ∙ g.found k l (omega (arith, ne, h)) i
    ];
  }

-- marks of what was gathered
pub marked-next : (first marks after : ℕ → Bool) (jobs more : List Job) (job : Job) (m : ℕ) → job.place ≡ m → more ≡ jobs ++ job ∷ [] → ((k : ℕ) → after k ≡ ((k == m) || marks k)) → ((k : ℕ) → marks k ≡ (has_place jobs k || first k))
    → (k : ℕ) → after k ≡ (has_place more k || first k)
marked-next first marks after jobs more job m is whole added marked k = added k ∙ both ∙ sym (ap (λ jobs. has_place jobs k || first k) whole) where
  both : ((k == m) || marks k) ≡ (has_place (jobs ++ job ∷ []) k || first k)
  both = elim (eqb_tells job.place k) [
    | inl t ↦ ap (λ b. b || marks k) (eq-eqb k m (sym t.1 ∙ is)) ∙ sym (ap (λ b. b || first k) (has_place-more jobs job k ∙ ap (λ b. has_place jobs k || b) t.0 ∙ or-all (has_place jobs k)))
    | inr t ↦
        ap (λ b. b || marks k) (ne_eqb k m (λ e. t.1 (is ∙ sym e))) ∙ marked k
        ∙ sym (ap (λ b. b || first k) (has_place-more jobs job k ∙ ap (λ b. has_place jobs k || b) t.0 ∙ or-nothing (has_place jobs k)))
  ]

-- children of a level's nodes aren't among them, so their marks are as they were
pub same-above : (words first : List ℕ) (jobs : List Job) (low high from n : ℕ) (test : ℕ → Bool) → high ≤ 2 * low → high ≤ BRANCH_LEAVES → AreGathered (IsAtLevel low high) test from n jobs → ((k : ℕ) → has_bit words k ≡ (has_place jobs k || has_bit first k))
    → (i : ℕ) → IsAtLevel low high i → is_above words i ≡ is_above first i
same-above words first jobs low high from n test apart inside g marked i level = ap (λ b. b || has_bit words (left_of i + 1)) (same (left_of i) (omega (arith, level.0, level.1, apart, inside))) ∙ ap (λ b. has_bit first (left_of i) || b) (same (left_of i + 1) (omega (arith, level.0, level.1, apart, inside))) where
  same : (k : ℕ) → high ≤ in_branch k → has_bit words k ≡ has_bit first k
  same k l = marked k ∙ ap (λ b. b || has_bit first k) (false_from_ne_true (has_place jobs k) (λ e. let r = of-place (λ p. (from ≤ p) × (p < n) × IsAtLevel low high p) jobs g.range k e in omega (arith, r.2.1, l)))

-- ---- jobs done and put at their places
module _ (value : ℕ → List ℕ) (gathered done : List Job) (is : IsDone value gathered done) where
  -- what holds of their places holds when they are done
  pub done-there : (P : ℕ → Type 0) → All (λ job. P job.place) gathered → All (λ job. P job.place) done
  done-there P all = all-kept P gathered done is.places all

  -- what was put where a job may be
  pub put-at : (n : ℕ) (old new : List ℕ) → (AreHashed value done → new ≡ cond (has_place done n) (value n) old) → new ≡ cond (has_place gathered n) (value n) old
  put-at n old new put = put is.hashed ∙ ap (λ b. cond b (value n) old) (is.places n)

  pub done-put : (old new : List (List ℕ)) → (AreHashed value done → (i : ℕ) → at new i ≡ cond (has_place done i) (value i) (at old i))
      → (i : ℕ) → at new i ≡ cond (has_place gathered i) (value i) (at old i)
  done-put old new put i = put-at i (at old i) (at new i) (λ hashed. put hashed i)
