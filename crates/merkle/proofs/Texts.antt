-- Jobs beside their texts.
use Rattle.std.proofs.Common.{◌≡◌, ℕ, ◌+◌, ◌-◌, ◌<◌, ◌≤◌, List, [], All, length, get_or, set, take, drop, inl, inr, refl, sym, ap, subst, ◌∙◌, arith}
use Rattle.std.proofs.lemmas.List.{get_or-drop, get_or-set_same, get_or-set_other, get_or-take, length-take, length-take-le, length-drop, drop-drop}
use Rattle.std.proofs.lemmas.Slice.{drop-put_mid}
use Rattle.std.proofs.lemmas.Bool.{cases_eq}
use Rattle.merkle.specs.Jobs.{AreTexts, IsDone, IsTextOf}
use Rattle.merkle.proofs.Placing.{IsDoneTo, all-kept, all-part, part-done}
use Rattle.merkle.specs.declared.jobs.Job.{Job}
use borrow.Rule.Slice.PartMut.{mid_of, put_mid, same_len_mid}

-- the first jobs have their texts
abbrev pub AreTextsTo : (ℕ → List ℕ) → ℕ → List Job → List (List ℕ) → Type 0
AreTextsTo value n jobs texts = (k : ℕ) (d : Job) → k < n → IsTextOf (value (get_or jobs k d).place) (get_or texts k [])

-- one more has its text
pub one_text : (value : ℕ → List ℕ) (jobs : List Job) (texts : List (List ℕ)) (n : ℕ) (text : List ℕ) → n < length texts
    → ((d : Job) → IsTextOf (value (get_or jobs n d).place) text) → AreTextsTo value n jobs texts → AreTextsTo value (n + 1) jobs (set texts n text)
one_text value jobs texts n text small is before k d low = elim (cases_eq k n) [
  | inl e ↦ subst (λ t. IsTextOf (value (get_or jobs k d).place) t) (sym (ap (λ i. get_or (set texts n text) i []) e ∙ get_or-set_same texts n text [] small)) (subst (λ m. IsTextOf (value (get_or jobs m d).place) text) (sym e) (is d))
  | inr ne ↦ subst (λ t. IsTextOf (value (get_or jobs k d).place) t) (sym (get_or-set_other texts n k text [] ne)) (before k d (omega arith))
]

-- the first of jobs that have their texts
pub first_texts : (value : ℕ → List ℕ) (jobs first : List Job) (texts firsts : List (List ℕ)) (n : ℕ) → first ≡ take n jobs → firsts ≡ take n texts → n ≤ length jobs → AreTexts value jobs texts → AreTexts value first firsts
first_texts value jobs first texts firsts n front front-texts small are = subst (λ js. AreTexts value js firsts) (sym front) (subst (AreTexts value (take n jobs)) (sym front-texts) taken) where
  taken : AreTexts value (take n jobs) (take n texts)
  taken = record {
    len = length-take-le n texts (omega (arith, are.len)) ∙ sym (length-take-le n jobs small);
    each = λ k d low.
        let inside : k < n = omega (arith, length-take-le n jobs small) in
        subst (λ job. IsTextOf (value job.place) (get_or (take n texts) k [])) (sym (get_or-take n jobs k d inside))
        (subst (λ text. IsTextOf (value (get_or jobs k d).place) text) (sym (get_or-take n texts k [] inside)) (are.each k d (omega arith)));
  }

-- and the rest of them
pub rest_texts : (value : ℕ → List ℕ) (jobs rest : List Job) (texts rests : List (List ℕ)) (n : ℕ) → rest ≡ drop n jobs → rests ≡ drop n texts → AreTexts value jobs texts → AreTexts value rest rests
rest_texts value jobs rest texts rests n back back-texts are = subst (λ js. AreTexts value js rests) (sym back) (subst (AreTexts value (drop n jobs)) (sym back-texts) dropped) where
  dropped : AreTexts value (drop n jobs) (drop n texts)
  dropped = record {
    len = length-drop n texts ∙ ap (λ l. l - n) are.len ∙ sym (length-drop n jobs);
    each = λ k d low.
        let inside : n + k < length jobs = omega (arith, length-drop n jobs) in
        subst (λ job. IsTextOf (value job.place) (get_or (drop n texts) k [])) (sym (get_or-drop n jobs k d))
        (subst (λ text. IsTextOf (value (get_or jobs (n + k) d).place) text) (sym (get_or-drop n texts k [])) (are.each (n + k) d inside));
  }

-- what holds of the places of jobs holds of those of a part of them
pub part_there : (P : ℕ → Type 0) (value : ℕ → List ℕ) (old now : List Job) (s n : ℕ) → IsDoneTo value s old now → All (λ job. P job.place) old → All (λ job. P job.place) (take n (drop s now))
part_there P value old now s n done all = all-part (λ job. P job.place) now s n (all-kept P old now done.places all)

-- the first texts are as many as a part of the jobs
pub as_long : (now : List Job) (texts : List (List ℕ)) (s n : ℕ) → s + n ≤ length now → n ≤ length texts → length (take n texts) ≡ length (take (s + n - s) (drop s now))
as_long now texts s n inside room =
    let few : length (take (s + n - s) (drop s now)) ≡ s + n - s = length-take-le (s + n - s) (drop s now) (omega (arith, length-drop s now)) in
    omega (arith, few, length-take-le n texts room)

-- a part of jobs, which are as they were from its start on, has its texts
pub part_texts : (value : ℕ → List ℕ) (old now : List Job) (texts : List (List ℕ)) (s n : ℕ) → s + n ≤ length old → drop s now ≡ drop s old → AreTexts value old texts → AreTexts value (take n (drop s now)) (take n (drop s texts))
part_texts value old now texts s n small same are =
    first_texts value (drop s old) (take n (drop s now)) (drop s texts) (take n (drop s texts)) n (ap (take n) same) refl (omega (arith, length-drop s old))
    (rest_texts value old (drop s old) texts (drop s texts) s refl refl are)

-- a part is done, and what is behind it stays as it was
pub step_left : (value : ℕ → List ℕ) (old now mid : List Job) (s e : ℕ) → s ≤ e → e ≤ length now → drop s now ≡ drop s old → IsDone value (mid_of s (e - s) now) mid → drop e (put_mid s (e - s) now mid) ≡ drop e old
step_left value old now mid s e low high same part =
    let wide : length (mid_of s (e - s) now) ≡ e - s = length-take (e - s) (drop s now) ∙ omega (arith, length-drop s now) in
    let whole : s + (e - s) ≡ e = omega arith in
    drop-put_mid s (e - s) now mid e (omega arith) (omega arith) (part.len ∙ wide)
    ∙ ap (λ i. drop i now) (sym whole) ∙ sym (drop-drop (e - s) s now) ∙ ap (drop (e - s)) same ∙ drop-drop (e - s) s old ∙ ap (λ i. drop i old) whole

pub step_done : (value : ℕ → List ℕ) (old now mid : List Job) (s e : ℕ) → s ≤ e → e ≤ length now → IsDoneTo value s old now → IsDone value (mid_of s (e - s) now) mid → IsDoneTo value e old (put_mid s (e - s) now mid)
step_done value old now mid s e low high before part = part-done value old now mid s (e - s) e (omega arith) (omega arith) high before part

pub step_long : (value : ℕ → List ℕ) (now mid : List Job) (s e : ℕ) → e ≤ length now → IsDone value (mid_of s (e - s) now) mid → e ≤ length (put_mid s (e - s) now mid)
step_long value now mid s e high part = omega (arith, same_len_mid s (e - s) now mid part.len)
