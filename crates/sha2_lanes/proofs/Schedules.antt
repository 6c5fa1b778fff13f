-- The words of a schedule, one by one.
use Rattle.std.proofs.Common.{◌≡◌, ℕ, zero, suc, ◌+◌, ◌-◌, ◌*◌, ◌<◌, ◌≤◌, List, [], ◌∷◌, slice_index, slice_index_or, slice_set, length, ◌≢◌, ◌∙◌, ap, arith, inl, inr, refl, sym}
use Rattle.std.proofs.lemmas.List.{get_or-set_same, get_or-set_other, length-set}
use Rattle.std.proofs.lemmas.Bool.{cases_lt}
use Rattle.sha2.specs.Sha256.{add32, schedule, small_sigma0, small_sigma1, word_at}
use Rattle.sha2.proofs.Schedule256.{slice_index-schedule_first, slice_index-schedule_next}
use Rattle.sha2_lanes.specs.Lanes.{lane_at}
use Rattle.sha2_lanes.specs.Schedules.{AreAt, AreWords}

-- a list whose first elements have these values, with one more
pub one_more : {A : Type 0} (d : A) (value : ℕ → A) (xs : List A) (t : ℕ) (x : A) → t < length xs → x ≡ value t
    → ((k : ℕ) → k < t → slice_index_or xs k d ≡ value k)
    → (k : ℕ) → k < t + 1 → slice_index_or (slice_set xs t x) k d ≡ value k
one_more d value xs t x room is held k lt = elim (cases_lt k t) [
  | inl before ↦
      let other : k ≢ t = omega arith in
      get_or-set_other xs t k x d other ∙ held k before
  | inr from ↦
      let here : k ≡ t = omega arith in
      rw here (get_or-set_same xs t x d room ∙ is)
]

-- the same with four more
pub four_more : {A : Type 0} (d : A) (value : ℕ → A) (xs : List A) (t : ℕ) (x0 x1 x2 x3 : A) → t + 4 ≤ length xs
    → x0 ≡ value t → x1 ≡ value (t + 1) → x2 ≡ value (t + 2) → x3 ≡ value (t + 3) → ((k : ℕ) → k < t → slice_index_or xs k d ≡ value k)
    → (k : ℕ) → k < t + 4 → slice_index_or (slice_set (slice_set (slice_set (slice_set xs t x0) (t + 1) x1) (t + 2) x2) (t + 3) x3) k d ≡ value k
four_more d value xs t x0 x1 x2 x3 room e0 e1 e2 e3 held k lt =
    let l1 = length-set xs t x0 in
    let xs1 = slice_set xs t x0 in
    let l2 = length-set xs1 (t + 1) x1 in
    let xs2 = slice_set xs1 (t + 1) x1 in
    let l3 = length-set xs2 (t + 2) x2 in
    let xs3 = slice_set xs2 (t + 2) x2 in
    let s1 = one_more d value xs t x0 (omega arith) e0 held in
    let s2 = one_more d value xs1 (t + 1) x1 (omega (arith, l1)) e1 s1 in
    let s3 = one_more d value xs2 (t + 2) x2 (omega (arith, l1, l2)) e2 (λ i lt. s2 i (omega arith)) in
    one_more d value xs3 (t + 3) x3 (omega (arith, l1, l2, l3)) e3 (λ i lt. s3 i (omega arith)) k (omega arith)

-- the words of a block in one lane, from those of all lanes
pub first_words : (j : ℕ) (words : List (List ℕ)) (b : List ℕ) → length words ≡ 64 → ((t : ℕ) → t < 16 → lane_at words t j ≡ word_at b (4 * t))
    → AreWords j words b 16
first_words j words b long are = (long, λ t lt. are t lt ∙ sym (slice_index-schedule_first b 48 t lt))

-- one word more, from the four that it follows from
pub extended : (j : ℕ) (words : List (List ℕ)) (b : List ℕ) (t : ℕ) (word : List ℕ) → 16 ≤ t → t < 64 → AreWords j words b t
    → slice_index word j ≡ add32 (add32 (add32 (small_sigma1 (lane_at words (t - 2) j)) (lane_at words (t - 7) j)) (small_sigma0 (lane_at words (t - 15) j))) (lane_at words (t - 16) j)
    → AreWords j (slice_set words t word) b (t + 1)
extended j words b t word low high held is =
    let near = held.1 (t - 2) (omega arith) in
    let middle = held.1 (t - 7) (omega arith) in
    let far = held.1 (t - 15) (omega arith) in
    let last = held.1 (t - 16) (omega arith) in
    let all = rw (near, middle, far, last) at is in
    let value : slice_index word j ≡ slice_index (schedule b 48) t = all ∙ sym (slice_index-schedule_next b 48 t low (omega arith)) in (
      length-set words t word ∙ held.0,
      λ k lt. elim (cases_lt k t) [
        | inl before ↦
            let other : k ≢ t = omega arith in
            ap (λ (v : List ℕ). slice_index v j) (get_or-set_other words t k word [] other) ∙ held.1 k before
        | inr from ↦
            let here : k ≡ t = omega arith in
            rw here (ap (λ (v : List ℕ). slice_index v j) (get_or-set_same words t word [] (omega (arith, held.0))) ∙ value)
      ],
    )

-- the same place spelled another way
pub AreAt_at : (j : ℕ) (words variables : List (List ℕ)) (b h : List ℕ) (s t : ℕ) → s ≡ t → AreAt j words variables b h s → AreAt j words variables b h t
AreAt_at j words variables b h s t same held = rw same at held

-- each word of a list four times in turn
unfoldable pub four_times : List ℕ → List ℕ
four_times [] = []
four_times (word ∷ words) = word ∷ word ∷ word ∷ word ∷ four_times words

pub four_times_at : (words : List ℕ) (t j : ℕ) → j < 4 → slice_index (four_times words) (4 * t + j) ≡ slice_index words t
unfolding four_times
four_times_at [] t j lt = refl
four_times_at (word ∷ words) zero zero lt = refl
four_times_at (word ∷ words) zero (suc zero) lt = refl
four_times_at (word ∷ words) zero (suc (suc zero)) lt = refl
four_times_at (word ∷ words) zero (suc (suc (suc zero))) lt = refl
four_times_at (word ∷ words) zero (suc (suc (suc (suc j)))) lt = absurd (omega arith)
four_times_at (word ∷ words) (suc t) j lt =
    let next : 4 * suc t + j ≡ suc (suc (suc (suc (4 * t + j)))) = omega arith in
    rw next (four_times_at words t j lt)
