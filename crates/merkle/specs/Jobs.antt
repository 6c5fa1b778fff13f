-- Places of a tree that are to be hashed, and their hashes.
use Rattle.std.specs.Prelude.{◌≡◌, ◌+◌, ◌<◌, ◌≤◌, ℕ, Bool, List, [], All, eqb, get_or, length}
use Rattle.sha2.specs.Sha256.{sha256}
use Rattle.std.specs.List.{list_any}
use Rattle.merkle.specs.declared.jobs.Job.{Job}

-- whether one of the jobs is at this place
abbrev pub has_place : List Job → ℕ → Bool
has_place jobs n = list_any (λ job. eqb job.place n) jobs

-- the jobs are at those of these places, from one on to before another, that pass the test
pub record AreGathered (Is : ℕ → Type 0) (test : ℕ → Bool) (from end : ℕ) (jobs : List Job) : Type 0 where
  pub few : length jobs + from ≤ end
  pub range : All (λ job. (from ≤ job.place) × (job.place < end) × Is job.place) jobs
  pub found : (k : ℕ) → from ≤ k → k < end → Is k → has_place jobs k ≡ test k

-- each job's hash is the value at its place
abbrev pub AreHashed : (ℕ → List ℕ) → List Job → Type 0
AreHashed value jobs = All (λ job. job.hash ≡ value job.place) jobs

-- the new jobs are at the same places, in some order
pub record KeepsPlaces (old new : List Job) : Type 0 where
  pub len : length new ≡ length old
  pub places : (n : ℕ) → has_place new n ≡ has_place old n

-- they are, and each is hashed
pub record IsDone (value : ℕ → List ℕ) (old new : List Job) : Type 0 where
  pub len : length new ≡ length old
  pub places : (n : ℕ) → has_place new n ≡ has_place old n
  pub hashed : AreHashed value new

-- a text that isn't empty has this hash
abbrev pub IsTextOf : List ℕ → List ℕ → Type 0
IsTextOf hash text = 0 < length text → hash ≡ sha256 text

-- each job has its text: where that isn't empty, its hash is the value at the job's place
pub record AreTexts (value : ℕ → List ℕ) (jobs : List Job) (texts : List (List ℕ)) : Type 0 where
  pub len : length texts ≡ length jobs
  pub each : (k : ℕ) (d : Job) → k < length jobs → IsTextOf (value (get_or jobs k d).place) (get_or texts k [])
