-- The expanded schedule of a block.
use Rattle.std.specs.Prelude.{◌≡◌, ◌<◌, ◌+◌, ℕ, List, length, slice_index}
use Rattle.sha2.specs.Sha256.{add32, round_constants, rounds, schedule}
use Rattle.sha2_lanes.specs.Lanes.{lane, lane_at}

-- the sum K t + W t of each round (FIPS 180-4, 6.2.2)
abbrev pub AreSums : List ℕ → List ℕ → Type 0
AreSums sums block = (t : ℕ) → t < 64 → slice_index sums t ≡ add32 (slice_index round_constants t) (slice_index (schedule block 48) t)

-- of 64 words in lane j, the first n are the schedule's
abbrev pub AreWords : ℕ → List (List ℕ) → List ℕ → ℕ → Type 0
AreWords j words block n = (length words ≡ 64) × ((t : ℕ) → t < n → lane_at words t j ≡ slice_index (schedule block 48) t)

-- before round t of the block from the hash value h, in lane j: the words of 16 rounds are there
abbrev pub AreAt : ℕ → List (List ℕ) → List (List ℕ) → List ℕ → List ℕ → ℕ → Type 0
AreAt j words variables block h t = AreWords j words block (t + 16) × (lane j variables ≡ rounds h (schedule block 48) t)
