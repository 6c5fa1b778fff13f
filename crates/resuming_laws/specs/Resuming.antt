-- Runs that go on from a stored image.
use Rattle.std.specs.Prelude.{◌≡◌, ◌≤◌, List, ◌++◌, Ok}
use Rattle.catalog.specs.CardMap.{Cards}
use Rattle.executor.specs.Headline.{all_serially}
use Rattle.executor.specs.Chains.{state_of}
use Rattle.executor.specs.Stamps.{stamp_of}
use Rattle.executor.specs.States.{AreAllWithin, IsSoundState}
use Rattle.executor.specs.declared.stamp.Stamp.{Stamp}
use Rattle.loader.specs.Image.{image}
use Rattle.requests.specs.declared.request.Batch.{Batch}
use Rattle.runner.specs.StoredRuns.{image_behind}
use Rattle.runner.specs.Text.{text}
use Rattle.tpcc_model.specs.Database.{Database}
use Rattle.tpcc_model.specs.Serial.{State, next_number, serial}

-- where the state stands that these batches leave
abbrev pub stamp_behind : Cards → State → List Batch → Stamp
stamp_behind cards start batches = stamp_of (serial cards start batches)

-- the first batches were run from this state on, and the state behind them was stored; the others are run on the image, from where that
-- state stood
pub record GoesOn (cards : Cards) (start : State) (first rest : List Batch) : Type 0 where
  -- the image gives a database
  pub db : Database
  pub read : image (image_behind cards start first) ≡ Ok db
  -- no row of its history has the number of a request that is yet to come
  pub free : next_number db.rows ≤ (stamp_behind cards start first).next
  -- the others are completed as in one run of all: numbers, replies, tokens and paths
  pub completed : all_serially cards start (first ++ rest)
      ≡ all_serially cards start first ++ all_serially db.cards (state_of db.rows (stamp_behind cards start first)) rest
  -- and written as there
  pub written : text cards start (first ++ rest)
      ≡ text cards start first ++ text db.cards (state_of db.rows (stamp_behind cards start first)) rest
  -- they leave the cards, the tables, the next number, the last number and the token of that run
  pub same_cards : db.cards ≡ cards
  pub left : serial db.cards (state_of db.rows (stamp_behind cards start first)) rest ≡ serial cards start (first ++ rest)

-- so of every sound state, before any batch or later, and of all lists of batches of which the first are within their limits
abbrev pub StoredRunsGoOn : Type 0
StoredRunsGoOn = (cards : Cards) (start : State) (first rest : List Batch)
    → IsSoundState cards start → 1 ≤ start.next → AreAllWithin cards start first → GoesOn cards start first rest
