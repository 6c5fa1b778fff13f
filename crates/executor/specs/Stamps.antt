-- The stamps of states, and resuming at a stamp.
use Rattle.std.specs.Prelude.{◌≤◌}
use Rattle.tpcc_model.specs.Serial.{State}
use Rattle.tpcc_rows.specs.Limits.{IsBetween}
use Rattle.executor.specs.Chains.{Chain, state_of}
use Rattle.executor.specs.declared.next_batch.TheConstants.{LAST_NUMBER}
use Rattle.executor.specs.declared.stamp.Stamp.{Stamp}
use Rattle.tpcc_rows.specs.declared.id.TheConstants.{END_OF_NUMBERS}

-- the number of the last batch, that of the next request, and the token
abbrev pub stamp_of : State → Stamp
stamp_of state = record { sequence = state.sequence; next = state.next; token = state.token }

-- its numbers are within their limits
abbrev pub IsWithinLimits : Stamp → Type 0
IsWithinLimits stamp = (stamp.sequence ≤ LAST_NUMBER) × IsBetween 1 END_OF_NUMBERS stamp.next

-- a chain whose present state has this stamp; its cards and rows stay
abbrev pub resumed : Chain → Stamp → Chain
resumed chain stamp = record { cards = chain.cards; earlier = chain.earlier; present = state_of chain.present.rows stamp }
