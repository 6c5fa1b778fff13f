-- Requests that are within their limits, one by one.
use Rattle.std.proofs.Common.{ℕ, ◌+◌, ◌≤◌, List, [], ◌∷◌, length, arith}
use Rattle.std.proofs.lemmas.List.Elements.{recursion_from_All}
use Rattle.std.specs.List.{AllByRecursion}
use Rattle.serializability.specs.Framed.{AllFit}
use Rattle.requests.specs.declared.request.Request.{Request}
use Rattle.transactions.specs.Laws.{Fits}
use Rattle.transactions.specs.Requests.{IsRequest}
use Rattle.executor.specs.States.{AreWithinLimits}

numbered : (first : ℕ) (qs : List Request) → AllByRecursion IsRequest qs → 1 ≤ first → first + length qs ≤ 1000000000000000 → AllFit Fits first qs
numbered first [] each low high = tt
numbered first (q ∷ qs) each low high = (((low, omega (arith, high)), each.0), numbered (first + 1) qs each.1 (omega (arith, low)) (omega (arith, high)))

pub all_fit : (moment first : ℕ) (qs : List Request) → AreWithinLimits moment first qs → AllFit Fits first qs
all_fit moment first qs limits = numbered first qs (recursion_from_All IsRequest qs limits.each_request) limits.first_number limits.last_number
