-- Where the earlier requests of a batch stand that a later one has to know of, counted in one pass.
use Rattle.std.specs.Prelude.{◌≡◌, ◌+◌, ◌*◌, ℕ, suc, cond, List, [], ◌∷◌, length, reverse, take, get_or}
use Rattle.requests.specs.declared.request.Request.{Request}
use Rattle.requests.specs.declared.request.Request.TheVariants as request
use Rattle.tpcc_rows.specs.Limits.{IsBetween}
use Rattle.profiles.specs.Declarations.{deliveries_of, each_after, is_order_of}

-- the requests before this place of a batch, the nearest first
abbrev pub before : List Request → ℕ → List Request
before requests place = reverse (take place requests)

-- 1 more than the place of the district's last new order among these, the nearest first; 0 if there is none
abbrev pub last_order_of : ℕ → ℕ → List Request → ℕ
last_order_of w d [] = 0
last_order_of w d (q ∷ qs) = cond (is_order_of w d q) (suc (length qs)) (last_order_of w d qs)

-- what a request has to know of those before it: a delivery, how many of its warehouse there are; a new order or a stock
-- level, where the last order of its district stands
abbrev pub known_of : List Request → Request → ℕ
known_of earlier (request.Delivery p) = deliveries_of p.warehouse earlier
known_of earlier (request.NewOrder p) = last_order_of p.warehouse p.district earlier
known_of earlier (request.StockLevel p) = last_order_of p.warehouse p.district earlier
known_of earlier _ = 0

-- so of each request of a batch
abbrev pub all_known : List Request → List ℕ
all_known requests = each_after known_of [] requests

-- counts of these requests, by warehouse and by district
pub record AreCounts (by_warehouse by_district : List ℕ) (earlier : List Request) : Type 0 where
  pub deliveries : (w : ℕ) → IsBetween 1 100 w → get_or by_warehouse w 0 ≡ deliveries_of w earlier
  pub orders : (w d : ℕ) → IsBetween 1 100 w → IsBetween 1 10 d → get_or by_district (w * 10 + d) 0 ≡ last_order_of w d earlier
