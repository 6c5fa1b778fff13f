-- Payments, new orders and questions, which of them meet, and their cut.
use Rattle.std.proofs.Common.{◌≡◌, ℕ, true, false, [], ◌∷◌, refl}
use Rattle.serializability.specs.Footprints.{Footprint, writing}
use Rattle.signatures_simd.specs.Bits.{bit}
use Rattle.tpcc_rows.specs.declared.granule.Granule.{Granule}
use Rattle.tpcc_rows.specs.declared.granule.Granule.TheVariants as part
use Rattle.requests.specs.declared.request.CustomerChoice.TheVariants as choice
use Rattle.requests.specs.declared.request.Verdict.TheVariants as verdict
use Rattle.tpcc_model.specs.Touches.{asked_touch, paid_touch, placed_touch}
use Rattle.executor.specs.LevelRuns.{cut_by, meets}
use Rattle.executor.specs.Paths.{path_by}
use Rattle.executor.specs.declared.path.Path.TheVariants as path

-- what a payment of customer c touches, in the customer's own district
abbrev paid : ℕ → ℕ → ℕ → Footprint Granule
paid w d c = paid_touch (record { warehouse = w; district = d; customer_warehouse = w; customer_district = d; customer = choice.Number c; amount = 100 }) c

-- a new order of one chain, out of its own warehouse
abbrev placed : ℕ → ℕ → ℕ → Footprint Granule
placed w d c = placed_touch (record { warehouse = w; district = d; customer = c; lines = (record { item = 1; supply = w; quantity = 1 }) ∷ [] })

-- and an order status
abbrev asked : ℕ → ℕ → ℕ → Footprint Granule
asked w d c = asked_touch (record { warehouse = w; district = d; customer = choice.Number c }) c

-- payments of two customers share their district, or their warehouse; at two warehouses they share nothing
one_district : meets (paid 1 1 1) (paid 1 1 2) ≡ true
unfolding bit
one_district = refl

one_warehouse : meets (paid 1 1 1) (paid 1 2 2) ≡ true
unfolding bit
one_warehouse = refl

two_warehouses : meets (paid 1 1 1) (paid 2 1 1) ≡ false
unfolding bit
two_warehouses = refl

-- a payment and a new order of one district and customer share nothing, and two new orders share the district's next number
paid_and_placed : meets (paid 1 1 1) (placed 1 1 1) ≡ false
unfolding bit
paid_and_placed = refl

placed_twice : meets (placed 1 1 1) (placed 1 1 2) ≡ true
unfolding bit
placed_twice = refl

-- a question meets a payment of its customer, and no question
asked_and_paid : meets (asked 1 1 1) (paid 1 1 1) ≡ true
unfolding bit
asked_and_paid = refl

asked_twice : meets (asked 1 1 1) (asked 1 1 1) ≡ false
unfolding bit
asked_twice = refl

-- two granules of one bit
one_bit : meets (writing (part.Stock 1 37)) (writing (part.DistrictYtd 1 4)) ≡ true
unfolding bit
one_bit = refl

-- the third payment meets the first one
three_payments : cut_by bit (paid 1 1 1 ∷ paid 2 1 1 ∷ paid 1 2 2 ∷ []) ≡ (0 ∷ 1 ∷ []) ∷ (2 ∷ []) ∷ []
unfolding bit
three_payments = refl

-- a rerun that was asked for is one whether a request strayed or not
asked_to_rerun : path_by verdict.Rerun true ≡ path.Verdict
asked_to_rerun = refl
