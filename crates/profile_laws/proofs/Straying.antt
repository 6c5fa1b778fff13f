-- Of a batch that is executed in order only deliveries stray.
use Rattle.std.proofs.Common.{◌≡◌, ◌+◌, ◌&&◌, ◌||◌, not, ℕ, Bool, true, false, List, [], ◌∷◌, refl, sym, ap, ap₂, subst}
use Rattle.std.proofs.lemmas.Bool.{and_from}
use Rattle.serializability.specs.Folds.{after}
use Rattle.serializability.specs.Footprints.{Footprint, IsWithin, within}
use Rattle.serializability.specs.InTurn.{strays_in_turn}
use Rattle.serializability.specs.Levels.{Job, job_strays, jobs}
use Rattle.catalog.specs.CardMap.{Cards}
use Rattle.requests.specs.declared.request.Request.{Request}
use Rattle.requests.specs.declared.request.Request.TheVariants as request
use Rattle.requests.specs.declared.request.StockLevel.{StockLevel}
use Rattle.tpcc_rows.specs.Granules.{same_granule}
use Rattle.tpcc_rows.specs.RowMap.{Rows}
use Rattle.tpcc_rows.specs.declared.granule.Granule.{Granule}
use Rattle.tpcc_model.specs.Database.{database}
use Rattle.tpcc_model.specs.Machine.{tpcc}
use Rattle.tpcc_model.specs.Soundness.{IsSound}
use Rattle.tpcc_model.specs.Steps.{steps_at}
use Rattle.tpcc_model.specs.Touches.{touch}
use Rattle.profiles.specs.Declarations.{declared_after, each_after}
use Rattle.profiles.specs.Settled.{is_settled}
use Rattle.profiles.proofs.Settled.{among_those, settled_stays, settled_touches}
use Rattle.profile_laws.specs.Straying.{OnlyDeliveriesStray, deliveries_stray_in_turn, delivery_strays}
use Rattle.profile_laws.proofs.Following.{AllFollow, follow-same}
use Rattle.profile_laws.proofs.NewOrders.{IsOrdered}
use Rattle.profile_laws.proofs.Steps.{follow-step}
use Rattle.profile_laws.proofs.StockLevels.{stock_level_within}

-- what is within passes the test
within_from : (t f : Footprint Granule) → IsWithin t f → within same_granule t f ≡ true
within_from t f is = and_from _ _ (among_those t.reads f.reads is.reads) (among_those t.writes f.writes is.writes)

module _ (cards : Cards) (start : Rows) (moment : ℕ) (sound : IsSound (database cards start)) where
  -- a request that these precede, with what it declares at the start
  abbrev job_after : List Request → ℕ → Request → Job Granule Request
  job_after earlier number q = record { number = number; request = q; declared = declared_after (database cards start) earlier q }

  -- the rows are such as these requests may have left
  abbrev pub AreLeft : List Request → Rows → Type 0
  AreLeft earlier rows = AllFollow (IsOrdered cards earlier) start rows

  -- ---- one request
  pub stock_level_stays : (earlier : List Request) (rows : Rows) (number : ℕ) (p : StockLevel) → AreLeft earlier rows → job_strays (tpcc cards moment) rows (job_after earlier number (request.StockLevel p)) ≡ false
  unfolding touch
  stock_level_stays earlier rows number p left = ap not (within_from _ _ (stock_level_within cards start rows earlier p sound left))

  -- what a settled request touches at the start it touches on any rows
  settled_job_stays : (rows : Rows) (number : ℕ) (q : Request) → is_settled q ≡ true
      → job_strays (tpcc cards moment) rows (record { number = number; request = q; declared = touch (database cards start) q }) ≡ false
  settled_job_stays rows number q settled =
      subst (λ (f : Footprint Granule). job_strays (tpcc cards moment) rows (record { number = number; request = q; declared = f }) ≡ false)
      (sym (settled_touches cards start q settled)) (settled_stays cards moment number rows q settled)

  same_straying : (earlier : List Request) (rows : Rows) (number : ℕ) (q : Request) → AreLeft earlier rows
      → job_strays (tpcc cards moment) rows (job_after earlier number q) ≡ delivery_strays cards moment rows (job_after earlier number q)
  same_straying earlier rows number (request.NewOrder p) left = settled_job_stays rows number (request.NewOrder p) refl
  same_straying earlier rows number (request.Payment p) left = settled_job_stays rows number (request.Payment p) refl
  same_straying earlier rows number (request.OrderStatus p) left = settled_job_stays rows number (request.OrderStatus p) refl
  same_straying earlier rows number (request.Delivery p) left = refl
  same_straying earlier rows number (request.StockLevel p) left = stock_level_stays earlier rows number p left

  -- ---- one after the other
  in_turn : (earlier : List Request) (rows : Rows) (number : ℕ) (requests : List Request) → AreLeft earlier rows
      → strays_in_turn (tpcc cards moment) rows (jobs number requests (each_after (declared_after (database cards start)) earlier requests))
      ≡ deliveries_stray_in_turn cards moment rows (jobs number requests (each_after (declared_after (database cards start)) earlier requests))
  in_turn earlier rows number [] left = refl
  in_turn earlier rows number (q ∷ requests) left =
      ap₂ (λ a b. a || b) (same_straying earlier rows number q left)
      (in_turn (q ∷ earlier) (after (steps_at cards moment) rows number q) (number + 1) requests (follow-step cards start rows moment number q earlier left))

pub only_deliveries_stray : OnlyDeliveriesStray
only_deliveries_stray cards rows moment first requests sound = in_turn cards rows moment sound [] rows first requests (follow-same (IsOrdered cards []) rows)
