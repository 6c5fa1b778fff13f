-- The machine of the transactions is framed.
use Rattle.std.proofs.Common.{◌≡◌, ℕ, T, List, [], ◌∷◌, Option, Some, cond, refl, ap, ◌∙◌}
use Rattle.std.proofs.lemmas.Cmp.{tied_itself}
use Rattle.std.specs.List.{AllByRecursion}
use Rattle.std.specs.Ordering.{is_eq}
use Rattle.std.specs.FinMap.{entries, entries_sorted, find, get-entries, is_sorted}
use Rattle.std.specs.FinMap.Entries.{below_all}
use Rattle.tpcc_rows.specs.Changing.{after}
use Rattle.tpcc_rows.specs.RowMap.{Changes, row_key_cmp}
use Rattle.tpcc_rows.specs.declared.granule.Granule.{Granule}
use Rattle.tpcc_rows.specs.declared.key.RowKey.{RowKey}
use Rattle.tpcc_rows.specs.declared.row.Row.{Row}
use Rattle.tpcc_rows.proofs.Footprints.{same_granule-Decides}
use Rattle.tpcc_rows.proofs.Keys.{row_key_cmp_total, exact_keys}
use Rattle.tpcc_rows.proofs.Singles.{found_later, second}
use Rattle.tpcc_model.specs.Database.{database}
use Rattle.tpcc_model.specs.Steps.{step}
use Rattle.tpcc_model.specs.Touches.{ArePlaced, IsPlaced, touch}
use Rattle.tpcc_laws.specs.Laws.{IsFramedMachine, StepFrames, StepKeeps}

-- the entries of placed changes
placed_entries : (number : ℕ) (gs : List Granule) (es : List (RowKey × Option Row)) → T (is_sorted row_key_cmp es) → ((k : RowKey) (new : Option Row) → find row_key_cmp k es ≡ Some new → IsPlaced number gs k) → AllByRecursion (λ e. IsPlaced number gs e.0) es
placed_entries number gs [] sorted placed = tt
placed_entries number gs (e ∷ es) sorted placed = (
  placed e.0 e.1 (ap (λ r. cond (is_eq r) (Some e.1) (find row_key_cmp e.0 es)) (tied_itself row_key_cmp_total e.0)),
  placed_entries number gs es (second (below_all row_key_cmp e.0 es) (is_sorted row_key_cmp es) sorted) (λ k new h. placed k new (found_later row_key_cmp_total exact_keys e es k new sorted h)),
)

each_placed : (number : ℕ) (gs : List Granule) (changes : Changes) → ArePlaced number gs changes → AllByRecursion (λ e. IsPlaced number gs e.0) (entries changes)
each_placed number gs changes placed = placed_entries number gs (entries changes) (entries_sorted changes) (λ k new h. placed k new (get-entries changes k ∙ h))

pub framed : StepKeeps → StepFrames → IsFramedMachine
unfolding after
framed keeps frames cards moment timed = record {
  total = row_key_cmp_total;
  exact_keys = exact_keys;
  exact_granules = same_granule-Decides;
  own_alone = λ n. refl;
  own_distinct = λ m n e. cc;
  read_too = λ rows q g h. frames.read_too (database cards rows) q g h;
  keeps = λ rows n q sound fits. (keeps (database cards rows) q n moment sound fits.1 fits.0 timed).sound;
  same_touch = λ s t n q sound other fits agree. frames.same_touch cards s t q agree;
  same_step = λ s t n q sound other fits agree. ap (λ o. record { reply = o.reply; changes = entries o.changes }) (frames.same_step cards s t q n moment agree);
  placed = λ rows n q sound fits. (
      let db = database cards rows in
      each_placed n (touch db q).writes (step db q n moment).changes (frames.placed db q n moment));
}
