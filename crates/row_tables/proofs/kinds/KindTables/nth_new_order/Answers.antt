use Rattle.std.proofs.Common.{ℕ, refl, sym, ap, slice_get, ◌∙◌, arith}
use Rattle.std.specs.FinMap as map
use Rattle.std.specs.Prelude.{⊤, option_map}
use Rattle.tpcc_rows.specs.declared.row.Row.TheVariants as row
use Rattle.row_tables.proofs.Parts.{both-maps, nth-in}
use Rattle.row_tables.proofs.kinds.KindTables.nth_new_order.Goals as goal

pub returns : goal.returns
returns c =
    let ranks = map.entries c.queue_at.result.now in
    ap (option_map (λ (r : ℕ). (r, row.NewOrder))) c.nth.ensures
    ∙ sym (both-maps (λ (e : ℕ × ⊤). e.0) (λ r. (r, row.NewOrder)) (slice_get ranks c.args.n))
    ∙ nth-in (λ _. row.NewOrder) _ c.self.invariant _ c.self.view_is c.self.inside.new_orders 4 (omega arith) refl refl c.args.part _ c.requires c.first_rank.ensures ranks (ap (λ m. map.entries m) c.queue_at.ensures) c.args.n
