use Rattle.std.proofs.Common.{◌≡◌, Option, Some, None, refl, ap, ◌∙◌}
use Rattle.std.specs.Prelude.{option_and_then, option_map}
use Rattle.std.specs.FinMap as map
use Rattle.tpcc_rows.specs.declared.key.RowKey.TheVariants as key
use Rattle.tpcc_rows.specs.declared.row.Row.TheVariants as row
use Rattle.tpcc_rows.specs.declared.row.CustomerRow.{CustomerRow}
use Rattle.tpcc_rows.specs.RowKinds.{as_customer}
use Rattle.row_tables.proofs.Keyed.{row-at, table-at}
use Rattle.row_tables.proofs.store.RowTables.customer.Goals as goal

back : (o : Option CustomerRow) → o ≡ option_and_then as_customer (option_map (λ r. row.Customer r) o)
back None = refl
back (Some x) = refl

pub customer-requires : goal.customer-requires
customer-requires c = table-at _ c.self.invariant.are_kept (key.Customer c.args.warehouse c.args.district c.args.customer) c.customer_rank.ensures.limits c.customer_rank.result c.customer_rank.ensures.value

pub returns : goal.returns
returns c =
    back _
    ∙ ap (option_and_then as_customer) (c.customer.ensures
    ∙ row-at _ c.self.invariant.are_kept (key.Customer c.args.warehouse c.args.district c.args.customer) c.customer_rank.ensures.limits c.customer_rank.result c.customer_rank.ensures.value
    ∙ ap (λ m. map.get m (key.Customer c.args.warehouse c.args.district c.args.customer)) c.self.view_is)
