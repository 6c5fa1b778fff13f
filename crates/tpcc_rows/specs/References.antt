-- A row behind a reference.
use Rattle.tpcc_rows.specs.declared.row.Row.{Row}
use Rattle.tpcc_rows.specs.declared.row.Row.TheVariants as row
use Rattle.tpcc_rows.specs.declared.row_ref.RowRef.{RowRef}
use Rattle.tpcc_rows.specs.declared.row_ref.RowRef.TheVariants.{Warehouse, Customer, Stock, Order, NewOrder, OrderLine, History, DistrictYtd, DistrictNext}

abbrev pub row_of : RowRef → Row
row_of (Warehouse r) = row.Warehouse r.now
row_of (Customer r) = row.Customer r.now
row_of (Stock r) = row.Stock r.now
row_of (Order r) = row.Order r.now
row_of NewOrder = row.NewOrder
row_of (OrderLine r) = row.OrderLine r.now
row_of (History r) = row.History r.now
row_of (DistrictYtd r) = row.DistrictYtd r.now
row_of (DistrictNext r) = row.DistrictNext r.now
