use Rattle.std.proofs.Common.{arith}
use Rattle.std.specs.FinMap.{entries}
use Rattle.stored_image.proofs.StoredTexts.{count-whole, parts-fewer, rows-fewer, tables-whole}
use Rattle.stored_image.specs.declared.stored_record.RowPart.TheVariants as row_part
use Rattle.image_records.specs.Databases.{loaded}
use Rattle.stored_image.proofs.store.write_tables.Goals as goal

pub overflow_add-result : goal.overflow_add-result
overflow_add-result c =
    let few = c.len-cards.ensures.small in
    let most = parts-fewer c.args.rows.now.rows (entries c.args.catalog.now) in
    omega (arith, few, most, c.len-cards.ensures.value, c.in_ok-first.ensures.count, c.in_ok-customers.ensures.count)

pub overflow_add-result-2 : goal.overflow_add-result-2
overflow_add-result-2 c =
    let few = c.len-cards.ensures.small in
    let most = parts-fewer c.args.rows.now.rows (entries c.args.catalog.now) in
    omega (arith, few, most, c.len-cards.ensures.value, c.in_ok-first.ensures.count, c.in_ok-customers.ensures.count, c.in_ok-items.ensures.count)

pub overflow_add-result-3 : goal.overflow_add-result-3
overflow_add-result-3 c =
    let few = c.len-cards.ensures.small in
    let most = parts-fewer c.args.rows.now.rows (entries c.args.catalog.now) in
    omega (arith, few, most, c.len-cards.ensures.value, c.in_ok-first.ensures.count, c.in_ok-customers.ensures.count, c.in_ok-items.ensures.count, c.in_ok-stocks.ensures.count)

pub overflow_add-result-4 : goal.overflow_add-result-4
overflow_add-result-4 c =
    let few = c.in_ok-keys.ensures.small in
    let most = rows-fewer c.args.rows.now.rows c.in_ok-keys.keys.keys in
    omega (arith, few, most, c.in_ok-districts.ensures.count, c.in_ok-others.ensures.count)

pub overflow_add-result-5 : goal.overflow_add-result-5
overflow_add-result-5 c =
    let few = c.len-cards.ensures.small in
    let few_keys = c.in_ok-keys.ensures.small in
    let most = parts-fewer c.args.rows.now.rows (entries c.args.catalog.now) in
    let most_keys = rows-fewer c.args.rows.now.rows c.in_ok-keys.keys.keys in
    omega (arith, few, few_keys, most, most_keys, c.len-cards.ensures.value, c.in_ok-first.ensures.count, c.in_ok-customers.ensures.count, c.in_ok-items.ensures.count, c.in_ok-stocks.ensures.count, c.in_ok-districts.ensures.count, c.in_ok-others.ensures.count)

pub returns-clause-text : goal.returns-clause-text
returns-clause-text c = tables-whole (loaded (c.args.catalog.now, c.args.rows.now)) _ _ _ _ _ _ _ _ _ c.in_ok-first.ensures.text c.in_ok-districts.ensures.text c.in_ok-customers.ensures.text c.in_ok-items.ensures.text c.in_ok-stocks.ensures.text c.in_ok-others.ensures.text
    (c.in_ok-keys.ensures.said row_part.Districts) (c.in_ok-keys.ensures.said row_part.Others)

pub returns-clause-count : goal.returns-clause-count
returns-clause-count c =
    let whole = count-whole (loaded (c.args.catalog.now, c.args.rows.now)) _ _ (c.in_ok-keys.ensures.said row_part.Districts) (c.in_ok-keys.ensures.said row_part.Others) in
    omega (arith, whole, c.in_ok-first.ensures.count, c.in_ok-customers.ensures.count, c.in_ok-items.ensures.count, c.in_ok-stocks.ensures.count, c.in_ok-districts.ensures.count, c.in_ok-others.ensures.count)
