use Rattle.std.proofs.Common.{◌==◌, length, not, rules}
use Rattle.std.proofs.lemmas.List.Sorted.{IsPartitionPoint-from_clause}
use Rattle.tpcc_rows.proofs.Padding.{text_ends}
use Rattle.catalog.proofs.Packing.{text_ended}
use Rattle.catalog.proofs.card.unpadded.Goals as goal

pub returns-in-Some-eq0 : goal.returns-in-Some-eq0
returns-in-Some-eq0 c =
    let bytes = c.args.padded.now in
    let point = c.partition_point in
    text_ended bytes point.result c.requires (text_ends (length bytes) bytes point.result c.requires point.ensures.bound
    (λ h. IsPartitionPoint-from_clause (λ b. not (b == 0)) bytes point.result point.ensures.partitioned h (λ a r f k. search rules)))
