use Rattle.std.proofs.Common.{rules, length, not}
use Rattle.std.specs.Prelude.{◌==◌}
use Rattle.std.proofs.lemmas.List.Sorted.{IsPartitionPoint-from_clause}
use Rattle.tpcc_rows.proofs.Padding.{text_ends}
use Rattle.tpcc_rows.proofs.text.text_len.Goals as goal

pub returns : goal.returns
returns c = text_ends (length c.args.bytes.now) c.args.bytes.now c.partition_point.result c.requires c.partition_point.ensures.bound
    (λ h. IsPartitionPoint-from_clause (λ b. not (b == 0)) c.args.bytes.now c.partition_point.result c.partition_point.ensures.partitioned h (λ a r f k. search rules))
