use Rattle.std.proofs.Common.{ltb, rules}
use Rattle.std.proofs.lemmas.List.Sorted.{IsPartitionedBy-ltb, IsPartitionPoint-from_clause}
use Rattle.hv_sketch.proofs.GroupRows.{first_number-place}
use Rattle.hv_sketch.proofs.group_table.place_from.Goals as goal

pub returns : goal.returns
returns c =
    let parted = IsPartitionedBy-ltb (λ x. x) _ c.args.from c.requires in
    first_number-place _ _ _
    (IsPartitionPoint-from_clause (λ x. ltb x c.args.from) _ _ c.partition_point.ensures.partitioned parted (λ a r q k. search rules))
