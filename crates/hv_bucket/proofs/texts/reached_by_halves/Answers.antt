use Rattle.std.proofs.Common.{rules}
use Rattle.std.proofs.lemmas.List.Sorted.{IsPartitionPoint-from_clause}
use Rattle.hv_bucket.specs.Buckets.{is_reached}
use Rattle.hv_bucket.proofs.Reached.{point-counts, reached-first}
use Rattle.hv_bucket.proofs.texts.reached_by_halves.Goals as goal

-- the boundaries that aren't above the text come first
pub returns-clause-value : goal.returns-clause-value
returns-clause-value c =
    point-counts (is_reached c.args.text.now) _ _ c.partition_point.ensures.bound
    (IsPartitionPoint-from_clause (is_reached c.args.text.now) _ _ c.partition_point.ensures.partitioned (reached-first c.args.text.now _ c.requires) (λ a r q k. search rules))
