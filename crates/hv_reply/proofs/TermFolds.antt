-- The folds of terms at each of their nodes, as a set for tactics.
use Rattle.hv_lineage.proofs.TermNodes.{fold-Base, fold-Filter, fold-Project, fold-Derive, fold-Sample, fold-Combine}

pub ruleset folds = (fold-Base, fold-Filter, fold-Project, fold-Derive, fold-Sample, fold-Combine)
