-- What is read of a value is put over a lineage.
use Rattle.std.proofs.Common.{◌≡◌, sym, subst, Result, Ok}
use Rattle.std.specs.declared.alloc.Global.{Global}
use Rattle.std.specs.declared.sync.Arc.{Arc}
use Rattle.serde_json.specs.Data.{Data}
use Rattle.hv_lineage.specs.Lineages.{TermOver}
use Rattle.hv_lineage.specs.declared.lineage.Lineage.{Lineage}
use Rattle.hv_asked.specs.declared.refused.Refused.{Refused}
use Rattle.hv_asked.specs.declared.why.Why.{Why}
use Rattle.hv_asked.specs.Flaws.{and_then, within}
use Rattle.hv_message.specs.declared.asked.TermAsked.{TermAsked}
use Rattle.hv_message.specs.Meant.{IsMade}
use Rattle.hv_message.specs.Terms.{applied, fits_term, over}

pub over_read : (read : Data → Result TermAsked Why) (value : Data) (lineage : TermOver) (asked : TermAsked) (made : Result (Arc Lineage Global) Refused)
    → read value ≡ Ok asked → IsMade made (and_then (λ fit. applied fit lineage) (within fits_term asked)) → IsMade made (over read value lineage)
over_read read value lineage asked made is meant =
    subst (λ found. IsMade made (and_then (λ fit. applied fit lineage) (and_then (within fits_term) found))) (sym is) meant
