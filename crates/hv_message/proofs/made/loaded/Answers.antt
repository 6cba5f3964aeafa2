use Rattle.std.proofs.Common.{◌∙◌, sym}
use Rattle.hv_message.proofs.TableLemmas.{few_named}
use Rattle.hv_message.proofs.made.loaded.Goals as goal

pub named_over-requires : goal.named_over-requires
named_over-requires c = few_named c.as_str.result.now c.args.catalog.now c.in-Some.parts c.parts_of.ensures.catalog (sym c.parts_of.ensures.value ∙ c.in-Some.is)
