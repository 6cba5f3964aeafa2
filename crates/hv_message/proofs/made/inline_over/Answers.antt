use Rattle.std.proofs.Common.{◌≡◌, true, sym, subst}
use Rattle.hv_asked.specs.Tables.{are_parts}
use Rattle.hv_message.proofs.TableLemmas.{inline_fits}
use Rattle.hv_message.proofs.made.inline_over.Goals as goal

pub base-requires : goal.base-requires
base-requires c = inline_fits c.in_ok-schema.schema c.items_of-parts.result (subst (λ parts. are_parts parts ≡ true) (sym c.items_of-parts.ensures) c.requires)
