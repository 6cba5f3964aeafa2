use Rattle.std.proofs.Common.{sym, ap, ◌∙◌}
use Rattle.hv_member.specs.Sets.{has_all}
use Rattle.hv_member.proofs.RisingLemmas.{numbers-has_all}
use Rattle.hv_member.proofs.WordSetLemmas.{set-seen, is_full-kept}
use Rattle.hv_member.proofs.part_set.PartSet.is_full.Goals as goal

pub returns-clause-value : goal.returns-clause-value
returns-clause-value c =
    is_full-kept _ _ _ c.self.invariant ∙ ap (λ s. has_all s.size s.parts) c.self.view_is

pub returns-clause-whole : goal.returns-clause-whole
returns-clause-whole c full =
    numbers-has_all _ _ (set-seen _ _ _ c.self.view_is) (sym (returns-clause-value c) ∙ full)
