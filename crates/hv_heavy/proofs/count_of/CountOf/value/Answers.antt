use Rattle.std.proofs.Common.{◌≡◌, ◌+◌, ◌<◌, ◌^◌, ◌∙◌, List, ℕ, ap, subst, length, map, take, get_or}
use Rattle.std.specs.List.{sum}
use Rattle.hv_value.specs.declared.cell.Cell.{Cell}
use Rattle.hv_heavy.specs.CountOf.{value_count}
use Rattle.hv_heavy.proofs.SlotCounts.{counts-are}
use Rattle.hv_heavy.proofs.count_of.CountOf.value.Goals as goal

-- the parts are read from the summary's counts
pub returns : goal.returns
returns c =
    λ rows h.
    let values : List Cell = c.args.self.now.values in
    let counts : List ℕ = c.args.s.now in
    let places = c.in_ok-places.ensures ∙ c.as_slice-values.ensures in
    let shown : c.in_ok-value_counts.field-0 ≡ map (value_count values counts) values =
    c.in_ok-value_counts.ensures
    ∙ ap (λ l. map (value_count l c.as_slice-counts.result.now) c.as_slice-values.result.now) places
    ∙ ap (λ l. map (value_count values l) c.as_slice-values.result.now) c.as_slice-counts.ensures
    ∙ ap (λ l. map (value_count values counts) l) c.as_slice-values.ensures in
    let missing : c.count_at.result ≡ get_or counts (length values + 1) 0 =
    c.count_at.ensures
    ∙ ap (λ l. get_or c.as_slice-counts.result.now (length l + 1) 0) c.as_slice-values.ensures
    ∙ ap (λ l. get_or l (length values + 1) 0) c.as_slice-counts.ensures in
    let n : sum (take (length values + 1) counts) < 2 ^ 64 → c.first_sum.result ≡ sum (take (length values + 1) counts) =
    subst (λ (l : List Cell). sum (take (length l + 1) counts) < 2 ^ 64 → c.first_sum.result ≡ sum (take (length l + 1) counts)) c.as_slice-values.ensures
    (subst (λ (l : List ℕ). sum (take (length c.as_slice-values.result.now + 1) l) < 2 ^ 64 → c.first_sum.result ≡ sum (take (length c.as_slice-values.result.now + 1) l))
    c.as_slice-counts.ensures c.first_sum.ensures) in
    counts-are c.args.self.now.col values rows counts h _ _ _ shown missing n
