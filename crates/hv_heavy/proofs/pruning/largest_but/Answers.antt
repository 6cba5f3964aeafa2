use Rattle.std.proofs.Common.{◌≡◌, ◌≤◌, ◌+◌, ◌*◌, subst, length, arith}
use Rattle.std.specs.Prelude.{count_by, nat_lt, sum_by}
use Rattle.hv_heavy.proofs.CutFacts.{at_cut, behind-cut, cut-enough, cut-few}
use Rattle.hv_heavy.proofs.pruning.largest_but.Goals as goal

-- as many are behind the number as are to stay
pub returns-clause-enough : goal.returns-clause-enough
returns-clause-enough c =
    let split = c.select_nth_unstable-number in
    let cut = split.result.1.now in
    let behind = behind-cut cut c.args.numbers.now split.result.0.now split.result.2.now split.ensures.permutation split.ensures.partitioned in
    let many : length split.result.2.now ≡ c.args.k = omega (arith, behind, split.ensures.front_len) in
    subst (λ n. (n + 1) * cut ≤ sum_by (at_cut cut) c.args.numbers.now) many
    (cut-enough cut c.args.numbers.now split.result.0.now split.result.2.now split.ensures.permutation split.ensures.partitioned)

pub returns-clause-few : goal.returns-clause-few
returns-clause-few c =
    let split = c.select_nth_unstable-number in
    let cut = split.result.1.now in
    let behind = behind-cut cut c.args.numbers.now split.result.0.now split.result.2.now split.ensures.permutation split.ensures.partitioned in
    let many : length split.result.2.now ≡ c.args.k = omega (arith, behind, split.ensures.front_len) in
    subst (λ n. count_by (λ m. nat_lt cut m) c.args.numbers.now ≤ n) many
    (cut-few cut c.args.numbers.now split.result.0.now split.result.2.now split.ensures.permutation split.ensures.partitioned)
