use Rattle.hv_sketch.proofs.Least.{least-of_joined, least-of_pieces}
use Rattle.hv_sketch.proofs.laws.least_of_pieces.Goals as goal

pub returns : goal.returns
returns g c =
    let ranking = c.args.ranking.now in
    record {
      pieces = least-of_pieces _ _ (g.met.R.Ranking.order ranking) (g.met.R.Ranking.ties ranking);
      joined = least-of_joined _ _ (g.met.R.Ranking.order ranking) (g.met.R.Ranking.ties ranking);
    }
