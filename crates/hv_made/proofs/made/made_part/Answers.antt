use Rattle.hv_made.proofs.RowSteps.{rows-made}
use Rattle.hv_made.proofs.made.made_part.Goals as goal

-- the rows of what is made are the base's under the term
pub returns : goal.returns
returns c =
    let made = c.in_ok-made.made in
    let is = c.in_ok-made.ensures in
    record {
      columns_are = rw (c.requires, c.term.ensures) at is.columns_are;
      part_is = is.part_is;
      rows_are = rw (c.requires, c.term.ensures) at (rows-made c.term.result.now c.args.base made is c.height.ensures.whole.member.rising c.height-2.ensures.whole.member.rising);
    }
