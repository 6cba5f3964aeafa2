use Rattle.std.proofs.Common.{◌-◌, length, sym, ◌∙◌, arith}
use Rattle.hv_next.specs.KeyOrder.{rows_total}
use Rattle.hv_next.specs.Next.{compare_rows, one_row}
use Rattle.hv_next.proofs.KeyFacts.{as_cells}
use Rattle.hv_next.proofs.PlaceFacts.{above-last, is-greater}
use Rattle.hv_next.proofs.add_key.is_past.Goals as goal

pub returns-then-count-gt0 : goal.returns-then-count-gt0
returns-then-count-gt0 g c = λ yes found there.
    let keys = c.args.order.now in
    record {
      full = omega (arith, c.requires.kept.few);
      some = omega (arith, c.if-count-gt0.true);
      above =
          above-last (compare_rows keys) (rows_total keys) (one_row keys found) c.args.rows.now
          (length c.args.rows.now - 1) c.index-rows-count.result _ c.requires.kept.rising c.index-rows-count.is
          (omega (arith, c.if-count-gt0.true))
          (as_cells keys found _ _ _ _ c.index-rows-count.is c.as_slice.ensures (c.compare_row.ensures found there)
          ∙ is-greater _ (sym c.is_gt.ensures ∙ yes));
    }
