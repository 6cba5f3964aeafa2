use Rattle.std.proofs.Common.{sym, ◌∙◌}
use Rattle.hv_value.specs.SameLaws.{same_by-decides}
use Rattle.hv_expr.specs.contracts.text_test.TextTest as row
use Rattle.hv_find.proofs.same.are_same_tests.Goals as goal

pub returns : goal.returns
returns c =
    let decides = same_by-decides row.the_row.coded c.args.a.now c.args.b.now in (
      λ yes. decides.0 (sym c.eq.ensures ∙ yes),
      λ same. c.eq.ensures ∙ decides.1 same,
    )
