use Rattle.hv_value.specs.SameLaws.{same_by-is}
use Rattle.hv_expr.specs.contracts.text_test.TextTest as row
use Rattle.hv_expr.proofs.same.TextTestPartialEq.eq.Goals as goal

pub returns : goal.returns
returns c = same_by-is row.the_row.coded c.are_same_tests.result c.args.self.now c.args.other.now c.are_same_tests.ensures
