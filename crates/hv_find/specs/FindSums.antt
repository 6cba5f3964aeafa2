-- What is found in two lists of rows together.
use Rattle.std.specs.Prelude.{◌+◌, List}
use Rattle.hv_value.specs.declared.orders.OrderKey.{OrderKey}
use Rattle.hv_value.specs.Orders.{compare_keys}
use Rattle.hv_find.specs.Least.{lesser}
use Rattle.hv_find.specs.declared.summary.FindSummary.{FindSummary}

-- the numbers of both added, and the lesser of their least keys
abbrev pub find_sum : List OrderKey → FindSummary → FindSummary → FindSummary
find_sum keys a b =
    record {
      above = a.above + b.above;
      before = a.before + b.before;
      first = lesser (compare_keys keys) a.first b.first;
    }
