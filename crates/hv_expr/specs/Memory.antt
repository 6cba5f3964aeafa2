-- Which tests and predicates may take memory: all others never do. This project's own rule.
use Rattle.std.specs.Prelude.{Bool, true, false, not, ◌&&◌}
use Rattle.std.specs.List.{list_any}
use Rattle.hv_expr.specs.declared.pred.Pred.{Pred, fold-Pred}
use Rattle.hv_expr.specs.declared.pred.Pred.TheOpen.{Pred-F}
use Rattle.hv_expr.specs.declared.text_test.How.{How}
use Rattle.hv_expr.specs.declared.text_test.How.TheVariants as how
use Rattle.hv_expr.specs.declared.text_test.TextTest.{TextTest}

abbrev pub is_equality : How → Bool
is_equality how.Equals = true
is_equality how.Contains = false
is_equality how.Begins = false

-- whether a test folds a whole text: it folds, and asks for more than equality, which is found character by character
abbrev pub test_takes_memory : TextTest → Bool
test_takes_memory test = test.fold && not (is_equality test.how)

-- whether a node takes memory, of whether its parts do
abbrev pub node_takes_memory : Pred-F Bool → Bool
node_takes_memory (Pred-F.Cmp col how to) = false
node_takes_memory (Pred-F.Missing col) = false
node_takes_memory (Pred-F.Match col test) = test_takes_memory test
node_takes_memory (Pred-F.And parts) = list_any (λ part. part) parts
node_takes_memory (Pred-F.Or parts) = list_any (λ part. part) parts
node_takes_memory (Pred-F.Not of) = of

-- whether one of a predicate's tests takes memory
unfoldable pub pred_takes_memory : Pred → Bool
pred_takes_memory = fold-Pred Bool node_takes_memory
