-- Prepared trees say what the trees say that they were made of.
use Rattle.std.proofs.Common.{◌≡◌, ℕ, Bool, true, false, not, List, [], ◌∷◌, ◌++◌, length, nat_lt, Option, refl, ap, sym, ◌∙◌}
use Rattle.std.specs.List.{list_all, list_any, position_or_len}
use Rattle.std.proofs.lemmas.List.{map-append}
use Rattle.std.proofs.lemmas.List.Folds.{list_all-append, list_all-map, list_any-append}
use Rattle.hv_value.specs.declared.cell.Cell.{Cell}
use Rattle.hv_value.specs.declared.cell.Cell.TheVariants as cell
use Rattle.hv_value.specs.Schema.{Columns, column_place, is_named}
use Rattle.hv_expr.specs.declared.pred.Rel.{Rel}
use Rattle.hv_expr.specs.declared.pred.Pred.{Pred}
use Rattle.hv_expr.specs.declared.pred.Pred as tree
use Rattle.hv_expr.specs.declared.ready_pred.ReadyPred.{ReadyPred}
use Rattle.hv_expr.specs.declared.ready_pred.ReadyPred as ready
use Rattle.hv_expr.specs.declared.text_test.TextTest.{TextTest}
use Rattle.hv_expr.specs.declared.ready_test.ReadyTest.{ReadyTest}
use Rattle.hv_expr.specs.Holds.{cell_meets, holds, is_missing, is_related, node_holds}
use Rattle.hv_expr.specs.Memory.{node_takes_memory, pred_takes_memory}
use Rattle.hv_expr.specs.Values.{cell_at_place, cell_named}
use Rattle.hv_expr.specs.Ready.{AreReadyPreds, IsReadyPred, IsReadyTest, is_place_within, is_pred_node_within, is_pred_within, ready_cell_meets, ready_holds, ready_node_holds, ready_node_takes_memory, ready_pred_takes_memory, ready_takes_memory}
use Rattle.hv_expr.proofs.Folds.{fold-Cmp, fold-Missing, fold-Match, fold-Not}
use Rattle.hv_expr.proofs.PartLemmas.{and-holds, and-memory, or-holds, or-memory, list_any-map}
use Rattle.hv_expr.proofs.ReadyFolds.{fold-p-Cmp, fold-p-Missing, fold-p-Match, fold-p-And, fold-p-Or, fold-p-Not}

-- a column's place is that of one of the columns
pub place-within : (name : List ℕ) (columns : Columns) → is_place_within (length columns) (column_place name columns) ≡ true
place-within name columns = by (nat_lt (position_or_len (is_named name) columns) (length columns)) refl
  where
    by : (b : Bool) → nat_lt (position_or_len (is_named name) columns) (length columns) ≡ b
        → is_place_within (length columns) (column_place name columns) ≡ true
    by true e = rw e e
    by false e = rw e refl

module _ (columns : Columns) where
  pub ready-cmp : (col : List ℕ) (how : Rel) (to : Cell) → IsReadyPred columns (tree.Cmp col how to) (ready.Cmp (column_place col columns) how to)
  unfolding is_pred_within ready_holds holds ready_pred_takes_memory pred_takes_memory
  ready-cmp col how to = record {
    within = fold-p-Cmp Bool (is_pred_node_within (length columns)) (column_place col columns) how to ∙ place-within col columns;
    same = λ cells. fold-p-Cmp Bool (ready_node_holds cells) (column_place col columns) how to ∙ sym (fold-Cmp Bool (node_holds columns cells) col how to);
    memory = fold-p-Cmp Bool ready_node_takes_memory (column_place col columns) how to ∙ sym (fold-Cmp Bool node_takes_memory col how to);
  }

  pub ready-missing : (col : List ℕ) → IsReadyPred columns (tree.Missing col) (ready.Missing (column_place col columns))
  unfolding is_pred_within ready_holds holds ready_pred_takes_memory pred_takes_memory
  ready-missing col = record {
    within = fold-p-Missing Bool (is_pred_node_within (length columns)) (column_place col columns) ∙ place-within col columns;
    same = λ cells. fold-p-Missing Bool (ready_node_holds cells) (column_place col columns) ∙ sym (fold-Missing Bool (node_holds columns cells) col);
    memory = fold-p-Missing Bool ready_node_takes_memory (column_place col columns) ∙ sym (fold-Missing Bool node_takes_memory col);
  }

  same-test : (test : TextTest) (made : ReadyTest) → IsReadyTest test made → (c : Cell) → ready_cell_meets made c ≡ cell_meets test c
  same-test test made is cell.Missing = refl
  same-test test made is (cell.Int n) = refl
  same-test test made is (cell.Date day) = refl
  same-test test made is (cell.Text text) = is.same text

  pub ready-match : (col : List ℕ) (test : TextTest) (made : ReadyTest) → IsReadyTest test made
      → IsReadyPred columns (tree.Match col test) (ready.Match (column_place col columns) made)
  unfolding is_pred_within ready_holds holds ready_pred_takes_memory pred_takes_memory
  ready-match col test made is = record {
    within = fold-p-Match Bool (is_pred_node_within (length columns)) (column_place col columns) made ∙ place-within col columns;
    same = λ cells. fold-p-Match Bool (ready_node_holds cells) (column_place col columns) made
        ∙ (same-test test made is (cell_named columns cells col) ∙ sym (fold-Match Bool (node_holds columns cells) col test));
    memory = fold-p-Match Bool ready_node_takes_memory (column_place col columns) made ∙ (is.memory ∙ sym (fold-Match Bool node_takes_memory col test));
  }

  pub ready-not : (of : Pred) (made : ReadyPred) → IsReadyPred columns of made → IsReadyPred columns (tree.Not of) (ready.Not made)
  unfolding is_pred_within ready_holds holds ready_pred_takes_memory pred_takes_memory
  ready-not of made is = record {
    within = fold-p-Not Bool (is_pred_node_within (length columns)) made ∙ is.within;
    same = λ cells. fold-p-Not Bool (ready_node_holds cells) made ∙ (ap not (is.same cells) ∙ sym (fold-Not Bool (node_holds columns cells) of));
    memory = fold-p-Not Bool ready_node_takes_memory made ∙ (is.memory ∙ sym (fold-Not Bool node_takes_memory of));
  }

-- a list of prepared parts is within the columns where each is
pub and-within : (columns : ℕ) (parts : List ReadyPred) → is_pred_within columns (ready.And parts) ≡ list_all (is_pred_within columns) parts
unfolding is_pred_within
and-within columns parts = fold-p-And Bool (is_pred_node_within columns) parts ∙ list_all-map (λ part. part) (is_pred_within columns) parts

pub or-within : (columns : ℕ) (parts : List ReadyPred) → is_pred_within columns (ready.Or parts) ≡ list_all (is_pred_within columns) parts
unfolding is_pred_within
or-within columns parts = fold-p-Or Bool (is_pred_node_within columns) parts ∙ list_all-map (λ part. part) (is_pred_within columns) parts

-- and says what they say
pub and-ready : (cells : List Cell) (parts : List ReadyPred) → ready_holds cells (ready.And parts) ≡ list_all (ready_holds cells) parts
unfolding ready_holds
and-ready cells parts = fold-p-And Bool (ready_node_holds cells) parts ∙ list_all-map (λ part. part) (ready_holds cells) parts

pub or-ready : (cells : List Cell) (parts : List ReadyPred) → ready_holds cells (ready.Or parts) ≡ list_any (ready_holds cells) parts
unfolding ready_holds
or-ready cells parts = fold-p-Or Bool (ready_node_holds cells) parts ∙ list_any-map (λ part. part) (ready_holds cells) parts

-- and takes memory where one of them does
pub and-ready-memory : (parts : List ReadyPred) → ready_pred_takes_memory (ready.And parts) ≡ list_any ready_pred_takes_memory parts
unfolding ready_pred_takes_memory
and-ready-memory parts = fold-p-And Bool ready_node_takes_memory parts ∙ list_any-map (λ part. part) ready_pred_takes_memory parts

pub or-ready-memory : (parts : List ReadyPred) → ready_pred_takes_memory (ready.Or parts) ≡ list_any ready_pred_takes_memory parts
unfolding ready_pred_takes_memory
or-ready-memory parts = fold-p-Or Bool ready_node_takes_memory parts ∙ list_any-map (λ part. part) ready_pred_takes_memory parts

-- the other nodes
pub cmp-within : (columns : ℕ) (place : Option ℕ) (how : Rel) (to : Cell) → is_pred_within columns (ready.Cmp place how to) ≡ is_place_within columns place
unfolding is_pred_within
cmp-within columns = fold-p-Cmp Bool (is_pred_node_within columns)

pub missing-within : (columns : ℕ) (place : Option ℕ) → is_pred_within columns (ready.Missing place) ≡ is_place_within columns place
unfolding is_pred_within
missing-within columns = fold-p-Missing Bool (is_pred_node_within columns)

pub match-within : (columns : ℕ) (place : Option ℕ) (test : ReadyTest) → is_pred_within columns (ready.Match place test) ≡ is_place_within columns place
unfolding is_pred_within
match-within columns = fold-p-Match Bool (is_pred_node_within columns)

pub not-within : (columns : ℕ) (of : ReadyPred) → is_pred_within columns (ready.Not of) ≡ is_pred_within columns of
unfolding is_pred_within
not-within columns = fold-p-Not Bool (is_pred_node_within columns)

pub cmp-ready : (cells : List Cell) (place : Option ℕ) (how : Rel) (to : Cell) → ready_holds cells (ready.Cmp place how to) ≡ is_related how to (cell_at_place cells place)
unfolding ready_holds
cmp-ready cells = fold-p-Cmp Bool (ready_node_holds cells)

pub missing-ready : (cells : List Cell) (place : Option ℕ) → ready_holds cells (ready.Missing place) ≡ is_missing (cell_at_place cells place)
unfolding ready_holds
missing-ready cells = fold-p-Missing Bool (ready_node_holds cells)

pub match-ready : (cells : List Cell) (place : Option ℕ) (test : ReadyTest) → ready_holds cells (ready.Match place test) ≡ ready_cell_meets test (cell_at_place cells place)
unfolding ready_holds
match-ready cells = fold-p-Match Bool (ready_node_holds cells)

pub not-ready : (cells : List Cell) (of : ReadyPred) → ready_holds cells (ready.Not of) ≡ not (ready_holds cells of)
unfolding ready_holds
not-ready cells = fold-p-Not Bool (ready_node_holds cells)

pub match-memory : (place : Option ℕ) (test : ReadyTest) → ready_pred_takes_memory (ready.Match place test) ≡ ready_takes_memory test
unfolding ready_pred_takes_memory
match-memory = fold-p-Match Bool ready_node_takes_memory

pub not-memory : (of : ReadyPred) → ready_pred_takes_memory (ready.Not of) ≡ ready_pred_takes_memory of
unfolding ready_pred_takes_memory
not-memory = fold-p-Not Bool ready_node_takes_memory

pub ruleset nodes = (and-ready-memory, or-ready-memory, match-memory, not-memory, cmp-within, missing-within, match-within, and-within, or-within, not-within, cmp-ready, missing-ready, match-ready, and-ready, or-ready, not-ready)

module _ (columns : Columns) (preds : List Pred) (made : List ReadyPred) (are : AreReadyPreds columns preds made) where
  pub ready-and : IsReadyPred columns (tree.And preds) (ready.And made)
  ready-and = record {
    within = and-within (length columns) made ∙ are.within;
    same = λ cells. and-ready cells made ∙ (sym (list_all-map (λ b. b) (ready_holds cells) made)
        ∙ (ap (list_all (λ b. b)) (are.same cells) ∙ (list_all-map (λ b. b) (holds columns cells) preds ∙ sym (and-holds columns cells preds))));
    memory = and-ready-memory made ∙ (are.memory ∙ sym (and-memory preds));
  }

  pub ready-or : IsReadyPred columns (tree.Or preds) (ready.Or made)
  ready-or = record {
    within = or-within (length columns) made ∙ are.within;
    same = λ cells. or-ready cells made ∙ (sym (list_any-map (λ b. b) (ready_holds cells) made)
        ∙ (ap (list_any (λ b. b)) (are.same cells) ∙ (list_any-map (λ b. b) (holds columns cells) preds ∙ sym (or-holds columns cells preds))));
    memory = or-ready-memory made ∙ (are.memory ∙ sym (or-memory preds));
  }

  -- one more of both
  pub ready-more : (pred : Pred) (one : ReadyPred) → IsReadyPred columns pred one → AreReadyPreds columns (preds ++ pred ∷ []) (made ++ one ∷ [])
  ready-more pred one is = record {
    within = list_all-append (is_pred_within (length columns)) made (one ∷ []) ∙ rw (are.within, is.within) refl;
    same = λ cells. map-append (ready_holds cells) made (one ∷ [])
        ∙ rw (are.same cells, is.same cells) (sym (map-append (holds columns cells) preds (pred ∷ [])));
    memory = list_any-append ready_pred_takes_memory made (one ∷ [])
        ∙ rw (are.memory, is.memory) (sym (list_any-append pred_takes_memory preds (pred ∷ [])));
  }
