-- A predicate within the limits of messages reads back from its JSON. A day is read as a text, which is that day again beside a column of
-- dates.
use Rattle.std.proofs.Common.{◌≡◌, ◌+◌, ◌≤◌, ◌∙◌, ◌++◌, ℕ, zero, suc, ℤ, pos, negsuc, List, [], ◌∷◌, map, sum, Bool, true, false, Option, Some, None, option_map, refl, sym, ap, subst, arith, if◌then◌else◌}
use Rattle.std.specs.Prelude.{nat_le, nat_lt, flat_map}
use Rattle.std.specs.List.{list_all}
use Rattle.std.specs.Cmp.{first_so, second_so}
use Rattle.std.proofs.lemmas.Bool.{le-leb}
use Rattle.serde_json.specs.Data.{Data, number, string}
use Rattle.serde_json.specs.Find.{of_integer}
use Rattle.serde_json.specs.View.{items_of}
use Rattle.serde_json.proofs.OnLiterals.{serde_json_on_literals}
use Rattle.hv_value.specs.Civil.{text_of_day}
use Rattle.hv_value.specs.Days.{is_day_number}
use Rattle.hv_value.specs.Schema.{Columns}
use Rattle.hv_value.specs.declared.cell.Cell.{Cell}
use Rattle.hv_value.specs.declared.cell.Cell.TheVariants as cell
use Rattle.hv_value.specs.declared.cell.Kind.{Kind}
use Rattle.hv_value.specs.declared.cell.Kind.TheVariants as kind
use Rattle.hv_expr.specs.declared.error.ExprErr.{ExprErr}
use Rattle.hv_expr.specs.declared.error.ExprErr.TheVariants as err
use Rattle.hv_expr.specs.declared.error.TheConstants.{MAX_DEPTH}
use Rattle.hv_expr.specs.declared.pred.Pred.{Pred, fold-Pred, ind-Pred, map-Pred, roll-Pred}
use Rattle.hv_expr.specs.declared.pred.Pred.TheOpen.{Pred-F}
use Rattle.hv_expr.specs.declared.pred.Pred.TheVariants as pred
use Rattle.hv_expr.specs.declared.pred.Rel.{Rel}
use Rattle.hv_expr.specs.declared.text_test.TextTest.{TextTest}
use Rattle.hv_expr.specs.Checks.{cmp_faults, first_fault, kind_of_cell, kind_of_column, pred_fault, pred_faults, pred_node_faults}
use Rattle.hv_expr.specs.Sizes.{greatest, pred_depth, pred_measure, pred_nodes}
use Rattle.hv_expr.proofs.Folds.{fold-Cmp, fold-Missing, fold-Match, fold-And, fold-Or, fold-Not}
use Rattle.hv_asked.specs.Constants.{cell_beside, cell_in, fits_cell, is_short}
use Rattle.hv_asked.specs.Fields.{all_read}
use Rattle.hv_asked.specs.Trees.{asked_nodes, dated_node, dated_pred, fit_constant, fits_pred, has_fit_constants, levels, node_count, pred_in}
use Rattle.hv_asked.specs.declared.asked.CellAsked.{CellAsked}
use Rattle.hv_asked.specs.declared.asked.CellAsked.TheVariants as given
use Rattle.hv_asked.specs.declared.pred_asked.PredAsked.{PredAsked}
use Rattle.hv_asked.specs.declared.pred_asked.PredAsked.TheVariants as asks
use Rattle.hv_asked.proofs.AskedFolds as folded
use Rattle.hv_asked.proofs.WordLemmas.{how_back, rel_back}
use Rattle.hv_asked.specs.declared.limits.TheConstants.{MAX_NODES}
use Rattle.hv_reply.specs.Lineages.{pred_data, pred_node_data}
use Rattle.hv_reply.specs.ReadBack.{IsGivenPred, given_node, has_given_constants, is_given}
use Rattle.hv_reply.specs.Values.{cell_data}
use Rattle.hv_reply.proofs.DayBack.{day_back}
use Rattle.hv_reply.proofs.ExprBack.{not_deep}

-- ---- constants

-- what a constant reads as before its column is known
abbrev pub undated_cell : Cell → CellAsked
undated_cell cell.Missing = given.Missing
undated_cell (cell.Int n) = given.Number n
undated_cell (cell.Date day) = if is_day_number day then given.Text (text_of_day day) else given.Number day
undated_cell (cell.Text text) = given.Text text

day_read : (day : ℤ) (named : Bool)
    → cell_in (if named then string (text_of_day day) else number (of_integer day)) ≡ Some (if named then given.Text (text_of_day day) else given.Number day)
day_read day true = refl
day_read (pos n) false = refl
day_read (negsuc n) false = refl

cell_back : (c : Cell) → cell_in (cell_data c) ≡ Some (undated_cell c)
cell_back cell.Missing = refl
cell_back (cell.Int (pos n)) = refl
cell_back (cell.Int (negsuc n)) = refl
cell_back (cell.Date day) = day_read day (is_day_number day)
cell_back (cell.Text text) = refl

ten_bytes : (day : ℤ) → is_short (text_of_day day) ≡ true
unfolding text_of_day
ten_bytes day = refl

cell_fits : (c : Cell) → is_given c ≡ true → fits_cell (undated_cell c) ≡ true
cell_fits cell.Missing given = refl
cell_fits (cell.Int n) given = given
cell_fits (cell.Date day) given = rw (given, ten_bytes day) refl
cell_fits (cell.Text text) given = given

-- beside a column of its kind it is the same again
dated_back : (k : Option Kind) (c : Cell) → cmp_faults k (kind_of_cell c) ≡ [] → is_given c ≡ true → cell_beside k (undated_cell c) ≡ c
dated_back None c fine given = absurd (cc fine)
dated_back (Some kind.Int) cell.Missing fine given = absurd (cc fine)
dated_back (Some kind.Int) (cell.Int n) fine given = refl
dated_back (Some kind.Int) (cell.Date day) fine given = absurd (cc fine)
dated_back (Some kind.Int) (cell.Text text) fine given = absurd (cc fine)
dated_back (Some kind.Date) cell.Missing fine given = absurd (cc fine)
dated_back (Some kind.Date) (cell.Int n) fine given = absurd (cc fine)
dated_back (Some kind.Date) (cell.Date day) fine given = rw (given, day_back day given) refl
dated_back (Some kind.Date) (cell.Text text) fine given = absurd (cc fine)
dated_back (Some kind.Text) cell.Missing fine given = absurd (cc fine)
dated_back (Some kind.Text) (cell.Int n) fine given = absurd (cc fine)
dated_back (Some kind.Text) (cell.Date day) fine given = absurd (cc fine)
dated_back (Some kind.Text) (cell.Text text) fine given = refl

-- ---- what each node reads as

undated_node : Pred-F PredAsked → PredAsked
undated_node (Pred-F.Cmp col relation to) = asks.Cmp col relation (undated_cell to)
undated_node (Pred-F.Missing col) = asks.Missing col
undated_node (Pred-F.Match col test) = asks.Match col test
undated_node (Pred-F.And parts) = asks.And parts
undated_node (Pred-F.Or parts) = asks.Or parts
undated_node (Pred-F.Not of) = asks.Not of

-- a predicate before its columns are known
undated : Pred → PredAsked
undated = fold-Pred PredAsked undated_node

module _ (m : ℕ) where
  cmp_in : (col : List ℕ) (r : Rel) (to : Cell) → pred_in (suc m) (pred_node_data (Pred-F.Cmp col r to)) ≡ Some (asks.Cmp col r (undated_cell to))
  unfolding pred_in serde_json_on_literals
  cmp_in col r to = rw (rel_back r, cell_back to) refl

  missing_in : (col : List ℕ) → pred_in (suc m) (pred_node_data (Pred-F.Missing col)) ≡ Some (asks.Missing col)
  unfolding pred_in serde_json_on_literals
  missing_in col = refl

  match_in : (col : List ℕ) (test : TextTest) → pred_in (suc m) (pred_node_data (Pred-F.Match col test)) ≡ Some (asks.Match col test)
  unfolding pred_in serde_json_on_literals
  match_in col test = rw (how_back test.how) refl

  and_in : (parts : List Data) → pred_in (suc m) (pred_node_data (Pred-F.And parts)) ≡ option_map asks.And (all_read (pred_in m) (items_of parts))
  unfolding pred_in serde_json_on_literals
  and_in parts = refl

  or_in : (parts : List Data) → pred_in (suc m) (pred_node_data (Pred-F.Or parts)) ≡ option_map asks.Or (all_read (pred_in m) (items_of parts))
  unfolding pred_in serde_json_on_literals
  or_in parts = refl

  not_in : (d : Data) → pred_in (suc m) (pred_node_data (Pred-F.Not d)) ≡ option_map asks.Not (pred_in m d)
  unfolding pred_in serde_json_on_literals
  not_in d = refl

-- ---- a predicate reads back, at as many levels as it is deep

abbrev ReadsPred : Pred → Type 0
ReadsPred p = (m : ℕ) → pred_depth p ≤ m → pred_in m (pred_data p) ≡ Some (undated p)

all_back : (ps : List ((p : Pred) × ReadsPred p)) (m : ℕ) → greatest (map pred_depth (map (λ e. e.0) ps)) ≤ m
    → all_read (pred_in m) (items_of (map pred_data (map (λ e. e.0) ps))) ≡ Some (map undated (map (λ e. e.0) ps))
all_back [] m deep = refl
all_back (p ∷ ps) m deep =
    let here : pred_in m (pred_data p.0) ≡ Some (undated p.0) = p.1 m (omega (arith, deep)) in
    let later = all_back ps m (omega (arith, deep)) in
    rw (here, later) refl

module _ (make : List Pred → Pred) (ask : List PredAsked → PredAsked) (node : List Data → Data) (parts : List ((p : Pred) × ReadsPred p))
    (written : pred_data (make (map (λ e. e.0) parts)) ≡ node (map pred_data (map (λ e. e.0) parts)))
    (deeper : pred_depth (make (map (λ e. e.0) parts)) ≡ greatest (map pred_depth (map (λ e. e.0) parts)) + 1)
    (undone : undated (make (map (λ e. e.0) parts)) ≡ ask (map undated (map (λ e. e.0) parts)))
    (step : (m : ℕ) (ds : List Data) → pred_in (suc m) (node ds) ≡ option_map ask (all_read (pred_in m) (items_of ds))) where
  list_back : ReadsPred (make (map (λ e. e.0) parts))
  list_back zero deep = absurd (omega (arith, deeper, deep))
  list_back (suc m) deep =
      ap (pred_in (suc m)) written ∙ step m (map pred_data (map (λ e. e.0) parts))
      ∙ ap (option_map ask) (all_back parts m (omega (arith, deeper, deep))) ∙ ap Some (sym undone)

cmp_back : (col : List ℕ) (r : Rel) (to : Cell) → ReadsPred (pred.Cmp col r to)
unfolding pred_depth pred_data undated undated_node
cmp_back col r to zero deep = absurd (omega (arith, fold-Cmp ℕ (pred_measure greatest) col r to, deep))
cmp_back col r to (suc m) deep =
    ap (pred_in (suc m)) (fold-Cmp Data pred_node_data col r to) ∙ cmp_in m col r to ∙ ap Some (sym (fold-Cmp PredAsked undated_node col r to))

missing_back : (col : List ℕ) → ReadsPred (pred.Missing col)
unfolding pred_depth pred_data undated undated_node
missing_back col zero deep = absurd (omega (arith, fold-Missing ℕ (pred_measure greatest) col, deep))
missing_back col (suc m) deep =
    ap (pred_in (suc m)) (fold-Missing Data pred_node_data col) ∙ missing_in m col ∙ ap Some (sym (fold-Missing PredAsked undated_node col))

match_back : (col : List ℕ) (test : TextTest) → ReadsPred (pred.Match col test)
unfolding pred_depth pred_data undated undated_node
match_back col test zero deep = absurd (omega (arith, fold-Match ℕ (pred_measure greatest) col test, deep))
match_back col test (suc m) deep =
    ap (pred_in (suc m)) (fold-Match Data pred_node_data col test) ∙ match_in m col test ∙ ap Some (sym (fold-Match PredAsked undated_node col test))

not_back : (of : Pred) → ReadsPred of → ReadsPred (pred.Not of)
unfolding pred_depth pred_data undated undated_node
not_back of inner zero deep = absurd (omega (arith, fold-Not ℕ (pred_measure greatest) of, deep))
not_back of inner (suc m) deep =
    ap (pred_in (suc m)) (fold-Not Data pred_node_data of) ∙ not_in m (pred_data of)
    ∙ ap (option_map asks.Not) (inner m (omega (arith, fold-Not ℕ (pred_measure greatest) of, deep)))
    ∙ ap Some (sym (fold-Not PredAsked undated_node of))

layer : (y : Pred-F ((p : Pred) × ReadsPred p)) → ReadsPred (roll-Pred (map-Pred ((p : Pred) × ReadsPred p) Pred (λ e. e.0) y))
unfolding pred_depth pred_data undated undated_node
layer (Pred-F.Cmp col r to) = subst ReadsPred (sym (pred.rolls-Cmp col r to)) (cmp_back col r to)
layer (Pred-F.Missing col) = subst ReadsPred (sym (pred.rolls-Missing col)) (missing_back col)
layer (Pred-F.Match col test) = subst ReadsPred (sym (pred.rolls-Match col test)) (match_back col test)
layer (Pred-F.And parts) = subst ReadsPred (sym (pred.rolls-And (map (λ e. e.0) parts)))
    (list_back pred.And asks.And (λ ds. pred_node_data (Pred-F.And ds)) parts (fold-And Data pred_node_data (map (λ e. e.0) parts))
    (fold-And ℕ (pred_measure greatest) (map (λ e. e.0) parts)) (fold-And PredAsked undated_node (map (λ e. e.0) parts)) and_in)
layer (Pred-F.Or parts) = subst ReadsPred (sym (pred.rolls-Or (map (λ e. e.0) parts)))
    (list_back pred.Or asks.Or (λ ds. pred_node_data (Pred-F.Or ds)) parts (fold-Or Data pred_node_data (map (λ e. e.0) parts))
    (fold-Or ℕ (pred_measure greatest) (map (λ e. e.0) parts)) (fold-Or PredAsked undated_node (map (λ e. e.0) parts)) or_in)
layer (Pred-F.Not of) = subst ReadsPred (sym (pred.rolls-Not of.0)) (not_back of.0 of.1)

pred_back : (p : Pred) → ReadsPred p
pred_back = ind-Pred ReadsPred (λ x y is. subst (λ z. ReadsPred (roll-Pred z)) is (layer y))

-- ---- beside its columns it is the same again

front_nil : {A : Type 0} (xs ys : List A) → xs ++ ys ≡ [] → xs ≡ []
front_nil [] ys e = refl
front_nil (x ∷ xs) ys e = absurd (cc e)

back_nil : {A : Type 0} (xs ys : List A) → xs ++ ys ≡ [] → ys ≡ []
back_nil [] ys e = e
back_nil (x ∷ xs) ys e = absurd (cc e)

module _ (columns : Columns) where
  abbrev DatesPred : Pred → Type 0
  DatesPred p = pred_faults columns p ≡ [] → has_given_constants p ≡ true → dated_pred columns (undated p) ≡ p

  all_dated : (ps : List ((p : Pred) × DatesPred p)) → flat_map (λ fs. fs) (map (pred_faults columns) (map (λ e. e.0) ps)) ≡ []
      → list_all (λ g. g) (map has_given_constants (map (λ e. e.0) ps)) ≡ true
      → map (dated_pred columns) (map undated (map (λ e. e.0) ps)) ≡ map (λ e. e.0) ps
  all_dated [] fine given = refl
  all_dated (p ∷ ps) fine given =
      let others = flat_map (λ (fs : List ExprErr). fs) (map (pred_faults columns) (map (λ (e : (q : Pred) × DatesPred q). e.0) ps)) in
      let rest = list_all (λ g. g) (map has_given_constants (map (λ (e : (q : Pred) × DatesPred q). e.0) ps)) in
      let here : dated_pred columns (undated p.0) ≡ p.0
      = p.1 (front_nil (pred_faults columns p.0) others fine) (first_so (has_given_constants p.0) rest given) in
      let later = all_dated ps (back_nil (pred_faults columns p.0) others fine) (second_so (has_given_constants p.0) rest given) in
      rw (here, later) refl

  date_layer : (y : Pred-F ((p : Pred) × DatesPred p)) → DatesPred (roll-Pred (map-Pred ((p : Pred) × DatesPred p) Pred (λ e. e.0) y))
  unfolding has_given_constants pred_faults dated_pred undated undated_node
  date_layer (Pred-F.Cmp col r to) = subst DatesPred (sym (pred.rolls-Cmp col r to)) (λ fine given.
      ap (dated_pred columns) (fold-Cmp PredAsked undated_node col r to) ∙ folded.fold-Cmp Pred (dated_node columns) col r (undated_cell to)
      ∙ ap (pred.Cmp col r) (dated_back (kind_of_column columns col) to
      (sym (fold-Cmp (List ExprErr) (pred_node_faults columns) col r to) ∙ fine) (sym (fold-Cmp Bool given_node col r to) ∙ given)))
  date_layer (Pred-F.Missing col) = subst DatesPred (sym (pred.rolls-Missing col)) (λ fine given.
      ap (dated_pred columns) (fold-Missing PredAsked undated_node col) ∙ folded.fold-Missing Pred (dated_node columns) col)
  date_layer (Pred-F.Match col test) = subst DatesPred (sym (pred.rolls-Match col test)) (λ fine given.
      ap (dated_pred columns) (fold-Match PredAsked undated_node col test) ∙ folded.fold-Match Pred (dated_node columns) col test)
  date_layer (Pred-F.And parts) = subst DatesPred (sym (pred.rolls-And (map (λ e. e.0) parts))) (λ fine given.
      ap (dated_pred columns) (fold-And PredAsked undated_node (map (λ e. e.0) parts)) ∙ folded.fold-And Pred (dated_node columns) (map undated (map (λ e. e.0) parts))
      ∙ ap pred.And (all_dated parts (sym (fold-And (List ExprErr) (pred_node_faults columns) (map (λ e. e.0) parts)) ∙ fine)
      (sym (fold-And Bool given_node (map (λ e. e.0) parts)) ∙ given)))
  date_layer (Pred-F.Or parts) = subst DatesPred (sym (pred.rolls-Or (map (λ e. e.0) parts))) (λ fine given.
      ap (dated_pred columns) (fold-Or PredAsked undated_node (map (λ e. e.0) parts)) ∙ folded.fold-Or Pred (dated_node columns) (map undated (map (λ e. e.0) parts))
      ∙ ap pred.Or (all_dated parts (sym (fold-Or (List ExprErr) (pred_node_faults columns) (map (λ e. e.0) parts)) ∙ fine)
      (sym (fold-Or Bool given_node (map (λ e. e.0) parts)) ∙ given)))
  date_layer (Pred-F.Not of) = subst DatesPred (sym (pred.rolls-Not of.0)) (λ fine given.
      ap (dated_pred columns) (fold-Not PredAsked undated_node of.0) ∙ folded.fold-Not Pred (dated_node columns) (undated of.0)
      ∙ ap pred.Not (of.1 (sym (fold-Not (List ExprErr) (pred_node_faults columns) of.0) ∙ fine) (sym (fold-Not Bool given_node of.0) ∙ given)))

  dates : (p : Pred) → DatesPred p
  dates = ind-Pred DatesPred (λ x y is. subst (λ z. DatesPred (roll-Pred z)) is (date_layer y))

-- ---- and has as many nodes

abbrev SamePred : Pred → Type 0
SamePred p = asked_nodes (undated p) ≡ pred_nodes p

all_same : (ps : List ((p : Pred) × SamePred p)) → map asked_nodes (map undated (map (λ e. e.0) ps)) ≡ map pred_nodes (map (λ e. e.0) ps)
all_same [] = refl
all_same (p ∷ ps) = rw (p.1, all_same ps) refl

same_layer : (y : Pred-F ((p : Pred) × SamePred p)) → SamePred (roll-Pred (map-Pred ((p : Pred) × SamePred p) Pred (λ e. e.0) y))
unfolding pred_nodes asked_nodes undated undated_node
same_layer (Pred-F.Cmp col r to) = subst SamePred (sym (pred.rolls-Cmp col r to))
    (ap asked_nodes (fold-Cmp PredAsked undated_node col r to) ∙ folded.fold-Cmp ℕ node_count col r (undated_cell to) ∙ sym (fold-Cmp ℕ (pred_measure sum) col r to))
same_layer (Pred-F.Missing col) = subst SamePred (sym (pred.rolls-Missing col)) (ap asked_nodes (fold-Missing PredAsked undated_node col) ∙ folded.fold-Missing ℕ node_count col ∙ sym (fold-Missing ℕ (pred_measure sum) col))
same_layer (Pred-F.Match col test) = subst SamePred (sym (pred.rolls-Match col test)) (ap asked_nodes (fold-Match PredAsked undated_node col test) ∙ folded.fold-Match ℕ node_count col test ∙ sym (fold-Match ℕ (pred_measure sum) col test))
same_layer (Pred-F.And parts) = subst SamePred (sym (pred.rolls-And (map (λ e. e.0) parts)))
    (ap asked_nodes (fold-And PredAsked undated_node (map (λ e. e.0) parts)) ∙ folded.fold-And ℕ node_count (map undated (map (λ e. e.0) parts))
    ∙ ap (λ ns. sum ns + 1) (all_same parts) ∙ sym (fold-And ℕ (pred_measure sum) (map (λ e. e.0) parts)))
same_layer (Pred-F.Or parts) = subst SamePred (sym (pred.rolls-Or (map (λ e. e.0) parts)))
    (ap asked_nodes (fold-Or PredAsked undated_node (map (λ e. e.0) parts)) ∙ folded.fold-Or ℕ node_count (map undated (map (λ e. e.0) parts))
    ∙ ap (λ ns. sum ns + 1) (all_same parts) ∙ sym (fold-Or ℕ (pred_measure sum) (map (λ e. e.0) parts)))
same_layer (Pred-F.Not of) = subst SamePred (sym (pred.rolls-Not of.0))
    (ap asked_nodes (fold-Not PredAsked undated_node of.0) ∙ folded.fold-Not ℕ node_count (undated of.0) ∙ ap (λ n. n + 1) of.1 ∙ sym (fold-Not ℕ (pred_measure sum) of.0))

same_nodes : (p : Pred) → SamePred p
same_nodes = ind-Pred SamePred (λ x y is. subst (λ z. SamePred (roll-Pred z)) is (same_layer y))

-- ---- and is within its limits

abbrev FitsPred : Pred → Type 0
FitsPred p = has_given_constants p ≡ true → has_fit_constants (undated p) ≡ true

all_fit : (ps : List ((p : Pred) × FitsPred p)) → list_all (λ g. g) (map has_given_constants (map (λ e. e.0) ps)) ≡ true
    → list_all (λ g. g) (map has_fit_constants (map undated (map (λ e. e.0) ps))) ≡ true
all_fit [] given = refl
all_fit (p ∷ ps) given =
    let rest = list_all (λ g. g) (map has_given_constants (map (λ (e : (q : Pred) × FitsPred q). e.0) ps)) in
    rw (p.1 (first_so (has_given_constants p.0) rest given), all_fit ps (second_so (has_given_constants p.0) rest given)) refl

fit_layer : (y : Pred-F ((p : Pred) × FitsPred p)) → FitsPred (roll-Pred (map-Pred ((p : Pred) × FitsPred p) Pred (λ e. e.0) y))
unfolding has_given_constants has_fit_constants undated undated_node
fit_layer (Pred-F.Cmp col r to) = subst FitsPred (sym (pred.rolls-Cmp col r to)) (λ given.
    ap has_fit_constants (fold-Cmp PredAsked undated_node col r to) ∙ folded.fold-Cmp Bool fit_constant col r (undated_cell to)
    ∙ cell_fits to (sym (fold-Cmp Bool given_node col r to) ∙ given))
fit_layer (Pred-F.Missing col) = subst FitsPred (sym (pred.rolls-Missing col)) (λ given.
    ap has_fit_constants (fold-Missing PredAsked undated_node col) ∙ folded.fold-Missing Bool fit_constant col)
fit_layer (Pred-F.Match col test) = subst FitsPred (sym (pred.rolls-Match col test)) (λ given.
    ap has_fit_constants (fold-Match PredAsked undated_node col test) ∙ folded.fold-Match Bool fit_constant col test
    ∙ sym (fold-Match Bool given_node col test) ∙ given)
fit_layer (Pred-F.And parts) = subst FitsPred (sym (pred.rolls-And (map (λ e. e.0) parts))) (λ given.
    ap has_fit_constants (fold-And PredAsked undated_node (map (λ e. e.0) parts)) ∙ folded.fold-And Bool fit_constant (map undated (map (λ e. e.0) parts))
    ∙ all_fit parts (sym (fold-And Bool given_node (map (λ e. e.0) parts)) ∙ given))
fit_layer (Pred-F.Or parts) = subst FitsPred (sym (pred.rolls-Or (map (λ e. e.0) parts))) (λ given.
    ap has_fit_constants (fold-Or PredAsked undated_node (map (λ e. e.0) parts)) ∙ folded.fold-Or Bool fit_constant (map undated (map (λ e. e.0) parts))
    ∙ all_fit parts (sym (fold-Or Bool given_node (map (λ e. e.0) parts)) ∙ given))
fit_layer (Pred-F.Not of) = subst FitsPred (sym (pred.rolls-Not of.0)) (λ given.
    ap has_fit_constants (fold-Not PredAsked undated_node of.0) ∙ folded.fold-Not Bool fit_constant (undated of.0)
    ∙ of.1 (sym (fold-Not Bool given_node of.0) ∙ given))

fits : (p : Pred) → FitsPred p
fits = ind-Pred FitsPred (λ x y is. subst (λ z. FitsPred (roll-Pred z)) is (fit_layer y))

-- ---- a predicate that can be used, within the limits, reads back

no_faults : (depth : ℕ) (faults : List ExprErr) → first_fault depth faults ≡ None → faults ≡ []
no_faults depth [] fine = refl
no_faults depth (f ∷ faults) fine = by (nat_lt MAX_DEPTH depth) fine
  where
    by : (t : Bool) → (if t then Some err.TooDeep else Some f) ≡ None → f ∷ faults ≡ []
    by true e = absurd (cc e)
    by false e = absurd (cc e)

-- what is read, that it is within its limits, and what it is beside the columns
pub record PredBack (columns : Columns) (p : Pred) : Type 0 where
  pub asked : PredAsked
  pub reads : pred_in levels (pred_data p) ≡ Some asked
  pub fits : fits_pred asked ≡ true
  pub dated : dated_pred columns asked ≡ p

pub whole_back : (columns : Columns) (p : Pred) → pred_fault columns p ≡ None → IsGivenPred p → PredBack columns p
unfolding pred_fault
whole_back columns p fine given =
    let shallow : pred_depth p ≤ MAX_DEPTH = not_deep (pred_depth p) (pred_faults columns p) fine in
    let few : nat_le (asked_nodes (undated p)) MAX_NODES ≡ true = rw (same_nodes p) (le-leb (pred_nodes p) MAX_NODES given.few) in
    record {
      asked = undated p;
      reads = pred_back p levels (omega arith);
      fits = rw (fits p given.constants, few) refl;
      dated = dates columns p (no_faults (pred_depth p) (pred_faults columns p) fine) given.constants;
    }
