-- No reply and no lineage holds a float, so serde_json's text of it is exact.
use Rattle.std.proofs.Common.{◌≡◌, ℕ, pos, negsuc, ℤ, List, [], ◌∷◌, map, Bool, true, false, Option, Some, None, if◌then◌else◌, refl, subst, sym}
use Rattle.serde_json.specs.Data.{Data, number, string}
use Rattle.serde_json.specs.Find.{of_integer}
use Rattle.serde_json.specs.Written.{has_float}
use Rattle.hv_value.specs.Civil.{text_of_day}
use Rattle.hv_value.specs.Days.{is_day_number}
use Rattle.hv_value.specs.Schema.{Columns}
use Rattle.hv_value.specs.declared.cell.Cell.{Cell}
use Rattle.hv_value.specs.declared.cell.Cell.TheVariants as cell
use Rattle.hv_expr.specs.declared.expr.Expr.{Expr, fold-roll-Expr, ind-Expr, map-Expr}
use Rattle.hv_expr.specs.declared.expr.Expr.TheOpen.{Expr-F}
use Rattle.hv_expr.specs.declared.pred.Pred.{Pred, fold-roll-Pred, ind-Pred, map-Pred}
use Rattle.hv_expr.specs.declared.pred.Pred.TheOpen.{Pred-F}
use Rattle.hv_lineage.specs.declared.base.Base.{Base}
use Rattle.hv_lineage.specs.declared.base.Base.TheVariants as base
use Rattle.hv_lineage.specs.declared.term.Term.{Term, fold-roll-Term, ind-Term, map-Term}
use Rattle.hv_lineage.specs.declared.term.Term.TheOpen.{Term-F}
use Rattle.hv_lineage.specs.Lineages.{TermOver, lineage_columns}
use Rattle.hv_grid.specs.declared.shown.HeatMapShown.{HeatMapShown}
use Rattle.hv_heavy.specs.declared.summary.HeavyPair.{HeavyPair}
use Rattle.hv_hist.specs.declared.shown.HistogramShown.{HistogramShown}
use Rattle.hv_next.specs.declared.summary.NextRow.{NextRow}
use Rattle.hv_view.specs.declared.frequent.FrequentPair.{FrequentPair}
use Rattle.hv_view.specs.declared.shown.Shown.{Shown}
use Rattle.hv_view.specs.declared.shown.Shown.TheVariants as shown
use Rattle.hv_reply.specs.declared.reply.Reply.{Reply}
use Rattle.hv_reply.specs.declared.reply.Reply.TheVariants as reply
use Rattle.hv_reply.specs.Lineages.{base_data, columns_data, expr_data, expr_node_data, lineage_data, pred_data, pred_node_data, term_data, term_node_data, texts_data}
use Rattle.hv_reply.specs.Replies.{reply_data}
use Rattle.hv_reply.specs.Values.{cell_data, day_data, frequent_pair_data, grid_data, heat_map_data, heavy_pair_data, histogram_data, key_data, key_or_null, list_of, next_row_data, shown_data, sum_data, whole, whole_or_null}

-- ---- numbers, cells and lists

wholes : (ns : List ℕ) → has_float (list_of (map whole ns)) ≡ false
wholes [] = refl
wholes (n ∷ ns) = wholes ns

whole_or_not : (n : Option ℕ) → has_float (whole_or_null n) ≡ false
whole_or_not None = refl
whole_or_not (Some n) = refl

integer : (n : ℤ) → has_float (number (of_integer n)) ≡ false
integer (pos n) = refl
integer (negsuc n) = refl

day_plain : (day : ℤ) → has_float (day_data day) ≡ false
day_plain day = by (is_day_number day)
  where
    by : (b : Bool) → has_float (if b then string (text_of_day day) else number (of_integer day)) ≡ false
    by true = refl
    by false = integer day

cell_plain : (c : Cell) → has_float (cell_data c) ≡ false
cell_plain cell.Missing = refl
cell_plain (cell.Int n) = integer n
cell_plain (cell.Date day) = day_plain day
cell_plain (cell.Text text) = refl

cells : (cs : List Cell) → has_float (list_of (map cell_data cs)) ≡ false
cells [] = refl
cells (c ∷ cs) = rw (cell_plain c) (cells cs)

sum_plain : (sum : Option ℤ) → has_float (sum_data sum) ≡ false
sum_plain None = refl
sum_plain (Some sum) = refl

grid_plain : (rows : List (List ℕ)) → has_float (grid_data rows) ≡ false
grid_plain [] = refl
grid_plain (row ∷ rows) = rw (wholes row) (grid_plain rows)

histogram_plain : (h : HistogramShown) → has_float (histogram_data h) ≡ false
histogram_plain h = rw (wholes h.counts) refl

heat_map_plain : (h : HeatMapShown) → has_float (heat_map_data h) ≡ false
heat_map_plain h = rw (grid_plain h.counts) refl

histograms : (hs : List HistogramShown) → has_float (list_of (map histogram_data hs)) ≡ false
histograms [] = refl
histograms (h ∷ hs) = rw (histogram_plain h) (histograms hs)

heat_maps : (hs : List HeatMapShown) → has_float (list_of (map heat_map_data hs)) ≡ false
heat_maps [] = refl
heat_maps (h ∷ hs) = rw (heat_map_plain h) (heat_maps hs)

next_rows : (rows : List NextRow) → has_float (list_of (map next_row_data rows)) ≡ false
next_rows [] = refl
next_rows (row ∷ rows) = rw (cells row.key) (next_rows rows)

key_plain : (key : Option (List Cell)) → has_float (key_or_null key) ≡ false
key_plain None = refl
key_plain (Some key) = cells key

keys : (ks : List (List Cell)) → has_float (list_of (map key_data ks)) ≡ false
keys [] = refl
keys (k ∷ ks) = rw (cells k) (keys ks)

heavy_pairs : (pairs : List HeavyPair) → has_float (list_of (map heavy_pair_data pairs)) ≡ false
heavy_pairs [] = refl
heavy_pairs (pair ∷ pairs) = rw (cell_plain pair.value) (heavy_pairs pairs)

frequent_pairs : (pairs : List FrequentPair) → has_float (list_of (map frequent_pair_data pairs)) ≡ false
frequent_pairs [] = refl
frequent_pairs (pair ∷ pairs) = rw (cell_plain pair.value) (frequent_pairs pairs)

shown_plain : (s : Shown) → has_float (shown_data s) ≡ false
shown_plain (shown.Range count greatest least missing sum) = rw (cell_plain greatest, cell_plain least, sum_plain sum) refl
shown_plain (shown.Distinct more values) = rw (cells values) refl
shown_plain (shown.Histogram histogram) = histogram_plain histogram
shown_plain (shown.Cdf cdf) = rw (wholes cdf.sums) refl
shown_plain (shown.Stacked stacked) = rw (grid_plain stacked.counts, wholes stacked.other) refl
shown_plain (shown.HeatMap heat) = heat_map_plain heat
shown_plain (shown.TrellisHistogram groups rest) = rw (histograms groups) refl
shown_plain (shown.TrellisHeatMap groups rest) = rw (heat_maps groups) refl
shown_plain (shown.NextRows next) = rw (next_rows next.rows) refl
shown_plain (shown.Find find) = rw (key_plain find.first) refl
shown_plain (shown.Heavy heavy) = rw (heavy_pairs heavy.pairs) refl
shown_plain (shown.CountOf count) = rw (wholes count.counts) refl
shown_plain (shown.Quantiles sample) = rw (keys sample.quantiles) refl
shown_plain (shown.Auto auto) = rw (wholes auto.counts, cell_plain auto.hi, cell_plain auto.lo) refl
shown_plain (shown.Frequent frequent) = rw (frequent_pairs frequent.pairs) refl

-- ---- columns and bases

texts : (ts : List (List ℕ)) → has_float (texts_data ts) ≡ false
texts [] = refl
texts (t ∷ ts) = texts ts

columns : (cs : Columns) → has_float (columns_data cs) ≡ false
columns [] = refl
columns (c ∷ cs) = columns cs

base_plain : (b : Base) → has_float (base_data b) ≡ false
base_plain (base.Inline cs parts) = rw (texts parts, columns cs) refl
base_plain (base.Named cs table parts) = rw (columns cs) refl

-- ---- trees, node by node

abbrev PlainExpr : Expr → Type 0
PlainExpr e = has_float (expr_data e) ≡ false

expr_layer : (y : Expr-F ((e : Expr) × PlainExpr e)) → has_float (expr_node_data (map-Expr Expr Data expr_data (map-Expr ((e : Expr) × PlainExpr e) Expr (λ e. e.0) y))) ≡ false
expr_layer (Expr-F.Col name) = refl
expr_layer (Expr-F.Year of) = rw of.1 refl
expr_layer (Expr-F.Month of) = rw of.1 refl
expr_layer (Expr-F.Day of) = rw of.1 refl
expr_layer (Expr-F.Length of) = rw of.1 refl
expr_layer (Expr-F.Linear a b of) = rw (integer a, integer b, of.1) refl
expr_layer (Expr-F.Join left between right) = rw (left.1, right.1) refl

expr_plain : (e : Expr) → PlainExpr e
unfolding expr_data
expr_plain = ind-Expr PlainExpr (λ x y is.
    subst (λ d. has_float d ≡ false) (sym (fold-roll-Expr Data expr_node_data x))
    (subst (λ z. has_float (expr_node_data (map-Expr Expr Data expr_data z)) ≡ false) is (expr_layer y)))

abbrev PlainPred : Pred → Type 0
PlainPred p = has_float (pred_data p) ≡ false

preds : (ps : List ((p : Pred) × PlainPred p)) → has_float (list_of (map pred_data (map (λ p. p.0) ps))) ≡ false
preds [] = refl
preds (p ∷ ps) = rw p.1 (preds ps)

pred_layer : (y : Pred-F ((p : Pred) × PlainPred p)) → has_float (pred_node_data (map-Pred Pred Data pred_data (map-Pred ((p : Pred) × PlainPred p) Pred (λ p. p.0) y))) ≡ false
pred_layer (Pred-F.Cmp col how to) = rw (cell_plain to) refl
pred_layer (Pred-F.Missing col) = refl
pred_layer (Pred-F.Match col test) = refl
pred_layer (Pred-F.And parts) = rw (preds parts) refl
pred_layer (Pred-F.Or parts) = rw (preds parts) refl
pred_layer (Pred-F.Not of) = rw of.1 refl

pred_plain : (p : Pred) → PlainPred p
unfolding pred_data
pred_plain = ind-Pred PlainPred (λ x y is.
    subst (λ d. has_float d ≡ false) (sym (fold-roll-Pred Data pred_node_data x))
    (subst (λ z. has_float (pred_node_data (map-Pred Pred Data pred_data z)) ≡ false) is (pred_layer y)))

abbrev PlainTerm : Term → Type 0
PlainTerm t = has_float (term_data t) ≡ false

term_layer : (y : Term-F ((t : Term) × PlainTerm t)) → has_float (term_node_data (map-Term Term Data term_data (map-Term ((t : Term) × PlainTerm t) Term (λ t. t.0) y))) ≡ false
term_layer Term-F.Base = refl
term_layer (Term-F.Filter of p) = rw (of.1, pred_plain p) refl
term_layer (Term-F.Project of cols) = rw (texts cols, of.1) refl
term_layer (Term-F.Derive of name e) = rw (expr_plain e, of.1) refl
term_layer (Term-F.Sample of seed threshold) = rw of.1 refl
term_layer (Term-F.Combine how left right) = rw (left.1, right.1) refl

term_plain : (t : Term) → PlainTerm t
unfolding term_data
term_plain = ind-Term PlainTerm (λ x y is.
    subst (λ d. has_float d ≡ false) (sym (fold-roll-Term Data term_node_data x))
    (subst (λ z. has_float (term_node_data (map-Term Term Data term_data z)) ≡ false) is (term_layer y)))

-- ---- lineages and replies

pub lineage_without_float : (lineage : TermOver) → has_float (lineage_data lineage) ≡ false
lineage_without_float lineage = rw (base_plain lineage.base, term_plain lineage.term) refl

pub reply_without_float : (r : Reply) → has_float (reply_data r) ≡ false
reply_without_float (reply.Made id made None) = refl
reply_without_float (reply.Made id made (Some seed)) = refl
reply_without_float (reply.Info id of) = rw (columns (lineage_columns of), lineage_without_float of) refl
reply_without_float (reply.Final id parts value) = rw (wholes parts.parts, shown_plain value) refl
reply_without_float (reply.Cancelled id) = refl
reply_without_float (reply.Done id) = refl
reply_without_float (reply.Malformed id why) = rw (whole_or_not id) refl
reply_without_float (reply.NoMem id) = rw (whole_or_not id) refl
