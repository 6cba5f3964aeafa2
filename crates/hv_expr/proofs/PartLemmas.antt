-- What a list of parts says: all of them hold, or one does; and whether one of them takes memory.
use Rattle.std.proofs.Common.{◌≡◌, Bool, List, [], ◌∷◌, ◌||◌, map, refl, ap, ◌∙◌}
use Rattle.std.specs.List.{list_all, list_any}
use Rattle.std.proofs.lemmas.List.Folds.{list_all-map}
use Rattle.hv_value.specs.declared.cell.Cell.{Cell}
use Rattle.hv_value.specs.Schema.{Columns}
use Rattle.hv_expr.specs.declared.pred.Pred.{Pred, And, Or}
use Rattle.hv_expr.specs.Holds.{holds, node_holds}
use Rattle.hv_expr.specs.Memory.{node_takes_memory, pred_takes_memory}
use Rattle.hv_expr.proofs.Folds.{fold-And, fold-Or}

pub list_any-map : {X Y : Type 0} (p : X → Bool) (f : Y → X) (ys : List Y) → list_any p (map f ys) ≡ list_any (λ y. p (f y)) ys
list_any-map p f [] = refl
list_any-map p f (y ∷ ys) = ap (λ b. p (f y) || b) (list_any-map p f ys)

pub and-holds : (columns : Columns) (cells : List Cell) (parts : List Pred) → holds columns cells (And parts) ≡ list_all (holds columns cells) parts
unfolding holds
and-holds columns cells parts = fold-And Bool (node_holds columns cells) parts ∙ list_all-map (λ part. part) (holds columns cells) parts

pub or-holds : (columns : Columns) (cells : List Cell) (parts : List Pred) → holds columns cells (Or parts) ≡ list_any (holds columns cells) parts
unfolding holds
or-holds columns cells parts = fold-Or Bool (node_holds columns cells) parts ∙ list_any-map (λ part. part) (holds columns cells) parts

pub and-memory : (parts : List Pred) → pred_takes_memory (And parts) ≡ list_any pred_takes_memory parts
unfolding pred_takes_memory
and-memory parts = fold-And Bool node_takes_memory parts ∙ list_any-map (λ part. part) pred_takes_memory parts

pub or-memory : (parts : List Pred) → pred_takes_memory (Or parts) ≡ list_any pred_takes_memory parts
unfolding pred_takes_memory
or-memory parts = fold-Or Bool node_takes_memory parts ∙ list_any-map (λ part. part) pred_takes_memory parts
