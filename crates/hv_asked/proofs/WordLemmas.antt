-- Each word is read back.
use Rattle.std.proofs.Common.{◌≡◌, Some, refl}
use Rattle.hv_value.specs.declared.cell.Kind.{Kind}
use Rattle.hv_value.specs.declared.cell.Kind.TheVariants as kind
use Rattle.hv_expr.specs.declared.pred.Rel.{Rel}
use Rattle.hv_expr.specs.declared.pred.Rel.TheVariants as rel
use Rattle.hv_expr.specs.declared.text_test.How.{How}
use Rattle.hv_expr.specs.declared.text_test.How.TheVariants as how
use Rattle.hv_asked.specs.Words.{how_named, how_word, kind_named, kind_word, rel_named, rel_word}

pub kind_back : (k : Kind) → kind_named (kind_word k) ≡ Some k
kind_back kind.Int = refl
kind_back kind.Date = refl
kind_back kind.Text = refl

pub rel_back : (r : Rel) → rel_named (rel_word r) ≡ Some r
rel_back rel.Lt = refl
rel_back rel.Le = refl
rel_back rel.Eq = refl
rel_back rel.Ne = refl
rel_back rel.Ge = refl
rel_back rel.Gt = refl

pub how_back : (h : How) → how_named (how_word h) ≡ Some h
how_back how.Equals = refl
how_back how.Contains = refl
how_back how.Begins = refl

pub ruleset words_back = (kind_back, rel_back, how_back)
