-- Each word is read back.
use Rattle.std.proofs.Common.{◌≡◌, Some, refl}
use Rattle.hv_lineage.specs.declared.how.How2.{How2}
use Rattle.hv_lineage.specs.declared.how.How2.TheVariants as how2
use Rattle.hv_message.specs.Words.{how2_named, how2_word}

pub how2_back : (how : How2) → how2_named (how2_word how) ≡ Some how
how2_back how2.Zip = refl
how2_back how2.Union = refl
how2_back how2.Both = refl
how2_back how2.Minus = refl
