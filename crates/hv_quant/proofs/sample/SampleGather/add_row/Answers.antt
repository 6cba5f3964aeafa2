use Rattle.std.proofs.Common.{◌≡◌, ◌∙◌, ◌+◌, ◌*◌, ◌^◌, ◌++◌, ◌∷◌, [], ℕ, List, Some, sym, arith}
use Rattle.std.proofs.lemmas.Result.{on_ok_weaker}
use Rattle.hv_value.proofs.TableFacts.{found_number, is_next}
use Rattle.hv_pick.specs.Word.{word_of}
use Rattle.hv_value.specs.Rows.{Row}
use Rattle.hv_value.specs.Table.{row_from}
use Rattle.hv_sketch.specs.Gathering.{ComesNext}
use Rattle.hv_quant.specs.Pairs.{AreNearest, packed}
use Rattle.hv_quant.specs.Sampling.{IsSampling}
use Rattle.hv_quant.proofs.SampleFacts.{sampling-more}
use Rattle.hv_quant.proofs.sample.SampleGather.add_row.Goals as goal

-- the walk is before each row after those gathered
pub at-word-requires : goal.at-word-requires
at-word-requires g c =
    let found = c.requires.kept_so_far.1 in
    let number = found_number _ _ found c.requires.row_there c.requires.kept_so_far.2 in
    record { rising = omega (arith, number, c.requires.kept_so_far.3.next found.number c.requires.kept_so_far.4.below) }

pub returns : goal.returns
returns g c =
    let view = c.args.self.now in
    let walk = c.args.kept.now.walker in
    let part_number = g.T.Table.part_number c.args._table.now in
    let pair : ℕ = c.from.result * 2 ^ 32 + c.from-2.result in
    let step : ((pairs : List ℕ) → AreNearest view.k pairs c.args.kept.now.nearest → AreNearest view.k (pairs ++ pair ∷ []) c.add.new.self)
    → (rows : List Row) (found : Row) → row_from c.args.row (g.T.Table.rows c.args._table.now) ≡ Some found
    → IsSampling view.seed view.k part_number rows c.args.kept.now → ComesNext rows found
    → IsSampling view.seed view.k part_number (rows ++ found ∷ []) (record { walker = c.at-word.new.self; nearest = c.add.new.self }) =
    λ add rows found there so_far comes.
    let number = found_number _ _ found c.requires.row_there there in
    let tag = (is_next _ _ 0 c.args.row _ found c.requires.whole there).row.tagged in
    let part : found.part ≡ walk.part = tag ∙ sym so_far.walks_part in
    let same : word_of view.seed found.part found.number ≡ word_of walk.seed walk.part c.args.row =
    λ i. word_of (sym so_far.walks_seed i) (part i) (number i) in
    let word : word_of view.seed found.part found.number ≡ c.at-word.result = same ∙ sym c.at-word.ensures.word in
    let is_pair : packed view.seed found ≡ pair = λ i. (word ∙ sym c.from.ensures) i * 2 ^ 32 + (number ∙ sym c.from-2.ensures) i in
    sampling-more view.seed view.k _ rows found _ so_far comes tag _ _
    (rw (← number) at c.at-word.ensures.next)
    (rw (is_pair) (add _ so_far.near)) in
    on_ok_weaker c.add.result step c.add.ensures
