use Rattle.std.proofs.Common.{sym}
use Rattle.std.proofs.lemmas.Result.{on_ok_weaker}
use Rattle.hv_value.proofs.TableFacts.{found_number}
use Rattle.hv_sketch.proofs.GroupSums.{listed_more}
use Rattle.hv_sketch.proofs.row_lists.ListingGather.add_row.Goals as goal

pub returns-in-Some : goal.returns-in-Some
returns-in-Some g c =
    on_ok_weaker c.put.result
    (λ put rows found there so_far next.
    rw put
    (listed_more (g.G.Groups.group_of c.args.self.now.groups.now) (g.G.Groups.count c.args.self.now.groups.now) rows found _ _ c.in-Some.group c.args.row
    so_far (sym (c.in-Some.ensures.value found there)) c.in-Some.ensures.within (found_number _ _ found c.requires.row_there there)))
    c.put.ensures
