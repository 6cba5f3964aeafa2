use Rattle.hv_sketch.proofs.GroupSums.{can_sum, summed-stand}
use Rattle.hv_sketch.proofs.grouped.GroupedVizketch.merge_into.Goals as goal

pub sums-requires-clause-fit : goal.sums-requires-clause-fit
sums-requires-clause-fit g c =
    let view = c.args.self.now in
    let both = c.requires in
    rw (c.groups.ensures, c.groups-2.ensures)
    (can_sum (g.G.Groups.group_of view.groups) (g.G.Groups.count view.groups) (g.V.Vizketch.stands view.inner) both.0 both.1
    c.args.acc.now.0 c.args.d.now.0 c.args.acc.now.1 c.args.d.now.1 both.2 both.3 both.4)

pub returns-clause-ok : goal.returns-clause-ok
returns-clause-ok g c = λ a b first second merge.
    let view = c.args.self.now in
    rw (c.rest.ensures, c.rest-2.ensures)
    (summed-stand (g.G.Groups.group_of view.groups) (g.G.Groups.count view.groups) (g.V.Vizketch.stands view.inner) a b
    c.args.acc.now.0 c.args.d.now.0 c.in_ok-groups.groups.items c.args.acc.now.1 c.args.d.now.1 first second merge
    (rw (c.groups.ensures, c.groups-2.ensures) at c.in_ok-groups.ensures))
