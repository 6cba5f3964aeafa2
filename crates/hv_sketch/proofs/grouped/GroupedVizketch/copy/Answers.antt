use Rattle.hv_sketch.proofs.GroupSums.{copied-stand}
use Rattle.hv_sketch.proofs.grouped.GroupedVizketch.copy.Goals as goal

pub returns : goal.returns
returns g c = λ rows stand.
    let view = c.args.self.now in
    rw c.rest.ensures
    (copied-stand (g.G.Groups.group_of view.groups) (g.G.Groups.count view.groups) (g.V.Vizketch.stands view.inner) rows
    c.args.s.now.0 c.in_ok-copies.field-0.items c.args.s.now.1 stand (rw c.groups.ensures at c.in_ok-copies.ensures))
