use Rattle.hv_heavy.proofs.Gathered.{found-cut, found-fits, found-rises}
use Rattle.hv_heavy.proofs.misra_gries.cut.Goals as goal

pub settled-requires : goal.settled-requires
settled-requires c =
    record {
      rising = found-rises c.args.k c.requires.0 c.args.kept.now c.requires.1 c.as_slice.result.now c.replace-counts.result c.as_slice.ensures c.replace-counts.ensures.value;
      fits = found-fits c.args.k c.requires.0 c.args.kept.now c.requires.1 c.as_slice.result.now c.replace-counts.result c.as_slice.ensures c.replace-counts.ensures.value;
    }

pub returns : goal.returns
returns c = λ cells h.
    found-cut c.args.k cells c.args.kept.now h c.as_slice.result.now c.replace-counts.result c.as_slice.ensures c.replace-counts.ensures.value
    c.in_ok-kept.field-0 c.replace-counts.new.dest c.new.result c.replace-counts.ensures.after c.new.ensures c.in_ok-kept.ensures
