use Rattle.std.proofs.Common.{rules}
use Rattle.hv_column.proofs.OptionLists.{options-after_push}
use Rattle.hv_column.proofs.nullable.Nullable.push.Goals as goal

-- one more mark and value are one more option
pub returns-clause-ok : goal.returns-clause-ok
returns-clause-ok g c =
    options-after_push c.args.self.now c.self.inside.present.items c.push-2.new.self.items c.self.inside.values.items c.push.new.self.items
    c.args.value _ c.unwrap_or_default.result c.self.invariant c.self.view_is (search rules) c.in_ok-push.ensures.items c.unwrap_or_default.ensures
