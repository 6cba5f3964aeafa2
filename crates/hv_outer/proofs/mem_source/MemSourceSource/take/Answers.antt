use Rattle.std.proofs.Common.{rules, ◌∙◌, ◌≡◌, sym, drop}
use Rattle.hv_outer.proofs.SourceLemmas.{given_and_left, nothing_left}
use Rattle.hv_outer.proofs.mem_source.MemSourceSource.take.Goals as goal

-- what was given is the front of what was left, and a call that gave nothing was at the end
pub returns-clause-bytes : goal.returns-clause-bytes
returns-clause-bytes c =
    let left : drop c.self.inside.at c.self.inside.bytes.items ≡ c.args.self.now.left = search rules in (
      sym left ∙ given_and_left c.self.inside.bytes.items c.args.buf.now c.overwrite-count.new.buf c.self.inside.at c.overwrite-count.result
          (search rules) (search rules),
      λ none room. nothing_left c.self.inside.bytes.items c.args.buf.now c.self.inside.at c.overwrite-count.result (search rules) none (search rules),
    )
