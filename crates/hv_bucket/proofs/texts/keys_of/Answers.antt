use Rattle.std.proofs.Common.{◌≡◌, ◌<◌, ◌∙◌, subst, get_or, length, [], arith}
use Rattle.std.proofs.lemmas.List.{get_or_read, length-set}
use Rattle.hv_bucket.specs.Keys.{IsKey}
use Rattle.hv_bucket.proofs.Keyed.{keys-more}
use Rattle.hv_bucket.proofs.texts.keys_of.Goals as goal

pub loop-i-preserved : goal.loop-i-preserved
loop-i-preserved c =
    let within : c.loop-i.i < length c.loop-i.keys = omega (arith, c.loop-i.invariant.room, c.loop-i-test.true, c.min-i-end.ensures) in
    let text : c.as_bytes.result.now ≡ get_or c.args.texts.now c.loop-i.i [] =
    c.as_bytes.ensures.value ∙ c.as_str.ensures ∙ get_or_read c.args.texts.now c.loop-i.i _ (omega (arith, c.loop-i-test.true, c.min-i-end.ensures)) c.index-texts-i.is [] in
    record {
      room = length-set c.loop-i.keys c.loop-i.i c.key_of.result ∙ c.loop-i.invariant.room;
      keyed = keys-more c.args.texts.now c.loop-i.keys c.loop-i.i c.key_of.result within (subst (λ t. IsKey t c.key_of.result) text c.key_of.ensures) c.loop-i.invariant.keyed;
    }

-- all that have room are written
pub returns : goal.returns
returns c = λ i few most.
    c.loop-i.invariant.keyed i (omega (arith, few, most, c.loop-i.invariant.room, c.loop-i-test.false, c.min-i-end.ensures))
