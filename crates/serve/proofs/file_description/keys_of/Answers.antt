use Rattle.std.proofs.Common.{rules, sym, ◌∙◌}
use Rattle.serve.proofs.KeyLemmas.{more_keys}
use Rattle.serve.proofs.file_description.keys_of.Goals as goal

pub loop-k-preserved : goal.loop-k-preserved
loop-k-preserved c = (
  more_keys c.loop-k.keys.items c.push.new.self.items c.args.count c.loop-k.k c.loop-k.rest.now _ c.in-Some.key _ c.loop-k-test.true
      (sym c.key_of.ensures ∙ c.in-Some.is) c.push.ensures.items c.split_at.ensures.back c.loop-k.invariant.0,
  search rules,
  search rules,
)
