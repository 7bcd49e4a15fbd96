use Rattle.std.proofs.Common.{◌∙◌, ℕ, Option, ap}
use Rattle.folder_shelf.specs.Calls.{measured}
use Rattle.folder_shelf.specs.SystemState.{with_call}
use Rattle.file_commands.proofs.SinceLemmas.{size_read}
use Rattle.file_commands.proofs.reads.Reads.measure.Goals as goal

pub invariant_of-self : goal.invariant_of-self
invariant_of-self g c = record {
  reading =
      (let old = g.S.System.state c.args.self.now.system in
      size_read g.A.SystemAsked.before old c.args.self.now.has_failed c.args.path.now c.in-Some.size (g.S.System.state c.measure_shared.new.self) c.args.self.now.reading
      (c.measure_shared.ensures ∙ ap (λ (told : Option ℕ). with_call (measured c.args.path.now told) old) c.in-Some.is));
}
