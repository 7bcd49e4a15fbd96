use Rattle.std.proofs.Common.{rules, ◌≡◌, ◌∙◌, Bool, true, ap}
use Rattle.folder_shelf.specs.Calls.{read}
use Rattle.folder_shelf.specs.SystemState.{with_call}
use Rattle.file_commands.proofs.SinceLemmas.{bytes_read}
use Rattle.file_commands.proofs.reads.Reads.read.Goals as goal

pub invariant_of-self-else-not-done : goal.invariant_of-self-else-not-done
invariant_of-self-else-not-done g c = record {
  reading =
      (let old = g.S.System.state c.args.self.now.system in
      let bytes = c.read_shared-done.new.bytes in
      let came : c.read_shared-done.result ≡ true = search rules in
      bytes_read g.A.SystemAsked.before old c.args.self.now.has_failed c.args.path.now c.args.at bytes (g.S.System.state c.read_shared-done.new.self) c.args.self.now.reading
      (c.read_shared-done.ensures ∙ ap (λ (done : Bool). with_call (read c.args.path.now done c.args.at bytes) old) came));
}
