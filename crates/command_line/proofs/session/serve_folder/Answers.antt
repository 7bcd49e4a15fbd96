use Rattle.std.proofs.Common.{◌≡◌, ◌∷◌, Err, refl, ap, ◌∙◌, sym, string_bytes, rules}
use Rattle.folder_shelf.specs.Calls.{entered}
use Rattle.command_line.proofs.AskedSessionLemmas.{no_memory}
use Rattle.serve.specs.declared.fault.ServeFault.TheVariants.{Memory}
use Rattle.folder_shelf.specs.Replay.{folder_state}
use Rattle.command_line.specs.Session.{session_end_as, streams_of}
use Rattle.command_line.proofs.ExactSessionLemmas.{served_exactly}
use Rattle.command_line.proofs.session.serve_folder.Goals as goal

pub returns-clause-served : goal.returns-clause-served
returns-clause-served g c differs =
    let end = c.serve-end.result in
    let s = streams_of g.I.Read.remaining g.W.Write.contents c.args.input.now c.serve-end.new.input c.args.out.now c.serve-end.new.out in
    served_exactly _ _ g.D.Disk.unseen (string_bytes c.args.folder) c.args.limits.pages c.args.limits.frames.value s (g.S.System.state c.into_system.result) _ c.exact_on_shelf.ensures c.new-library.result (search rules) (record {
      end = end;
      ends = c.serve-end.ensures.served (λ (is : end.requests ≡ Err Memory). differs (c.ended.ensures.told ∙ ap session_end_as is));
      left = ap (λ system. folder_state g.D.Disk.unseen (g.S.System.state system)) (sym (c.into_system.ensures.same ∙ ap (λ shelf. shelf.system) c.into_shelf.ensures));
      unclosed = refl;
      told = c.ended.ensures.told;
    })

pub returns-clause-memory : goal.returns-clause-memory
returns-clause-memory g c is =
    let no = c.serve-end.ensures.memory (no_memory c.serve-end.result.requests (sym c.ended.ensures.told ∙ is)) in (
      no.0,
      no.1,
      rw c.into_system.ensures.same (rw c.into_shelf.ensures (rw no.2 (rw c.new-library.ensures.shelf
          (ap (λ system. system.calls) c.new-shelf.ensures.entered ∙ ap (λ calls. entered (string_bytes c.args.folder) ∷ calls) c.requires.unasked)))),
    )
