use Rattle.std.proofs.Common.{◌∷◌, Some, true, refl, ap, ◌∙◌, sym, inl, inr}
use Rattle.folder_shelf.specs.Calls.{asked_of_folder}
use Rattle.streams.specs.Source.{source_of}
use Rattle.command_line.specs.Session.{streams_of}
use Rattle.command_line.proofs.AskedSessionLemmas.{session_ends}
use Rattle.command_line.proofs.performing.serve_path.Goals as goal

pub serve_folder-system-requires : goal.serve_folder-system-requires
serve_folder-system-requires g c = record { unasked = ap (λ system. system.calls) c.exchange_record.ensures.record ∙ c.requires.none_aside }

-- the folder is none
pub returns-in-Err-clause-came : goal.returns-in-Err-clause-came
returns-in-Err-clause-came g c = rw c.without_run.ensures (inl (
  record {
    none_aside = c.requires.none_aside;
    reads = c.folder_at.ensures.reads;
    unwritten = refl;
    fault = c.in-Err.fault;
    told = refl;
  },
  refl,
))

pub returns-clause-came : goal.returns-clause-came
returns-clause-came g c =
    let done = c.serve_folder-system in
    let session = done.result.1 in
    let given = c.in-Ok.ensures.given in
    let base = (g.S.System.state c.args.system).calls in
    rw (sym given.0)
    (inr (record {
      before = c.exchange_record.ensures.other ∙ ap (λ system. system.calls) given.1 ∙ ap (λ folder. asked_of_folder folder (Some true) ∷ base) (sym given.0);
      within = done.ensures.within;
      session = session;
      came = session_ends _ _ _ _ _ _ (streams_of g.I.Read.remaining g.W.Write.contents c.args.input.now done.new.input c.args.out.now done.new.out) (g.S.System.state done.result.0) session
          done.ensures.served (λ is. let no = done.ensures.memory is in (ap (source_of g.I.Read.remaining) no.0, ap g.W.Write.contents no.1, no.2));
      unclosed_are = refl;
      told = c.served.ensures.told;
    }))
