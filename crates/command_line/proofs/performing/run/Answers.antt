use Rattle.std.proofs.Common.{◌≡◌, ◌≢◌, ℕ, List, refl, ap, ◌∙◌, string_bytes, subst}
use Rattle.std.proofs.lemmas.Result.{IfErr-weaker}
use Rattle.command_line.specs.Performed.{CameTo, begun, outcome_of}
use Rattle.command_line.proofs.PerformedLemmas.{came_to, run_outcome, unwritten}
use Rattle.command_support.specs.declared.fault.CommandFault.TheVariants.{Output}
use Rattle.command_line.proofs.performing.run.Goals as goal

pub write_transcript-system-requires : goal.write_transcript-system-requires
write_transcript-system-requires g c = record { unasked = ap (λ system. system.calls) c.exchange_record.ensures.record ∙ c.requires.none_aside }

-- the deck or the folder was not read
pub returns-in-Err-clause-came : goal.returns-in-Err-clause-came
returns-in-Err-clause-came g c = rw c.without_run.ensures (
  record {
    none_aside = c.requires.none_aside;
    reads = c.inputs_of.ensures.reads.reads;
    unwritten = refl;
    fault = c.in-Err.fault;
    told = refl;
  },
  c.in-Err.ensures.reads.fault,
)

pub returns-clause-came : goal.returns-clause-came
returns-clause-came g c =
    let done = c.write_transcript-system in
    let system = g.S.System.state done.result.0 in
    let before = g.W.Write.contents c.args.out.now in
    let behind = g.W.Write.contents done.new.out in
    let nothing = IfErr-weaker done.result.1 _ _ (λ fault h other. (ap g.W.Write.contents (h other).0, (h other).1)) done.ensures.nothing in
    let inputs = c.in-Ok.inputs in
    let given = c.in-Ok.ensures.reads.given in
    let came = came_to (string_bytes inputs.1) c.args.limits.pages c.args.limits.frames.value g.D.Disk.unseen system c.as_slice.result.now before behind done.result.1
    done.ensures.exact done.ensures.run done.ensures.output nothing done.ensures.refused done.ensures.sound in
    let came_of : List ℕ → List ℕ → Type 0 = λ folder bytes. CameTo folder c.args.limits.pages c.args.limits.frames.value (begun g.D.Disk.unseen bytes system)
    (record { before = before; behind = behind }) (outcome_of done.result.1) in (
      refl,
      record {
        reads = given.1;
        is_deck = given.2;
        before = c.exchange_record.ensures.other ∙ given.3;
        within = done.ensures.within;
        came = rw c.ended.ensures
            (subst (λ (folder : List ℕ). came_of folder inputs.0.items) given.0 (subst (came_of (string_bytes inputs.1)) c.as_slice.ensures.value came));
        told = rw c.ended.ensures (run_outcome done.result.1 done.ensures.fault);
      },
    )

pub returns-clause-untouched : goal.returns-clause-untouched
returns-clause-untouched g c =
    let done = c.write_transcript-system in
    unwritten (done.new.out ≡ c.args.out.now) done.result.1 c.ended.result c.ended.ensures
    (IfErr-weaker done.result.1 _ (λ fault. fault ≢ Output → done.new.out ≡ c.args.out.now) (λ fault h other. (h other).0) done.ensures.nothing)
