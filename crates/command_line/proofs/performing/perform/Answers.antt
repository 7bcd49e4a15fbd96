use Rattle.std.proofs.Common.{map, string_bytes, refl, ap, ◌∙◌, inl}
use Rattle.command_line.proofs.CallsMadeLemmas.{streams_alone, asks_nothing, holds_none}
use Rattle.command_line.proofs.CameLemmas.{came_alone}
use Rattle.command_line.proofs.DidLemmas.{did_fail, did_refuse}
use Rattle.command_line.proofs.performing.perform.Goals as goal

-- the words are refused
pub returns-in-Err-clause-did : goal.returns-in-Err-clause-did
returns-in-Err-clause-did g c = rw c.without_run.ensures (rw c.of_words.ensures (did_refuse (map string_bytes c.args.words.now) c.in-Err.fault c.in-Err.ensures.nothing))

pub returns-in-Err-clause-came : goal.returns-in-Err-clause-came
returns-in-Err-clause-came g c = rw c.without_run.ensures
    (came_alone _ _ g.D.Disk.unseen _ c.args.aside.now.calls (g.S.System.state c.args.system) (g.S.System.state c.args.reader).calls g.I.Read.remaining g.W.Write.contents c.args.input.now c.args.input.now
    c.args.out.now c.args.out.now _ c.requires.unread (inl (asks_nothing g.D.Disk.unseen (map string_bytes c.args.words.now) (g.I.Read.remaining c.args.input.now.reader) g.W.Write.contents c.args.out.now c.args.out.now c.args.aside.now.calls c.requires.none_aside
    (g.S.System.state c.args.system) c.requires.unasked c.of_words.result refl)))

-- the numbers of closed streams were not taken
pub returns-in-Err-hold_closed_streams-clause-did : goal.returns-in-Err-hold_closed_streams-clause-did
returns-in-Err-hold_closed_streams-clause-did g c = rw c.without_run-in-Err-hold_closed_streams.ensures
    (did_fail (map string_bytes c.args.words.now) c.in-Err-hold_closed_streams.fault c.in-Err-hold_closed_streams.ensures.fault)

pub returns-in-Err-hold_closed_streams-clause-came : goal.returns-in-Err-hold_closed_streams-clause-came
returns-in-Err-hold_closed_streams-clause-came g c = rw c.without_run-in-Err-hold_closed_streams.ensures
    (came_alone _ _ g.D.Disk.unseen _ c.args.aside.now.calls (g.S.System.state c.hold_closed_streams.new.system) (g.S.System.state c.args.reader).calls g.I.Read.remaining g.W.Write.contents
    c.args.input.now c.args.input.now c.args.out.now c.args.out.now _ c.requires.unread (inl (holds_none g.D.Disk.unseen (map string_bytes c.args.words.now) (g.I.Read.remaining c.args.input.now.reader) g.W.Write.contents c.args.out.now c.args.out.now c.args.aside.now.calls c.requires.none_aside
    (g.S.System.state c.args.system) (g.S.System.state c.hold_closed_streams.new.system) c.requires.unasked c.in-Err-hold_closed_streams.ensures.held c.in-Err-hold_closed_streams.fault refl)))

pub answer_request-requires : goal.answer_request-requires
answer_request-requires g c = record {
  held = ap (λ system. system.calls) c.heed_wait.ensures
      ∙ streams_alone (g.S.System.state c.args.system) (g.S.System.state c.hold_closed_streams.new.system) c.requires.unasked c.in-Ok-hold_closed_streams.ensures.held;
  unread = c.requires.unread;
  none_aside = c.requires.none_aside;
}

pub returns-clause-did : goal.returns-clause-did
returns-clause-did g c = c.answer_request.ensures.did (map string_bytes c.args.words.now) c.in-Ok.ensures.asked

pub returns-clause-came : goal.returns-clause-came
returns-clause-came g c = c.answer_request.ensures.came (map string_bytes c.args.words.now) c.in-Ok.ensures.asked
