use Rattle.std.proofs.Common.{List, Bor, option_map, refl, subst, sym, inl, inr}
use Rattle.clap.specs.Words.{Text}
use Rattle.command_words.specs.Asks.{Ask, AskCheck, AskList, form_text}
use Rattle.folder_shelf.proofs.ReadingLemmas.{by_none}
use Rattle.command_support.specs.Conditions.{texts_of}
use Rattle.file_commands.specs.Verdicts.{paths_of}
use Rattle.command_line.proofs.CallsMadeLemmas.{reads_alone, reads_aside}
use Rattle.command_line.proofs.DidLemmas.{for_schema, for_salvage, for_records, for_load, did_list, did_schema, did_help, did_explain, did_check, did_count, did_salvage, did_deck, served_did}
use Rattle.command_line.proofs.RightLemmas.{right_help, right_explained, right_check, right_count, right_salvage, right_listed, right_cobol, right_schema, right_list}
use Rattle.command_line.proofs.CameLemmas.{run_did, run_came, serve_came, load_did, load_came}
use Rattle.command_support.specs.declared.outcome.Outcome.TheVariants.{Listed, InCobol}
use Rattle.std.specs.Prelude.{⊤}
use Rattle.command_line.specs.CallsMade.{calls_made}
use Rattle.command_line.proofs.performing.answer_alone.Goals as goal

pub returns-in-Help-clause-did : goal.returns-in-Help-clause-did
returns-in-Help-clause-did g c words is =
    let asked = subst (Ask words) c.in-Help.is is in
    rw c.without_run.ensures (did_help words c.in-Help.help asked c.write_help-told.result c.write_help-told.ensures.ok c.write_help-told.ensures.fault)

pub returns-in-Help-clause-came : goal.returns-in-Help-clause-came
returns-in-Help-clause-came g c words is =
    let asked = subst (Ask words) c.in-Help.is is in
    let input = g.I.Read.remaining c.args.input.now.reader in
    let held = g.S.System.state c.args.system in
    rw c.without_run.ensures (inl (reads_alone g.D.Disk.unseen words input g.W.Write.contents c.args.out.now c.write_help-told.new.out c.args.aside.now.calls c.requires.none_aside held held c.requires.held
    {IsSo = λ _. ⊤} c.write_help-told.result (by_none held tt) (c.args.request, rw c.in-Help.is tt, is)
    (λ calls so. right_help g.D.Disk.unseen words calls input g.W.Write.contents c.args.out.now c.write_help-told.new.out c.write_help-told.result c.write_help-told.ensures.ok)))

pub returns-in-Some-clause-did : goal.returns-in-Some-clause-did
returns-in-Some-clause-did g c words is =
    let asked = subst (Ask words) c.in-Check.is is in
    let all = subst (λ (files : List (Bor Text)). AskCheck words (paths_of files) c.in-Check.quiet) (sym c.as_slice.ensures.value) asked.0 in
    let one = subst (λ (files : List Text). AskCheck words files c.in-Check.quiet) c.in-Some.ensures all in
    rw c.without_run-in-Some.ensures (did_check words g.D.Disk.unseen c.in-Some.file.now c.in-Check.quiet one g.W.Write.contents c.args.out.now c.check_path-system.new.out c.check_path-system.ensures.calls c.check_path-system.result.1 c.check_path-system.ensures.so)

pub returns-in-Some-clause-came : goal.returns-in-Some-clause-came
returns-in-Some-clause-came g c words is =
    let asked = subst (Ask words) c.in-Check.is is in
    let input = g.I.Read.remaining c.args.input.now.reader in
    let held = g.S.System.state c.args.system in
    let all = subst (λ (files : List (Bor Text)). AskCheck words (paths_of files) c.in-Check.quiet) (sym c.as_slice.ensures.value) asked.0 in
    let one = subst (λ (files : List Text). AskCheck words files c.in-Check.quiet) c.in-Some.ensures all in
    rw c.without_run-in-Some.ensures (inl (reads_alone g.D.Disk.unseen words input g.W.Write.contents c.args.out.now c.check_path-system.new.out c.args.aside.now.calls c.requires.none_aside held (g.S.System.state c.check_path-system.result.0) c.requires.held
    c.check_path-system.result.1 c.check_path-system.ensures (c.args.request, rw c.in-Check.is tt, is)
    (λ calls so. right_check g.D.Disk.unseen words calls input g.W.Write.contents c.args.out.now c.check_path-system.new.out c.in-Some.file.now c.in-Check.quiet one c.check_path-system.result.1 so)))

pub returns-in-Schema-clause-did : goal.returns-in-Schema-clause-did
returns-in-Schema-clause-did g c words is =
    let asked = subst (Ask words) c.in-Schema.is is in
    rw c.without_run-in-Schema.ensures (did_schema words (for_schema words c.in-Schema.file c.in-Schema.deck c.in-Schema.name asked) c.schema-told.result c.schema-told.ensures.so.done c.schema-told.ensures.so.fault)

pub returns-in-Schema-clause-came : goal.returns-in-Schema-clause-came
returns-in-Schema-clause-came g c words is =
    let asked = subst (Ask words) c.in-Schema.is is in
    let input = g.I.Read.remaining c.args.input.now.reader in
    let held = g.S.System.state c.args.system in
    rw c.without_run-in-Schema.ensures (inl (reads_alone g.D.Disk.unseen words input g.W.Write.contents c.args.out.now c.schema-told.new.out c.args.aside.now.calls c.requires.none_aside held (g.S.System.state c.schema-told.new.system) c.requires.held
    c.schema-told.result c.schema-told.ensures (c.args.request, rw c.in-Schema.is tt, is)
    (λ calls so. right_schema g.D.Disk.unseen words calls input g.W.Write.contents c.args.out.now c.schema-told.new.out (for_schema words c.in-Schema.file c.in-Schema.deck c.in-Schema.name asked) c.schema-told.result so.told so.compared so.done)))

pub returns-in-Explain-clause-did : goal.returns-in-Explain-clause-did
returns-in-Explain-clause-did g c words is =
    let asked = subst (Ask words) c.in-Explain.is is in
    rw c.without_run-in-Explain.ensures (did_explain words c.in-Explain.kind.now c.in-Explain.number.now asked c.explain-told.result c.explain-told.ensures.done c.explain-told.ensures.fault)

pub returns-in-Explain-clause-came : goal.returns-in-Explain-clause-came
returns-in-Explain-clause-came g c words is =
    let asked = subst (Ask words) c.in-Explain.is is in
    let input = g.I.Read.remaining c.args.input.now.reader in
    let held = g.S.System.state c.args.system in
    rw c.without_run-in-Explain.ensures (inl (reads_alone g.D.Disk.unseen words input g.W.Write.contents c.args.out.now c.explain-told.new.out c.args.aside.now.calls c.requires.none_aside held held c.requires.held
    {IsSo = λ _. ⊤} c.explain-told.result (by_none held tt) (c.args.request, rw c.in-Explain.is tt, is)
    (λ calls so. right_explained g.D.Disk.unseen words calls input g.W.Write.contents c.args.out.now c.explain-told.new.out c.in-Explain.kind.now c.in-Explain.number.now asked c.explain-told.result c.explain-told.ensures.done c.explain-told.ensures.text)))

pub returns-in-Deck-clause-did : goal.returns-in-Deck-clause-did
returns-in-Deck-clause-did g c words is =
    let asked = subst (Ask words) c.in-Deck.is is in
    rw c.without_run-in-Deck.ensures (did_deck words (inl (c.in-Deck.deck.now, asked)) Listed (c.in-Deck.deck.now, asked) c.list_path-listed.result c.list_path-listed.ensures.so.done c.list_path-listed.ensures.so.fault)

pub returns-in-Deck-clause-came : goal.returns-in-Deck-clause-came
returns-in-Deck-clause-came g c words is =
    let asked = subst (Ask words) c.in-Deck.is is in
    let input = g.I.Read.remaining c.args.input.now.reader in
    let held = g.S.System.state c.args.system in
    rw c.without_run-in-Deck.ensures (inl (reads_alone g.D.Disk.unseen words input g.W.Write.contents c.args.out.now c.list_path-listed.new.out c.args.aside.now.calls c.requires.none_aside held (g.S.System.state c.list_path-listed.new.system) c.requires.held
    c.list_path-listed.result c.list_path-listed.ensures (c.args.request, rw c.in-Deck.is tt, is)
    (λ calls so. right_listed g.D.Disk.unseen words calls input g.W.Write.contents c.args.out.now c.list_path-listed.new.out c.in-Deck.deck.now asked c.list_path-listed.result so)))

pub returns-in-List-clause-did : goal.returns-in-List-clause-did
returns-in-List-clause-did g c words is =
    let asked = subst (Ask words) c.in-List.is is in
    let listed = subst (λ (l : List (Bor Text)). AskList words c.in-List.file.now c.in-List.key.now (option_map (λ text. text.now) c.in-List.from) (option_map (λ text. text.now) c.in-List.to) c.in-List.first (texts_of l) (form_text c.in-List.form)
    c.in-List.checked c.in-List.quiet) (sym c.as_slice-words.ensures.value) asked.0 in
    let records = for_records words c.in-List.file c.in-List.key c.in-List.from c.in-List.to c.in-List.first c.as_slice-words.result c.in-List.form c.in-List.checked c.in-List.quiet listed in
    rw c.without_run-in-List.ensures (did_list words records c.in-List.checked g.D.Disk.unseen (g.I.Read.remaining c.args.input.now.reader) c.in-List.file.now
    (record { key = c.in-List.key; from = c.in-List.from; to = c.in-List.to; first = c.in-List.first; conditions = c.as_slice-words.result }) c.in-List.form refl
    (g.W.Write.contents c.args.out.now) (g.W.Write.contents c.list_encoded-system.new.out)
    c.list_encoded-system.ensures.so.calls c.list_encoded-system.result.1 c.list_encoded-system.ensures.so.so.records c.list_encoded-system.ensures.so.so.fault)

pub returns-in-List-clause-came : goal.returns-in-List-clause-came
returns-in-List-clause-came g c words is =
    let asked = subst (Ask words) c.in-List.is is in
    let listed = subst (λ (l : List (Bor Text)). AskList words c.in-List.file.now c.in-List.key.now (option_map (λ text. text.now) c.in-List.from) (option_map (λ text. text.now) c.in-List.to) c.in-List.first (texts_of l) (form_text c.in-List.form)
    c.in-List.checked c.in-List.quiet) (sym c.as_slice-words.ensures.value) asked.0 in
    let input = g.I.Read.remaining c.args.input.now.reader in
    rw c.without_run-in-List.ensures (inl (reads_aside g.D.Disk.unseen words input g.W.Write.contents c.args.out.now c.list_encoded-system.new.out c.list_encoded-system.new.aside.calls
    (g.S.System.state c.args.system).calls (g.S.System.state c.list_encoded-system.result.0) c.requires.held c.list_encoded-system.result.1 c.list_encoded-system.ensures.so (c.args.request, rw c.in-List.is tt, is)
    (λ calls so. right_list g.D.Disk.unseen words calls input g.W.Write.contents c.args.out.now c.list_encoded-system.new.out c.in-List.file c.in-List.key c.in-List.from c.in-List.to c.in-List.first c.as_slice-words.result c.in-List.form
    c.in-List.quiet c.in-List.checked listed c.list_encoded-system.result.1 so.records)))

pub returns-in-Stat-clause-did : goal.returns-in-Stat-clause-did
returns-in-Stat-clause-did g c words is =
    let asked = subst (Ask words) c.in-Stat.is is in
    rw c.without_run-in-Stat.ensures (did_count words g.D.Disk.unseen c.in-Stat.file.now asked g.W.Write.contents c.args.out.now c.count_path-system.new.out c.count_path-system.ensures.calls c.count_path-system.result.1 c.count_path-system.ensures.so)

pub returns-in-Stat-clause-came : goal.returns-in-Stat-clause-came
returns-in-Stat-clause-came g c words is =
    let asked = subst (Ask words) c.in-Stat.is is in
    let input = g.I.Read.remaining c.args.input.now.reader in
    let held = g.S.System.state c.args.system in
    rw c.without_run-in-Stat.ensures (inl (reads_alone g.D.Disk.unseen words input g.W.Write.contents c.args.out.now c.count_path-system.new.out c.args.aside.now.calls c.requires.none_aside held (g.S.System.state c.count_path-system.result.0) c.requires.held
    c.count_path-system.result.1 c.count_path-system.ensures (c.args.request, rw c.in-Stat.is tt, is)
    (λ calls so. right_count g.D.Disk.unseen words calls input g.W.Write.contents c.args.out.now c.count_path-system.new.out c.in-Stat.file.now asked c.count_path-system.result.1 so)))

pub returns-in-Salvage-clause-did : goal.returns-in-Salvage-clause-did
returns-in-Salvage-clause-did g c words is =
    let asked = subst (Ask words) c.in-Salvage.is is in
    rw c.without_run-in-Salvage.ensures (did_salvage words (for_salvage words c.in-Salvage.file c.in-Salvage.form c.in-Salvage.places asked) (g.I.Read.remaining c.args.input.now.reader)
    (g.W.Write.contents c.args.out.now) (g.W.Write.contents c.salvage_encoded-salvaged.new.out) (g.E.Write.contents c.args.doubts.now) (g.E.Write.contents c.salvage_encoded-salvaged.new.err)
    c.salvage_encoded-salvaged.ensures.calls c.salvage_encoded-salvaged.result c.salvage_encoded-salvaged.ensures.so.records c.salvage_encoded-salvaged.ensures.so.fault)

pub returns-in-Salvage-clause-came : goal.returns-in-Salvage-clause-came
returns-in-Salvage-clause-came g c words is =
    let asked = subst (Ask words) c.in-Salvage.is is in
    let input = g.I.Read.remaining c.args.input.now.reader in
    let held = g.S.System.state c.args.system in
    rw c.without_run-in-Salvage.ensures (inl (reads_alone g.D.Disk.unseen words input g.W.Write.contents c.args.out.now c.salvage_encoded-salvaged.new.out c.args.aside.now.calls c.requires.none_aside held (g.S.System.state c.salvage_encoded-salvaged.new.system) c.requires.held
    c.salvage_encoded-salvaged.result c.salvage_encoded-salvaged.ensures (c.args.request, rw c.in-Salvage.is tt, is)
    (λ calls so. right_salvage g.D.Disk.unseen words calls input g.W.Write.contents c.args.out.now c.salvage_encoded-salvaged.new.out (for_salvage words c.in-Salvage.file c.in-Salvage.form c.in-Salvage.places asked)
    (g.E.Write.contents c.args.doubts.now) (g.E.Write.contents c.salvage_encoded-salvaged.new.err) c.salvage_encoded-salvaged.result so.records)))

pub returns-in-Cobol-clause-did : goal.returns-in-Cobol-clause-did
returns-in-Cobol-clause-did g c words is =
    let asked = subst (Ask words) c.in-Cobol.is is in
    rw c.without_run-in-Cobol.ensures (did_deck words (inr (c.in-Cobol.deck.now, c.in-Cobol.fixed, asked)) InCobol (c.in-Cobol.deck.now, c.in-Cobol.fixed, asked) c.write_cobol-written.result c.write_cobol-written.ensures.so.done c.write_cobol-written.ensures.so.fault)

pub returns-in-Cobol-clause-came : goal.returns-in-Cobol-clause-came
returns-in-Cobol-clause-came g c words is =
    let asked = subst (Ask words) c.in-Cobol.is is in
    let input = g.I.Read.remaining c.args.input.now.reader in
    let held = g.S.System.state c.args.system in
    rw c.without_run-in-Cobol.ensures (inl (reads_alone g.D.Disk.unseen words input g.W.Write.contents c.args.out.now c.write_cobol-written.new.out c.args.aside.now.calls c.requires.none_aside held (g.S.System.state c.write_cobol-written.new.system) c.requires.held
    c.write_cobol-written.result c.write_cobol-written.ensures (c.args.request, rw c.in-Cobol.is tt, is)
    (λ calls so. right_cobol g.D.Disk.unseen words calls input g.W.Write.contents c.args.out.now c.write_cobol-written.new.out c.in-Cobol.deck.now c.in-Cobol.fixed asked c.write_cobol-written.result so)))

-- the run, the session and the load that were begun are those that are asked for
pub returns-in-Run-clause-did : goal.returns-in-Run-clause-did
returns-in-Run-clause-did g c words is =
    let asked = subst (Ask words) c.in-Run.is is in
    run_did (g.S.System.state c.args.system) g.I.Read.remaining c.args.input.now c.in-Run.deck.now c.in-Run.folder.now c.in-Run.limits c.in-Run.strict g.D.Disk.unseen
    (calls_made c.run.new.aside.calls (g.S.System.state c.run.result.0)) g.W.Write.contents c.args.out.now c.run.new.out words asked.0 c.run.result.1 c.run.ensures.came

pub returns-in-Run-clause-came : goal.returns-in-Run-clause-came
returns-in-Run-clause-came g c words is =
    let asked = subst (Ask words) c.in-Run.is is in
    run_came _ _ g.D.Disk.unseen words c.run.new.aside.calls (g.S.System.state c.run.result.0) g.I.Read.remaining g.W.Write.contents c.args.input.now c.run.new.input c.args.out.now c.run.new.out
    (g.S.System.state c.args.system) c.requires.held c.in-Run.deck.now c.in-Run.folder.now c.in-Run.limits c.in-Run.strict asked.0 c.run.result.1 c.run.ensures.came

pub returns-in-Serve-clause-did : goal.returns-in-Serve-clause-did
returns-in-Serve-clause-did g c words is =
    let asked = subst (Ask words) c.in-Serve.is is in
    served_did words c.in-Serve.folder.now c.in-Serve.limits.pages c.in-Serve.limits.frames.value asked.0 c.serve_path.result.1.outcome c.serve_path.ensures.done c.serve_path.ensures.fault

pub returns-in-Serve-clause-came : goal.returns-in-Serve-clause-came
returns-in-Serve-clause-came g c words is =
    let asked = subst (Ask words) c.in-Serve.is is in
    serve_came _ _ g.D.Disk.unseen words c.serve_path.new.aside.calls (g.S.System.state c.serve_path.result.0) g.I.Read.remaining g.W.Write.contents c.args.input.now c.serve_path.new.input
    c.args.out.now c.serve_path.new.out (g.S.System.state c.args.system) c.requires.held c.in-Serve.folder.now c.in-Serve.limits asked.0 c.serve_path.result.1 c.serve_path.ensures.came

pub returns-clause-did : goal.returns-clause-did
returns-clause-did g c words is =
    let asked = subst (Ask words) c.in-Load.is is in
    let load = for_load words c.in-Load.deck c.in-Load.folder c.in-Load.file c.in-Load.text c.in-Load.form c.in-Load.encoding c.in-Load.into c.in-Load.limits c.in-Load.lines c.in-Load.asked_rejects c.in-Load.quiet asked in
    rw c.without_run-in-Load.ensures (load_did words load c.load-system.result.1 (rw c.options_of.ensures at c.load-system.ensures))

pub returns-clause-came : goal.returns-clause-came
returns-clause-came g c words is =
    let asked = subst (Ask words) c.in-Load.is is in
    let load = for_load words c.in-Load.deck c.in-Load.folder c.in-Load.file c.in-Load.text c.in-Load.form c.in-Load.encoding c.in-Load.into c.in-Load.limits c.in-Load.lines c.in-Load.asked_rejects c.in-Load.quiet asked in
    load_came _ _ g.D.Disk.unseen words c.load-system.new.aside.calls (g.S.System.state c.load-system.result.0) g.I.Read.remaining g.W.Write.contents c.args.input.now c.load-system.new.input
    c.args.out.now c.load-system.new.out (g.S.System.state c.args.system) c.requires.held load c.without_run-in-Load.result (rw c.without_run-in-Load.ensures (rw c.options_of.ensures at c.load-system.ensures))
