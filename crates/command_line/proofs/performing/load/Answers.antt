use Rattle.std.proofs.Common.{ℕ, List, Bor, option_map, ap, string_bytes, sym, subst}
use Rattle.command_line.specs.CallsMade.{calls_made}
use Rattle.command_line.specs.Encoding.{encoding_word}
use Rattle.command_line.specs.LoadForm.{form_word}
use Rattle.command_line.specs.Loaded.{ComesOfLoad, BeginsLoad}
use Rattle.command_support.specs.DeckFile.{IsDeckFault}
use Rattle.command_line.proofs.LoadingLemmas.{load_of_deck}
use Rattle.command_line.proofs.performing.load.Goals as goal

pub returns : goal.returns
returns g c =
    let inputs = c.in-Ok.inputs in
    let given = c.in-Ok.ensures.reads.given in
    let left = g.I.Read.remaining c.inputs_of.new.input.reader in
    let at_first = g.I.Read.remaining c.args.input.now.reader in
    let made = calls_made c.load_deck.new.aside.calls (g.S.System.state c.load_deck.result.0) in
    let before = g.W.Write.contents c.args.out.now in
    let behind = g.W.Write.contents c.load_deck.new.out in
    let between = g.S.System.state c.inputs_of.new.system in
    let comes : List ℕ → List ℕ → List ℕ → List ℕ → Type 0 = λ bytes folder word encoding. ComesOfLoad (BeginsLoad between.calls left bytes folder c.args.asked.file.now c.args.asked.text.now word encoding c.args.asked.into c.args.asked.lines
    g.D.Disk.unseen made before behind c.load_deck.result.1) IsDeckFault between made c.args.out.now c.load_deck.new.out c.load_deck.result.1 in
    load_of_deck (g.S.System.state c.args.system) between made at_first left c.args.deck.now c.args.folder.now c.args.asked.file.now c.args.asked.text.now c.args.asked.form.now c.args.asked.encoding.now c.args.asked.into c.args.asked.lines
    g.D.Disk.unseen before behind c.args.out.now c.load_deck.new.out c.load_deck.result.1 inputs.0.items given.1 given.2 given.3 c.inputs_of.ensures.reads.reads
    (λ other. ap (λ input. g.I.Read.remaining input.reader) (c.inputs_of.ensures.unread other)) (c.are_both_input.ensures.other c.if-are_both_input.false)
    (option_map (λ (text : Bor (List ℕ)). text.now) c.args.asked.rejects) c.args.asked.lines.keep_going
    (subst (λ (word : List ℕ). comes inputs.0.items c.args.folder.now c.args.asked.form.now word) (sym c.in-Some-encoding_of.ensures.encoding)
    (subst (λ (word : List ℕ). comes inputs.0.items c.args.folder.now word (encoding_word c.in-Some-encoding_of.encoding)) (sym c.in-Some.ensures.kind)
    (subst (λ (folder : List ℕ). comes inputs.0.items folder (form_word c.in-Some.kind) (encoding_word c.in-Some-encoding_of.encoding)) given.0
    (subst (λ (bytes : List ℕ). comes bytes (string_bytes inputs.1) (form_word c.in-Some.kind) (encoding_word c.in-Some-encoding_of.encoding)) c.as_slice.ensures.value c.load_deck.ensures))))
