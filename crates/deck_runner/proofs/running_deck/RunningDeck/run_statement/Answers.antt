use Rattle.std.proofs.Common.{◌≤◌, ◌+◌, [], length, refl, slice_set, rules}
use Rattle.std.proofs.lemmas.Option.{slice_get_read}
use Rattle.record_layout.specs.Area.{sent, moved}
use Rattle.deck_runner.proofs.FrameLemmas.{shows_run}
use Rattle.deck_runner.proofs.VerbLemmas.{file_at}
use Rattle.deck_runner.proofs.MoveLemmas.{goes_by_move, goes_on_alike, move_step, length_step, still}
use Rattle.deck_reader.specs.declared.statement.Statement.TheVariants.{Move, MoveLength, StopRun}
use Rattle.deck_runner.specs.Parts.{Single}
use Rattle.deck_runner.proofs.StateLemmas.{no_line}
use Rattle.deck_runner.proofs.running_deck.RunningDeck.run_statement.Goals as goal

pub returns-in-Move : goal.returns-in-Move
returns-in-Move g c =
    let taken = rw c.in-Move.is at c.requires.part_is in
    let library = c.args.library.now in
    let files = c.args.self.now.files.items in
    let items = c.args.self.now.items.items in
    let file = c.index_mut-file.result.now in
    let get = file_at files c.in-Move.file (λ schema. c.in-Move.field.offset + c.in-Move.field.length ≤ schema.greatest) file taken.0 c.index_mut-file.ensures.value in
    no_line g.L.Library.shown g.W.Write.contents (Single c.args.statement.now) library c.args.self.now _ c.args.held.now c.args.out.now c.none.result c.none.ensures
    (goes_by_move g.L.Library.shown library c.args.self.now _ c.in-Move.file file c.put.new.self (moved c.in-Move.field (sent c.as_ref.result) file.area) refl refl c.put.ensures c.requires.safe get)
    (rw (c.in-Move.is, c.put.ensures, c.as_ref.ensures)
    (still g.L.Library.shown (Move c.in-Move.file c.in-Move.field c.in-Move.source) library _ _ [] refl refl tt (shows_run g.L.Library.shown library files items)
    (shows_run g.L.Library.shown library (slice_set files c.in-Move.file (record file { area = moved c.in-Move.field c.in-Move.source file.area })) items)
    (move_step (g.L.Library.shown.world library) files items c.in-Move.file file c.in-Move.field c.in-Move.source get)))

pub returns-in-MoveLength : goal.returns-in-MoveLength
returns-in-MoveLength g c =
    let taken = rw c.in-MoveLength.is at c.requires.part_is in
    let library = c.args.library.now in
    let files = c.args.self.now.files.items in
    let items = c.args.self.now.items.items in
    let item = c.index_mut-item.result.now in
    let get = slice_get_read items (length items) c.in-MoveLength.item item refl taken.0 c.index_mut-item.ensures.value in
    no_line g.L.Library.shown g.W.Write.contents (Single c.args.statement.now) library c.args.self.now _ c.args.held.now c.args.out.now c.none-in-MoveLength.result c.none-in-MoveLength.ensures
    (search rules)
    (rw (c.in-MoveLength.is, c.put-in-MoveLength.ensures, c.as_ref-in-MoveLength.ensures)
    (still g.L.Library.shown (MoveLength c.in-MoveLength.item c.in-MoveLength.source) library _ _ [] refl refl tt (shows_run g.L.Library.shown library files items) (shows_run g.L.Library.shown library files items)
    (length_step (g.L.Library.shown.world library) files items c.in-MoveLength.item item c.in-MoveLength.source get)))

pub returns-in-StopRun : goal.returns-in-StopRun
returns-in-StopRun g c =
    let library = c.args.library.now in
    let files = c.args.self.now.files.items in
    let items = c.args.self.now.items.items in
    no_line g.L.Library.shown g.W.Write.contents (Single c.args.statement.now) library c.args.self.now c.args.self.now c.args.held.now c.args.out.now c.none-in-StopRun.result c.none-in-StopRun.ensures
    (goes_on_alike g.L.Library.shown library c.args.self.now c.args.self.now refl refl c.requires.safe)
    (rw c.in-StopRun.is (still g.L.Library.shown StopRun library _ _ [] refl refl tt (shows_run g.L.Library.shown library files items) (shows_run g.L.Library.shown library files items) (refl, refl)))
