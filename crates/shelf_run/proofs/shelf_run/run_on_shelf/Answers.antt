use Rattle.std.proofs.Common.{◌≡◌, ℕ, List, [], length, ap, sym, subst, ◌∙◌, IsTrue}
use Rattle.std.proofs.lemmas.Result.{IfOk-weaker, IfErr-weaker}
use Rattle.std.specs.NonZero.{non_zero_usize_get}
use Rattle.deck_runner.specs.DeckRun.{IsExactIfClean, HasRunWhole, HasRunInPart, HasDoneNothing, IsRefusedDeck}
use Rattle.deck_runner.specs.RunEnd.{ToldInPart}
use Rattle.indexed_file.specs.Calls.{Keeps}
use Rattle.page_store.specs.Images.{Leaves}
use Rattle.shelf_library.specs.Library.{shown_by}
use Rattle.shelf_library.specs.State.{LibraryState, AreLimited}
use Rattle.shelf_library.specs.declared.library.ShelfLibrary.{ShelfLibrary}
use Rattle.shelf_run.specs.ShelfRun.{OnShelf, BreaksOff, LeavesFiles, StaysSound, IsExactOn, HasRunOn, HasBrokenOffOn, IsRefusedOn, shown_of_state}
use Rattle.shelf_run.specs.ExactRun.{IsExactRun}
use Rattle.shelf_run.proofs.RunLemmas as run
use Rattle.shelf_run.proofs.shelf_run.run_on_shelf.Goals as goal
use Rattle.shelf_run.proofs.shelf_run.run_on_shelf.Given as given

-- the library before the run and after it, and what is so of them
module _ (g : given.Over) (c : goal.After-into_shelf g) where
  state : ShelfLibrary g.row.S.Denot g.S.Shelf → LibraryState
  state library = record { shelf = g.S.Shelf.state library.shelf; held = library.units.items; faults = g.S.Shelf.fault_count library.shelf; limit = library.limit; frames = non_zero_usize_get library.frames }

  old : LibraryState
  old = state c.new-library.result

  new : LibraryState
  new = state c.run_deck-end.new.library

  -- what is so of the shelves of the libraries is so of those that were handed in and given back
  carried : (P : g.row.S.Denot → g.row.S.Denot → Type 0) → P c.new-library.result.shelf c.run_deck-end.new.library.shelf → P c.args.shelf c.into_shelf.result
  carried P is =
      subst (λ (last : g.row.S.Denot). P c.args.shelf last) (sym c.into_shelf.ensures)
      (subst (λ (first : g.row.S.Denot). P first c.run_deck-end.new.library.shelf) c.new-library.ensures.shelf is)

  none : old.shelf.names ≡ []
  unfolding state old
  none = ap (λ (shelf : g.row.S.Denot). (g.S.Shelf.state shelf).names) c.new-library.ensures.shelf ∙ c.requires.names

  empty : old.held ≡ []
  unfolding state old
  empty = c.new-library.ensures.units

  many : length new.held ≡ length new.shelf.names
  unfolding state new
  many = c.run_deck-end.new.library.many

  keeps : Keeps shown_of_state old new
  unfolding state old new
  keeps = run.keeps_in state c.new-library.result c.run_deck-end.new.library c.run_deck-end.ensures.keeps

  an_image : (name : List ℕ) → IsTrue old.shelf.is_honest → Leaves (old.shelf.file name) (old.shelf.file name).seen
  unfolding state old
  an_image = g.met.S.Shelf.reads_an_image c.new-library.result.shelf

  frames : ℕ
  frames = non_zero_usize_get c.args.frames

  first_given : run.HasGiven c.args.limit frames old
  unfolding state old frames
  first_given = record { limit_is = c.new-library.ensures.limit; frames_is = ap non_zero_usize_get c.new-library.ensures.frames }

  last_given : run.HasGiven c.args.limit frames new
  unfolding state old new frames
  last_given =
      let same_limit = keeps.limit in
      let same_frames = keeps.frames in
      let limit : new.limit ≡ old.limit = cc in
      let held : new.frames ≡ old.frames = cc in
      record { limit_is = limit ∙ first_given.limit_is; frames_is = held ∙ first_given.frames_is }

  -- the files that are open at the end have the limits of the library
  limits : AreLimited c.args.limit frames new.held
  unfolding state old new frames
  limits =
      subst (λ (f : ℕ). AreLimited c.args.limit f new.held) last_given.frames_is
      (subst (λ (l : ℕ). AreLimited l new.frames new.held) last_given.limit_is c.run_deck-end.new.library.limits)

pub returns-clause-sound : goal.returns-clause-sound
unfolding state old new
returns-clause-sound g c =
    carried g c (λ first last. StaysSound (g.S.Shelf.state first) (g.S.Shelf.state last))
    (run.stays_sound (old g c) (new g c) (none g c) (empty g c) (many g c) (keeps g c) (an_image g c))

pub returns-clause-exact : goal.returns-clause-exact
unfolding state old new
returns-clause-exact g c =
    let bytes = c.args.bytes.now in
    let written = g.W.Write.contents c.args.out.now in
    let written_after = g.W.Write.contents c.run_deck-end.new.out in
    IfOk-weaker c.run_deck-end.result
    (IsExactIfClean (shown_by (state g c)) g.W.Write.contents bytes c.new-library.result c.run_deck-end.new.library c.args.out.now c.run_deck-end.new.out)
    (IsExactOn g.S.Shelf.state g.W.Write.contents bytes c.args.shelf c.into_shelf.result c.args.out.now c.run_deck-end.new.out)
    (λ end exact clean. carried g c (λ first last. IsExactRun bytes (g.S.Shelf.state first) (g.S.Shelf.state last) written written_after end)
    (run.exact_run (old g c) (new g c) (none g c) (empty g c) (many g c) (keeps g c) (an_image g c) bytes written written_after end (exact clean)))
    c.run_deck-end.ensures.exact

pub returns-clause-run : goal.returns-clause-run
unfolding state old new frames
returns-clause-run g c =
    let bytes = c.args.bytes.now in
    let written = g.W.Write.contents c.args.out.now in
    let written_after = g.W.Write.contents c.run_deck-end.new.out in
    IfOk-weaker c.run_deck-end.result
    (HasRunWhole (shown_by (state g c)) g.W.Write.contents bytes c.new-library.result c.run_deck-end.new.library c.args.out.now c.run_deck-end.new.out)
    (HasRunOn g.S.Shelf.state g.S.Shelf.fault_count g.W.Write.contents bytes c.args.limit (frames g c) c.args.shelf c.into_shelf.result c.args.out.now c.run_deck-end.new.out)
    (λ end runs. carried g c
    (λ first last. HasRunOn g.S.Shelf.state g.S.Shelf.fault_count g.W.Write.contents bytes c.args.limit (frames g c) first last c.args.out.now c.run_deck-end.new.out end)
    (run.runs_on (old g c) (new g c) (none g c) (empty g c) (many g c) (keeps g c) (an_image g c) c.args.limit (frames g c) (first_given g c) (last_given g c) (limits g c) bytes written written_after end
    (run.whole_in (state g c) bytes c.new-library.result c.run_deck-end.new.library written written_after end runs)))
    c.run_deck-end.ensures.run

pub returns-clause-output : goal.returns-clause-output
unfolding state old new frames
returns-clause-output g c =
    let bytes = c.args.bytes.now in
    let written = g.W.Write.contents c.args.out.now in
    let written_after = g.W.Write.contents c.run_deck-end.new.out in
    IfErr-weaker c.run_deck-end.result
    (HasRunInPart (shown_by (state g c)) g.W.Write.contents bytes c.new-library.result c.run_deck-end.new.library c.args.out.now c.run_deck-end.new.out)
    (HasBrokenOffOn g.S.Shelf.state g.S.Shelf.fault_count g.W.Write.contents bytes c.args.limit (frames g c) c.args.shelf c.into_shelf.result c.args.out.now c.run_deck-end.new.out)
    (λ fault runs is. carried g c
    (λ first last. OnShelf bytes (g.S.Shelf.state first) (g.S.Shelf.state last) (λ deck. ToldInPart written written_after
    (BreaksOff c.args.limit (frames g c) (g.S.Shelf.state first) (g.S.Shelf.state last) (g.S.Shelf.fault_count first) (g.S.Shelf.fault_count last) deck)))
    (run.breaks_off (old g c) (new g c) (none g c) (empty g c) (many g c) (keeps g c) (an_image g c) c.args.limit (frames g c) (first_given g c) (last_given g c) (limits g c) bytes written written_after
    (run.part_in (state g c) bytes c.new-library.result c.run_deck-end.new.library written written_after (runs is))))
    c.run_deck-end.ensures.output

pub returns-clause-refused : goal.returns-clause-refused
unfolding state old new frames
returns-clause-refused g c =
    run.refused_with c.run_deck-end.result
    (HasDoneNothing (shown_by (state g c)) c.new-library.result c.run_deck-end.new.library c.args.out.now c.run_deck-end.new.out) (IsRefusedDeck c.args.bytes.now)
    (IsRefusedOn g.S.Shelf.state c.args.bytes.now c.args.shelf c.into_shelf.result c.args.out.now c.run_deck-end.new.out)
    (λ fault nothing bytes_are. record {
      nothing = λ other. (
        (nothing other).0,
        carried g c (λ first last. LeavesFiles (g.S.Shelf.state first) (g.S.Shelf.state last))
            (run.leaves_files (old g c) (new g c) (none g c) (empty g c) (many g c) (keeps g c) (an_image g c)
            (run.untouched_in (state g c) c.new-library.result c.run_deck-end.new.library (nothing other).1)),
      );
      bytes_are = bytes_are;
    })
    c.run_deck-end.ensures.nothing c.run_deck-end.ensures.refused
