use Rattle.std.proofs.Common.{◌≡◌, ℕ, List, [], length, Result, IfOk, OnErr, ap, sym, subst, ◌∙◌, IsTrue}
use Rattle.std.specs.NonZero.{non_zero_usize_get}
use Rattle.deck_runner.specs.Beginning.{IsUntouched}
use Rattle.indexed_file.specs.Calls.{Keeps}
use Rattle.page_store.specs.Images.{Leaves}
use Rattle.shelf_library.specs.Library.{shown_by}
use Rattle.shelf_library.specs.State.{LibraryState}
use Rattle.shelf_library.specs.declared.library.ShelfLibrary.{ShelfLibrary}
use Rattle.shelf_run.specs.ShelfRun.{LeavesFiles, shown_of_state}
use Rattle.shelf_run.proofs.RunLemmas.{keeps_in, untouched_in, leaves_files}
use Rattle.record_loading.specs.Loading.{listing_by}
use Rattle.record_loading.specs.declared.shelf_end.ShelfEnd.{ShelfEnd}
use Rattle.record_loading.specs.declared.shelf_end.ShelfFault.{ShelfFault}
use Rattle.record_loading.specs.Loaded.{EndsAnyhow, TellsLoadEnd, KeepsOtherNames, IsSafeLoad, load_end_of}
use Rattle.record_loading.proofs.LoadedLemmas.{leaves, others, safe, ends_by, nothing_by}
use Rattle.record_loading.proofs.shelf_load.load_over.Goals as goal
use Rattle.record_loading.proofs.shelf_load.load_over.Given as given

-- the library before the load and after it, and what is so of them
module _ (g : given.Over) (c : goal.After-end_of g) where
  state : ShelfLibrary g.row.S.Denot g.S.Shelf → LibraryState
  state library = record { shelf = g.S.Shelf.state library.shelf; held = library.units.items; faults = g.S.Shelf.fault_count library.shelf; limit = library.limit; frames = non_zero_usize_get library.frames }

  old : LibraryState
  old = state c.new-library.result

  new : LibraryState
  new = state c.load_records-end.new.lib

  -- what is so of the shelves of the libraries is so of those that were handed in and given back
  carried : (P : g.row.S.Denot → g.row.S.Denot → Type 0) → P c.new-library.result.shelf c.load_records-end.new.lib.shelf → P c.args.shelf c.into_shelf.result
  carried P is =
      subst (λ (last : g.row.S.Denot). P c.args.shelf last) (sym c.into_shelf.ensures)
      (subst (λ (first : g.row.S.Denot). P first c.load_records-end.new.lib.shelf) c.new-library.ensures.shelf is)

  none : old.shelf.names ≡ []
  unfolding state old
  none = ap (λ (shelf : g.row.S.Denot). (g.S.Shelf.state shelf).names) c.new-library.ensures.shelf ∙ c.requires.names

  empty : old.held ≡ []
  unfolding state old
  empty = c.new-library.ensures.units

  many : length new.held ≡ length new.shelf.names
  unfolding state new
  many = c.load_records-end.new.lib.many

  keeps : Keeps shown_of_state old new
  unfolding state old new
  keeps = keeps_in state c.new-library.result c.load_records-end.new.lib c.load_records-end.ensures.keeps

  an_image : (name : List ℕ) → IsTrue old.shelf.is_honest → Leaves (old.shelf.file name) (old.shelf.file name).seen
  unfolding state old
  an_image = g.met.S.Shelf.reads_an_image c.new-library.result.shelf

pub returns-clause-loads : goal.returns-clause-loads
unfolding state old new
returns-clause-loads g c =
    let name = c.args.name.bytes in
    let tells_end = TellsLoadEnd g.R.RejectLog.tells c.args.rejects.now c.load_records-end.new.rejects (λ told. EndsAnyhow name c.args.schema.now c.args.load (listing_by c.args.form.now c.args.text.now c.args.options told)) in
    record {
      ends = subst (λ (r : Result ShelfEnd ShelfFault). IfOk r (λ end. tells_end (g.S.Shelf.state c.args.shelf) end (g.S.Shelf.state c.into_shelf.result)))
          (sym c.end_of.ensures)
          (carried g c (λ first last. IfOk (load_end_of c.load_records-end.result) (λ end. tells_end (g.S.Shelf.state first) end (g.S.Shelf.state last)))
          (ends_by c.load_records-end.result _ _
          (λ end is. (is.0, is.1, leaves (old g c) (new g c) (none g c) (empty g c) (many g c) (keeps g c) (an_image g c) name c.args.schema.now c.args.load (listing_by c.args.form.now c.args.text.now c.args.options is.0) end is.2))
          c.load_records-end.ensures.loads));
      nothing = subst (λ (r : Result ShelfEnd ShelfFault). OnErr r (LeavesFiles (g.S.Shelf.state c.args.shelf) (g.S.Shelf.state c.into_shelf.result))) (sym c.end_of.ensures)
          (carried g c (λ first last. OnErr (load_end_of c.load_records-end.result) (LeavesFiles (g.S.Shelf.state first) (g.S.Shelf.state last)))
          (nothing_by c.load_records-end.result (IsUntouched (shown_by (state g c)) c.new-library.result c.load_records-end.new.lib) _
          (λ is. leaves_files (old g c) (new g c) (none g c) (empty g c) (many g c) (keeps g c) (an_image g c) (untouched_in (state g c) c.new-library.result c.load_records-end.new.lib is))
          c.load_records-end.ensures.memory));
      others = carried g c (λ first last. KeepsOtherNames name (g.S.Shelf.state first) (g.S.Shelf.state last))
          (others (old g c) (new g c) (none g c) (empty g c) (many g c) (keeps g c) (an_image g c) name c.load_records-end.ensures.others);
      safe = carried g c (λ first last. IsSafeLoad name (g.S.Shelf.state first) (g.S.Shelf.state last))
          (safe (old g c) (new g c) (none g c) (empty g c) (many g c) (keeps g c) (an_image g c) name c.load_records-end.ensures.real);
    }
