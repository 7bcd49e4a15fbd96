-- A session over a folder is exact, by the law of sessions on a shelf.
use Rattle.std.proofs.Common.{ℕ, Bool, List, sym, ap, ◌∙◌, subst}
use Rattle.page_store.specs.ShelfState.{ShelfState}
use Rattle.page_store.specs.declared.shelf.Shelf.{Ghosts}
use Rattle.folder_shelf.specs.SystemState.{SystemState}
use Rattle.folder_shelf.specs.Replay.{Unseen, folder_state}
use Rattle.shelf_library.specs.State.{LibraryState}
use Rattle.shelf_library.specs.Units.{world_of}
use Rattle.shelf_library.specs.declared.library.ShelfLibrary.{ShelfLibrary}
use Rattle.serve.specs.Serving.{Streams}
use Rattle.shelf_run.specs.SessionOnShelf.{ExactOnShelf, IsExactSessionOn}
use Rattle.command_line.specs.Session.{shown_over, keeps_over, IsNewOver, IsLeftIn, ServedOver, IsExactOver}
use Rattle.command_line.specs.declared.session.ServedEnd.{ServedEnd}

module _ {X : Type 0} (shelf : Ghosts X) (keeps_open : X → ℕ → Bool) (disk : Unseen) (path : List ℕ) (limit frames : ℕ) (s : Streams) (system : SystemState) (session : ServedEnd) where
  -- what the shelf of a library shows
  abbrev pub shelf_of : ShelfLibrary X shelf → ShelfState
  shelf_of library = shelf.state library.shelf

  -- requests were answered over this library
  abbrev pub Over : ShelfLibrary X shelf → Type 0
  Over start = ServedOver (shown_over shelf) (keeps_over shelf keeps_open) start s (IsLeftIn shelf disk system) session

  -- where it is new over the folder of this path, they and the closes behind them are exact
  pub exact_over : ExactOnShelf (shown_over shelf) (keeps_over shelf keeps_open) shelf_of → (start : ShelfLibrary X shelf) → IsNewOver shelf disk path limit frames start → (served : Over start)
      → IsExactOver disk path system served.ends.session.served.exchanges served.ends.session.closes
  exact_over law start is_new served =
      let whole = served.ends.session in
      let exchanges = whole.served.exchanges in
      let none = ap (λ (state : LibraryState). (world_of state.shelf state.held).units) is_new in
      let first = ap (λ (state : LibraryState). state.shelf) is_new in
      let last = ap shelf_of (sym served.ends.library) ∙ served.left in
      subst (λ (before : ShelfState). IsExactSessionOn before (folder_state disk system) exchanges whole.closes) first
      (subst (λ (behind : ShelfState). IsExactSessionOn (shelf_of start) behind exchanges whole.closes) last (law.session start s served.end.requests whole none))

  pub served_exactly : ExactOnShelf (shown_over shelf) (keeps_over shelf keeps_open) shelf_of → (start : ShelfLibrary X shelf) → IsNewOver shelf disk path limit frames start → Over start
      → (start : ShelfLibrary X shelf) × IsNewOver shelf disk path limit frames start × (served : Over start)
      × IsExactOver disk path system served.ends.session.served.exchanges served.ends.session.closes
  served_exactly law start is_new served = (start, is_new, served, exact_over law start is_new served)
