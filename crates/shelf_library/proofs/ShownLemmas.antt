-- What is shown of a unit that has a file open.
use Rattle.std.proofs.Common.{◌≡◌, ℕ, ◌<◌, true, length, IsFalse, sym, ap, subst, ◌∙◌}
use Rattle.std.specs.Prelude.{unwrap_or}
use Rattle.indexed_file.specs.World.{file_in as rows_in}
use Rattle.shelf_library.proofs.Terms.{Schema, File, empty_file, Room, Holding, file_at, holding_at, is_broken, is_open, name_at, schema_at}
use Rattle.shelf_library.proofs.Terms.{schema_in, StandsFor, file_read_off, is_broken_file, room_in, schema_behind, ShelfFile, AreUnits}
use Rattle.shelf_library.proofs.Terms.{LibraryState, held_at, IsShownTruly, holding_of, room_of_held, world_of, Held, Opened}
use Rattle.shelf_library.proofs.WorldLemmas.{holding_now}
use Rattle.shelf_library.proofs.OpenedLemmas.{schema_open, open_open, broken_open}
use Rattle.shelf_library.proofs.KnownLemmas.{known}

module _ (u : ℕ) (file : ShelfFile) (state : LibraryState) (units : AreUnits state.shelf state.held) (within : u < length state.held) (opened : held_at state.held u ≡ Opened file) where
  pub holding_shown : holding_at (world_of state.shelf state.held) u ≡ holding_of state.shelf (Opened file)
  holding_shown = holding_now state.shelf state.held u within units.many ∙ ap (holding_of state.shelf) opened

  pub schema_shown : schema_at (world_of state.shelf state.held) u ≡ schema_behind file
  schema_shown = ap schema_in holding_shown ∙ schema_open (is_broken_file file) (schema_behind file) (file_read_off file state.shelf)

  pub open_shown : is_open (holding_at (world_of state.shelf state.held) u) ≡ true
  open_shown = ap is_open holding_shown ∙ open_open (is_broken_file file) (schema_behind file) (file_read_off file state.shelf)

  pub broken_shown : is_broken (holding_at (world_of state.shelf state.held) u) ≡ is_broken_file file
  broken_shown = ap is_broken holding_shown ∙ broken_open (is_broken_file file) (schema_behind file) (file_read_off file state.shelf)

  -- what is so of each file that the open one stands for is so of the one that is shown
  pub told : (P : Schema → Room → File → Type 0) → IsShownTruly state.shelf state.held (name_at (world_of state.shelf state.held) u) → IsFalse (is_broken_file file)
      → ((rows : File) → StandsFor file state.shelf rows → P (schema_behind file) (room_in file) rows)
      → P (schema_at (world_of state.shelf state.held) u) (room_of_held (held_at state.held u)) (file_at (world_of state.shelf state.held) u)
  told P truly works is =
      let shown = known u file state units within opened truly works in
      subst (λ (holding : Holding). P (schema_in holding) (room_of_held (held_at state.held u)) (unwrap_or (rows_in holding) empty_file)) (sym shown.holding)
      (subst (λ (one : Held). P (schema_behind file) (room_of_held one) shown.rows) (sym opened) (is shown.rows shown.stands))
