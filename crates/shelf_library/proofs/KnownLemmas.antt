-- An open unit that is shown truly holds the rows that its file stands for.
use Rattle.std.proofs.Common.{◌≡◌, ℕ, ◌<◌, Bool, length, IsTrue, IsFalse, sym, ap, subst, ◌∙◌, arith, if◌then◌else◌}
use Rattle.shelf_library.specs.Reading.{IsKnown}
use Rattle.shelf_library.proofs.Terms.{either, File, Broken, Holding, HasOpened, holding_at, name_at, reads_as, StandsFor, file_read_off}
use Rattle.shelf_library.proofs.Terms.{is_broken_file, live_of, parts_of, schema_behind, ShelfFile, AreUnits, LibraryState, held_at}
use Rattle.shelf_library.proofs.Terms.{IsShownTruly, IsTrulyOpen, holding_of, world_of, Opened}
use Rattle.shelf_library.proofs.WorldLemmas.{name_now, holding_now}

module _ (u : ℕ) (file : ShelfFile) (state : LibraryState) (units : AreUnits state.shelf state.held) (within : u < length state.held) (opened : held_at state.held u ≡ Opened file)
    (truly : IsShownTruly state.shelf state.held (name_at (world_of state.shelf state.held) u)) where
  pub truly_open : IsFalse (is_broken_file file) → IsTrulyOpen state.shelf file (state.shelf.file (name_at (world_of state.shelf state.held) u))
  truly_open works =
      truly.opened u file (let many = units.many in omega (arith, many, within)) (sym (name_now state.shelf state.held u within units.many)) opened works

  pub known : IsFalse (is_broken_file file) → IsKnown u file state
  known works =
      let is = truly_open works in
      record {
        rows = is.rows;
        stands = is.stands;
        holding = holding_now state.shelf state.held u within units.many ∙ ap (holding_of state.shelf) opened
            ∙ ap (λ (broken : Bool). if broken then Broken (schema_behind file) else HasOpened (schema_behind file) (file_read_off file state.shelf)) works
            ∙ ap (HasOpened (schema_behind file)) (reads_as (parts_of file) (live_of file state.shelf) is.rows is.stands.stands);
      }

  -- what holds of any holding where the file is broken, and else of the rows that the file stands for, holds of the unit
  pub by_known : (P : Holding → Type 0) → (IsTrue (is_broken_file file) → (holding : Holding) → P holding) → ((rows : File) → StandsFor file state.shelf rows → P (HasOpened (schema_behind file) rows))
      → P (holding_at (world_of state.shelf state.held) u)
  by_known P broken stands =
      either (is_broken_file file) (P (holding_at (world_of state.shelf state.held) u))
      (λ is. broken is (holding_at (world_of state.shelf state.held) u))
      (λ works. let k = known works in subst P (sym k.holding) (stands k.rows k.stands))
