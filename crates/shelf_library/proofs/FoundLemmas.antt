-- What a call that looks for a record answers.
use Rattle.std.proofs.Common.{◌≡◌, ◌≢◌, ℕ, Bool, List, Option, option_map, unwrap_or, IsTrue, IfOk, IfErr, OnOk, Result, Err, sym, subst}
use Rattle.arrayvec.specs.ArrayVec.{ArrayVec}
use Rattle.io_state.specs.declared.modes.Relation.{Relation}
use Rattle.indexed_file.specs.declared.answer.Found.{Found}
use Rattle.indexed_file.specs.File.{Row}
use Rattle.indexed_file.specs.Rank.{least, satisfies, highest_of}
use Rattle.indexed_file.specs.World.{file_in}
use Rattle.indexed_file.specs.Answers.{found_of, key_of_row, area_after}
use Rattle.indexed_file.specs.UnitAnswers.{first_at, found_at, key_of_row_at, row_sought, highest_at}
use Rattle.pages.specs.Answer.{IsAnswer}
use Rattle.open_file.specs.Reading.{Delivers, FindsFirst, Seeks}
use Rattle.shelf_library.specs.Calls.{ReadsOnShelf, on_shelf}
use Rattle.indexed_file.specs.UnitCalls.{FindsRow}
use Rattle.shelf_library.proofs.Terms.{Fault, BrokenUnit, Damage, Schema, File, empty_file, most_to_read, Holding, name_at, schema_at}
use Rattle.shelf_library.proofs.Terms.{schema_in, Stands, is_broken_file, live_of, parts_of, room_in, schema_behind, ShelfFile, shown_by}
use Rattle.shelf_library.proofs.Terms.{ReadsAt, LibraryState, IsShownTruly, room_of_held, world_of}
use Rattle.shelf_library.proofs.ReadsLemmas.{reads_unit}
use Rattle.shelf_library.proofs.KnownLemmas.{by_known}

abbrev pub rows_in : Holding → File
rows_in holding = unwrap_or (file_in holding) empty_file

-- a fact of an answer, where there is none but Broken
none_broken : {X : Type 0} (result : Result X Fault) (P : X → Type 0) → result ≡ Err BrokenUnit → IfOk result P
none_broken result P is = subst (λ result. IfOk result P) (sym is) tt

nothing_broken : {X : Type 0} (result : Result X Fault) (P : Type 0) → result ≡ Err BrokenUnit → OnOk result P
nothing_broken result P is = subst (λ result. OnOk result P) (sym is) tt

no_damage_broken : {X : Type 0} (result : Result X Fault) → result ≡ Err BrokenUnit → IfErr result (λ fault. fault ≢ Damage)
no_damage_broken {X} result is = subst (λ (result : Result X Fault). IfErr result (λ fault. fault ≢ Damage)) (sym is) (λ e. cc)

module _ (u : ℕ) (file after : ShelfFile) (old new : LibraryState) (call : ReadsAt u file after old new) (truly : IsShownTruly old.shelf old.held (name_at (world_of old.shelf old.held) u)) where
  -- an answer that is known where the pages stand for a file is no damage
  pub never_damage : {X : Type 0} (P : File → X → Type 0) (result : Result X Fault) → (IsTrue (is_broken_file file) → result ≡ Err BrokenUnit)
      → ((rows : File) → Stands (parts_of file) (live_of file old.shelf) rows → IsAnswer result (P rows)) → IfErr result (λ fault. fault ≢ Damage)
  never_damage P result broken answers =
      by_known u file old call.units call.attached call.opened truly (λ holding. IfErr result (λ fault. fault ≢ Damage))
      (λ is holding. no_damage_broken result (broken is)) (λ rows s. (answers rows s.stands).no_damage)

  pub delivers_found : (k : ℕ) (test : Schema → Row → Bool) (area new_area : List ℕ) (result : Result (Option Found) Fault) → (IsTrue (is_broken_file file) → result ≡ Err BrokenUnit)
      → Delivers (parts_of file) (live_of file old.shelf) k (test (schema_behind file)) area new_area result
      → let world = world_of old.shelf old.held in IfOk result (λ found. found ≡ found_at world u k (first_at world u k (test (schema_at world u))))
  delivers_found k test area new_area result broken delivers =
      by_known u file old call.units call.attached call.opened truly
      (λ holding. IfOk result (λ found. found ≡ option_map (found_of (schema_in holding) k (rows_in holding)) (least (schema_in holding) k (test (schema_in holding)) (rows_in holding))))
      (λ is holding. none_broken result _ (broken is)) (λ rows s. (delivers rows s.stands).answered.answer)

  pub delivers_area : (k : ℕ) (test : Schema → Row → Bool) (area new_area : List ℕ) (result : Result (Option Found) Fault) → (IsTrue (is_broken_file file) → result ≡ Err BrokenUnit)
      → Delivers (parts_of file) (live_of file old.shelf) k (test (schema_behind file)) area new_area result
      → let world = world_of old.shelf old.held in OnOk result (new_area ≡ area_after area (first_at world u k (test (schema_at world u))))
  delivers_area k test area new_area result broken delivers =
      by_known u file old call.units call.attached call.opened truly
      (λ holding. OnOk result (new_area ≡ area_after area (least (schema_in holding) k (test (schema_in holding)) (rows_in holding))))
      (λ is holding. nothing_broken result _ (broken is)) (λ rows s. (delivers rows s.stands).area)

  pub delivers_undamaged : (k : ℕ) (test : Row → Bool) (area new_area : List ℕ) (result : Result (Option Found) Fault) → (IsTrue (is_broken_file file) → result ≡ Err BrokenUnit)
      → Delivers (parts_of file) (live_of file old.shelf) k test area new_area result → IfErr result (λ fault. fault ≢ Damage)
  delivers_undamaged k test area new_area result broken delivers =
      never_damage (λ rows found. found ≡ option_map (found_of (schema_behind file) k rows) (least (schema_behind file) k test rows)) result broken (λ rows s. (delivers rows s).answered)

  pub seeks_found : (k : ℕ) (relation : Relation) (operand : List ℕ) (result : Result (Option (ArrayVec ℕ)) Fault) → (IsTrue (is_broken_file file) → result ≡ Err BrokenUnit)
      → Seeks (parts_of file) (live_of file old.shelf) k relation operand result
      → let world = world_of old.shelf old.held in IfOk result (λ found. found ≡ key_of_row_at world u k (row_sought world u k relation operand))
  seeks_found k relation operand result broken seeks =
      by_known u file old call.units call.attached call.opened truly
      (λ holding. IfOk result (λ found. found ≡ option_map (key_of_row (schema_in holding) k) (least (schema_in holding) k (satisfies (schema_in holding) k relation operand) (rows_in holding))))
      (λ is holding. none_broken result _ (broken is)) (λ rows s. (seeks rows s.stands).answer)

  pub highest_found : (result : Result (Option (ArrayVec ℕ)) Fault) → (IsTrue (is_broken_file file) → result ≡ Err BrokenUnit)
      → ((rows : File) → Stands (parts_of file) (live_of file old.shelf) rows → IsAnswer result (λ key. option_map (λ key. key.items) key ≡ highest_of (schema_behind file) rows.rows))
      → IfOk result (λ found. option_map (λ key. key.items) found ≡ highest_at (world_of old.shelf old.held) u)
  highest_found result broken highest =
      by_known u file old call.units call.attached call.opened truly
      (λ holding. IfOk result (λ found. option_map (λ key. key.items) found ≡ highest_of (schema_in holding) (rows_in holding).rows))
      (λ is holding. none_broken result _ (broken is)) (λ rows s. (highest rows s.stands).answer)

  pub seeks_undamaged : (k : ℕ) (relation : Relation) (operand : List ℕ) (result : Result (Option (ArrayVec ℕ)) Fault) → (IsTrue (is_broken_file file) → result ≡ Err BrokenUnit)
      → Seeks (parts_of file) (live_of file old.shelf) k relation operand result → IfErr result (λ fault. fault ≢ Damage)
  seeks_undamaged k relation operand result broken seeks =
      never_damage (λ rows key. key ≡ option_map (key_of_row (schema_behind file) k) (least (schema_behind file) k (satisfies (schema_behind file) k relation operand) rows)) result broken seeks

  pub highest_undamaged : (result : Result (Option (ArrayVec ℕ)) Fault) → (IsTrue (is_broken_file file) → result ≡ Err BrokenUnit)
      → ((rows : File) → Stands (parts_of file) (live_of file old.shelf) rows → IsAnswer result (λ key. option_map (λ key. key.items) key ≡ highest_of (schema_behind file) rows.rows))
      → IfErr result (λ fault. fault ≢ Damage)
  highest_undamaged result broken highest = never_damage (λ rows key. option_map (λ key. key.items) key ≡ highest_of (schema_behind file) rows.rows) result broken highest

-- a call that looks for the first record that passes a test, and reads it into the area
module _ {S : Type 0} (state : S → LibraryState) (a b : S) (u : ℕ) (file after : ShelfFile)
    (call : ReadsAt u file after (state a) (state b)) where
  pub finds_row : (k : ℕ) (test : Schema → Row → Bool) (area new_area : List ℕ) (result : Result (Option Found) Fault)
      → FindsFirst (state b).shelf.is_honest (parts_of file) (live_of file (state a).shelf) k (test (schema_behind file))
      area new_area result
      → ReadsOnShelf (most_to_read (room_in file) k) (on_shelf file (state a).shelf (state a).faults)
      (on_shelf after (state b).shelf (state b).faults) result
      → let world = world_of (state a).shelf (state a).held in
      FindsRow (shown_by state) u k (first_at world u k (test (schema_at world u))) area new_area a b result
  finds_row k test area new_area result finds reads = record {
    found = λ honest truly. delivers_found _ _ _ _ _ call truly k test area new_area result reads.broken (finds.found honest);
    area = λ honest truly. delivers_area _ _ _ _ _ call truly k test area new_area result reads.broken (finds.found honest);
    none = finds.none;
    err = finds.kept;
    reads = reads_unit state a b u file after call (λ one. most_to_read (room_of_held one) k) result reads.asked reads.broken reads.cause
        (λ honest truly. delivers_undamaged _ _ _ _ _ call truly k (test (schema_behind file)) area new_area result reads.broken
        (finds.found honest));
  }
