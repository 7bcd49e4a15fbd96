-- A file that was made in the place of what a unit's name stood for.
use Rattle.std.proofs.Common.{◌≡◌, ◌⊎◌, inl, inr, ℕ, true, false, List, IsTrue, IsFalse, IfOk, OnOk, OnErr, Result, Ok, Err, refl, sym, ap, subst, ◌∙◌}
use Rattle.indexed_file.specs.UnitCalls.{IsNew}
use Rattle.shelf_library.specs.FileOpening.{CountedShelf}
use Rattle.shelf_library.specs.Shelves.{IsMade}
use Rattle.shelf_library.proofs.Terms.{Fault, Schema, empty_file, unfinished, OpensUnit, Named, HasOpened, Unsound, holding_at, is_open}
use Rattle.shelf_library.proofs.Terms.{name_at, named_at, schema_at, refused_open, AllOpen, SameOrRefused, WasOrRefused, Throughout}
use Rattle.shelf_library.proofs.Terms.{ShelfState, unit_file, unit_name, IsKeptOrRefused, reads_as, named_of, file_read_off, is_broken_file}
use Rattle.shelf_library.proofs.Terms.{live_of, parts_of, schema_behind, Accepted, Refused, ShelfFile, shown_by, AreUnits, ChangesAt}
use Rattle.shelf_library.proofs.Terms.{FitsItsFile, IsTrulyHeld, MakesAt, LibraryState, held_at, answer_open, held_open, IsShownTruly}
use Rattle.shelf_library.proofs.Terms.{IsTrulyOpen, holding_of, room_of_held, world_of, Opened}
use Rattle.shelf_library.proofs.AsideLemmas.{are_after, name_before, name_same, held_here, holding_after, named_before, named_after, truth_here}
use Rattle.shelf_library.proofs.RefusedLemmas.{refused_look, refused_named}
use Rattle.shelf_library.proofs.FaultLemmas.{faults_of_making}
use Rattle.shelf_library.proofs.MovingLemmas.{was_or_refused, closed_kept, named_kept}
use Rattle.shelf_library.proofs.WorldLemmas.{same_open}
use Rattle.shelf_library.proofs.UnitLemmas.{keeps_at, images_at}
use Rattle.shelf_library.proofs.OpensLemmas.{nothing_fits, open_fits, open_holding, is_opened, opens_unit}

-- ---- the new file

module _ (u limit : ℕ) (schema : Schema) (shelf : ShelfState) (file : ShelfFile) (made : IsMade file u limit schema shelf) where
  -- a crash leaves a file with an open gate
  gate_open : IsTrue shelf.is_honest → AllOpen (unit_file shelf u)
  gate_open honest = subst (λ unit. AllOpen (unit_file shelf unit)) made.unit_is (made.ready.over.gate made.changed honest)

  new_rows : IsTrue shelf.is_honest → file_read_off file shelf ≡ empty_file
  new_rows honest = reads_as (parts_of file) (live_of file shelf) empty_file (made.stands honest).stands

  new_holding : IsTrue shelf.is_honest → holding_of shelf (Opened file) ≡ HasOpened schema empty_file
  new_holding honest = let rows = new_rows honest in open_holding shelf file made.unbroken ∙ (λ i. HasOpened (made.schema_is i) (rows i))

  new_stands : IsTrue shelf.is_honest → IsTrulyOpen shelf file (unit_file shelf u)
  new_stands honest = record { rows = empty_file; stands = made.stands honest; closed = λ unchanged. let clash : true ≡ false = sym made.changed ∙ unchanged in absurd (cc) }

-- ---- the call

module _ (u : ℕ) (schema : Schema) (r : Result ShelfFile Fault) (old new : LibraryState) (call : MakesAt u schema r old new) where
  changes : ChangesAt u (held_open r) old.shelf new.shelf old.held new.held
  changes = record { attached = call.attached; others = call.make.others; holds = call.holds }

  fits : (x : Result ShelfFile Fault) → IfOk x (λ file. IsMade file u new.limit schema new.shelf) → FitsItsFile u (held_open x) new.shelf
  fits (Ok file) made = open_fits u file new.shelf (record { unit_is = made.unit_is; ready = made.ready })
  fits (Err fault) made = nothing_fits u new.shelf

  fine : (x : Result ShelfFile Fault) → IfOk x (λ file. IsMade file u new.limit schema new.shelf) → IfOk x (λ file. IsFalse (is_broken_file file) × (schema_behind file ≡ schema))
  fine (Ok file) made = (made.unbroken, made.schema_is)
  fine (Err fault) made = tt

  unbroken : (x : Result ShelfFile Fault) → IfOk x (λ file. IsMade file u new.limit schema new.shelf) → IfOk x (λ file. IsFalse (is_broken_file file))
  unbroken (Ok file) made = made.unbroken
  unbroken (Err fault) made = tt

  pub units_after : AreUnits new.shelf new.held
  units_after = are_after u (held_open r) old.shelf new.shelf old.held new.held call.units changes (fits r call.make.made)

  pub make_opened : OnOk (answer_open r) (IsTrue (is_open (holding_at (world_of new.shelf new.held) u)) × (schema_at (world_of new.shelf new.held) u ≡ schema))
  make_opened = is_opened (λ (x : LibraryState). x) u old new r call.units changes schema r refl (fine r call.make.made)

  -- ---- the unit's name

  -- a file that was made has an open gate, and else it is as it was or refused
  same_or_refused : IsTrue new.shelf.is_honest → (x : Result ShelfFile Fault) → IfOk x (λ file. IsMade file u new.limit schema new.shelf)
      → OnErr x (IsKeptOrRefused (unit_file old.shelf u) (unit_file new.shelf u)) → SameOrRefused (unit_file old.shelf u) (unit_file new.shelf u)
  same_or_refused honest (Ok file) made failed =
      let seen = (unit_file new.shelf u).seen in inr (refused_open seen (gate_open u new.limit schema new.shelf file made honest seen (call.image_after honest)))
  same_or_refused honest (Err fault) made failed = one failed
    where
      one : IsKeptOrRefused (unit_file old.shelf u) (unit_file new.shelf u) → SameOrRefused (unit_file old.shelf u) (unit_file new.shelf u)
      one (inl stands) = stands
      one (inr all) = inr (all (unit_file new.shelf u).seen (call.image_after honest))

  failed_now : (x : Result ShelfFile Fault) → IsTrue new.shelf.is_honest → OnErr x (IsTrue new.shelf.is_honest → IsKeptOrRefused (unit_file old.shelf u) (unit_file new.shelf u))
      → OnErr x (IsKeptOrRefused (unit_file old.shelf u) (unit_file new.shelf u))
  failed_now (Ok file) honest failed = tt
  failed_now (Err fault) honest failed = failed honest

  stays_or_refused : IsTrue new.shelf.is_honest → SameOrRefused (unit_file old.shelf u) (unit_file new.shelf u)
  stays_or_refused honest = same_or_refused honest r call.make.made (failed_now r honest call.make.failed)

  either_way : (x : Result ShelfFile Fault) → (P : Type 0) → P → OnErr (answer_open x) P
  either_way (Ok file) P p = tt
  either_way (Err fault) P p = p

  pub make_named : IsTrue new.shelf.is_honest
      → OnErr (answer_open r) ((named_at (world_of new.shelf new.held) u ≡ named_at (world_of old.shelf old.held) u) ⊎ (named_at (world_of new.shelf new.held) u ≡ Unsound))
  make_named honest =
      either_way r _
      (subst (λ (n : Named). (n ≡ named_at (world_of old.shelf old.held) u) ⊎ (n ≡ Unsound)) (sym (named_after u (held_open r) old.shelf new.shelf old.held new.held call.units changes))
      (subst (λ (n : Named). (named_of (unit_file new.shelf u).seen ≡ n) ⊎ (named_of (unit_file new.shelf u).seen ≡ Unsound))
      (sym (named_before u (held_open r) old.shelf new.shelf old.held new.held call.units changes))
      (named_kept (unit_file old.shelf u) (unit_file new.shelf u) (stays_or_refused honest))))

  truly : (x : Result ShelfFile Fault) → IfOk x (λ file. IsMade file u new.limit schema new.shelf) → IsTrue new.shelf.is_honest → IsTrulyHeld u (held_at old.held u) old.shelf
      → IsTrulyHeld u (held_open x) new.shelf
  truly (Ok file) made honest was = record {
    closed = closed_kept (unit_file old.shelf u) (unit_file new.shelf u) (stays_or_refused honest) was.closed;
    opened = λ other is works. subst (λ (f : ShelfFile). IsTrulyOpen new.shelf f (unit_file new.shelf u)) (same_open file other is) (new_stands u new.limit schema new.shelf file made honest);
  }
  truly (Err fault) made honest was = record {
    closed = closed_kept (unit_file old.shelf u) (unit_file new.shelf u) (stays_or_refused honest) was.closed;
    opened = λ other is. absurd (cc);
  }

  -- at each moment a crash leaves what it could leave before, or a refused file
  pub passed : IsTrue new.shelf.is_honest → Throughout (WasOrRefused (old.shelf.file (unit_name old.shelf u))) (old.shelf.file (unit_name old.shelf u)) (new.shelf.file (unit_name old.shelf u))
  passed honest =
      subst (λ (name : List ℕ). Throughout (WasOrRefused (unit_file old.shelf u)) (unit_file old.shelf u) (new.shelf.file name))
      (name_same u (held_open r) old.shelf new.shelf old.held new.held call.units changes) (call.make.images honest)

-- ---- what the call promises

module _ {S : Type 0} (state : S → LibraryState) (u : ℕ) (schema : Schema) (r : Result ShelfFile Fault) (old new : S) (call : MakesAt u schema r (state old) (state new)) where
  at : ChangesAt u (held_open r) (state old).shelf (state new).shelf (state old).held (state new).held
  at = changes u schema r (state old) (state new) call

  pub make_opens : (answer : Result (Unit {0}) Fault) → answer ≡ answer_open r → OpensUnit (shown_by state) u unfinished old new answer
  make_opens answer is =
      subst (λ (x : Result (Unit {0}) Fault). OpensUnit (shown_by state) u unfinished old new x) (sym is)
      (opens_unit state u old new r call.units at unfinished
      (unbroken u schema r (state old) (state new) call r call.make.made)
      (faults_of_making (state new).shelf.is_honest (IsShownTruly (state old).shelf (state old).held (name_at (world_of (state old).shelf (state old).held) u)) (state old).faults (state new).faults r
      call.make.cause call.make.damage)
      call.make.damage
      (λ lacked. let same = call.make.memory lacked in (ap (λ (s : CountedShelf). s.shelf) same, ap (λ (s : CountedShelf). s.faults) same))
      (λ honest shown. images_at state u (held_open r) old new call.units at unfinished
      (λ real. was_or_refused ((state old).shelf.file (unit_name (state old).shelf u)) ((state new).shelf.file (unit_name (state old).shelf u))
      (passed u schema r (state old) (state new) call honest) real)
      tt)
      (keeps_at state u (held_open r) old new call.units at call.limit call.frames call.make.count (truly u schema r (state old) (state new) call r call.make.made)))

  is_new : (x : Result ShelfFile Fault) → x ≡ r → IfOk x (λ file. IsMade file u (state new).limit schema (state new).shelf) → IsTrue (state new).shelf.is_honest
      → OnOk (answer_open x) (IsNew (shown_by state) u schema old new)
  is_new (Err fault) is made honest = tt
  is_new (Ok file) is made honest =
      let open_now = gate_open u (state new).limit schema (state new).shelf file made honest in
      let seen = (unit_file (state new).shelf u).seen in
      let refused = refused_open seen (open_now seen (call.image_after honest)) in
      record {
        named = named_after u (held_open r) (state old).shelf (state new).shelf (state old).held (state new).held call.units at ∙ refused_named seen refused;
        holding = holding_after u (held_open r) (state old).shelf (state new).shelf (state old).held (state new).held call.units at
            ∙ ap (λ x. holding_of (state new).shelf (held_open x)) (sym is) ∙ new_holding u (state new).limit schema (state new).shelf file made honest;
        truly = subst (λ (name : List ℕ). IsShownTruly (state new).shelf (state new).held name)
            (sym (name_before u (held_open r) (state old).shelf (state new).shelf (state old).held (state new).held call.units at))
            (truth_here u (held_open r) (state old).shelf (state new).shelf (state old).held (state new).held call.units at
            (subst (λ x. IsTrulyHeld u (held_open x) (state new).shelf) is (record {
              closed = λ header accepted. absurd (let clash : Refused ≡ Accepted header = sym (refused_look seen refused) ∙ accepted in cc);
              opened = λ other same works.
                  subst (λ (f : ShelfFile). IsTrulyOpen (state new).shelf f (unit_file (state new).shelf u)) (same_open file other same)
                  (new_stands u (state new).limit schema (state new).shelf file made honest);
            })));
        room = ap room_of_held (held_here u (held_open r) (state old).shelf (state new).shelf (state old).held (state new).held call.units at ∙ ap held_open (sym is)) ∙ made.room;
      }

  pub make_made : (answer : Result (Unit {0}) Fault) → answer ≡ answer_open r → IsTrue (state new).shelf.is_honest → OnOk answer (IsNew (shown_by state) u schema old new)
  make_made answer is honest = subst (λ (x : Result (Unit {0}) Fault). OnOk x (IsNew (shown_by state) u schema old new)) (sym is) (is_new r refl call.make.made honest)
