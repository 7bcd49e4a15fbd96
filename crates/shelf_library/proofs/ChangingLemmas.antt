-- What a call that changes the open file of a unit leaves of it.
use Rattle.std.proofs.Common.{◌≡◌, ◌≢◌, ◌⊎◌, inl, inr, ℕ, Bool, true, false, Result, Ok, Err, IsTrue, IsFalse, IfErr, IfOk, OnOk, ◌<◌, length, refl, sym, ap, subst, ◌∙◌}
use Rattle.std.specs.Prelude.{if◌then◌else◌}
use Rattle.indexed_file.specs.UnitAnswers.{world_changed}
use Rattle.indexed_file.specs.Calls.{LeavesBroken}
use Rattle.shelf_library.proofs.Terms.{Fault, BrokenUnit as BrokenFile, Damage, Device, Full, Memory, Schema, either, MayFail, ReadsWorld}
use Rattle.shelf_library.proofs.Terms.{File, FileChange, Room, Broken, Holding, Named, HasOpened, Unsound, World, file_at, holding_at}
use Rattle.shelf_library.proofs.Terms.{is_broken, is_open, name_at, named_at, schema_at, with_unit, unit_file, is_begun, reads_as, named_of}
use Rattle.shelf_library.proofs.Terms.{StandsFor, file_read_off, is_broken_file, live_of, pages_behind, parts_of, room_in, schema_behind}
use Rattle.shelf_library.proofs.Terms.{ShelfFile, ChangesFile, MovesAt, AreUnits, ChangesAt, IsTrulyHeld, LibraryState, held_at}
use Rattle.shelf_library.proofs.Terms.{IsShownTruly, IsTrulyOpen, room_of_held, world_of, Opened}
use Rattle.shelf_library.proofs.WorldLemmas.{same_open}
use Rattle.shelf_library.proofs.AsideLemmas.{only_here, named_before, named_after, attached_after, held_here, are_after}
use Rattle.shelf_library.proofs.ReadingLemmas.{truly_held}
use Rattle.shelf_library.proofs.ReadsLemmas.{reads_world}
use Rattle.shelf_library.proofs.FaultLemmas.{may_fail}
use Rattle.shelf_library.proofs.MovingLemmas.{changes_at, fits, reads_at, same_or_unsound, unsound_after, closed_truly}
use Rattle.shelf_library.proofs.KnownLemmas.{known}
use Rattle.shelf_library.proofs.ShownLemmas.{holding_shown, schema_shown, open_shown, broken_shown, told}

module _ (u : ℕ) (file after : ShelfFile) (old new : LibraryState) (call : MovesAt u file after old new) where
  abbrev pub before : World
  before = world_of old.shelf old.held

  abbrev pub now : World
  now = world_of new.shelf new.held

  at : ChangesAt u (Opened after) old.shelf new.shelf old.held new.held
  at = changes_at u file after old new call

  -- the library after the call
  pub units_after : AreUnits new.shelf new.held
  units_after = are_after u (Opened after) old.shelf new.shelf old.held new.held call.units at (fits u file after old new call)

  within_after : u < length new.held
  within_after = attached_after u (Opened after) old.shelf new.shelf old.held new.held call.units at

  pub held_now : held_at new.held u ≡ Opened after
  held_now = held_here u (Opened after) old.shelf new.shelf old.held new.held call.units at

  pub broken_before : is_broken (holding_at before u) ≡ is_broken_file file
  broken_before = broken_shown u file old call.units call.attached call.opened

  pub schema_before : schema_at before u ≡ schema_behind file
  schema_before = schema_shown u file old call.units call.attached call.opened

  pub broken_now : is_broken (holding_at now u) ≡ is_broken_file after
  broken_now = broken_shown u after new units_after within_after held_now

  pub schema_now : schema_at now u ≡ schema_behind after
  schema_now = schema_shown u after new units_after within_after held_now

  pub open_now : is_open (holding_at now u) ≡ true
  open_now = open_shown u after new units_after within_after held_now

  -- a change that failed
  leaves_broken : IsTrue (is_broken_file after) → schema_behind after ≡ schema_behind file → LeavesBroken u new.shelf.is_honest before now
  leaves_broken broken schema = record {
    holding = holding_shown u after new units_after within_after held_now
        ∙ ap (λ (b : Bool). if b then Broken (schema_behind after) else HasOpened (schema_behind after) (file_read_off after new.shelf)) broken
        ∙ ap Broken (schema ∙ sym schema_before);
    named = λ honest. kept (same_or_unsound u file after old new call honest);
  }
    where
      named_was : named_at before u ≡ named_of (unit_file old.shelf u).seen
      named_was = named_before u (Opened after) old.shelf new.shelf old.held new.held call.units at

      named_is : named_at now u ≡ named_of (unit_file new.shelf u).seen
      named_is = named_after u (Opened after) old.shelf new.shelf old.held new.held call.units at

      kept : (named_of (unit_file new.shelf u).seen ≡ named_of (unit_file old.shelf u).seen) ⊎ (named_of (unit_file new.shelf u).seen ≡ Unsound)
          → (named_at now u ≡ named_at before u) ⊎ (named_at now u ≡ Unsound)
      kept (inl same) = inl (named_is ∙ same ∙ sym named_was)
      kept (inr unsound) = inr (named_is ∙ unsound)

  -- a change that was made
  pub world_made : IsTrue new.shelf.is_honest → is_begun (pages_behind after) ≡ true → IsFalse (is_broken_file after) → schema_behind after ≡ schema_behind file → (rows : File)
      → StandsFor after new.shelf rows → now ≡ with_unit before u Unsound (HasOpened (schema_at before u) rows)
  world_made honest begun works schema rows stands =
      let named : named_at now u ≡ Unsound = named_after u (Opened after) old.shelf new.shelf old.held new.held call.units at ∙ unsound_after u file after old new call honest begun in
      let holding : holding_at now u ≡ HasOpened (schema_at before u) rows =
      holding_shown u after new units_after within_after held_now
      ∙ ap (λ (b : Bool). if b then Broken (schema_behind after) else HasOpened (schema_behind after) (file_read_off after new.shelf)) works
      ∙ ap (λ (s : Schema). HasOpened s (file_read_off after new.shelf)) (schema ∙ sym schema_before)
      ∙ ap (λ (f : File). HasOpened (schema_at before u) f) (reads_as (parts_of after) (live_of after new.shelf) rows stands.stands) in
      only_here u (Opened after) old.shelf new.shelf old.held new.held call.units at
      ∙ ap (λ (n : Named). with_unit before u n (holding_at now u)) named
      ∙ ap (λ (h : Holding). with_unit before u Unsound h) holding

  module _ {X : Type 0} (change_of : Schema → FileChange X) where
    abbrev pub is_made : X → Bool
    is_made = (change_of (schema_behind file)).is_made

    abbrev pub Change : Result X Fault → Type 0
    Change result = ChangesFile change_of file after old new result

    -- a file that was broken answers so
    pub broken_told : (result : Result X Fault) → Change result → IsTrue (is_broken (holding_at before u)) → result ≡ Err BrokenFile
    broken_told result change broken = (change.breaks.broken (sym broken_before ∙ broken)).0

    unbroken_at_ok : (x : X) → Change (Ok x) → IsFalse (is_broken_file file)
    unbroken_at_ok x change =
        either (is_broken_file file) (IsFalse (is_broken_file file)) (λ is. let told = (change.breaks.broken is).0 in absurd (cc)) (λ works. works)

    -- what is shown of the unit is true where it was
    made_truly : (x : X) → Change (Ok x) → is_made x ≡ true → IsTrue new.shelf.is_honest → IsTrulyHeld u (Opened file) old.shelf → IsTrulyHeld u (Opened after) new.shelf
    made_truly x change is honest truly = record {
      closed = closed_truly u file after old new call honest truly.closed;
      opened = λ held same unbroken.
          let was = truly.opened file refl (unbroken_at_ok x change) in
          let has = (change.changes.done honest was.stands.sound was.rows was.stands.stands).answer in
          subst (λ (h : ShelfFile). IsTrulyOpen new.shelf h (unit_file new.shelf u)) (same_open after held same) (record {
            rows = (change_of (schema_behind file)).leaves was.rows;
            stands = record { stands = has.stands; sound = has.sound };
            closed = λ unchanged. let begun = change.changes.begun is in absurd (cc);
          });
    }

    broken_truly : IsTrue (is_broken_file after) → IsTrue new.shelf.is_honest → IsTrulyHeld u (Opened file) old.shelf → IsTrulyHeld u (Opened after) new.shelf
    broken_truly broken honest truly = record {
      closed = closed_truly u file after old new call honest truly.closed;
      opened = λ held same unbroken. let is : after ≡ held = same_open after held same in absurd (cc);
    }

    pub truly_after : (result : Result X Fault) → Change result → IsTrue new.shelf.is_honest → IsTrulyHeld u (Opened file) old.shelf → IsTrulyHeld u (Opened after) new.shelf
    truly_after (Ok x) change honest truly =
        either (is_made x) (IsTrulyHeld u (Opened after) new.shelf)
        (λ is. made_truly x change is honest truly)
        (λ none. truly_held u file after old new (reads_at u file after old new call (change.changes.unmade none)) honest truly)
    truly_after (Err Device) change honest truly = broken_truly (change.breaks.breaks (λ e. cc)) honest truly
    truly_after (Err Memory) change honest truly = broken_truly (change.breaks.breaks (λ e. cc)) honest truly
    truly_after (Err Full) change honest truly = truly_held u file after old new (reads_at u file after old new call (change.changes.full refl)) honest truly
    truly_after (Err Damage) change honest truly = broken_truly (change.breaks.breaks (λ e. cc)) honest truly
    truly_after (Err BrokenFile) change honest truly = broken_truly (change.breaks.breaks (λ e. cc)) honest truly

    -- a fault other than Full
    pub fault_after : (result : Result X Fault) → Change result
        → IfErr result (λ fault. fault ≢ Full → LeavesBroken u new.shelf.is_honest before now
        × MayFail false (is_broken (holding_at before u)) new.shelf.is_honest (IsShownTruly old.shelf old.held (name_at before u)) old.faults new.faults fault)
    fault_after (Ok x) change = tt
    fault_after (Err fault) change = λ other. (
      leaves_broken (change.breaks.breaks other) change.changes.keeps.schema,
      subst (λ (b : Bool). MayFail false b new.shelf.is_honest (IsShownTruly old.shelf old.held (name_at before u)) old.faults new.faults fault) (sym broken_before)
          (may_fail (is_broken_file file) new.shelf.is_honest (IsShownTruly old.shelf old.held (name_at before u)) _ old.faults new.faults fault change.breaks.cause
          (λ broken. (change.breaks.broken broken).0) (no_damage fault change) other),
    )
      where
        no_damage : (fault : Fault) → Change (Err fault) → IsTrue new.shelf.is_honest → IsShownTruly old.shelf old.held (name_at before u) → fault ≢ Damage
        no_damage fault change honest shown =
            either (is_broken_file file) (fault ≢ Damage)
            (λ broken. let told : ◌≡◌ {A = Result X Fault} (Err fault) (Err BrokenFile) = (change.breaks.broken broken).0 in λ damage. cc)
            (λ works. let is = known u file old call.units call.attached call.opened shown works in (change.changes.done honest is.stands.sound is.rows is.stands.stands).no_damage)

    -- the answer is that of the file that is shown
    pub answers : (result : Result X Fault) → Change result → IsTrue new.shelf.is_honest → IsShownTruly old.shelf old.held (name_at before u)
        → IfOk result (λ x. x ≡ (change_of (schema_at before u)).answer (file_at before u))
    answers (Ok x) change honest shown =
        told u file old call.units call.attached call.opened (λ schema room rows. x ≡ (change_of schema).answer rows) shown (unbroken_at_ok x change)
        (λ rows stands. (change.changes.done honest stands.sound rows stands.stands).answer.answers)
    answers (Err fault) change honest shown = tt

    -- the world after a change that was made
    pub done_made : (x : X) → Change (Ok x) → is_made x ≡ true → IsTrue new.shelf.is_honest → IsShownTruly old.shelf old.held (name_at before u)
        → now ≡ with_unit before u Unsound (HasOpened (schema_at before u) ((change_of (schema_at before u)).leaves (file_at before u)))
    done_made x change is honest shown =
        told u file old call.units call.attached call.opened (λ schema room rows. now ≡ with_unit before u Unsound (HasOpened (schema_at before u) ((change_of schema).leaves rows))) shown
        (unbroken_at_ok x change)
        (λ rows stands.
        let has = (change.changes.done honest stands.sound rows stands.stands).answer in
        world_made honest (change.changes.begun is) change.breaks.unbroken change.changes.keeps.schema ((change_of (schema_behind file)).leaves rows) (record { stands = has.stands; sound = has.sound }))

    -- the world after an answer
    pub world_after : (x : X) → Change (Ok x) → IsTrue new.shelf.is_honest → IsShownTruly old.shelf old.held (name_at before u) → (b : Bool) → is_made x ≡ b
        → now ≡ (if b then with_unit before u Unsound (HasOpened (schema_at before u) ((change_of (schema_at before u)).leaves (file_at before u))) else before)
    world_after x change honest shown true is = done_made x change is honest shown
    world_after x change honest shown false none = (reads_world (λ library. library) old new u file after (reads_at u file after old new call (change.changes.unmade none))).same honest

    -- whether the answer tells of a change
    made_is : (x : X) → Change (Ok x) → IsTrue new.shelf.is_honest → IsShownTruly old.shelf old.held (name_at before u)
        → is_made x ≡ (change_of (schema_at before u)).is_made ((change_of (schema_at before u)).answer (file_at before u))
    made_is x change honest shown =
        ap (λ (schema : Schema). (change_of schema).is_made x) (sym schema_before)
        ∙ ap (change_of (schema_at before u)).is_made (answers (Ok x) change honest shown)

    pub done_at_ok : (result : Result X Fault) → Change result → IsTrue new.shelf.is_honest → IsShownTruly old.shelf old.held (name_at before u)
        → OnOk result (now ≡ world_changed (change_of (schema_at before u)) before u)
    done_at_ok (Ok x) change honest shown = world_after x change honest shown _ (made_is x change honest shown)
    done_at_ok (Err fault) change honest shown = tt

    -- what is so at an answer, and at Full, of each file that the open one stands for
    pub told_at_ok : (P : Schema → Room → File → Type 0) (result : Result X Fault) → Change result → IsShownTruly old.shelf old.held (name_at before u)
        → ((rows : File) → StandsFor file old.shelf rows → OnOk result (P (schema_behind file) (room_in file) rows))
        → OnOk result (P (schema_at before u) (room_of_held (held_at old.held u)) (file_at before u))
    told_at_ok P (Ok x) change shown is = told u file old call.units call.attached call.opened P shown (unbroken_at_ok x change) is
    told_at_ok P (Err fault) change shown is = tt

    pub told_at_full : (P : Schema → Room → File → Type 0) (result : Result X Fault) → Change result → result ≡ Err Full → IsShownTruly old.shelf old.held (name_at before u)
        → ((rows : File) → StandsFor file old.shelf rows → P (schema_behind file) (room_in file) rows)
        → P (schema_at before u) (room_of_held (held_at old.held u)) (file_at before u)
    told_at_full P result change full shown is =
        told u file old call.units call.attached call.opened P shown
        (either (is_broken_file file) (IsFalse (is_broken_file file)) (λ broken. let answer = (change.breaks.broken broken).0 in absurd (cc)) (λ works. works))
        is

    -- Full is answered only where pages may be taken
    pub takes_at_full : (result : Result X Fault) → Change result → result ≡ Err Full → IsTrue (change_of (schema_at before u)).takes_pages
    takes_at_full (Ok x) change full = absurd (cc)
    takes_at_full (Err fault) change full =
        let is : fault ≡ Full = cc in
        subst (λ (schema : Schema). IsTrue (change_of schema).takes_pages) (sym schema_before) (change.breaks.cause.full is).0

    pub rests_at_full : (result : Result X Fault) → Change result → result ≡ Err Full → ReadsWorld u new.shelf.is_honest before now
    rests_at_full result change full = reads_world (λ library. library) old new u file after (reads_at u file after old new call (change.changes.full full))
