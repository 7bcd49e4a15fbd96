-- What a call that changes the open file of a unit promises of the library.
use Rattle.std.proofs.Common.{◌≡◌, ℕ, ◌+◌, ◌≤◌, Bool, true, not, Result, Ok, Err, IsTrue, IsFalse, OnOk, refl, sym, subst, ◌∙◌}
use Rattle.indexed_file.specs.Room.{most_to_change}
use Rattle.indexed_file.specs.Images.{trace_if, trace_of_change}
use Rattle.indexed_file.specs.Calls.{is_unmade}
use Rattle.indexed_file.specs.Believed.{Believed}
use Rattle.indexed_file.specs.UnitCalls.{GivesUp, ChangesUnit}
use Rattle.indexed_file.specs.FileChange.{has_room_for, LacksRoomFor}
use Rattle.shelf_library.proofs.Terms.{Fault, BrokenUnit as BrokenFile, Damage, Device, Full, Memory, Schema, either, Keeps, SamePages}
use Rattle.shelf_library.proofs.Terms.{FileChange, ImagesGo, Trace, unfinished, World, file_at, holding_at, is_broken, name_at, schema_at}
use Rattle.shelf_library.proofs.Terms.{times_asked, pages_behind, schema_behind, ShelfFile, ChangesFile, MovesAt, shown_by, IsTrulyHeld}
use Rattle.shelf_library.proofs.Terms.{LibraryState, held_at, pages_asked_of, room_of_held, world_of, Held, Opened}
use Rattle.shelf_library.proofs.AsideLemmas.{only_here}
use Rattle.shelf_library.proofs.UnitLemmas.{keeps_at, others_at}
use Rattle.shelf_library.proofs.ReadsLemmas.{reads_images, reads_pages}
use Rattle.shelf_library.proofs.MovingLemmas.{changes_at, reads_at, goes_unfinished}
use Rattle.shelf_library.proofs.ChangingLemmas.{broken_now, schema_before, schema_now, open_now, held_now, broken_told, truly_after, fault_after, answers, done_at_ok, told_at_ok, told_at_full, takes_at_full, rests_at_full}

module _
    {S X : Type 0} (state : S → LibraryState) (a b : S) (u : ℕ) (file after : ShelfFile) (call : MovesAt u file after (state a) (state b))
    (change_of : Schema → FileChange X) where
  abbrev old : LibraryState
  old = state a

  abbrev new : LibraryState
  new = state b

  abbrev is_made : X → Bool
  is_made = (change_of (schema_behind file)).is_made

  abbrev Change : Result X Fault → Type 0
  Change result = ChangesFile change_of file after old new result

  abbrev Images : Trace → Type 0
  Images trace = ImagesGo (shown_by state).moments (name_at (world_of old.shelf old.held) u) trace a b

  begun : IsTrue new.shelf.is_honest → Images unfinished
  begun = goes_unfinished state u file after a b call

  -- a change that was asked for has begun, and else nothing was written
  pub images_after : (result : Result X Fault) → Change result → IsTrue new.shelf.is_honest → Images (trace_of_change is_made result)
  images_after (Ok x) change honest =
      either (is_made x) (Images (trace_if (is_made x)))
      (λ is. rw is (begun honest))
      (λ none. rw none (reads_images state a b u file after (reads_at u file after old new call (change.changes.unmade none)) honest))
  images_after (Err Device) change honest = begun honest
  images_after (Err Memory) change honest = begun honest
  images_after (Err Full) change honest = reads_images state a b u file after (reads_at u file after old new call (change.changes.full refl)) honest
  images_after (Err Damage) change honest = begun honest
  images_after (Err BrokenFile) change honest =
      reads_images state a b u file after (reads_at u file after old new call (change.breaks.broken (change.breaks.cause.broken refl)).1) honest

  -- where nothing was made the pages are as they were
  pub unmade_after : (result : Result X Fault) → Change result → IsTrue (is_unmade is_made result) → SamePages (shown_by state) u a b
  unmade_after (Ok x) change none =
      either (is_made x) (SamePages (shown_by state) u a b)
      (λ is. let e : IsTrue (not true) = subst (λ (made : Bool). IsTrue (not made)) is none in absurd (cc))
      (λ rests. reads_pages state a b u file after (reads_at u file after old new call (change.changes.unmade rests)))
  unmade_after (Err Device) change none = absurd (cc)
  unmade_after (Err Memory) change none = absurd (cc)
  unmade_after (Err Full) change none = reads_pages state a b u file after (reads_at u file after old new call (change.changes.full refl))
  unmade_after (Err Damage) change none = absurd (cc)
  unmade_after (Err BrokenFile) change none = reads_pages state a b u file after (reads_at u file after old new call (change.breaks.broken (change.breaks.cause.broken refl)).1)

  unbroken_after : (result : Result X Fault) → Change result → OnOk result (IsFalse (is_broken (holding_at (world_of new.shelf new.held) u)))
  unbroken_after (Ok x) change = broken_now u file after old new call ∙ change.breaks.unbroken
  unbroken_after (Err fault) change = tt

  keeps_after : (result : Result X Fault) → Change result → Keeps (shown_by state) a b
  keeps_after result change =
      keeps_at state u (Opened after) a b call.units (changes_at u file after old new call) call.limit call.frames call.moves.faults
      (λ honest truly. truly_after u file after old new call change_of result change honest
      (subst (λ (one : Held). IsTrulyHeld u one old.shelf) call.opened truly))

  abbrev before : World
  before = world_of old.shelf old.held

  abbrev shown_change : FileChange X
  shown_change = change_of (schema_at before u)

  -- what is so of the schema of the file is so of that which is shown
  as_shown : (P : Schema → Type 0) → P (schema_behind file) → P (schema_at before u)
  as_shown P = subst P (sym (schema_before u file after old new call))

  room_after : (result : Result X Fault) → Change result → Believed (shown_by state) u a b
      (OnOk result (IsTrue (has_room_for (room_of_held (held_at old.held u)) shown_change (file_at before u))))
  room_after result change = λ honest shown.
      told_at_ok u file after old new call change_of (λ schema room rows. IsTrue (has_room_for room (change_of schema) rows)) result change shown
      (λ rows stands. change.changes.room honest rows stands.stands)

  full_after : (result : Result X Fault) → Change result → result ≡ Err Full
      → GivesUp (shown_by state) u a b (LacksRoomFor (room_of_held (held_at old.held u)) shown_change (file_at before u))
  full_after result change full = (
    rests_at_full u file after old new call change_of result change full,
    λ honest shown.
        told_at_full u file after old new call change_of (λ schema room rows. LacksRoomFor room (change_of schema) rows) result change full shown
        (λ rows stands. change.changes.lacks full honest rows stands.stands),
  )

  pub changes_unit : (result : Result X Fault) → Change result → ChangesUnit (shown_by state) u shown_change a b result
  changes_unit result change = record {
    answer = answers u file after old new call change_of result change;
    done = done_at_ok u file after old new call change_of result change;
    room = room_after result change;
    full = λ full. (takes_at_full u file after old new call change_of result change full, full_after result change full);
    asked = λ honest shown answered.
        subst (λ (one : Held). pages_asked_of (held_at new.held u) ≤ pages_asked_of one + most_to_change (room_of_held one)) (sym call.opened)
        (subst (λ (one : Held). pages_asked_of one ≤ pages_asked_of (Opened file) + most_to_change (room_of_held (Opened file))) (sym (held_now u file after old new call)) change.changes.keeps.asked);
    counted =
        subst (λ (one : Held). pages_asked_of one ≤ pages_asked_of (held_at new.held u)) (sym call.opened)
        (subst (λ (one : Held). times_asked (pages_behind file) ≤ pages_asked_of one) (sym (held_now u file after old new call)) call.moves.asked);
    broken = broken_told u file after old new call change_of result change;
    fault = fault_after u file after old new call change_of result change;
    unbroken = unbroken_after result change;
    only = only_here u (Opened after) old.shelf new.shelf old.held new.held call.units (changes_at u file after old new call);
    opened = open_now u file after old new call;
    schema = schema_now u file after old new call ∙ change.changes.keeps.schema ∙ sym (schema_before u file after old new call);
    unmade = as_shown (λ schema. IsTrue (is_unmade (change_of schema).is_made result) → SamePages (shown_by state) u a b) (unmade_after result change);
    images = λ honest shown. as_shown (λ schema. Images (trace_of_change (change_of schema).is_made result)) (images_after result change honest);
    others = others_at state u (Opened after) a b call.units (changes_at u file after old new call);
    keeps = keeps_after result change;
  }
