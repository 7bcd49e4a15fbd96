-- What a call that only reads promises of its unit.
use Rattle.std.proofs.Common.{◌≡◌, ◌≢◌, inl, inr, ℕ, ◌+◌, ◌≤◌, ◌<◌, length, Bool, false, List, IsTrue, IfErr, Result, Err, sym, ap, subst, ◌∙◌}
use Rattle.indexed_file.specs.UnitCalls.{ReadsUnit}
use Rattle.page_alloc.specs.Joining.{available_of}
use Rattle.open_file.specs.Stands.{room_of}
use Rattle.shelf_library.specs.Units.{counts_of_pager}
use Rattle.shelf_library.proofs.Terms.{Fault, BrokenUnit, Damage, Keeps, MayFail, ReadsWorld, SamePages, ImagesGo, Stays, untouched}
use Rattle.shelf_library.proofs.Terms.{holding_at, is_broken, name_at, DeviceFile, unit_file, unit_name, FaultsRose, counts_of, times_asked}
use Rattle.shelf_library.proofs.Terms.{IsCausedIn, OpenFile, is_broken_file, pages_behind, parts_of, room_in, ShelfFile, MayReadAs}
use Rattle.shelf_library.proofs.Terms.{shown_by, EachRead, ChangesAt, IsTrulyHeld, GoesOpen, ReadsAt, LibraryState, held_at, IsShownTruly}
use Rattle.shelf_library.proofs.Terms.{counts_of_held, holding_of, pages_asked_of, room_of_held, world_of, Held, Opened}
use Rattle.shelf_library.proofs.AsideLemmas.{held_here, attached_after, name_same, only_here, world_same, images_aside}
use Rattle.shelf_library.proofs.RefusedLemmas.{quiet_reads, open_reads}
use Rattle.shelf_library.proofs.ReadingLemmas.{reads_units, changes_at, was_honest, still_or_open, same_named, same_holding, same_schema}
use Rattle.shelf_library.proofs.ReadingLemmas.{same_broken, truly_held}
use Rattle.shelf_library.proofs.FaultLemmas.{faults_are}
use Rattle.shelf_library.proofs.ShownLemmas.{schema_shown, open_shown, broken_shown}
use Rattle.shelf_library.proofs.UnitLemmas.{keeps_at, images_at, others_at}

module _ {S : Type 0} (state : S → LibraryState) (a b : S) (u : ℕ) (file after : ShelfFile) (call : ReadsAt u file after (state a) (state b)) where
  abbrev old : LibraryState
  old = state a

  abbrev new : LibraryState
  new = state b

  at : ChangesAt u (Opened after) old.shelf new.shelf old.held new.held
  at = changes_at u file after old new call

  -- ---- the images

  -- a file that went on behind an open gate
  open_stays : GoesOpen (unit_file old.shelf u) (unit_file new.shelf u) → IsTrue new.shelf.is_honest → Stays (shown_by state).moments a b (unit_name old.shelf u)
  open_stays goes honest =
      let f = unit_file old.shelf u in
      let g = unit_file new.shelf u in
      let name : unit_name new.shelf u ≡ unit_name old.shelf u = name_same u (Opened after) old.shelf new.shelf old.held new.held call.units at in
      let is_g : g ≡ new.shelf.file (unit_name old.shelf u) = ap new.shelf.file name in
      record {
        within = λ real. subst (λ (bytes : DeviceFile). EachRead (MayReadAs f f) f bytes) is_g
            (quiet_reads f g (call.image_before (was_honest u file after old new call honest)) goes.before goes.quiet);
        back = λ real. subst (λ (bytes : DeviceFile). EachRead (MayReadAs bytes bytes) f f) is_g (open_reads f g (call.image_after honest) goes.before goes.after);
      }

  stays : IsTrue new.shelf.is_honest → Stays (shown_by state).moments a b (unit_name old.shelf u)
  stays honest = elim (still_or_open u file after old new call honest) [
    | inl still ↦ images_aside state a b (unit_name old.shelf u) (ap (λ (files : List ℕ → DeviceFile). files (unit_name old.shelf u)) still)
    | inr goes ↦ open_stays goes honest
  ]

  pub reads_images : IsTrue new.shelf.is_honest → ImagesGo (shown_by state).moments (name_at (world_of old.shelf old.held) u) untouched a b
  reads_images honest = images_at state u (Opened after) a b call.units at untouched (stays honest) tt

  -- ---- the world

  now_held : held_at new.held u ≡ Opened after
  now_held = held_here u (Opened after) old.shelf new.shelf old.held new.held call.units at

  within : u < length new.held
  within = attached_after u (Opened after) old.shelf new.shelf old.held new.held call.units at

  -- the unit is broken where its file is
  broken_is : is_broken (holding_at (world_of old.shelf old.held) u) ≡ is_broken_file file
  broken_is = broken_shown u file old call.units call.attached call.opened

  pub reads_world : ReadsWorld u new.shelf.is_honest (world_of old.shelf old.held) (world_of new.shelf new.held)
  reads_world =
      let units = reads_units u file after old new call in
      record {
        only = only_here u (Opened after) old.shelf new.shelf old.held new.held call.units at;
        state = record {
          opened = open_shown u after new units within now_held ∙ sym (open_shown u file old call.units call.attached call.opened);
          broken = broken_shown u after new units within now_held ∙ same_broken u file after old new call ∙ sym broken_is;
        };
        schema = schema_shown u after new units within now_held ∙ same_schema u file after old new call
            ∙ sym (schema_shown u file old call.units call.attached call.opened);
        same = λ honest. world_same u (Opened after) old.shelf new.shelf old.held new.held call.units at
            (same_holding u file after old new call honest ∙ sym (ap (holding_of old.shelf) call.opened))
            (same_named u file after old new call honest);
      }

  same_room : room_in after ≡ room_in file
  same_room =
      ap (λ (parts : OpenFile). room_of parts (available_of (counts_of (pages_behind after)))) call.reads.file ∙ ap (room_of (parts_of file)) call.reads.pages.rests.available

  pub reads_room : room_of_held (held_at new.held u) ≡ room_of_held (held_at old.held u)
  reads_room = ap room_of_held now_held ∙ same_room ∙ sym (ap room_of_held call.opened)

  reads_counts : counts_of_held (unit_file new.shelf u).seen (held_at new.held u) ≡ counts_of_held (unit_file old.shelf u).seen (held_at old.held u)
  reads_counts =
      ap (counts_of_held (unit_file new.shelf u).seen) now_held ∙ ap counts_of_pager call.reads.pages.pager ∙ sym (ap (counts_of_held (unit_file old.shelf u).seen) call.opened)

  pub reads_pages : SamePages (shown_by state) u a b
  reads_pages = record { room = reads_room; counts = reads_counts }

  -- ---- what every call keeps

  pub reads_keeps : Keeps (shown_by state) a b
  reads_keeps =
      keeps_at state u (Opened after) a b call.units at call.limit call.frames call.reads.pages.goes.parts.faults (λ honest truly.
      truly_held u file after old new call honest (subst (λ (one : Held). IsTrulyHeld u one old.shelf) call.opened truly))

  -- ---- all of it, with the pages that were asked for and with why the file gave up

  pub reads_unit : {X : Type 0} (most : Held → ℕ) (result : Result X Fault) → times_asked (pages_behind after) ≤ times_asked (pages_behind file) + most (Opened file)
      → (IsTrue (is_broken_file file) → result ≡ Err BrokenUnit) → IfErr result (IsCausedIn (is_broken_file file) (FaultsRose old.faults new.faults) ⊥)
      → (IsTrue new.shelf.is_honest → IsShownTruly old.shelf old.held (name_at (world_of old.shelf old.held) u) → IfErr result (λ fault. fault ≢ Damage))
      → ReadsUnit (shown_by state) u (most (held_at old.held u)) a b result
  reads_unit most result asks broken cause no_damage = record {
    asked = λ honest truly answered. asked;
    counted = counted;
    world = reads_world;
    pages = reads_pages;
    broken = λ is. broken (sym broken_is ∙ is);
    fault = subst (λ (fails : Bool). IfErr result (MayFail false fails new.shelf.is_honest (IsShownTruly old.shelf old.held (name_at (world_of old.shelf old.held) u)) old.faults new.faults)) (sym broken_is)
        (faults_are (is_broken_file file) new.shelf.is_honest (IsShownTruly old.shelf old.held (name_at (world_of old.shelf old.held) u)) old.faults new.faults result cause broken no_damage);
    images = λ honest truly. reads_images honest;
    others = others_at state u (Opened after) a b call.units at;
    keeps = reads_keeps;
  }
    where
      asked : pages_asked_of (held_at new.held u) ≤ pages_asked_of (held_at old.held u) + most (held_at old.held u)
      asked =
          subst (λ (one : Held). pages_asked_of (held_at new.held u) ≤ pages_asked_of one + most one) (sym call.opened)
          (subst (λ (one : Held). pages_asked_of one ≤ times_asked (pages_behind file) + most (Opened file)) (sym now_held) asks)

      counted : pages_asked_of (held_at old.held u) ≤ pages_asked_of (held_at new.held u)
      counted =
          subst (λ (one : Held). pages_asked_of one ≤ pages_asked_of (held_at new.held u)) (sym call.opened)
          (subst (λ (one : Held). times_asked (pages_behind file) ≤ pages_asked_of one) (sym now_held) call.reads.pages.goes.parts.asked)
