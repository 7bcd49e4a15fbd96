-- What the call that shuts a unit promises.
use Rattle.std.proofs.Common.{◌≡◌, ◌≢◌, ◌⊎◌, inl, inr, ℕ, true, false, Bool, List, [], ◌∷◌, IsTrue, IsFalse, OnOk, IfErr, Result, Ok, Err, refl, sym, ap, subst, ◌∙◌}
use Rattle.std.specs.Prelude.{unwrap_or}
use Rattle.indexed_file.specs.Images.{finishing, finished, trace_of_shut, trace_of_finish}
use Rattle.indexed_file.specs.UnitCalls.{ShutsUnit}
use Rattle.indexed_file.specs.World.{file_in as rows_in}
use Rattle.shelf_library.proofs.Terms.{cases_Bool, Fault, BrokenUnit, Schema, either, MayFail, File, empty_file, ImagesGo, Trace, untouched}
use Rattle.shelf_library.proofs.Terms.{Absent, Broken, Closed, Holding, Named, HasOpened, Unsound, World, file_at, holding_at, is_broken}
use Rattle.shelf_library.proofs.Terms.{name_at, named_at, schema_at, schema_in, throughout_weaker, DeviceFile, Throughout, unit_file}
use Rattle.shelf_library.proofs.Terms.{unit_name, is_begun, reads_as, named_of, ClosedFileOrRefused, Closes, StandsFor, is_broken_file}
use Rattle.shelf_library.proofs.Terms.{live_of, pages_behind, parts_of, schema_behind, ShelfFile, ClosesUnitAt, shown_by, EachRead}
use Rattle.shelf_library.proofs.Terms.{each_read, AreUnits, ChangesAt, LibraryState, IsShownTruly, IsTrulyOpen, world_of, Nothing}
use Rattle.shelf_library.proofs.AsideLemmas.{lies, name_before, are_after, only_here, name_same, holding_after, named_before as named_was, named_after, images_aside}
use Rattle.shelf_library.proofs.ShownLemmas.{holding_shown, broken_shown}
use Rattle.shelf_library.proofs.FaultLemmas.{faults_are}
use Rattle.shelf_library.proofs.OpensLemmas.{nothing_fits, open_holding}
use Rattle.shelf_library.proofs.UnitLemmas.{keeps_at, images_at, others_at}
use Rattle.shelf_library.proofs.ClosingLemmas.{IsLeft, closing_reads, settled_reads, closing_named, on_more, changes, still, was_unsound, closes_here, ends_closed, named_closed, named_before, closes_truly}

if_any : {X : Type 0} (result : Result X Fault) (P : Fault → Type 0) → ((fault : Fault) → P fault) → IfErr result P
if_any (Ok x) P p = tt
if_any (Err fault) P p = p fault

-- ---- the unit's name, in the world

module _ (u : ℕ) (file : ShelfFile) (result : Result (Unit {0}) Fault) (old new : LibraryState) (call : ClosesUnitAt u file result old new) where
  abbrev before : World
  before = world_of old.shelf old.held

  abbrev after : World
  after = world_of new.shelf new.held

  at : ChangesAt u Nothing old.shelf new.shelf old.held new.held
  at = changes u file result old new call

  pub units_after : AreUnits new.shelf new.held
  units_after = are_after u Nothing old.shelf new.shelf old.held new.held call.units at (nothing_fits u new.shelf)

  named_here : named_at after u ≡ named_of (unit_file new.shelf u).seen
  named_here = named_after u Nothing old.shelf new.shelf old.held new.held call.units at

  named_there : named_at before u ≡ named_of (unit_file old.shelf u).seen
  named_there = named_was u Nothing old.shelf new.shelf old.held new.held call.units at

  -- its file is as it was
  named_stays : new.shelf.file ≡ old.shelf.file → named_at after u ≡ named_at before u
  named_stays same = named_here ∙ ap (λ (bytes : DeviceFile). named_of bytes.seen) (still u file result old new call same) ∙ sym named_there

  pub shown_open : IsShownTruly old.shelf old.held (name_at before u) → IsFalse (is_broken_file file) → IsTrulyOpen old.shelf file (unit_file old.shelf u)
  shown_open truly works =
      let shown = subst (λ (name : List ℕ). IsShownTruly old.shelf old.held name) (name_before u Nothing old.shelf new.shelf old.held new.held call.units at) truly in
      shown.opened u file (lies u Nothing old.shelf new.shelf old.held new.held call.units at) refl call.opened works

  -- the unit shows the rows that its file stands for
  holds_rows : IsFalse (is_broken_file file) → (rows : File) → StandsFor file old.shelf rows → holding_at before u ≡ HasOpened (schema_behind file) rows
  holds_rows works rows stands =
      holding_shown u file old call.units call.attached call.opened ∙ open_holding old.shelf file works
      ∙ ap (HasOpened (schema_behind file)) (reads_as (parts_of file) (live_of file old.shelf) rows stands.stands)

  -- the unit's file, closed
  closed_is : (works : IsFalse (is_broken_file file)) (rows : File) → StandsFor file old.shelf rows → Closed (schema_behind file) rows ≡ Closed (schema_at before u) (file_at before u)
  closed_is works rows stands = ap (λ (h : Holding). Closed (schema_in h) (unwrap_or (rows_in h) empty_file)) (sym (holds_rows works rows stands))

  pub shut_ok : IsTrue new.shelf.is_honest → IsShownTruly old.shelf old.held (name_at before u) → OnOk result (named_at after u ≡ Closed (schema_at before u) (file_at before u))
  shut_ok honest truly =
      either (is_broken_file file) (OnOk result (named_at after u ≡ Closed (schema_at before u) (file_at before u)))
      (λ broken. subst (λ (r : Result (Unit {0}) Fault). OnOk r (named_at after u ≡ Closed (schema_at before u) (file_at before u))) (sym (call.close.broken broken)) tt)
      (λ works. let known = shown_open truly works in on_more result _ _ (λ is. named_here ∙ is ∙ closed_is works known.rows known.stands) (named_closed u file result old new call honest works known))

  pub shut_err : IsTrue new.shelf.is_honest → IsShownTruly old.shelf old.held (name_at before u)
      → IfErr result (λ fault. fault ≢ BrokenUnit → (named_at after u ≡ Closed (schema_at before u) (file_at before u)) ⊎ (named_at after u ≡ Unsound))
  shut_err honest truly =
      either (is_broken_file file) (IfErr result (λ fault. fault ≢ BrokenUnit → (named_at after u ≡ Closed (schema_at before u) (file_at before u)) ⊎ (named_at after u ≡ Unsound)))
      (λ broken.
      subst (λ (r : Result (Unit {0}) Fault). IfErr r (λ fault. fault ≢ BrokenUnit → (named_at after u ≡ Closed (schema_at before u) (file_at before u)) ⊎ (named_at after u ≡ Unsound)))
      (sym (call.close.broken broken)) (λ other. absurd (other refl)))
      (λ works. if_any result _ (λ fault other.
      let known = shown_open truly works in
      by truly works (closing_named (unit_file new.shelf u).seen (schema_behind file) known.rows (ends_closed u file result old new call honest works known))))
    where
      by : (truly : IsShownTruly old.shelf old.held (name_at before u)) (works : IsFalse (is_broken_file file))
          → (named_of (unit_file new.shelf u).seen ≡ Closed (schema_behind file) (shown_open truly works).rows) ⊎ (named_of (unit_file new.shelf u).seen ≡ Unsound)
          → (named_at after u ≡ Closed (schema_at before u) (file_at before u)) ⊎ (named_at after u ≡ Unsound)
      by truly works (inl closed) = let known = shown_open truly works in inl (named_here ∙ closed ∙ closed_is works known.rows known.stands)
      by truly works (inr unsound) = inr (named_here ∙ unsound)

  broken_is : is_broken (holding_at before u) ≡ is_broken_file file
  broken_is = broken_shown u file old call.units call.attached call.opened

  pub shut_broken : IsTrue (is_broken (holding_at before u)) → (result ≡ Err BrokenUnit) × (named_at after u ≡ named_at before u)
  shut_broken broken = let is = sym broken_is ∙ broken in (call.close.broken is, named_stays (call.close.nothing is))

  pub shut_unchanged : IsTrue new.shelf.is_honest → named_at before u ≡ Closed (schema_at before u) (file_at before u) → named_at after u ≡ named_at before u
  shut_unchanged honest closed = elim (cases_Bool (is_begun (pages_behind file))) [
    | inl changed ↦
        let clash : Unsound ≡ Closed (schema_at before u) (file_at before u) = sym (was_unsound u file result old new call changed honest) ∙ sym named_there ∙ closed in
        absurd (cc)
    | inr unchanged ↦ named_stays (call.close.unchanged unchanged)
  ]

  -- ---- what a crash may leave

  -- of a broken unit nothing is written
  broken_trace : (named : Named) (schema : Schema) → trace_of_shut named (Broken schema) result ≡ untouched
  broken_trace Absent schema = refl
  broken_trace (Closed s rows) schema = refl
  broken_trace Unsound schema = refl

  pub trace_broken : IsTrue (is_broken_file file) → trace_of_shut (named_at before u) (holding_at before u) result ≡ untouched
  trace_broken broken =
      let holds : holding_at before u ≡ Broken (schema_behind file) = holding_shown u file old call.units call.attached call.opened ∙ rw broken refl in
      ap (λ (h : Holding). trace_of_shut (named_at before u) h result) holds ∙ broken_trace (named_at before u) (schema_behind file)

  -- a file that was not changed is closed
  pub trace_unchanged : IsTrue new.shelf.is_honest → IsShownTruly old.shelf old.held (name_at before u) → IsFalse (is_broken_file file) → is_begun (pages_behind file) ≡ false
      → trace_of_shut (named_at before u) (holding_at before u) result ≡ untouched
  trace_unchanged honest truly works unchanged =
      let known = shown_open truly works in
      ap (λ (n : Named). trace_of_shut n (holding_at before u) result) (named_there ∙ named_before u file result old new call honest works known unchanged)

  pub trace_changed : IsTrue new.shelf.is_honest → (truly : IsShownTruly old.shelf old.held (name_at before u)) (works : IsFalse (is_broken_file file)) → is_begun (pages_behind file) ≡ true
      → trace_of_shut (named_at before u) (holding_at before u) result ≡ trace_of_finish (Closed (schema_behind file) (shown_open truly works).rows) result
  trace_changed honest truly works changed =
      let known = shown_open truly works in
      let named : named_at before u ≡ Unsound = named_there ∙ was_unsound u file result old new call changed honest in
      let holds = holds_rows works known.rows known.stands in
      λ i. trace_of_shut (named i) (holds i) result

  -- the file of the name that the unit has
  pub file_is : unit_file new.shelf u ≡ new.shelf.file (unit_name old.shelf u)
  file_is = ap new.shelf.file (name_same u Nothing old.shelf new.shelf old.held new.held call.units at)

-- ---- what the call promises

module _ {S : Type 0} (state : S → LibraryState) (u : ℕ) (file : ShelfFile) (result : Result (Unit {0}) Fault) (old new : S) (call : ClosesUnitAt u file result (state old) (state new)) where
  changed_at : ChangesAt u Nothing (state old).shelf (state new).shelf (state old).held (state new).held
  changed_at = changes u file result (state old) (state new) call

  abbrev name : List ℕ
  name = name_at (world_of (state old).shelf (state old).held) u

  go_untouched : (state new).shelf.file ≡ (state old).shelf.file → ImagesGo (shown_by state).moments name untouched old new
  go_untouched same =
      images_at state u Nothing old new call.units changed_at untouched
      (images_aside state old new (unit_name (state old).shelf u) (ap (λ (f : List ℕ → DeviceFile). f (unit_name (state old).shelf u)) same)) tt

  -- the gate is closed
  go_closed : (rows : File) (r : Result (Unit {0}) Fault) → Closes (schema_behind file) rows (unit_file (state old).shelf u) (unit_file (state new).shelf u) r
      → ImagesGo (shown_by state).moments name (trace_of_finish (Closed (schema_behind file) rows) r) old new
  go_closed rows r closes = go r (subst (λ (bytes : DeviceFile). Closes (schema_behind file) rows (unit_file (state old).shelf u) bytes r) (file_is u file result (state old) (state new) call) closes)
    where
      f : DeviceFile
      f = (state old).shelf.file (unit_name (state old).shelf u)

      h : DeviceFile
      h = (state new).shelf.file (unit_name (state old).shelf u)

      closing : Throughout (ClosedFileOrRefused (schema_behind file) rows) f h → EachRead (IsLeft (Unsound ∷ Closed (schema_behind file) rows ∷ []) f) f h
      closing images =
          each_read (IsLeft (Unsound ∷ Closed (schema_behind file) rows ∷ []) f) f h
          (throughout_weaker (ClosedFileOrRefused (schema_behind file) rows) _ f h (closing_reads f (schema_behind file) rows) images)

      go : (r : Result (Unit {0}) Fault) → Closes (schema_behind file) rows f h r → ImagesGo (shown_by state).moments name (trace_of_finish (Closed (schema_behind file) rows) r) old new
      go (Err fault) closes =
          images_at state u Nothing old new call.units changed_at (finishing (Closed (schema_behind file) rows))
          (λ real. closing closes.images)
          tt
      go (Ok done) closes =
          images_at state u Nothing old new call.units changed_at (finished (Closed (schema_behind file) rows))
          (λ real. closing closes.images)
          (settled_reads h (schema_behind file) rows closes.settled closes.closed)

  images : IsTrue (state new).shelf.is_honest → IsShownTruly (state old).shelf (state old).held name
      → ImagesGo (shown_by state).moments name (trace_of_shut (named_at (world_of (state old).shelf (state old).held) u) (holding_at (world_of (state old).shelf (state old).held) u) result) old new
  images honest truly = elim (cases_Bool (is_broken_file file)) [
    | inl broken ↦
        subst (λ (t : Trace). ImagesGo (shown_by state).moments name t old new) (sym (trace_broken u file result (state old) (state new) call broken)) (go_untouched (call.close.nothing broken))
    | inr works ↦ elim (cases_Bool (is_begun (pages_behind file))) [
      | inl changed ↦
          let known = shown_open u file result (state old) (state new) call truly works in
          subst (λ (t : Trace). ImagesGo (shown_by state).moments name t old new) (sym (trace_changed u file result (state old) (state new) call honest truly works changed))
          (go_closed known.rows result (closes_here u file result (state old) (state new) call honest works known changed))
      | inr unchanged ↦
          subst (λ (t : Trace). ImagesGo (shown_by state).moments name t old new) (sym (trace_unchanged u file result (state old) (state new) call honest truly works unchanged))
          (go_untouched (call.close.unchanged unchanged))
    ]
  ]

  pub shuts_unit : ShutsUnit (shown_by state) u old new result
  shuts_unit = record {
    shut = holding_after u Nothing (state old).shelf (state new).shelf (state old).held (state new).held call.units changed_at;
    only = only_here u Nothing (state old).shelf (state new).shelf (state old).held (state new).held call.units changed_at;
    fault = subst (λ (b : Bool). IfErr result (MayFail false b (state new).shelf.is_honest (IsShownTruly (state old).shelf (state old).held name) (state old).faults (state new).faults))
        (sym (broken_shown u file (state old) call.units call.attached call.opened))
        (faults_are (is_broken_file file) (state new).shelf.is_honest (IsShownTruly (state old).shelf (state old).held name) (state old).faults (state new).faults result
        call.close.cause call.close.broken (λ honest truly. call.close.damage));
    images = images;
    others = others_at state u Nothing old new call.units changed_at;
    keeps = keeps_at state u Nothing old new call.units changed_at call.limit call.frames call.close.count (closes_truly u file result (state old) (state new) call);
  }
