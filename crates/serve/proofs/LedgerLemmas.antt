-- The ledgers of a session go on.
use Rattle.std.proofs.Common.{◌≡◌, ◌≢◌, ◌⊎◌, ℕ, ◌<◌, ◌+◌, ◌||◌, Bool, true, false, List, [], ◌∷◌, ◌++◌, length, replicate, slice_set, slice_index_or, nat_lt, Option, Some, None, Ok, bytes_eq, IsTrue, is_none, inl, inr, zero, suc, refl, sym, ap, subst, ◌∙◌, arith, if◌then◌else◌, length-append, true≢false}
use Rattle.std.specs.List.{list_any}
use Rattle.std.proofs.lemmas.Bool.{cases_eq, ltb-true, ltb-false, and_parts}
use Rattle.std.proofs.lemmas.Cmp.{nat_list_eq_equiv}
use Rattle.std.proofs.lemmas.List.{get_or-set_same, get_or-set_other, length-set}
use Rattle.std.proofs.lemmas.Slice.Eq.{bytes_eq-Decides}
use Rattle.std.proofs.Math.ListN.{get_or-eq_default}
use Rattle.indexed_file.specs.World.{World, FileUnit, Absent, Shut, OnlyAt, unit_at, name_at, named_in}
use Rattle.indexed_file.specs.Calls.{Keeps}
use Rattle.indexed_file.specs.Images.{Trace, untouched, AllStay, Stays, LibraryMayLeave, LeavesOnly, ImagesGo}
use Rattle.indexed_file.specs.Moments.{JoinsStretches, EndsNow}
use Rattle.indexed_file.specs.Shown.{Shown}
use Rattle.indexed_file.proofs.TestLemmas.{either}
use Rattle.indexed_file.specs.Growing.{AddsUnit, LetsFileGo}
use Rattle.verbs.specs.declared.answer.Answer.{Answer}
use Rattle.verbs.specs.Fits.{IsStanding}
use Rattle.verbs.specs.Performed.{IsPerformed, state_in}
use Rattle.verbs.specs.Traces.{trace_of}
use Rattle.verbs.proofs.WorldLemmas.{name_after}
use Rattle.deck_runner.specs.NoFalseFile.{Ledger, during, behind, StandsBy}
use Rattle.deck_runner.proofs.FalseFileLaws.{stands_during, stands_behind}
use Rattle.deck_runner.proofs.FrameLemmas.{unit_elsewhere, as_many_units, standing_elsewhere}
use Rattle.serve.specs.Request.{Described, Performed}
use Rattle.serve.specs.Files.{number_limit, NumberedFile, FileTable, Files, file_of_number, is_named_file, is_free_number, memory_of, files_at_start}
use Rattle.serve.specs.Steps.{PerformsRequest, Describes, GivesUnit, AddsLast, LibraryStays, file_described, with_bytes}
use Rattle.serve.proofs.CallLemmas.{not_named}
use Rattle.serve.proofs.FilesLemmas.{none_some}
use Rattle.serve.proofs.UnitLemmas.{unit_in_front}
use Rattle.serve.specs.Ledgers.{JudgedFiles, none_judged, IsDescribed, WereTrue, AllStand, AllReal, StandsNow}
use Rattle.serve.specs.NoFalseFile.{LedgersStay, LedgersGoOn, trace_for_file, ledgers_during, ledgers_behind}

abbrev no_unit : FileUnit
no_unit = record { name = []; named = Absent; holding = Shut }

abbrev file_or : NumberedFile → Option NumberedFile → NumberedFile
file_or d None = d
file_or d (Some file) = file

some_file : (a b : NumberedFile) → Some a ≡ Some b → a ≡ b
some_file a b same = ap (file_or a) same

-- what is left of a name where the file of this name has left this
abbrev trace_at : List ℕ → Trace → List ℕ → Trace
trace_at file trace name = if bytes_eq file name then trace else untouched

or_true : (b : Bool) → (b || true) ≡ true
or_true true = refl
or_true false = refl

-- ---- the files of a session, as their library shows them

-- what is known of a described file: it is a unit under its name, which was described; and where the library has not lied, and what it showed at
-- the start was true, what its connector keeps is true
pub record IsKept {S : Type 0} (shown : Shown S) (start : S) (judged : JudgedFiles S) (file : NumberedFile) : Type 0 where
  pub attached : file.unit < length (shown.world judged.files.library).units
  pub name : name_at (shown.world judged.files.library) file.unit ≡ file.name
  pub described : IsDescribed judged.names file.name
  pub standing : IsTrue (shown.is_honest judged.files.library) → WereTrue shown start judged.names
      → IsStanding file.held (shown.world judged.files.library) file.unit

-- each described file is known so; two of them are two units; what was shown truly at the start is; and each name stands by its ledger
pub record AllKept {S : Type 0} (shown : Shown S) (start : S) (judged : JudgedFiles S) : Type 0 where
  pub places : length judged.files.table.places ≡ number_limit
  pub each : (number : ℕ) (file : NumberedFile) → file_of_number judged.files.table number ≡ Some file → IsKept shown start judged file
  pub apart : (m n : ℕ) (a b : NumberedFile) → file_of_number judged.files.table m ≡ Some a → file_of_number judged.files.table n ≡ Some b → a.unit ≡ b.unit → m ≡ n
  pub truly : IsTrue (shown.is_honest judged.files.library) → (name : List ℕ) → shown.IsShownTruly start name → shown.IsShownTruly judged.files.library name
  pub stands : StandsNow shown start judged

empty_at : (count number : ℕ) → slice_index_or (replicate {A = Option NumberedFile} count None) number None ≡ None
empty_at zero number = refl
empty_at (suc count) zero = refl
empty_at (suc count) (suc number) = empty_at count number

-- a number that has a file is within the places
pub within_places : (places : List (Option NumberedFile)) (number : ℕ) (file : NumberedFile) → slice_index_or places number None ≡ Some file → number < length places
within_places places number file at =
    either (nat_lt number (length places)) _
    (λ yes. ltb-true number (length places) yes)
    (λ no. absurd (none_some (sym (get_or-eq_default places None (ltb-false number (length places) no)) ∙ at)))

module _ {S : Type 0} (shown : Shown S) (joins : JoinsStretches shown.moments) (ends : EndsNow shown.moments) (start : S) where
  -- ---- a stretch of time

  module _ (old new : S) (file name : List ℕ) (trace : Trace) (ledger : Ledger) (images : ImagesGo shown.moments file trace old new)
      (now : StandsBy shown.moments start name ledger old old) where
    may_here : LibraryMayLeave shown.moments (trace_at file trace name).may old new name
    may_here =
        either (bytes_eq file name) _
        (λ same.
        let is : file ≡ name = (bytes_eq-Decides file name).0 same in
        rw same (subst (λ (n : List ℕ). LibraryMayLeave shown.moments trace.may old new n) is images.may))
        (λ apart. rw apart (images.others name apart))

    only_here : LeavesOnly shown.moments (trace_at file trace name).only new name
    only_here =
        either (bytes_eq file name) _
        (λ same.
        let is : file ≡ name = (bytes_eq-Decides file name).0 same in
        rw same (subst (λ (n : List ℕ). LeavesOnly shown.moments trace.only new n) is images.only))
        (λ apart. rw apart tt)

    in_stretch : StandsBy shown.moments start name (during (trace_at file trace name) ledger) old new
    in_stretch = stands_during shown ends start old new name (trace_at file trace name) ledger may_here now

    behind_stretch : StandsBy shown.moments start name (behind (trace_at file trace name) ledger) new new
    behind_stretch = stands_behind shown ends start old new name (trace_at file trace name).only (during (trace_at file trace name) ledger) only_here in_stretch

  -- ---- a stretch in which no image changes

  module _ (old new : S) (keeps : Keeps shown old new) (images : AllStay shown.moments old new) (names more : List (List ℕ)) (ledger : List ℕ → Ledger)
      (fewer : WereTrue shown start more → WereTrue shown start names)
      (now : AllStand shown start names ledger old old) (since : AllReal shown start names old) where
    quiet_stands : AllStand shown start more ledger old new
    quiet_stands honest were name = stands_during shown ends start old new name untouched (ledger name) (images name) (now (keeps.honest honest) (fewer were) name)

    quiet_now : StandsNow shown start (record { files = files_at_start new; names = more; ledger = ledger })
    quiet_now = record {
      now = λ honest were name. stands_behind shown ends start old new name None (ledger name) tt (quiet_stands honest were name);
      since = λ honest were name was.
          (joins start old new name (since (keeps.honest honest) (fewer were) name was) (quiet_stands honest were name (λ at_start. was)).0).0;
    }

  -- ---- before the first request

  stays_itself : (library : S) (name : List ℕ) → Stays shown.moments library library name
  stays_itself library name = record { within = λ real. (real, λ image is. is); back = λ real. (real, λ image is. is) }

  keeps_itself : (library : S) → Keeps shown library library
  keeps_itself library = record { honest = λ honest. honest; truth = λ honest name truly. truly; count = omega arith; limit = refl; frames = refl }

  pub none_kept : AllKept shown start (none_judged start)
  none_kept = record {
    places = refl;
    each = λ number file at. absurd (none_some (sym (empty_at number_limit number) ∙ at));
    apart = λ m n a b x y same. absurd (none_some (sym (empty_at number_limit m) ∙ x));
    truly = λ honest name truly. truly;
    stands = record {
      now = λ honest were name real. (real refl, λ image is. inl (refl, is));
      since = λ honest were name was. was;
    };
  }

  -- ---- a file performs a statement

  module _ (p : Performed) (old : JudgedFiles S) (new : Files S) (answer : Answer) (kept : AllKept shown start old) (does : PerformsRequest shown p old.files answer new) where
    abbrev file : NumberedFile
    file = does.before

    abbrev library : S
    library = old.files.library

    abbrev trace : Trace
    trace = trace_of p.statement (state_in shown does.before.unit (with_bytes p.bytes (memory_of old.files.library does.before))) answer.status

    abbrev judged_then : JudgedFiles S
    judged_then = record { files = new; names = old.names; ledger = ledgers_behind (trace_for_file shown p old.files.library does.before answer.status) old.ledger }

    had : IsKept shown start old does.before
    had = kept.each p.file does.before does.file

    performed : IsPerformed shown does.before.unit p.statement p.length (with_bytes p.bytes (memory_of old.files.library does.before)) answer (memory_of new.library does.after)
    performed = does.does.performed

    truly_before : IsTrue (shown.is_honest new.library) → WereTrue shown start old.names → shown.IsShownTruly library (name_at (shown.world library) does.before.unit)
    truly_before honest were =
        subst (λ (n : List ℕ). shown.IsShownTruly library n) (sym had.name) (kept.truly (performed.keeps.honest honest) file.name (were file.name had.described))

    goes : IsTrue (shown.is_honest new.library) → WereTrue shown start old.names → ImagesGo shown.moments file.name trace library new.library
    goes honest were =
        subst (λ (n : List ℕ). ImagesGo shown.moments n trace library new.library) had.name
        (performed.images honest (truly_before honest were) (had.standing (performed.keeps.honest honest) were))

    performed_stands : AllStand shown start old.names (ledgers_during (trace_for_file shown p old.files.library does.before answer.status) old.ledger) library new.library
    performed_stands honest were name =
        in_stretch library new.library file.name name trace (old.ledger name) (goes honest were) (kept.stands.now (performed.keeps.honest honest) were name)

    pub performed_goes : LedgersGoOn shown start p answer.status old judged_then
    performed_goes = record { before = does.before; was = does.file; stands = performed_stands; names_are = refl; ledger = refl }

    then_now : StandsNow shown start judged_then
    then_now = record {
      now = λ honest were name.
          behind_stretch library new.library file.name name trace (old.ledger name) (goes honest were) (kept.stands.now (performed.keeps.honest honest) were name);
      since = λ honest were name was.
          (joins start library new.library name (kept.stands.since (performed.keeps.honest honest) were name was) (performed_stands honest were name (λ at_start. was)).0).0;
    }

    below : p.file < length old.files.table.places
    below = within_places old.files.table.places p.file does.before does.file

    after_here : file_of_number new.table p.file ≡ Some does.after
    after_here = ap (λ (places : List (Option NumberedFile)). slice_index_or places p.file None) does.places ∙ get_or-set_same old.files.table.places p.file (Some does.after) None below

    other_there : (n : ℕ) → n ≢ p.file → file_of_number new.table n ≡ file_of_number old.files.table n
    other_there n apart = ap (λ (places : List (Option NumberedFile)). slice_index_or places n None) does.places ∙ get_or-set_other old.files.table.places p.file n (Some does.after) None apart

    abbrev world : World
    world = shown.world old.files.library

    abbrev world_after : World
    world_after = shown.world new.library

    after_kept : IsKept shown start judged_then does.after
    after_kept = record {
      attached = subst (λ (u : ℕ). u < length world_after.units) (sym does.does.unit) performed.fits.attached;
      name = ap (name_at world_after) does.does.unit ∙ name_after file.unit world world_after had.attached performed.only ∙ had.name ∙ sym does.does.name;
      described = subst (λ (n : List ℕ). IsDescribed old.names n) (sym does.does.name) had.described;
      standing = λ honest were.
          subst (λ (u : ℕ). IsStanding does.after.held world_after u) (sym does.does.unit)
          (performed.standing honest (truly_before honest were) (had.standing (performed.keeps.honest honest) were));
    }

    other_kept : (n : ℕ) (other : NumberedFile) → n ≢ p.file → file_of_number old.files.table n ≡ Some other → IsKept shown start judged_then other
    other_kept n other apart is =
        let had_other = kept.each n other is in
        let differ : other.unit ≢ file.unit = λ same. apart (kept.apart n p.file other does.before is does.file same) in
        let stays : unit_at world_after other.unit ≡ unit_at world other.unit = unit_elsewhere world world_after file.unit other.unit performed.only differ in
        record {
          attached = let many = as_many_units world world_after file.unit performed.only in let there = had_other.attached in omega (arith, many, there);
          name = ap (λ (unit : FileUnit). unit.name) stays ∙ had_other.name;
          described = had_other.described;
          standing = λ honest were. standing_elsewhere other.held world world_after other.unit stays (had_other.standing (performed.keeps.honest honest) were);
        }

    each_then : (n : ℕ) (other : NumberedFile) → (n ≡ p.file) ⊎ (n ≢ p.file) → file_of_number new.table n ≡ Some other → IsKept shown start judged_then other
    each_then n other (inl same) is =
        subst (λ (f : NumberedFile). IsKept shown start judged_then f) (some_file does.after other (sym after_here ∙ ap (file_of_number new.table) (sym same) ∙ is)) after_kept
    each_then n other (inr apart) is = other_kept n other apart (sym (other_there n apart) ∙ is)

    -- the file that a number had, which is the same unit
    unit_was : (n : ℕ) (other : NumberedFile) → (n ≡ p.file) ⊎ (n ≢ p.file) → file_of_number new.table n ≡ Some other
        → (was : NumberedFile) × (file_of_number old.files.table n ≡ Some was) × (was.unit ≡ other.unit)
    unit_was n other (inl same) is = (
      does.before,
      ap (file_of_number old.files.table) same ∙ does.file,
      sym does.does.unit ∙ ap (λ (f : NumberedFile). f.unit) (some_file does.after other (sym after_here ∙ ap (file_of_number new.table) (sym same) ∙ is)),
    )
    unit_was n other (inr apart) is = (other, sym (other_there n apart) ∙ is, refl)

    pub performed_kept : AllKept shown start judged_then
    performed_kept = record {
      places = ap length does.places ∙ length-set old.files.table.places p.file (Some does.after) ∙ kept.places;
      each = λ n other is. each_then n other (cases_eq n p.file) is;
      apart = λ m n a b x y same.
          let one = unit_was m a (cases_eq m p.file) x in
          let two = unit_was n b (cases_eq n p.file) y in
          kept.apart m n one.0 two.0 one.1 two.1 (one.2 ∙ same ∙ sym two.2);
      truly = λ honest name truly. performed.keeps.truth honest name (kept.truly (performed.keeps.honest honest) name truly);
      stands = then_now;
    }

  -- ---- a call that leaves the world

  module _ (old : JudgedFiles S) (new : Files S) (kept : AllKept shown start old) (stays : LibraryStays shown old.files.library new.library) where
    pub stayed : LedgersStay shown start old.names old (record { files = new; names = old.names; ledger = old.ledger })
    stayed = record {
      names_are = refl;
      ledger = refl;
      stands = quiet_stands old.files.library new.library stays.keeps stays.images old.names old.names old.ledger (λ were. were) kept.stands.now kept.stands.since;
    }

    -- each file there is one that was there
    pub stayed_kept : length new.table.places ≡ number_limit
        → ((n : ℕ) (file : NumberedFile) → file_of_number new.table n ≡ Some file → file_of_number old.files.table n ≡ Some file)
        → AllKept shown start (record { files = new; names = old.names; ledger = old.ledger })
    stayed_kept many there =
        let quiet = quiet_now old.files.library new.library stays.keeps stays.images old.names old.names old.ledger (λ were. were) kept.stands.now kept.stands.since in
        record {
          places = many;
          each = λ n file is.
              let had = kept.each n file (there n file is) in
              record {
                attached = subst (λ (w : World). file.unit < length w.units) (sym stays.world) had.attached;
                name = ap (λ (w : World). name_at w file.unit) stays.world ∙ had.name;
                described = had.described;
                standing = λ honest were. subst (λ (w : World). IsStanding file.held w file.unit) (sym stays.world) (had.standing (stays.keeps.honest honest) were);
              };
          apart = λ m n a b x y same. kept.apart m n a b (there m a x) (there n b y) same;
          truly = λ honest name truly. stays.keeps.truth honest name (kept.truly (stays.keeps.honest honest) name truly);
          stands = record { now = quiet.now; since = quiet.since };
        }

  -- a file was let go
  pub let_go_stays : (old new : S) → LetsFileGo shown old new → LibraryStays shown old new
  let_go_stays old new goes = record {
    world = goes.world;
    images = goes.images;
    keeps = record {
      honest = λ honest. subst (λ (b : Bool). IsTrue b) goes.honest honest;
      truth = λ honest name truly. goes.truth name truly;
      count = let same = goes.count in omega (arith, same);
      limit = goes.limit;
      frames = goes.frames;
    };
  }

  -- nothing was changed
  pub itself_stays : (library : S) → LibraryStays shown library library
  itself_stays library = record { world = refl; images = stays_itself library; keeps = keeps_itself library }

  -- ---- a file is described

  -- a library that gives a unit keeps all others, and no image changes
  record Gives (d : Described) (u : ℕ) (old : Files S) (new : S) : Type 0 where
    pub keeps : Keeps shown old.library new
    pub images : AllStay shown.moments old.library new
    pub others : (v : ℕ) → v < length (shown.world old.library).units → unit_at (shown.world new) v ≡ unit_at (shown.world old.library) v
    pub more : (v : ℕ) → v < length (shown.world old.library).units → v < length (shown.world new).units

  given : (keeps_open : S → ℕ → Bool) (d : Described) (u : ℕ) (old : Files S) (new : S) → GivesUnit shown keeps_open d.name u old.library new → Gives d u old new
  given keeps_open d u old new gives = by gives.from
    where
      by : (new ≡ old.library) ⊎ AddsLast shown keeps_open d.name u old.library new → Gives d u old new
      by (inl same) = subst (λ (library : S). Gives d u old library) (sym same) (record {
        keeps = keeps_itself old.library;
        images = stays_itself old.library;
        others = λ v within. refl;
        more = λ v within. within;
      })
      by (inr last) = record {
        keeps = last.adds.keeps;
        images = last.adds.images;
        others = λ v within. ap (λ (us : List FileUnit). slice_index_or us v no_unit) last.adds.units ∙ unit_in_front (shown.world old.library).units _ v within;
        more = λ v within.
            let long = ap (λ (us : List FileUnit). length us) last.adds.units ∙ length-append (shown.world old.library).units _ in
            omega (arith, within, long);
      }

  module _ (keeps_open : S → ℕ → Bool) (d : Described) (old : JudgedFiles S) (new : Files S) (kept : AllKept shown start old) (does : Describes shown keeps_open d old.files new) where
    abbrev described : JudgedFiles S
    described = record { files = new; names = d.name ∷ old.names; ledger = old.ledger }

    gives : Gives d does.unit old.files new.library
    gives = given keeps_open d does.unit old.files new.library does.gives

    fewer : WereTrue shown start (d.name ∷ old.names) → WereTrue shown start old.names
    fewer were name is = were name (ap (λ (b : Bool). bytes_eq name d.name || b) is ∙ or_true (bytes_eq name d.name))

    pub described_stays : LedgersStay shown start (d.name ∷ old.names) old described
    described_stays = record {
      names_are = refl;
      ledger = refl;
      stands = quiet_stands old.files.library new.library gives.keeps gives.images old.names (d.name ∷ old.names) old.ledger fewer kept.stands.now kept.stands.since;
    }

    free_below : d.file < length old.files.table.places
    free_below =
        let below : d.file < number_limit = ltb-true d.file number_limit (and_parts (nat_lt d.file number_limit) (is_none (file_of_number old.files.table d.file)) does.allowed.free).0 in
        omega (arith, below, kept.places)

    new_here : file_of_number new.table d.file ≡ Some (file_described d does.unit)
    new_here =
        ap (λ (table : FileTable). file_of_number table d.file) does.table
        ∙ get_or-set_same old.files.table.places d.file (Some (file_described d does.unit)) None free_below

    old_there : (n : ℕ) → n ≢ d.file → file_of_number new.table n ≡ file_of_number old.files.table n
    old_there n apart =
        ap (λ (table : FileTable). file_of_number table n) does.table
        ∙ get_or-set_other old.files.table.places d.file n (Some (file_described d does.unit)) None apart

    old_kept : (n : ℕ) (file : NumberedFile) → file_of_number old.files.table n ≡ Some file → IsKept shown start described file
    old_kept n file is =
        let had = kept.each n file is in
        let stays = gives.others file.unit had.attached in
        record {
          attached = gives.more file.unit had.attached;
          name = ap (λ (unit : FileUnit). unit.name) stays ∙ had.name;
          described = ap (λ (b : Bool). bytes_eq file.name d.name || b) had.described ∙ or_true (bytes_eq file.name d.name);
          standing = λ honest were. standing_elsewhere file.held (shown.world old.files.library) (shown.world new.library) file.unit stays (had.standing (gives.keeps.honest honest) (fewer were));
        }

    new_kept : IsKept shown start described (file_described d does.unit)
    new_kept = record {
      attached = does.gives.unit.attached;
      name = does.gives.unit.name_is;
      described = ap (λ (b : Bool). b || list_any (bytes_eq d.name) old.names) (nat_list_eq_equiv.refl d.name);
      standing = λ honest were. tt;
    }

    each_described : (n : ℕ) (file : NumberedFile) → (n ≡ d.file) ⊎ (n ≢ d.file) → file_of_number new.table n ≡ Some file → IsKept shown start described file
    each_described n file (inl same) is =
        subst (λ (f : NumberedFile). IsKept shown start described f) (some_file (file_described d does.unit) file (sym new_here ∙ ap (file_of_number new.table) (sym same) ∙ is)) new_kept
    each_described n file (inr apart) is = old_kept n file (sym (old_there n apart) ∙ is)

    -- another file is not the unit that was given, since it has another name
    not_given : (n : ℕ) (file : NumberedFile) → n ≢ d.file → file_of_number new.table n ≡ Some file → file.unit ≢ does.unit
    not_given n file apart is same =
        let was = sym (old_there n apart) ∙ is in
        let had = kept.each n file was in
        not_named old.files.table d.name n file does.allowed.name was
        (sym had.name ∙ sym (ap (λ (unit : FileUnit). unit.name) (gives.others file.unit had.attached)) ∙ ap (name_at (shown.world new.library)) same ∙ does.gives.unit.name_is)

    unit_here : (n : ℕ) (file : NumberedFile) → n ≡ d.file → file_of_number new.table n ≡ Some file → file.unit ≡ does.unit
    unit_here n file same is = ap (λ (f : NumberedFile). f.unit) (sym (some_file (file_described d does.unit) file (sym new_here ∙ ap (file_of_number new.table) (sym same) ∙ is)))

    apart_described : (m n : ℕ) (a b : NumberedFile) → (m ≡ d.file) ⊎ (m ≢ d.file) → (n ≡ d.file) ⊎ (n ≢ d.file)
        → file_of_number new.table m ≡ Some a → file_of_number new.table n ≡ Some b → a.unit ≡ b.unit → m ≡ n
    apart_described m n a b (inl here) (inl there) x y same = here ∙ sym there
    apart_described m n a b (inl here) (inr far) x y same = absurd (not_given n b far y (sym same ∙ unit_here m a here x))
    apart_described m n a b (inr far) (inl there) x y same = absurd (not_given m a far x (same ∙ unit_here n b there y))
    apart_described m n a b (inr far) (inr apart) x y same = kept.apart m n a b (sym (old_there m far) ∙ x) (sym (old_there n apart) ∙ y) same

    pub described_kept : AllKept shown start described
    described_kept =
        let quiet = quiet_now old.files.library new.library gives.keeps gives.images old.names (d.name ∷ old.names) old.ledger fewer kept.stands.now kept.stands.since in
        record {
          places = ap (λ (table : FileTable). length table.places) does.table ∙ length-set old.files.table.places d.file (Some (file_described d does.unit)) ∙ kept.places;
          each = λ n file is. each_described n file (cases_eq n d.file) is;
          apart = λ m n a b x y same. apart_described m n a b (cases_eq m d.file) (cases_eq n d.file) x y same;
          truly = λ honest name truly. gives.keeps.truth honest name (kept.truly (gives.keeps.honest honest) name truly);
          stands = record { now = quiet.now; since = quiet.since };
        }
