-- The laws of a library over a shelf.
use Rattle.std.proofs.Common.{◌≡◌, ℕ, ◌+◌, ◌-◌, ◌<◌, ◌≤◌, List, [], length, Option, Some, None, IsTrue}
use Rattle.std.proofs.Common.{IsFalse, refl, sym, ap, ◌∙◌, subst, arith, inl, inr}
use Rattle.std.specs.Prelude.{nat_lt}
use Rattle.std.proofs.lemmas.Bool.{cases_Bool, ltb-true, ltb-false}
use Rattle.std.proofs.lemmas.List.{get_or_past}
use Rattle.indexed_file.specs.File.{File}
use Rattle.indexed_file.specs.Room.{IsFilled, available_under, available_in}
use Rattle.indexed_file.specs.Sound.{is_file}
use Rattle.indexed_file.specs.SoundWorld.{ShowsFiles, ShowsFilesAt, is_sound_named, is_sound_holding}
use Rattle.indexed_file.specs.World.{FileUnit, Named, Absent, Closed, Holding, Shut, Broken}
use Rattle.indexed_file.specs.World.{Opened as HasOpened, unit_at, holding_at, name_at, is_open}
use Rattle.record_layout.specs.Schema.{Schema}
use Rattle.page_store.specs.DeviceFile.{DeviceFile, content}
use Rattle.page_store.specs.ShelfState.{ShelfState, unit_name, unit_file}
use Rattle.page_alloc.specs.Joining.{available_of, pages_counted, pages_free}
use Rattle.page_alloc.specs.PagedFile.{counts_of}
use Rattle.open_file.specs.declared.first_page.Header.{Header}
use Rattle.shelf_library.specs.declared.look.HeaderLook.{HeaderLook}
use Rattle.shelf_library.specs.declared.look.HeaderLook.TheVariants.{NoFile, Refused, Accepted}
use Rattle.shelf_library.specs.declared.shelf_file.ShelfFile.{ShelfFile}
use Rattle.shelf_library.specs.Named.{look_of, named_of, named_by}
use Rattle.shelf_library.specs.Standing.{file_read_off, live_of, room_in}
use Rattle.shelf_library.specs.Standing.{is_broken_file, pages_behind, parts_of, schema_behind}
use Rattle.shelf_library.specs.State.{held_at, AreReady, AreLimited}
use Rattle.shelf_library.specs.Units.{world_of, units_of, holding_of, room_of_held, counts_of_held}
use Rattle.shelf_library.specs.Units.{frames_of_held, pages_asked_of}
use Rattle.shelf_library.specs.Truth.{IsShownTruly, IsTrulyClosed}
use Rattle.shelf_library.specs.WorldLaws.{named_anywhere, name_now, holding_now, named_now, units_long}
use Rattle.open_file.proofs.ReadOffLemmas.{reads_as}
use Rattle.open_file.proofs.FilledLemmas.{filled}
use Rattle.shelf_library.specs.FileAcceptedLemmas.{reads_back, accepted_there, accepted_named}
use Rattle.shelf_library.specs.declared.held.Held.{Held}
use Rattle.shelf_library.specs.declared.held.Held.TheVariants.{Nothing, Looked, Opened}

-- ---- what is shown truly is a file

closed_file : (bytes : DeviceFile) (header : Header) → look_of bytes.seen ≡ Accepted header
    → IsTrulyClosed bytes header → IsTrue (is_sound_named (named_of bytes.seen))
closed_file bytes header is truly =
    let there = accepted_there bytes header is in
    let back = reads_back header (content bytes) truly.rows (ap look_of (sym there) ∙ is) truly.stands in
    subst (λ (named : Named). IsTrue (is_sound_named named))
    (sym (accepted_named bytes header is ∙ ap (Closed header.schema) back)) truly.stands.pages.sound

named_files : (bytes : DeviceFile) → ((header : Header) → look_of bytes.seen ≡ Accepted header
    → IsTrulyClosed bytes header) → IsTrue (is_sound_named (named_of bytes.seen))
named_files bytes truly = go bytes.seen refl
  where
    by_look : (seen : List ℕ) (look : HeaderLook) → look_of (Some seen) ≡ look → bytes.seen ≡ Some seen
        → IsTrue (is_sound_named (named_by seen look))
    by_look seen NoFile is there = refl
    by_look seen Refused is there = refl
    by_look seen (Accepted header) is there =
        let accepted : look_of bytes.seen ≡ Accepted header = ap look_of there ∙ is in
        subst (λ (named : Named). IsTrue (is_sound_named named))
        (ap named_of there ∙ ap (named_by seen) is)
        (closed_file bytes header accepted (truly header accepted))

    go : (seen : Option (List ℕ)) → bytes.seen ≡ seen → IsTrue (is_sound_named (named_of bytes.seen))
    go None is = subst (λ (s : Option (List ℕ)). IsTrue (is_sound_named (named_of s))) (sym is) refl
    go (Some seen) is = subst (λ (s : Option (List ℕ)). IsTrue (is_sound_named (named_of s))) (sym is)
        (by_look seen (look_of (Some seen)) refl is)

module _ (shelf : ShelfState) (held : List Held) (many : length held ≡ length shelf.names) where
  no_such : (u : ℕ) → length held ≤ u → unit_at (world_of shelf held) u ≡ record {
    name = [];
    named = Absent;
    holding = Shut;
  }
  no_such u past = let long = units_long shelf shelf.names held many in
      get_or_past (units_of shelf shelf.names held) u
      (record { name = []; named = Absent; holding = Shut }) (omega (arith, past, long))

  held_files : (u : ℕ) (one : Held) → u < length held → held_at held u ≡ one
      → IsShownTruly shelf held (unit_name shelf u) → IsTrue (is_sound_holding (holding_of shelf one))
  held_files u Nothing within is truly = refl
  held_files u (Looked header) within is truly = refl
  held_files u (Opened file) within is truly = elim (cases_Bool (is_broken_file file)) [
    | inl broken ↦ rw broken refl
    | inr unbroken ↦
        let lies : u < length shelf.names = omega (arith, within, many) in
        let open_truly = truly.opened u file lies refl is unbroken in
        let back : file_read_off file shelf ≡ open_truly.rows =
        reads_as (parts_of file) (live_of file shelf) open_truly.rows open_truly.stands.stands in
        rw unbroken (subst (λ (rows : File). IsTrue (is_file (schema_behind file) rows))
        (sym back) open_truly.stands.stands.sound)
  ]

  shows_unit : (u : ℕ) → IsShownTruly shelf held (name_at (world_of shelf held) u)
      → ShowsFilesAt (world_of shelf held) u
  shows_unit u truly = elim (cases_Bool (nat_lt u (length held))) [
    | inl hit ↦
        let within = ltb-true u (length held) hit in
        let here : IsShownTruly shelf held (unit_name shelf u) =
        subst (λ (name : List ℕ). IsShownTruly shelf held name)
        (name_now shelf held u within many) truly in
        record {
          named = subst (λ (named : Named). IsTrue (is_sound_named named))
              (sym (named_now shelf held u within many)) (named_files (unit_file shelf u) here.closed);
          holding = subst (λ (holding : Holding). IsTrue (is_sound_holding holding))
              (sym (holding_now shelf held u within many)) (held_files u (held_at held u) within refl here);
        }
    | inr miss ↦
        let none = no_such u (ltb-false u (length held) miss) in
        record {
          named = subst (λ (unit : FileUnit). IsTrue (is_sound_named unit.named)) (sym none) refl;
          holding = subst (λ (unit : FileUnit). IsTrue (is_sound_holding unit.holding)) (sym none) refl;
        }
  ]

  -- an open unit has a file of this schema, that reads so
  opened_by : (u : ℕ) (one : Held) (schema : Schema) (rows : File)
      → holding_of shelf one ≡ HasOpened schema rows
      → (file : ShelfFile) × (one ≡ Opened file) × IsFalse (is_broken_file file)
      × (schema_behind file ≡ schema) × (file_read_off file shelf ≡ rows)
  opened_by u Nothing schema rows is = absurd (cc)
  opened_by u (Looked header) schema rows is = absurd (cc)
  opened_by u (Opened file) schema rows is = elim (cases_Bool (is_broken_file file)) [
    | inl broken ↦ let e : Broken (schema_behind file) ≡ HasOpened schema rows = rw broken at is in
        absurd (cc)
    | inr unbroken ↦ let e : HasOpened (schema_behind file) (file_read_off file shelf)
        ≡ HasOpened schema rows = rw unbroken at is in (file, refl, unbroken, cc, cc)
  ]

pub shows_files : (shelf : ShelfState) (held : List Held) (name : List ℕ)
    → length held ≡ length shelf.names → IsShownTruly shelf held name
    → ShowsFiles (world_of shelf held) name
shows_files shelf held name many truly = record {
  named = subst (λ (named : Named). IsTrue (is_sound_named named))
      (sym (named_anywhere shelf held name many)) (named_files (shelf.file name) truly.closed);
  units = λ u is. shows_unit shelf held many u (subst (λ (n : List ℕ). IsShownTruly shelf held n)
      (sym is) truly);
}

-- ---- the trees of an open file are filled

pub fills : (shelf : ShelfState) (held : List Held) (u : ℕ) (schema : Schema) (file : File)
    → length held ≡ length shelf.names → AreReady shelf held
    → IsShownTruly shelf held (name_at (world_of shelf held) u)
    → holding_at (world_of shelf held) u ≡ HasOpened schema file
    → IsFilled (room_of_held (held_at held u)) schema file
fills shelf held u schema file many ready truly is = elim (cases_Bool (nat_lt u (length held))) [
  | inl hit ↦
      let within = ltb-true u (length held) hit in
      let lies : u < length shelf.names = omega (arith, within, many) in
      let of = opened_by shelf held many u (held_at held u) schema file
      (sym (holding_now shelf held u within many) ∙ is) in
      let here = subst (λ (name : List ℕ). IsShownTruly shelf held name)
      (name_now shelf held u within many) truly in
      let open_truly = here.opened u of.0 lies refl of.1 of.2 in
      let back : open_truly.rows ≡ file = sym (reads_as (parts_of of.0)
      (live_of of.0 shelf) open_truly.rows open_truly.stands.stands) ∙ of.4 in
      let full = filled (parts_of of.0) (live_of of.0 shelf) open_truly.rows
      (available_of (counts_of (pages_behind of.0)))
      (ready u of.0 of.1).ready.shaped open_truly.stands.stands in
      subst (λ (one : Held). IsFilled (room_of_held one) schema file) (sym of.1)
      (subst (λ (s : Schema). IsFilled (room_in of.0) s file) of.3
      (subst (λ (rows : File). IsFilled (room_in of.0) (schema_behind of.0) rows) back full))
  | inr miss ↦
      let none = ap (λ (unit : FileUnit). unit.holding)
      (no_such shelf held many u (ltb-false u (length held) miss)) in
      let e : Shut ≡ HasOpened schema file = sym none ∙ is in
      absurd (cc)
]

-- ---- open files have the limits of the library

open_file : (shelf : ShelfState) (one : Held) → IsTrue (is_open (holding_of shelf one))
    → (file : ShelfFile) × (one ≡ Opened file)
open_file shelf Nothing opened = absurd (cc)
open_file shelf (Looked header) opened = absurd (cc)
open_file shelf (Opened file) opened = (file, refl)

module _
    (shelf : ShelfState) (held : List Held) (limit frames u : ℕ) (many : length held ≡ length shelf.names)
    (are : AreLimited limit frames held)
    (opened : IsTrue (is_open (holding_at (world_of shelf held) u))) where
  file_at : (file : ShelfFile) × (held_at held u ≡ Opened file)
  file_at = elim (cases_Bool (nat_lt u (length held))) [
    | inl hit ↦
        let within = ltb-true u (length held) hit in
        open_file shelf (held_at held u) (subst (λ (holding : Holding). IsTrue (is_open holding))
        (holding_now shelf held u within many) opened)
    | inr miss ↦
        let none = ap (λ (unit : FileUnit). unit.holding)
        (no_such shelf held many u (ltb-false u (length held) miss)) in
        let e : IsTrue (is_open Shut) = subst (λ (holding : Holding). IsTrue (is_open holding)) none opened in
        absurd (cc)
  ]

  pub room_within : available_in (room_of_held (held_at held u)) ≡ Some
      (available_under (counts_of_held (unit_file shelf u).seen (held_at held u)) limit)
  room_within =
      let file = file_at.0 in
      subst (λ (one : Held). available_in (room_of_held one) ≡ Some
      (available_under (counts_of_held (unit_file shelf u).seen one) limit)) (sym file_at.1)
      (let pager = counts_of (pages_behind file) in
      ap (λ (n : ℕ). Some (pages_free pager + (n - pages_counted pager)))
      (are u file file_at.1).limit)

  pub frames_within : frames_of_held (held_at held u) ≡ Some frames
  frames_within = ap frames_of_held file_at.1 ∙ ap Some (are u file_at.0 file_at.1).cap

-- ---- the pages of a unit that is not open are not counted

not_counted : (shelf : ShelfState) (one : Held) → IsFalse (is_open (holding_of shelf one))
    → pages_asked_of one ≡ 0
not_counted shelf Nothing closed = refl
not_counted shelf (Looked header) closed = refl
not_counted shelf (Opened file) closed = elim (cases_Bool (is_broken_file file)) [
  | inl broken ↦ let e : IsFalse (is_open (Broken (schema_behind file))) = rw broken at closed in absurd (cc)
  | inr works ↦ let e : IsFalse (is_open (HasOpened (schema_behind file) (file_read_off file shelf))) =
      rw works at closed in absurd (cc)
]

pub none_counted : (shelf : ShelfState) (held : List Held) (u : ℕ) → length held ≡ length shelf.names
    → IsFalse (is_open (holding_at (world_of shelf held) u)) → pages_asked_of (held_at held u) ≡ 0
none_counted shelf held u many closed = elim (cases_Bool (nat_lt u (length held))) [
  | inl hit ↦
      let within = ltb-true u (length held) hit in
      not_counted shelf (held_at held u) (subst (λ (holding : Holding). IsFalse (is_open holding))
      (holding_now shelf held u within many) closed)
  | inr miss ↦ ap pages_asked_of (get_or_past held u Nothing (ltb-false u (length held) miss))
]
