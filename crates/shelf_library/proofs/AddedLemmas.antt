-- A unit was added to a library.
use Rattle.std.proofs.Common.{◌≡◌, ℕ, zero, suc, ◌<◌, ◌+◌, true, false, List, [], ◌∷◌, ◌++◌, length, Some, IsTrue, Ok, refl, sym, ap, subst, ◌∙◌, arith, bytes_eq, get_or, length-append, if◌then◌else◌}
use Rattle.std.specs.List.{list_any}
use Rattle.std.proofs.lemmas.Cmp.{nat_list_eq_equiv}
use Rattle.std.proofs.lemmas.Map.Keys.{IsDistinct-push}
use Rattle.page_store.specs.AddedUnit.{with_added}
use Rattle.indexed_file.specs.Growing.{IsNewName, AddsUnit, LetsFileGo, with_added_unit}
use Rattle.indexed_file.specs.Others.{SameUnit}
use Rattle.indexed_file.specs.World.{named_in}
use Rattle.shelf_library.specs.Adding.{AddsName}
use Rattle.shelf_library.specs.Units.{unit_of, counts_of_held, frames_of_held, pages_asked_of, room_of_held}
use Rattle.shelf_library.specs.WorldLaws.{units_long}
use Rattle.shelf_library.proofs.Terms.{bytes_eq-Decides, either, Keeps, FileUnit, Named, Shut, Broken, HasOpened, DeviceFile, ShelfState, unit_file, shown_by}
use Rattle.shelf_library.proofs.Terms.{look_of, named_of, is_broken_file, pages_behind, schema_behind, ShelfFile, unit_of_pages}
use Rattle.shelf_library.proofs.Terms.{AreUnits, AreLimited, LibraryState, held_at, IsShownTruly, holding_of, units_of, world_of, Held, Looked}
use Rattle.shelf_library.proofs.Terms.{Nothing, Opened}
use Rattle.shelf_library.proofs.WorldLemmas.{named_anywhere}
use Rattle.shelf_library.proofs.AsideLemmas.{same_file_in, stands_same, ready_where, within_held, images_aside}

-- ---- what is held, and the names

pub held_added : (held : List Held) (u : ℕ) → held_at (held ++ Nothing ∷ []) u ≡ held_at held u
held_added [] zero = refl
held_added [] (suc u) = refl
held_added (one ∷ held) zero = refl
held_added (one ∷ held) (suc u) = held_added held u

name_kept : (names : List (List ℕ)) (name : List ℕ) (v : ℕ) → v < length names → get_or (names ++ name ∷ []) v [] ≡ get_or names v []
name_kept [] name v within = absurd (omega (arith, within))
name_kept (first ∷ names) name zero within = refl
name_kept (first ∷ names) name (suc v) within = name_kept names name v (omega (arith, within))

within_opened : (held : List Held) (v : ℕ) (file : ShelfFile) → held_at held v ≡ Opened file → v < length held
within_opened [] v file is = absurd (cc)
within_opened (first ∷ held) zero file is = omega arith
within_opened (first ∷ held) (suc v) file is = let below = within_opened held v file is in omega (arith, below)

-- two names that differ, either way round
differ_back : (a b : List ℕ) → bytes_eq a b ≡ false → bytes_eq b a ≡ false
differ_back a b miss =
    either (bytes_eq b a) (bytes_eq b a ≡ false)
    (λ yes. let same : b ≡ a = (bytes_eq-Decides b a).0 yes in let hit : bytes_eq a b ≡ true = (bytes_eq-Decides a b).1 (sym same) in absurd (cc))
    (λ other. other)

-- a name that no unit has is none of the names
new_among : (shelf : ShelfState) (names : List (List ℕ)) (held : List Held) (name : List ℕ) → length held ≡ length names
    → list_any (λ (unit : FileUnit). bytes_eq unit.name name) (units_of shelf names held) ≡ false → list_any (bytes_eq name) names ≡ false
new_among shelf [] held name many new = refl
new_among shelf (first ∷ names) [] name many new = absurd (omega (arith, many))
new_among shelf (first ∷ names) (one ∷ held) name many new =
    either (bytes_eq first name) (list_any (bytes_eq name) (first ∷ names) ≡ false)
    (λ yes. let e = rw yes at new in absurd (cc))
    (λ no. rw (differ_back first name no) (new_among shelf names held name (omega (arith, many)) (rw no at new)))

-- ---- the units

-- unit v is shown as it was
abbrev ShowsSame : ShelfState → ShelfState → List (List ℕ) → List Held → ℕ → Type 0
ShowsSame old new names held v = unit_of new (get_or names v []) (held_at held v) ≡ unit_of old (get_or names v []) (held_at held v)

units_more : (old new : ShelfState) (names : List (List ℕ)) (held : List Held) (name : List ℕ) → length held ≡ length names
    → ((v : ℕ) → v < length names → ShowsSame old new names held v)
    → units_of new (names ++ name ∷ []) (held ++ Nothing ∷ []) ≡ units_of old names held ++ unit_of new name Nothing ∷ []
units_more old new [] [] name many same = refl
units_more old new [] (one ∷ held) name many same = absurd (omega (arith, many))
units_more old new (first ∷ names) [] name many same = absurd (omega (arith, many))
units_more old new (first ∷ names) (one ∷ held) name many same =
    let here : unit_of new first one ≡ unit_of old first one = same 0 (omega arith) in
    let rest = units_more old new names held name (omega (arith, many)) (λ v within. same (suc v) (omega (arith, within))) in
    λ i. here i ∷ rest i

module _ (shelf : ShelfState) (held : List Held) (name : List ℕ) (are : AreUnits shelf held) (new : IsNewName (world_of shelf held) name) where
  abbrev now : ShelfState
  now = with_added name shelf

  abbrev holds : List Held
  holds = held ++ Nothing ∷ []

  file_kept : (v : ℕ) → v < length shelf.names → unit_file now v ≡ unit_file shelf v
  file_kept v within = ap shelf.file (name_kept shelf.names name v within)

  lies : (v : ℕ) → v < length held → v < length shelf.names
  lies v within = let many = are.many in omega (arith, within, many)

  -- the unit of an open file, which is that of its pages
  same_bytes : (v : ℕ) (file : ShelfFile) → held_at held v ≡ Opened file → unit_file now (unit_of_pages (pages_behind file)) ≡ unit_file shelf (unit_of_pages (pages_behind file))
  same_bytes v file is =
      let unit = (are.ready v file is).unit_is in
      subst (λ (w : ℕ). unit_file now w ≡ unit_file shelf w) (sym unit) (file_kept v (lies v (within_opened held v file is)))

  shows_same : (v : ℕ) (one : Held) → held_at held v ≡ one → holding_of now one ≡ holding_of shelf one
  shows_same v Nothing is = refl
  shows_same v (Looked header) is = refl
  shows_same v (Opened file) is =
      ap (λ rows. if is_broken_file file then Broken (schema_behind file) else HasOpened (schema_behind file) rows) (same_file_in file shelf now (same_bytes v file is))

  many_added : length holds ≡ length now.names
  many_added = length-append held (Nothing ∷ []) ∙ ap (λ n. n + 1) are.many ∙ sym (length-append shelf.names (name ∷ []))

  pub units_added : AreUnits now holds
  units_added = record {
    many = many_added;
    distinct = IsDistinct-push nat_list_eq_equiv shelf.names name are.distinct (new_among shelf shelf.names held name are.many new);
    looked = λ u header is.
        let was = sym (held_added held u) ∙ is in
        let looked = are.looked u header was in
        let within = lies u (within_held held u header was) in
        record { allowed = looked.allowed; accepted = λ honest. ap (λ (bytes : DeviceFile). look_of bytes.seen) (file_kept u within) ∙ looked.accepted honest };
    ready = λ u file is.
        let was = sym (held_added held u) ∙ is in
        let ready = are.ready u file was in
        record {
          unit_is = ready.unit_is;
          ready = ready_where file shelf now (same_bytes u file was)
              (λ within. let long = length-append shelf.names (name ∷ []) in omega (arith, within, long)) (λ honest. honest) ready.ready;
        };
  }

  pub named_same : (other : List ℕ) → named_in (world_of now holds) other ≡ named_in (world_of shelf held) other
  named_same other = named_anywhere now holds other many_added ∙ sym (named_anywhere shelf held other are.many)

  pub world_added : (world_of now holds).units ≡ with_added_unit (world_of shelf held) name
  world_added =
      units_more shelf now shelf.names held name are.many (λ v within.
      let holding = shows_same v (held_at held v) refl in
      λ i. record { name = get_or shelf.names v []; named = named_of (shelf.file (get_or shelf.names v [])).seen; holding = holding i })
      ∙ ap (λ (n : Named). let u : FileUnit = record { name = name; named = n; holding = Shut } in units_of shelf shelf.names held ++ u ∷ []) (sym (named_anywhere shelf held name are.many))

  pub truly_added : (other : List ℕ) → IsShownTruly shelf held other → IsShownTruly now holds other
  truly_added other truly = record {
    closed = truly.closed;
    opened = λ u file within named is unbroken.
        let was = sym (held_added held u) ∙ is in
        let here = lies u (within_opened held u file was) in
        let open_truly = truly.opened u file here (sym (name_kept shelf.names name u here) ∙ named) was unbroken in
        record { rows = open_truly.rows; stands = stands_same file shelf now (same_bytes u file was) open_truly.rows open_truly.stands; closed = open_truly.closed };
  }

  pub counts_added : (u : ℕ) → u < length (world_of shelf held).units → counts_of_held (unit_file now u).seen (held_at holds u) ≡ counts_of_held (unit_file shelf u).seen (held_at held u)
  counts_added u within =
      let here : u < length shelf.names = let many = are.many in let long = units_long shelf shelf.names held are.many in omega (arith, within, many, long) in
      ap (λ (one : Held). counts_of_held (unit_file now u).seen one) (held_added held u)
      ∙ ap (λ (bytes : DeviceFile). counts_of_held bytes.seen (held_at held u)) (file_kept u here)

pub limits_added : (limit frames : ℕ) (held after : List Held) → after ≡ held ++ Nothing ∷ [] → AreLimited limit frames held → AreLimited limit frames after
limits_added limit frames held after same are u file is = are u file (sym (held_added held u) ∙ ap (λ (l : List Held). held_at l u) (sym same) ∙ is)

-- ---- the library

-- the library behind it, as its parts show it
abbrev added_to : List ℕ → LibraryState → LibraryState
added_to name old = record { shelf = with_added name old.shelf; held = old.held ++ Nothing ∷ []; faults = old.faults; limit = old.limit; frames = old.frames }

module _ (name : List ℕ) (old new : LibraryState) (call : AddsName name old new) where
  pub is_added : new ≡ added_to name old
  is_added =
      let shelf = call.shelf in
      let held = call.held in
      let faults = call.faults in
      let limit = call.limit in
      let frames = call.frames in
      λ i. record { shelf = shelf i; held = held i; faults = faults i; limit = limit i; frames = frames i }

pub units_now : (name : List ℕ) (old new : LibraryState) → AddsName name old new → AreUnits new.shelf new.held
units_now name old new call =
    subst (λ (s : LibraryState). AreUnits s.shelf s.held) (sym (is_added name old new call)) (units_added old.shelf old.held name call.units call.is_new)

module _ {S : Type 0} (state : S → LibraryState) (name : List ℕ) (old new : S) (call : AddsName name (state old) (state new)) where
  same_now : state new ≡ added_to name (state old)
  same_now = is_added name (state old) (state new) call

  added_others : (u : ℕ) → u < length (world_of (state old).shelf (state old).held).units → SameUnit (shown_by state) u old new
  added_others u within = record {
    pages = record {
      room = ap (λ (s : LibraryState). room_of_held (held_at s.held u)) same_now ∙ ap room_of_held (held_added (state old).held u);
      counts = ap (λ (s : LibraryState). counts_of_held (unit_file s.shelf u).seen (held_at s.held u)) same_now
          ∙ counts_added (state old).shelf (state old).held name call.units call.is_new u within;
    };
    frames = ap (λ (s : LibraryState). frames_of_held (held_at s.held u)) same_now ∙ ap frames_of_held (held_added (state old).held u);
    asked = ap (λ (s : LibraryState). pages_asked_of (held_at s.held u)) same_now ∙ ap pages_asked_of (held_added (state old).held u);
  }

  pub adds_unit : AddsUnit (shown_by state) name old new (Ok tt)
  adds_unit = record {
    units = ap (λ (s : LibraryState). (world_of s.shelf s.held).units) same_now ∙ world_added (state old).shelf (state old).held name call.units call.is_new;
    named = λ other. ap (λ (s : LibraryState). named_in (world_of s.shelf s.held) other) same_now ∙ named_same (state old).shelf (state old).held name call.units call.is_new other;
    err = tt;
    only_memory = tt;
    others = added_others;
    images = λ other. images_aside state old new other (ap (λ (s : LibraryState). s.shelf.file other) same_now);
    keeps = record {
      honest = λ honest. subst (λ (s : LibraryState). IsTrue s.shelf.is_honest) same_now honest;
      truth = λ honest other truly.
          subst (λ (s : LibraryState). IsShownTruly s.shelf s.held other) (sym same_now) (truly_added (state old).shelf (state old).held name call.units call.is_new other truly);
      count = let same = call.faults in omega (arith, same);
      limit = ap Some call.limit;
      frames = ap Some call.frames;
    };
  }

-- ---- a call that leaves the state

module _ {S : Type 0} (state : S → LibraryState) (old new : S) (same : state new ≡ state old) where
  pub unit_same : (u : ℕ) → SameUnit (shown_by state) u old new
  unit_same u = record {
    pages = record {
      room = ap (λ (s : LibraryState). room_of_held (held_at s.held u)) same;
      counts = ap (λ (s : LibraryState). counts_of_held (unit_file s.shelf u).seen (held_at s.held u)) same;
    };
    frames = ap (λ (s : LibraryState). frames_of_held (held_at s.held u)) same;
    asked = ap (λ (s : LibraryState). pages_asked_of (held_at s.held u)) same;
  }

  truly_same : (name : List ℕ) → IsShownTruly (state old).shelf (state old).held name → IsShownTruly (state new).shelf (state new).held name
  truly_same name truly = subst (λ (s : LibraryState). IsShownTruly s.shelf s.held name) (sym same) truly

  pub lets_file_go : LetsFileGo (shown_by state) old new
  lets_file_go = record {
    world = ap (λ (s : LibraryState). world_of s.shelf s.held) same;
    units = unit_same;
    honest = ap (λ (s : LibraryState). s.shelf.is_honest) same;
    truth = truly_same;
    count = ap (λ (s : LibraryState). s.faults) same;
    limit = ap (λ (s : LibraryState). Some s.limit) same;
    frames = ap (λ (s : LibraryState). Some s.frames) same;
    images = λ name. images_aside state old new name (ap (λ (s : LibraryState). s.shelf.file name) same);
  }

  pub keeps_same : Keeps (shown_by state) old new
  keeps_same = record {
    honest = λ honest. subst (λ (s : LibraryState). IsTrue s.shelf.is_honest) same honest;
    truth = λ honest name. truly_same name;
    count = let e = ap (λ (s : LibraryState). s.faults) same in omega (arith, e);
    limit = ap (λ (s : LibraryState). Some s.limit) same;
    frames = ap (λ (s : LibraryState). Some s.frames) same;
  }
