-- What a call finds in a unit that is open.
use Rattle.std.proofs.Common.{◌≡◌, ℕ, ◌<◌, ◌≤◌, Bool, true, false, List, length, slice_index_or, IsTrue, refl, sym, ap, subst, ◌∙◌}
use Rattle.std.proofs.Common.{if◌then◌else◌}
use Rattle.std.specs.Prelude.{slice_set}
use Rattle.std.proofs.lemmas.List.{get_or_read}
use Rattle.page_alloc.specs.Steps.{MayOpenGate}
use Rattle.shelf_library.specs.Calls.{IsReadyToRead, IsReadyToSeek, IsReadyToWrite}
use Rattle.shelf_library.proofs.Terms.{Schema, File, Broken, HasOpened, holding_at, is_broken, is_open, schema_at, schema_in, Leaves}
use Rattle.shelf_library.proofs.Terms.{ShelfState, unit_name, Ghosts, OnlyReadsFile, IsReady, file_read_off, is_broken_file, pages_behind}
use Rattle.shelf_library.proofs.Terms.{schema_behind, ShelfFile, MovesAt, ReadsAt, held_at, holding_of, world_of, Held, Looked, Nothing}
use Rattle.shelf_library.proofs.Terms.{Opened, ShelfLibrary}
use Rattle.shelf_library.proofs.WorldLemmas.{holding_now}
use Rattle.shelf_library.proofs.StateLemmas.{library_state, state_left, is_within}

-- what an open file shows, whether or not a change of it failed
pub schema_open : (broken : Bool) (schema : Schema) (rows : File)
    → schema_in (if broken then Broken schema else HasOpened schema rows) ≡ schema
schema_open true schema rows = refl
schema_open false schema rows = refl

pub open_open : (broken : Bool) (schema : Schema) (rows : File) → is_open (if broken then Broken schema else HasOpened schema rows) ≡ true
open_open true schema rows = refl
open_open false schema rows = refl

pub broken_open : (broken : Bool) (schema : Schema) (rows : File)
    → is_broken (if broken then Broken schema else HasOpened schema rows) ≡ broken
broken_open true schema rows = refl
broken_open false schema rows = refl

-- of what is held an open file alone is shown as open
only_opened : (shelf : ShelfState) (one : Held) → IsTrue (is_open (holding_of shelf one)) → ((file : ShelfFile) → one ≡ Opened file → ⊥) → ⊥
only_opened shelf Nothing opened other = absurd (cc)
only_opened shelf (Looked header) opened other = absurd (cc)
only_opened shelf (Opened file) opened other = other file refl

module _ {S : Type 0} (shelf : Ghosts S) (s : ShelfLibrary S shelf) (u : ℕ)
    (attached : u < length (world_of (shelf.state s.shelf) s.units.items).units)
    (one : Held) (read : one ≡ slice_index_or s.units.items u one) where
  pub is_one : held_at s.units.items u ≡ one
  is_one = sym (get_or_read s.units.items u one (is_within shelf s u attached) read Nothing)

  -- what was taken out of it is what it held
  pub taken : (out : Held) → out ≡ one → {is : Held} → out ≡ is → held_at s.units.items u ≡ is
  taken out same found = is_one ∙ sym same ∙ found

  is_shown : holding_at (world_of (shelf.state s.shelf) s.units.items) u ≡ holding_of (shelf.state s.shelf) one
  is_shown =
      holding_now (shelf.state s.shelf) s.units.items u (is_within shelf s u attached) s.many ∙ ap (holding_of (shelf.state s.shelf)) is_one

  -- the unit is open, so it holds a file
  pub must_be_open : IsTrue (is_open (holding_at (world_of (shelf.state s.shelf) s.units.items) u))
      → ((file : ShelfFile) → one ≡ Opened file → ⊥) → ⊥
  must_be_open opened other = only_opened (shelf.state s.shelf) one (sym (ap is_open is_shown) ∙ opened) other

  module _ (file : ShelfFile) (is : one ≡ Opened file) where
    pub opened_at : held_at s.units.items u ≡ Opened file
    opened_at = is_one ∙ is

    -- of its schema
    pub schema_is : schema_at (world_of (shelf.state s.shelf) s.units.items) u ≡ schema_behind file
    schema_is =
        ap schema_in (is_shown ∙ ap (holding_of (shelf.state s.shelf)) is)
        ∙ schema_open (is_broken_file file) (schema_behind file) (file_read_off file (shelf.state s.shelf))

    -- on which calls may be made
    pub may_call : IsReady file (shelf.state s.shelf)
    may_call = (s.fit.ready u file opened_at).ready

    pub may_seek : (k : ℕ) → k < length (schema_at (world_of (shelf.state s.shelf) s.units.items) u).keys
        → IsReadyToSeek file (shelf.state s.shelf) k
    may_seek k key = record { ready = may_call; key = subst (λ (schema : Schema). k < length schema.keys) schema_is key }

    pub may_read : (k : ℕ) (area : List ℕ) → k < length (schema_at (world_of (shelf.state s.shelf) s.units.items) u).keys
        → length area ≡ (schema_at (world_of (shelf.state s.shelf) s.units.items) u).greatest
        → IsReadyToRead file (shelf.state s.shelf) k area
    may_read k area key long = record {
      ready = may_call;
      key = (may_seek k key).key;
      area = long ∙ ap (λ (schema : Schema). schema.greatest) schema_is;
    }

    pub may_write : (bytes : List ℕ) → (schema_at (world_of (shelf.state s.shelf) s.units.items) u).least ≤ length bytes
        → length bytes ≤ (schema_at (world_of (shelf.state s.shelf) s.units.items) u).greatest
        → IsReadyToWrite file (shelf.state s.shelf) bytes
    may_write bytes least greatest = record {
      ready = may_call;
      least = subst (λ (schema : Schema). schema.least ≤ length bytes) schema_is least;
      greatest = subst (λ (schema : Schema). length bytes ≤ schema.greatest) schema_is greatest;
    }

    -- a call that only reads
    pub reads_at :
        (after : ShelfFile) (now : S)
        → OnlyReadsFile file after (shelf.state s.shelf) (shelf.state now) (shelf.fault_count s.shelf) (shelf.fault_count now)
        → ((x : S) (name : List ℕ) → IsTrue (shelf.state x).is_honest → Leaves ((shelf.state x).file name) ((shelf.state x).file name).seen)
        → ReadsAt u file after (library_state shelf s) (state_left shelf s now (slice_set s.units.items u (Opened after)))
    reads_at after now reads image = record {
      units = s.fit;
      attached = is_within shelf s u attached;
      opened = opened_at;
      holds = refl;
      limit = refl;
      frames = refl;
      reads = reads;
      image_before = image s.shelf (unit_name (shelf.state s.shelf) u);
      image_after = image now (unit_name (shelf.state now) u);
    }

    -- a call that may have opened the gate
    pub moves_at :
        (after : ShelfFile) (now : S)
        → MayOpenGate (pages_behind file) (pages_behind after) (shelf.state s.shelf) (shelf.state now) (shelf.fault_count s.shelf) (shelf.fault_count now)
        → IsReady after (shelf.state now)
        → ((x : S) (name : List ℕ) → IsTrue (shelf.state x).is_honest → Leaves ((shelf.state x).file name) ((shelf.state x).file name).seen)
        → MovesAt u file after (library_state shelf s) (state_left shelf s now (slice_set s.units.items u (Opened after)))
    moves_at after now moves ready image = record {
      units = s.fit;
      attached = is_within shelf s u attached;
      opened = opened_at;
      holds = refl;
      limit = refl;
      frames = refl;
      moves = moves;
      ready = ready;
      image_before = image s.shelf (unit_name (shelf.state s.shelf) u);
      image_after = image now (unit_name (shelf.state now) u);
    }
