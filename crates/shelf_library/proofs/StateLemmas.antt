-- A library over a shelf, as the definitions see it: before a call, behind one, and what the calls on units did.
use Rattle.std.proofs.Common.{◌≡◌, ℕ, ◌<◌, List, length, bytes_eq, IsTrue, Result, refl, ap, ◌∙◌, arith}
use Rattle.std.specs.Prelude.{slice_set, replicate, vec_len}
use Rattle.std.specs.List.{IsDistinct}
use Rattle.shelf_library.specs.FileOpening.{LooksOnShelf, MakesOnShelf, OpensByHeader, ClosesOnShelf, CountedShelf, counted_shelf}
use Rattle.shelf_library.proofs.Terms.{non_zero_usize_get, Fault, Schema, Leaves, unit_name, Ghosts, Header, HeaderLook, ShelfFile, Attaches}
use Rattle.shelf_library.proofs.Terms.{ClosesUnitAt, LooksAt, MakesAt, OpensAt, LibraryState, held_at, held_after, held_open, world_of}
use Rattle.shelf_library.proofs.Terms.{Held, Looked, Nothing, Opened, ShelfLibrary}
use Rattle.shelf_library.proofs.WorldLemmas.{is_held, set_twice}

module _ {S : Type 0} (shelf : Ghosts S) where
  abbrev pub library_state : ShelfLibrary S shelf → LibraryState
  library_state s = record {
    shelf = shelf.state s.shelf;
    held = s.units.items;
    faults = shelf.fault_count s.shelf;
    limit = s.limit;
    frames = non_zero_usize_get s.frames;
  }

  abbrev pub state_left : ShelfLibrary S shelf → S → List Held → LibraryState
  state_left s now held = record {
    shelf = shelf.state now;
    held = held;
    faults = shelf.fault_count now;
    limit = s.limit;
    frames = non_zero_usize_get s.frames;
  }

  -- a unit that has a name holds something
  pub is_within : (s : ShelfLibrary S shelf) (u : ℕ) → u < length (world_of (shelf.state s.shelf) s.units.items).units
      → u < length s.units.items
  is_within s u attached = is_held (shelf.state s.shelf) s.units.items u s.many attached

  -- so it may be read
  pub is_item : (s : ShelfLibrary S shelf) (u : ℕ) → u < length (world_of (shelf.state s.shelf) s.units.items).units → u < vec_len s.units
  is_item s u attached = let within = is_within s u attached in omega (arith, within, s.units.ok.0)

  abbrev at_shelf : S → CountedShelf
  at_shelf now = counted_shelf (shelf.state now) (shelf.fault_count now)

  -- what reads give is one of the images
  abbrev ReadsImages : Type 0
  ReadsImages = (x : S) (name : List ℕ) → IsTrue (shelf.state x).is_honest
      → Leaves ((shelf.state x).file name) ((shelf.state x).file name).seen

  module _ (s : ShelfLibrary S shelf) (u : ℕ) (attached : u < length (world_of (shelf.state s.shelf) s.units.items).units) where
    pub makes_at : (schema : Schema) (r : Result ShelfFile Fault) (now : S) (one : Held) → one ≡ held_open r
        → MakesOnShelf u s.limit (non_zero_usize_get s.frames) schema (at_shelf s.shelf) (at_shelf now) r → ReadsImages
        → MakesAt u schema r (library_state s) (state_left s now (slice_set s.units.items u one))
    makes_at schema r now one is make image = record {
      units = s.fit;
      attached = is_within s u attached;
      holds = ap (slice_set s.units.items u) is;
      limit = refl;
      frames = refl;
      make = make;
      image_after = image now (unit_name (shelf.state now) u);
    }

    pub opens_at : (header : Header) → held_at s.units.items u ≡ Looked header → (r : Result ShelfFile Fault) (left one : Held)
        → one ≡ held_open r
        → OpensByHeader u s.limit (non_zero_usize_get s.frames) header r
        → OpensAt u header r (library_state s) (state_left s s.shelf (slice_set (slice_set s.units.items u left) u one))
    opens_at header looked r left one is by_header = record {
      units = s.fit;
      attached = is_within s u attached;
      looked = looked;
      holds = set_twice s.units.items u left one ∙ ap (slice_set s.units.items u) is;
      shelf = refl;
      faults = refl;
      limit = refl;
      frames = refl;
      by_header = by_header;
    }

    pub closes_at : (file : ShelfFile) → held_at s.units.items u ≡ Opened file
        → (result : Result (Unit {0}) Fault) (now : S) (left : Held) → left ≡ Nothing
        → ClosesOnShelf file (at_shelf s.shelf) (at_shelf now) result → ReadsImages
        → ClosesUnitAt u file result (library_state s) (state_left s now (slice_set s.units.items u left))
    closes_at file opened result now left is close image = record {
      units = s.fit;
      attached = is_within s u attached;
      opened = opened;
      holds = ap (slice_set s.units.items u) is;
      limit = refl;
      frames = refl;
      close = close;
      image_before = image s.shelf (unit_name (shelf.state s.shelf) u);
      image_after = image now (unit_name (shelf.state now) u);
    }

    pub looks_at : (look : Result HeaderLook Fault) (now : S) (one : Held) → one ≡ held_after look
        → LooksOnShelf u (at_shelf s.shelf) (at_shelf now) look
        → LooksAt u look (library_state s) (state_left s now (slice_set s.units.items u one))
    looks_at look now one is looks = record {
      units = s.fit;
      attached = is_within s u attached;
      holds = ap (slice_set s.units.items u) is;
      limit = refl;
      frames = refl;
      looks = looks;
    }

  pub attaches : (s : ShelfLibrary S shelf) (names : List (List ℕ)) (count : ℕ) (now : S) (held : List Held)
      → IsDistinct bytes_eq names → count ≡ length names
      → held ≡ replicate count Nothing → shelf.state now ≡ record (shelf.state s.shelf) { names = names }
      → shelf.fault_count now ≡ shelf.fault_count s.shelf → Attaches names count (library_state s) (state_left s now held)
  attaches s names count now held distinct counts nothing shelf_is faults = record {
    units = s.fit;
    distinct = distinct;
    counted = counts;
    held = nothing;
    shelf = shelf_is;
    faults = faults;
    limit = refl;
    frames = refl;
  }
