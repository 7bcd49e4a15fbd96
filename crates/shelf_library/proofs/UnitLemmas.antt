-- What a call on one unit promises of every name.
use Rattle.std.proofs.Common.{◌≡◌, ◌≢◌, ◌<◌, ℕ, ◌≤◌, false, List, length, Some, IsTrue, bytes_eq, sym, ap, subst, ◌∙◌, arith}
use Rattle.indexed_file.specs.Images.{LibraryMayLeave, LeavesOnly}
use Rattle.indexed_file.specs.Others.{SameUnit, LeavesOthers}
use Rattle.shelf_library.specs.Units.{frames_of_held}
use Rattle.shelf_library.specs.WorldLaws.{units_long}
use Rattle.shelf_library.proofs.Terms.{Keeps, ImagesGo, Stays, Trace, name_at, DeviceFile, unit_file, unit_name, shown_by, AreUnits, ChangesAt, IsTrulyHeld}
use Rattle.shelf_library.proofs.Terms.{LibraryState, held_at, counts_of_held, pages_asked_of, room_of_held, world_of, Held}
use Rattle.shelf_library.proofs.AsideLemmas.{differs, name_before, held_truly, truth_after, images_aside, held_aside, file_aside}

module _ {S : Type 0} (state : S → LibraryState) (u : ℕ) (one : Held) (old new : S)
    (are : AreUnits (state old).shelf (state old).held) (call : ChangesAt u one (state old).shelf (state new).shelf (state old).held (state new).held) where
  -- what is shown stays true, where it does of the unit's name
  pub keeps_at : (state new).limit ≡ (state old).limit → (state new).frames ≡ (state old).frames → (state old).faults ≤ (state new).faults
      → (IsTrue (state new).shelf.is_honest → IsTrulyHeld u (held_at (state old).held u) (state old).shelf → IsTrulyHeld u one (state new).shelf) → Keeps (shown_by state) old new
  keeps_at limit frames count truly = record {
    honest = call.others.honest;
    truth = λ honest name.
        truth_after u one (state old).shelf (state new).shelf (state old).held (state new).held are call
        (λ shown. truly honest (held_truly u one (state old).shelf (state new).shelf (state old).held (state new).held are call shown)) name;
    count = count;
    limit = ap Some limit;
    frames = ap Some frames;
  }

  -- another unit holds what it held, and its file is as it was
  unit_aside : (v : ℕ) → v < length (world_of (state old).shelf (state old).held).units → v ≢ u → SameUnit (shown_by state) v old new
  unit_aside v within other =
      let long = units_long (state old).shelf (state old).shelf.names (state old).held are.many in
      let many = are.many in
      let lies : v < length (state old).shelf.names = omega (arith, within, many, long) in
      let held = held_aside u one (state old).shelf (state new).shelf (state old).held (state new).held are call v other in
      record {
        pages = record {
          room = ap room_of_held held;
          counts = ap (counts_of_held (unit_file (state new).shelf v).seen) held
              ∙ ap (λ (bytes : DeviceFile). counts_of_held bytes.seen (held_at (state old).held v))
              (file_aside u one (state old).shelf (state new).shelf (state old).held (state new).held are call v lies other);
        };
        frames = ap frames_of_held held;
        asked = ap pages_asked_of held;
      }

  -- the images of other names stay
  image_aside : (name : List ℕ) → bytes_eq (unit_name (state old).shelf u) name ≡ false → Stays (shown_by state).moments old new name
  image_aside name apart =
      images_aside state old new name (call.others.others name (λ same. differs (unit_name (state old).shelf u) name apart (sym same)))

  -- both
  pub others_at : LeavesOthers (shown_by state) u old new
  others_at = record {
    units = unit_aside;
    images = subst (λ (own : List ℕ). (name : List ℕ) → bytes_eq own name ≡ false → Stays (shown_by state).moments old new name)
        (sym (name_before u one (state old).shelf (state new).shelf (state old).held (state new).held are call)) image_aside;
  }

  -- and those of its own name go so
  pub images_at : (trace : Trace) → LibraryMayLeave (shown_by state).moments trace.may old new (unit_name (state old).shelf u)
      → LeavesOnly (shown_by state).moments trace.only new (unit_name (state old).shelf u)
      → ImagesGo (shown_by state).moments (name_at (world_of (state old).shelf (state old).held) u) trace old new
  images_at trace may only =
      subst (λ (name : List ℕ). ImagesGo (shown_by state).moments name trace old new)
      (sym (name_before u one (state old).shelf (state new).shelf (state old).held (state new).held are call))
      (record {
        may = may;
        only = only;
        others = image_aside;
      })
