-- A unit whose count of pages begins again.
use Rattle.std.proofs.Common.{◌≡◌, ℕ, ◌<◌, List, length, IsFalse, refl, ap, sym, subst, ◌∙◌, ◌==◌}
use Rattle.std.specs.Prelude.{slice_index_or, slice_set, Option, Some}
use Rattle.shelf_library.proofs.Terms.{eqb-false, eqb-true, non_zero_usize_get, either, DeviceFile, ShelfState, unit_file, Ghosts, named_of}
use Rattle.shelf_library.proofs.Terms.{HasLimits, is_broken_file, ShelfFile, shown_by, AreUnits, ChangesAt, FitsItsFile, IsTrulyHeld}
use Rattle.shelf_library.proofs.Terms.{AreLimited, IsReadyAt, LibraryState, held_at, IsTrulyOpen, counts_of_held, holding_of}
use Rattle.shelf_library.proofs.Terms.{pages_asked_of, room_of_held, world_of, Held, Looked, Nothing, Opened, ShelfLibrary}
use Rattle.shelf_library.proofs.StateLemmas.{is_within}
use Rattle.shelf_library.proofs.LimitLemmas.{limits_set}
use Rattle.std.proofs.lemmas.List.{get_or_default}
use Rattle.indexed_file.specs.UnitCalls.{RestartsCount}
use Rattle.shelf_library.specs.Standing.{recounted}
use Rattle.shelf_library.proofs.WorldLemmas.{same_open}
use Rattle.shelf_library.proofs.AsideLemmas.{rests, are_after, held_here, held_aside, world_same, truth_after, held_truly, images_aside}

-- an element that is read is the one that is there
read_held : (held : List Held) (u : ℕ) (one : Held) → u < length held → one ≡ slice_index_or held u one → held_at held u ≡ one
read_held held u one within is = get_or_default held u Nothing one within ∙ sym is

abbrev pub recount : Held → Held
recount Nothing = Nothing
recount (Looked header) = Looked header
recount (Opened file) = Opened (recounted file)

recounted_ready : (shelf : ShelfState) (u : ℕ) (file : ShelfFile) → IsReadyAt shelf u file → IsReadyAt shelf u (recounted file)
recounted_ready shelf u file at =
    let over = at.ready.over in
    let joined = over.joined in
    record {
      unit_is = at.unit_is;
      ready = record {
        over = record {
          joined = record {
            over = record { attached = joined.over.attached; counted = joined.over.counted; pages = joined.over.pages; clean = joined.over.clean };
            counted = joined.counted;
            header = joined.header;
          };
          clean = λ unchanged. record { clean = (over.clean unchanged).clean };
          gate = over.gate;
        };
        shaped = at.ready.shaped;
      };
    }

recount_fits : (shelf : ShelfState) (held : List Held) (u : ℕ) (one : Held) → AreUnits shelf held → held_at held u ≡ one
    → FitsItsFile u (recount one) shelf
recount_fits shelf held u Nothing are is = record { looked = λ header e. absurd (cc); ready = λ file e. absurd (cc) }
recount_fits shelf held u (Looked header) are is = record { looked = λ other e. are.looked u other (is ∙ e); ready = λ file e. absurd (cc) }
recount_fits shelf held u (Opened file) are is = record {
  looked = λ header e. absurd (cc);
  ready = λ other e. subst (λ f. IsReadyAt shelf u f) (same_open (recounted file) other e) (recounted_ready shelf u file (are.ready u file is));
}

recounted_truly : (shelf : ShelfState) (file : ShelfFile) (bytes : DeviceFile) → IsTrulyOpen shelf file bytes → IsTrulyOpen shelf (recounted file) bytes
recounted_truly shelf file bytes truly = record {
  rows = truly.rows;
  stands = record { stands = truly.stands.stands; sound = truly.stands.sound };
  closed = truly.closed;
}

recount_truly : (shelf : ShelfState) (u : ℕ) (one : Held) → IsTrulyHeld u one shelf → IsTrulyHeld u (recount one) shelf
recount_truly shelf u Nothing truly = record { closed = truly.closed; opened = λ file e. absurd (cc) }
recount_truly shelf u (Looked header) truly = record { closed = truly.closed; opened = λ file e. absurd (cc) }
recount_truly shelf u (Opened file) truly = record {
  closed = truly.closed;
  opened = λ other e unbroken.
      let same = same_open (recounted file) other e in
      subst (λ f. IsTrulyOpen shelf f (unit_file shelf u)) same (recounted_truly shelf file (unit_file shelf u) (truly.opened file refl (subst (λ f. IsFalse (is_broken_file f)) (sym same) unbroken)));
}

recount_asked : (one : Held) → pages_asked_of (recount one) ≡ 0
recount_asked Nothing = refl
recount_asked (Looked header) = refl
recount_asked (Opened file) = refl

recount_room : (one : Held) → room_of_held (recount one) ≡ room_of_held one
recount_room Nothing = refl
recount_room (Looked header) = refl
recount_room (Opened file) = refl

recount_counts : (seen : Option (List ℕ)) (one : Held) → counts_of_held seen (recount one) ≡ counts_of_held seen one
recount_counts seen Nothing = refl
recount_counts seen (Looked header) = refl
recount_counts seen (Opened file) = refl

recount_holding : (shelf : ShelfState) (one : Held) → holding_of shelf (recount one) ≡ holding_of shelf one
recount_holding shelf Nothing = refl
recount_holding shelf (Looked header) = refl
recount_holding shelf (Opened file) = refl

-- a unit that holds no open file is as it was
pub recount_none : (one : Held) → ((file : ShelfFile) → one ≡ Opened file → ⊥) → recount one ≡ one
recount_none Nothing none = refl
recount_none (Looked header) none = refl
recount_none (Opened file) none = absurd (none file refl)

pub recounts : {S : Type 0} (state : S → LibraryState) (u : ℕ) (old new : S)
    → AreUnits (state old).shelf (state old).held → ChangesAt u (recount (held_at (state old).held u)) (state old).shelf (state new).shelf (state old).held (state new).held
    → (state new).shelf ≡ (state old).shelf → (state new).faults ≡ (state old).faults → (state new).limit ≡ (state old).limit → (state new).frames ≡ (state old).frames
    → RestartsCount (shown_by state) u old new
recounts {S} state u old new are call shelf faults limit frames =
    let held = (state old).held in
    let now = (state new).held in
    let one = recount (held_at held u) in
    let here = held_here u one (state old).shelf (state new).shelf held now are call in
    let aside = held_aside u one (state old).shelf (state new).shelf held now are call in
    record {
      asked = ap pages_asked_of here ∙ recount_asked (held_at held u);
      others = λ v other. ap pages_asked_of (aside v other);
      world = world_same u one (state old).shelf (state new).shelf held now are call
          (ap (λ s. holding_of s one) shelf ∙ recount_holding (state old).shelf (held_at held u))
          (ap (λ s. named_of (unit_file s u).seen) shelf);
      room = λ v. either (v == u) (room_of_held (held_at now v) ≡ room_of_held (held_at held v))
          (λ hit. let at = eqb-true v u hit in
          ap (λ w. room_of_held (held_at now w)) at ∙ ap room_of_held here ∙ recount_room (held_at held u) ∙ ap (λ w. room_of_held (held_at held w)) (sym at))
          (λ miss. ap room_of_held (aside v (eqb-false v u miss)));
      counts = λ v. ap (λ s. counts_of_held (unit_file s v).seen (held_at now v)) shelf
          ∙ (let seen = (unit_file (state old).shelf v).seen in
          either (v == u) (counts_of_held seen (held_at now v) ≡ counts_of_held seen (held_at held v))
          (λ hit. let at = eqb-true v u hit in
          ap (λ w. counts_of_held seen (held_at now w)) at ∙ ap (counts_of_held seen) here ∙ recount_counts seen (held_at held u) ∙ ap (λ w. counts_of_held seen (held_at held w)) (sym at))
          (λ miss. ap (counts_of_held seen) (aside v (eqb-false v u miss))));
      honest = ap (λ s. s.is_honest) shelf;
      truth = truth_after u one (state old).shelf (state new).shelf held now are call
          (λ truly. subst (λ s. IsTrulyHeld u one s) (sym shelf)
          (recount_truly (state old).shelf u (held_at held u) (held_truly u one (state old).shelf (state new).shelf held now are call truly)));
      count = faults;
      limit = ap Some limit;
      frames = ap Some frames;
      images = λ name. images_aside state old new name (ap (λ s. s.file name) shelf);
    }

recount_limits : (limit frames : ℕ) (one : Held) (after : ShelfFile)
    → ((file : ShelfFile) → one ≡ Opened file → HasLimits limit frames file) → recount one ≡ Opened after → HasLimits limit frames after
recount_limits limit frames Nothing after has is = absurd (cc)
recount_limits limit frames (Looked header) after has is = absurd (cc)
recount_limits limit frames (Opened file) after has is =
    let had = has file refl in
    subst (λ (f : ShelfFile). HasLimits limit frames f) (same_open (recounted file) after is) (record { limit = had.limit; cap = had.cap })

-- ---- the call

module _ {S : Type 0} (shelf : Ghosts S) (s : ShelfLibrary S shelf) (u : ℕ)
    (attached : u < length (world_of (shelf.state s.shelf) s.units.items).units)
    (one : Held) (read : one ≡ slice_index_or s.units.items u one) (now : Held) (is : now ≡ recount one) where
  abbrev was : Held
  was = held_at s.units.items u

  held_was : was ≡ one
  held_was = read_held s.units.items u one (is_within shelf s u attached) read

  pub restart : ChangesAt u (recount was) (shelf.state s.shelf) (shelf.state s.shelf) s.units.items (slice_set s.units.items u now)
  restart = record {
    attached = is_within shelf s u attached;
    others = rests (shelf.state s.shelf) u;
    holds = ap (λ x. slice_set s.units.items u x) (is ∙ sym (ap recount held_was));
  }

  pub restart_units : AreUnits (shelf.state s.shelf) (slice_set s.units.items u now)
  restart_units = are_after u (recount was) _ _ _ _ s.fit restart (recount_fits _ s.units.items u was s.fit refl)

  pub restart_limits : AreLimited s.limit (non_zero_usize_get s.frames) (slice_set s.units.items u now)
  restart_limits = limits_set _ _ s.units.items u (is_within shelf s u attached) s.limits now (λ after same.
      recount_limits _ _ one after (λ file at. s.limits u file (held_was ∙ at)) (sym is ∙ same))
