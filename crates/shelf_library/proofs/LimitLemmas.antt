-- What a call leaves of the limits of a library's open files.
use Rattle.std.proofs.Common.{◌≡◌, ◌==◌, ℕ, ◌<◌, List, [], length, IfOk, Result, Ok, Err, sym, ap, subst, ◌∙◌}
use Rattle.std.specs.Prelude.{slice_set}
use Rattle.shelf_library.proofs.Terms.{eqb-false, eqb-true, Fault, Schema, either, counts_of, Header, HasLimits, pages_behind, HeaderLook}
use Rattle.shelf_library.proofs.Terms.{ShelfFile, Attaches, MovesAt, ClosesUnitAt, LooksAt, MakesAt, OpensAt, ReadsAt, AreLimited}
use Rattle.shelf_library.proofs.Terms.{LibraryState, held_at, held_after, held_open, Held, Nothing, Opened}
use Rattle.shelf_library.proofs.WorldLemmas.{same_open, set_here, set_aside}
use Rattle.shelf_library.proofs.LookingLemmas.{no_file}
use Rattle.shelf_library.proofs.AttachLemmas.{holds_nothing}
use Rattle.page_alloc.specs.Joining.{page_limit}
use Rattle.page_alloc.specs.PagedFile.{most_held}

module _ (limit frames : ℕ) (held : List Held) (u : ℕ) (within : u < length held) (are : AreLimited limit frames held) where
  -- what unit u holds now has them, if it is an open file
  pub limits_set : (one : Held) → ((file : ShelfFile) → one ≡ Opened file → HasLimits limit frames file) → AreLimited limit frames (slice_set held u one)
  limits_set one has v file is =
      either (v == u) (HasLimits limit frames file)
      (λ hit. has file (sym (set_here held u one within) ∙ ap (held_at (slice_set held u one)) (sym (eqb-true v u hit)) ∙ is))
      (λ miss. are v file (sym (set_aside held u v one (eqb-false v u miss)) ∙ is))

  -- so has the file that it held, after a call that left them
  pub limits_after : (file after : ShelfFile) → held_at held u ≡ Opened file → page_limit (counts_of (pages_behind after)) ≡ page_limit (counts_of (pages_behind file))
      → most_held (pages_behind after) ≡ most_held (pages_behind file) → AreLimited limit frames (slice_set held u (Opened after))
  limits_after file after at limit_is cap_is =
      let had = are u file at in
      limits_set (Opened after) (λ other same. subst (λ (f : ShelfFile). HasLimits limit frames f) (same_open after other same)
      (record { limit = limit_is ∙ had.limit; cap = cap_is ∙ had.cap }))

module _ (u : ℕ) (file after : ShelfFile) (old new : LibraryState) where
  pub limits_moved : MovesAt u file after old new → (limit frames : ℕ) → AreLimited limit frames old.held → AreLimited limit frames new.held
  limits_moved call limit frames are =
      subst (λ (held : List Held). AreLimited limit frames held) (sym call.holds)
      (limits_after limit frames old.held u call.attached are file after call.opened call.moves.limit call.moves.cap)

  pub limits_read : ReadsAt u file after old new → (limit frames : ℕ) → AreLimited limit frames old.held → AreLimited limit frames new.held
  limits_read call limit frames are =
      subst (λ (held : List Held). AreLimited limit frames held) (sym call.holds)
      (limits_after limit frames old.held u call.attached are file after call.opened call.reads.pages.goes.limit call.reads.pages.goes.parts.cap)

-- a file that was opened or made
open_has : (limit frames : ℕ) (r : Result ShelfFile Fault) → IfOk r (HasLimits limit frames) → (file : ShelfFile) → held_open r ≡ Opened file → HasLimits limit frames file
open_has limit frames (Ok made) has file same = subst (λ (f : ShelfFile). HasLimits limit frames f) (same_open made file same) has
open_has limit frames (Err fault) has file same = absurd (cc)

pub limits_opened : (u : ℕ) (header : Header) (r : Result ShelfFile Fault) (old new : LibraryState) → OpensAt u header r old new
    → AreLimited new.limit new.frames old.held → AreLimited new.limit new.frames new.held
limits_opened u header r old new call are =
    subst (λ (held : List Held). AreLimited new.limit new.frames held) (sym call.holds)
    (limits_set new.limit new.frames old.held u call.attached are (held_open r) (open_has new.limit new.frames r call.by_header.limits))

pub limits_made : (u : ℕ) (schema : Schema) (r : Result ShelfFile Fault) (old new : LibraryState) → MakesAt u schema r old new
    → AreLimited new.limit new.frames old.held → AreLimited new.limit new.frames new.held
limits_made u schema r old new call are =
    subst (λ (held : List Held). AreLimited new.limit new.frames held) (sym call.holds)
    (limits_set new.limit new.frames old.held u call.attached are (held_open r) (open_has new.limit new.frames r call.make.limits))

-- no file is open in a unit that was looked at, shut or attached
pub limits_looked : (u : ℕ) (look : Result HeaderLook Fault) (old new : LibraryState) → LooksAt u look old new → (limit frames : ℕ)
    → AreLimited limit frames old.held → AreLimited limit frames new.held
limits_looked u look old new call limit frames are =
    subst (λ (held : List Held). AreLimited limit frames held) (sym call.holds)
    (limits_set limit frames old.held u call.attached are (held_after look) (λ file same. absurd (no_file look file same)))

pub limits_shut : (u : ℕ) (file : ShelfFile) (r : Result (Unit {0}) Fault) (old new : LibraryState) → ClosesUnitAt u file r old new → (limit frames : ℕ)
    → AreLimited limit frames old.held → AreLimited limit frames new.held
limits_shut u file r old new call limit frames are =
    subst (λ (held : List Held). AreLimited limit frames held) (sym call.holds)
    (limits_set limit frames old.held u call.attached are Nothing (λ other same. absurd (cc)))

pub limits_attached : (names : List (List ℕ)) (count : ℕ) (old new : LibraryState) → Attaches names count old new → (limit frames : ℕ) → AreLimited limit frames new.held
limits_attached names count old new call limit frames u file is =
    let e : Nothing ≡ Opened file = sym (holds_nothing names count old new call u) ∙ is in absurd (cc)

pub no_limits : {limit frames : ℕ} (held : List Held) → held ≡ [] → AreLimited limit frames held
no_limits held none u file is = let e : Nothing ≡ Opened file = sym (ap (λ (l : List Held). held_at l u) none) ∙ is in absurd (cc)
