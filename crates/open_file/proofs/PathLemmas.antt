-- An open file with another path stands for the same file.
use Rattle.std.proofs.Common.{◌≡◌, ◌≢◌, ℕ, ◌+◌, ◌<◌, Bool, false, List, length, Option, Some, Ok, Err, refl, ap, sym, subst, ◌∙◌}
use Rattle.std.specs.Prelude.{Result, IsErrAnd}
use Rattle.std.proofs.lemmas.Result.{err_from_is_err_and}
use Rattle.io_state.specs.declared.fault.Fault.TheVariants.{Damage}
use Rattle.key_index.specs.Calls.{filled_with}
use Rattle.std.specs.Result.{is_err}
use Rattle.std.proofs.lemmas.List.{get_or_default}
use Rattle.io_state.specs.declared.fault.Fault.{Fault}
use Rattle.pages.specs.Answer.{IsAnswer}
use Rattle.std.specs.Prelude.{slice_index_or}
use Rattle.indexed_file.specs.File.{File}
use Rattle.pages.specs.PageMap.{PageMap}
use Rattle.key_index.specs.declared.alt_index.AltIndex.{AltIndex}
use Rattle.key_index.specs.declared.cursor.AltCursor.{AltCursor}
use Rattle.key_index.specs.declared.cursor.PrimeCursor.{PrimeCursor}
use Rattle.key_index.specs.Cursors.{AltBelongs}
use Rattle.open_file.specs.declared.open_file.OpenFile.{OpenFile}
use Rattle.open_file.specs.declared.path.Path.{Path}
use Rattle.open_file.specs.declared.path.Path.TheVariants.{Prime, Alternate}
use Rattle.open_file.specs.InOrder.{alt_entries, prime_entries}
use Rattle.open_file.specs.Paths.{IsOnPath, IsInPrime, IsInAlternate}
use Rattle.open_file.specs.Parts.{alternate_pages}
use Rattle.open_file.specs.Stands.{Stands}

-- the path is one of its index, as the file's rows have it
abbrev pub IsPathOf : Option Path → (opened : OpenFile) (pages : PageMap) (file : File) → Stands opened pages file → Type 0
IsPathOf path opened pages file stands =
    IsOnPath path opened.prime opened.alternates.items pages (prime_entries opened.schema stands.places file.rows) (λ j. alt_entries opened.schema (j + 1) file.rows) stands.parts.owns

pub with_path : (opened : OpenFile) (path : Option Path) (pages : PageMap) (file : File) (stands : Stands opened pages file) → IsPathOf path opened pages file stands
    → Stands (record opened { path = path }) pages file
with_path opened path pages file stands on =
    record {
      sound = stands.sound;
      stamp = stands.stamp;
      few = stands.few;
      places = stands.places;
      slots = stands.slots;
      placed = stands.placed;
      parts = stands.parts;
      on_path = on;
    }

-- only the path is another, and the prime index stays
pub same_prime_index : (old led : OpenFile) → led ≡ record old { path = led.path } → led.prime ≡ old.prime
same_prime_index old led is = ap (λ (o : OpenFile). o.prime) is

-- only the path is another, and then it is this one
pub put_path : (old led : OpenFile) (path : Option Path) (pages : PageMap) (file : File) → led ≡ record old { path = led.path } → (stands : Stands old pages file)
    → IsPathOf path old pages file stands → Stands (record led { path = path }) pages file
put_path old led path pages file is stands on =
    subst (λ (o : OpenFile). Stands (record o { path = path }) pages file) (sym is) (with_path old path pages file stands on)

-- what is so of the cursor of a path that is in the prime index
pub in_prime : (path : Option Path) (cursor : PrimeCursor) (fact : PrimeCursor → Type 0) → path ≡ Some (Prime cursor) → IsInPrime path fact → fact cursor
in_prime path cursor fact is behind = rw is at behind

-- the same of a path in the index of an alternate key
pub in_alternate : (path : Option Path) (j : ℕ) (cursor : AltCursor) (place : ℕ) (fact : AltCursor → Type 0) → path ≡ Some (Alternate j cursor) → IsInAlternate path place fact
    → (j ≡ place) × fact cursor
in_alternate path j cursor place fact is behind = rw is at behind

-- what stands at a place of a list does not depend on what is given where nothing does
only_one : (indexes : List AltIndex) (j : ℕ) (index other : AltIndex) → j < length indexes → index ≡ slice_index_or indexes j index → other ≡ slice_index_or indexes j other → index ≡ other
only_one indexes j index other within is again = is ∙ get_or_default indexes j index other within ∙ sym again

-- a cursor of the index of an alternate key is on its path
pub on_alternate : (opened : OpenFile) (pages : PageMap) (file : File) (stands : Stands opened pages file) (j : ℕ) (index : AltIndex) (cursor : AltCursor)
    → index ≡ slice_index_or opened.alternates.items j index
    → AltBelongs cursor index pages (alt_entries opened.schema (j + 1) file.rows) (alternate_pages stands.parts.owns j)
    → IsPathOf (Some (Alternate j cursor)) opened pages file stands
on_alternate opened pages file stands j index cursor is belongs other within again =
    subst (λ (i : AltIndex). AltBelongs cursor i pages (alt_entries opened.schema (j + 1) file.rows) (alternate_pages stands.parts.owns j))
    (only_one opened.alternates.items j index other within is again) belongs

-- what is so of an answer where one thing follows from another
pub answered : {X : Type 0} (result : Result X Fault) (P Q : X → Type 0) → ((x : X) → P x → Q x) → IsAnswer result P → IsAnswer result Q
answered (Ok x) P Q f given = record { answer = f x given.answer; no_damage = tt }
answered (Err fault) P Q f given = record { answer = tt; no_damage = given.no_damage }

-- what follows from an answer that is no fault
pub no_fault : {X : Type 0} (result : Result X Fault) (P : X → Type 0) (Q : Type 0) → is_err result ≡ false → ((x : X) → P x → Q) → IsAnswer result P → Q
no_fault (Ok x) P Q right f given = f x given.answer
no_fault (Err fault) P Q right f given = absurd (cc)

-- a fault that is no damage is handed on by a call that fills an entry
pub fails_filling : {E : Type 0} (entry : E) (r : Result Bool Fault) (fault : Fault) → IsErrAnd r (λ e. e ≡ fault) → fault ≢ Damage → (P : Option E → Type 0)
    → IsAnswer (filled_with entry r) P
fails_filling entry r fault was sound P =
    let p = err_from_is_err_and r was in
    rw (p.1, p.2) (record { answer = tt; no_damage = sound })

-- such a call has failed where its answer has
pub is_err_filled : {E : Type 0} (entry : E) (r : Result Bool Fault) → is_err (filled_with entry r) ≡ is_err r
is_err_filled entry (Ok found) = refl
is_err_filled entry (Err fault) = refl
