-- What a call that opens a unit promises, from what it leaves of the unit.
use Rattle.std.proofs.Common.{◌≡◌, ◌≢◌, ℕ, true, false, Bool, IsTrue, IsFalse, IfOk, IfErr, OnOk, OnErr, Result, Ok, Err, refl, sym, ap, subst, ◌∙◌, if◌then◌else◌}
use Rattle.indexed_file.specs.Images.{CallGoes}
use Rattle.indexed_file.specs.Calls.{MayAnswerShut}
use Rattle.indexed_file.specs.UnitCalls.{LacksMemoryAlone}
use Rattle.shelf_library.proofs.Terms.{Fault, Damage, Memory, Schema, Keeps, Trace, OpensUnit, Broken, HasOpened, Shut, World, holding_at, is_broken}
use Rattle.shelf_library.proofs.Terms.{is_looked, is_open, schema_at, schema_in, ShelfState, unit_file, named_of, Header, file_read_off, is_broken_file}
use Rattle.shelf_library.proofs.Terms.{schema_behind, ShelfFile, shown_by, AreUnits, ChangesAt, FitsItsFile, IsReadyAt, LibraryState}
use Rattle.shelf_library.proofs.Terms.{answer_open, held_open, holding_of, world_of, Held, Looked, Nothing, Opened}
use Rattle.shelf_library.proofs.WorldLemmas.{same_open}
use Rattle.shelf_library.proofs.AsideLemmas.{only_here, holding_after, named_after, named_before, images_aside}
use Rattle.shelf_library.proofs.UnitLemmas.{others_at}

-- ---- what a unit holds

pub nothing_fits : (u : ℕ) (shelf : ShelfState) → FitsItsFile u Nothing shelf
nothing_fits u shelf = record { looked = λ header is. absurd (cc); ready = λ file is. absurd (cc) }

pub open_fits : (u : ℕ) (file : ShelfFile) (shelf : ShelfState) → IsReadyAt shelf u file → FitsItsFile u (Opened file) shelf
open_fits u file shelf ready = record { looked = λ header is. absurd (cc); ready = λ other is. subst (IsReadyAt shelf u) (same_open file other is) ready }

-- a file that is not broken is open
pub open_holding : (shelf : ShelfState) (file : ShelfFile) → IsFalse (is_broken_file file) → holding_of shelf (Opened file) ≡ HasOpened (schema_behind file) (file_read_off file shelf)
open_holding shelf file unbroken = rw unbroken refl

-- the unit held no open file, and held the header that a look had accepted
pub was_looked : (shelf : ShelfState) (one : Held) → IsTrue (is_looked (holding_of shelf one)) → (header : Header) × (one ≡ Looked header)
was_looked shelf Nothing is = absurd (cc)
was_looked shelf (Looked header) is = (header, refl)
was_looked shelf (Opened file) is = absurd (never (is_broken_file file) is)
  where
    never : (broken : Bool) → IsTrue (is_looked (if broken then Broken (schema_behind file) else HasOpened (schema_behind file) (file_read_off file shelf))) → ⊥
    never true is = let e : false ≡ true = is in cc
    never false is = let e : false ≡ true = is in cc

-- ---- a unit that was opened

module _ {S : Type 0} (state : S → LibraryState) (u : ℕ) (old new : S) (r : Result ShelfFile Fault)
    (are : AreUnits (state old).shelf (state old).held) (call : ChangesAt u (held_open r) (state old).shelf (state new).shelf (state old).held (state new).held) where
  abbrev before : World
  before = world_of (state old).shelf (state old).held

  abbrev after : World
  after = world_of (state new).shelf (state new).held

  pub holding_now : holding_at after u ≡ holding_of (state new).shelf (held_open r)
  holding_now = holding_after u (held_open r) (state old).shelf (state new).shelf (state old).held (state new).held are call

  shut : (x : Result ShelfFile Fault) → holding_at after u ≡ holding_of (state new).shelf (held_open x) → OnErr (answer_open x) (holding_at after u ≡ Shut)
  shut (Ok file) is = tt
  shut (Err fault) is = is

  -- it is open, with this schema
  pub is_opened : (schema : Schema) (x : Result ShelfFile Fault) → x ≡ r → IfOk x (λ file. IsFalse (is_broken_file file) × (schema_behind file ≡ schema))
      → OnOk (answer_open x) (IsTrue (is_open (holding_at after u)) × (schema_at after u ≡ schema))
  is_opened schema (Err fault) is fine = tt
  is_opened schema (Ok file) is fine =
      let holds : holding_at after u ≡ HasOpened (schema_behind file) (file_read_off file (state new).shelf) =
      holding_now ∙ ap (λ x. holding_of (state new).shelf (held_open x)) (sym is) ∙ open_holding (state new).shelf file fine.0 in
      (ap is_open holds, ap schema_in holds ∙ fine.1)

  unbroken : (x : Result ShelfFile Fault) → x ≡ r → IfOk x (λ file. IsFalse (is_broken_file file)) → OnOk (answer_open x) (IsFalse (is_broken (holding_at after u)))
  unbroken (Err fault) is fine = tt
  unbroken (Ok file) is fine = ap is_broken (holding_now ∙ ap (λ x. holding_of (state new).shelf (held_open x)) (sym is) ∙ open_holding (state new).shelf file fine)

  faulted : (x : Result ShelfFile Fault) → IfErr x (MayAnswerShut (shown_by state) u old new) → IfErr (answer_open x) (MayAnswerShut (shown_by state) u old new)
  faulted (Ok file) may = tt
  faulted (Err fault) may = may

  spared : (x : Result ShelfFile Fault) → IfErr x (λ fault. fault ≢ Damage) → IfErr (answer_open x) (λ fault. fault ≢ Damage)
  spared (Ok file) other = tt
  spared (Err fault) other = other

  asked : (x : Result ShelfFile Fault) → answer_open x ≡ Err Memory → x ≡ Err Memory
  asked (Ok file) is = absurd (cc)
  asked (Err fault) is = let same : fault ≡ Memory = cc in ap Err same

  -- nothing was asked of the shelf
  abbrev AsksNothing : Type 0
  AsksNothing = ((state new).shelf ≡ (state old).shelf) × ((state new).faults ≡ (state old).faults)

  lacks_alone : AsksNothing → LacksMemoryAlone (shown_by state) u old new
  lacks_alone same = record {
    named =
        named_after u (held_open r) (state old).shelf (state new).shelf (state old).held (state new).held are call
        ∙ ap (λ (s : ShelfState). named_of (unit_file s u).seen) same.0
        ∙ sym (named_before u (held_open r) (state old).shelf (state new).shelf (state old).held (state new).held are call);
    images = λ name. images_aside state old new name (ap (λ (s : ShelfState). s.file name) same.0);
    count = same.1;
  }

  pub opens_unit : (trace : Trace) → IfOk r (λ file. IsFalse (is_broken_file file)) → IfErr r (MayAnswerShut (shown_by state) u old new)
      → (IsTrue (state new).shelf.is_honest → IfErr r (λ fault. fault ≢ Damage)) → (r ≡ Err Memory → AsksNothing)
      → CallGoes (shown_by state) u trace old new → Keeps (shown_by state) old new → OpensUnit (shown_by state) u trace old new (answer_open r)
  opens_unit trace fine may undamaged memory images keeps = record {
    err = shut r holding_now;
    unbroken = unbroken r refl fine;
    only = only_here u (held_open r) (state old).shelf (state new).shelf (state old).held (state new).held are call;
    fault = faulted r may;
    undamaged = λ honest. spared r (undamaged honest);
    memory = λ is. lacks_alone (memory (asked r is));
    images = images;
    others = others_at state u (held_open r) old new are call;
    keeps = keeps;
  }
