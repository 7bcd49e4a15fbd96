-- The units of a session's library, where one of its files is changed.
use Rattle.std.proofs.Common.{◌≡◌, ◌≢◌, ◌⊎◌, inl, inr, ℕ, zero, suc, ◌<◌, ◌≤◌, ◌+◌, ◌||◌, nat_lt, get_or, Bool, true, false, List, [], ◌∷◌, ◌++◌, length, map, slice_set, slice_index_or, Option, Some, None, Ok, is_some, refl, sym, ap, ◌∙◌, subst, arith, true≢false, length-append}
use Rattle.std.specs.Prelude.{bytes_eq, IsTrue, replicate, eqb}
use Rattle.std.specs.List.{list_any, position, position_from}
use Rattle.std.proofs.lemmas.Iterator.Adapters.{position_from-zero}
use Rattle.std.proofs.lemmas.List.Quantifiers.{position-Some}
use Rattle.std.proofs.lemmas.Slice.Eq.{bytes_eq-Decides}
use Rattle.indexed_file.proofs.TestLemmas.{either}
use Rattle.std.proofs.lemmas.Bool.{cases_eq, ltb-true, ltb-false}
use Rattle.std.proofs.lemmas.List.{get_or-set_other, length-set, length-map, get_or-map}
use Rattle.arrayvec.specs.ArrayString.{ArrayString}
use Rattle.indexed_file.specs.Shown.{Shown}
use Rattle.indexed_file.specs.World.{World, FileUnit, Absent, Holding, Shut, Looked, Opened, Broken, OnlyAt, named_in, unit_at, name_at, holding_at, is_open, is_broken, schema_in}
use Rattle.indexed_file.specs.Growing.{AddsUnit}
use Rattle.verbs.specs.Held.{Held}
use Rattle.verbs.specs.Connector.{Session}
use Rattle.verbs.specs.Fits.{Fits, has_file}
use Rattle.verbs.proofs.WorldLemmas.{name_after}
use Rattle.record_layout.specs.declared.schema.KeyPart.{KeyPart}
use Rattle.record_layout.specs.Schema.{IsSchema, AreKeys}
use Rattle.serve.specs.Request.{Described}
use Rattle.serve.specs.Files.{NumberedFile, FileTable, Files, AreNumberedFiles, AreSessionFiles, IsOrder, IsUnitOf, IsVacant, PlaceFits, file_of_number, is_open_file, is_open_in}
use Rattle.serve.specs.Fields.{AreNamed}
use Rattle.serve.specs.Steps.{IsShutUnit, file_described, schema_described}
use Rattle.serve.proofs.FilesLemmas.{at_same, at_other, none_some}
use Rattle.serve.proofs.OrderLemmas.{empty_order}

abbrev no_unit : FileUnit
no_unit = record { name = []; named = Absent; holding = Shut }

-- ---- what a call on one unit leaves of the others

unit_elsewhere : (old new : World) (u v : ℕ) → OnlyAt u old new → v ≢ u → unit_at new v ≡ unit_at old v
unit_elsewhere old new u v only other = ap (λ (w : World). unit_at w v) only ∙ get_or-set_other old.units u v _ no_unit other

as_many_units : (old new : World) (u : ℕ) → OnlyAt u old new → length new.units ≡ length old.units
as_many_units old new u only = ap (λ (w : World). length w.units) only ∙ length-set old.units u _

abbrev pub unit_names : World → List (List ℕ)
unit_names world = map (λ unit. unit.name) world.units

names_set : (units : List FileUnit) (u : ℕ) (unit : FileUnit) → unit.name ≡ (slice_index_or units u no_unit).name → map (λ x. x.name) (slice_set units u unit) ≡ map (λ x. x.name) units
names_set [] u unit same = refl
names_set (x ∷ units) zero unit same = ap (λ (name : List ℕ). name ∷ map (λ x. x.name) units) same
names_set (x ∷ units) (suc u) unit same = ap (λ (names : List (List ℕ)). x.name ∷ names) (names_set units u unit same)

names_after : (old new : World) (u : ℕ) → OnlyAt u old new → unit_names new ≡ unit_names old
names_after old new u only = ap unit_names only ∙ names_set old.units u _ refl

-- ---- a unit that stays

pub fits_elsewhere : (held : Held) (old new : World) (v : ℕ) → unit_at new v ≡ unit_at old v → v < length new.units → Fits held old v → Fits held new v
fits_elsewhere held old new v same attached fits = record {
  attached = attached;
  open_where = ap (λ (unit : FileUnit). is_open unit.holding) same ∙ fits.open_where;
  same_schema = λ is. ap (λ (unit : FileUnit). schema_in unit.holding) same ∙ fits.same_schema (sym (ap (λ (unit : FileUnit). is_open unit.holding) same) ∙ is);
  broken = λ is. fits.broken (sym (ap (λ (unit : FileUnit). is_broken unit.holding) same) ∙ is);
  missing = fits.missing;
  key = fits.key;
}

pub unit_stays : (file : NumberedFile) (old new : World) → unit_at new file.unit ≡ unit_at old file.unit → file.unit < length new.units → IsUnitOf old file → IsUnitOf new file
unit_stays file old new same attached is = record {
  fits = fits_elsewhere file.held old new file.unit same attached is.fits;
  name = ap (λ (unit : FileUnit). unit.name) same ∙ is.name;
}

-- ---- the file of a place goes with its unit

pub place_fits : {S : Type 0} (shown : Shown S) (files : Files S) (number : ℕ) (place : Option NumberedFile) → AreSessionFiles shown files → file_of_number files.table number ≡ place
    → PlaceFits (shown.world files.library) place
place_fits shown files number None are at = tt
place_fits shown files number (Some file) are at = (are.units number file at).fits

abbrev file_or : NumberedFile → Option NumberedFile → NumberedFile
file_or d None = d
file_or d (Some file) = file

some_file : (a b : NumberedFile) → Some a ≡ Some b → a ≡ b
some_file a b same = ap (file_or a) same

-- ---- a file performs a statement

module _ {S : Type 0} (shown : Shown S) (old : Files S) (number : ℕ) (before after : NumberedFile) (library : S) (table : FileTable)
    (are : AreSessionFiles shown old) (numbers : AreNumberedFiles table) (at : file_of_number old.table number ≡ Some before)
    (places : table.places ≡ slice_set old.table.places number (Some after)) (below : number < 64)
    (name : after.name ≡ before.name) (unit : after.unit ≡ before.unit)
    (only : OnlyAt before.unit (shown.world old.library) (shown.world library))
    (fits : Fits after.held (shown.world library) after.unit) where
  abbrev world : World
  world = shown.world old.library

  abbrev world_after : World
  world_after = shown.world library

  here : file_of_number table number ≡ Some after
  here = ap (λ (p : List (Option NumberedFile)). slice_index_or p number None) places ∙ at_same old.table.places number (Some after) (omega (arith, below, are.table.places))

  there : (n : ℕ) → n ≢ number → file_of_number table n ≡ file_of_number old.table n
  there n apart = ap (λ (p : List (Option NumberedFile)). slice_index_or p n None) places ∙ at_other old.table.places number n (Some after) apart

  -- another number's file is another unit
  unit_apart : (n : ℕ) (file : NumberedFile) → n ≢ number → file_of_number old.table n ≡ Some file → file.unit ≢ before.unit
  unit_apart n file apart is same =
      apart (are.table.names n number file before is at
      (sym (are.units n file is).name ∙ ap (name_at world) same ∙ (are.units number before at).name))

  other_unit : (n : ℕ) (file : NumberedFile) → n ≢ number → file_of_number old.table n ≡ Some file → IsUnitOf world_after file
  other_unit n file apart is =
      let was = are.units n file is in
      unit_stays file world world_after (unit_elsewhere world world_after before.unit file.unit only (unit_apart n file apart is))
      (let many = as_many_units world world_after before.unit only in let there = was.fits.attached in omega (arith, many, there)) was

  this_unit : IsUnitOf world_after after
  this_unit =
      let was = are.units number before at in
      record {
        fits = fits;
        name = ap (name_at world_after) unit ∙ name_after before.unit world world_after was.fits.attached only ∙ was.name ∙ sym name;
      }

  units_then : (n : ℕ) (file : NumberedFile) → (n ≡ number) ⊎ (n ≢ number) → file_of_number table n ≡ Some file → IsUnitOf world_after file
  units_then n file (inl same) is =
      subst (λ (f : NumberedFile). IsUnitOf world_after f) (some_file after file (sym here ∙ ap (file_of_number table) (sym same) ∙ is)) this_unit
  units_then n file (inr apart) is = other_unit n file apart (sym (there n apart) ∙ is)

  vacant_then : (u : ℕ) → IsVacant table u → is_open (holding_at world_after u) ≡ false
  vacant_then u vacant =
      let apart : u ≢ before.unit = λ same. vacant number after here (unit ∙ sym same) in
      let was : IsVacant old.table u = λ n file is same. by n file (cases_eq n number) is same in
      ap (λ (x : FileUnit). is_open x.holding) (unit_elsewhere world world_after before.unit u only apart) ∙ are.vacant u was
    where
      by : (n : ℕ) (file : NumberedFile) → (n ≡ number) ⊎ (n ≢ number) → file_of_number old.table n ≡ Some file → file.unit ≡ u → ⊥
      by n file (inl here_too) is same =
          let this : before ≡ file = some_file before file (sym at ∙ ap (file_of_number old.table) (sym here_too) ∙ is) in
          vacant number after here (unit ∙ ap (λ (f : NumberedFile). f.unit) this ∙ same)
      by n file (inr other) is same = vacant n file (there n other ∙ is) same

  pub files_then : AreSessionFiles shown (record { library = library; table = table })
  files_then = record { table = numbers; units = λ n file is. units_then n file (cases_eq n number) is; vacant = vacant_then }

  pub named_then : (names : List ArrayString) → unit_names world ≡ map (λ n. n.bytes) names → AreNamed shown (record { library = library; table = table }) names
  named_then names named = record { files_are = files_then; names_are = names_after world world_after before.unit only ∙ named }

-- ---- a file is given up

-- a closed file's unit is not open
pub closed_unit : {S : Type 0} (shown : Shown S) (files : Files S) (number : ℕ) (file : NumberedFile) → AreSessionFiles shown files → file_of_number files.table number ≡ Some file → is_open_file file ≡ false
    → is_open (holding_at (shown.world files.library) file.unit) ≡ false
closed_unit shown files number file are at closed = (are.units number file at).fits.open_where ∙ by file.held.connector.session closed
  where
    by : (session : Option Session) → is_some session ≡ false → has_file session ≡ false
    by None none = refl
    by (Some session) none = absurd (true≢false none)

module _ {S : Type 0} (shown : Shown S) (old : Files S) (number : ℕ) (file : NumberedFile) (library : S) (table : FileTable)
    (are : AreSessionFiles shown old) (numbers : AreNumberedFiles table) (at : file_of_number old.table number ≡ Some file)
    (places : table.places ≡ slice_set old.table.places number None) (below : number < 64) (closed : is_open_file file ≡ false)
    (same_world : shown.world library ≡ shown.world old.library) where
  none_here : file_of_number table number ≡ None
  none_here = ap (λ (p : List (Option NumberedFile)). slice_index_or p number None) places ∙ at_same old.table.places number None (omega (arith, below, are.table.places))

  others_there : (n : ℕ) → n ≢ number → file_of_number table n ≡ file_of_number old.table n
  others_there n apart = ap (λ (p : List (Option NumberedFile)). slice_index_or p n None) places ∙ at_other old.table.places number n None apart

  units_left : (n : ℕ) (other : NumberedFile) → (n ≡ number) ⊎ (n ≢ number) → file_of_number table n ≡ Some other → IsUnitOf (shown.world library) other
  units_left n other (inl same) is = absurd (none_some (sym none_here ∙ ap (file_of_number table) (sym same) ∙ is))
  units_left n other (inr apart) is =
      subst (λ (w : World). IsUnitOf w other) (sym same_world) (are.units n other (sym (others_there n apart) ∙ is))

  shut_here : is_open (holding_at (shown.world old.library) file.unit) ≡ false
  shut_here = closed_unit shown old number file are at closed

  vacant_left : (u : ℕ) → IsVacant table u → is_open (holding_at (shown.world library) u) ≡ false
  vacant_left u vacant = ap (λ (w : World). is_open (holding_at w u)) same_world ∙ by (cases_eq u file.unit)
    where
      by : (u ≡ file.unit) ⊎ (u ≢ file.unit) → is_open (holding_at (shown.world old.library) u) ≡ false
      by (inl same) = ap (λ (v : ℕ). is_open (holding_at (shown.world old.library) v)) same ∙ shut_here
      by (inr apart) = are.vacant u (λ n other is same. by_number n other (cases_eq n number) is same)
        where
          by_number : (n : ℕ) (other : NumberedFile) → (n ≡ number) ⊎ (n ≢ number) → file_of_number old.table n ≡ Some other → other.unit ≡ u → ⊥
          by_number n other (inl here) is same =
              apart (sym same ∙ ap (λ (f : NumberedFile). f.unit) (sym (some_file file other (sym at ∙ ap (file_of_number old.table) (sym here) ∙ is))))
          by_number n other (inr far) is same = vacant n other (others_there n far ∙ is) same

  pub named_left : (names : List ArrayString) → unit_names (shown.world old.library) ≡ map (λ n. n.bytes) names → AreNamed shown (record { library = library; table = table }) names
  named_left names named = record {
    files_are = record { table = numbers; units = λ n other is. units_left n other (cases_eq n number) is; vacant = vacant_left };
    names_are = ap unit_names same_world ∙ named;
  }

-- ---- a file is described

broken_open : (holding : Holding) → IsTrue (is_broken holding) → is_open holding ≡ true
broken_open Shut is = absurd (true≢false (sym is))
broken_open (Looked schema) is = absurd (true≢false (sym is))
broken_open (Opened schema file) is = absurd (true≢false (sym is))
broken_open (Broken schema) is = refl

some_keys : (keys : List KeyPart) → AreKeys keys → 0 < length keys
some_keys [] are = absurd are
some_keys (prime ∷ alternates) are = omega arith

lt_or : {v n : ℕ} (b : Bool) → nat_lt v n ≡ b → (v < n) ⊎ (n ≤ v)
lt_or {v} {n} true is = inl (ltb-true v n is)
lt_or {v} {n} false is = inr (ltb-false v n is)

any-map : {A B : Type 0} (test : B → Bool) (f : A → B) (xs : List A) → list_any test (map f xs) ≡ list_any (λ (x : A). test (f x)) xs
any-map test f [] = refl
any-map test f (x ∷ xs) = ap (λ (b : Bool). test (f x) || b) (any-map test f xs)

-- a closed connector goes with a unit that is shut
pub fits_at_start : (d : Described) (world : World) (u : ℕ) → u < length world.units → is_open (holding_at world u) ≡ false → IsSchema (schema_described d)
    → Fits (file_described d u).held world u
fits_at_start d world u attached shut schema = record {
  attached = attached;
  open_where = shut;
  same_schema = λ is. absurd (true≢false (sym is ∙ shut));
  broken = λ is. absurd (true≢false (sym (broken_open (holding_at world u) is) ∙ shut));
  missing = refl;
  key = some_keys (schema_described d).keys schema.keys;
}

-- the number's file is the one that was described, over a library that has its unit
module _ {S : Type 0} (shown : Shown S) (old : Files S) (d : Described) (u : ℕ) (table : FileTable)
    (are : AreSessionFiles shown old) (numbers : AreNumberedFiles table) (free : file_of_number old.table d.file ≡ None)
    (places : table.places ≡ slice_set old.table.places d.file (Some (file_described d u))) (below : d.file < 64)
    (unit : IsShutUnit (shown.world old.library) u d.name) (schema : IsSchema (schema_described d)) where
  new_here : file_of_number table d.file ≡ Some (file_described d u)
  new_here = ap (λ (p : List (Option NumberedFile)). slice_index_or p d.file None) places ∙ at_same old.table.places d.file (Some (file_described d u)) (omega (arith, below, are.table.places))

  old_there : (n : ℕ) → n ≢ d.file → file_of_number table n ≡ file_of_number old.table n
  old_there n apart = ap (λ (p : List (Option NumberedFile)). slice_index_or p n None) places ∙ at_other old.table.places d.file n (Some (file_described d u)) apart

  units_with : (n : ℕ) (file : NumberedFile) → (n ≡ d.file) ⊎ (n ≢ d.file) → file_of_number table n ≡ Some file → IsUnitOf (shown.world old.library) file
  units_with n file (inl same) is =
      subst (λ (f : NumberedFile). IsUnitOf (shown.world old.library) f) (some_file (file_described d u) file (sym new_here ∙ ap (file_of_number table) (sym same) ∙ is))
      (record { fits = fits_at_start d (shown.world old.library) u unit.attached unit.shut schema; name = unit.name_is })
  units_with n file (inr apart) is = are.units n file (sym (old_there n apart) ∙ is)

  vacant_with : (v : ℕ) → IsVacant table v → is_open (holding_at (shown.world old.library) v) ≡ false
  vacant_with v vacant = are.vacant v (λ n file is. by n file (cases_eq n d.file) is)
    where
      by : (n : ℕ) (file : NumberedFile) → (n ≡ d.file) ⊎ (n ≢ d.file) → file_of_number old.table n ≡ Some file → file.unit ≢ v
      by n file (inl same) is = absurd (none_some (sym free ∙ ap (file_of_number old.table) (sym same) ∙ is))
      by n file (inr apart) is = vacant n file (old_there n apart ∙ is)

  pub named_with : (names : List ArrayString) → unit_names (shown.world old.library) ≡ map (λ n. n.bytes) names → AreNamed shown (record { library = old.library; table = table }) names
  named_with names named = record {
    files_are = record { table = numbers; units = λ n file is. units_with n file (cases_eq n d.file) is; vacant = vacant_with };
    names_are = named;
  }

-- ---- a unit is given

pub unit_in_front : (units : List FileUnit) (one : FileUnit) (v : ℕ) → v < length units → slice_index_or (units ++ one ∷ []) v no_unit ≡ slice_index_or units v no_unit
unit_in_front [] one v within = absurd (omega (arith, within))
unit_in_front (x ∷ units) one zero within = refl
unit_in_front (x ∷ units) one (suc v) within = unit_in_front units one v (omega (arith, within))

pub unit_behind : (units : List FileUnit) (one : FileUnit) → slice_index_or (units ++ one ∷ []) (length units) no_unit ≡ one
unit_behind [] one = refl
unit_behind (x ∷ units) one = unit_behind units one

past_units : (units : List FileUnit) (v : ℕ) → length units ≤ v → slice_index_or units v no_unit ≡ no_unit
past_units [] v past = refl
past_units (x ∷ units) zero past = absurd (omega (arith, past))
past_units (x ∷ units) (suc v) past = past_units units v (omega (arith, past))

names_more : (units : List FileUnit) (one : FileUnit) → map (λ (x : FileUnit). x.name) (units ++ one ∷ []) ≡ map (λ (x : FileUnit). x.name) units ++ one.name ∷ []
names_more [] one = refl
names_more (x ∷ units) one = ap (λ (names : List (List ℕ)). x.name ∷ names) (names_more units one)

texts_more : (texts : List ArrayString) (one : ArrayString) → map (λ (x : ArrayString). x.bytes) (texts ++ one ∷ []) ≡ map (λ (x : ArrayString). x.bytes) texts ++ one.bytes ∷ []
texts_more [] one = refl
texts_more (x ∷ texts) one = ap (λ (names : List (List ℕ)). x.bytes ∷ names) (texts_more texts one)

module _ {S : Type 0} (shown : Shown S) (old : Files S) (library : S) (name : List ℕ) (names : List ArrayString)
    (are : AreNamed shown old names) (adds : AddsUnit shown name old.library library (Ok tt)) where
  abbrev was : World
  was = shown.world old.library

  abbrev then : World
  then = shown.world library

  long : length then.units ≡ length was.units + 1
  long = ap (λ (us : List FileUnit). length us) adds.units ∙ length-append was.units _

  pub stays_in_front : (v : ℕ) → v < length was.units → unit_at then v ≡ unit_at was v
  stays_in_front v within = ap (λ (us : List FileUnit). slice_index_or us v no_unit) adds.units ∙ unit_in_front was.units _ v within

  new_behind : unit_at then (length was.units) ≡ record { name = name; named = named_in was name; holding = Shut }
  new_behind = ap (λ (us : List FileUnit). slice_index_or us (length was.units) no_unit) adds.units ∙ unit_behind was.units _

  pub new_unit : IsShutUnit then (length was.units) name
  new_unit = record {
    attached = omega (arith, long);
    name_is = ap (λ (unit : FileUnit). unit.name) new_behind;
    shut = ap (λ (unit : FileUnit). is_open unit.holding) new_behind;
  }

  vacant_added : (v : ℕ) → IsVacant old.table v → is_open (holding_at then v) ≡ false
  vacant_added v vacant = by (lt_or (nat_lt v (length was.units)) refl)
    where
      by : (v < length was.units) ⊎ (length was.units ≤ v) → is_open (holding_at then v) ≡ false
      by (inl within) = ap (λ (unit : FileUnit). is_open unit.holding) (stays_in_front v within) ∙ are.files_are.vacant v vacant
      by (inr past) = at_or_past (cases_eq v (length was.units))
        where
          at_or_past : (v ≡ length was.units) ⊎ (v ≢ length was.units) → is_open (holding_at then v) ≡ false
          at_or_past (inl same) = ap (λ (w : ℕ). is_open (holding_at then w)) same ∙ new_unit.shut
          at_or_past (inr apart) = ap (λ (unit : FileUnit). is_open unit.holding) (past_units then.units v (omega (arith, long, past, apart)))

  pub files_added : AreSessionFiles shown (record { library = library; table = old.table })
  files_added = record {
    table = are.files_are.table;
    units = λ n file is.
        let had = are.files_are.units n file is in
        let within = had.fits.attached in
        unit_stays file was then (stays_in_front file.unit within) (omega (arith, long, within)) had;
    vacant = vacant_added;
  }

  -- no described file is the new unit
  pub new_vacant : IsVacant old.table (length was.units)
  new_vacant n file is same = let within = (are.files_are.units n file is).fits.attached in omega (arith, within, same)

  pub named_added : (text : ArrayString) → text.bytes ≡ name → AreNamed shown (record { library = library; table = old.table }) (names ++ text ∷ [])
  named_added text is = let back : name ≡ text.bytes = sym is in record {
    files_are = files_added;
    names_are = ap unit_names' adds.units ∙ names_more was.units _ ∙ (λ i. are.names_are i ++ back i ∷ []) ∙ sym (texts_more names text);
  }
    where
      unit_names' : List FileUnit → List (List ℕ)
      unit_names' units = map (λ (x : FileUnit). x.name) units

-- ---- a unit that has the name

-- the names of the units, one by one
module _ (units : List FileUnit) (texts : List ArrayString) (same : map (λ (x : FileUnit). x.name) units ≡ map (λ (x : ArrayString). x.bytes) texts) where
  pub as_many : length units ≡ length texts
  as_many = sym (length-map units (λ (x : FileUnit). x.name)) ∙ ap (λ (l : List (List ℕ)). length l) same ∙ length-map texts (λ (x : ArrayString). x.bytes)

  pub name_of_text : (u : ℕ) (d : ArrayString) → u < length texts → (slice_index_or units u no_unit).name ≡ (slice_index_or texts u d).bytes
  name_of_text u d within =
      sym (get_or-map (λ (x : FileUnit). x.name) units u no_unit [] (omega (arith, within, as_many)))
      ∙ ap (λ (l : List (List ℕ)). get_or l u []) same
      ∙ get_or-map (λ (x : ArrayString). x.bytes) texts u d [] within

-- a name that no text is, is that of no unit
pub no_unit_named : (units : List FileUnit) (texts : List ArrayString) (name : List ℕ) → map (λ (x : FileUnit). x.name) units ≡ map (λ (x : ArrayString). x.bytes) texts
    → list_any (λ (x : ArrayString). bytes_eq x.bytes name) texts ≡ false → list_any (λ (unit : FileUnit). bytes_eq unit.name name) units ≡ false
no_unit_named units texts name same none =
    sym (any-map (λ (n : List ℕ). bytes_eq n name) (λ (x : FileUnit). x.name) units)
    ∙ ap (list_any (λ (n : List ℕ). bytes_eq n name)) same
    ∙ any-map (λ (n : List ℕ). bytes_eq n name) (λ (x : ArrayString). x.bytes) texts ∙ none

-- ---- a name among these

none_from : (texts : List ArrayString) (name : List ℕ) (i : ℕ) → position_from (λ (x : ArrayString). bytes_eq x.bytes name) i texts ≡ None
    → list_any (λ (x : ArrayString). bytes_eq x.bytes name) texts ≡ false
none_from [] name i none = refl
none_from (x ∷ texts) name i none =
    either (bytes_eq x.bytes name) (list_any (λ (y : ArrayString). bytes_eq y.bytes name) (x ∷ texts) ≡ false)
    (λ yes. let e = rw yes at none in absurd (cc))
    (λ no. rw no (none_from texts name (i + 1) (rw no at none)))

module _ {S : Type 0} (shown : Shown S) (files : Files S) (texts : List ArrayString) (name : List ℕ) (named : AreNamed shown files texts) where
  pub is_new_name : position (λ (x : ArrayString). bytes_eq x.bytes name) texts ≡ None → list_any (λ (unit : FileUnit). bytes_eq unit.name name) (shown.world files.library).units ≡ false
  is_new_name none =
      no_unit_named (shown.world files.library).units texts name named.names_are
      (none_from texts name 0 (sym (position_from-zero (λ (x : ArrayString). bytes_eq x.bytes name) texts) ∙ none))

  module _ (u : ℕ) (d : ArrayString) (at : position (λ (x : ArrayString). bytes_eq x.bytes name) texts ≡ Some u)
      (unnamed : (n : ℕ) (file : NumberedFile) → file_of_number files.table n ≡ Some file → file.name ≡ name → ⊥) where
    within : u < length texts
    within = (position-Some (λ (x : ArrayString). bytes_eq x.bytes name) texts u d at).0

    has_name : name_at (shown.world files.library) u ≡ name
    has_name =
        name_of_text (shown.world files.library).units texts named.names_are u d within
        ∙ (bytes_eq-Decides _ name).0 (position-Some (λ (x : ArrayString). bytes_eq x.bytes name) texts u d at).1

    pub found_vacant : IsVacant files.table u
    found_vacant n file is same = unnamed n file is (sym (named.files_are.units n file is).name ∙ ap (name_at (shown.world files.library)) same ∙ has_name)

    pub found_shut : IsShutUnit (shown.world files.library) u name
    found_shut = record {
      attached = let inside = within in let many = as_many (shown.world files.library).units texts named.names_are in omega (arith, inside, many);
      name_is = has_name;
      shut = named.files_are.vacant u found_vacant;
    }

-- a world that stays
pub named_stays : {S : Type 0} (shown : Shown S) (library : S) (files : Files S) (texts : List ArrayString) → AreNamed shown files texts → shown.world library ≡ shown.world files.library
    → AreNamed shown (record { library = library; table = files.table }) texts
named_stays shown library files texts named same = record {
  files_are = record {
    table = named.files_are.table;
    units = λ n file is. subst (λ (w : World). IsUnitOf w file) (sym same) (named.files_are.units n file is);
    vacant = λ u vacant. ap (λ (w : World). is_open (holding_at w u)) same ∙ named.files_are.vacant u vacant;
  };
  names_are = ap unit_names same ∙ named.names_are;
}

-- ---- no file is described

empty_at : (count number : ℕ) → slice_index_or (replicate {A = Option NumberedFile} count None) number None ≡ None
empty_at zero number = refl
empty_at (suc count) zero = refl
empty_at (suc count) (suc number) = empty_at count number

pub named_at_start : {S : Type 0} (shown : Shown S) (library : S) (places : List (Option NumberedFile)) (opened : List ℕ) → places ≡ replicate 64 None → opened ≡ []
    → (shown.world library).units ≡ [] → AreNamed shown (record { library = library; table = record { places = places; opened = opened } }) []
named_at_start shown library places opened free none units =
    let nobody : (n : ℕ) → slice_index_or places n None ≡ None = λ n. ap (λ (l : List (Option NumberedFile)). slice_index_or l n None) free ∙ empty_at 64 n in
    record {
      files_are = record {
        table = record {
          places = ap (λ (l : List (Option NumberedFile)). length l) free;
          names = λ m n a b x y same. absurd (none_some (sym (nobody m) ∙ x));
          opened = λ n. ap (list_any (eqb n)) none ∙ sym (ap is_open_in (nobody n));
          order = subst IsOrder (sym none) empty_order;
        };
        units = λ n file is. absurd (none_some (sym (nobody n) ∙ is));
        vacant = λ u vacant. ap (λ (us : List FileUnit). is_open (slice_index_or us u no_unit).holding) units;
      };
      names_are = ap (map (λ (x : FileUnit). x.name)) units;
    }
