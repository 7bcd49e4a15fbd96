-- The entries that READ NEXT and START come to.
use Rattle.std.specs.Prelude.{◌≡◌, ℕ, ◌*◌, Bool, true, false, List, length, take, find, bytes_eq, slice_index}
use Rattle.std.specs.Prelude.{Option, Result}
use Rattle.std.specs.Option.{option_map_or}
use Rattle.io_state.specs.declared.fault.Fault.{Fault}
use Rattle.io_state.specs.declared.position.Position.{Position}
use Rattle.io_state.specs.declared.position.Position.TheVariants.{Invalid, Missing, From, After}
use Rattle.io_state.specs.declared.modes.Relation.{Relation}
use Rattle.io_state.specs.declared.modes.Relation.TheVariants.{Equal, Greater, NotLess}
use Rattle.indexed_file.specs.File.{File}
use Rattle.pages.specs.PageMap.{PageMap}
use Rattle.pages.specs.Answer.{IsAnswer}
use Rattle.pages.specs.ShownPages.{ShownPages}
use Rattle.pages.specs.PageCalls.{ReadsPages}
use Rattle.key_index.specs.declared.prime_index.PrimeIndex.{PrimeIndex}
use Rattle.key_index.specs.declared.alt_index.AltIndex.{AltIndex}
use Rattle.key_index.specs.Standing.{prime_height, alt_height}
use Rattle.key_index.specs.declared.entry.PrimeEntry.{PrimeEntry}
use Rattle.key_index.specs.declared.entry.AltEntry.{AltEntry}
use Rattle.key_index.specs.declared.entry.AltFirst.{AltFirst}
use Rattle.key_index.specs.Calls.{PrimeFinds, AltFinds, IsAltFirst}
use Rattle.key_index.specs.Entries.{from_prime, after_prime, past_prime, entry_has_value, from_value}
use Rattle.key_index.specs.Entries.{after_rank, past_value}
use Rattle.open_file.specs.InOrder.{alt_entries, prime_entries}
use Rattle.open_file.specs.Stands.{Stands, heights_of}
use Rattle.open_file.specs.Asked.{OfHonestPages, AsksAlone}
use Rattle.open_file.specs.declared.open_file.OpenFile.{OpenFile}

-- the position admits the row of this entry of the prime index, whose stamp is 0
abbrev pub admits_prime : Position → PrimeEntry → Bool
admits_prime Invalid entry = false
admits_prime Missing entry = false
admits_prime (From value) entry = from_prime value.items entry
admits_prime (After value stamp) entry = after_prime value.items entry

-- the position admits the row of this entry of an alternate index
abbrev pub admits_alt : Position → AltEntry → Bool
admits_alt Invalid entry = false
admits_alt Missing entry = false
admits_alt (From value) entry = from_value value.items entry
admits_alt (After value stamp) entry = after_rank value.items stamp entry

-- no entry before the first of these satisfies START
abbrev pub leads_prime : Relation → List ℕ → PrimeEntry → Bool
leads_prime Equal operand entry = from_prime operand entry
leads_prime Greater operand entry = past_prime operand entry
leads_prime NotLess operand entry = from_prime operand entry

abbrev pub leads_alt : Relation → List ℕ → AltEntry → Bool
leads_alt Equal operand entry = from_value operand entry
leads_alt Greater operand entry = past_value operand entry
leads_alt NotLess operand entry = from_value operand entry

-- the value is one that START wants: for EQUAL it begins with the operand
abbrev pub is_wanted_value : Relation → List ℕ → List ℕ → Bool
is_wanted_value Equal operand value = bytes_eq (take (length operand) value) operand
is_wanted_value Greater operand value = true
is_wanted_value NotLess operand value = true

-- the first entry of the prime index that passes a test
abbrev pub GivesPrime : OpenFile → PageMap → (PrimeEntry → Bool) → Result (Option PrimeEntry) Fault → Type 0
GivesPrime opened pages test result =
    (file : File) (stands : Stands opened pages file)
    → IsAnswer result (λ found. found ≡ find test (prime_entries opened.schema stands.places file.rows))

-- the first entry of the index of alternate key k that passes a test
abbrev pub GivesAlt : OpenFile → PageMap → ℕ → (AltEntry → Bool) → Result (Option AltEntry) Fault → Type 0
GivesAlt opened pages k test result =
    (file : File) → Stands opened pages file → IsAnswer result
    (λ found. found ≡ find test (alt_entries opened.schema k file.rows))

-- the first entry that passes a test in whatever pages hold the prime index
abbrev pub FindsInPrimePages : {S : Type 0} → ShownPages S → PrimeIndex → (PrimeEntry → Bool)
    → (before after : S)
    → Result (Option PrimeEntry) Fault → Type 0
FindsInPrimePages shown index test before after result = OfHonestPages shown before after (λ live.
    PrimeFinds index live (find test) result)

-- the same of the index of an alternate key
abbrev pub FindsInAlternate : {S : Type 0} → ShownPages S → AltIndex → (AltEntry → Bool) → (before after : S)
    → Result (Option AltEntry) Fault → Type 0
FindsInAlternate shown index test before after result = OfHonestPages shown before after (λ live.
    AltFinds index live (find test) result)

-- the first entry of a value in the index of alternate key k, and whether the next entry has the value too
abbrev pub GivesFirstOf : OpenFile → PageMap → ℕ → List ℕ → Result (Option AltFirst) Fault → Type 0
GivesFirstOf opened pages k value result =
    (file : File) → Stands opened pages file → IsAnswer result
    (IsAltFirst value (alt_entries opened.schema k file.rows))

-- a call that tells it, and how many pages it asks for at most
pub record TellsFirstOf {S : Type 0} (shown : ShownPages S) (opened : OpenFile) (k : ℕ) (value : List ℕ)
    (before after : S) (result : Result (Option AltFirst) Fault) : Type 0 where
  pub found : OfHonestPages shown before after (λ live. GivesFirstOf opened live k value result)
  pub alone : AsksAlone shown opened k (slice_index (heights_of opened) k) before after
  pub reads : ReadsPages shown (2 * slice_index (heights_of opened) k) before after result

-- whether the first entry of the index of alternate key k that comes after a value and stamp has this value
abbrev pub TellsNextOfKey : {S : Type 0} → ShownPages S → OpenFile → ℕ → List ℕ → ℕ → (before after : S)
    → Result Bool Fault → Type 0
TellsNextOfKey shown opened k value stamp before after result = OfHonestPages shown before after (λ live.
    (file : File) → Stands opened live file
    → IsAnswer result (λ told. told ≡ option_map_or (entry_has_value value)
    (find (after_rank value stamp) (alt_entries opened.schema k file.rows)) false))

-- what the pages stood for they stand for still
abbrev pub KeepsEachFile : OpenFile → OpenFile → PageMap → Type 0
KeepsEachFile old new pages = (file : File) → Stands old pages file → Stands new pages file

-- only the path is another, and what any pages stood for they stand for still
pub record MovesPath (old new : OpenFile) : Type 0 where
  pub stands : (pages : PageMap) → KeepsEachFile old new pages
  pub rest : new ≡ record old { path = new.path }

-- only the path is another, and the file stands as it did
pub record MovesPathIn {S : Type 0} (shown : ShownPages S) (before after : S)
    (old new : OpenFile) : Type 0 where
  pub stands : OfHonestPages shown before after (KeepsEachFile old new)
  pub rest : new ≡ record old { path = new.path }

-- a step in the prime index: the first entry that passes a test is given where no wrong answer of
-- the device was taken as true, the file stands as it did, and nothing else is changed but the path
pub record StepsInPrime {S : Type 0} (shown : ShownPages S) (test : PrimeEntry → Bool) (old new : OpenFile)
    (before after : S)
    (result : Result (Option PrimeEntry) Fault) : Type 0 where
  pub found : OfHonestPages shown before after (λ live. GivesPrime old live test result)
  pub stands : OfHonestPages shown before after (KeepsEachFile old new)
  pub rest : new ≡ record old { path = new.path }
  pub reads : ReadsPages shown (2 * prime_height old.prime) before after result

-- the same in the index of alternate key k
pub record StepsInAlternate {S : Type 0} (shown : ShownPages S) (k : ℕ) (index : AltIndex) (test : AltEntry
    → Bool) (old new : OpenFile)
    (before after : S) (result : Result (Option AltEntry) Fault) : Type 0 where
  pub found : OfHonestPages shown before after (λ live. GivesAlt old live k test result)
  pub stands : OfHonestPages shown before after (KeepsEachFile old new)
  pub rest : new ≡ record old { path = new.path }
  pub reads : ReadsPages shown (2 * alt_height index) before after result
