-- What the calls of the indexes answer and leave.
use Rattle.std.specs.Prelude.{◌≡◌, ◌*◌, ℕ, Bool, true, false, List, find, Option, None, Some, IsSome, IsTrue}
use Rattle.std.specs.Prelude.{IfSome, IfErr, Result, Ok, Err, option_map, is_some}
use Rattle.std.specs.Option.{option_map_or}
use Rattle.arrayvec.specs.ArrayVec.{ArrayVec}
use Rattle.io_state.specs.declared.fault.Fault.{Fault}
use Rattle.io_state.specs.declared.fault.Fault.TheVariants.{Damage}
use Rattle.record_heap.specs.declared.shape.Place.{Place}
use Rattle.pages.specs.PageMap.{PageMap}
use Rattle.pages.specs.Answer.{IsAnswer}
use Rattle.pages.specs.ShownPages.{ShownPages}
use Rattle.pages.specs.PageCalls.{ReadsPages}
use Rattle.key_index.specs.declared.entry.PrimeEntry.{PrimeEntry}
use Rattle.key_index.specs.declared.entry.AltEntry.{AltEntry}
use Rattle.key_index.specs.declared.entry.AltFirst.{AltFirst}
use Rattle.key_index.specs.declared.prime_index.PrimeIndex.{PrimeIndex}
use Rattle.key_index.specs.declared.alt_index.AltIndex.{AltIndex}
use Rattle.key_index.specs.Stored.{prime_bytes, alt_bytes, IsPrimeEntry, IsAltEntry}
use Rattle.key_index.specs.Entries.{has_prime, entry_has_value, has_rank, after_rank, with_prime, with_alt}
use Rattle.key_index.specs.Entries.{without_prime, without_rank}
use Rattle.key_index.specs.Standing.{PrimeStands, PrimeChanged, AltStands, AltChanged, prime_height}
use Rattle.key_index.specs.Standing.{alt_height}

-- a call that looks into an index and asks for so many pages at most; this holds of the pages in
-- use where no wrong answer was taken
pub record LooksInIndex {S X : Type 0} (shown : ShownPages S) (most : ℕ) (before after : S)
    (result : Result X Fault) (Finds : PageMap → Type 0) : Type 0 where
  pub found : IsTrue (shown.state after).is_honest → Finds (shown.state before).live
  pub reads : ReadsPages shown most before after result

-- a look-up answers what `look` gives of the entries
abbrev pub PrimeFinds : PrimeIndex → PageMap → (List PrimeEntry → Option PrimeEntry)
    → Result (Option PrimeEntry) Fault → Type 0
PrimeFinds index pages look result =
    (entries : List PrimeEntry) (own : List ℕ) → PrimeStands index pages entries own
    → IsAnswer result (λ found. found ≡ look entries)

-- the place of the record of a value, where the value is there
abbrev pub PrimeFindsPlace : PrimeIndex → PageMap → List ℕ → Result (Option Place) Fault → Type 0
PrimeFindsPlace index pages value result =
    (entries : List PrimeEntry) (own : List ℕ) → PrimeStands index pages entries own
    → IsAnswer result (λ place. place ≡ option_map (λ e. e.place) (find (has_prime value) entries))

-- whether a value is there
abbrev pub PrimeTells : PrimeIndex → PageMap → List ℕ → Result Bool Fault → Type 0
PrimeTells index pages value result =
    (entries : List PrimeEntry) (own : List ℕ) → PrimeStands index pages entries own
    → IsAnswer result (λ told. told ≡ is_some (find (has_prime value) entries))

abbrev pub AltFinds : AltIndex → PageMap → (List AltEntry → Option AltEntry)
    → Result (Option AltEntry) Fault → Type 0
AltFinds index pages look result =
    (entries : List AltEntry) (own : List ℕ) → AltStands index pages entries own
    → IsAnswer result (λ found. found ≡ look entries)

-- the first entry of a value, and whether the next entry has the value too
abbrev pub IsAltFirst : List ℕ → List AltEntry → Option AltFirst → Type 0
IsAltFirst value entries None = find (entry_has_value value) entries ≡ None
IsAltFirst value entries (Some first) =
    (find (entry_has_value value) entries ≡ Some first.entry)
    × (first.followed ≡ option_map_or (entry_has_value value)
    (find (after_rank first.entry.value.items first.entry.stamp) entries) false)

abbrev pub AltFindsFirst : AltIndex → PageMap → List ℕ → Result (Option AltFirst) Fault → Type 0
AltFindsFirst index pages value result =
    (entries : List AltEntry) (own : List ℕ) → AltStands index pages entries own
    → IsAnswer result (IsAltFirst value entries)

-- the entry was put in where its value was not there; else nothing was changed
abbrev pub PrimeHasAdded : PageMap → PageMap → PrimeIndex → PrimeIndex → PrimeEntry → List PrimeEntry
    → List ℕ → Bool → Type 0
PrimeHasAdded before after old new e entries own true =
    (find (has_prime e.value.items) entries ≡ None) × PrimeChanged before after new own (with_prime e entries)
PrimeHasAdded before after old new e entries own false =
    IsSome (find (has_prime e.value.items) entries) × (after ≡ before) × (new ≡ old)

abbrev pub PrimeAdds : PrimeEntry → PrimeIndex → PrimeIndex → Result Bool Fault → PageMap → PageMap
    → Type 0 → Type 0
PrimeAdds e old new result before after is_sound =
    (entries : List PrimeEntry) (own : List ℕ) → PrimeStands old before entries own
    → IsAnswer result (λ added. PrimeHasAdded before after old new e entries own added × is_sound)

-- the entry was taken out where its value was there; else nothing was changed
abbrev pub PrimeHasRemoved : PageMap → PageMap → PrimeIndex → PrimeIndex → List ℕ → List PrimeEntry
    → List ℕ → Bool → Type 0
PrimeHasRemoved before after old new value entries own true =
    IsSome (find (has_prime value) entries) × PrimeChanged before after new own (without_prime value entries)
PrimeHasRemoved before after old new value entries own false =
    (find (has_prime value) entries ≡ None) × (after ≡ before) × (new ≡ old)

abbrev pub PrimeRemoves : List ℕ → PrimeIndex → PrimeIndex → Result Bool Fault → PageMap → PageMap → Type 0
    → Type 0
PrimeRemoves value old new result before after is_sound =
    (entries : List PrimeEntry) (own : List ℕ) → PrimeStands old before entries own
    → IsAnswer result (λ removed. PrimeHasRemoved before after old new value entries own removed × is_sound)

-- the entry was put in where its value and stamp were not there; else nothing was changed
abbrev pub AltHasAdded : PageMap → PageMap → AltIndex → AltIndex → AltEntry → List AltEntry → List ℕ → Bool
    → Type 0
AltHasAdded before after old new e entries own true =
    (find (has_rank e.value.items e.stamp) entries ≡ None)
    × AltChanged before after new own (with_alt e entries)
AltHasAdded before after old new e entries own false =
    IsSome (find (has_rank e.value.items e.stamp) entries) × (after ≡ before) × (new ≡ old)

abbrev pub AltAdds : AltEntry → AltIndex → AltIndex → Result Bool Fault → PageMap → PageMap → Type 0 → Type 0
AltAdds e old new result before after is_sound =
    (entries : List AltEntry) (own : List ℕ) → AltStands old before entries own
    → IsAnswer result (λ added. AltHasAdded before after old new e entries own added × is_sound)

-- the entry was taken out where its value and stamp were there; else nothing was changed
abbrev pub AltHasRemoved : PageMap → PageMap → AltIndex → AltIndex → List ℕ → ℕ → List AltEntry → List ℕ
    → Bool → Type 0
AltHasRemoved before after old new value stamp entries own true =
    IsSome (find (has_rank value stamp) entries) × AltChanged before after new own
    (without_rank value stamp entries)
AltHasRemoved before after old new value stamp entries own false =
    (find (has_rank value stamp) entries ≡ None) × (after ≡ before) × (new ≡ old)

abbrev pub AltRemoves : List ℕ → ℕ → AltIndex → AltIndex → Result Bool Fault → PageMap → PageMap → Type 0
    → Type 0
AltRemoves value stamp old new result before after is_sound =
    (entries : List AltEntry) (own : List ℕ) → AltStands old before entries own
    → IsAnswer result (λ removed. AltHasRemoved before after old new value stamp entries own removed
    × is_sound)

-- a look-up in the prime index that asks for one page a level at most
abbrev pub FindsInPrime : {S : Type 0} → ShownPages S → S → S → PrimeIndex
    → (List PrimeEntry → Option PrimeEntry) → Result (Option PrimeEntry) Fault → Type 0
FindsInPrime shown before after index look result =
    LooksInIndex shown (prime_height index) before after result (λ live. PrimeFinds index live look result)

-- one that asks for two pages a level at most
abbrev pub SeeksInPrime : {S : Type 0} → ShownPages S → S → S → PrimeIndex
    → (List PrimeEntry → Option PrimeEntry) → Result (Option PrimeEntry) Fault → Type 0
SeeksInPrime shown before after index look result =
    LooksInIndex shown (2 * prime_height index) before after result
    (λ live. PrimeFinds index live look result)

-- a look-up of the place of the record of a value
abbrev pub FindsPlaceInPrime : {S : Type 0} → ShownPages S → S → S → PrimeIndex → List ℕ
    → Result (Option Place) Fault → Type 0
FindsPlaceInPrime shown before after index value result =
    LooksInIndex shown (prime_height index) before after result
    (λ live. PrimeFindsPlace index live value result)

-- a call that answers whether a value is there
pub record TellsInPrime {S : Type 0} (shown : ShownPages S) (before after : S) (index : PrimeIndex)
    (value : List ℕ) (result : Result Bool Fault) : Type 0 where
  pub told : IsTrue (shown.state after).is_honest → PrimeTells index (shown.state before).live value result
  pub reads : ReadsPages shown (prime_height index) before after result

-- the same look-ups in the index of an alternate key
abbrev pub FindsInAlt : {S : Type 0} → ShownPages S → S → S → AltIndex
    → (List AltEntry → Option AltEntry) → Result (Option AltEntry) Fault → Type 0
FindsInAlt shown before after index look result =
    LooksInIndex shown (alt_height index) before after result (λ live. AltFinds index live look result)

abbrev pub SeeksInAlt : {S : Type 0} → ShownPages S → S → S → AltIndex
    → (List AltEntry → Option AltEntry) → Result (Option AltEntry) Fault → Type 0
SeeksInAlt shown before after index look result =
    LooksInIndex shown (2 * alt_height index) before after result (λ live. AltFinds index live look result)

-- a look-up of the first entry of a value
abbrev pub FindsFirstInAlt : {S : Type 0} → ShownPages S → S → S → AltIndex → List ℕ
    → Result (Option AltFirst) Fault → Type 0
FindsFirstInAlt shown before after index value result =
    LooksInIndex shown (2 * alt_height index) before after result
    (λ live. AltFindsFirst index live value result)

-- the entry that was filled, or none
abbrev pub filled_entry : {E : Type 0} → E → Bool → Option E
filled_entry entry true = Some entry
filled_entry entry false = None

-- what a call tells that fills an entry and answers whether there is one
abbrev pub filled_with : {E : Type 0} → E → Result Bool Fault → Result (Option E) Fault
filled_with entry (Ok found) = Ok (filled_entry entry found)
filled_with entry (Err fault) = Err fault

-- what the bytes of an entry that fits are told as, where some were found
abbrev pub TellsEntry : {E : Type 0} → (E → List ℕ) → (E → Type 0) → Option (List ℕ)
    → Result (Option E) Fault → Type 0
TellsEntry {E} bytes_of Fits found result = (e : Option E) → IfSome e Fits → found ≡ option_map bytes_of e
    → result ≡ Ok e

-- what the bytes of the first entry of a value are told as
abbrev pub TellsFirst : ℕ → ℕ → List ℕ → Bool → Result (Option AltFirst) Fault → Type 0
TellsFirst width prime bytes followed result =
    (e : AltEntry) → IsAltEntry width prime e → bytes ≡ alt_bytes e
    → result ≡ Ok (Some (record { entry = e; followed = followed }))

-- an entry of the prime index is told of its bytes, or they are no entry
pub record TellsPrime (index : PrimeIndex) (found : Option (ArrayVec ℕ))
    (result : Result (Option PrimeEntry) Fault) : Type 0 where
  pub told : TellsEntry prime_bytes (IsPrimeEntry index.width)
      (option_map (λ bytes. bytes.items) found) result
  pub damage : IfErr result (λ fault. fault ≡ Damage)

-- the same of an index of an alternate key
pub record TellsAlt (index : AltIndex) (found : Option (ArrayVec ℕ))
    (result : Result (Option AltEntry) Fault) : Type 0 where
  pub told : TellsEntry alt_bytes (IsAltEntry index.width index.prime)
      (option_map (λ bytes. bytes.items) found) result
  pub damage : IfErr result (λ fault. fault ≡ Damage)
