-- Entries of a prime index that are copied with the new places of their records.
use Rattle.std.specs.Prelude.{◌≡◌, ◌+◌, ℕ, suc, List, [], ◌∷◌, ◌++◌, length, map, Result, IsTrue, IfOk, IfErr}
use Rattle.io_state.specs.declared.fault.Fault.TheVariants.{Damage}
use Rattle.pages.specs.Each.{Each}
use Rattle.pages.specs.PageMap.{PageMap}
use Rattle.pages.specs.ShownPages.{ShownPages}
use Rattle.key_index.specs.declared.entry.PrimeEntry.{PrimeEntry}
use Rattle.key_index.specs.declared.prime_index.PrimeIndex.{PrimeIndex}
use Rattle.key_index.specs.Stored.{prime_bytes, IsPrimeEntry}
use Rattle.key_index.specs.Standing.{PrimeStands, PrimeChanged}
use Rattle.open_file.specs.Fields.{prime_index_of}
use Rattle.open_file.specs.Lent.{LendsToChange}
use Rattle.open_file.specs.declared.open_file.OpenFile.{OpenFile}
use Rattle.tree_building.specs.declared.prime_builder.PrimeBuilder.{PrimeBuilder}
use Rattle.tree_building.specs.Fresh.{IsBuildCause}
use Rattle.tree_building.specs.IndexBuilding.{PrimeBuildsOn, PrimeEntriesRise}
use Rattle.file_building.specs.declared.copy_fault.CopyFault.{CopyFault}
use Rattle.file_building.specs.declared.copy_fault.CopyFault.TheVariants.{Reading, Writing}
use Rattle.file_building.specs.declared.new_places.NewPlaces.{NewPlaces}
use Rattle.file_building.specs.declared.walk.TreeWalk.{TreeWalk}
use Rattle.file_building.specs.Steps.{RanOutOfPages}
use Rattle.file_building.specs.CopyFault.{IsCopyAnswer}
use Rattle.file_building.specs.CopiedRows.{WhereBothHonest}
use Rattle.file_building.specs.NewPlaces.{HasNewPlace, moved_entry}
use Rattle.file_building.specs.Walk.{HasWalked, walk_tree}

-- it is known where the record of each entry lies now
abbrev pub AreKnown : NewPlaces → List PrimeEntry → Type 0
AreKnown places = Each (λ e. HasNewPlace places e.place)

-- the first of these entries are copied so into pages that were not in use, and so many are left
pub record HasLed (index : PrimeIndex) (places : NewPlaces) (walk : TreeWalk) (builder : PrimeBuilder)
    (live start pages : PageMap) (entries : List PrimeEntry) (left : ℕ) : Type 0 where
  pub done : List PrimeEntry
  pub rest : List PrimeEntry
  pub all : done ++ rest ≡ entries
  pub each : Each (IsPrimeEntry index.width) rest
  pub known : AreKnown places rest
  pub given : List (List ℕ)
  pub own : List ℕ
  pub walked : HasWalked walk live given (map prime_bytes rest) own
  pub built : PrimeBuildsOn start pages builder [] (map (moved_entry places) done)
  pub many : length rest ≡ left

-- the walk is over the index, and the builder is for its values
pub record IsLeading (index : PrimeIndex) (walk : TreeWalk) (builder : PrimeBuilder) : Type 0 where
  pub tree_is : walk_tree walk ≡ index.tree
  pub width_is : builder.width ≡ index.width

-- pages of the source may be read and those of the copy changed, and walk and builder are for the index
pub record CanLeadToRecords {S T : Type 0} (from : ShownPages S) (to : ShownPages T) (index : PrimeIndex)
    (walk : TreeWalk) (builder : PrimeBuilder) (old : S) (before : T) : Type 0 where
  pub ready : from.IsReady old
  pub target : LendsToChange to before
  pub fits : IsLeading index walk builder

-- pages may be changed, the builder is for the values of the index, and the bytes are as many as an
-- entry has
pub record CanPutLeading {S : Type 0} (shown : ShownPages S) (index : PrimeIndex) (builder : PrimeBuilder)
    (bytes : List ℕ) (before : S) : Type 0 where
  pub target : LendsToChange shown before
  pub width_is : builder.width ≡ index.width
  pub long : length bytes ≡ index.width + 6

-- why a call that puts an entry gave up: its record was not moved, or it was not written
abbrev pub IsLeadingCause : (failed ran_out : Type 0) → CopyFault → Type 0
IsLeadingCause failed ran_out (Reading fault) = fault ≡ Damage
IsLeadingCause failed ran_out (Writing fault) = IsBuildCause failed ran_out fault

-- a call that puts the entry of these bytes behind those before it, with its new place
pub record PutsLeading {S : Type 0} (shown : ShownPages S) (index : PrimeIndex) (places : NewPlaces)
    (before after : S) (old new : PrimeBuilder) (bytes : List ℕ) (result : Result Unit CopyFault)
    : Type 0 where
  pub put : IsTrue (shown.state after).is_honest → IsTrue (shown.state before).is_sound
      → (start : PageMap) (done : List PrimeEntry) (e : PrimeEntry)
      → PrimeBuildsOn start (shown.state before).live old [] (map (moved_entry places) done)
      → IsPrimeEntry index.width e → HasNewPlace places e.place → bytes ≡ prime_bytes e
      → IsCopyAnswer result (λ u. PrimeBuildsOn start (shown.state after).live new []
      (map (moved_entry places) (done ++ e ∷ [])) × IsTrue (shown.state after).is_sound)
  pub width_is : new.width ≡ old.width
  pub cause : IfErr result (IsLeadingCause (shown.HasFailed before after) (RanOutOfPages shown before after))
  pub step : shown.Writes before after

-- a call that copies the next entry so
pub record LeadsNext {S T : Type 0} (from : ShownPages S) (to : ShownPages T) (index : PrimeIndex)
    (places : NewPlaces) (walk walk_now : TreeWalk) (builder builder_now : PrimeBuilder) (old new : S)
    (before after : T) (result : Result Unit CopyFault) : Type 0 where
  pub led : WhereBothHonest from to new before after
      ((start : PageMap) (entries : List PrimeEntry) (left : ℕ)
      → HasLed index places walk builder (from.state old).live start (to.state before).live entries (suc left)
      → IsCopyAnswer result (λ done. HasLed index places walk_now builder_now (from.state old).live start
      (to.state after).live entries left × IsTrue (to.state after).is_sound))
  pub fits : IsLeading index walk_now builder_now

-- a call that looks that no entry is left, and ends the index
pub record EndsLeading {S T : Type 0} (from : ShownPages S) (to : ShownPages T) (walk : TreeWalk)
    (builder : PrimeBuilder) (old new : S) (before after : T) (result : Result PrimeIndex CopyFault)
    : Type 0 where
  pub ended : WhereBothHonest from to new before after
      ((index : PrimeIndex) (places : NewPlaces) (start : PageMap) (entries : List PrimeEntry) → builder.width ≡ index.width
      → HasLed index places walk builder (from.state old).live start (to.state before).live entries 0
      → Each (IsPrimeEntry index.width) entries → PrimeEntriesRise index.width entries
      → IsCopyAnswer result (λ copy. PrimeChanged start (to.state after).live copy []
      (map (moved_entry places) entries) × IsTrue (to.state after).is_sound))
  pub width : IfOk result (λ copy. copy.width ≡ builder.width)

-- a call that copies the whole prime index so
pub record LeadsToRecords {S T : Type 0} (from : ShownPages S) (to : ShownPages T) (source : OpenFile)
    (places : NewPlaces) (old new : S) (before after : T) (result : Result PrimeIndex CopyFault)
    : Type 0 where
  pub led : WhereBothHonest from to new before after ((entries : List PrimeEntry) (own : List ℕ)
      → PrimeStands (prime_index_of source) (from.state old).live entries own → AreKnown places entries
      → IsCopyAnswer result (λ copy. PrimeChanged (to.state before).live (to.state after).live copy []
      (map (moved_entry places) entries) × IsTrue (to.state after).is_sound))
  pub width : IfOk result (λ copy. copy.width ≡ (prime_index_of source).width)
