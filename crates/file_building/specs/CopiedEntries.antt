-- Entries of the index of an alternate key that are copied, one after another.
use Rattle.std.specs.Prelude.{◌≡◌, ◌+◌, ◌<◌, ℕ, suc, List, [], ◌∷◌, ◌++◌, length, map, Result, IsTrue}
use Rattle.std.specs.Prelude.{IfOk, IfErr, slice_index_or}
use Rattle.arrayvec.specs.ArrayVec.{ArrayVec}
use Rattle.indexed_file.specs.File.{File}
use Rattle.pages.specs.Each.{Each}
use Rattle.pages.specs.PageMap.{PageMap}
use Rattle.pages.specs.ShownPages.{ShownPages}
use Rattle.record_heap.specs.declared.heap.Heap.{Heap}
use Rattle.key_index.specs.declared.entry.AltEntry.{AltEntry}
use Rattle.key_index.specs.declared.alt_index.AltIndex.{AltIndex}
use Rattle.key_index.specs.declared.prime_index.PrimeIndex.{PrimeIndex}
use Rattle.key_index.specs.Stored.{alt_bytes, IsAltEntry}
use Rattle.key_index.specs.Standing.{AltStands, AltChanged, alt_key}
use Rattle.tree_building.specs.declared.alt_builder.AltBuilder.{AltBuilder}
use Rattle.tree_building.specs.IndexBuilding.{AltBuildsOn, AltEntriesRise, IsAltBuilderOf, IsBuiltFrom}
use Rattle.open_file.specs.Stands.{Stands}
use Rattle.open_file.specs.Fields.{file_schema, alternates_of}
use Rattle.open_file.specs.Lent.{LendsToChange}
use Rattle.open_file.specs.declared.open_file.OpenFile.{OpenFile}
use Rattle.file_building.specs.declared.copy_fault.CopyFault.{CopyFault}
use Rattle.file_building.specs.declared.walk.TreeWalk.{TreeWalk}
use Rattle.file_building.specs.Steps.{RanOutOfPages}
use Rattle.file_building.specs.CopyFault.{IsCopyAnswer}
use Rattle.file_building.specs.Walk.{HasWalked, walk_tree}
use Rattle.file_building.specs.Rows.{RowsStandBuilt}
use Rattle.file_building.specs.CopiedRows.{WhereBothHonest, IsWritingCause}

-- the first of these entries are copied into pages that were not in use, and so many are left
pub record HasCopiedEntries (index : AltIndex) (walk : TreeWalk) (builder : AltBuilder)
    (live start pages : PageMap) (entries : List AltEntry) (left : ℕ) : Type 0 where
  pub done : List AltEntry
  pub rest : List AltEntry
  pub all : done ++ rest ≡ entries
  pub each : Each (IsAltEntry index.width index.prime) rest
  pub given : List (List ℕ)
  pub own : List ℕ
  pub walked : HasWalked walk live given (map alt_bytes rest) own
  pub built : AltBuildsOn start pages builder [] done
  pub many : length rest ≡ left

-- the walk is over the index, and the builder is for its entries
pub record IsCopyingIndex (index : AltIndex) (walk : TreeWalk) (builder : AltBuilder) : Type 0 where
  pub tree_is : walk_tree walk ≡ index.tree
  pub builder_is : IsAltBuilderOf (alt_key index) index.width index.prime builder

-- pages of the source may be read and those of the copy changed, and walk and builder are for the index
pub record CanCopyEntry {S T : Type 0} (from : ShownPages S) (to : ShownPages T) (index : AltIndex)
    (walk : TreeWalk) (builder : AltBuilder) (old : S) (before : T) : Type 0 where
  pub ready : from.IsReady old
  pub target : LendsToChange to before
  pub fits : IsCopyingIndex index walk builder

-- pages may be changed, the builder is for the entries of the index, and the bytes are as many as one has
pub record CanPushBytes {S : Type 0} (shown : ShownPages S) (index : AltIndex) (builder : AltBuilder)
    (bytes : List ℕ) (before : S) : Type 0 where
  pub target : LendsToChange shown before
  pub builder_is : IsAltBuilderOf (alt_key index) index.width index.prime builder
  pub long : length bytes ≡ index.width + 8 + index.prime

-- a call that puts the entry of these bytes behind those before it
pub record PutsEntry {S : Type 0} (shown : ShownPages S) (index : AltIndex) (before after : S)
    (old new : AltBuilder) (bytes : List ℕ) (result : Result Unit CopyFault) : Type 0 where
  pub put : IsTrue (shown.state after).is_honest → IsTrue (shown.state before).is_sound
      → (start : PageMap) (done : List AltEntry) (e : AltEntry)
      → AltBuildsOn start (shown.state before).live old [] done
      → IsAltEntry index.width index.prime e → bytes ≡ alt_bytes e
      → IsCopyAnswer result (λ u. AltBuildsOn start (shown.state after).live new [] (done ++ e ∷ [])
      × IsTrue (shown.state after).is_sound)
  pub builder_is : IsAltBuilderOf (alt_key index) index.width index.prime new
  pub cause : IfErr result (IsWritingCause (shown.HasFailed before after) (RanOutOfPages shown before after))
  pub step : shown.Writes before after

-- a call that copies the next entry
pub record CopiesNextEntry {S T : Type 0} (from : ShownPages S) (to : ShownPages T) (index : AltIndex)
    (walk walk_now : TreeWalk) (builder builder_now : AltBuilder) (old new : S) (before after : T)
    (result : Result Unit CopyFault) : Type 0 where
  pub copied : WhereBothHonest from to new before after
      ((start : PageMap) (entries : List AltEntry) (left : ℕ)
      → HasCopiedEntries index walk builder (from.state old).live start (to.state before).live entries
      (suc left)
      → IsCopyAnswer result (λ done. HasCopiedEntries index walk_now builder_now (from.state old).live
      start (to.state after).live entries left × IsTrue (to.state after).is_sound))
  pub fits : IsCopyingIndex index walk_now builder_now

-- the index is of the same key, for values and prime values of the same lengths
pub record IsAlike (old new : AltIndex) : Type 0 where
  pub key_is : alt_key new ≡ alt_key old
  pub width_is : new.width ≡ old.width
  pub prime_is : new.prime ≡ old.prime

-- a call that looks that no entry is left, and ends the index
pub record EndsEntries {S T : Type 0} (from : ShownPages S) (to : ShownPages T) (walk : TreeWalk)
    (builder : AltBuilder) (old new : S) (before after : T) (result : Result AltIndex CopyFault)
    : Type 0 where
  pub ended : WhereBothHonest from to new before after
      ((index : AltIndex) (start : PageMap) (entries : List AltEntry)
      → HasCopiedEntries index walk builder (from.state old).live start (to.state before).live entries 0
      → AltEntriesRise builder.width entries
      → IsCopyAnswer result (λ copy. AltChanged start (to.state after).live copy [] entries
      × IsTrue (to.state after).is_sound))
  pub built : IfOk result (IsBuiltFrom builder)

-- a call that copies all entries of an index, so many
pub record CopiesIndex {S T : Type 0} (from : ShownPages S) (to : ShownPages T) (index : AltIndex)
    (records : ℕ) (old new : S) (before after : T) (result : Result AltIndex CopyFault) : Type 0 where
  pub copied : WhereBothHonest from to new before after ((entries : List AltEntry) (own : List ℕ)
      → AltStands index (from.state old).live entries own → records ≡ length entries
      → IsCopyAnswer result (λ copy. AltChanged (to.state before).live (to.state after).live copy []
      entries × IsTrue (to.state after).is_sound))
  pub alike : IfOk result (IsAlike index)

-- each index is like the one at its place
abbrev pub AreAlikeIndexes : List AltIndex → List AltIndex → Type 0
AreAlikeIndexes old new = (j : ℕ) (was is : AltIndex) → j < length new
    → was ≡ slice_index_or old j was → is ≡ slice_index_or new j is → IsAlike was is

-- a call that copies the index of each alternate key, beside the rows
pub record CopiesIndexes {S T : Type 0} (from : ShownPages S) (to : ShownPages T) (source : OpenFile)
    (old new : S) (before after : T) (result : Result (ArrayVec AltIndex) CopyFault) : Type 0 where
  pub copied : WhereBothHonest from to new before after ((file : File)
      → Stands source (from.state old).live file → (heap : Heap) (prime : PrimeIndex)
      → RowsStandBuilt (file_schema source) heap prime [] (to.state before).live file.rows
      → IsCopyAnswer result (λ alternates. RowsStandBuilt (file_schema source) heap prime alternates.items
      (to.state after).live file.rows × IsTrue (to.state after).is_sound))
  pub alike : IfOk result (λ alternates. AreAlikeIndexes (alternates_of source) alternates.items)
  pub many : IfOk result (λ alternates. length alternates.items ≡ length (alternates_of source))
