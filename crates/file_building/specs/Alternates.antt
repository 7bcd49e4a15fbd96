-- Indexes of alternate keys that are built from records.
use Rattle.std.specs.Prelude.{◌≡◌, ◌<◌, ℕ, suc, ◌+◌, List, [], ◌++◌, length, Option, None, Some, Result, IfOk, IsTrue}
use Rattle.std.specs.Prelude.{slice_index_or}
use Rattle.std.specs.Option.{IfSome}
use Rattle.arrayvec.specs.ArrayVec.{ArrayVec}
use Rattle.io_state.specs.declared.fault.Fault.{Fault}
use Rattle.record_layout.specs.Schema.{Schema, key_at}
use Rattle.indexed_file.specs.File.{Row}
use Rattle.pages.specs.Each.{Each}
use Rattle.pages.specs.PageMap.{PageMap}
use Rattle.pages.specs.Answer.{IsAnswer}
use Rattle.pages.specs.ShownPages.{ShownPages}
use Rattle.record_heap.specs.declared.heap.Heap.{Heap}
use Rattle.key_index.specs.declared.entry.AltEntry.{AltEntry}
use Rattle.key_index.specs.declared.prime_index.PrimeIndex.{PrimeIndex}
use Rattle.key_index.specs.declared.alt_index.AltIndex.{AltIndex}
use Rattle.key_index.specs.Standing.{AltChanged, alt_key}
use Rattle.tree_building.specs.declared.alt_builder.AltBuilder.{AltBuilder}
use Rattle.tree_building.specs.IndexBuilding.{AltBuildsOn}
use Rattle.open_file.specs.InOrder.{alt_entries}
use Rattle.open_file.specs.Lent.{LendsToChange}
use Rattle.file_building.specs.Written.{HaveLengths, rows_of}
use Rattle.file_building.specs.Ranks.{RanksRise, NoRankTwice}
use Rattle.file_building.specs.Rows.{RowsStandBuilt}
use Rattle.file_building.specs.Entries.{AreFronts, AreKeptFronts}
use Rattle.file_building.specs.declared.kept_fronts.KeptFronts.{KeptFronts}
use Rattle.file_building.specs.declared.rows_builder.RowParts.{RowParts}
use Rattle.file_building.specs.Rereading.{HasStampsOf}
use Rattle.file_building.specs.Steps.{WhereBuiltHonestly}

-- the entries are as long as those of an index
abbrev pub FitIndex : (width prime : ℕ) → List AltEntry → Type 0
FitIndex width prime entries =
    Each (λ e. (length e.value.items ≡ width) × (length e.prime.items ≡ prime)) entries

-- pages may be changed, and the entries are as long as those of the builder
pub record CanPushEntries {S : Type 0} (shown : ShownPages S) (builder : AltBuilder)
    (entries : List AltEntry) (before : S) : Type 0 where
  pub target : LendsToChange shown before
  pub fit : FitIndex builder.width builder.prime entries

-- a call that puts entries behind those before them
pub record PushesEntries {S : Type 0} (shown : ShownPages S) (before after : S) (old new : AltBuilder)
    (entries : List AltEntry) (result : Result Unit Fault) : Type 0 where
  pub pushed : WhereBuiltHonestly shown before after ((start : PageMap) (done : List AltEntry)
      → AltBuildsOn start (shown.state before).live old [] done
      → IsAnswer result (λ u. AltBuildsOn start (shown.state after).live new [] (done ++ entries)
      × IsTrue (shown.state after).is_sound))

-- an index of this key, for values and prime values of these lengths
pub record IsIndexWith (key width prime : ℕ) (index : AltIndex) : Type 0 where
  pub key_is : alt_key index ≡ key
  pub width_is : index.width ≡ width
  pub prime_is : index.prime ≡ prime

-- a call that builds an index from entries whose ranks rise
pub record BuildsIndex {S : Type 0} (shown : ShownPages S) (before after : S) (entries : List AltEntry)
    (result : Result AltIndex Fault) : Type 0 where
  pub built : WhereBuiltHonestly shown before after (RanksRise entries → IsAnswer result (λ index.
      AltChanged (shown.state before).live (shown.state after).live index [] entries
      × IsTrue (shown.state after).is_sound))

-- an index for key k of the schema
abbrev pub IsIndexOfKey : Schema → ℕ → AltIndex → Type 0
IsIndexOfKey schema k index = IsIndexWith k (key_at schema k).length (key_at schema 0).length index

-- it stands for the entries of rows, no two of which have one rank; or two of them have
abbrev pub EndsAlternate : Schema → ℕ → List Row → (before after : PageMap) → (is_sound : Type 0)
    → Option AltIndex → Type 0
EndsAlternate schema k rows before after is_sound None = NoRankTwice schema k rows → ⊥
EndsAlternate schema k rows before after is_sound (Some index) =
    AltChanged before after index [] (alt_entries schema k rows) × NoRankTwice schema k rows × is_sound

-- a call that builds the index of key k from the fronts of records
pub record BuildsAlternate {S : Type 0} (shown : ShownPages S) (schema : Schema) (k : ℕ) (fronts : List ℕ)
    (before after : S) (result : Result (Option AltIndex) Fault) : Type 0 where
  pub built : WhereBuiltHonestly shown before after ((records : List (List ℕ)) → HaveLengths schema records
      → AreFronts schema records fronts → IsAnswer result (EndsAlternate schema k (rows_of schema records)
      (shown.state before).live (shown.state after).live (IsTrue (shown.state after).is_sound)))
  pub of : IfOk result (λ found. IfSome found (IsIndexOfKey schema k))

-- so many records were put into a heap and a prime index, and where all their fronts are kept, they are these
pub record AreRecordsOf (schema : Schema) (parts : RowParts) (count : ℕ) (fronts : KeptFronts)
    (records : List (List ℕ)) : Type 0 where
  pub long : HaveLengths schema records
  pub kept : AreKeptFronts schema records fronts
  pub stamps : HasStampsOf schema parts
  pub many : length records ≡ count

-- a call that builds the index of key k from the fronts of records, or from their rows
pub record BuildsKey {S : Type 0} (shown : ShownPages S) (schema : Schema) (k : ℕ) (parts : RowParts) (count : ℕ)
    (fronts : KeptFronts) (before after : S) (result : Result (Option AltIndex) Fault) : Type 0 where
  pub built : WhereBuiltHonestly shown before after ((records : List (List ℕ))
      → AreRecordsOf schema parts count fronts records → (alternates : List AltIndex)
      → RowsStandBuilt schema parts.heap parts.prime alternates (shown.state before).live (rows_of schema records)
      → IsAnswer result (EndsAlternate schema k (rows_of schema records) (shown.state before).live
      (shown.state after).live (IsTrue (shown.state after).is_sound)))
  pub of : IfOk result (λ found. IfSome found (IsIndexOfKey schema k))

-- no two rows have one rank by an alternate key
abbrev pub AllRanksDiffer : Schema → List Row → Type 0
AllRanksDiffer schema rows = (j : ℕ) → suc j < length schema.keys → NoRankTwice schema (suc j) rows

-- index j is one for alternate key j + 1
abbrev pub AreIndexesFor : Schema → List AltIndex → Type 0
AreIndexesFor schema alternates = (j : ℕ) (index : AltIndex) → j < length alternates
    → index ≡ slice_index_or alternates j index → IsIndexOfKey schema (j + 1) index

-- and there is one for each alternate key
pub record AreAllIndexesFor (schema : Schema) (alternates : List AltIndex) : Type 0 where
  pub each : AreIndexesFor schema alternates
  pub many : length schema.keys ≡ length alternates + 1

-- they stand beside the heap and the prime index; or two rows have one rank
abbrev pub EndsAlternates : Schema → List Row → Heap → PrimeIndex → (after : PageMap) → (is_sound : Type 0)
    → Option (ArrayVec AltIndex) → Type 0
EndsAlternates schema rows heap prime after is_sound None = AllRanksDiffer schema rows → ⊥
EndsAlternates schema rows heap prime after is_sound (Some alternates) =
    RowsStandBuilt schema heap prime alternates.items after rows × AllRanksDiffer schema rows × is_sound

-- a call that builds the index of each alternate key, beside the rows
pub record BuildsAlternates {S : Type 0} (shown : ShownPages S) (schema : Schema) (parts : RowParts) (count : ℕ)
    (fronts : KeptFronts) (before after : S) (result : Result (Option (ArrayVec AltIndex)) Fault) : Type 0 where
  pub built : WhereBuiltHonestly shown before after ((records : List (List ℕ))
      → AreRecordsOf schema parts count fronts records
      → RowsStandBuilt schema parts.heap parts.prime [] (shown.state before).live (rows_of schema records)
      → IsAnswer result (EndsAlternates schema (rows_of schema records) parts.heap parts.prime
      (shown.state after).live (IsTrue (shown.state after).is_sound)))
  pub of : IfOk result (λ found. IfSome found (λ alternates. AreAllIndexesFor schema alternates.items))
