-- The index of an alternate key that is built from batches of entries.
use Rattle.std.specs.Prelude.{◌≡◌, ℕ, Bool, true, false, List, [], ◌++◌, length, Option, Result, IfOk, IsTrue}
use Rattle.std.specs.Option.{IfSome}
use Rattle.io_state.specs.declared.fault.Fault.{Fault}
use Rattle.record_layout.specs.Schema.{Schema}
use Rattle.indexed_file.specs.File.{Row}
use Rattle.pages.specs.PageMap.{PageMap}
use Rattle.pages.specs.Answer.{IsAnswer}
use Rattle.pages.specs.ShownPages.{ShownPages}
use Rattle.key_index.specs.declared.entry.AltEntry.{AltEntry}
use Rattle.key_index.specs.declared.alt_index.AltIndex.{AltIndex}
use Rattle.tree_building.specs.declared.alt_builder.AltBuilder.{AltBuilder}
use Rattle.tree_building.specs.IndexBuilding.{AltBuildsOn, IsBuildingAlt, KeepsAlt}
use Rattle.open_file.specs.InOrder.{alt_entries}
use Rattle.open_file.specs.Lent.{LendsToChange}
use Rattle.file_building.specs.declared.held_entries.HeldEntries.{HeldEntries}
use Rattle.file_building.specs.declared.rows_builder.RowParts.{RowParts}
use Rattle.file_building.specs.Alternates.{EndsAlternate, IsIndexOfKey}
use Rattle.file_building.specs.Held.{IsHeldFor}
use Rattle.file_building.specs.Ranks.{is_lower, AreUntied, IsSortedOf, NoRankTwice}
use Rattle.file_building.specs.Rereading.{HasStampsOf}
use Rattle.file_building.specs.Rows.{RowsStandBuilt}
use Rattle.file_building.specs.Steps.{WhereBuiltHonestly}
use Rattle.file_building.specs.Written.{HaveLengths, rows_of}

-- pages may be changed, and the entries held are as long as those of the index
pub record CanPushHeld {S : Type 0} (shown : ShownPages S) (builder : AltBuilder) (held : HeldEntries)
    (before : S) : Type 0 where
  pub target : LendsToChange shown before
  pub fits : IsHeldFor builder.width builder.prime held

-- the entries were put behind those of the index, in the order of their ranks
pub record IsPushedOn (start after : PageMap) (new : AltBuilder) (done entries : List AltEntry) : Type 0 where
  pub sorted : List AltEntry
  pub order : IsSortedOf entries sorted
  pub on : AltBuildsOn start after new [] (done ++ sorted)

-- so; or two of them have one rank
abbrev pub EndsPushingHeld : (start after : PageMap) → AltBuilder → (done entries : List AltEntry) → (is_sound : Type 0)
    → Bool → Type 0
EndsPushingHeld start after new done entries is_sound true = IsPushedOn start after new done entries × is_sound
EndsPushingHeld start after new done entries is_sound false = AreUntied is_lower entries → ⊥

-- a call that puts the entries held behind those of an index
pub record PushesHeld {S : Type 0} (shown : ShownPages S) (before after : S) (old new : AltBuilder)
    (entries : List AltEntry) (result : Result Bool Fault) : Type 0 where
  pub pushed : WhereBuiltHonestly shown before after ((start : PageMap) (done : List AltEntry)
      → AltBuildsOn start (shown.state before).live old [] done
      → IsAnswer result (EndsPushingHeld start (shown.state after).live new done entries
      (IsTrue (shown.state after).is_sound)))

-- all entries that key k has of rows are in the index, and no two rows have one rank; or two have
abbrev pub EndsPushingAll : Schema → ℕ → List Row → (start after : PageMap) → AltBuilder → (is_sound : Type 0)
    → Bool → Type 0
EndsPushingAll schema k rows start after new is_sound true =
    AltBuildsOn start after new [] (alt_entries schema k rows) × NoRankTwice schema k rows × is_sound
EndsPushingAll schema k rows start after new is_sound false = NoRankTwice schema k rows → ⊥

-- a call that puts them into an index without entries, beside the rows
pub record PushesAll {S : Type 0} (shown : ShownPages S) (schema : Schema) (k : ℕ) (parts : RowParts) (count : ℕ)
    (before after : S) (old new : AltBuilder) (result : Result Bool Fault) : Type 0 where
  pub pushed : WhereBuiltHonestly shown before after ((records : List (List ℕ)) → HaveLengths schema records
      → HasStampsOf schema parts → length records ≡ count → (alternates : List AltIndex)
      → RowsStandBuilt schema parts.heap parts.prime alternates (shown.state before).live (rows_of schema records)
      → IsBuildingAlt old (shown.state before).live [] []
      → IsAnswer result (EndsPushingAll schema k (rows_of schema records) (shown.state before).live
      (shown.state after).live new (IsTrue (shown.state after).is_sound)))
  pub same : KeepsAlt old new

-- a call that builds the index of key k from the rows
pub record BuildsInBatches {S : Type 0} (shown : ShownPages S) (schema : Schema) (k : ℕ) (parts : RowParts)
    (count : ℕ) (before after : S) (result : Result (Option AltIndex) Fault) : Type 0 where
  pub built : WhereBuiltHonestly shown before after ((records : List (List ℕ)) → HaveLengths schema records
      → HasStampsOf schema parts → length records ≡ count → (alternates : List AltIndex)
      → RowsStandBuilt schema parts.heap parts.prime alternates (shown.state before).live (rows_of schema records)
      → IsAnswer result (EndsAlternate schema k (rows_of schema records) (shown.state before).live
      (shown.state after).live (IsTrue (shown.state after).is_sound)))
  pub of : IfOk result (λ found. IfSome found (IsIndexOfKey schema k))
