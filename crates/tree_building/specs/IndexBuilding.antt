-- An index that is being built: its entries so far, and what comes of them.
use Rattle.std.specs.Prelude.{◌≡◌, ◌≤◌, ◌+◌, ℕ, List, [], ◌∷◌, ◌++◌, length, map, Result}
use Rattle.io_state.specs.declared.fault.Fault.{Fault}
use Rattle.tree_node.specs.Order.{Ascends}
use Rattle.pages.specs.Each.{Each}
use Rattle.pages.specs.PageMap.{PageMap}
use Rattle.pages.specs.Owners.{ChangesPages}
use Rattle.pages.specs.Answer.{IsAnswer}
use Rattle.pages.specs.ShownPages.{ShownPages}
use Rattle.bplus_tree.specs.Fields.{tree_shape, tree_levels}
use Rattle.key_index.specs.declared.entry.PrimeEntry.{PrimeEntry}
use Rattle.key_index.specs.declared.entry.AltEntry.{AltEntry}
use Rattle.key_index.specs.declared.prime_index.PrimeIndex.{PrimeIndex}
use Rattle.key_index.specs.declared.alt_index.AltIndex.{AltIndex}
use Rattle.key_index.specs.Stored.{prime_bytes, alt_bytes, IsPrimeEntry, IsAltEntry, IsWidth}
use Rattle.key_index.specs.Standing.{PrimeStands, AltStands, alt_key}
use Rattle.tree_building.specs.Building.{IsBuilding, builder_shape, entry_count, leaves_written}
use Rattle.tree_building.specs.Filled.{AreFilled}
use Rattle.tree_building.specs.Fresh.{KeepsInUse}
use Rattle.tree_building.specs.declared.prime_builder.PrimeBuilder.{PrimeBuilder}
use Rattle.tree_building.specs.declared.alt_builder.AltBuilder.{AltBuilder}

-- the number of its key
abbrev pub alt_builder_key : AltBuilder → ℕ
alt_builder_key builder = (builder_shape builder.tree).key

-- how many entries it has
abbrev pub prime_builder_count : PrimeBuilder → ℕ
prime_builder_count builder = entry_count builder.tree

abbrev pub alt_builder_count : AltBuilder → ℕ
alt_builder_count builder = entry_count builder.tree

-- how many leaves are written
abbrev pub prime_leaves_written : PrimeBuilder → ℕ
prime_leaves_written builder = leaves_written builder.tree

abbrev pub alt_leaves_written : AltBuilder → ℕ
alt_leaves_written builder = leaves_written builder.tree

-- values of this length rise, and no two are equal
abbrev pub PrimeEntriesRise : ℕ → List PrimeEntry → Type 0
PrimeEntriesRise width entries = Ascends width (map prime_bytes entries)

-- values of this length and their stamps rise, and no two are equal
abbrev pub AltEntriesRise : ℕ → List AltEntry → Type 0
AltEntriesRise width entries = Ascends (width + 8) (map alt_bytes entries)

-- these are its entries, in order; those that are written stand in these pages
pub record IsBuildingPrime (builder : PrimeBuilder) (pages : PageMap) (entries : List PrimeEntry)
    (own : List ℕ) : Type 0 where
  pub tree : IsBuilding builder.tree pages (map prime_bytes entries) own
  pub each : Each (IsPrimeEntry builder.width) entries

pub record IsBuildingAlt (builder : AltBuilder) (pages : PageMap) (entries : List AltEntry)
    (own : List ℕ) : Type 0 where
  pub tree : IsBuilding builder.tree pages (map alt_bytes entries) own
  pub each : Each (IsAltEntry builder.width builder.prime) entries

-- pages may be changed, and the value is as long as those of the index
pub record CanPushPrime {S : Type 0} (shown : ShownPages S) (builder : PrimeBuilder) (of : List ℕ)
    (pages : S) : Type 0 where
  pub ready : shown.IsReady pages
  pub changing : shown.CanChange pages
  pub value : length of ≡ builder.width

-- so, and the prime value is as long as those
pub record CanPushAlt {S : Type 0} (shown : ShownPages S) (builder : AltBuilder) (entry : AltEntry)
    (pages : S) : Type 0 where
  pub ready : shown.IsReady pages
  pub changing : shown.CanChange pages
  pub value : length entry.value.items ≡ builder.width
  pub prime : length entry.prime.items ≡ builder.prime

-- an index can have values and prime values of these lengths
pub record CanBuildAlt (long prime_long : ℕ) : Type 0 where
  pub width : IsWidth long
  pub prime : prime_long ≤ 250

-- the builder is one of this key, for values and prime values of these lengths
pub record IsAltBuilderOf (key width prime : ℕ) (builder : AltBuilder) : Type 0 where
  pub key_is : alt_builder_key builder ≡ key
  pub width_is : builder.width ≡ width
  pub prime_is : builder.prime ≡ prime

-- it is of the same key, for values and prime values of the same lengths
abbrev pub KeepsAlt : AltBuilder → AltBuilder → Type 0
KeepsAlt old new = IsAltBuilderOf (alt_builder_key old) old.width old.prime new

-- the index is of the same key, for values and prime values of the same lengths
pub record IsBuiltFrom (builder : AltBuilder) (index : AltIndex) : Type 0 where
  pub key_is : alt_key index ≡ alt_builder_key builder
  pub width_is : index.width ≡ builder.width
  pub prime_is : index.prime ≡ builder.prime

-- it has these entries now, and pages more that were not in use
pub record PrimeBuildsOn (before after : PageMap) (new : PrimeBuilder) (own : List ℕ)
    (entries : List PrimeEntry) : Type 0 where
  pub own_now : List ℕ
  pub building : IsBuildingPrime new after entries own_now
  pub changes : ChangesPages before after own own_now

pub record AltBuildsOn (before after : PageMap) (new : AltBuilder) (own : List ℕ)
    (entries : List AltEntry) : Type 0 where
  pub own_now : List ℕ
  pub building : IsBuildingAlt new after entries own_now
  pub changes : ChangesPages before after own own_now

-- one entry more comes behind them
pub record PushesPrime (old new : PrimeBuilder) (e : PrimeEntry) (result : Result Unit Fault)
    (before after : PageMap) (is_sound : Type 0) : Type 0 where
  pub pushed : (entries : List PrimeEntry) (own : List ℕ) → IsBuildingPrime old before entries own
      → IsAnswer result (λ done. PrimeBuildsOn before after new own (entries ++ e ∷ []))
  pub kept : KeepsInUse before after
  pub sound : is_sound

pub record PushesAlt (old new : AltBuilder) (e : AltEntry) (result : Result Unit Fault)
    (before after : PageMap) (is_sound : Type 0) : Type 0 where
  pub pushed : (entries : List AltEntry) (own : List ℕ) → IsBuildingAlt old before entries own
      → IsAnswer result (λ done. AltBuildsOn before after new own (entries ++ e ∷ []))
  pub kept : KeepsInUse before after
  pub sound : is_sound

-- the index stands for these entries, and all nodes of a level of its tree but the last two are full
pub record PrimeStandsFilled (index : PrimeIndex) (pages : PageMap) (entries : List PrimeEntry)
    (own : List ℕ) : Type 0 where
  pub stands : PrimeStands index pages entries own
  pub filled : AreFilled (tree_shape index.tree) (tree_levels index.tree) (stands.tree.value ∷ [])

pub record AltStandsFilled (index : AltIndex) (pages : PageMap) (entries : List AltEntry)
    (own : List ℕ) : Type 0 where
  pub stands : AltStands index pages entries own
  pub filled : AreFilled (tree_shape index.tree) (tree_levels index.tree) (stands.tree.value ∷ [])

-- it has these entries, in pages of which those new to it were free; no other page was taken
pub record HasBuiltPrime (left left_now : ℕ) (before after : PageMap) (index : PrimeIndex)
    (own : List ℕ) (entries : List PrimeEntry) : Type 0 where
  pub own_now : List ℕ
  pub standing : PrimeStandsFilled index after entries own_now
  pub changes : ChangesPages before after own own_now
  pub taken : length own_now + left_now ≡ length own + left

pub record HasBuiltAlt (left left_now : ℕ) (before after : PageMap) (index : AltIndex)
    (own : List ℕ) (entries : List AltEntry) : Type 0 where
  pub own_now : List ℕ
  pub standing : AltStandsFilled index after entries own_now
  pub changes : ChangesPages before after own own_now
  pub taken : length own_now + left_now ≡ length own + left

-- an index stands for exactly the entries, where they rise
pub record FinishesPrime (old : PrimeBuilder) (result : Result PrimeIndex Fault) (left left_now : ℕ)
    (before after : PageMap) (is_sound : Type 0) : Type 0 where
  pub finished : (entries : List PrimeEntry) (own : List ℕ) → IsBuildingPrime old before entries own
      → PrimeEntriesRise old.width entries
      → IsAnswer result (λ index. HasBuiltPrime left left_now before after index own entries)
  pub kept : KeepsInUse before after
  pub sound : is_sound

pub record FinishesAlt (old : AltBuilder) (result : Result AltIndex Fault) (left left_now : ℕ)
    (before after : PageMap) (is_sound : Type 0) : Type 0 where
  pub finished : (entries : List AltEntry) (own : List ℕ) → IsBuildingAlt old before entries own
      → AltEntriesRise old.width entries
      → IsAnswer result (λ index. HasBuiltAlt left left_now before after index own entries)
  pub kept : KeepsInUse before after
  pub sound : is_sound
