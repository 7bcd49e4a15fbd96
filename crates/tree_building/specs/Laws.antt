-- Laws of what is being built beside other parts, and of the order of entries.
use Rattle.std.specs.Prelude.{◌≡◌, ℕ, List, length, map}
use Rattle.pages.specs.Each.{Each}
use Rattle.pages.specs.PageMap.{PageMap}
use Rattle.pages.specs.Owners.{IsOutside, ChangesPages}
use Rattle.record_heap.specs.declared.builder.HeapBuilder.{HeapBuilder}
use Rattle.record_heap.specs.declared.shape.Place.{Place}
use Rattle.record_heap.specs.Chain.{Slots}
use Rattle.record_heap.specs.Filling.{IsFilling}
use Rattle.key_index.specs.declared.entry.PrimeEntry.{PrimeEntry}
use Rattle.key_index.specs.declared.entry.AltEntry.{AltEntry}
use Rattle.key_index.specs.declared.prime_index.PrimeIndex.{PrimeIndex}
use Rattle.key_index.specs.declared.alt_index.AltIndex.{AltIndex}
use Rattle.key_index.specs.Laws.{AreInUse}
use Rattle.key_index.specs.Standing.{PrimeStands, AltStands}
use Rattle.key_index.specs.Stored.{IsPrimeEntry}
use Rattle.tree_building.specs.declared.prime_builder.PrimeBuilder.{PrimeBuilder}
use Rattle.tree_building.specs.declared.alt_builder.AltBuilder.{AltBuilder}
use Rattle.tree_building.specs.IndexBuilding.{IsBuildingPrime, IsBuildingAlt, PrimeEntriesRise, AltEntriesRise}
use Rattle.tree_building.specs.IndexBuilding.{prime_builder_count, alt_builder_count}

-- its pages are in use, and none stands twice
abbrev pub prime_building_is_live : Type 0
prime_building_is_live = (builder : PrimeBuilder) (pages : PageMap) (entries : List PrimeEntry)
    (own : List ℕ) → IsBuildingPrime builder pages entries own → AreInUse pages own

-- it is as it was while its own pages stay
abbrev pub prime_building_is_kept : Type 0
prime_building_is_kept = (builder : PrimeBuilder) (before after : PageMap) (entries : List PrimeEntry)
    (own : List ℕ) → IsBuildingPrime builder before entries own
    → Each (λ n. after n ≡ before n) own → IsBuildingPrime builder after entries own

-- a change of something that has none of its pages leaves it as it was, and takes none of them
abbrev pub prime_building_stands_aside : Type 0
prime_building_stands_aside = (builder : PrimeBuilder) (before after : PageMap)
    (entries : List PrimeEntry) (own old new : List ℕ) → IsBuildingPrime builder before entries own
    → ChangesPages before after old new → Each (IsOutside old) own
    → IsBuildingPrime builder after entries own × Each (IsOutside new) own

-- it counts its entries
abbrev pub prime_building_counts : Type 0
prime_building_counts = (builder : PrimeBuilder) (pages : PageMap) (entries : List PrimeEntry)
    (own : List ℕ) → IsBuildingPrime builder pages entries own
    → prime_builder_count builder ≡ length entries

-- the same of an index of an alternate key
abbrev pub alt_building_is_live : Type 0
alt_building_is_live = (builder : AltBuilder) (pages : PageMap) (entries : List AltEntry)
    (own : List ℕ) → IsBuildingAlt builder pages entries own → AreInUse pages own

abbrev pub alt_building_is_kept : Type 0
alt_building_is_kept = (builder : AltBuilder) (before after : PageMap) (entries : List AltEntry)
    (own : List ℕ) → IsBuildingAlt builder before entries own
    → Each (λ n. after n ≡ before n) own → IsBuildingAlt builder after entries own

abbrev pub alt_building_stands_aside : Type 0
alt_building_stands_aside = (builder : AltBuilder) (before after : PageMap)
    (entries : List AltEntry) (own old new : List ℕ) → IsBuildingAlt builder before entries own
    → ChangesPages before after old new → Each (IsOutside old) own
    → IsBuildingAlt builder after entries own × Each (IsOutside new) own

abbrev pub alt_building_counts : Type 0
alt_building_counts = (builder : AltBuilder) (pages : PageMap) (entries : List AltEntry)
    (own : List ℕ) → IsBuildingAlt builder pages entries own
    → alt_builder_count builder ≡ length entries

-- no page of a heap that is being built stands twice, and all are in use
abbrev pub filling_is_apart : Type 0
filling_is_apart = (builder : HeapBuilder) (pages : PageMap) (slots : Slots) (own : List ℕ)
    (places : List Place) → IsFilling builder pages slots own places → AreInUse pages own

-- it is as it was while its own pages stay
abbrev pub filling_is_kept : Type 0
filling_is_kept = (builder : HeapBuilder) (before after : PageMap) (slots : Slots) (own : List ℕ)
    (places : List Place) → IsFilling builder before slots own places
    → Each (λ n. after n ≡ before n) own → IsFilling builder after slots own places

-- a change of something that has none of its pages leaves it as it was, and takes none of them
abbrev pub filling_stands_aside : Type 0
filling_stands_aside = (builder : HeapBuilder) (before after : PageMap) (slots : Slots)
    (own old new : List ℕ) (places : List Place) → IsFilling builder before slots own places
    → ChangesPages before after old new → Each (IsOutside old) own
    → IsFilling builder after slots own places × Each (IsOutside new) own

-- the entries of an index that stands rise
abbrev pub standing_primes_rise : Type 0
standing_primes_rise = (index : PrimeIndex) (pages : PageMap) (entries : List PrimeEntry)
    (own : List ℕ) → PrimeStands index pages entries own → PrimeEntriesRise index.width entries

abbrev pub standing_alts_rise : Type 0
standing_alts_rise = (index : AltIndex) (pages : PageMap) (entries : List AltEntry)
    (own : List ℕ) → AltStands index pages entries own → AltEntriesRise index.width entries

-- entries of the same values rise too, wherever their records lie
abbrev pub places_do_not_order : Type 0
places_do_not_order = (width : ℕ) (entries others : List PrimeEntry)
    → Each (IsPrimeEntry width) entries → Each (IsPrimeEntry width) others
    → map (λ e. e.value.items) others ≡ map (λ e. e.value.items) entries
    → PrimeEntriesRise width entries → PrimeEntriesRise width others
