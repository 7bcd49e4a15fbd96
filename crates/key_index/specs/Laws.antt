-- Laws of an index that stands.
use Rattle.std.specs.Prelude.{◌≡◌, ℕ, List, IsSome}
use Rattle.pages.specs.Each.{Each}
use Rattle.pages.specs.PageMap.{PageMap}
use Rattle.pages.specs.Owners.{IsOutside, AreApart, ChangesPages}
use Rattle.key_index.specs.declared.entry.PrimeEntry.{PrimeEntry}
use Rattle.key_index.specs.declared.entry.AltEntry.{AltEntry}
use Rattle.key_index.specs.declared.prime_index.PrimeIndex.{PrimeIndex}
use Rattle.key_index.specs.declared.alt_index.AltIndex.{AltIndex}
use Rattle.key_index.specs.Standing.{PrimeStands, AltStands, prime_off, alt_off}

-- its pages are in use, and none stands twice
pub record AreInUse (pages : PageMap) (own : List ℕ) : Type 0 where
  pub live : Each (λ n. IsSome (pages n)) own
  pub apart : AreApart own

-- what is read off the pages are its entries
abbrev pub prime_reads : Type 0
prime_reads = (index : PrimeIndex) (pages : PageMap) (entries : List PrimeEntry) (own : List ℕ)
    → PrimeStands index pages entries own → prime_off index pages ≡ entries

abbrev pub prime_is_live : Type 0
prime_is_live = (index : PrimeIndex) (pages : PageMap) (entries : List PrimeEntry) (own : List ℕ)
    → PrimeStands index pages entries own → AreInUse pages own

-- it stands while its own pages are as they were
abbrev pub prime_is_kept : Type 0
prime_is_kept = (index : PrimeIndex) (before after : PageMap) (entries : List PrimeEntry) (own : List ℕ)
    → PrimeStands index before entries own
    → Each (λ n. after n ≡ before n) own → PrimeStands index after entries own

-- a change of something that has none of its pages leaves it standing, and takes none of them
abbrev pub prime_stands_aside : Type 0
prime_stands_aside = (index : PrimeIndex) (before after : PageMap) (entries : List PrimeEntry)
    (own old new : List ℕ) → PrimeStands index before entries own
    → ChangesPages before after old new → Each (IsOutside old) own → PrimeStands index after entries own
    × Each (IsOutside new) own

-- the same of an index of an alternate key
abbrev pub alt_reads : Type 0
alt_reads = (index : AltIndex) (pages : PageMap) (entries : List AltEntry) (own : List ℕ)
    → AltStands index pages entries own → alt_off index pages ≡ entries

abbrev pub alt_is_live : Type 0
alt_is_live = (index : AltIndex) (pages : PageMap) (entries : List AltEntry) (own : List ℕ)
    → AltStands index pages entries own → AreInUse pages own

abbrev pub alt_is_kept : Type 0
alt_is_kept = (index : AltIndex) (before after : PageMap) (entries : List AltEntry) (own : List ℕ)
    → AltStands index before entries own
    → Each (λ n. after n ≡ before n) own → AltStands index after entries own

abbrev pub alt_stands_aside : Type 0
alt_stands_aside = (index : AltIndex) (before after : PageMap) (entries : List AltEntry)
    (own old new : List ℕ) → AltStands index before entries own
    → ChangesPages before after old new → Each (IsOutside old) own → AltStands index after entries own
    × Each (IsOutside new) own
