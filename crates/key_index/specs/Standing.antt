-- An index that stands in its pages, and what its pages read as.
use Rattle.std.specs.Prelude.{◌≡◌, ℕ, ◌+◌, List, length, map}
use Rattle.pages.specs.Each.{Each}
use Rattle.pages.specs.PageMap.{PageMap}
use Rattle.pages.specs.Owners.{ChangesPages}
use Rattle.bplus_tree.specs.Standing.{TreeStands}
use Rattle.bplus_tree.specs.ReadOff.{entries_in}
use Rattle.bplus_tree.specs.Fields.{tree_shape, tree_root, tree_levels, tree_count}
use Rattle.key_index.specs.declared.entry.PrimeEntry.{PrimeEntry}
use Rattle.key_index.specs.declared.entry.AltEntry.{AltEntry}
use Rattle.key_index.specs.declared.prime_index.PrimeIndex.{PrimeIndex}
use Rattle.key_index.specs.declared.alt_index.AltIndex.{AltIndex}
use Rattle.key_index.specs.Stored.{prime_bytes, alt_bytes, prime_entry_in, alt_entry_in, IsPrimeEntry}
use Rattle.key_index.specs.Stored.{IsAltEntry}

-- how many levels its tree has
abbrev pub prime_height : PrimeIndex → ℕ
prime_height index = tree_levels index.tree + 1

abbrev pub alt_height : AltIndex → ℕ
alt_height index = tree_levels index.tree + 1

-- the number of its key
abbrev pub alt_key : AltIndex → ℕ
alt_key index = (tree_shape index.tree).key

-- the index is one for values of this length, of this root, height and number of entries
pub record IsPrimeStored (index : PrimeIndex) (width root height count : ℕ) : Type 0 where
  pub width_is : index.width ≡ width
  pub root_is : tree_root index.tree ≡ root
  pub height_is : prime_height index ≡ height
  pub count_is : tree_count index.tree ≡ count

pub record IsAltStored (index : AltIndex) (width prime root height count : ℕ) : Type 0 where
  pub width_is : index.width ≡ width
  pub prime_is : index.prime ≡ prime
  pub root_is : tree_root index.tree ≡ root
  pub height_is : alt_height index ≡ height
  pub count_is : tree_count index.tree ≡ count

-- it has these entries, in the order of their ranks, in these pages
pub record PrimeStands (index : PrimeIndex) (pages : PageMap) (entries : List PrimeEntry)
    (own : List ℕ) : Type 0 where
  pub tree : TreeStands index.tree pages (map prime_bytes entries) own
  pub each : Each (IsPrimeEntry index.width) entries

pub record AltStands (index : AltIndex) (pages : PageMap) (entries : List AltEntry)
    (own : List ℕ) : Type 0 where
  pub tree : TreeStands index.tree pages (map alt_bytes entries) own
  pub each : Each (IsAltEntry index.width index.prime) entries

-- it has so many entries, wherever it stands
abbrev pub CountsPrime : PrimeIndex → ℕ → Type 0
CountsPrime index count = (pages : PageMap) (entries : List PrimeEntry) (own : List ℕ)
    → PrimeStands index pages entries own → count ≡ length entries

abbrev pub CountsAlt : AltIndex → ℕ → Type 0
CountsAlt index count = (pages : PageMap) (entries : List AltEntry) (own : List ℕ)
    → AltStands index pages entries own → count ≡ length entries

-- it has these entries now, in pages of which those new to it were free
pub record PrimeChanged (before after : PageMap) (new : PrimeIndex) (own : List ℕ)
    (entries : List PrimeEntry) : Type 0 where
  pub own_now : List ℕ
  pub stands : PrimeStands new after entries own_now
  pub changes : ChangesPages before after own own_now

pub record AltChanged (before after : PageMap) (new : AltIndex) (own : List ℕ)
    (entries : List AltEntry) : Type 0 where
  pub own_now : List ℕ
  pub stands : AltStands new after entries own_now
  pub changes : ChangesPages before after own own_now

-- the entries that are read off the pages, whether or not an index stands in them
abbrev pub prime_off : PrimeIndex → PageMap → List PrimeEntry
prime_off index pages = map (prime_entry_in index.width)
    (entries_in (tree_shape index.tree) pages (tree_levels index.tree) (tree_root index.tree))

abbrev pub alt_off : AltIndex → PageMap → List AltEntry
alt_off index pages =
    map (alt_entry_in index.width)
    (entries_in (tree_shape index.tree) pages (tree_levels index.tree) (tree_root index.tree))
