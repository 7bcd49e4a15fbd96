-- What is found of the parts of a file whose pages were read into a list.
use Rattle.std.specs.Prelude.{◌≡◌, ℕ, ◌<◌, Bool, false, List, IsSome, length, slice_index_or}
use Rattle.indexed_file.specs.File.{File}
use Rattle.pages.specs.Marks.{Marks, marked_in}
use Rattle.pages.specs.PageList.{pages_in}
use Rattle.pages.specs.Parted.{own_at, all_of}
use Rattle.page_alloc.specs.Chain.{chain}
use Rattle.page_walks.specs.declared.spot.LeafSpot.{LeafSpot}
use Rattle.page_walks.specs.Spots.{entries_at}
use Rattle.page_walks.specs.FreeWalk.{page_in}
use Rattle.page_walks.specs.WholeFile.{pages_used_in}
use Rattle.bplus_tree.specs.Standing.{TreeStands}
use Rattle.bplus_tree.specs.Fields.{tree_shape, tree_count}
use Rattle.key_index.specs.declared.alt_index.AltIndex.{AltIndex}
use Rattle.open_file.specs.declared.first_page.Header.{Header}
use Rattle.open_file.specs.Bounds.{IsHeader}
use Rattle.open_file.specs.Fields.{alternates_of}
use Rattle.open_file.specs.declared.open_file.OpenFile.{OpenFile}
use Rattle.open_file.specs.Headers.{IsOpenedBy}
use Rattle.open_file.specs.Stands.{Stands}
use Rattle.file_checker.specs.Alternate.{AlternateStands}

-- the index stands in pages of its own, and its entries are those of the rows
pub record AlternateFound (opened : OpenFile) (list : List (List ℕ)) (primes : List LeafSpot)
    (index : AltIndex) (own : List ℕ) : Type 0 where
  pub spots : List LeafSpot
  pub tree : TreeStands index.tree (pages_in list) (entries_at (tree_shape index.tree) list spots) own
  pub rows : AlternateStands opened list primes index spots

-- so do the first alternate indexes, so many, and their pages were reached now
pub record AlternatesFound (opened : OpenFile) (list : List (List ℕ)) (primes : List LeafSpot) (count : ℕ)
    (before after : ℕ → Bool) : Type 0 where
  pub owns : List (List ℕ)
  pub as_many : length owns ≡ count
  pub marks : Marks before after (all_of owns)
  pub each : (j : ℕ) (index : AltIndex) → j < count → index ≡ slice_index_or (alternates_of opened) j index
      → AlternateFound opened list primes index (own_at owns j)

-- each alternate index has so many entries
abbrev pub AlternatesCount : OpenFile → ℕ → Type 0
AlternatesCount opened n = (j : ℕ) (index : AltIndex) → j < length (alternates_of opened)
    → index ≡ slice_index_or (alternates_of opened) j index → tree_count index.tree ≡ n

-- all of them stand so, and their pages were marked now
abbrev pub AllFound : OpenFile → List (List ℕ) → List LeafSpot → List Bool → List Bool → Type 0
AllFound opened list primes before after = AlternatesFound opened list primes
    (length (alternates_of opened)) (marked_in before) (marked_in after)

-- the pages of a file, all that its header counts, stand for as many records as the header tells
pub record PagesStand (header : Header) (list : List (List ℕ)) : Type 0 where
  pub opened : OpenFile
  pub by_header : IsOpenedBy header opened
  pub file : File
  pub stands : Stands opened (pages_used_in list header.first_free header.free) file
  pub sound : IsSome (chain (page_in list) (length list) header.first_free header.free)
  pub records_are : length file.rows ≡ header.records

-- this is the header of a file of so many pages, each with a mark, none of which is set
pub record MayCheckParts (of : Header) (list : List (List ℕ)) (marks : List Bool) : Type 0 where
  pub header : IsHeader of
  pub clear : (n : ℕ) → marked_in marks n ≡ false
  pub many : length marks ≡ length list
  pub counted : length list ≡ of.pages
