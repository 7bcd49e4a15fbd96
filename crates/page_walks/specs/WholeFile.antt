-- A file whose pages were all reached.
use Rattle.std.specs.Prelude.{◌≡◌, ℕ, ◌<◌, Bool, true, false, List, [], ◌∷◌, length}
use Rattle.pages.specs.Each.{Each}
use Rattle.pages.specs.PageMap.{PageMap}
use Rattle.page_alloc.specs.Chain.{chain, used}
use Rattle.bplus_tree.specs.declared.tree.Tree.{Tree}
use Rattle.bplus_tree.specs.Standing.{TreeStands}
use Rattle.pages.specs.Marks.{Marks}
use Rattle.pages.specs.PageList.{pages_in}
use Rattle.pages.specs.Parted.{Parted, own_at, all_of}
use Rattle.page_walks.specs.FreeWalk.{page_in, FreeWalked}

-- the pages in use of a file whose free pages are those from the first one on, so many
abbrev pub pages_used_in : List (List ℕ) → ℕ → ℕ → PageMap
pages_used_in list first count =
    used (page_in list) (length list) (chain (page_in list) (length list) first count)

-- no page belongs to two parts, each page in use to one, and the pages of each part are in use as
-- they were read
pub record FileParted (list : List (List ℕ)) (pages : PageMap) (owns : List (List ℕ)) : Type 0 where
  pub parted : Parted pages owns
  pub as_read : (i : ℕ) → Each (λ n. pages n ≡ pages_in list n) (own_at owns i)

-- With no mark at first, page 0 was marked, then the free pages were walked, and then the parts,
-- after which no page is without a mark.
abbrev pub WalksPartTheFile : Type 0
WalksPartTheFile = (list : List (List ℕ)) (first count : ℕ) (none header start final : ℕ → Bool)
    (owns : List (List ℕ))
    → ((n : ℕ) → none n ≡ false) → Marks none header (0 ∷ []) → FreeWalked list first count header start
    → Marks start final (all_of owns)
    → ((n : ℕ) → n < length list → final n ≡ true) → FileParted list (pages_used_in list first count) owns

-- a tree stands while its own pages stay as they are
abbrev pub TreesStay : Type 0
TreesStay = (tree : Tree) (before after : PageMap) (entries : List (List ℕ)) (own : List ℕ)
    → Each (λ n. after n ≡ before n) own → TreeStands tree before entries own
    → TreeStands tree after entries own
