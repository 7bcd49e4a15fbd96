-- How many of some values are equal at most, where equal ones stand together.
use Rattle.std.specs.Prelude.{◌≡◌, ℕ, ◌≤◌, ◌<◌, ◌^◌, List, [], ◌++◌, length, map, take, filter, bytes_eq}
use Rattle.std.specs.Prelude.{slice_index_or, Option, Some, option_map}
use Rattle.std.specs.Global.{Vec}
use Rattle.tree_node.specs.declared.shape.NodeShape.{NodeShape}
use Rattle.tree_search.specs.Calls.{last_of}
use Rattle.tree_search.specs.Tree.{TreeOf, Bound, IsOrdered, entries_of}
use Rattle.page_walks.specs.Rows.{AreFew, entries_in_row}
use Rattle.page_walks.specs.declared.runs.Run.{Run}

-- the values of entries: so many bytes, with which each begins
abbrev pub values_of : ℕ → List (List ℕ) → List (List ℕ)
values_of width entries = map (take width) entries

-- how many of these values are this one
abbrev pub count_of_value : List ℕ → List (List ℕ) → ℕ
count_of_value value values = length (filter (bytes_eq value) values)

-- so many of them are equal at most
pub record IsGreatestCount (values : List (List ℕ)) (count : ℕ) : Type 0 where
  pub most : (value : List ℕ) → count_of_value value values ≤ count
  pub some : (value : List ℕ) × (count_of_value value values ≡ count)

-- between two equal values stand none but their equals
abbrev pub AreTogether : List (List ℕ) → Type 0
AreTogether values = (i j k : ℕ) → i ≤ j → j ≤ k → k < length values
    → slice_index_or values i [] ≡ slice_index_or values k []
    → slice_index_or values j [] ≡ slice_index_or values k []

-- the last value so far
abbrev pub last_in : Run → Option (List ℕ)
last_in run = option_map (λ (bytes : Vec ℕ). bytes.items) run.last

-- what is known of the values so far
pub record RunOf (values : List (List ℕ)) (run : Run) : Type 0 where
  pub last : last_in run ≡ last_of values
  pub length_is : (value : List ℕ) → last_of values ≡ Some value → run.length ≡ count_of_value value values
  pub longest : IsGreatestCount values run.longest

-- so, with these values more, where all stand together and can be counted
abbrev pub TakesValues : (more : List (List ℕ)) → (old new : Run) → Type 0
TakesValues more old new = (values : List (List ℕ)) → RunOf values old → AreTogether (values ++ more)
    → length (values ++ more) < 2 ^ 64 → RunOf (values ++ more) new

-- so many entries of these leaves have one value at most, where equal values stand together and the
-- entries can be counted
abbrev pub IsLongestRun : NodeShape → (width : ℕ) → List (List ℕ) → (leaves : List ℕ) → ℕ → Type 0
IsLongestRun shape width list leaves longest = AreFew shape list leaves
    → AreTogether (values_of width (entries_in_row shape list leaves))
    → IsGreatestCount (values_of width (entries_in_row shape list leaves)) longest

-- a tree whose keys rise keeps equal values together, where its keys begin with the values
abbrev pub TreesKeepTogether : Type 0
TreesKeepTogether = (key width h : ℕ) (low high : Bound) (tree : TreeOf h) → width ≤ key
    → IsOrdered key h low high tree → AreTogether (values_of width (entries_of h tree))
