-- What marks say of the parts of a file.
use Rattle.std.specs.Prelude.{◌≡◌, ℕ, ◌<◌, ◌≤◌, Bool, true, List, None}
use Rattle.pages.specs.PageMap.{PageMap}
use Rattle.pages.specs.Marks.{Marks}
use Rattle.pages.specs.Parted.{Parted, all_of}

-- At the start those are marked that are not in use below the count; then the parts were walked,
-- and in the end every page below it is marked.
abbrev pub MarksPartThePages : Type 0
MarksPartThePages = (pages : PageMap) (count : ℕ) (start final : ℕ → Bool) (owns : List (List ℕ))
    → Marks start final (all_of owns)
    → ((n : ℕ) → n < count → final n ≡ true) → ((n : ℕ) → start n ≡ true → pages n ≡ None)
    → ((n : ℕ) → count ≤ n → pages n ≡ None) → Parted pages owns
