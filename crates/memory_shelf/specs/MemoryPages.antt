-- Pages in memory, which the tests put under a tree, an index and a heap.
use Rattle.std.specs.Prelude.{ℕ, true, false, None}
use Rattle.pages.specs.PagesState.{PagesState}

-- so many pages can be taken; nothing is claimed of what any page holds
abbrev pub unclaimed : ℕ → PagesState
unclaimed left = record { live = λ n. None; available = left; asked = 0; is_sound = true; is_honest = false }
