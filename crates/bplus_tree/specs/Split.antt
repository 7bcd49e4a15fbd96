-- A page that was written, and whose upper part went to a new page where it was split.
use Rattle.std.specs.Prelude.{◌≡◌, ◌≢◌, ℕ, List, length, Some, None, Option, Result, IsSome, ⊤}
use Rattle.arrayvec.specs.ArrayVec.{ArrayVec}
use Rattle.io_state.specs.declared.fault.Fault.{Fault}
use Rattle.pages.specs.PageMap.{PageMap, Writes}
use Rattle.tree_node.specs.declared.separator.Separator.{Separator}
use Rattle.pages.specs.Answer.{IsAnswer}

-- one page holds these bytes, and one that was free those
pub record HasSplit (before after : PageMap) (page : ℕ) (lower upper : List ℕ) (right : ℕ) : Type 0 where
  pub first : after page ≡ Some lower
  pub second : after right ≡ Some upper
  pub free : before right ≡ None
  pub others : (n : ℕ) → n ≢ page → n ≢ right → after n ≡ before n

-- the two parts of a page that is in use are written
abbrev pub Splits : ℕ → (lower upper : List ℕ) → Result ℕ Fault → PageMap → PageMap → Type 0 → Type 0
Splits page lower upper result before after is_sound =
    IsSome (before page) → IsAnswer result (λ right. HasSplit before after page lower upper right × is_sound)

-- the page was split where there is a key, which goes up
abbrev pub IsSplitOrWhole : PageMap → PageMap → ℕ → (lower upper : List ℕ) → Option (ArrayVec ℕ)
    → Option Separator → Type 0
IsSplitOrWhole before after page lower upper None None = Writes before after page lower
IsSplitOrWhole before after page lower upper (Some key) (Some separator) =
    HasSplit before after page lower upper separator.child
IsSplitOrWhole before after page lower upper None (Some separator) = ⊥
IsSplitOrWhole before after page lower upper (Some key) None = ⊥

-- a page that is in use is written, in two parts where there is a key
abbrev pub WritesParts : ℕ → (lower upper : List ℕ) → Option (ArrayVec ℕ) → Result (Option Separator) Fault
    → PageMap → PageMap → Type 0 → Type 0
WritesParts page lower upper key result before after is_sound =
    IsSome (before page) → IsAnswer result (λ separator.
    IsSplitOrWhole before after page lower upper key separator × is_sound)

-- where there is a separator, its key has this width
abbrev pub HasWidth : ℕ → Option Separator → Type 0
HasWidth width None = ⊤
HasWidth width (Some separator) = length separator.key.items ≡ width
