-- The record area: how it begins, and what MOVE does to it.
-- ANSI X3.23-1985, Nucleus module, MOVE statement, general rules: alphanumeric and numeric moves;
-- figurative constants.
use Rattle.std.specs.Prelude.{ℕ, ◌+◌, Bool, true, not, List, ◌++◌, length, take, drop, replicate, fold}
use Rattle.std.specs.Prelude.{if◌then◌else◌}
use Rattle.std.specs.Borrow.{Bor}
use Rattle.record_layout.specs.declared.item.Field.{Field}
use Rattle.record_layout.specs.Layout.{Placed}
use Rattle.record_layout.specs.declared.area.Source.{Source}
use Rattle.record_layout.specs.declared.area.Source.TheVariants.{Text, Digits, Fill}
use Rattle.record_layout.specs.declared.area.Figure.{Figure}
use Rattle.record_layout.specs.declared.area.Figure.TheVariants.{Space, Zero, Low, High}

-- the character that a figurative constant repeats; ours: LOW-VALUE is byte 0, and HIGH-VALUE byte 255
abbrev pub character_of : Figure → ℕ
character_of Space = 32
character_of Zero = 48
character_of Low = 0
character_of High = 255

-- ours: a numeric item takes digits and ZERO alone; any other item, a group among them, takes anything
abbrev pub is_taken_by : Bool → Source (List ℕ) → Bool
is_taken_by numeric (Digits digits) = true
is_taken_by numeric (Fill Zero) = true
is_taken_by numeric _ = not numeric

-- what an item of n characters holds after a MOVE: a text is left-justified, with spaces on the right
-- and its excess cut there, and so are digits, but in a numeric item they are right-justified, with
-- zeros on the left and their excess cut there
abbrev pub fitted : Bool → ℕ → Source (List ℕ) → List ℕ
fitted numeric n (Text bytes) = take n (bytes ++ replicate n 32)
fitted numeric n (Digits digits) =
    if numeric then drop (length digits) (replicate n 48 ++ digits) else take n (digits ++ replicate n 32)
fitted numeric n (Fill figure) = replicate n (character_of figure)

-- the area after a MOVE to an item: the item's bytes are new, and all others stay
abbrev pub moved : Field → Source (List ℕ) → List ℕ → List ℕ
moved field source area = take field.offset area ++ fitted field.numeric field.length source
    ++ drop (field.offset + field.length) area

-- what is sent, behind a reference
abbrev pub sent : Source (Bor (List ℕ)) → Source (List ℕ)
sent (Text bytes) = Text bytes.now
sent (Digits digits) = Digits digits.now
sent (Fill figure) = Fill figure

-- ours: the area of n bytes at the start of a run has zeros in each numeric item, and spaces elsewhere
abbrev pub blank_area : ℕ → List Placed → List ℕ
blank_area n items = fold (λ area item. if item.field.numeric then moved item.field
    (Fill Zero) area else area) (replicate n 32) items
