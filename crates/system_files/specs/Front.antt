-- What is read of a reader.
use Rattle.std.specs.Prelude.{◌≡◌, ◌⊎◌, ◌≤◌, ◌<◌, ℕ, ◌==◌, false, List, [], ◌++◌, take, length}
use Rattle.std.specs.Prelude.{Option, Result, IfOk}
use Rattle.std.specs.List.{list_any}
use Rattle.std.specs.Io.KnownBytes.{Consumes, IsAtEnd}
use Rattle.std.specs.Option.{IfSome}

-- the bytes are all that the reader had left, or the first `most` of them
abbrev pub IsFrontRead : ℕ → Option (List ℕ) → List ℕ → Type 0
IsFrontRead most known bytes = IfSome known (λ all. bytes ≡ take most all)

-- so many bytes of what a reader had left were put into a part, and none only at its end
pub record FillsRoom {E : Type 0} (left left_after : Option (List ℕ)) (part part_after : List ℕ)
    (result : Result ℕ E) : Type 0 where
  pub within : IfOk result (λ n. n ≤ length part_after)
  pub bytes : IfOk result (λ n. Consumes left left_after (take n part_after))
  pub end : IfOk result (λ n. n ≡ 0 → 0 < length part → IsAtEnd left_after)
  pub length : length part_after ≡ length part

-- a text ends in the midst of a line that has so many bytes at least
abbrev pub EndsInLongLine : (longest : ℕ) → List ℕ → Type 0
EndsInLongLine longest text = (before : List ℕ) × (line : List ℕ) × (text ≡ before ++ line)
    × (longest ≤ length line) × (list_any (λ byte. byte == 10) line ≡ false)

-- a text is all that a reader had left, or a front of it that ends in such a line
abbrev pub IsTextRead : (longest : ℕ) → Option (List ℕ) → List ℕ → Type 0
IsTextRead longest known text = IfSome known (λ all. (behind : List ℕ) × (all ≡ text ++ behind)
    × ((behind ≡ []) ⊎ EndsInLongLine longest text))
