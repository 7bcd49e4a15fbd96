-- Bytes of one line. All of this is ours.
use Rattle.std.specs.Prelude.{◌≡◌, ℕ, ◌==◌, List}
use Rattle.std.specs.List.{count_by}

-- no LF stands in them
abbrev pub IsWithinLine : List ℕ → Type 0
IsWithinLine bytes = count_by (λ (byte : ℕ). byte == 10) bytes ≡ 0
