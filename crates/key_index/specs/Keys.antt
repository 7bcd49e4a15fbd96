-- Tree keys that stand at the end of a range.
use Rattle.std.specs.Prelude.{ℕ, ◌-◌, List, ◌++◌, length, take, replicate}

-- the greatest tree key of so many bytes that begins as a value of `width` bytes does which begins with these
abbrev pub greatest_key : ℕ → ℕ → List ℕ → List ℕ
greatest_key width long bytes = take width bytes ++ replicate (long - length (take width bytes)) 255
