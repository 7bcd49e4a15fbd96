-- Which line of a transcript is the first one by which a file answers 30, by the bytes that were
-- written. All of this is ours.
use Rattle.std.specs.Prelude.{◌≡◌, ℕ, ◌+◌, ◌-◌, true, ◌==◌, List, [], ◌∷◌, ◌++◌, length, take, min, codes, Option}
use Rattle.std.specs.List.{All, count_by}
use Rattle.std.specs.Option.{IfSome}
use Rattle.streams.specs.declared.fault_lines.FaultLine.{FaultLine}
use Rattle.streams.specs.declared.fault_lines.FaultLines.{FaultLines}

-- how many LF there are, as far as 64 bits can count
abbrev pub lines_in : List ℕ → ℕ
lines_in bytes = min (count_by (λ (byte : ℕ). byte == 10) bytes) 18446744073709551615

-- the number of the line that ends behind these bytes: from 1 on, as far as 64 bits can count
abbrev pub line_number : List ℕ → ℕ
line_number before = min (count_by (λ (byte : ℕ). byte == 10) before + 1) 18446744073709551615

-- the line of this number ends in a space, this name, and the status 30
pub record IsFaultLine (bytes name : List ℕ) (number : ℕ) : Type 0 where
  pub before : List ℕ
  pub back : List ℕ
  pub is : bytes ≡ before ++ 10 ∷ back
  pub front : List ℕ
  pub ends : before ≡ front ++ 32 ∷ (name ++ codes " 30")
  pub numbered : number ≡ line_number before

-- the bytes end in these
abbrev pub EndIn : (bytes last : List ℕ) → Type 0
EndIn bytes last = take (length bytes - length last) bytes ++ last ≡ bytes

-- each is such a line
abbrev pub AreFaultLines : (bytes : List ℕ) → List FaultLine → Type 0
AreFaultLines bytes = All (λ first. ∥ IsFaultLine bytes first.name.items first.number ∥₁)

-- what is noted is so of these bytes: how many lines there are, the line that they end in, where it
-- is short, and lines of files that answered 30
pub record AreFaultsOf (bytes : List ℕ) (faults : FaultLines) : Type 0 where
  pub counted : faults.lines ≡ lines_in bytes
  pub line : faults.fits ≡ true → EndIn bytes faults.line.items
  pub firsts : AreFaultLines bytes faults.firsts.items

-- what is told of the line of this number, which ends now, is such a line
abbrev pub TellsLine : FaultLines → (number : ℕ) → Option FaultLine → Type 0
TellsLine faults number told = (before : List ℕ) → AreFaultsOf before faults → number ≡ line_number before
    → IfSome told (λ first. IsFaultLine (before ++ 10 ∷ []) first.name.items first.number)
