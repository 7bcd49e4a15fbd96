-- What a log keeps of the lines that a load rejects. All of this is ours.
use Rattle.std.specs.Prelude.{◌≡◌, ◌⊎◌, ℕ, List, [], ◌∷◌, ◌++◌, ⊤}
use Rattle.record_loading.specs.Told.{ToldLine}
use Rattle.streams.specs.Writes.{taken_by}
use Rattle.record_loading.specs.declared.line_file.LineFile.{LineFile}
use Rattle.record_loading.specs.declared.line_file.LineFile.TheVariants.{Unasked, Open, Failed}

-- no file is asked for; or the file has taken these bytes, and all that were to be written; or it was not made, or
-- did not take all of them
pub data Kept : Type 0 where
  Nothing : Kept
  All : (bytes : List ℕ) → Kept
  NotAll : Kept

-- these bytes more were to be kept: where a file has all, it has them behind the others, or it did not take them
abbrev pub KeepsMore : (before : Kept) → (bytes : List ℕ) → (after : Kept) → Type 0
KeepsMore Nothing bytes after = after ≡ Nothing
KeepsMore (All before) bytes after = (after ≡ All (before ++ bytes)) ⊎ (after ≡ NotAll)
KeepsMore NotAll bytes after = after ≡ NotAll

-- nothing that was to be kept is missing
abbrev pub IsAllKept : Kept → Type 0
IsAllKept Nothing = ⊤
IsAllKept (All bytes) = ⊤
IsAllKept NotAll = ⊥

-- what a file keeps, as its writes were answered
abbrev pub kept_in : {W : Type 0} → LineFile W → Kept
kept_in Unasked = Nothing
kept_in (Open out) = All (taken_by out.calls.writes)
kept_in (Failed kind) = NotAll

-- the bytes of lines, one after another
abbrev pub bytes_of_told : List ToldLine → List ℕ
bytes_of_told [] = []
bytes_of_told (line ∷ lines) = line.bytes ++ bytes_of_told lines
