-- A reader that notes its reads: what it has left, and what it gave. All of this is ours.
use Rattle.std.specs.Prelude.{◌≡◌, ℕ, List, ◌++◌, Option}
use Rattle.std.specs.Io.KnownBytes.{Consumes, IsAtEnd}
use Rattle.streams.specs.Reads.{AskedRead, bytes_of_reads, TellEnd, TellFailure}
use Rattle.streams.specs.declared.standard_input.StandardInput.{StandardInput}

-- the bytes that it has left, where they are known, and its reads, the newest in front
pub record Source : Type 0 where
  pub left : Option (List ℕ)
  pub reads : List AskedRead

-- a reader as a source, by what the one below it has left
abbrev pub source_of : {R : Type 0} → (R → Option (List ℕ)) → StandardInput R → Source
source_of remaining input = record { left = remaining input.reader; reads = input.calls.reads }

-- it gave these bytes: they were the next that it had left, and its reads are noted to have given them
pub record GivesBytes (before after : Source) (bytes : List ℕ) : Type 0 where
  pub next : Consumes before.left after.left bytes
  pub noted : bytes_of_reads after.reads ≡ bytes_of_reads before.reads ++ bytes

-- it is at its end: nothing is left, and the newest read told so
pub record HasEnded (source : Source) : Type 0 where
  pub nothing_left : IsAtEnd source.left
  pub told : TellEnd source.reads

-- it failed: the newest read told so
abbrev pub HasFailed : Source → Type 0
HasFailed source = TellFailure source.reads
