-- Descriptions that give no files, and so are refused.
use Rattle.std.specs.Prelude.{ℕ, List}
use Rattle.deck_parser.specs.Fault.{IsFault}
use Rattle.deck_parser.specs.declared.fault.ParseRefusal.{ParseRefusal}
use Rattle.deck_entries.specs.FileControlEntry.{FileControlEntry}
use Rattle.deck_entries.specs.FileDescription.{FileDescription, StorageEntry}
use Rattle.file_control.specs.Description.{AreFiles, FileDesc, LengthItem}
use Rattle.deck_entries.specs.declared.divisions.Divisions.{Divisions}
use Rattle.file_control.specs.Whole.{Describe}

-- they are refused, but for want of memory, only where there are no such files
abbrev pub AreNoFiles : List FileDescription → List StorageEntry → List (List ℕ) → List FileControlEntry
    → ParseRefusal → Type 0
AreNoFiles descriptions storage names entries refusal = IsFault refusal → (files : List FileDesc)
    → (after : List (List ℕ)) → AreFiles descriptions storage names entries files after → ⊥

-- they are refused, but for want of memory, only where they describe nothing
abbrev pub DescribeNone : Divisions → ParseRefusal → Type 0
DescribeNone divisions refusal = IsFault refusal → (files : List FileDesc) (items : List LengthItem)
    → Describe divisions files items → ⊥
