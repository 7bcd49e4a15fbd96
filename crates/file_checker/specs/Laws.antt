-- What is told of the bytes of a sound file.
use Rattle.std.specs.Prelude.{◌≡◌, ℕ, List, length}
use Rattle.record_layout.specs.Schema.{Schema}
use Rattle.indexed_file.specs.File.{File}
use Rattle.shelf_library.specs.ClosedFile.{AreClosed}
use Rattle.file_checker.specs.declared.verdict.Verdict.{Verdict}
use Rattle.file_checker.specs.declared.verdict.Verdict.TheVariants.{Sound}
use Rattle.file_checker.specs.Sound.{IsSound, IsRight}

-- one verdict alone is right: that they are sound, with their numbers
abbrev pub SoundIsTold : Type 0
SoundIsTold = (bytes : List ℕ) (records pages : ℕ) (verdict : Verdict)
    → IsSound bytes records pages → IsRight bytes verdict → verdict ≡ Sound records pages

-- of the bytes that a file was closed with, that they are sound, and have a record for each row
abbrev pub ClosedIsToldSound : Type 0
ClosedIsToldSound = (schema : Schema) (file : File) (bytes : List ℕ) (verdict : Verdict)
    → AreClosed schema file bytes → IsRight bytes verdict
    → (pages : ℕ) × (verdict ≡ Sound (length file.rows) pages)
