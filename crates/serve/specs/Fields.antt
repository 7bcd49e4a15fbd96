-- What the fields of a described file, and of a session, mean.
use Rattle.std.specs.Prelude.{◌≡◌, ◌≤◌, List, length, map}
use Rattle.arrayvec.specs.ArrayString.{ArrayString}
use Rattle.indexed_file.specs.Shown.{Shown}
use Rattle.serve.specs.declared.described_file.DescribedFile.TheInside.{Inside}
use Rattle.serve.specs.Files.{NumberedFile, Files, AreSessionFiles}

abbrev pub numbered_file : Inside → NumberedFile
numbered_file f = record { name = f.name.bytes; unit = f.unit; held = f.connector; area = f.area.items }

-- the area has the greatest length of a record
pub record IsInside (f : Inside) : Type 0 where
  pub keys : f.key_count ≡ length f.connector.connector.schema.keys
  pub area : length f.area.items ≡ f.connector.connector.schema.greatest
  pub short : length f.area.items ≤ 4000

-- the files are those of the library, whose units have these names
pub record AreNamed {S : Type 0} (shown : Shown S) (files : Files S) (names : List ArrayString) : Type 0 where
  pub files_are : AreSessionFiles shown files
  pub names_are : map (λ unit. unit.name) (shown.world files.library).units ≡ map (λ name. name.bytes) names
