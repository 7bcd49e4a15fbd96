-- What is true of the files and items of every description: what a run can rely on.
use Rattle.std.specs.Prelude.{◌≡◌, ◌<◌, ◌≤◌, ℕ, List, length, bytes_eq, Option, Some, None, All}
use Rattle.std.specs.List.{IsDistinct}
use Rattle.record_layout.specs.Layout.{length_of, IsRecord}
use Rattle.record_layout.specs.Schema.{IsSchema}
use Rattle.file_control.specs.Description.{FileDesc, LengthItem, file_names}

-- the place of one of so many items, where there is a place
abbrev pub IsPlaceIn : ℕ → Option ℕ → Type 0
IsPlaceIn count None = Unit {0}
IsPlaceIn count (Some place) = place < count

-- a file of a description with so many length items: a record, its keys, the greatest length of
-- which is the record's, and a length item that is there
pub record IsDescribedFile (count : ℕ) (file : FileDesc) : Type 0 where
  pub layout : IsRecord file.layout
  pub schema : IsSchema file.schema
  pub greatest : file.schema.greatest ≡ length_of file.layout
  pub item : IsPlaceIn count file.depends_on

-- files and items: no two files have one file name, there are eight files at most, and an item has
-- 18 digits at most
pub record AreDescribed (files : List FileDesc) (items : List LengthItem) : Type 0 where
  pub files_are : All (IsDescribedFile (length items)) files
  pub distinct : IsDistinct bytes_eq (file_names files)
  pub few : length files ≤ 8
  pub digits : All (λ item. item.digits ≤ 18) items
