-- Which files of a folder are kept open.
use Rattle.std.specs.Prelude.{ℕ, Bool, false, List, Option, None, Some, is_some, slice_get}
use Rattle.folder_shelf.specs.declared.unit.Unit.{Unit}

-- the file of a unit is kept open
abbrev pub is_kept_in : {F : Type 0} → Option (Unit F) → Bool
is_kept_in None = false
is_kept_in (Some unit) = is_some unit.file

abbrev pub is_kept : {F : Type 0} → List (Unit F) → ℕ → Bool
is_kept units unit = is_kept_in (slice_get units unit)
