-- That the columns of a form are a whole record is a fact with one proof.
use Rattle.std.specs.Prelude.{ℕ, ◌+◌, List, [], ◌∷◌, map}
use Rattle.std.specs.Coded.{×_prop, Unit-prop}
use Rattle.std.proofs.Math.Nat.{ℕ_set}
use Rattle.record_text.specs.declared.form.Form.{Form}
use Rattle.record_text.specs.declared.form.Form.TheVariants.{Text, Csv, Json}
use Rattle.record_text.specs.Parts.{Part, part_of_column}
use Rattle.record_text.specs.Whole.{AreTiled, IsWholeForm}

tiled-prop : (from : ℕ) (parts : List Part) (end : ℕ) → IsProp (AreTiled from parts end)
tiled-prop from [] end = ℕ_set from end
tiled-prop from (part ∷ parts) end = ×_prop (ℕ_set part.offset from) (tiled-prop (from + part.length) parts end)

pub whole_form-prop : (form : Form) (length : ℕ) → IsProp (IsWholeForm form length)
whole_form-prop Text length = Unit-prop
whole_form-prop (Csv columns) length = tiled-prop 0 (map part_of_column columns.items) length
whole_form-prop (Json columns) length = tiled-prop 0 (map part_of_column columns.items) length
