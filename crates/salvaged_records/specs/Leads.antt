-- What stands before the line of a record. All of this is ours.
use Rattle.std.specs.Prelude.{ℕ, List, [], ◌∷◌, ◌++◌, codes, decimal}
use Rattle.record_text.specs.declared.form.Form.{Form}
use Rattle.record_text.specs.declared.form.Form.TheVariants.{Text, Csv, Json}
use Rattle.record_text.specs.Csv.{field}
use Rattle.salvaged_records.specs.Slots.{FoundSlot}
use Rattle.salvaged_records.specs.declared.lead.Lead.{Lead}
use Rattle.salvaged_records.specs.declared.lead.Lead.TheVariants.{Bare, Place, Doubt}

-- the page and the number of a slot, between texts
abbrev pub place_between : (before between behind : List ℕ) → FoundSlot → List ℕ
place_between before between behind slot =
    before ++ (decimal slot.page ++ (between ++ (decimal slot.slot ++ behind)))

-- what stands before the line of a slot: nothing; its page and its number, with a space behind each, or
-- a comma in CSV; or what tells that its prime value is in doubt
abbrev pub lead_text_of : Lead → Form → FoundSlot → List ℕ
lead_text_of Bare form slot = []
lead_text_of Place Text slot = place_between [] (32 ∷ []) (32 ∷ []) slot
lead_text_of Place (Csv columns) slot = place_between [] (44 ∷ []) (44 ∷ []) slot
lead_text_of Place (Json columns) slot = place_between [] (32 ∷ []) (32 ∷ []) slot
lead_text_of Doubt form slot = place_between (codes "page ") (codes " slot ") (codes ": ") slot

-- what stands before the names of the columns in CSV: those of the page and the slot
abbrev pub lead_header : Lead → Form → List ℕ
lead_header Bare form = []
lead_header Place Text = []
lead_header Place (Csv columns) = field (codes "page") ++ 44 ∷ (field (codes "slot") ++ 44 ∷ [])
lead_header Place (Json columns) = []
lead_header Doubt form = []
