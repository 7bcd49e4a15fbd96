-- The lines of the records in slots. All of this is ours.
use Rattle.std.specs.Prelude.{ℕ, List, ◌++◌, flat_map}
use Rattle.record_text.specs.declared.form.Form.{Form}
use Rattle.record_text.specs.Lines.{line_in, form_header}
use Rattle.salvaged_records.specs.Slots.{FoundSlot}
use Rattle.salvaged_records.specs.declared.lead.Lead.{Lead}
use Rattle.salvaged_records.specs.Leads.{lead_header, lead_text_of}

-- the line of the record in a slot
abbrev pub salvaged_line : Lead → Form → FoundSlot → List ℕ
salvaged_line lead form slot = lead_text_of lead form slot ++ line_in form slot.bytes

abbrev pub salvaged_lines : Lead → Form → List FoundSlot → List ℕ
salvaged_lines lead form slots = flat_map (salvaged_line lead form) slots

-- the whole list
abbrev pub salvaged_list : Lead → Form → List FoundSlot → List ℕ
salvaged_list lead form slots = lead_header lead form ++ form_header form ++ salvaged_lines lead form slots
