use Rattle.std.proofs.Common.{◌≡◌, ℕ, List, true, ◌∙◌, sym, subst}
use Rattle.io_state.specs.FileName.{is_file_name}
use Rattle.file_building.proofs.PlaceLemmas.{named_by}
use Rattle.file_building.proofs.new_place.place_of.Goals as goal

pub returns-in-Some-clause-some : goal.returns-in-Some-clause-some
returns-in-Some-clause-some c =
    let found = named_by _ c.as_bytes.result.now c.in-Some.name.bytes c.in-Some.ensures in
    record {
      folder_is = c.folder_of.ensures;
      name_is = found.0 ∙ c.as_bytes.ensures.value ∙ c.last_part.ensures;
      is_name = subst (λ (name : List ℕ). is_file_name name ≡ true) (sym found.0) found.1;
    }
