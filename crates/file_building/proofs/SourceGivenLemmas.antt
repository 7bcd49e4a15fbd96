-- The records of a source, put into a builder one after another.
use Rattle.std.proofs.Common.{◌≡◌, ◌≤◌, ◌++◌, ◌∷◌, [], ℕ, List, length, true, sym, ap, subst, ◌∙◌}
use Rattle.std.specs.Prelude.{nat_le}
use Rattle.std.proofs.lemmas.Bool.{and_parts, leb-true}
use Rattle.record_layout.specs.Schema.{Schema}
use Rattle.indexed_file.specs.Sound.{is_length}
use Rattle.file_building.specs.Sources.{GivesRecord}

-- a record that was given has from the least to the greatest length
pub given_length : (schema own : Schema) (bytes : List ℕ) → own ≡ schema → is_length own (length bytes) ≡ true
    → (schema.least ≤ length bytes) × (length bytes ≤ schema.greatest)
given_length schema own bytes same long =
    let here = subst (λ (s : Schema). is_length s (length bytes) ≡ true) same long in
    let parts = and_parts (nat_le schema.least (length bytes)) (nat_le (length bytes) schema.greatest) here in
    (leb-true schema.least (length bytes) parts.0, leb-true (length bytes) schema.greatest parts.1)

-- the records before it and the record are those that were given by then
pub given_by : {R : Type 0} (schema : R → Schema) (given : R → List (List ℕ)) (latest : R → List ℕ) (has_ended : R → Type 0) (old new : R) (bytes : List ℕ)
    → GivesRecord schema given latest has_ended old new → bytes ≡ latest new → given old ++ bytes ∷ [] ≡ given new
given_by schema given latest has_ended old new bytes gives same =
    ap (λ (b : List ℕ). given old ++ b ∷ []) same ∙ sym gives.given_is
