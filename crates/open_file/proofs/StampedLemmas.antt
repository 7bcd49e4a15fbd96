-- How long the stamps of a record are.
use Rattle.std.proofs.Common.{◌*◌, ◌≤◌, List, [], ◌∷◌, length, drop, arith, length-drop}
use Rattle.std.proofs.lemmas.Grind.{common_steps}
use Rattle.record_layout.specs.declared.schema.KeyPart.{KeyPart}
use Rattle.open_file.specs.Stored.{stamps_length}

at_most : (parts : List KeyPart) → stamps_length parts ≤ 8 * length parts
at_most [] = omega arith
at_most (part ∷ parts) = grind (arith, common_steps, at_most parts)

-- at most 64 bytes of stamps
pub few_stamps : (keys : List KeyPart) → length keys ≤ 9 → stamps_length (drop 1 keys) ≤ 64
few_stamps keys few = omega (arith, few, at_most (drop 1 keys), length-drop 1 keys)
