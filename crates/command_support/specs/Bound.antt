-- A bound of a list, as a list writes the bytes of a record. All of this is ours.
use Rattle.std.specs.Prelude.{◌≡◌, ℕ, ◌+◌, ◌*◌, ◌-◌, ◌<◌, ◌==◌, nat_le, ◌&&◌, List, [], ◌∷◌, length}
use Rattle.std.specs.Prelude.{Option, Some, None}
use Rattle.std.specs.Prelude.{if◌then◌else◌, Result, IfOk, IfErr}
use Rattle.std.specs.Option.{option_map_or}
use Rattle.streams.specs.Hex.{hex_number}
use Rattle.command_support.specs.declared.fault.CommandFault.{CommandFault}
use Rattle.command_support.specs.declared.fault.CommandFault.TheVariants.{LongValue}

-- the byte of two digits, if both are
abbrev pub byte_of_digits : Option ℕ → Option ℕ → Option ℕ
byte_of_digits (Some high) (Some low) = Some (high * 16 + low)
byte_of_digits (Some high) None = None
byte_of_digits None low = None

-- the byte for which a backslash and two digits stand at the front of a text, if they are there
abbrev pub byte_in : List ℕ → Option ℕ
byte_in [] = None
byte_in (first ∷ []) = None
byte_in (first ∷ high ∷ []) = None
byte_in (first ∷ high ∷ low ∷ rest) =
    if first == 92 then byte_of_digits (hex_number high) (hex_number low) else None

-- the bytes for which a text stands: each byte that is written so, and any other as it is
abbrev pub unescaped : List ℕ → List ℕ
unescaped [] = []
unescaped (first ∷ []) = first ∷ []
unescaped (first ∷ high ∷ []) = first ∷ high ∷ []
unescaped (first ∷ high ∷ low ∷ rest) =
    option_map_or (λ byte. byte ∷ unescaped rest) (byte_in (first ∷ high ∷ low ∷ rest))
    (first ∷ unescaped (high ∷ low ∷ rest))

-- the front of a text stands for a byte, and this is the text after it
pub record StandsForByte (text : List ℕ) (byte : ℕ) (rest : List ℕ) : Type 0 where
  pub bytes : unescaped text ≡ byte ∷ unescaped rest
  pub shorter : length rest < length text

-- a value that is so; or a text is too long for one
pub record FitsValue {X : Type 0} (IsSo : X → Type 0) (result : Result X CommandFault) : Type 0 where
  pub value : IfOk result IsSo
  pub fault : IfErr result (λ fault. fault ≡ LongValue)
