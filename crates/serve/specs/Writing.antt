-- The body of a request's frame. All of this is ours.
use Rattle.std.specs.Prelude.{◌≡◌, ◌≢◌, ℕ, ◌^◌, ◌<◌, ◌≤◌, Bool, true, false, List, [], ◌∷◌, ◌++◌}
use Rattle.std.specs.Prelude.{length, flat_map}
use Rattle.std.specs.Prelude.{All, IsTrue, Some, ◌⊎◌}
use Rattle.byteorder.specs.Endian.{big_bytes}
use Rattle.io_state.specs.declared.modes.Access.{Access}
use Rattle.io_state.specs.declared.modes.Access.TheVariants.{Sequential, Random, Dynamic}
use Rattle.io_state.specs.declared.modes.OpenMode.{OpenMode}
use Rattle.io_state.specs.declared.modes.OpenMode.TheVariants.{Input, Output, InputOutput, Extend}
use Rattle.io_state.specs.declared.modes.Relation.{Relation}
use Rattle.io_state.specs.declared.modes.Relation.TheVariants.{Equal, Greater, NotLess}
use Rattle.io_state.specs.declared.statement.FileStatement.{FileStatement}
use Rattle.io_state.specs.declared.statement.FileStatement.TheVariants.{Open, Close, ReadNext, Read, Start}
use Rattle.io_state.specs.declared.statement.FileStatement.TheVariants.{Write, Rewrite, Delete}
use Rattle.record_layout.specs.declared.schema.KeyKind.TheVariants.{Prime, Unique}
use Rattle.record_layout.specs.declared.schema.KeyPart.{KeyPart}
use Rattle.record_layout.specs.Schema.{has_duplicates}
use Rattle.serve.specs.Request.{Described, Performed, Asked, Describing, Performing, Releasing}
use Rattle.serve.specs.Reading.{has_length, request_in}

abbrev pub flag_byte : Bool → ℕ
flag_byte false = 0
flag_byte true = 1

abbrev pub access_byte : Access → ℕ
access_byte Sequential = 0
access_byte Random = 1
access_byte Dynamic = 2

abbrev pub mode_byte : OpenMode → ℕ
mode_byte Input = 0
mode_byte Output = 1
mode_byte InputOutput = 2
mode_byte Extend = 3

abbrev pub relation_byte : Relation → ℕ
relation_byte Equal = 0
relation_byte Greater = 1
relation_byte NotLess = 2

-- verb, operand and key, and the length of a leading part
abbrev pub statement_bytes : FileStatement → List ℕ
statement_bytes (Open mode) = 0 ∷ mode_byte mode ∷ 0 ∷ big_bytes 2 0
statement_bytes (Close lock) = 1 ∷ flag_byte lock ∷ 0 ∷ big_bytes 2 0
statement_bytes ReadNext = 2 ∷ 0 ∷ 0 ∷ big_bytes 2 0
statement_bytes (Read key) = 3 ∷ 0 ∷ key ∷ big_bytes 2 0
statement_bytes (Start key part relation) = 4 ∷ relation_byte relation ∷ key ∷ big_bytes 2 part
statement_bytes Write = 5 ∷ 0 ∷ 0 ∷ big_bytes 2 0
statement_bytes Rewrite = 6 ∷ 0 ∷ 0 ∷ big_bytes 2 0
statement_bytes Delete = 7 ∷ 0 ∷ 0 ∷ big_bytes 2 0

abbrev pub performed_body : Performed → List ℕ
performed_body p = 2 ∷ p.file ∷ statement_bytes p.statement ++ big_bytes 2 p.length ++ p.bytes

abbrev pub key_row : KeyPart → List ℕ
key_row key = big_bytes 2 key.offset ++ big_bytes 2 key.length ++ flag_byte (has_duplicates key) ∷ []

abbrev pub described_body : Described → List ℕ
described_body d =
    1 ∷ d.file ∷ access_byte d.access ∷ flag_byte d.optional ∷ big_bytes 2 d.least ++ big_bytes 2 d.greatest
    ++ length d.keys ∷ flat_map key_row d.keys ++ d.name

abbrev pub request_body : Asked → List ℕ
request_body (Describing d) = described_body d
request_body (Performing p) = performed_body p
request_body (Releasing file) = 3 ∷ file ∷ []

-- ---- what can be written

abbrev pub FitsStatement : FileStatement → Type 0
FitsStatement (Open mode) = Unit {0}
FitsStatement (Close lock) = Unit {0}
FitsStatement ReadNext = Unit {0}
FitsStatement (Read key) = Unit {0}
FitsStatement (Start key part relation) = part < 2 ^ 16
FitsStatement Write = Unit {0}
FitsStatement Rewrite = Unit {0}
FitsStatement Delete = Unit {0}

-- each number has room in its bytes, and only WRITE and REWRITE have the length of a record
pub record FitsPerformed (p : Performed) : Type 0 where
  pub statement : FitsStatement p.statement
  pub length : p.length < 2 ^ 16
  pub stored : (p.length ≡ 0) ⊎ IsTrue (has_length p.statement)

pub record FitsKey (key : KeyPart) : Type 0 where
  pub offset : key.offset < 2 ^ 16
  pub length : key.length < 2 ^ 16

-- a flag tells their kinds: the first one may be the prime key, and the others are alternate keys
abbrev pub AreFlagged : List KeyPart → Type 0
AreFlagged [] = Unit {0}
AreFlagged (first ∷ later) = (first.kind ≢ Unique) × All (λ key. key.kind ≢ Prime) later

-- each number has room in its bytes, there are 1 to 9 keys, and a flag tells the kind of each
pub record FitsDescribed (d : Described) : Type 0 where
  pub least : d.least < 2 ^ 16
  pub greatest : d.greatest < 2 ^ 16
  pub some : 1 ≤ length d.keys
  pub few : length d.keys ≤ 9
  pub keys : All FitsKey d.keys
  pub kinds : AreFlagged d.keys

abbrev pub FitsRequest : Asked → Type 0
FitsRequest (Describing d) = FitsDescribed d
FitsRequest (Performing p) = FitsPerformed p
FitsRequest (Releasing file) = Unit {0}

-- the law
abbrev pub WhatIsWrittenIsRead : Type 0
WhatIsWrittenIsRead = (asked : Asked) → FitsRequest asked → request_in (request_body asked) ≡ Some asked
