-- The request that the body of a frame is, row for row of its table. Numbers are big-endian. All of
-- this is ours.
use Rattle.std.specs.Prelude.{ℕ, zero, suc, ◌+◌, ◌*◌, ◌==◌, Bool, true, false, not, ◌&&◌, ◌||◌, List, [], ◌∷◌}
use Rattle.std.specs.Prelude.{length, drop, nat_lt, slice_index, slice_range, Option, Some, None, option_map}
use Rattle.std.specs.Prelude.{if◌then◌else◌}
use Rattle.byteorder.specs.Endian.{big_number}
use Rattle.io_state.specs.declared.modes.Access.{Access}
use Rattle.io_state.specs.declared.modes.Access.TheVariants.{Sequential, Random, Dynamic}
use Rattle.io_state.specs.declared.modes.OpenMode.{OpenMode}
use Rattle.io_state.specs.declared.modes.OpenMode.TheVariants.{Input, Output, InputOutput, Extend}
use Rattle.io_state.specs.declared.modes.Relation.{Relation}
use Rattle.io_state.specs.declared.modes.Relation.TheVariants.{Equal, Greater, NotLess}
use Rattle.io_state.specs.declared.statement.FileStatement.{FileStatement}
use Rattle.io_state.specs.declared.statement.FileStatement.TheVariants.{Open, Close, ReadNext, Read, Start}
use Rattle.io_state.specs.declared.statement.FileStatement.TheVariants.{Write, Rewrite, Delete}
use Rattle.record_layout.specs.declared.schema.KeyKind.{KeyKind}
use Rattle.record_layout.specs.declared.schema.KeyKind.TheVariants.{Prime, Unique, Duplicates}
use Rattle.record_layout.specs.declared.schema.KeyPart.{KeyPart}
use Rattle.serve.specs.Request.{Described, Performed, Asked, Describing, Performing, Releasing}

-- the number in the two bytes from a place on
abbrev pub short_number_in : List ℕ → ℕ → ℕ
short_number_in bytes start = big_number 2 (slice_range bytes start (start + 2))

-- ---- one byte

abbrev pub flag_in : ℕ → Option Bool
flag_in byte = if byte == 0 then Some false else if byte == 1 then Some true else None

abbrev pub access_in : ℕ → Option Access
access_in byte = if byte == 0 then Some Sequential else if byte == 1 then Some Random else if byte == 2
    then Some Dynamic else None

abbrev pub mode_in : ℕ → Option OpenMode
mode_in byte =
    if byte == 0 then Some Input else if byte == 1 then Some Output else if byte == 2 then Some InputOutput
    else if byte == 3 then Some Extend else None

abbrev pub relation_in : ℕ → Option Relation
relation_in byte = if byte == 0 then Some Equal else if byte == 1 then Some Greater else if byte == 2 then
    Some NotLess else None

-- ---- a verb

-- a statement, where what it has not is 0
abbrev pub where_zero : Bool → Option FileStatement → Option FileStatement
where_zero is_zero statement = if is_zero then statement else None

-- the statement of a verb, by its operand, its key and the length of a leading part
abbrev pub statement_in : (verb operand key part : ℕ) → Option FileStatement
statement_in verb operand key part =
    if verb == 0 then where_zero (key == 0 && part == 0) (option_map Open (mode_in operand))
    else if verb == 1 then where_zero (key == 0 && part == 0) (option_map Close (flag_in operand))
    else if verb == 2 then where_zero (operand == 0 && key == 0 && part == 0) (Some ReadNext)
    else if verb == 3 then where_zero (operand == 0 && part == 0) (Some (Read key))
    else if verb == 4 then option_map (Start key part) (relation_in operand)
    else if verb == 5 then where_zero (operand == 0 && key == 0 && part == 0) (Some Write)
    else if verb == 6 then where_zero (operand == 0 && key == 0 && part == 0) (Some Rewrite)
    else if verb == 7 then where_zero (operand == 0 && key == 0 && part == 0) (Some Delete)
    else None

-- WRITE and REWRITE have the length of a record
abbrev pub has_length : FileStatement → Bool
has_length (Open mode) = false
has_length (Close lock) = false
has_length ReadNext = false
has_length (Read key) = false
has_length (Start key length relation) = false
has_length Write = true
has_length Rewrite = true
has_length Delete = false

-- the length of a verb that has none is 0
abbrev pub performed_by : List ℕ → Option FileStatement → Option Performed
performed_by body None = None
performed_by body (Some statement) =
    if not (short_number_in body 7 == 0) && not (has_length statement) then None
    else Some (record {
      file = slice_index body 1;
      statement = statement;
      length = short_number_in body 7;
      bytes = drop 9 body;
    })

abbrev pub performed_in : List ℕ → Option Performed
performed_in body =
    if nat_lt (length body) 9 then None
    else performed_by body (statement_in (slice_index body 2) (slice_index body 3) (slice_index body 4)
    (short_number_in body 5))

-- ---- a description

-- the kind of key k: the first key is the prime key, and a flag says whether duplicates are allowed
abbrev pub kind_by_flag : ℕ → Bool → KeyKind
kind_by_flag k duplicates = if duplicates then Duplicates else if k == 0 then Prime else Unique

-- key k, which a row of five bytes tells
abbrev pub key_in : ℕ → List ℕ → Option KeyPart
key_in k row =
    option_map (λ duplicates. record {
      offset = short_number_in row 0;
      length = short_number_in row 2;
      kind = kind_by_flag k duplicates;
    }) (flag_in (slice_index row 4))

-- these keys, and then those
abbrev pub key_and : Option KeyPart → Option (List KeyPart) → Option (List KeyPart)
key_and None keys = None
key_and (Some key) keys = option_map (λ later. key ∷ later) keys

-- the keys of so many rows, from key k on
abbrev pub keys_in : ℕ → ℕ → List ℕ → Option (List KeyPart)
keys_in k zero rows = Some []
keys_in k (suc n) rows = key_and (key_in k rows) (keys_in (k + 1) n (drop 5 rows))

abbrev pub described_from : List ℕ → ℕ → Option Access → Option Bool → Option (List KeyPart)
    → Option Described
described_from body count None optional keys = None
described_from body count (Some access) None keys = None
described_from body count (Some access) (Some optional) None = None
described_from body count (Some access) (Some optional) (Some keys) = Some (record {
  file = slice_index body 1;
  access = access;
  optional = optional;
  least = short_number_in body 4;
  greatest = short_number_in body 6;
  keys = keys;
  name = drop (9 + 5 * count) body;
})

-- there are 1 to 9 keys, and the body has them whole
abbrev pub is_short : List ℕ → ℕ → Bool
is_short body count = count == 0 || nat_lt 9 count || nat_lt (length body) (9 + 5 * count)

abbrev pub described_in : List ℕ → Option Described
described_in body =
    if nat_lt (length body) 9 then None
    else if is_short body (slice_index body 8) then None
    else described_from body (slice_index body 8) (access_in (slice_index body 2))
    (flag_in (slice_index body 3)) (keys_in 0 (slice_index body 8) (drop 9 body))

-- ---- any request

abbrev pub request_in : List ℕ → Option Asked
request_in [] = None
request_in (kind ∷ rest) =
    if kind == 1 then option_map Describing (described_in (kind ∷ rest))
    else if kind == 2 then option_map Performing (performed_in (kind ∷ rest))
    else if (kind == 3) && (length rest == 1) then Some (Releasing (slice_index rest 0))
    else None
