-- The rows of an open file, one after another, and the text on its way to the writer.
use Rattle.std.specs.Prelude.{◌≡◌, ◌<◌, ◌≤◌, ℕ, zero, suc, ◌+◌, List, [], ◌∷◌, ◌++◌, length, take, false}
use Rattle.std.specs.Prelude.{filter}
use Rattle.std.specs.Prelude.{Bool, true, Option, Some, None, Result, Ok, Err, IsTrue, IfOk, IfErr}
use Rattle.std.specs.Prelude.{if◌then◌else◌}
use Rattle.std.specs.Ordering.{is_gt}
use Rattle.std.specs.Option.{option_map_or}
use Rattle.std.specs.Io.KnownBytes.{Appends}
use Rattle.arrayvec.specs.ArrayVec.{ArrayVec}
use Rattle.io_state.specs.declared.fault.Fault.{Fault}
use Rattle.io_state.specs.declared.position.Position.{Position}
use Rattle.io_state.specs.declared.position.Position.TheVariants.{Invalid, Missing, From, After}
use Rattle.io_state.specs.Rank.{rank_cmp}
use Rattle.record_layout.specs.Schema.{Schema, value_of}
use Rattle.indexed_file.specs.declared.answer.Found.{Found}
use Rattle.indexed_file.specs.File.{Row, File, stamp_of}
use Rattle.indexed_file.specs.World.{holding_at, schema_at, file_at, is_open, is_broken}
use Rattle.indexed_file.specs.Rank.{least, admits}
use Rattle.indexed_file.specs.Answers.{key_of_row}
use Rattle.indexed_file.specs.Calls.{OnlyReads, Keeps, MayAnswerShut}
use Rattle.indexed_file.specs.Believed.{Believed}
use Rattle.indexed_file.specs.Shown.{Shown}
use Rattle.record_listing.specs.declared.asked.Asked.{Asked}
use Rattle.record_listing.specs.declared.rows.RowsFault.{RowsFault}
use Rattle.record_listing.specs.declared.rows.RowsFault.TheVariants.{Library as GaveUp, Output as NotTaken}
use Rattle.record_listing.specs.declared.condition.Condition.{Condition}
use Rattle.record_listing.specs.Condition.{all_hold}
use Rattle.record_listing.specs.Listed.{is_past}
use Rattle.record_listing.specs.Rising.{ranks_behind}
use Rattle.record_text.specs.declared.form.Form.{Form}
use Rattle.streams.specs.Output.{AppendsFront, HoldsText}
use Rattle.streams.specs.declared.output.Refused.{Refused}
use Rattle.record_listing.specs.Lines.{lines_of_rows, list_of}
use Rattle.record_text.specs.Lines.{line_in}

-- unit 0 has an open file that is not broken, which has key k and records of so many bytes at most
pub record HasOpenFile {S : Type 0} (shown : Shown S) (library : S) (k greatest : ℕ) : Type 0 where
  pub attached : 0 < length (shown.world library).units
  pub opened : IsTrue (is_open (holding_at (shown.world library) 0))
  pub unbroken : is_broken (holding_at (shown.world library) 0) ≡ false
  pub key : k < length (schema_at (shown.world library) 0).keys
  pub greatest_is : greatest ≡ (schema_at (shown.world library) 0).greatest

-- and none of its records is longer than a record can be
pub record CanListFile {S : Type 0} (shown : Shown S) (library : S) (k greatest : ℕ) : Type 0 where
  pub file : HasOpenFile shown library k greatest
  pub short : greatest ≤ 4000

-- unit 0 was only read
pub record OnlyReadsUnit {S : Type 0} (shown : Shown S) (old new : S) : Type 0 where
  pub world : OnlyReads 0 (shown.is_honest new) (shown.world old) (shown.world new)
  pub keeps : Keeps shown old new

-- the position behind a row
abbrev pub behind_row : Schema → ℕ → Row → Position
behind_row schema k row = After (key_of_row schema k row) (stamp_of k row)

-- what was found is behind the record of a position, if it is that of one
abbrev pub comes_behind : Position → Found → Bool
comes_behind Invalid found = true
comes_behind Missing found = true
comes_behind (From value) found = true
comes_behind (After value stamp) found = is_gt (rank_cmp found.key.items found.stamp value.items stamp)

-- so it is, whatever the library says, and fewer can come behind it
abbrev pub ComesBehind : Position → Option Found → Type 0
ComesBehind position None = Unit {0}
ComesBehind position (Some found) = (comes_behind position found ≡ true)
    × (ranks_behind (After found.key found.stamp) < ranks_behind position)

-- the rows from a position on, as READ NEXT gives them one after another: up to the bound, and so
-- many at most
unfoldable pub rows_from : Schema → File → ℕ → Option (ArrayVec ℕ) → ℕ → Position → List Row
rows_from schema file k to zero position = []
rows_from schema file k to (suc n) position =
    option_map_or (λ row. if is_past to (value_of schema k row.bytes) then [] else row ∷ rows_from schema
    file k to n (behind_row schema k row))
    (least schema k (admits schema k position) file) []

-- the rows of a file that are asked for: of those between the bounds, of which there are no more than
-- rows of the file, the first so many for which the conditions hold
abbrev pub rows_asked : Schema → File → Asked → List Row
rows_asked schema file asked = take asked.first (filter (λ row. all_hold asked.conditions.items row.bytes)
    (rows_from schema file asked.key asked.to (length file.rows) (From asked.from)))

-- a record that was found is in the first bytes of the area, and is the first of the rows from a position
-- on; a position behind it admits fewer
pub record ComesNext (schema : Schema) (file : File) (k : ℕ) (to : Option (ArrayVec ℕ))
    (position : Position) (area : List ℕ) (found : Found) : Type 0 where
  pub row : Row
  pub bytes : take found.length area ≡ row.bytes
  pub rows : (n : ℕ) → rows_from schema file k to (n + 1) position ≡ row ∷ rows_from schema file k to n
      (After found.key found.stamp)
  pub fewer : length (filter (admits schema k (After found.key found.stamp)) file.rows)
      < length (filter (admits schema k position) file.rows)

-- how the rows from a position on go on: there is none, or a first one
abbrev pub RowsGoOn : Schema → File → ℕ → Option (ArrayVec ℕ) → Position → List ℕ → Option Found → Type 0
RowsGoOn schema file k to position area None = (n : ℕ) → rows_from schema file k to n position ≡ []
RowsGoOn schema file k to position area (Some found) = ComesNext schema file k to position area found

-- so they go on in the open file of unit 0
abbrev pub GoesOnIn : {S : Type 0} → Shown S → S → ℕ → Option (ArrayVec ℕ) → Position → List ℕ → Option Found
    → Type 0
GoesOnIn shown library k to position area found =
    RowsGoOn (schema_at (shown.world library) 0) (file_at (shown.world library) 0) k to position area found

-- so they go on where a call answers, between two states of the library
abbrev pub GoesOnTruly : {S : Type 0} → Shown S → (old new : S) → ℕ → Option (ArrayVec ℕ) → Position → List ℕ
    → Result (Option Found) Fault → Type 0
GoesOnTruly shown old new k to position area result =
    Believed shown 0 old new (IfOk result (GoesOnIn shown old k to position area))

-- of the lines of these rows all are on their way but those of the rest: the writer took some
-- bytes, and the others are held
pub record IsOnItsWay (form : Form) (rows rest : List Row) (before now : Option (List ℕ))
    (held : List ℕ) : Type 0 where
  pub done : List Row
  pub taken : List ℕ
  pub rows_are : rows ≡ done ++ rest
  pub text : lines_of_rows form done ≡ taken ++ held
  pub appends : Appends before now taken

-- a front of the text was written
pub record IsWrittenInPart (text : List ℕ) (before now : Option (List ℕ)) : Type 0 where
  pub front : List ℕ
  pub rest : List ℕ
  pub text_is : text ≡ front ++ rest
  pub appends : Appends before now front

-- the lines of these rows are on their way, or only the first of them; or the writer refused one
abbrev pub ComesOut : Form → List Row → (before now : Option (List ℕ)) → (held : List ℕ) → Result Unit RowsFault
    → Type 0
ComesOut form rows before now held (Ok _) = IsOnItsWay form rows [] before now held
ComesOut form rows before now held (Err (GaveUp fault)) =
    (rest : List Row) × IsOnItsWay form rows rest before now held
ComesOut form rows before now held (Err NotTaken) = IsWrittenInPart (lines_of_rows form rows) before now

-- the text was written, or a front of it
abbrev pub IsWritten : List ℕ → (before now : Option (List ℕ)) → Result Unit RowsFault → Type 0
IsWritten text before now (Ok _) = Appends before now text
IsWritten text before now (Err stop) = IsWrittenInPart text before now

-- the line of a record is held; or the writer refused it or what was held
abbrev pub HoldsLine : (before now : Option (List ℕ)) → (held held_after line : List ℕ)
    → Result Unit Refused → Type 0
HoldsLine before now held held_after line (Ok _) = HoldsText before now held held_after line
HoldsLine before now held held_after line (Err refused) = AppendsFront before now (held ++ line)

-- the line of the record in the first bytes of an area is held so
abbrev pub HoldsRecord : Form → (size : ℕ) → (area : List ℕ) → (before now : Option (List ℕ))
    → (held held_after : List ℕ) → Result Unit Refused → Type 0
HoldsRecord form size area before now held held_after result =
    HoldsLine before now held held_after (line_in form (take size area)) result

-- the conditions hold of that record, and its line is held so; or they do not, and nothing is
abbrev pub HoldsWhere : Form → List Condition → (size : ℕ) → (area : List ℕ)
    → (before now : Option (List ℕ)) → (held held_after : List ℕ) → Result Bool Refused → Type 0
HoldsWhere form conditions size area before now held held_after (Ok true) =
    (all_hold conditions (take size area) ≡ true)
    × HoldsText before now held held_after (line_in form (take size area))
HoldsWhere form conditions size area before now held held_after (Ok false) =
    (all_hold conditions (take size area) ≡ false) × (now ≡ before) × (held_after ≡ held)
HoldsWhere form conditions size area before now held held_after (Err refused) =
    (all_hold conditions (take size area) ≡ true)
    × AppendsFront before now (held ++ line_in form (take size area))

-- why not all lines are written: a call of the library answered a fault that it may answer; or the
-- writer refused one
abbrev pub MayStop : {S : Type 0} → Shown S → S → S → RowsFault → Type 0
MayStop shown old new (GaveUp fault) = MayAnswerShut shown 0 old new fault
MayStop shown old new NotTaken = Unit {0}

-- the rows of unit 0 that are asked for were read, and this came of them
pub record ReadsRows {S : Type 0} (shown : Shown S) (asked : Asked) (old new : S)
    (Comes : List Row → Type 0) (result : Result Unit RowsFault) : Type 0 where
  pub reads : OnlyReadsUnit shown old new
  pub rows : Believed shown 0 old new
      (Comes (rows_asked (schema_at (shown.world old) 0) (file_at (shown.world old) 0) asked))
  pub cause : IfErr result (MayStop shown old new)

-- the rows of unit 0 that are asked for were read, and their lines are on their way
abbrev pub BringsOut : {S : Type 0} → Shown S → Asked → (old new : S) → Form → (before now : Option (List ℕ))
    → (held : List ℕ) → Result Unit RowsFault → Type 0
BringsOut shown asked old new form before now held result =
    ReadsRows shown asked old new (λ rows. ComesOut form rows before now held result) result

-- they were read, and their list was written, or a front of it
abbrev pub WritesOut : {S : Type 0} → Shown S → Asked → (old new : S) → Form → (before now : Option (List ℕ))
    → Result Unit RowsFault → Type 0
WritesOut shown asked old new form before now result =
    ReadsRows shown asked old new (λ rows. IsWritten (list_of form rows) before now result) result

-- the lines of rows that came out so far are written, once those that are held are handed over
abbrev pub HandsOver : (old new : Option (List ℕ)) → (held : List ℕ) → (came result : Result Unit RowsFault)
    → Type 0
HandsOver old new held came result =
    (form : Form) (rows : List Row) (before : Option (List ℕ)) → ComesOut form rows before old held came
    → IsWritten (lines_of_rows form rows) before new result
