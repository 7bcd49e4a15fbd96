-- The line that tells what is wrong with a line that is no record's. Its form is ours.
use Rattle.std.specs.Prelude.{ℕ, ◌/◌, ◌%◌, ◌==◌, List, [], ◌∷◌, ◌++◌, codes, decimal, if◌then◌else◌}
use Rattle.streams.specs.Hex.{hex_digit}
use Rattle.record_text.specs.declared.mistake.Stray.{Stray}
use Rattle.record_text.specs.declared.mistake.Stray.TheVariants.{End, Backslash, Char}
use Rattle.record_text.specs.declared.mistake.ValueMistake.{ValueMistake}
use Rattle.record_text.specs.declared.mistake.ValueMistake.TheVariants as of_value
use Rattle.record_text.specs.declared.mistake.ColumnMistake.{ColumnMistake}
use Rattle.record_text.specs.declared.mistake.LineMistake.{LineMistake}
use Rattle.record_text.specs.declared.mistake.LineMistake.TheVariants as of_line
use Rattle.record_loading.specs.declared.end.LinesEnd.TheVariants.{Loaded, Refused, NoRecord}
use Rattle.record_loading.specs.declared.end.LoadEnd.{LoadEnd}
use Rattle.record_loading.specs.declared.end.LoadEnd.TheVariants.{NotOpened, Opened}
use Rattle.record_loading.specs.declared.rejected.RejectReason.{RejectReason}
use Rattle.record_loading.specs.declared.rejected.RejectedLine.{RejectedLine}
use Rattle.record_loading.specs.Answer.{line_start, reason_text}
use Rattle.record_loading.specs.declared.rejected.RejectReason.TheVariants.{Refused as Refuses, NoRecord as IsNoRecord}

-- so many bytes of a record, which are told as characters
abbrev pub characters_text : ℕ → List ℕ
characters_text count = decimal count ++ (if count == 1 then codes " character" else codes " characters")

-- a byte, as two hexadecimal digits
abbrev pub hex_text : ℕ → List ℕ
hex_text byte = hex_digit (byte / 16) ∷ hex_digit (byte % 16) ∷ []

-- this byte stands where one as it is listed has to
abbrev pub stray_byte_text : ℕ → List ℕ
stray_byte_text byte = codes ", then byte " ++ (hex_text byte ++ codes ", which no list writes")

-- this character is lacking, and where
abbrev pub lacking_text : ℕ → (place : List ℕ) → List ℕ
lacking_text char place = codes ": no " ++ (char ∷ place)

-- what stands where a byte as it is listed has to, or this ending
abbrev pub stray_text : (ending : List ℕ) → Stray → List ℕ
stray_text ending End = codes ", then no " ++ ending
stray_text ending Backslash = codes ", then an escape that no list writes"
stray_text ending (Char char) = stray_byte_text char

-- which lengths are wanted
abbrev pub wanted_lengths_text : (least most : ℕ) → List ℕ
wanted_lengths_text least most =
    codes ", " ++ ((if least == most then [] else decimal least ++ codes " to ") ++ (decimal most ++ codes " wanted"))

-- what is wrong with a value, of which so many bytes are wanted
abbrev pub value_mistake_text : (wanted : ℕ) → ValueMistake → List ℕ
value_mistake_text wanted of_value.Comma = codes "no comma before it"
value_mistake_text wanted of_value.Name = codes "not its name before it"
value_mistake_text wanted of_value.Quote = codes "no quote before its value"
value_mistake_text wanted (of_value.Byte bytes stray) = characters_text bytes ++ stray_text (codes "quote") stray
value_mistake_text wanted (of_value.Long bytes) = characters_text bytes ++ wanted_lengths_text wanted wanted
value_mistake_text wanted (of_value.Short bytes) = characters_text bytes ++ wanted_lengths_text wanted wanted

-- which column has a mistake, and which one
abbrev pub column_mistake_text : ColumnMistake → List ℕ
column_mistake_text told = codes ", column " ++ (decimal told.number ++ (codes " " ++ (told.name.bytes
    ++ (codes ": " ++ value_mistake_text told.wanted told.mistake))))

-- which character is lacking behind the last value: CR, LF, or another one
abbrev pub ending_text : ℕ → List ℕ
ending_text char =
    if char == 13 then codes ": no CR behind its last value"
    else if char == 10 then codes ": no LF at its end"
    else lacking_text char (codes " behind its last value")

-- what is wrong with a line
abbrev pub line_mistake_text : LineMistake → List ℕ
line_mistake_text of_line.Names = codes ": not the names of the columns"
line_mistake_text (of_line.Opening char) = lacking_text char (codes " at its beginning")
line_mistake_text (of_line.Byte bytes stray) = codes ": " ++ (characters_text bytes ++ stray_text (codes "] and LF") stray)
line_mistake_text (of_line.Length bytes least most) =
    codes ": " ++ (characters_text bytes ++ wanted_lengths_text least most)
line_mistake_text (of_line.Column told) = column_mistake_text told
line_mistake_text (of_line.Ending char) = ending_text char

-- the line that tells the mistake in a line
abbrev pub mistake_line : ℕ → LineMistake → List ℕ
mistake_line line mistake = codes "line " ++ (decimal line ++ (line_mistake_text mistake ++ codes "\n"))

-- so it is told of a line whose record was not written, where it is that of no record
abbrev pub told_mistake : ℕ → RejectReason → List ℕ
told_mistake line (Refuses status) = []
told_mistake line (IsNoRecord mistake) = mistake_line line mistake

-- what is told of a line that was rejected, and behind it of its mistake
abbrev pub rejected_line_text : RejectedLine → List ℕ
rejected_line_text rejected = codes "cobix: " ++ (line_start rejected.line
    ++ (reason_text rejected.reason ++ told_mistake rejected.line rejected.reason))

-- and of the line that ended a load
abbrev pub end_mistake : LoadEnd → List ℕ
end_mistake (NotOpened status) = []
end_mistake (Opened (Loaded records replaced rejected) closed) = []
end_mistake (Opened (Refused line status) closed) = []
end_mistake (Opened (NoRecord line mistake) closed) = mistake_line line mistake
