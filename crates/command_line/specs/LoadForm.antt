-- The form of the text of a load, as a word asks for it. All of this is ours.
use Rattle.std.specs.Prelude.{◌≡◌, ◌≢◌, ◌⊎◌, ℕ, Bool, false, List, map, codes, Option, IsSome, Result}
use Rattle.clap.specs.Words.{Text as Word}
use Rattle.file_control.specs.Description.{FileDesc}
use Rattle.record_text.specs.declared.column.Column.{Column}
use Rattle.record_text.specs.declared.form.Form.{Form}
use Rattle.record_text.specs.declared.form.Form.TheVariants.{Text, Csv, Json}
use Rattle.record_text.specs.Parts.{part_of_column, item_parts}
use Rattle.folder_shelf.specs.Calls.{Call}
use Rattle.command_support.specs.DeckFile.{IsDeckFault}
use Rattle.command_support.specs.Front.{GivesSuch, IsTextNamed}
use Rattle.command_support.specs.declared.form_fault.FormFault.TheVariants.{Kind, Encoding as NoEncoding}
use Rattle.command_support.specs.declared.fault.CommandFault.{CommandFault}
use Rattle.command_support.specs.declared.fault.CommandFault.TheVariants.{Form as NoForm, LoneRejects}
use Rattle.command_line.specs.Encoding.{IsNoEncodingWord, IsTextIn, encoding_word}
use Rattle.command_line.specs.declared.encoded_text.LoadText.{LoadText}
use Rattle.command_line.specs.declared.encoding.Encoding.{Encoding}
use Rattle.command_line.specs.declared.load_form.FormKind.{FormKind}
use Rattle.command_line.specs.declared.load_form.FormKind.TheVariants as kinds

-- the word that asks for a form
abbrev pub form_word : FormKind → Word
form_word kinds.Text = codes "text"
form_word kinds.Csv = codes "csv"
form_word kinds.Json = codes "json"

-- the word asks for none
abbrev pub IsNoFormWord : Word → Type 0
IsNoFormWord word = (word ≢ codes "text") × (word ≢ codes "csv") × (word ≢ codes "json")

-- the columns are the elementary items of the record of a file
abbrev pub AreColumnsOf : FileDesc → List Column → Type 0
AreColumnsOf file columns = map part_of_column columns ≡ item_parts file.layout

-- the form is the one that the word asks for, with the columns of the file
abbrev pub IsFormOf : Word → FileDesc → Form → Type 0
IsFormOf word file Text = word ≡ codes "text"
IsFormOf word file (Csv columns) = (word ≡ codes "csv") × AreColumnsOf file columns.items
IsFormOf word file (Json columns) = (word ≡ codes "json") × AreColumnsOf file columns.items

-- why nothing came of a load: a word asks for no form, another one for no encoding, or it is a fault of a
-- file of a deck
abbrev pub IsLoadFault : (form encoding : Word) → CommandFault → Type 0
IsLoadFault form encoding fault = ((fault ≡ NoForm Kind) × IsNoFormWord form)
    ⊎ ((fault ≡ NoForm NoEncoding) × IsNoEncodingWord encoding) ⊎ IsDeckFault fault

-- or a file for rejected lines is asked for, and the first one ends the load
abbrev pub IsFaultOfLoad : (form encoding : Word) → (rejects : Option Word) → (keep_going : Bool) → CommandFault → Type 0
IsFaultOfLoad form encoding rejects keep_going fault =
    IsLoadFault form encoding fault ⊎ ((fault ≡ LoneRejects) × IsSome rejects × (keep_going ≡ false))

-- the text that a word names was read, in an encoding; or the input or memory failed
abbrev pub ReadsEncoded : (input : Option (List ℕ)) → (path : Word) → Encoding → FormKind
    → Result LoadText CommandFault → List Call → Type 0
ReadsEncoded input path encoding kind result calls = GivesSuch (λ text. IsTextIn (encoding_word encoding)
    (form_word kind) (IsTextNamed calls input path) text.list.items) result
