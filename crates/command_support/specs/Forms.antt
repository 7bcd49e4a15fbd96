-- The form that a list is asked for in, and its columns. All of this is ours.
use Rattle.std.specs.Prelude.{◌≡◌, ◌≢◌, ◌⊎◌, ℕ, true, List, [], ◌∷◌, map, Option, Some, None, IsSome, codes}
use Rattle.std.specs.Prelude.{⊤, ◌++◌, Result, Err, IfOk, IfErr}
use Rattle.clap.specs.Words.{Text as Word}
use Rattle.record_layout.specs.Schema.{Schema}
use Rattle.file_control.specs.Description.{FileDesc}
use Rattle.record_text.specs.declared.column.Column.{Column}
use Rattle.record_text.specs.declared.form.Form.{Form}
use Rattle.record_text.specs.declared.form.Form.TheVariants.{Text, Csv, Json}
use Rattle.record_text.specs.Parts.{part_of_column, do_rise, cut_parts, item_parts, whole_part}
use Rattle.command_words.specs.Asks.{FormText, IsNumber, form_text}
use Rattle.command_words.specs.declared.form_words.FormWords.{FormWords}
use Rattle.command_support.specs.declared.forms.Columns.{Columns}
use Rattle.command_support.specs.declared.forms.ListForm.{ListForm}
use Rattle.command_support.specs.Cuts.{AreCuts}
use Rattle.folder_shelf.specs.Calls.{Call}
use Rattle.command_support.specs.Front.{IsDeckNamed, IsDeckReadBy}
use Rattle.command_support.specs.DeckFile.{IsOfDeck, IsHalf, IsDeckAsked}
use Rattle.command_support.specs.declared.form_fault.FormFault.{FormFault}
use Rattle.command_support.specs.declared.form_fault.FormFault.TheVariants.{Kind, Encoding, TextColumns, CutAndDeck}
use Rattle.command_support.specs.declared.form_fault.FormFault.TheVariants.{HalfDeck, Cuts}
use Rattle.command_support.specs.declared.fault.CommandFault.{CommandFault}
use Rattle.command_support.specs.declared.fault.CommandFault.TheVariants.{Deck as DeckRefused, NoSuchFile}
use Rattle.command_support.specs.declared.fault.CommandFault.TheVariants.{Form as NoForm, Input, Output}
use Rattle.command_support.specs.declared.fault.CommandFault.TheVariants.{Memory}

-- the columns are those between the cuts of a text, which rise from 1 on
abbrev pub IsCutInto : Word → List Column → Type 0
IsCutInto text columns = (cuts : List ℕ) × AreCuts text cuts × (do_rise 0 cuts ≡ true)
    × (map part_of_column columns ≡ cut_parts 1 0 cuts)

-- the columns are the elementary items of the record of the file of this name in a deck, and this is
-- its schema
abbrev pub AreItemsOf : (IsRead : List ℕ → Type 0) → (name : Word) → List Column → Option Schema → Type 0
AreItemsOf IsRead name columns schema = (file : FileDesc) × IsOfDeck IsRead name file
    × (map part_of_column columns ≡ item_parts file.layout) × (schema ≡ Some file.schema)

-- the columns are those that are asked for: by cuts, by a deck and the name of a file in it, which
-- has this schema, or by nothing
abbrev pub AreColumns : (IsRead : Word → List ℕ → Type 0) → (cut deck name : Option Word) → List Column
    → Option Schema → Type 0
AreColumns IsRead None None None columns schema =
    (map part_of_column columns ≡ whole_part ∷ []) × (schema ≡ None)
AreColumns IsRead (Some text) None None columns schema = IsCutInto text columns × (schema ≡ None)
AreColumns IsRead None (Some deck) (Some name) columns schema = AreItemsOf (IsRead deck) name columns schema
AreColumns IsRead None None (Some name) columns schema = ⊥
AreColumns IsRead None (Some deck) None columns schema = ⊥
AreColumns IsRead (Some text) None (Some name) columns schema = ⊥
AreColumns IsRead (Some text) (Some deck) name columns schema = ⊥

-- no columns are asked for
abbrev pub HasNoColumns : FormText → Type 0
HasNoColumns asked = (asked.cut ≡ None) × (asked.deck ≡ None) × (asked.name ≡ None)

-- the form is the one that is asked for, with its columns: text has none. Where they are those of a
-- file of a deck, this is its schema
abbrev pub IsFormAsked : (IsRead : Word → List ℕ → Type 0) → FormText → Form → Option Schema → Type 0
IsFormAsked IsRead asked Text schema = (asked.kind ≡ codes "text") × HasNoColumns asked × (schema ≡ None)
IsFormAsked IsRead asked (Csv columns) schema = (asked.kind ≡ codes "csv")
    × AreColumns IsRead asked.cut asked.deck asked.name columns.items schema
IsFormAsked IsRead asked (Json columns) schema = (asked.kind ≡ codes "json")
    × AreColumns IsRead asked.cut asked.deck asked.name columns.items schema

-- the texts of a form have this fault
abbrev pub HasFormFault : FormText → FormFault → Type 0
HasFormFault asked Kind = (asked.kind ≢ codes "text") × (asked.kind ≢ codes "csv")
    × (asked.kind ≢ codes "json")
HasFormFault asked Encoding = (asked.encoding ≢ codes "ascii") × (asked.encoding ≢ codes "utf-8")
HasFormFault asked TextColumns = (asked.kind ≡ codes "text") × (HasNoColumns asked → ⊥)
HasFormFault asked CutAndDeck = IsSome asked.cut × IsDeckAsked asked.deck asked.name
HasFormFault asked HalfDeck = IsHalf asked.deck asked.name
HasFormFault asked Cuts = (text : Word) × (asked.cut ≡ Some text)
    × ((cuts : List ℕ) → AreCuts text cuts → do_rise 0 cuts ≡ true → ⊥)

-- why the columns of a form are not there: its texts have a fault, the deck is refused or does not
-- have the file, or the input or memory failed
abbrev pub IsFormRefused : FormText → CommandFault → Type 0
IsFormRefused asked (DeckRefused fault) = IsDeckAsked asked.deck asked.name
IsFormRefused asked NoSuchFile = IsDeckAsked asked.deck asked.name
IsFormRefused asked (NoForm fault) = HasFormFault asked fault
IsFormRefused asked Input = ⊤
IsFormRefused asked Output = ⊤
IsFormRefused asked Memory = ⊤
IsFormRefused asked fault = ⊥

-- the columns are those that the words of a form ask for
abbrev pub AreColumnsAsked : (IsRead : Word → List ℕ → Type 0) → FormText → Columns → Type 0
AreColumnsAsked IsRead asked told =
    AreColumns IsRead asked.cut asked.deck asked.name told.columns.items told.schema

-- by these calls a deck was read, if one is asked for
abbrev pub AreColumnsBy : List Call → (input : Option (List ℕ)) → FormText → Columns → Type 0
AreColumnsBy calls input asked told =
    IsDeckReadBy calls input asked.deck × AreColumnsAsked (IsDeckNamed calls input) asked told

abbrev pub IsFormBy : List Call → (input : Option (List ℕ)) → FormText → Form → Option Schema → Type 0
IsFormBy calls input asked form schema =
    IsDeckReadBy calls input asked.deck × IsFormAsked (IsDeckNamed calls input) asked form schema

abbrev pub IsFormToldBy : List Call → (input : Option (List ℕ)) → FormText → ListForm → Type 0
IsFormToldBy calls input asked told = IsFormBy calls input asked told.form told.schema

-- no cuts, or want of memory
abbrev pub IsCutFault : CommandFault → Type 0
IsCutFault fault = (fault ≡ NoForm Cuts) ⊎ (fault ≡ Memory)

-- what came of cuts is so; or there are none, and this is so of the text, or memory was wanted
pub record ComesOfCuts {X : Type 0} (IsSo : X → Type 0) (HasNone : Type 0)
    (result : Result X CommandFault) : Type 0 where
  pub cuts : IfOk result IsSo
  pub none : result ≡ Err (NoForm Cuts) → HasNone
  pub fault : IfErr result IsCutFault

-- the text is a number, which was added to others
abbrev pub AddsNumber : (text : List ℕ) → (old new : List ℕ) → Type 0
AddsNumber text old new = (n : ℕ) × IsNumber 16 text n × (new ≡ old ++ n ∷ [])

abbrev pub IsNoNumber : (text : List ℕ) → Type 0
IsNoNumber text = (n : ℕ) → IsNumber 16 text n → ⊥

-- the text is no numbers with commas between, whether they rise or not
abbrev pub IsNoCuts : (text : List ℕ) → Type 0
IsNoCuts text = (cuts : List ℕ) → AreCuts text cuts → ⊥

-- a value that is so; or memory was wanted
pub record WantsOnlyMemory {X : Type 0} (IsSo : X → Type 0) (result : Result X CommandFault) : Type 0 where
  pub column : IfOk result IsSo
  pub fault : IfErr result (λ fault. fault ≡ Memory)

-- what came of the words of a form is so; or the form is refused
pub record ComesOfForm {X : Type 0} (IsSo : FormText → X → Type 0) (asked : FormWords)
    (result : Result X CommandFault) : Type 0 where
  pub form : IfOk result (IsSo (form_text asked))
  pub refused : IfErr result (IsFormRefused (form_text asked))

-- the columns are the elementary items of the record of the file of this name in the deck of a path,
-- or of the input where the path is a hyphen
abbrev pub AreItemsAt : List Call → (input : Option (List ℕ)) → (path name : Word) → Columns → Type 0
AreItemsAt calls input path name told =
    AreItemsOf (IsDeckNamed calls input path) name told.columns.items told.schema

-- the record as one column, which is that of no deck
abbrev pub IsWholeRecord : Columns → Type 0
IsWholeRecord told = (map part_of_column told.columns.items ≡ whole_part ∷ []) × (told.schema ≡ None)

-- the columns between the cuts of a text, which are those of no deck
abbrev pub AreBetweenCuts : (text : Word) → Columns → Type 0
AreBetweenCuts text told = IsCutInto text told.columns.items × (told.schema ≡ None)
