-- The form of a list, with a key and conditions, which may be those of a file of a deck. All of this is
-- ours.
use Rattle.std.specs.Prelude.{◌≡◌, ◌≢◌, ◌⊎◌, ℕ, List, [], map, Option, Some, None, codes}
use Rattle.std.specs.Prelude.{Result, IfOk, IfErr}
use denote.Ref.{Bor}
use Rattle.clap.specs.Words.{Text as Word}
use Rattle.record_layout.specs.Layout.{Placed}
use Rattle.file_control.specs.Description.{FileDesc}
use Rattle.record_text.specs.declared.form.Form.{Form}
use Rattle.record_text.specs.declared.form.Form.TheVariants.{Text, Csv, Json}
use Rattle.record_text.specs.Parts.{part_of_column, item_parts}
use Rattle.command_words.specs.Asks.{FormText, form_text}
use Rattle.command_words.specs.declared.form_words.FormWords.{FormWords}
use Rattle.folder_shelf.specs.Calls.{Call}
use Rattle.command_support.specs.declared.form_fault.FormFault.{FormFault}
use Rattle.command_support.specs.declared.condition_fault.ConditionFault.{ConditionFault}
use Rattle.command_support.specs.declared.condition_fault.ConditionFault.TheVariants.{NoSign, NoDeck, NoItem}
use Rattle.command_support.specs.declared.condition_fault.ConditionFault.TheVariants.{LongValue as LongItem}
use Rattle.command_support.specs.declared.fault.CommandFault.{CommandFault}
use Rattle.command_support.specs.declared.fault.CommandFault.TheVariants.{Condition as NoCondition, LongValue}
use Rattle.command_support.specs.declared.fault.CommandFault.TheVariants.{LoneKeyName}
use Rattle.command_support.specs.AskedKey.{IsKeyNumber, IsKeyIn, IsKeyMissing, IsKeyRefused, WantsDeck}
use Rattle.command_support.specs.Conditions.{AreConditionsBy, AreWordsRefused, HaveConditionFault, texts_of}
use Rattle.command_support.specs.DeckFile.{IsDeckAsked, IsDeckFault, IsOfDeck}
use Rattle.command_support.specs.Forms.{HasFormFault, IsFormBy, IsFormRefused}
use Rattle.command_support.specs.Front.{IsDeckNamed}
use Rattle.command_support.specs.declared.asked_form.AskedForm.{AskedForm}

-- a word that asks for a form
abbrev pub IsFormWord : Word → Type 0
IsFormWord kind = (kind ≡ codes "text") ⊎ (kind ≡ codes "csv") ⊎ (kind ≡ codes "json")

-- the form is the one of this word, with the elementary items of a record for its columns
abbrev pub IsWrittenAs : (kind : Word) → List Placed → Form → Type 0
IsWrittenAs kind layout Text = kind ≡ codes "text"
IsWrittenAs kind layout (Csv columns) =
    (kind ≡ codes "csv") × (map part_of_column columns.items ≡ item_parts layout)
IsWrittenAs kind layout (Json columns) =
    (kind ≡ codes "json") × (map part_of_column columns.items ≡ item_parts layout)

-- what the words of a list ask for, of which a deck may tell something: its form, its key, and its
-- conditions
pub record ListWords : Type 0 where
  pub form : FormText
  pub key : Word
  pub conditions : List Word

-- the same, as they were given
abbrev pub list_words : FormWords → (key : List ℕ) → (conditions : List (Bor (List ℕ))) → ListWords
list_words form key conditions =
    record { form = form_text form; key = key; conditions = texts_of conditions }

-- the form, the schema, the key and the conditions are those of the file of a name in a deck
pub record IsFormOfFile (calls : List Call) (input : Option (List ℕ)) (deck name : Word) (asked : ListWords)
    (told : AskedForm) : Type 0 where
  pub file : FileDesc
  pub of_deck : IsOfDeck (IsDeckNamed calls input deck) name file
  pub form_is : IsWrittenAs asked.form.kind file.layout told.told.form
  pub schema_is : told.told.schema ≡ Some file.schema
  pub key_is : IsKeyIn file asked.key told.key
  pub conditions_are : AreConditionsBy file.layout asked.conditions told.conditions.items

-- the words ask for something that only a deck tells, and so it is of the file that is asked for
pub record IsFormWhere (calls : List Call) (input : Option (List ℕ)) (asked : ListWords) (told : AskedForm)
    : Type 0 where
  pub deck : Word
  pub name : Word
  pub wanted : WantsDeck asked.key asked.conditions
  pub deck_given : asked.form.deck ≡ Some deck
  pub name_given : asked.form.name ≡ Some name
  pub uncut : asked.form.cut ≡ None
  pub of_file : IsFormOfFile calls input deck name asked told

-- the form is the one that is asked for, the key the one of this number, and there are no conditions
pub record IsFormAlone (calls : List Call) (input : Option (List ℕ)) (form : FormText) (key : ℕ)
    (told : AskedForm) : Type 0 where
  pub form_is : IsFormBy calls input form told.told.form told.told.schema
  pub key_is : told.key ≡ key
  pub none : told.conditions.items ≡ []

-- the words ask for no conditions, and for a key by its number, and so the form may have other columns than
-- those of a deck, or none
pub record IsFormWithout (calls : List Call) (input : Option (List ℕ)) (asked : ListWords) (told : AskedForm)
    : Type 0 where
  pub key : ℕ
  pub key_given : IsKeyNumber asked.key key
  pub unconditional : asked.conditions ≡ []
  pub alone : IsFormAlone calls input asked.form key told

-- the form, the schema, the key and the conditions of a list are those that are asked for
abbrev pub IsAskedFormBy : (calls : List Call) → (input : Option (List ℕ)) → ListWords → AskedForm → Type 0
IsAskedFormBy calls input asked told =
    IsFormWithout calls input asked told ⊎ IsFormWhere calls input asked told

-- why there are no conditions: there is no deck for them, or one of the words has a fault
abbrev pub IsConditionFaultOf : FormText → (words : List Word) → ConditionFault → Type 0
IsConditionFaultOf asked words NoDeck = (words ≢ []) × (asked.deck ≡ None) × (asked.name ≡ None)
IsConditionFaultOf asked words NoSign = IsDeckAsked asked.deck asked.name
    × ((layout : List Placed) × HaveConditionFault layout words NoSign)
IsConditionFaultOf asked words NoItem = IsDeckAsked asked.deck asked.name
    × ((layout : List Placed) × HaveConditionFault layout words NoItem)
IsConditionFaultOf asked words LongItem = IsDeckAsked asked.deck asked.name
    × ((layout : List Placed) × HaveConditionFault layout words LongItem)

abbrev pub IsConditionRefused : FormText → (words : List Word) → CommandFault → Type 0
IsConditionRefused asked words (NoCondition fault) = IsConditionFaultOf asked words fault
IsConditionRefused asked words fault = ⊥

-- why a list has no form, no conditions, or no key
abbrev pub IsAskedFormRefused : ListWords → CommandFault → Type 0
IsAskedFormRefused asked fault = IsFormRefused asked.form fault
    ⊎ IsConditionRefused asked.form asked.conditions fault ⊎ IsKeyRefused asked.form asked.key fault

-- why records are not listed: a value is too long, or the form, a condition or the key is refused
abbrev pub IsListRefused : ListWords → CommandFault → Type 0
IsListRefused asked fault = (fault ≡ LongValue) ⊎ IsAskedFormRefused asked fault

-- why nothing came of a file of a deck: it did not come, or has no such key, or conditions are refused
abbrev pub IsRefusedWhere : ListWords → CommandFault → Type 0
IsRefusedWhere asked fault = IsDeckFault fault
    ⊎ ((file : FileDesc) × IsKeyMissing file asked.key fault)
    ⊎ ((layout : List Placed) × AreWordsRefused layout asked.conditions fault)

-- a form, a key and conditions came of the file of a name in a deck; or none did
pub record GivesFormOfFile (input : Option (List ℕ)) (deck name : Word) (asked : ListWords)
    (result : Result AskedForm CommandFault) (calls : List Call) : Type 0 where
  pub right : IfOk result (IsFormOfFile calls input deck name asked)
  pub fault : IfErr result (IsRefusedWhere asked)

-- what came of the words of a list is so; or they are refused
pub record ComesOfAskedForm (input : Option (List ℕ)) (asked : ListWords) (result : Result AskedForm CommandFault)
    (calls : List Call) : Type 0 where
  pub form : IfOk result (IsAskedFormBy calls input asked)
  pub refused : IfErr result (IsAskedFormRefused asked)

-- so of a form, with a key of a number
pub record ComesOfFormAlone (input : Option (List ℕ)) (asked : FormText) (key : ℕ)
    (result : Result AskedForm CommandFault) (calls : List Call) : Type 0 where
  pub form : IfOk result (IsFormAlone calls input asked key)
  pub refused : IfErr result (IsFormRefused asked)

-- there is no deck for a key, or for conditions where there are some
abbrev pub TellsDeckWanted : (conditions : List Word) → CommandFault → Type 0
TellsDeckWanted conditions fault = ((conditions ≡ []) × (fault ≡ LoneKeyName))
    ⊎ ((conditions ≢ []) × (fault ≡ NoCondition NoDeck))

-- the words of a form beside a deck have a fault; or they ask for one without cuts
abbrev pub TellsFormFault : FormText → Option FormFault → Type 0
TellsFormFault asked None = IsFormWord asked.kind × (asked.cut ≡ None)
TellsFormFault asked (Some fault) = IsDeckAsked asked.deck asked.name → HasFormFault asked fault
