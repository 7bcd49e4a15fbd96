-- What is salvaged of a file. All of this is ours.
use Rattle.std.specs.Prelude.{◌≡◌, ◌≢◌, ◌⊎◌, List, [], ◌∷◌, ℕ, Bool, Option, Some, None, Result, IfOk}
use Rattle.std.specs.Prelude.{IfErr, codes}
use denote.Ref.{Bor}
use Rattle.clap.specs.Words.{Text as Word}
use Rattle.record_layout.specs.Schema.{Schema}
use Rattle.file_control.specs.Description.{FileDesc}
use Rattle.record_text.specs.declared.form.Form.{Form}
use Rattle.record_text.specs.declared.form.Form.TheVariants.{Text}
use Rattle.salvaged_records.specs.Salvaged.{EndsWith, Outputs, outputs, with_gate_closed}
use Rattle.command_words.specs.Asks.{FormText, form_text}
use Rattle.command_support.specs.Forms.{IsFormBy, IsFormRefused}
use Rattle.command_support.specs.declared.forms.ListForm.{ListForm}
use Rattle.folder_shelf.specs.Calls.{Call, taken_shared}
use Rattle.command_support.specs.DeckFile.{IsOfDeck}
use Rattle.command_support.specs.Front.{IsDeckNamed, GivesSuch, word_in}
use Rattle.file_commands.specs.Records.{AgreesWith, WritesOther}
use Rattle.file_commands.specs.Schema.{IsSchemaFault}
use Rattle.file_commands.specs.declared.salvaging.Salvaging.{Salvaging}
use Rattle.command_support.specs.Status.{status_of}
use Rattle.command_support.specs.declared.fault.CommandFault.{CommandFault}
use Rattle.command_support.specs.declared.outcome.Outcome.{Outcome}
use Rattle.command_support.specs.declared.outcome.Outcome.TheVariants.{OtherSchema, Salvaged}

-- the schema is that of the file of a name in the deck of a path, or of the input where the path is a hyphen
abbrev pub IsSchemaIn : List Call → (input : Option (List ℕ)) → (deck name : Word) → Schema → Type 0
IsSchemaIn calls input deck name schema =
    (described : FileDesc) × IsOfDeck (IsDeckNamed calls input deck) name described × (schema ≡ described.schema)

-- so where a deck and a name are given; without them there is no schema, and no call was made
abbrev pub IsSchemaAsked : List Call → (input : Option (List ℕ)) → (deck name : Option Word) → Option Schema
    → Type 0
IsSchemaAsked calls input None None None = calls ≡ []
IsSchemaAsked calls input (Some deck) (Some name) (Some schema) = IsSchemaIn calls input deck name schema
IsSchemaAsked calls input deck name schema = ⊥

-- it was given; or half of the words is, or nothing came of the deck
pub record GivesSchemaAsked (input : Option (List ℕ)) (deck name : Option (Bor (List ℕ)))
    (result : Result (Option Schema) CommandFault) (calls : List Call) : Type 0 where
  pub schema : IfOk result (IsSchemaAsked calls input (word_in deck) (word_in name))
  pub fault : IfErr result (IsSchemaFault (word_in deck) (word_in name))

-- the form is the one that is asked for: as text, beside the schema of the file of a deck, if one is
-- given; otherwise with its columns, as of a list
abbrev pub IsSalvageFormBy : List Call → (input : Option (List ℕ)) → FormText → Form → Option Schema → Type 0
IsSalvageFormBy calls input asked form schema =
    ((asked.kind ≡ codes "text") × (form ≡ Text) × IsSchemaAsked calls input asked.deck asked.name schema)
    ⊎ ((asked.kind ≢ codes "text") × IsFormBy calls input asked form schema)

-- why there is none: as text half of a deck is given, or nothing came of it; or as of a list
abbrev pub IsSalvageRefused : FormText → CommandFault → Type 0
IsSalvageRefused asked fault = ((asked.kind ≡ codes "text") × IsSchemaFault asked.deck asked.name fault)
    ⊎ ((asked.kind ≢ codes "text") × IsFormRefused asked fault)

-- it was given; or there is none
pub record GivesSalvageForm (input : Option (List ℕ)) (asked : FormText) (result : Result ListForm CommandFault)
    (calls : List Call) : Type 0 where
  pub form : IfOk result (λ told. IsSalvageFormBy calls input asked told.form told.schema)
  pub fault : IfErr result (IsSalvageRefused asked)

-- behind the calls by which a deck was read, if one is given, one was made, which gave the bytes of the
-- file of a path, as many as a file can have, and this is so of them
abbrev pub OfWholeFile : (path : List ℕ) → (before calls : List Call) → (IsSo : List ℕ → Type 0) → Type 0
OfWholeFile path before calls IsSo = (bytes : List ℕ)
    × (calls ≡ taken_shared path 17592186044416 (Some bytes) ∷ before) × IsSo bytes

-- the records that are left in the bytes of a file, whose gate is closed, were written in a form, with
-- their places or without, and this is how that ended; or the file is of another schema than a deck, and
-- the differences were
abbrev pub SalvagesBytes : ListForm → (places : Bool) → List ℕ → Outputs → Outcome → Type 0
SalvagesBytes asked places bytes o (Salvaged end) =
    AgreesWith asked.schema bytes × EndsWith asked.schema bytes asked.form places o end
SalvagesBytes asked places bytes o OtherSchema =
    WritesOther asked.schema bytes o.before o.behind × (o.told_behind ≡ o.told_before)
SalvagesBytes asked places bytes o outcome = ⊥

-- where the gate of the bytes is closed, so it was done; or the input, an output or memory failed
abbrev pub SalvagesClosed : ListForm → (places : Bool) → List ℕ → Outputs → Result Outcome CommandFault → Type 0
SalvagesClosed asked places bytes outputs result =
    with_gate_closed bytes ≡ bytes → GivesSuch (SalvagesBytes asked places bytes outputs) result

-- so of the file of a path, in the form that is asked for
abbrev pub SalvagesFileAt : (input : Option (List ℕ)) → (path : List ℕ) → FormText → (places : Bool)
    → Outputs → List Call → Outcome → Type 0
SalvagesFileAt input path asked places o calls outcome = (told : ListForm) × (first : List Call)
    × IsSalvageFormBy first input asked told.form told.schema
    × OfWholeFile path first calls (λ bytes. SalvagesBytes told places (with_gate_closed bytes) o outcome)

-- so it was done; or there is no such form, nothing came of its deck, or the input, an output or memory
-- failed. Unless one of these three failed, nothing is written then
pub record SalvagesFile
    {E W : Type 0} (input : Option (List ℕ)) (path : List ℕ) (asked : FormText) (places : Bool)
    (contents_told : E → Option (List ℕ)) (told told_after : E) (contents : W → Option (List ℕ))
    (old new : W) (result : Result Outcome CommandFault) (calls : List Call)
    : Type 0 where
  pub records : IfOk result (SalvagesFileAt input path asked places
      (outputs (contents old) (contents new) (contents_told told) (contents_told told_after)) calls)
  pub untouched : IfErr result (λ fault. status_of fault ≢ 4 → new ≡ old)
  pub fault : IfErr result (IsSalvageRefused asked)

-- so for what is asked of a salvage
abbrev pub SalvagesAt : {E W : Type 0} → (input : Option (List ℕ)) → Salvaging → (E → Option (List ℕ))
    → (told told_after : E) → (W → Option (List ℕ)) → (old new : W) → Result Outcome CommandFault → List Call → Type 0
SalvagesAt input asked contents_told told told_after contents old new result calls = SalvagesFile input
    asked.file.now (form_text asked.form) asked.places contents_told told told_after contents old new result calls
