-- The schema of a deck by which a file is salvaged, and what came of its bytes.
use Rattle.std.proofs.Common.{rules, ◌≡◌, ℕ, Bool, List, [], ◌∷◌, Option, Some, Result, Ok, Err, Bor, refl, sym, ap, subst, ◌∙◌, inl, inr}
use Rattle.record_layout.specs.Schema.{Schema}
use Rattle.std.specs.Prelude.{◌≢◌, ◌⊎◌, codes}
use Rattle.record_text.specs.declared.form.Form.{Form}
use Rattle.record_text.specs.declared.form.Form.TheVariants.{Text}
use Rattle.salvaged_records.specs.Salvaged.{outputs, with_gate_closed}
use Rattle.command_words.specs.Asks.{FormText, form_text}
use Rattle.command_words.specs.declared.form_words.FormWords.{FormWords}
use Rattle.command_support.specs.Forms.{ComesOfForm, IsFormToldBy}
use Rattle.command_support.specs.declared.forms.ListForm.{ListForm}
use Rattle.folder_shelf.specs.Calls.{Call, taken_shared}
use Rattle.command_support.specs.DeckFile.{IsDeckFault}
use Rattle.command_support.specs.Front.{GivesSuch}
use Rattle.file_commands.specs.Salvaged.{IsSchemaIn, IsSchemaAsked, GivesSchemaAsked, GivesSalvageForm, IsSalvageFormBy, IsSalvageRefused, SalvagesBytes, SalvagesFile}
use Rattle.file_commands.specs.Schema.{IsSchemaFault}
use Rattle.command_support.specs.Status.{status_of}
use Rattle.command_support.specs.declared.fault.CommandFault.{CommandFault}
use Rattle.command_support.specs.declared.fault.CommandFault.TheVariants.{Deck as DeckRefused, NoSuchFile, Input, Output, Memory}
use Rattle.command_support.specs.declared.outcome.Outcome.{Outcome}

-- a gate that is closed is closed again
closed_twice : (bytes : List ℕ) → with_gate_closed (with_gate_closed bytes) ≡ with_gate_closed bytes
closed_twice [] = refl
closed_twice (first ∷ rest) = refl

-- the input, the output or memory failed
not_given : (deck name : Option (List ℕ)) (fault : CommandFault) → status_of fault ≡ 4 → IsSchemaFault deck name fault
not_given deck name Input is = tt
not_given deck name Output is = tt
not_given deck name Memory is = tt
not_given deck name fault is = absurd (cc)

of_deck : (deck name : Bor (List ℕ)) (fault : CommandFault) → IsDeckFault fault → IsSchemaFault (Some deck.now) (Some name.now) fault
of_deck deck name (DeckRefused why) is = search rules
of_deck deck name NoSuchFile is = search rules
of_deck deck name Input is = tt
of_deck deck name Output is = tt
of_deck deck name Memory is = tt
of_deck deck name fault is = absurd is

-- the schema of a deck was given, or nothing came of the deck
pub schema_given : (input : Option (List ℕ)) (deck name : Bor (List ℕ)) (schema : Schema) (calls : List Call) → IsSchemaIn calls input deck.now name.now schema
    → GivesSchemaAsked input (Some deck) (Some name) (Ok (Some schema)) calls
schema_given input deck name schema calls is = record { schema = is; fault = tt }

pub deck_refused : (input : Option (List ℕ)) (deck name : Bor (List ℕ)) (fault : CommandFault) (calls : List Call) → IsDeckFault fault → GivesSchemaAsked input (Some deck) (Some name) (Err fault) calls
deck_refused input deck name fault calls is = record { schema = tt; fault = of_deck deck name fault is }

-- the form of a salvage as text, or as of a list
pub text_given : (input : Option (List ℕ)) (asked : FormText) (schema : Option Schema) (calls : List Call) → asked.kind ≡ codes "text" → IsSchemaAsked calls input asked.deck asked.name schema
    → GivesSalvageForm input asked (Ok (record { form = Text; schema = schema })) calls
text_given input asked schema calls text is = record { form = inl (text, refl, is); fault = tt }

pub text_refused : (input : Option (List ℕ)) (asked : FormText) (fault : CommandFault) (calls : List Call) → asked.kind ≡ codes "text" → IsSchemaFault asked.deck asked.name fault
    → GivesSalvageForm input asked (Err fault) calls
text_refused input asked fault calls text is = record { form = tt; fault = inl (text, is) }

pub other_given : (input : Option (List ℕ)) (asked : FormWords) (result : Result ListForm CommandFault) (calls : List Call) → (form_text asked).kind ≢ codes "text"
    → ComesOfForm (IsFormToldBy calls input) asked result → GivesSalvageForm input (form_text asked) result calls
other_given input asked (Ok told) calls other came = record { form = inr (other, came.form); fault = tt }
other_given input asked (Err fault) calls other came = record { form = tt; fault = inr (other, came.refused) }

-- the input, an output or memory failed
not_formed : (asked : FormText) (fault : CommandFault) → (asked.kind ≡ codes "text") ⊎ (asked.kind ≢ codes "text") → status_of fault ≡ 4 → IsSalvageRefused asked fault
not_formed asked fault (inl text) is = inl (text, not_given asked.deck asked.name fault is)
not_formed asked Input (inr other) is = inr (other, tt)
not_formed asked Output (inr other) is = inr (other, tt)
not_formed asked Memory (inr other) is = inr (other, tt)
not_formed asked fault (inr other) is = absurd (cc)

-- whether a form that was given is text
which_form : (calls : List Call) (input : Option (List ℕ)) (asked : FormText) (form : Form) (schema : Option Schema) → IsSalvageFormBy calls input asked form schema
    → (asked.kind ≡ codes "text") ⊎ (asked.kind ≢ codes "text")
which_form calls input asked form schema (inl (text, same, is)) = inl text
which_form calls input asked form schema (inr (other, is)) = inr other

module _ {E W : Type 0} (input : Option (List ℕ)) (path : List ℕ) (asked : FormText) (places : Bool) (contents_told : E → Option (List ℕ)) (told : E) (contents : W → Option (List ℕ)) (old : W) where
  -- nothing came of the words
  pub not_begun : (fault : CommandFault) (calls : List Call) → IsSalvageRefused asked fault → SalvagesFile input path asked places contents_told told told contents old old (Err fault) calls
  not_begun fault calls is = record { records = tt; untouched = λ _. refl; fault = is }

  -- the file was not read
  pub not_read : (form : ListForm) (first : List Call) → IsSalvageFormBy first input asked form.form form.schema → (fault : CommandFault) (calls : List Call) → status_of fault ≡ 4
      → SalvagesFile input path asked places contents_told told told contents old old (Err fault) calls
  not_read form first is fault calls four = record {
    records = tt;
    untouched = λ _. refl;
    fault = not_formed asked fault (which_form first input asked form.form form.schema is) four;
  }

  -- its bytes were salvaged
  by_result : (new : W) (told_after : E) (form : ListForm) (first : List Call) (bytes : List ℕ) (result : Result Outcome CommandFault) → IsSalvageFormBy first input asked form.form form.schema
      → GivesSuch (SalvagesBytes form places (with_gate_closed bytes) (outputs (contents old) (contents new) (contents_told told) (contents_told told_after))) result
      → SalvagesFile input path asked places contents_told told told_after contents old new result (taken_shared path 17592186044416 (Some bytes) ∷ first)
  by_result new told_after form first bytes (Ok outcome) is so = record { records = (form, first, is, (bytes, refl, so)); untouched = tt; fault = tt }
  by_result new told_after form first bytes (Err fault) is four = record {
    records = tt;
    untouched = λ other. absurd (other four);
    fault = not_formed asked fault (which_form first input asked form.form form.schema is) four;
  }

  pub bytes_salvaged : (new : W) (told_after : E) (form : ListForm) (first : List Call) (bytes held : List ℕ) (result : Result Outcome CommandFault) → IsSalvageFormBy first input asked form.form form.schema
      → held ≡ with_gate_closed bytes
      → (with_gate_closed held ≡ held → GivesSuch (SalvagesBytes form places held (outputs (contents old) (contents new) (contents_told told) (contents_told told_after))) result)
      → SalvagesFile input path asked places contents_told told told_after contents old new result (taken_shared path 17592186044416 (Some bytes) ∷ first)
  bytes_salvaged new told_after form first bytes held result is closed so =
      by_result new told_after form first bytes result is
      (subst (λ (all : List ℕ). GivesSuch (SalvagesBytes form places all (outputs (contents old) (contents new) (contents_told told) (contents_told told_after))) result) closed
      (so (ap with_gate_closed closed ∙ closed_twice bytes ∙ sym closed)))
