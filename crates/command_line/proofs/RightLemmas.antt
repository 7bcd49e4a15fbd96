-- What an outcome is right of, by what is known of the command that gave it.
use Rattle.std.proofs.Common.{◌≡◌, ℕ, Bool, true, false, List, [], ◌∷◌, Option, option_map, Result, Ok, Err, Bor, inl, inr, sym, subst}
use Rattle.std.specs.Prelude.{IfOk}
use Rattle.clap.specs.Words.{Text}
use Rattle.folder_shelf.specs.Replay.{Unseen}
use Rattle.folder_shelf.specs.Calls.{Call}
use Rattle.command_words.specs.Asks.{AskCheck, AskCobol, AskDeck, AskExplain, AskList, AskStat, form_text}
use Rattle.command_words.specs.declared.form_words.FormWords.{FormWords}
use Rattle.explanations.specs.Tables.{explanation}
use Rattle.command_support.specs.Conditions.{texts_of}
use Rattle.file_commands.specs.Counted.{CountsFileAt}
use Rattle.command_support.specs.Front.{DoesBy, IsDeckNamed}
use Rattle.file_commands.specs.Listed.{TellsDeck, WritesList, WritesCobol}
use Rattle.salvaged_records.specs.Salvaged.{outputs}
use Rattle.file_commands.specs.Salvaged.{SalvagesFileAt}
use Rattle.file_commands.specs.Schema.{TellsAsked, ComparesAsked, IsOfSchema, IsSchemaDone}
use Rattle.file_commands.specs.Verdicts.{ChecksFile, WritesVerdicts}
use Rattle.file_commands.specs.declared.listing.Bounds.{Bounds}
use Rattle.command_line.specs.Explained.{WritesExplanation}
use Rattle.command_line.specs.Performed.{AskForSalvage, AskForSchema}
use Rattle.command_line.specs.Encoding.{WritesIn}
use Rattle.command_line.specs.Encoded.{DoesList}
use Rattle.command_line.specs.Right.{IsRightOf, SalvagesAsAsked}
use Rattle.command_line.proofs.DidLemmas.{for_records}
use Rattle.command_support.specs.declared.fault.CommandFault.{CommandFault}
use Rattle.command_support.specs.declared.outcome.Outcome.{Outcome}
use Rattle.command_support.specs.declared.outcome.Outcome.TheVariants.{Helped, CheckedAll, SchemaTold, SchemaCompared, SchemaRefused, Explained, Listed, Records, OtherSchema, InCobol, Salvaged}
use Rattle.command_support.specs.declared.outcome.WorstCheck.{WorstCheck}

module _ {W : Type 0} (disk : Unseen) (words : List Text) (calls : List Call) (input : Option (List ℕ)) (contents : W → Option (List ℕ)) (old new : W) where
  abbrev pub IsRight : Outcome → Type 0
  IsRight = IsRightOf disk words calls input contents old new

  -- help was written
  pub right_help : (result : Result Outcome CommandFault) → IfOk result (λ outcome. outcome ≡ Helped) → IfOk result IsRight
  right_help (Ok outcome) is = subst IsRight (sym is) tt
  right_help (Err fault) is = tt

  -- a number was explained
  pub right_explained : (kind number : Text) → AskExplain words kind number → (result : Result Outcome CommandFault) → IfOk result (λ outcome. outcome ≡ Explained)
      → IfOk result (λ _. WritesExplanation (explanation kind number) (contents old) (contents new)) → IfOk result IsRight
  right_explained kind number asked (Ok outcome) is text = subst IsRight (sym is) (kind, number, asked, text)
  right_explained kind number asked (Err fault) is text = tt

  -- a file was checked
  pub right_check : (file : Text) (quiet : Bool) → AskCheck words (file ∷ []) quiet → (result : Result Outcome CommandFault) → DoesBy (ChecksFile disk file contents old new) result calls → IfOk result IsRight
  right_check file quiet asked (Ok outcome) does = let done = does.right in
      subst IsRight (sym done.1) (file, quiet, asked, subst (λ (o : Outcome). ChecksFile disk file contents old new calls o) done.1 done)
  right_check file quiet asked (Err fault) does = tt

  -- files were checked
  pub right_checks : (files : List Text) (quiet : Bool) → AskCheck words files quiet → (result : Result Outcome CommandFault)
      → IfOk result (λ outcome. (worst : WorstCheck) × (outcome ≡ CheckedAll worst) × WritesVerdicts disk files (contents old) (contents new) calls worst) → IfOk result IsRight
  right_checks files quiet asked (Ok outcome) done = subst IsRight (sym done.1) (files, quiet, asked, done.2)
  right_checks files quiet asked (Err fault) done = tt

  -- the pages of a file were counted
  pub right_count : (path : Text) → AskStat words path → (result : Result Outcome CommandFault) → DoesBy (CountsFileAt disk path contents old new) result calls → IfOk result IsRight
  right_count path asked (Ok outcome) does = let done = does.right in
      subst IsRight (sym done.1) (path, asked, subst (λ (o : Outcome). CountsFileAt disk path contents old new calls o) done.1 done)
  right_count path asked (Err fault) does = tt

  -- the records of a file were salvaged
  told_by : (salvage : AskForSalvage words) (told told_behind : Option (List ℕ)) (outcome : Outcome) → WritesIn salvage.form.encoding salvage.form.kind (contents old) (contents new)
      (λ before behind. SalvagesFileAt input salvage.file salvage.form salvage.places (outputs before behind told told_behind) calls outcome)
      → WritesIn salvage.form.encoding salvage.form.kind (contents old) (contents new) (λ before behind. SalvagesAsAsked input salvage calls before behind outcome)
  told_by salvage told told_behind outcome (inl (is, so)) = inl (is, (told, told_behind, so))
  told_by salvage told told_behind outcome (inr (is, writes)) =
      inr (is, record { text = writes.text; backslashes = writes.backslashes; are = writes.are; so = (told, told_behind, writes.so); written = writes.written })

  pub right_salvage : (salvage : AskForSalvage words) (told told_behind : Option (List ℕ)) (result : Result Outcome CommandFault)
      → IfOk result (λ outcome. WritesIn salvage.form.encoding salvage.form.kind (contents old) (contents new)
      (λ before behind. SalvagesFileAt input salvage.file salvage.form salvage.places (outputs before behind told told_behind) calls outcome)) → IfOk result IsRight
  right_salvage salvage told told_behind (Ok (Salvaged end)) is = (salvage, told_by salvage told told_behind (Salvaged end) is)
  right_salvage salvage told told_behind (Ok OtherSchema) is = inr (salvage, told_by salvage told told_behind OtherSchema is)
  right_salvage salvage told told_behind (Ok outcome) (inl (is, (form, first, asked, (bytes, are, so)))) = absurd so
  right_salvage salvage told told_behind (Ok outcome) (inr (is, writes)) = absurd writes.so.3.2
  right_salvage salvage told told_behind (Err fault) is = tt

  -- a deck was listed, or written in COBOL
  pub right_listed : (deck : Text) → AskDeck words deck → (result : Result Outcome CommandFault)
      → TellsDeck (IsDeckNamed calls input deck) (λ bytes. WritesList bytes (contents old) (contents new)) Listed old new result → IfOk result IsRight
  right_listed deck asked (Ok outcome) told = subst IsRight (sym told.done) (deck, asked, told.written)
  right_listed deck asked (Err fault) told = tt

  pub right_cobol : (deck : Text) (fixed : Bool) → AskCobol words deck fixed → (result : Result Outcome CommandFault)
      → TellsDeck (IsDeckNamed calls input deck) (λ bytes. WritesCobol bytes fixed (contents old) (contents new)) InCobol old new result → IfOk result IsRight
  right_cobol deck fixed asked (Ok outcome) told = subst IsRight (sym told.done) (deck, fixed, asked, told.written)
  right_cobol deck fixed asked (Err fault) told = tt

  -- a schema was told, compared or refused
  pub right_schema : (schema : AskForSchema words) (result : Result Outcome CommandFault)
      → IfOk result (λ outcome. IsOfSchema outcome → TellsAsked input schema.file schema.deck contents old new calls outcome)
      → IfOk result (ComparesAsked input schema.file schema.deck schema.name contents old new calls)
      → IfOk result (IsSchemaDone schema.deck schema.name) → IfOk result IsRight
  right_schema schema (Ok SchemaTold) told compared done = (schema, told tt)
  right_schema schema (Ok (SchemaRefused refusal)) told compared done = (schema, told tt)
  right_schema schema (Ok (SchemaCompared comparison)) told compared done = (schema, compared)
  right_schema schema (Ok outcome) told compared done = absurd done
  right_schema schema (Err fault) told compared done = tt

  -- the records of a file were listed, or it is of another schema
  module _ (file key : Bor Text) (from to : Option (Bor Text)) (first : ℕ) (conditions : Bor (List (Bor Text))) (form : FormWords) (quiet : Bool) where
    abbrev bounds : Bounds
    bounds = record { key = key; from = from; to = to; first = first; conditions = conditions }

    abbrev AskSo : Bool → Type 0
    AskSo checked = AskList words file.now key.now (option_map (λ text. text.now) from) (option_map (λ text. text.now) to) first (texts_of conditions.now) (form_text form) checked quiet

    abbrev Lists : Bool → Outcome → Type 0
    Lists checked outcome = WritesIn form.encoding.now form.kind.now (contents old) (contents new)
        (λ before behind. DoesList checked disk input file.now bounds form before behind calls outcome)

    none_else : WritesIn form.encoding.now form.kind.now (contents old) (contents new) (λ before behind. ⊥) → ⊥
    none_else (inl (is, so)) = so
    none_else (inr (is, writes)) = writes.so

    pub right_list : (checked : Bool) → AskSo checked → (result : Result Outcome CommandFault) → IfOk result (Lists checked) → IfOk result IsRight
    right_list true asked (Ok (Records end)) is = (for_records words file key from to first conditions form true quiet asked, is)
    right_list true asked (Ok OtherSchema) is = inl (for_records words file key from to first conditions form true quiet asked, is)
    right_list true asked (Ok outcome) is = absurd (none_else is)
    right_list false asked (Ok (Records end)) is = (for_records words file key from to first conditions form false quiet asked, is)
    right_list false asked (Ok OtherSchema) is = inl (for_records words file key from to first conditions form false quiet asked, is)
    right_list false asked (Ok outcome) is = absurd (none_else is)
    right_list checked asked (Err fault) is = tt
