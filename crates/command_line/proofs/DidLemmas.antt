-- What was done for words that ask for a list, a schema, a load or a run.
use Rattle.std.proofs.Common.{◌≡◌, ◌⊎◌, ℕ, Bool, true, false, List, [], ◌∷◌, Option, None, Result, Ok, Err, IfOk, IfErr, option_map, Bor, inl, inr, refl, sym, ap, subst}
use Rattle.std.proofs.lemmas.Result.{IfErr-weaker}
use Rattle.clap.specs.Words.{Text}
use Rattle.folder_shelf.specs.Replay.{Unseen}
use Rattle.folder_shelf.specs.Calls.{Call}
use Rattle.clap.specs.declared.error.Error.{Error}
use Rattle.command_words.specs.declared.line_options.LineOptions.{LineOptions}
use Rattle.command_words.specs.Asks.{Ask, AskCheck, AskExplain, AskHelp, AskList, AskNothing, AskSchema, AskServe, AskStat, FormText, IfUsage, form_text}
use Rattle.command_words.specs.declared.fault.WordsFault.{WordsFault}
use Rattle.command_words.specs.declared.fault.WordsFault.TheVariants.{Usage as NotUnderstood, Memory as NoMemoryForWords}
use Rattle.command_words.specs.declared.form_words.FormWords.{FormWords}
use Rattle.command_words.specs.declared.limits.Limits.{Limits}
use Rattle.command_words.specs.declared.request.Request.TheVariants.{Schema, Load, Salvage}
use Rattle.command_support.specs.AskedForm.{ListWords, IsConditionRefused, IsListRefused}
use Rattle.command_support.specs.AskedKey.{IsKeyRefused}
use Rattle.file_commands.specs.Records.{words_of}
use Rattle.command_support.specs.Conditions.{texts_of}
use Rattle.command_support.specs.Forms.{IsFormRefused}
use Rattle.file_commands.specs.Listed.{IsListFault}
use Rattle.salvaged_records.specs.Salvaged.{outputs}
use Rattle.file_commands.specs.Salvaged.{IsSalvageRefused, SalvagesFileAt}
use Rattle.file_commands.specs.Schema.{IsSchemaDone, IsSchemaFault}
use Rattle.file_commands.specs.declared.listing.Bounds.{Bounds}
use Rattle.command_support.specs.DeckFile.{IsDeckFault}
use Rattle.command_support.specs.Front.{DoesBy}
use Rattle.file_commands.specs.Counted.{CountsFileAt}
use Rattle.file_commands.specs.Verdicts.{ChecksFile}
use Rattle.file_reports.specs.declared.statistics_listing.FileStatisticsEnd.{FileStatisticsEnd}
use Rattle.record_loading.specs.declared.shelf_end.ShelfEnd.{ShelfEnd}
use Rattle.command_line.specs.Encoding.{WritesIn}
use Rattle.command_line.specs.Encoded.{DoesList, IsEncodedRefused}
use Rattle.command_line.specs.LoadForm.{IsFaultOfLoad}
use Rattle.command_line.specs.Performed.{AskOfDeck, AskForLoad, AskForRecords, AskForRun, AskForSalvage, AskForSchema, Did, IsRunOutcome, words_of_list}
use Rattle.command_support.specs.Status.{status_of}
use Rattle.command_support.specs.declared.fault.CommandFault.{CommandFault}
use Rattle.command_support.specs.declared.fault.CommandFault.TheVariants.{Deck, NoSuchFile, NoSuchKey, LoneKeyName, NotListed, Form as NoForm, Condition as NoCondition, Unexplained, Input, Output, Memory}
use Rattle.command_support.specs.declared.outcome.Outcome.{Outcome}
use Rattle.command_support.specs.declared.outcome.Outcome.TheVariants.{Helped, CheckedAll, Counted, Explained, Ended, Served, SchemaTold, SchemaCompared, SchemaRefused, Records, OtherSchema, Loaded, Salvaged}
use Rattle.command_support.specs.declared.outcome.WorstCheck.{WorstCheck}
use Rattle.command_support.specs.Told.{words_told_as}

-- what a request asks for, by its values
abbrev pub for_schema : (words : List Text) (file : Bor Text) (deck name : Option (Bor Text)) → Ask words (Schema file deck name) → AskForSchema words
for_schema words file deck name asked =
    record { file = file.now; deck = option_map (λ text. text.now) deck; name = option_map (λ text. text.now) name; asked = asked }

abbrev pub for_salvage : (words : List Text) (file : Bor Text) (form : FormWords) (places : Bool) → Ask words (Salvage file form places) → AskForSalvage words
for_salvage words file form places asked = record { file = file.now; form = form_text form; places = places; asked = asked }

abbrev pub for_records : (words : List Text) (file key : Bor Text) (from to : Option (Bor Text)) (first : ℕ) (conditions : Bor (List (Bor Text))) (form : FormWords) (checked quiet : Bool)
    → AskList words file.now key.now (option_map (λ text. text.now) from) (option_map (λ text. text.now) to) first (texts_of conditions.now) (form_text form) checked quiet → AskForRecords words
for_records words file key from to first conditions form checked quiet asked = record {
  file = file.now;
  key = key.now;
  from = option_map (λ text. text.now) from;
  to = option_map (λ text. text.now) to;
  first = first;
  conditions = texts_of conditions.now;
  form = form_text form;
  checked = checked;
  quiet = quiet;
  asked = asked;
}

abbrev pub for_load : (words : List Text) (deck folder file text form encoding : Bor Text) (into : Bool) (limits : Limits) (lines : LineOptions) (rejects : Option (Bor Text)) (quiet : Bool)
    → Ask words (Load deck folder file text form encoding into limits lines rejects quiet) → AskForLoad words
for_load words deck folder file text form encoding into limits lines rejects quiet asked = record {
  deck = deck.now;
  folder = folder.now;
  file = file.now;
  text = text.now;
  form = form.now;
  encoding = encoding.now;
  into = into;
  pages = limits.pages;
  frames = limits.frames.value;
  lines = lines;
  rejects = option_map (λ text. text.now) rejects;
  quiet = quiet;
  asked = asked;
}

-- the words ask for a list
module _ (words : List Text) (list : AskForRecords words) where
  did_refused : (fault : CommandFault) → IsFormRefused list.form fault → Did words (Err fault)
  did_refused (Deck fault) h = inl (inr (inl (list, h)))
  did_refused NoSuchFile h = inr (inl (list, h))
  did_refused (NoForm fault) h = inl (list, h)
  did_refused Input h = tt
  did_refused Output h = tt
  did_refused Memory h = tt
  did_refused fault h = absurd h

  did_condition : (fault : CommandFault) → IsConditionRefused list.form list.conditions fault → Did words (Err fault)
  did_condition (NoCondition fault) h = (list, h)
  did_condition fault h = absurd h

  did_key : (fault : CommandFault) → IsKeyRefused list.form list.key fault → Did words (Err fault)
  did_key LoneKeyName h = (list, h)
  did_key (NoSuchKey told) h = (list, h)
  did_key fault h = absurd h

  did_not_asked : (fault : CommandFault) → IsListRefused (words_of_list list) fault → Did words (Err fault)
  did_not_asked fault (inl long) = subst (λ (x : CommandFault). Did words (Err x)) (sym long) list
  did_not_asked fault (inr (inl refused)) = did_refused fault refused
  did_not_asked fault (inr (inr (inl none))) = did_condition fault none
  did_not_asked fault (inr (inr (inr none))) = did_key fault none

  -- nothing else was done than to list, in whatever encoding
  none_else : (encoding form : Text) (old new : Option (List ℕ)) → WritesIn encoding form old new (λ before behind. ⊥) → ⊥
  none_else encoding form old new (inl (is, so)) = so
  none_else encoding form old new (inr (is, writes)) = writes.so

  pub did_list : (checked : Bool) (disk : Unseen) (input : Option (List ℕ)) (path : List ℕ) (bounds : Bounds) (form : FormWords) → words_of bounds form ≡ words_of_list list
      → (old new : Option (List ℕ)) (calls : List Call) (result : Result Outcome CommandFault)
      → IfOk result (λ outcome. WritesIn form.encoding.now form.kind.now old new (λ before behind. DoesList checked disk input path bounds form before behind calls outcome))
      → IfErr result (IsListRefused (words_of bounds form)) → Did words result
  did_list checked disk input path bounds form same old new calls (Ok (Records end)) done refused = list
  did_list checked disk input path bounds form same old new calls (Ok OtherSchema) done refused = inl list
  did_list true disk input path bounds form same old new calls (Ok outcome) done refused = absurd (none_else form.encoding.now form.kind.now old new done)
  did_list false disk input path bounds form same old new calls (Ok outcome) done refused = absurd (none_else form.encoding.now form.kind.now old new done)
  did_list checked disk input path bounds form same old new calls (Err f) done refused =
      did_not_asked f (subst (λ (asked : ListWords). IsListRefused asked f) same refused)

-- the words ask for a schema
module _ (words : List Text) (schema : AskForSchema words) where
  pub did_schema : (result : Result Outcome CommandFault) → IfOk result (IsSchemaDone schema.deck schema.name) → IfErr result (IsSchemaFault schema.deck schema.name) → Did words result
  did_schema (Ok SchemaTold) done fault =
      (schema.file, subst (λ (deck : Option Text). AskSchema words schema.file deck None) done.0 (subst (λ (name : Option Text). AskSchema words schema.file schema.deck name) done.1 schema.asked))
  did_schema (Ok (SchemaCompared told)) done fault = (schema, done)
  did_schema (Ok (SchemaRefused refusal)) done fault = schema
  did_schema (Ok outcome) done fault = absurd done
  did_schema (Err (Deck fault)) done h = inl (inr (inr (inl (schema, h))))
  did_schema (Err NoSuchFile) done h = inr (inr (inl (schema, h)))
  did_schema (Err (NoForm fault)) done h = inr (inl (schema, h.0, h.1))
  did_schema (Err Input) done h = tt
  did_schema (Err Output) done h = tt
  did_schema (Err Memory) done h = tt
  did_schema (Err fault) done h = absurd h

-- the words ask for a salvage
module _ (words : List Text) (salvage : AskForSalvage words) where
  did_salvage_refused : (fault : CommandFault) → IsSalvageRefused salvage.form fault → Did words (Err fault)
  did_salvage_refused (Deck fault) (inl (is, h)) = inl (inr (inr (inr (salvage, h))))
  did_salvage_refused (Deck fault) (inr (is, h)) = inl (inr (inr (inr (salvage, h))))
  did_salvage_refused NoSuchFile (inl (is, h)) = inr (inr (inr (salvage, h)))
  did_salvage_refused NoSuchFile (inr (is, h)) = inr (inr (inr (salvage, h)))
  did_salvage_refused (NoForm fault) (inl (is, h)) = inr (inr (inl (salvage, inl (is, h.0, h.1))))
  did_salvage_refused (NoForm fault) (inr (is, h)) = inr (inr (inl (salvage, inr (inl (is, h)))))
  did_salvage_refused Input h = tt
  did_salvage_refused Output h = tt
  did_salvage_refused Memory h = tt
  did_salvage_refused fault (inl (is, h)) = absurd h
  did_salvage_refused fault (inr (is, h)) = absurd h

  did_encoded_refused : (fault : CommandFault) → IsEncodedRefused salvage.form fault → Did words (Err fault)
  did_encoded_refused fault (inl h) = did_salvage_refused fault h
  did_encoded_refused fault (inr (inl h)) = subst (λ (x : CommandFault). Did words (Err x)) (sym h.0) (inr (inr (inl (salvage, inr (inr (refl, h.1))))))
  did_encoded_refused fault (inr (inr (inl output))) = subst (λ (x : CommandFault). Did words (Err x)) (sym output) tt
  did_encoded_refused fault (inr (inr (inr memory))) = subst (λ (x : CommandFault). Did words (Err x)) (sym memory) tt

  -- what was salvaged, whatever was written
  abbrev Salvages : (told told_behind : Option (List ℕ)) → (input : Option (List ℕ)) → List Call → (before behind : Option (List ℕ)) → Outcome → Type 0
  Salvages told told_behind input calls before behind outcome = SalvagesFileAt input salvage.file salvage.form salvage.places (outputs before behind told told_behind) calls outcome

  pub did_salvage : (input old new told told_behind : Option (List ℕ)) (calls : List Call) (result : Result Outcome CommandFault)
      → IfOk result (λ outcome. WritesIn salvage.form.encoding salvage.form.kind old new (λ before behind. Salvages told told_behind input calls before behind outcome))
      → IfErr result (IsEncodedRefused salvage.form) → Did words result
  did_salvage input old new told told_behind calls (Ok (Salvaged end)) done fault = salvage
  did_salvage input old new told told_behind calls (Ok OtherSchema) done fault = inr salvage
  did_salvage input old new told told_behind calls (Ok outcome) (inl (is, (form, first, asked, (bytes, are, so)))) fault = absurd so
  did_salvage input old new told told_behind calls (Ok outcome) (inr (is, writes)) fault = absurd writes.so.3.2
  did_salvage input old new told told_behind calls (Err fault) done h = did_encoded_refused fault h

-- the words ask for a load
module _ (words : List Text) (load : AskForLoad words) where
  load_refused : (fault : CommandFault) → IsDeckFault fault → Did words (Err fault)
  load_refused (Deck fault) h = inl (inl load)
  load_refused NoSuchFile h = inl load
  load_refused Input h = tt
  load_refused Output h = tt
  load_refused Memory h = tt
  load_refused fault h = absurd h

  pub did_load : (result : Result Outcome CommandFault) → IfOk result (λ outcome. (end : ShelfEnd) × (outcome ≡ Loaded end)) → IfErr result (IsFaultOfLoad load.form load.encoding load.rejects load.lines.keep_going) → Did words result
  did_load (Ok outcome) done fault = subst (λ (o : Outcome). Did words (Ok o)) (sym done.1) load
  did_load (Err f) done (inl (inl none)) = subst (λ (x : CommandFault). Did words (Err x)) (sym none.0) (inr (inr (inr (inl (load, refl, none.1)))))
  did_load (Err f) done (inl (inr (inl none))) = subst (λ (x : CommandFault). Did words (Err x)) (sym none.0) (inr (inr (inr (inr (load, refl, none.1)))))
  did_load (Err f) done (inl (inr (inr refused))) = load_refused f refused
  did_load (Err f) done (inr lone) = subst (λ (x : CommandFault). Did words (Err x)) (sym lone.0) (load, lone.1, lone.2)

-- the words ask for a run
module _ (words : List Text) (run : AskForRun words) where
  pub did_run : (result : Result Outcome CommandFault) → IsRunOutcome result → Did words result
  did_run (Ok (Ended end)) told = run
  did_run (Ok outcome) told = absurd told
  did_run (Err (Deck fault)) told = inr run
  did_run (Err Output) told = tt
  did_run (Err Memory) told = tt
  did_run (Err fault) told = absurd told

-- the input, the output or memory may fail for any words
pub did_fail : (words : List Text) (fault : CommandFault) → status_of fault ≡ 4 → Did words (Err fault)
did_fail words Input is = tt
did_fail words Output is = tt
did_fail words Memory is = tt
did_fail words fault is = absurd (cc)

-- this was done, or the input, the output or memory failed
module _ (words : List Text) where
  pub did_done : (done : Outcome) → Did words (Ok done) → (result : Result Outcome CommandFault) → IfOk result (λ outcome. outcome ≡ done) → IfErr result (λ fault. status_of fault ≡ 4) → Did words result
  did_done done asked (Ok outcome) is four = subst (λ (o : Outcome). Did words (Ok o)) (sym is) asked
  did_done done asked (Err fault) is four = did_fail words fault four

  pub did_help : (text : Error) → AskHelp words text → (result : Result Outcome CommandFault) → IfOk result (λ outcome. outcome ≡ Helped) → IfErr result (λ fault. fault ≡ Output) → Did words result
  did_help text asked result is output = did_done Helped (text, asked) result is (IfErr-weaker result (λ fault. fault ≡ Output) (λ fault. status_of fault ≡ 4) (λ fault same. ap status_of same) output)

  pub did_explain : (kind number : Text) → AskExplain words kind number → (result : Result Outcome CommandFault) → IfOk result (λ outcome. outcome ≡ Explained)
      → IfErr result (λ fault. (fault ≡ Unexplained) ⊎ (fault ≡ Output)) → Did words result
  did_explain kind number asked (Ok outcome) is fault = subst (λ (o : Outcome). Did words (Ok o)) (sym is) (kind, number, asked)
  did_explain kind number asked (Err f) is (inl none) = subst (λ (x : CommandFault). Did words (Err x)) (sym none) (kind, number, asked)
  did_explain kind number asked (Err f) is (inr output) = did_fail words f (ap status_of output)

  -- so of what is done by calls
  pub did_check : {W : Type 0} (disk : Unseen) (file : Text) (quiet : Bool) → AskCheck words (file ∷ []) quiet → (contents : W → Option (List ℕ)) (old new : W) (calls : List Call) (result : Result Outcome CommandFault)
      → DoesBy (ChecksFile disk file contents old new) result calls → Did words result
  did_check disk file quiet asked contents old new calls (Ok outcome) does = subst (λ (o : Outcome). Did words (Ok o)) (sym does.right.1) (file, quiet, asked)
  did_check disk file quiet asked contents old new calls (Err fault) does = did_fail words fault does.fault

  pub did_checks : (files : List Text) (quiet : Bool) → AskCheck words files quiet → (P : WorstCheck → Type 0) (result : Result Outcome CommandFault)
      → IfOk result (λ outcome. (worst : WorstCheck) × (outcome ≡ CheckedAll worst) × P worst) → IfErr result (λ fault. status_of fault ≡ 4) → Did words result
  did_checks files quiet asked P (Ok outcome) is four = subst (λ (o : Outcome). Did words (Ok o)) (sym is.1) (files, quiet, asked)
  did_checks files quiet asked P (Err fault) is four = did_fail words fault four

  pub did_count : {W : Type 0} (disk : Unseen) (path : Text) → AskStat words path → (contents : W → Option (List ℕ)) (old new : W) (calls : List Call) (result : Result Outcome CommandFault)
      → DoesBy (CountsFileAt disk path contents old new) result calls → Did words result
  did_count disk path asked contents old new calls (Ok outcome) does = subst (λ (o : Outcome). Did words (Ok o)) (sym does.right.1) (path, asked)
  did_count disk path asked contents old new calls (Err fault) does = did_fail words fault does.fault

  -- a deck was told, or is refused
  deck_refused : AskOfDeck words → (fault : CommandFault) → IsListFault fault → Did words (Err fault)
  deck_refused asked (NotListed refused) is = asked
  deck_refused asked Input is = tt
  deck_refused asked Output is = tt
  deck_refused asked Memory is = tt
  deck_refused asked fault is = absurd is

  pub did_deck : AskOfDeck words → (done : Outcome) → Did words (Ok done) → (result : Result Outcome CommandFault) → IfOk result (λ outcome. outcome ≡ done) → IfErr result IsListFault → Did words result
  did_deck asked done so (Ok outcome) is fault = subst (λ (o : Outcome). Did words (Ok o)) (sym is) so
  did_deck asked done so (Err f) is fault = deck_refused asked f fault

  -- requests were answered, or why not
  pub served_did : (folder : Text) (pages frames : ℕ) → AskServe words folder pages frames → (outcome : Result Outcome CommandFault) → IfOk outcome (λ done. done ≡ Served)
      → IfErr outcome (λ fault. status_of fault ≡ 4) → Did words outcome
  served_did folder pages frames asked outcome is four = did_done Served (folder, pages, frames, asked) outcome is four

  -- the words are refused
  pub did_refuse : (fault : WordsFault) → IfUsage (AskNothing words) fault → Did words (Err (words_told_as fault))
  did_refuse (NotUnderstood text) asked = asked text refl
  did_refuse NoMemoryForWords asked = tt
