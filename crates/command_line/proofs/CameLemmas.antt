-- What the program came to, by what came of a run, a session, a load or a copy.
use Rattle.std.proofs.Common.{◌≡◌, ◌≢◌, ◌⊎◌, ℕ, Bool, List, [], Option, Some, None, Result, Ok, Err, IfOk, IfErr, inl, inr, refl, sym, subst}
use Rattle.clap.specs.Words.{Text}
use Rattle.page_store.specs.declared.shelf.Shelf.{Ghosts}
use Rattle.folder_shelf.specs.Calls.{Call}
use Rattle.folder_shelf.specs.SystemState.{SystemState}
use Rattle.folder_shelf.specs.Replay.{Unseen}
use Rattle.command_words.specs.Asks.{AskCopy, AskRun, AskServe}
use Rattle.command_words.specs.declared.limits.Limits.{Limits}
use Rattle.streams.specs.declared.standard_input.StandardInput.{StandardInput}
use Rattle.command_line.specs.Answered.{CameAlone, CameFor}
use Rattle.command_line.specs.AskedSession.{BeginsSession, ComesOfSession}
use Rattle.command_line.specs.CallsMade.{CallsMade, calls_beside, calls_made, streams_first}
use Rattle.command_line.specs.Copied.{AskForCopy, BeginsCopy, ComesOfCopy, EndsInName, IsToldCopy, IsToldUnread}
use Rattle.command_line.specs.declared.copying.Copying.{Copying}
use Rattle.file_building.specs.declared.fault.Copied.{Copied}
use Rattle.file_building.specs.declared.fault.CopyingFault.{CopyingFault}
use Rattle.file_building.specs.declared.fault.CopyingFault.TheVariants.{NoneToCopy, NotAccepted, NoKey, IsThere, Reading, Writing}
use Rattle.io_state.specs.declared.fault.Fault.TheVariants.{Device, Memory as NoMemory, Full, Damage, Broken}
use Rattle.command_line.specs.LoadForm.{IsFaultOfLoad}
use Rattle.command_line.specs.Loaded.{BeginsLoadOfDeck, ComesOfLoad, options_of}
use Rattle.record_loading.specs.declared.options.LoadOptions.{LoadOptions}
use Rattle.command_line.specs.Performed.{AskForLoad, BeginsRun, ComesOfRun, Did, wrote}
use Rattle.command_line.specs.Session.{streams_of}
use Rattle.command_line.specs.declared.done.Done.{Done}
use Rattle.command_line.specs.declared.done.Ran.{Ran}
use Rattle.command_line.proofs.CallsMadeLemmas.{begins_alone}
use Rattle.command_line.proofs.DidLemmas.{did_fail, did_load, did_run}
use Rattle.command_line.proofs.LoadingLemmas.{load_done, told_end}
use Rattle.record_loading.specs.declared.shelf_end.ShelfEnd.{ShelfEnd}
use Rattle.command_support.specs.Status.{status_of}
use Rattle.command_support.specs.declared.fault.CommandFault.{CommandFault}
use Rattle.command_support.specs.declared.fault.CommandFault.TheVariants.{NoFileName}
use Rattle.command_support.specs.declared.outcome.Outcome.{Outcome}
use Rattle.command_support.specs.declared.outcome.Outcome.TheVariants.{Loaded as LoadEnded}

-- a run that was not begun is told as a fault of the input, the output or memory
did_not : (words : List Text) (outcome : Result Outcome CommandFault) (fault : CommandFault) → outcome ≡ Err fault → IfErr outcome (λ fault. status_of fault ≡ 4) → Did words outcome
did_not words outcome fault is four = subst (Did words) (sym is) (did_fail words fault (subst (λ (o : Result Outcome CommandFault). IfErr o (λ fault. status_of fault ≡ 4)) is four))

module _ {X I W : Type 0} (shelf : Ghosts X) (keeps_open : X → ℕ → Bool) (disk : Unseen) (words : List Text) (before : List Call) (after : SystemState) (left : I → Option (List ℕ))
    (contents : W → Option (List ℕ)) (input input_after : StandardInput I) (out out_after : W) (old : SystemState) (held : old.calls ≡ streams_first) where
  abbrev pub Came : Done → Type 0
  Came = CameAlone shelf keeps_open disk words (calls_made before after) left contents input input_after out out_after

  -- a run
  module _ (deck folder : Text) (limits : Limits) (strict : Bool) (asks : AskRun words deck folder limits.pages limits.frames.value strict) where
    abbrev pub Comes : Option Ran → Result Outcome CommandFault → Type 0
    Comes = ComesOfRun old left input deck folder limits strict disk (calls_made before after) contents out out_after

    run_by : (done : Done) (ran : Option Ran) → done.ran ≡ ran → Comes ran done.outcome → Came done
    run_by done None is comes = inl (begins_alone disk words (left input.reader) contents out out_after before comes.0.none_aside old after held done.outcome comes.0)
    run_by done (Some ran) is comes = inr (inl (
      ran,
      is,
      record {
        deck = deck;
        folder = folder;
        pages = limits.pages;
        frames = limits.frames.value;
        bytes = ran.bytes.items;
        asks = subst (λ (strict : Bool). AskRun words deck folder limits.pages limits.frames.value strict) (sym comes.0) asks;
        run = subst (λ (base : List Call). BeginsRun base (left input.reader) deck folder limits.pages limits.frames.value disk (calls_made before after) ran.bytes.items
            (wrote contents out out_after) done.outcome) held comes.1;
      },
    ))

    pub run_came : (done : Done) → Comes done.ran done.outcome → Came done
    run_came done comes = run_by done done.ran refl comes

  -- a session
  module _ (folder : Text) (limits : Limits) (asks : AskServe words folder limits.pages limits.frames.value) where
    pub serve_came : (done : Done) → ComesOfSession old shelf keeps_open disk (calls_made before after) folder limits left contents input input_after out out_after done.unclosed done.outcome → Came done
    serve_came done (inl none) = inl (begins_alone disk words (left input.reader) contents out out_after before none.0.none_aside old after held done.outcome none.0)
    serve_came done (inr session) = inr (inr (inl (record {
      folder = folder;
      pages = limits.pages;
      frames = limits.frames.value;
      asks = asks;
      session = subst (λ (base : List Call). BeginsSession base shelf keeps_open disk (calls_made before after) folder limits.pages limits.frames.value
          (streams_of left contents input input_after out out_after) done.unclosed done.outcome) held session;
    })))

  -- a load
  module _ (load : AskForLoad words) where
    abbrev pub IsBegun : List Call → Result Outcome CommandFault → Type 0
    IsBegun base outcome = BeginsLoadOfDeck base (left input.reader) load.deck load.folder load.file load.text load.form load.encoding load.into (options_of load.lines) disk (calls_made before after)
        (contents out) (contents out_after) outcome

    pub load_came : (done : Done) → ComesOfLoad (IsBegun old.calls done.outcome) (IsFaultOfLoad load.form load.encoding load.rejects load.lines.keep_going) old (calls_made before after) out out_after done.outcome → Came done
    load_came done comes = elim comes.came [
      | inl none ↦ inl (begins_alone disk words (left input.reader) contents out out_after before none.none_aside old after held done.outcome none)
      | inr is ↦ inr (inr (inr (load, subst (λ (base : List Call). IsBegun base done.outcome) held is)))
    ]

-- what was done for words that ask for a run
module _ {I W : Type 0} (old : SystemState) (left : I → Option (List ℕ)) (input : StandardInput I) (deck folder : Text) (limits : Limits) (strict : Bool) (disk : Unseen) (made : CallsMade)
    (contents : W → Option (List ℕ)) (out out_after : W) (words : List Text) (asks : AskRun words deck folder limits.pages limits.frames.value strict) where
  abbrev pub ComesTo : Option Ran → Result Outcome CommandFault → Type 0
  ComesTo = ComesOfRun old left input deck folder limits strict disk made contents out out_after

  did_by : (outcome : Result Outcome CommandFault) (ran : Option Ran) → ComesTo ran outcome → Did words outcome
  did_by outcome None comes = did_not words outcome comes.0.fault comes.0.told comes.1
  did_by outcome (Some ran) comes =
      did_run words (record { deck = deck; folder = folder; pages = limits.pages; frames = limits.frames.value; strict = strict; asked = asks }) outcome comes.1.told

  pub run_did : (done : Done) → ComesTo done.ran done.outcome → Did words done.outcome
  run_did done comes = did_by done.outcome done.ran comes

-- what was done for words that ask for a load
load_done_by : {W : Type 0} (old : SystemState) (made : CallsMade) (out out_after : W) (before behind : Option (List ℕ)) (outcome : Result Outcome CommandFault) (base : List Call) (input : Option (List ℕ))
    (deck folder file text form encoding : Text) (into : Bool) (options : LoadOptions) (disk : Unseen)
    → BeginsLoadOfDeck base input deck folder file text form encoding into options disk made before behind outcome → IfOk outcome (λ o. (end : ShelfEnd) × (o ≡ LoadEnded end))
load_done_by old made out out_after before behind outcome base input deck folder file text form encoding into options disk is =
    let loads = is.3.2 in told_end _ _ loads.end loads.calls before behind outcome loads.told

pub load_did : {W : Type 0} (words : List Text) (load : AskForLoad words) {old : SystemState} {made : CallsMade} {out out_after : W} {before behind : Option (List ℕ)} {base : List Call}
    {input : Option (List ℕ)} {disk : Unseen} (outcome : Result Outcome CommandFault)
    → ComesOfLoad (BeginsLoadOfDeck base input load.deck load.folder load.file load.text load.form load.encoding load.into (options_of load.lines) disk made before behind outcome) (IsFaultOfLoad load.form load.encoding load.rejects load.lines.keep_going) old made out out_after outcome
    → Did words outcome
load_did words load {old} {made} {out} {out_after} {before} {behind} {base} {input} {disk} outcome comes =
    did_load words load outcome (load_done old made out out_after outcome _ comes.came
    (load_done_by old made out out_after before behind outcome base input load.deck load.folder load.file load.text load.form load.encoding load.into (options_of load.lines) disk)) comes.fault

-- no other system was asked anything
pub came_alone : {X I W : Type 0} (shelf : Ghosts X) (keeps_open : X → ℕ → Bool) (disk : Unseen) (words : List Text) (before : List Call) (after : SystemState) (beside : List Call) (left : I → Option (List ℕ))
    (contents : W → Option (List ℕ)) (input input_after : StandardInput I) (out out_after : W) (done : Done) → beside ≡ []
    → CameAlone shelf keeps_open disk words (calls_made before after) left contents input input_after out out_after done
    → CameFor shelf keeps_open disk words (calls_beside before after beside) left contents input input_after out out_after done
came_alone shelf keeps_open disk words before after beside left contents input input_after out out_after done none came =
    subst (λ (other : List Call). CameFor shelf keeps_open disk words (calls_beside before after other) left contents input input_after out out_after done) (sym none) (inl (refl, came))

-- a copy: nothing is written to the output
pub copy_unwritten : {W : Type 0} (out : W) (outcome : Result Outcome CommandFault) → IfErr outcome (λ fault. status_of fault ≢ 4 → out ≡ out)
copy_unwritten out (Ok outcome) = tt
copy_unwritten out (Err fault) = λ other. refl

pub copy_came : {X I W : Type 0} (shelf : Ghosts X) (keeps_open : X → ℕ → Bool) (disk : Unseen) (words : List Text) (before : List Call) (after : SystemState) (beside : List Call) (left : I → Option (List ℕ))
    (contents : W → Option (List ℕ)) (input : StandardInput I) (out : W) (old : SystemState) → old.calls ≡ streams_first → (asks : Copying) → AskCopy words asks.file.now asks.new.now asks.key asks.limits.pages asks.limits.frames.value
    → (done : Done) → ComesOfCopy old disk (calls_beside before after beside) asks done.outcome
    → CameFor shelf keeps_open disk words (calls_beside before after beside) left contents input input out out done
copy_came shelf keeps_open disk words before after beside left contents input out old held asks asked done (inl none) =
    came_alone shelf keeps_open disk words before after beside left contents input input out out done none.none_beside
    (inl (begins_alone disk words (left input.reader) contents out out before none.none_aside old after held done.outcome
    (record { none_aside = none.none_aside; reads = none.reads; unwritten = refl; fault = none.fault; told = none.told })))
copy_came shelf keeps_open disk words before after beside left contents input out old held asks asked done (inr begins) = inr (
  refl,
  (
    record { file = asks.file.now; new = asks.new.now; key = asks.key; pages = asks.limits.pages; frames = asks.limits.frames.value; asked = asked },
    subst (λ (base : List Call). BeginsCopy base asks.file.now asks.new.now asks.key asks.limits.pages disk (calls_beside before after beside) done.outcome) held begins,
  ),
)

-- what was done for words that ask for a copy
module _ (words : List Text) (copy : AskForCopy words) where
  did_unread : (outcome : Result Outcome CommandFault) → IsToldUnread outcome → Did words outcome
  did_unread outcome (inl is) = subst (Did words) (sym is) tt
  did_unread outcome (inr is) = subst (Did words) (sym is) tt

  did_copy : (result : Result Copied CopyingFault) (outcome : Result Outcome CommandFault) → IsToldCopy result outcome → Did words outcome
  did_copy (Ok copied) outcome is = subst (Did words) (sym is) copy
  did_copy (Err NoneToCopy) outcome is = did_unread outcome is
  did_copy (Err NotAccepted) outcome is = subst (Did words) (sym is) copy
  did_copy (Err NoKey) outcome is = subst (Did words) (sym is) copy
  did_copy (Err IsThere) outcome is = subst (Did words) (sym is) copy
  did_copy (Err (Reading Device)) outcome is = did_unread outcome is
  did_copy (Err (Reading NoMemory)) outcome is = did_unread outcome is
  did_copy (Err (Reading Full)) outcome is = did_unread outcome is
  did_copy (Err (Reading Damage)) outcome is = subst (Did words) (sym is) copy
  did_copy (Err (Reading Broken)) outcome is = did_unread outcome is
  did_copy (Err (Writing Device)) outcome is = subst (Did words) (sym is) tt
  did_copy (Err (Writing NoMemory)) outcome is = subst (Did words) (sym is) tt
  did_copy (Err (Writing Full)) outcome is = subst (Did words) (sym is) copy
  did_copy (Err (Writing Damage)) outcome is = subst (Did words) (sym is) tt
  did_copy (Err (Writing Broken)) outcome is = subst (Did words) (sym is) tt

  did_no_copy : (fault : CommandFault) → (status_of fault ≡ 4) ⊎ ((fault ≡ NoFileName) × (EndsInName copy.new → ⊥)) → Did words (Err fault)
  did_no_copy fault (inl four) = did_fail words fault four
  did_no_copy fault (inr none) = subst (λ (f : CommandFault). Did words (Err f)) (sym none.0) (copy, none.1)

pub copy_did : (words : List Text) (disk : Unseen) (made : CallsMade) (old : SystemState) (asks : Copying) → AskCopy words asks.file.now asks.new.now asks.key asks.limits.pages asks.limits.frames.value
    → (outcome : Result Outcome CommandFault) → ComesOfCopy old disk made asks outcome → Did words outcome
copy_did words disk made old asks asked outcome (inl none) =
    subst (Did words) (sym none.told)
    (did_no_copy words (record { file = asks.file.now; new = asks.new.now; key = asks.key; pages = asks.limits.pages; frames = asks.limits.frames.value; asked = asked }) none.fault none.cause)
copy_did words disk made old asks asked outcome (inr begins) =
    did_copy words (record { file = asks.file.now; new = asks.new.now; key = asks.key; pages = asks.limits.pages; frames = asks.limits.frames.value; asked = asked }) begins.result outcome begins.told
