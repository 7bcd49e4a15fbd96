-- What a load leaves of the folder that it is over, and what it reads.
use Rattle.std.proofs.Common.{◌≡◌, ◌≢◌, ◌⊎◌, ℕ, Bool, List, [], ◌∷◌, ◌++◌, Option, Result, Ok, Err, IfOk, IfErr, codes, inl, inr, refl, sym, ap, ◌∙◌, subst}
use Rattle.std.proofs.lemmas.Result.{IfErr-weaker}
use Rattle.std.specs.Prelude.{⊤}
use Rattle.folder_shelf.specs.Calls.{Call, entered}
use Rattle.folder_shelf.specs.Reading.{ByReads}
use Rattle.folder_shelf.specs.SystemState.{SystemState}
use Rattle.folder_shelf.proofs.ReadingLemmas.{by_both}
use Rattle.folder_shelf.specs.Replay.{Unseen, folder_state}
use Rattle.folder_shelf.specs.Within.{StaysWithin}
use Rattle.page_store.specs.ShelfState.{ShelfState}
use Rattle.record_layout.specs.Schema.{Schema}
use Rattle.shelf_run.specs.ShelfRun.{LeavesFiles}
use Rattle.record_loading.specs.Passing.{LoadSource}
use Rattle.record_loading.specs.declared.options.LoadOptions.{LoadOptions}
use Rattle.record_loading.specs.declared.end.Load.{Load}
use Rattle.record_loading.specs.Loaded.{KeepsOtherNames, IsSafeLoad}
use Rattle.record_loading.specs.declared.shelf_end.ShelfEnd.{ShelfEnd}
use Rattle.command_line.specs.CallsMade.{CallsMade, BeginsNothing, folder_behind}
use Rattle.command_line.specs.Folder.{folder_at_first}
use Rattle.system_files.specs.Front.{IsTextRead}
use Rattle.command_support.specs.DeckFile.{IsDeckFault}
use Rattle.command_support.specs.Front.{IsDeckNamed, IsTextNamed, longest_line}
use Rattle.command_support.proofs.DeckLemmas.{not_there}
use Rattle.command_line.specs.Encoding.{IsTextIn}
use Rattle.command_line.specs.LoadForm.{IsFaultOfLoad}
use Rattle.command_line.specs.Loaded.{EndsLoadOf, LoadsFolder, LoadsDeck, TellsLoad, ComesOfLoad, BeginsLoad, BeginsLoadOfDeck}
use Rattle.command_line.proofs.FolderLemmas.{untouched}
use Rattle.command_support.specs.Status.{status_of}
use Rattle.command_support.specs.declared.fault.CommandFault.{CommandFault}
use Rattle.command_support.specs.declared.fault.CommandFault.TheVariants.{Output}
use Rattle.command_support.specs.declared.outcome.Outcome.{Outcome}
use Rattle.command_support.specs.declared.outcome.Outcome.TheVariants.{Loaded as LoadEnded}

-- a load over the folder of a path, which was entered in a system that was asked nothing yet
module _ (disk : Unseen) (path : List ℕ) (calls : List Call) (at_first : SystemState) (enters : at_first ≡ record { folder = path; names = []; calls = entered path ∷ calls }) (no_calls : calls ≡ [])
    (system : SystemState) (name : List ℕ) (schema : Schema) (load : Load) (source : LoadSource) where
  abbrev pub first : ShelfState
  first = folder_state disk at_first

  abbrev pub last : ShelfState
  last = folder_state disk system

  -- what is so of the shelf that was handed in is so of the folder before the first call on it
  from_first : (IsSo : ShelfState → ShelfState → Type 0) → IsSo first last → IsSo (folder_at_first disk path) last
  from_first IsSo = subst (λ (old : ShelfState). IsSo old last) (untouched disk path calls at_first enters no_calls)

  pub load_ended : StaysWithin system → (end : ShelfEnd) → EndsLoadOf name schema load source first end last → KeepsOtherNames name first last → IsSafeLoad name first last
      → LoadsFolder disk path name schema load source system (Ok end)
  load_ended within end ends others safe = record {
    within = within;
    ends = from_first (λ old new. EndsLoadOf name schema load source old end new) ends;
    nothing = tt;
    others = from_first (KeepsOtherNames name) others;
    safe = from_first (IsSafeLoad name) safe;
  }

  pub load_failed : StaysWithin system → (fault : CommandFault) → LeavesFiles first last → KeepsOtherNames name first last → IsSafeLoad name first last
      → LoadsFolder disk path name schema load source system (Err fault)
  load_failed within fault nothing others safe = record {
    within = within;
    ends = tt;
    nothing = from_first LeavesFiles nothing;
    others = from_first (KeepsOtherNames name) others;
    safe = from_first (IsSafeLoad name) safe;
  }

-- ---- the text of a load

-- what is read of the input behind the deck is what it had at first, where it is not both the deck and the text
pub text_at_first : (reads : List Call) (old new : Option (List ℕ)) (deck path text : List ℕ)
    → ((deck ≡ codes "-" → ⊥) → new ≡ old) → (deck ≡ codes "-" → path ≡ codes "-" → ⊥) → IsTextNamed reads new path text → IsTextNamed reads old path text
text_at_first reads old new deck path text unread other is = record {
  of_input = λ hyphen.
      subst (λ (input : Option (List ℕ)). IsTextRead longest_line input text × (reads ≡ []))
      (unread (λ both. other both hyphen)) (is.of_input hyphen);
  of_file = is.of_file;
}

-- what else is known of the text in an encoding that stands for it
text_in : {A B : List ℕ → Type 0} (encoding form : List ℕ) → ((text : List ℕ) → A text → B text) → (text : List ℕ) → IsTextIn encoding form A text → IsTextIn encoding form B text
text_in encoding form so text (inl (is, a)) = inl (is, so text a)
text_in encoding form so text (inr (is, reads)) =
    inr (is, record { given = reads.given; backslashes = reads.backslashes; are = reads.are; so = so reads.given reads.so; is = reads.is })

-- what else is known of the text of a load
pub loads_as : {A B : List ℕ → Type 0} {disk : Unseen} {system : SystemState} {bytes folder name word : List ℕ} {into : Bool} {options : LoadOptions} {before behind : Option (List ℕ)} {outcome : Result Outcome CommandFault}
    → ((text : List ℕ) → A text → B text) → LoadsDeck disk system A bytes folder name word into options before behind outcome
    → LoadsDeck disk system B bytes folder name word into options before behind outcome
loads_as so known = record {
  deck = known.deck;
  is_deck = known.is_deck;
  file = known.file;
  named = known.named;
  form = known.form;
  is_form = known.is_form;
  text = known.text;
  is_text = so known.text known.is_text;
  end = known.end;
  left = known.left;
  loads = known.loads;
  calls = known.calls;
  behind_load = known.behind_load;
  told = known.told;
}

-- ---- what is told of a load

-- a fault that is told is of the output, the input or memory
pub told_fault : (path : List ℕ) (schema : Schema) (end : Result ShelfEnd CommandFault) (calls : List Call) (before behind : Option (List ℕ)) (outcome : Result Outcome CommandFault)
    → TellsLoad path schema end calls before behind outcome → IfErr outcome (λ fault. status_of fault ≡ 4)
told_fault path schema (Ok end) calls before behind outcome (inl told) = subst (λ (o : Result Outcome CommandFault). IfErr o (λ fault. status_of fault ≡ 4)) (sym told.0) tt
told_fault path schema (Ok end) calls before behind outcome (inr (inl told)) = subst (λ (o : Result Outcome CommandFault). IfErr o (λ fault. status_of fault ≡ 4)) (sym told) refl
told_fault path schema (Ok end) calls before behind outcome (inr (inr told)) = subst (λ (o : Result Outcome CommandFault). IfErr o (λ fault. status_of fault ≡ 4)) (sym told.0) refl
told_fault path schema (Err fault) calls before behind outcome told =
    subst (λ (o : Result Outcome CommandFault). IfErr o (λ f. status_of f ≡ 4)) (sym told.0) (elim told.1 [ inl input ↦ ap status_of input | inr memory ↦ ap status_of memory ])

-- and what was done is a load
pub told_end : (path : List ℕ) (schema : Schema) (end : Result ShelfEnd CommandFault) (calls : List Call) (before behind : Option (List ℕ)) (outcome : Result Outcome CommandFault)
    → TellsLoad path schema end calls before behind outcome → IfOk outcome (λ o. (e : ShelfEnd) × (o ≡ LoadEnded e))
told_end path schema (Ok end) calls before behind outcome (inl told) = subst (λ (o : Result Outcome CommandFault). IfOk o (λ o. (e : ShelfEnd) × (o ≡ LoadEnded e))) (sym told.0) (end, refl)
told_end path schema (Ok end) calls before behind outcome (inr (inl told)) = subst (λ (o : Result Outcome CommandFault). IfOk o (λ o. (e : ShelfEnd) × (o ≡ LoadEnded e))) (sym told) tt
told_end path schema (Ok end) calls before behind outcome (inr (inr told)) = subst (λ (o : Result Outcome CommandFault). IfOk o (λ o. (e : ShelfEnd) × (o ≡ LoadEnded e))) (sym told.0) tt
told_end path schema (Err fault) calls before behind outcome told = subst (λ (o : Result Outcome CommandFault). IfOk o (λ o. (e : ShelfEnd) × (o ≡ LoadEnded e))) (sym told.0) tt

-- it was told so, or that the output failed
pub told_or_output : (path : List ℕ) (schema : Schema) (end : ShelfEnd) (calls : List Call) (before behind : Option (List ℕ)) (told outcome : Result Outcome CommandFault)
    → (outcome ≡ told) ⊎ (outcome ≡ Err Output) → TellsLoad path schema (Ok end) calls before behind told → TellsLoad path schema (Ok end) calls before behind outcome
told_or_output path schema end calls before behind told outcome (inl same) is = subst (λ (o : Result Outcome CommandFault). TellsLoad path schema (Ok end) calls before behind o) (sym same) is
told_or_output path schema end calls before behind told outcome (inr failed) is = inr (inl failed)

-- so it is of a load that was begun or not
pub load_done : {W : Type 0} (old : SystemState) (made : CallsMade) (out out_after : W) (outcome : Result Outcome CommandFault) (IsBegun : Type 0)
    → BeginsNothing old made out out_after outcome ⊎ IsBegun → (IsBegun → IfOk outcome (λ o. (e : ShelfEnd) × (o ≡ LoadEnded e))) → IfOk outcome (λ o. (e : ShelfEnd) × (o ≡ LoadEnded e))
load_done old made out out_after outcome IsBegun (inl none) so = subst (λ (o : Result Outcome CommandFault). IfOk o (λ o. (e : ShelfEnd) × (o ≡ LoadEnded e))) (sym none.told) tt
load_done old made out out_after outcome IsBegun (inr is) so = so is

-- a fault of this status is one of a file of a deck
pub deck_fault : (outcome : Result Outcome CommandFault) → IfErr outcome (λ fault. status_of fault ≡ 4) → IfErr outcome IsDeckFault
deck_fault outcome four = IfErr-weaker outcome (λ fault. status_of fault ≡ 4) IsDeckFault not_there four

-- and nothing is said of what was written then
pub untouched_unless : (A : Type 0) (outcome : Result Outcome CommandFault) → IfErr outcome (λ fault. status_of fault ≡ 4) → IfErr outcome (λ fault. status_of fault ≢ 4 → A)
untouched_unless A outcome four = IfErr-weaker outcome (λ fault. status_of fault ≡ 4) (λ fault. status_of fault ≢ 4 → A) (λ fault is other. absurd (other is)) four

-- ---- a load of the bytes of a deck is one of the deck

-- a fault came before a folder was entered, after other reads
pub begins_nothing_after : {W : Type 0} (old between : SystemState) (made : CallsMade) (out out_after : W) (outcome : Result Outcome CommandFault) → ByReads (λ _. ⊤) old between
    → BeginsNothing between made out out_after outcome → BeginsNothing old made out out_after outcome
begins_nothing_after old between made out out_after outcome first none = record {
  none_aside = none.none_aside;
  reads = by_both old between made.system first none.reads (λ calls later so also. tt);
  unwritten = none.unwritten;
  fault = none.fault;
  told = none.told;
}

module _ {W : Type 0} (old between : SystemState) (made : CallsMade) (at_first behind_deck : Option (List ℕ)) (deck folder file text form encoding : List ℕ) (into : Bool) (options : LoadOptions) (disk : Unseen) (before behind : Option (List ℕ))
    (out out_after : W) (outcome : Result Outcome CommandFault) (bytes : List ℕ) (reads : List Call) (is_deck : IsDeckNamed reads at_first deck bytes)
    (noted : between.calls ≡ folder_behind folder reads old.calls) (first : ByReads (λ _. ⊤) old between)
    (unread : (deck ≡ codes "-" → ⊥) → behind_deck ≡ at_first) (not_both : deck ≡ codes "-" → text ≡ codes "-" → ⊥) where
  abbrev IsOfBytes : List Call → Type 0
  IsOfBytes base = BeginsLoad base behind_deck bytes folder file text form encoding into options disk made before behind outcome

  abbrev IsOfDeck : Type 0
  IsOfDeck = BeginsLoadOfDeck old.calls at_first deck folder file text form encoding into options disk made before behind outcome

  of_deck : IsOfBytes between.calls → IsOfDeck
  of_deck is = (
    bytes,
    reads,
    is_deck,
    (
      is.0,
      is.1 ∙ ap (λ (base : List Call). is.0 ++ base) noted,
      loads_as (text_in encoding form (λ (t : List ℕ). text_at_first is.0 at_first behind_deck deck text t unread not_both)) is.2,
    ),
  )

  came_of_deck : BeginsNothing between made out out_after outcome ⊎ IsOfBytes between.calls → BeginsNothing old made out out_after outcome ⊎ IsOfDeck
  came_of_deck (inl none) = inl (begins_nothing_after old between made out out_after outcome first none)
  came_of_deck (inr is) = inr (of_deck is)

  pub load_of_deck : (rejects : Option (List ℕ)) (keep_going : Bool) → ComesOfLoad (IsOfBytes between.calls) IsDeckFault between made out out_after outcome → ComesOfLoad IsOfDeck (IsFaultOfLoad form encoding rejects keep_going) old made out out_after outcome
  load_of_deck rejects keep_going comes = record {
    came = came_of_deck comes.came;
    untouched = comes.untouched;
    fault = IfErr-weaker outcome IsDeckFault (IsFaultOfLoad form encoding rejects keep_going) (λ fault is. inl (inr (inr is))) comes.fault;
  }
