-- What was asked before a folder is entered, and where none is.
use Rattle.std.proofs.Common.{◌≡◌, ℕ, true, false, List, [], ◌∷◌, ◌++◌, Option, Result, Err, IfOk, refl, sym, ap, ◌∙◌, subst, inl, inr, append-nil}
use Rattle.std.specs.Prelude.{⊤}
use Rattle.clap.specs.Words.{Text}
use Rattle.folder_shelf.specs.Calls.{Call, streams_held}
use Rattle.folder_shelf.specs.Reading.{ByReads, with_calls}
use Rattle.folder_shelf.specs.SystemState.{SystemState, with_call}
use Rattle.folder_shelf.proofs.ReadingLemmas.{by_same, by_none}
use Rattle.folder_shelf.specs.Replay.{Unseen}
use Rattle.record_listing.specs.ByPath.{ByReadsAside}
use Rattle.command_line.specs.CallsMade.{calls_made, BeginsNothing, streams_first}
use Rattle.command_line.specs.Loaded.{ComesOfLoad}
use Rattle.command_line.specs.Right.{AskToRead, IsRightOf, ReadsAlone}
use Rattle.command_support.specs.declared.fault.CommandFault.{CommandFault}
use Rattle.command_support.specs.declared.outcome.Outcome.{Outcome}

-- where the numbers of closed streams were taken in a system that was asked nothing yet, that is what was asked
pub streams_alone : (start held : SystemState) → start.calls ≡ [] → held ≡ with_call (streams_held true) start → held.calls ≡ streams_first
streams_alone start held none is = ap (λ (s : SystemState). s.calls) is ∙ ap (λ (calls : List Call). streams_held true ∷ calls) none

-- whatever is so of reads, they were made
pub only_reads : {IsSo : List Call → Type 0} (old new : SystemState) → ByReads IsSo old new → ByReads (λ _. ⊤) old new
only_reads old new reads = by_same old new reads (λ calls so. tt)

-- a fault came before a folder was entered
module _ {W : Type 0} (disk : Unseen) (words : List Text) (input : Option (List ℕ)) (contents : W → Option (List ℕ)) (old new : W) (before : List Call) (none_aside : before ≡ []) where
  no_others : (calls : List Call) → calls ++ before ≡ calls
  no_others calls = ap (λ (l : List Call). calls ++ l) none_aside ∙ append-nil calls

  -- the words are refused, and nothing was asked
  pub asks_nothing : (start : SystemState) → start.calls ≡ [] → (fault : CommandFault) → new ≡ old → ReadsAlone disk words input (calls_made before start) contents old new (Err fault)
  asks_nothing start none fault same = record {
    reads = [];
    calls = inr (refl, inr (no_others start.calls ∙ none));
    reading = tt;
    right = tt;
    unwritten = inr same;
  }

  -- the numbers of closed streams were not taken
  pub holds_none : (start held : SystemState) → start.calls ≡ [] → held ≡ with_call (streams_held false) start → (fault : CommandFault) → new ≡ old
      → ReadsAlone disk words input (calls_made before held) contents old new (Err fault)
  holds_none start held none is fault same = record {
    reads = [];
    calls = inr (refl, inl (no_others held.calls ∙ ap (λ (s : SystemState). s.calls) is ∙ ap (λ (calls : List Call). streams_held false ∷ calls) none));
    reading = tt;
    right = tt;
    unwritten = inr same;
  }

  -- only reads were made behind that, of which the outcome is right
  module _ (held after : SystemState) (held_is : held.calls ≡ streams_first) where
    reads_behind : (calls : List Call) → after ≡ with_calls calls held → after.calls ≡ calls ++ streams_first
    reads_behind calls noted = ap (λ (s : SystemState). s.calls) noted ∙ ap (λ (base : List Call). calls ++ base) held_is

    pub reads_alone : {IsSo : List Call → Type 0} (outcome : Result Outcome CommandFault) → ByReads IsSo held after → AskToRead words
        → ((calls : List Call) → IsSo calls → IfOk outcome (IsRightOf disk words calls input contents old new))
        → ReadsAlone disk words input (calls_made before after) contents old new outcome
    reads_alone outcome reads asked right = record {
      reads = reads.calls;
      calls = inl (no_others after.calls ∙ reads_behind reads.calls reads.noted);
      reading = reads.reading;
      right = right reads.calls reads.so;
      unwritten = inl asked;
    }

    -- or a fault came before a folder was entered
    pub begins_alone : (outcome : Result Outcome CommandFault) → BeginsNothing held (calls_made before after) old new outcome → ReadsAlone disk words input (calls_made before after) contents old new outcome
    begins_alone outcome none = record {
      reads = none.reads.calls;
      calls = inl (no_others after.calls ∙ reads_behind none.reads.calls none.reads.noted);
      reading = none.reads.reading;
      right = subst (λ (o : Result Outcome CommandFault). IfOk o (IsRightOf disk words none.reads.calls input contents old new)) (sym none.told) tt;
      unwritten = inr none.unwritten;
    }

-- a load comes to nothing after reads
pub asked_reads : {W : Type 0} {IsBegun : Type 0} {out : W} {before : List Call} (old after : SystemState) (IsSuch : CommandFault → Type 0) (fault : CommandFault) → before ≡ []
    → ByReads (λ _. ⊤) old after → IsSuch fault → ComesOfLoad IsBegun IsSuch old (calls_made before after) out out (Err fault)
asked_reads old after IsSuch fault none reads such = record {
  came = inl (record { none_aside = none; reads = reads; unwritten = refl; fault = fault; told = refl });
  untouched = λ other. refl;
  fault = such;
}

-- or before anything is asked
pub asked_nothing : {W : Type 0} {IsBegun : Type 0} {out : W} {before : List Call} (old : SystemState) (IsSuch : CommandFault → Type 0) (fault : CommandFault) → before ≡ [] → IsSuch fault
    → ComesOfLoad IsBegun IsSuch old (calls_made before old) out out (Err fault)
asked_nothing old IsSuch fault none such = asked_reads old old IsSuch fault none (by_none old tt) such

-- only reads were made, with which earlier calls were set aside
pub reads_aside : {W : Type 0} {IsSo : List Call → Type 0} (disk : Unseen) (words : List Text) (input : Option (List ℕ)) (contents : W → Option (List ℕ)) (old new : W) (aside held : List Call)
    (after : SystemState) → held ≡ streams_first → (outcome : Result Outcome CommandFault) → ByReadsAside IsSo held aside after.calls → AskToRead words
    → ((calls : List Call) → IsSo calls → IfOk outcome (IsRightOf disk words calls input contents old new)) → ReadsAlone disk words input (calls_made aside after) contents old new outcome
reads_aside disk words input contents old new aside held after held_is outcome reads asked right = record {
  reads = reads.calls;
  calls = inl (reads.noted ∙ ap (λ (base : List Call). reads.calls ++ base) held_is);
  reading = reads.reading;
  right = right reads.calls reads.so;
  unwritten = inl asked;
}
