-- The deck and the folder of a run or a load, by what was asked for them.
use Rattle.std.proofs.Common.{◌≡◌, ℕ, Bool, true, List, ◌∷◌, Option, Some, Ok, Err, ap, ◌∙◌, string_bytes, String}
use Rattle.std.specs.Global.{Global, Vec}
use Rattle.std.specs.Prelude.{⊤}
use Rattle.folder_shelf.specs.Calls.{asked_of_folder}
use Rattle.folder_shelf.specs.Reading.{ByReads}
use Rattle.folder_shelf.specs.SystemState.{SystemState, with_call}
use Rattle.folder_shelf.proofs.ReadingLemmas.{by_both, by_one}
use Rattle.command_support.specs.Front.{ReadsDeckNamed}
use Rattle.command_line.specs.Performed.{ReadsFolder, ReadsInputs}
use Rattle.command_line.proofs.CallsMadeLemmas.{only_reads}
use Rattle.command_support.specs.Status.{status_of}
use Rattle.command_support.specs.declared.fault.CommandFault.{CommandFault}

-- ---- the folder

module _ (path : List ℕ) (old new : SystemState) where
  pub folder_asked : (told : Option Bool) → new ≡ with_call (asked_of_folder path told) old → ByReads (λ _. ⊤) old new
  folder_asked told is = by_one old new (asked_of_folder path told) is tt tt

  pub folder_given : (found : String Global) → string_bytes found ≡ path → new ≡ with_call (asked_of_folder path (Some true)) old → ReadsFolder path old new (Ok found)
  folder_given found same is = record { given = (same, is); reads = folder_asked (Some true) is; fault = tt }

  pub folder_refused : (told : Option Bool) (fault : CommandFault) → status_of fault ≡ 4 → new ≡ with_call (asked_of_folder path told) old → ReadsFolder path old new (Err fault)
  folder_refused told fault four is = record { given = tt; reads = folder_asked told is; fault = four }

-- ---- the deck, and then the folder

module _ {I : Type 0} (left : I → Option (List ℕ)) (deck folder : List ℕ) (input input_after : I) (old between new : SystemState) where
  pub inputs_given : (bytes : Vec ℕ) (path : String Global) → ByReads (ReadsDeckNamed left deck input input_after (Ok bytes)) old between → ReadsFolder folder between new (Ok path)
      → ReadsInputs (left input) deck folder old new (Ok (bytes, path))
  inputs_given bytes path reads found = record {
    given = (
      found.given.0,
      reads.calls,
      reads.so.bytes,
      ap (λ (s : SystemState). s.calls) found.given.1 ∙ ap (λ (s : SystemState). asked_of_folder folder (Some true) ∷ s.calls) reads.noted,
    );
    reads = by_both old between new reads found.reads (λ calls later so also. tt);
    fault = tt;
  }

  pub inputs_no_folder : (bytes : Vec ℕ) (fault : CommandFault) → ByReads (ReadsDeckNamed left deck input input_after (Ok bytes)) old between → ReadsFolder folder between new (Err fault)
      → ReadsInputs (left input) deck folder old new (Err fault)
  inputs_no_folder bytes fault reads found = record {
    given = tt;
    reads = by_both old between new reads found.reads (λ calls later so also. tt);
    fault = found.fault;
  }

-- the deck was not read
pub inputs_no_deck : {I : Type 0} (left : I → Option (List ℕ)) (deck folder : List ℕ) (input input_after : I) (old new : SystemState) (fault : CommandFault)
    → ByReads (ReadsDeckNamed left deck input input_after (Err fault)) old new → ReadsInputs (left input) deck folder old new (Err fault)
inputs_no_deck left deck folder input input_after old new fault reads = record { given = tt; reads = only_reads old new reads; fault = reads.so.bytes }
