-- A copy by two shelves, as one of the file of a path into a file of a folder.
use Rattle.std.proofs.Common.{◌≡◌, ◌⊎◌, ℕ, List, [], ◌∷◌, Result, Ok, Err, IfErr, get_or, ap, ◌∙◌, subst, inl, inr}
use Rattle.std.specs.Prelude.{⊤, IsTrue}
use Rattle.page_store.specs.Pages.{HoldsPages}
use Rattle.page_store.specs.ShelfState.{ShelfState, attached_as}
use Rattle.page_alloc.specs.Joining.{FaultsRose}
use Rattle.folder_shelf.specs.Answers.{are_answers_of}
use Rattle.folder_shelf.specs.Calls.{Call, entered}
use Rattle.folder_shelf.specs.FailedCalls.{failed_calls}
use Rattle.folder_shelf.specs.Replay.{Unseen, folder_after, folder_state}
use Rattle.folder_shelf.specs.Shelf.{shelf_after}
use Rattle.folder_shelf.specs.SystemState.{SystemState, entered_at}
use Rattle.shelf_library.specs.FileOpening.{counted_shelf}
use Rattle.file_building.specs.declared.fault.Copied.{Copied}
use Rattle.file_building.specs.declared.fault.CopyingFault.{CopyingFault}
use Rattle.file_building.specs.declared.fault.CopyingFault.TheVariants.{NoneToCopy, NotAccepted, NoKey, IsThere, Reading, Writing}
use Rattle.file_building.specs.Copying.{BecomesCopy, CopiesBetween, CopyGivesUp, IsCopyUntouched}
use Rattle.file_building.specs.Faults.{IsCopyingCause}
use Rattle.file_building.specs.Attached.{LacksNames, named_shelf}
use Rattle.file_building.specs.CopiedPath.{CopyPaths, CopiesAtPath, CopiesPath, folder_before}

-- what was written is not of the names of the units
untouched_as : (names : List (List ℕ)) (old new : ShelfState) (result : Result Copied CopyingFault) → IfErr result (IsCopyUntouched (attached_as names old) new) → IfErr result (IsCopyUntouched old new)
untouched_as names old new (Ok copied) h = tt
untouched_as names old new (Err NoneToCopy) h = h
untouched_as names old new (Err NotAccepted) h = h
untouched_as names old new (Err NoKey) h = h
untouched_as names old new (Err IsThere) h = h
untouched_as names old new (Err (Reading fault)) h = tt
untouched_as names old new (Err (Writing fault)) h = tt

-- how often reading failed is not told
cause_as : (failed writing full : Type 0) (result : Result Copied CopyingFault) → IfErr result (IsCopyingCause failed writing full) → IfErr result (IsCopyingCause ⊤ writing full)
cause_as failed writing full (Ok copied) h = tt
cause_as failed writing full (Err NoneToCopy) h = tt
cause_as failed writing full (Err NotAccepted) h = tt
cause_as failed writing full (Err NoKey) h = tt
cause_as failed writing full (Err IsThere) h = tt
cause_as failed writing full (Err (Reading fault)) h = record {
  device = λ is. tt;
  not_full = h.not_full;
  not_memory = h.not_memory;
  not_broken = h.not_broken;
}
cause_as failed writing full (Err (Writing fault)) h = h

-- what the folder of a system shows that has just entered it
pub at_first : (disk : Unseen) (folder : List ℕ) (before after : SystemState) → before.calls ≡ [] → after ≡ entered_at folder before → folder_state disk after ≡ folder_after disk folder [] []
at_first disk folder before after none is =
    ap (folder_state disk) is ∙ ap (λ (calls : List Call). folder_after disk folder [] (entered folder ∷ calls)) none

module _ (disk : Unseen) (asked : CopyPaths) (reads : List Call) (system : SystemState) where
  between_files : (from_now : ShelfState) (f f_now t t_now : ℕ) → (IsTrue (are_answers_of disk.first reads) → IsTrue from_now.is_honest) → t ≡ 0 → t_now ≡ failed_calls system.calls
      → (result : Result Copied CopyingFault)
      → CopiesBetween 0 0 asked.key asked.limit (named_shelf [] (shelf_after disk.first asked.source [] []) f) (counted_shelf from_now f_now) (named_shelf asked.name (folder_before disk asked) t)
      (counted_shelf (folder_state disk system) t_now) result
      → CopiesAtPath disk asked reads system result
  between_files from_now f f_now t t_now honest t_is t_now_is result copies =
      let named : get_or (folder_state disk system).names 0 [] ≡ asked.name = ap (λ (names : List (List ℕ)). get_or names 0 []) copies.others.names in
      let old = (folder_before disk asked).file asked.name in
      let file = (folder_state disk system).file in
      let is_honest = IsTrue (folder_state disk system).is_honest in
      record {
        told = λ read_so so. copies.told (honest read_so) so;
        untouched = untouched_as (asked.name ∷ []) (folder_before disk asked) (folder_state disk system) result copies.untouched;
        copies = λ read_so so schema rows closed. subst (λ (name : List ℕ). BecomesCopy schema rows old (file name) result) named (copies.copies (honest read_so) so schema rows closed);
        gives_up = λ so. subst (λ (name : List ℕ). IfErr result (CopyGivesUp old (file name))) named (copies.gives_up so);
        others = copies.others.others;
        cause = cause_as (FaultsRose f f_now) (FaultsRose 0 (failed_calls system.calls)) (is_honest → HoldsPages asked.limit (file asked.name)) result
            (subst (λ (name : List ℕ). IfErr result (IsCopyingCause (FaultsRose f f_now) (FaultsRose 0 (failed_calls system.calls)) (is_honest → HoldsPages asked.limit (file name)))) named
            (subst (λ (n : ℕ). IfErr result (IsCopyingCause (FaultsRose f f_now) (FaultsRose 0 n) (is_honest → HoldsPages asked.limit (file (get_or (folder_state disk system).names 0 []))))) t_now_is
            (subst (λ (n : ℕ). IfErr result (IsCopyingCause (FaultsRose f f_now) (FaultsRose n t_now) (is_honest → HoldsPages asked.limit (file (get_or (folder_state disk system).names 0 []))))) t_is
            copies.cause)));
      }

  pub copied_path : (from from_now to : ShelfState) (f f_now t t_now : ℕ) → from ≡ shelf_after disk.first asked.source [] [] → (IsTrue (are_answers_of disk.first reads) → IsTrue from_now.is_honest)
      → to ≡ folder_before disk asked → t ≡ 0 → t_now ≡ failed_calls system.calls → (result : Result Copied CopyingFault)
      → LacksNames to (folder_state disk system) result
      ⊎ CopiesBetween 0 0 asked.key asked.limit (named_shelf [] from f) (counted_shelf from_now f_now) (named_shelf asked.name to t) (counted_shelf (folder_state disk system) t_now) result
      → CopiesPath disk asked reads system result
  copied_path from from_now to f f_now t t_now from_is honest to_is t_is t_now_is result (inl lacks) = inl (subst (λ (s : ShelfState). LacksNames s (folder_state disk system) result) to_is lacks)
  copied_path from from_now to f f_now t t_now from_is honest to_is t_is t_now_is result (inr copies) = inr (between_files from_now f f_now t t_now honest t_is t_now_is result
      (subst (λ (s : ShelfState). CopiesBetween 0 0 asked.key asked.limit (named_shelf [] s f) (counted_shelf from_now f_now) (named_shelf asked.name (folder_before disk asked) t) (counted_shelf (folder_state disk system) t_now) result) from_is
      (subst (λ (s : ShelfState). CopiesBetween 0 0 asked.key asked.limit (named_shelf [] from f) (counted_shelf from_now f_now) (named_shelf asked.name s t) (counted_shelf (folder_state disk system) t_now) result) to_is copies)))
