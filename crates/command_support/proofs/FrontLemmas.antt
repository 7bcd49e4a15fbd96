-- What was read of the input, and of the files that words name.
use Rattle.std.proofs.Common.{◌≡◌, ◌≤◌, ◌+◌, ◌*◌, ◌-◌, ℕ, List, [], ◌∷◌, take, length, Option, Some, None, Result, Ok, Err, IfOk, IfErr, refl, sym, ap, subst, ◌∙◌, inr, arith}
use Rattle.std.specs.Prelude.{◌≢◌, OnErr, slice_range, codes}
use Rattle.std.specs.Global.{Vec}
use Rattle.byteorder.specs.Endian.{big_number}
use Rattle.std.proofs.lemmas.List.{take_all}
use Rattle.page_store.specs.DeviceFile.{page_of_bytes}
use Rattle.open_file.specs.FirstPageReading.{number_in}
use Rattle.file_checker.specs.Sound.{asked_in}
use Rattle.system_files.specs.Front.{IsFrontRead, IsTextRead}
use Rattle.folder_shelf.specs.Calls.{Call, taken, taken_shared}
use Rattle.command_support.specs.Front.{IsTextTaken, GivesSuch, ReadsNamed, ReadsTextNamed, ReadsCounted, longest_line, asked_by, counted_calls}
use Rattle.command_support.specs.Status.{status_of}
use Rattle.command_support.specs.declared.fault.CommandFault.{CommandFault}

-- how many bytes a first page asks for
pub asked_is : (first : List ℕ) (count less : ℕ) → count ≡ big_number 4 (slice_range first 12 16) → less ≡ count - 1 → length first ≡ 4096 → 4096 + 4096 * less ≡ asked_in first
asked_is first count less is one whole =
    let long : length first ≤ 4096 = rw whole (omega arith) in
    let page : page_of_bytes first 0 ≡ first = take_all 4096 first long in
    ap (λ (n : ℕ). 4096 + 4096 * n) (one ∙ ap (λ (n : ℕ). n - 1) (is ∙ ap (λ (p : List ℕ). number_in p 12 4) (sym page)))

-- a value came, and it is so
pub such_came : {X : Type 0} (P : X → Type 0) (result : Result X CommandFault) → GivesSuch P result → IfOk result P
such_came P (Ok x) is = is
such_came P (Err fault) is = tt

-- none came, since the input, the output or memory failed
pub none_came : {X : Type 0} (P : X → Type 0) (Q : CommandFault → Type 0) (result : Result X CommandFault) → ((fault : CommandFault) → status_of fault ≡ 4 → Q fault) → GivesSuch P result → IfErr result Q
none_came P Q (Ok x) so is = tt
none_came P Q (Err fault) so is = so fault is

-- what is so of a value, and follows from it
pub such_too : {X : Type 0} (P Q : X → Type 0) (result : Result X CommandFault) → ((x : X) → P x → Q x) → GivesSuch P result → GivesSuch Q result
such_too P Q (Ok x) so is = so x is
such_too P Q (Err fault) so is = is

-- ---- what a word names

module _ {I : Type 0} (left : I → Option (List ℕ)) (word : List ℕ) where
  -- a hyphen: the input, and no call was made
  pub front_of_input : (most : ℕ) (old new : I) (result : Result (Vec ℕ) CommandFault) → word ≡ codes "-" → GivesSuch (λ bytes. IsFrontRead most (left old) bytes.items) result
      → ReadsNamed most left word old new result []
  front_of_input most old new result is came = record {
    bytes = such_too _ _ result (λ bytes front. record { of_input = λ _. (front, refl); of_file = λ other. absurd (other is) }) came;
    unread = λ other. absurd (other is);
  }

  -- another word: the file of a path, and the input stays
  pub front_of_file : (most : ℕ) (input : I) (result : Result (Vec ℕ) CommandFault) (calls : List Call) → (word ≡ codes "-" → ⊥) → GivesSuch (λ bytes. calls ≡ taken word most (Some bytes.items) ∷ []) result
      → ReadsNamed most left word input input result calls
  front_of_file most input result calls other came = record {
    bytes = such_too _ _ result (λ bytes call. record { of_input = λ is. absurd (other is); of_file = λ _. call }) came;
    unread = λ _. refl;
  }

  pub text_of_input : (old new : I) (result : Result (Vec ℕ) CommandFault) → word ≡ codes "-" → GivesSuch (λ text. IsTextRead longest_line (left old) text.items) result
      → ReadsTextNamed left word old new result []
  text_of_input old new result is came = record {
    text = such_too _ _ result (λ text whole. record { of_input = λ _. (whole, refl); of_file = λ other. absurd (other is) }) came;
    unread = λ other. absurd (other is);
  }

  pub text_of_file : (input : I) (result : Result (Vec ℕ) CommandFault) (calls : List Call) → (word ≡ codes "-" → ⊥) → GivesSuch (λ text. IsTextTaken calls word text.items) result
      → ReadsTextNamed left word input input result calls
  text_of_file input result calls other came = record {
    text = such_too _ _ result (λ text call. record { of_input = λ is. absurd (other is); of_file = λ _. call }) came;
    unread = λ _. refl;
  }

-- ---- the bytes that the first page counts

-- the calls that gave a first page, and bytes that begin with it
pub are_counted : (path bytes first : List ℕ) (asked : ℕ) → asked ≡ asked_by first → take 4096 bytes ≡ first
    → taken_shared path asked (Some bytes) ∷ taken_shared path 4096 (Some first) ∷ [] ≡ counted_calls path bytes
are_counted path bytes first asked is same =
    subst (λ (page : List ℕ). taken_shared path asked (Some bytes) ∷ taken_shared path 4096 (Some page) ∷ [] ≡ counted_calls path bytes) same
    (ap (λ (n : ℕ). taken_shared path n (Some bytes) ∷ taken_shared path 4096 (Some (take 4096 bytes)) ∷ []) (is ∙ ap asked_by (sym same)))

-- bytes came behind a first page: they begin with it, or they do not
pub counted_or_changed : {E : Type 0} (path bytes first : List ℕ) (asked : ℕ) (result : Result (Vec ℕ) E) → asked ≡ asked_by first
    → IfOk result (λ whole. (whole.items ≡ bytes) × (take 4096 bytes ≡ first)) → OnErr result (take 4096 bytes ≢ first)
    → ReadsCounted path result (taken_shared path asked (Some bytes) ∷ taken_shared path 4096 (Some first) ∷ [])
counted_or_changed path bytes first asked (Ok whole) is same other = record {
  whole = subst (λ (all : List ℕ). taken_shared path asked (Some bytes) ∷ taken_shared path 4096 (Some first) ∷ [] ≡ counted_calls path all) (sym same.0)
      (are_counted path bytes first asked is same.1);
  unread = tt;
}
counted_or_changed path bytes first asked (Err fault) is same other = record {
  whole = tt;
  unread = inr (first, Some bytes, ap (λ (n : ℕ). taken_shared path n (Some bytes) ∷ taken_shared path 4096 (Some first) ∷ []) is, other);
}

-- none came behind it
pub not_counted : {E : Type 0} (path first : List ℕ) (asked : ℕ) (fault : E) → asked ≡ asked_by first
    → ReadsCounted path (Err fault) (taken_shared path asked None ∷ taken_shared path 4096 (Some first) ∷ [])
not_counted path first asked fault is = record {
  whole = tt;
  unread = inr (first, None, ap (λ (n : ℕ). taken_shared path n None ∷ taken_shared path 4096 (Some first) ∷ []) is, tt);
}
