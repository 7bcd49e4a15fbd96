-- What is listed and salvaged in an encoding, by what is in ASCII.
use Rattle.std.proofs.Common.{◌≡◌, ◌≢◌, ℕ, Bool, true, false, List, [], Option, Some, Result, Ok, Err, IfOk, IfErr, inl, inr, refl, sym, ap, subst}
use Rattle.std.specs.Prelude.{codes}
use Rattle.std.proofs.lemmas.Result.{IfOk-weaker, IfErr-weaker}
use Rattle.folder_shelf.specs.Replay.{Unseen}
use Rattle.folder_shelf.specs.Calls.{Call}
use Rattle.record_listing.specs.ByPath.{ByReadsAside}
use Rattle.command_words.specs.Asks.{FormText}
use Rattle.command_words.specs.declared.form_words.FormWords.{FormWords}
use Rattle.command_support.specs.AskedForm.{IsListRefused}
use Rattle.file_commands.specs.Records.{ListsAsked, words_of}
use Rattle.file_commands.specs.Salvaged.{SalvagesFile, SalvagesFileAt, IsSalvageRefused}
use Rattle.file_commands.specs.declared.listing.Bounds.{Bounds}
use Rattle.salvaged_records.specs.Salvaged.{outputs}
use Rattle.streams.specs.declared.backslashes.Backslashes.{Backslashes}
use Rattle.command_support.specs.Status.{status_of}
use Rattle.command_support.specs.declared.fault.CommandFault.{CommandFault}
use Rattle.command_support.specs.declared.fault.CommandFault.TheVariants.{Form as NoForm, Output, Memory}
use Rattle.command_support.specs.declared.form_fault.FormFault.TheVariants.{Encoding as NoEncoding}
use Rattle.command_support.specs.declared.outcome.Outcome.{Outcome}
use Rattle.command_support.specs.declared.outcome.Outcome.TheVariants.{Records, OtherSchema}
use Rattle.command_line.specs.Lists.{ListsEitherWay}
use Rattle.command_line.specs.Encoding.{AreBackslashesOf, WritesIn, IsNoEncodingWord}
use Rattle.command_line.specs.Encoded.{DoesList, ListsEncoded, SalvagesEncoded, HandsTextOver, IsNoRoom, IsEncodedRefused}

-- a fault of the output or of memory has this status
no_room_status : (fault : CommandFault) → IsNoRoom fault → status_of fault ≡ 4
no_room_status fault (inl output) = ap status_of output
no_room_status fault (inr memory) = ap status_of memory

-- what is so of a fault of the text that was listed, and of those of the output and memory, is so of a fault
-- that is told
handed_fault : {W : Type 0} (IsSo : CommandFault → Type 0) → IsSo Output → IsSo Memory
    → (backslashes : Backslashes) (text : List ℕ) (made : Result Outcome CommandFault) (contents : W → Option (List ℕ)) (old new : W) (result : Result Outcome CommandFault)
    → IfErr made IsSo → HandsTextOver backslashes text made contents old new result → IfErr result IsSo
handed_fault IsSo of_output of_memory backslashes text made contents old new (Ok outcome) so hands = tt
handed_fault IsSo of_output of_memory backslashes text made contents old new (Err fault) so hands = elim hands.fault [
  | inl is ↦ subst (λ (r : Result Outcome CommandFault). IfErr r IsSo) is so
  | inr (inl output) ↦ subst IsSo (sym output) of_output
  | inr (inr memory) ↦ subst IsSo (sym memory) of_memory
]

handed_untouched : {W : Type 0} (backslashes : Backslashes) (text : List ℕ) (made : Result Outcome CommandFault) (contents : W → Option (List ℕ)) (old new : W) (result : Result Outcome CommandFault)
    → IfErr made (λ fault. status_of fault ≢ 4 → text ≡ []) → HandsTextOver backslashes text made contents old new result
    → IfErr result (λ fault. status_of fault ≢ 4 → new ≡ old)
handed_untouched backslashes text made contents old new (Ok outcome) so hands = tt
handed_untouched backslashes text made contents old new (Err fault) so hands = elim hands.fault [
  | inl is ↦ λ other. hands.nothing (subst (λ (r : Result Outcome CommandFault). IfErr r (λ f. status_of f ≢ 4 → text ≡ [])) is so other)
  | inr none ↦ λ other. absurd (other (no_room_status fault none))
]

-- a text of which something is so was handed over
handed_done : {W : Type 0} (IsSo : (before behind : Option (List ℕ)) → Outcome → Type 0) (encoding form : List ℕ) (backslashes : Backslashes) (text : List ℕ) (made : Result Outcome CommandFault)
    (contents : W → Option (List ℕ)) (old new : W) (result : Result Outcome CommandFault)
    → encoding ≡ codes "utf-8" → AreBackslashesOf form backslashes → IfOk made (IsSo (Some []) (Some text)) → HandsTextOver backslashes text made contents old new result
    → IfOk result (λ outcome. WritesIn encoding form (contents old) (contents new) (λ before behind. IsSo before behind outcome))
handed_done IsSo encoding form backslashes text made contents old new (Ok outcome) is are so hands = inr (
  is,
  record {
    text = text;
    backslashes = backslashes;
    are = are;
    so = subst (λ (r : Result Outcome CommandFault). IfOk r (IsSo (Some []) (Some text))) hands.done so;
    written = hands.written;
  },
)
handed_done IsSo encoding form backslashes text made contents old new (Err fault) is are so hands = tt

-- ---- a list

module _ (disk : Unseen) (input : Option (List ℕ)) (path : List ℕ) (bounds : Bounds) (form : FormWords) (calls : List Call) where
  -- what was done, by what a writer has
  checked_known : {W : Type 0} (contents : W → Option (List ℕ)) (old new : W) (outcome : Outcome) → ListsAsked disk input path bounds (words_of bounds form) contents old new calls outcome
      → DoesList true disk input path bounds form (contents old) (contents new) calls outcome
  checked_known contents old new (Records list) is = is
  checked_known contents old new OtherSchema is = is
  checked_known contents old new outcome is = absurd is

  lists_known : {W : Type 0} (checked : Bool) (contents : W → Option (List ℕ)) (old new : W) (result : Result Outcome CommandFault) → ListsEitherWay checked disk input path bounds form contents old new result calls
      → IfOk result (DoesList checked disk input path bounds form (contents old) (contents new) calls)
  lists_known true contents old new result lists =
      IfOk-weaker result (ListsAsked disk input path bounds (words_of bounds form) contents old new calls) (DoesList true disk input path bounds form (contents old) (contents new) calls)
      (checked_known contents old new) lists.records
  lists_known false contents old new result lists = lists.records

  lists_refused : {W : Type 0} (checked : Bool) (contents : W → Option (List ℕ)) (old new : W) (result : Result Outcome CommandFault) → ListsEitherWay checked disk input path bounds form contents old new result calls
      → IfErr result (IsListRefused (words_of bounds form))
  lists_refused true contents old new result lists = lists.fault
  lists_refused false contents old new result lists = lists.fault

  lists_untouched : {W : Type 0} (checked : Bool) (contents : W → Option (List ℕ)) (old new : W) (result : Result Outcome CommandFault) → ListsEitherWay checked disk input path bounds form contents old new result calls
      → IfErr result (λ fault. status_of fault ≢ 4 → new ≡ old)
  lists_untouched true contents old new result lists = lists.untouched
  lists_untouched false contents old new result lists = lists.untouched

  -- in ASCII
  pub in_ascii_listed : {W : Type 0} (checked : Bool) (contents : W → Option (List ℕ)) (old new : W) (result : Result Outcome CommandFault) → form.encoding.now ≡ codes "ascii"
      → ListsEitherWay checked disk input path bounds form contents old new result calls → ListsEncoded checked disk input path bounds form contents old new result calls
  in_ascii_listed checked contents old new result is lists = record {
    records = IfOk-weaker result (DoesList checked disk input path bounds form (contents old) (contents new) calls)
        (λ outcome. WritesIn form.encoding.now form.kind.now (contents old) (contents new) (λ before behind. DoesList checked disk input path bounds form before behind calls outcome))
        (λ outcome so. inl (is, so)) (lists_known checked contents old new result lists);
    untouched = lists_untouched checked contents old new result lists;
    fault = lists_refused checked contents old new result lists;
  }

  -- in UTF-8, by a text that was listed into memory
  pub in_utf_8_listed : {V W : Type 0} (checked : Bool) (held : V → Option (List ℕ)) (empty full : V) (text : List ℕ) (made : Result Outcome CommandFault) (backslashes : Backslashes)
      (contents : W → Option (List ℕ)) (old new : W) (result : Result Outcome CommandFault)
      → held empty ≡ Some [] → held full ≡ Some text → (full ≡ empty → text ≡ []) → form.encoding.now ≡ codes "utf-8" → AreBackslashesOf form.kind.now backslashes
      → ListsEitherWay checked disk input path bounds form held empty full made calls → HandsTextOver backslashes text made contents old new result
      → ListsEncoded checked disk input path bounds form contents old new result calls
  in_utf_8_listed checked held empty full text made backslashes contents old new result begun had same is are lists hands =
      let known = lists_known checked held empty full made lists in
      let of_text = subst (λ (b : Option (List ℕ)). IfOk made (DoesList checked disk input path bounds form (Some []) b calls)) had
      (subst (λ (b : Option (List ℕ)). IfOk made (DoesList checked disk input path bounds form b (held full) calls)) begun known) in
      record {
        records = handed_done (λ before behind outcome. DoesList checked disk input path bounds form before behind calls outcome) form.encoding.now form.kind.now backslashes text made contents old new result is are of_text hands;
        untouched = handed_untouched backslashes text made contents old new result
            (IfErr-weaker made (λ fault. status_of fault ≢ 4 → full ≡ empty) (λ fault. status_of fault ≢ 4 → text ≡ []) (λ fault so other. same (so other)) (lists_untouched checked held empty full made lists)) hands;
        fault = handed_fault (IsListRefused (words_of bounds form)) (inr (inl tt)) (inr (inl tt)) backslashes text made contents old new result
            (lists_refused checked held empty full made lists) hands;
      }

  -- there is no such encoding
  pub in_none_listed : {W : Type 0} (checked : Bool) (contents : W → Option (List ℕ)) (old : W) → IsNoEncodingWord form.encoding.now
      → ListsEncoded checked disk input path bounds form contents old old (Err (NoForm NoEncoding)) calls
  in_none_listed checked contents old none = record {
    records = tt;
    untouched = λ other. refl;
    fault = inr (inl none);
  }

-- what is so of calls that were made is so where something follows from it
pub aside_so : {IsSo IsThen : List Call → Type 0} (old aside new : List Call) → ((calls : List Call) → IsSo calls → IsThen calls) → ByReadsAside IsSo old aside new → ByReadsAside IsThen old aside new
aside_so old aside new then reads = record { calls = reads.calls; noted = reads.noted; reading = reads.reading; so = then reads.calls reads.so }

-- ---- a salvage

module _ {E : Type 0} (input : Option (List ℕ)) (path : List ℕ) (asked : FormText) (places : Bool) (contents_told : E → Option (List ℕ)) (told told_after : E) (calls : List Call) where
  abbrev DoesSalvage : (before behind : Option (List ℕ)) → Outcome → Type 0
  DoesSalvage before behind outcome = SalvagesFileAt input path asked places (outputs before behind (contents_told told) (contents_told told_after)) calls outcome

  as_refused : (result : Result Outcome CommandFault) → IfErr result (IsSalvageRefused asked) → IfErr result (IsEncodedRefused asked)
  as_refused result so = IfErr-weaker result (IsSalvageRefused asked) (IsEncodedRefused asked) (λ fault is. inl is) so

  pub in_ascii_salvaged : {W : Type 0} (contents : W → Option (List ℕ)) (old new : W) (result : Result Outcome CommandFault) → asked.encoding ≡ codes "ascii"
      → SalvagesFile input path asked places contents_told told told_after contents old new result calls → SalvagesEncoded input path asked places contents_told told told_after contents old new result calls
  in_ascii_salvaged contents old new result is salvages = record {
    records = IfOk-weaker result (DoesSalvage (contents old) (contents new))
        (λ outcome. WritesIn asked.encoding asked.kind (contents old) (contents new) (λ before behind. DoesSalvage before behind outcome))
        (λ outcome so. inl (is, so)) salvages.records;
    untouched = salvages.untouched;
    fault = as_refused result salvages.fault;
  }

  pub in_utf_8_salvaged : {V W : Type 0} (held : V → Option (List ℕ)) (empty full : V) (text : List ℕ) (made : Result Outcome CommandFault) (backslashes : Backslashes)
      (contents : W → Option (List ℕ)) (old new : W) (result : Result Outcome CommandFault)
      → held empty ≡ Some [] → held full ≡ Some text → (full ≡ empty → text ≡ []) → asked.encoding ≡ codes "utf-8" → AreBackslashesOf asked.kind backslashes
      → SalvagesFile input path asked places contents_told told told_after held empty full made calls → HandsTextOver backslashes text made contents old new result
      → SalvagesEncoded input path asked places contents_told told told_after contents old new result calls
  in_utf_8_salvaged held empty full text made backslashes contents old new result begun had same is are salvages hands =
      let of_text = subst (λ (b : Option (List ℕ)). IfOk made (DoesSalvage (Some []) b)) had
      (subst (λ (b : Option (List ℕ)). IfOk made (DoesSalvage b (held full))) begun salvages.records) in
      record {
        records = handed_done DoesSalvage asked.encoding asked.kind backslashes text made contents old new result is are of_text hands;
        untouched = handed_untouched backslashes text made contents old new result
            (IfErr-weaker made (λ fault. status_of fault ≢ 4 → full ≡ empty) (λ fault. status_of fault ≢ 4 → text ≡ []) (λ fault so other. same (so other)) salvages.untouched) hands;
        fault = handed_fault (IsEncodedRefused asked) (inr (inr (inl refl))) (inr (inr (inr refl))) backslashes text made contents old new result (as_refused made salvages.fault) hands;
      }

  pub in_none_salvaged : {W : Type 0} (contents : W → Option (List ℕ)) (old : W) → IsNoEncodingWord asked.encoding
      → SalvagesEncoded input path asked places contents_told told told contents old old (Err (NoForm NoEncoding)) calls
  in_none_salvaged contents old none = record {
    records = tt;
    untouched = λ other. refl;
    fault = inr (inl (refl, none));
  }
