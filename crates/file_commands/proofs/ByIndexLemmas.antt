-- A list that is read page after page, with calls of which some were set aside.
use Rattle.std.proofs.Common.{◌≡◌, ℕ, List, [], ◌++◌, Option, Result, Ok, Err, inl, inr, refl, sym, ap, ◌∙◌, subst, append_assoc, append-nil}
use Rattle.record_text.specs.declared.form.Form.{Form}
use Rattle.record_listing.specs.declared.asked.Asked.{Asked}
use Rattle.record_listing.specs.declared.end.ListEnd.{ListEnd}
use Rattle.record_listing.specs.declared.end.ListEnd.TheVariants.{Listed as LinesWritten, NoKey as HasNoKey, Absent, Unsound as NotOpened, Damaged}
use Rattle.record_listing.specs.declared.end.ListFault.{ListFault}
use Rattle.record_listing.specs.declared.file_list.FileList.{FileList}
use Rattle.record_listing.specs.declared.file_list.FileList.TheVariants.{Listed, NoKey, Unsound}
use Rattle.folder_shelf.specs.Replay.{Unseen}
use Rattle.record_listing.specs.ByPath.{ByReadsAside, ListsAtPath}
use Rattle.folder_shelf.specs.Calls.{Call}
use Rattle.folder_shelf.specs.SystemState.{SystemState}
use Rattle.folder_shelf.specs.Reading.{ByReads}
use Rattle.folder_shelf.proofs.ReadingLemmas.{both_reading}
use Rattle.command_words.specs.Asks.{form_text}
use Rattle.command_words.specs.declared.form_words.FormWords.{FormWords}
use Rattle.command_support.specs.Status.{status_of}
use Rattle.command_support.specs.declared.fault.CommandFault.{CommandFault}
use Rattle.command_support.specs.declared.outcome.Outcome.{Outcome}
use Rattle.command_support.specs.declared.outcome.Outcome.TheVariants.{Records, OtherSchema}
use Rattle.file_commands.specs.ByIndex.{TellsReasonBy, TellsEnd, ToldOfPages, EndsByIndex, IsStart, ListsPages, ListsByIndex, DoesByIndex}
use Rattle.command_support.specs.AskedForm.{IsListRefused}
use Rattle.command_support.specs.declared.forms.ListForm.{ListForm}
use Rattle.file_commands.specs.Records.{AgreesWith, WritesOther, words_of}
use Rattle.file_commands.specs.declared.by_index.ListStart.{ListStart}
use Rattle.file_commands.specs.declared.listing.Bounds.{Bounds}
use Rattle.command_support.proofs.FormLemmas.{form_not_read}

-- none was set aside
pub none_aside : {IsFirst IsSo : List Call → Type 0} (old new : SystemState) (aside : List Call) → aside ≡ [] → ByReads IsFirst old new
    → ((calls : List Call) → IsFirst calls → IsSo calls) → ByReadsAside IsSo old.calls aside new.calls
none_aside old new aside none reads so = record {
  calls = reads.calls;
  noted = ap (λ (l : List Call). new.calls ++ l) none ∙ append-nil new.calls ∙ ap (λ (s : SystemState). s.calls) reads.noted;
  reading = reads.reading;
  so = so reads.calls reads.so;
}

-- calls were made, and behind them others with which these were set aside
pub then_aside : {IsFirst IsThen IsSo : List Call → Type 0} (old between : SystemState) (aside new : List Call) → ByReads IsFirst old between → ByReadsAside IsThen between.calls aside new
    → ((calls later : List Call) → IsFirst calls → IsThen later → IsSo (later ++ calls)) → ByReadsAside IsSo old.calls aside new
then_aside old between aside new first later so = record {
  calls = later.calls ++ first.calls;
  noted = later.noted ∙ ap (λ (s : SystemState). later.calls ++ s.calls) first.noted ∙ sym (append_assoc later.calls first.calls old.calls);
  reading = both_reading later.calls first.calls later.reading first.reading;
  so = so first.calls later.calls first.so later.so;
}

-- calls were made with which earlier ones were set aside, and then others
pub aside_then : {IsFirst IsThen IsSo : List Call → Type 0} (old aside : List Call) (between new : SystemState) → ByReadsAside IsFirst old aside between.calls → ByReads IsThen between new
    → ((calls later : List Call) → IsFirst calls → IsThen later → IsSo (later ++ calls)) → ByReadsAside IsSo old aside new.calls
aside_then old aside between new first later so = record {
  calls = later.calls ++ first.calls;
  noted = ap (λ (s : SystemState). s.calls ++ aside) later.noted ∙ append_assoc later.calls between.calls aside ∙ ap (λ (l : List Call). later.calls ++ l) first.noted
      ∙ sym (append_assoc later.calls first.calls old);
  reading = both_reading later.calls first.calls later.reading first.reading;
  so = so first.calls later.calls first.so later.so;
}

-- the pages of a file were listed by these reads, and how that ended was told by later calls
module _ (disk : Unseen) (path : List ℕ) (form : Form) (asked : Asked) (before behind : Option (List ℕ)) (reads later : List Call) where
  abbrev Ends : Outcome → Type 0
  Ends outcome = (list : FileList) × (outcome ≡ Records list) × (made : List Call) × (after : List Call) × (later ++ reads ≡ after ++ made)
      × EndsByIndex disk path form asked made after before behind list

  refused : (outcome : Outcome) → ListsAtPath disk path form asked before behind (Ok Damaged) reads → TellsReasonBy path later outcome → Ends outcome
  refused (Records (Unsound reason)) lists told = (Unsound reason, refl, reads, later, refl, (lists, told))
  refused (Records Listed) lists told = absurd told
  refused (Records NoKey) lists told = absurd told
  refused outcome lists told = absurd told

  ended : (end : ListEnd) (outcome : Outcome) → ListsAtPath disk path form asked before behind (Ok end) reads → TellsEnd path end later outcome → Ends outcome
  ended LinesWritten outcome lists told = (Listed, told.0, reads, later, refl, (told.1, lists))
  ended HasNoKey outcome lists told = (NoKey, told.0, reads, later, refl, (told.1, lists))
  ended Absent outcome lists told = refused outcome lists told
  ended NotOpened outcome lists told = refused outcome lists told
  ended Damaged outcome lists told = refused outcome lists told

  pub pages_listed : (end : Result ListEnd ListFault) (result : Result Outcome CommandFault) → ListsAtPath disk path form asked before behind end reads → ToldOfPages path end result later
      → ListsPages disk path form asked before behind result (later ++ reads)
  pages_listed (Ok end) (Ok outcome) lists told = record { done = ended end outcome lists told.told; fault = tt }
  pages_listed (Err fault) (Ok outcome) lists told = absurd told.there
  pages_listed end (Err fault) lists told = record { done = tt; fault = told.fault }

-- the start was read by these calls
module _ {W : Type 0} (disk : Unseen) (input : Option (List ℕ)) (path : List ℕ) (bounds : Bounds) (words : FormWords) (contents : W → Option (List ℕ)) (old new : W) where
  -- the words are refused
  pub not_begun : (calls : List Call) (fault : CommandFault) → IsListRefused (words_of bounds words) fault → ListsByIndex disk input path bounds words contents old old (Err fault) calls
  not_begun calls fault is = record { records = tt; untouched = λ _. refl; fault = is }

  -- the input, the output or memory failed
  pub broken_off : (calls : List Call) (fault : CommandFault) → status_of fault ≡ 4 → ListsByIndex disk input path bounds words contents old new (Err fault) calls
  broken_off calls fault four = record { records = tt; untouched = λ other. absurd (other four); fault = inr (inl (form_not_read (form_text words) fault four)) }

  module _ (start : ListStart) (calls : List Call) (begun : IsStart input path bounds (words_of bounds words) calls start) where
    -- the file is of another schema than that of the deck
    pub other_schema : WritesOther start.told.schema start.page.items (contents old) (contents new) → ListsByIndex disk input path bounds words contents old new (Ok OtherSchema) calls
    other_schema written = record {
      records = (begun.told, begun.deck, begun.is_form, (start.page.items, begun.are, subst (λ (told : ListForm). WritesOther told.schema start.page.items (contents old) (contents new)) begun.form_is written));
      untouched = tt;
      fault = tt;
    }

    -- the list ended
    pub listed : (result : Result Outcome CommandFault) (pages : List Call) → AgreesWith start.told.schema start.page.items
        → ListsPages disk path start.told.form start.asked (contents old) (contents new) result pages → ListsByIndex disk input path bounds words contents old new result (pages ++ calls)
    listed (Err fault) pages agrees lists = broken_off (pages ++ calls) fault lists.fault
    listed (Ok outcome) pages agrees lists = let done = lists.done in record {
      records = subst (DoesByIndex disk input path bounds (words_of bounds words) (contents old) (contents new) (pages ++ calls)) (sym done.1) (record {
        told = begun.told;
        deck = begun.deck;
        page = start.page.items;
        reads = done.2;
        later = done.3;
        is_form = begun.is_form;
        agrees = subst (λ (told : ListForm). AgreesWith told.schema start.page.items) begun.form_is agrees;
        are = ap (λ (l : List Call). l ++ calls) done.4 ∙ ap (λ (l : List Call). (done.3 ++ done.2) ++ l) begun.are;
        so = (
          start.asked,
          begun.asked,
          subst (λ (told : ListForm). EndsByIndex disk path told.form start.asked done.2 done.3 (contents old) (contents new) done.0) begun.form_is done.5,
        );
      });
      untouched = tt;
      fault = tt;
    }
