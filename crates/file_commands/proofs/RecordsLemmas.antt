-- How a list of records after a check ended.
use Rattle.std.proofs.Common.{◌≡◌, ℕ, List, [], ◌++◌, Option, Result, Ok, Err, inl, inr, refl, sym, ap, subst}
use Rattle.std.specs.Prelude.{IsTrue}
use Rattle.page_store.specs.DeviceFile.{content}
use Rattle.page_store.specs.ShelfState.{ShelfState}
use Rattle.folder_shelf.specs.Answers.{are_answers_of}
use Rattle.folder_shelf.specs.Shelf.{shelf_after}
use Rattle.record_text.specs.declared.form.Form.{Form}
use Rattle.record_listing.specs.FileList.{EndsChecked, ListsChecked}
use Rattle.record_listing.specs.declared.asked.Asked.{Asked}
use Rattle.record_listing.specs.declared.end.ListFault.{ListFault}
use Rattle.record_listing.specs.declared.file_list.FileList.{FileList}
use Rattle.command_words.specs.Asks.{form_text}
use Rattle.command_words.specs.declared.form_words.FormWords.{FormWords}
use Rattle.folder_shelf.specs.Calls.{Call}
use Rattle.folder_shelf.specs.Replay.{Unseen}
use Rattle.command_support.specs.AskedForm.{IsListRefused}
use Rattle.command_support.specs.declared.forms.ListForm.{ListForm}
use Rattle.file_commands.specs.ByIndex.{IsStart}
use Rattle.file_commands.specs.Records.{AgreesWith, WritesOther, ListsAsked, ListsAs, ListsPath, ToldOfList, words_of}
use Rattle.file_commands.specs.declared.by_index.ListStart.{ListStart}
use Rattle.file_commands.specs.declared.listing.Bounds.{Bounds}
use Rattle.command_support.proofs.FormLemmas.{form_not_read}
use Rattle.command_support.specs.Status.{status_of}
use Rattle.command_support.specs.declared.outcome.Outcome.{Outcome}
use Rattle.command_support.specs.declared.outcome.Outcome.TheVariants.{OtherSchema}
use Rattle.command_support.specs.declared.fault.CommandFault.{CommandFault}

-- a list on the shelf of a path is one by the calls on it
pub lists_path : (disk : Unseen) (path : List ℕ) (calls : List Call) (first last : ShelfState) (page : List ℕ) (form : Form) (asked : Asked) (before behind : Option (List ℕ)) (result : Result FileList ListFault)
    → first ≡ shelf_after disk.first path [] [] → last.is_honest ≡ are_answers_of disk.first calls → ListsChecked first last page form asked before behind result
    → ListsPath disk path page form asked before behind result calls
lists_path disk path calls first last page form asked before behind result is honest lists = record {
  ends = λ all.
      subst (λ (shelf : ShelfState). EndsChecked page (content (shelf.file [])) form asked before behind result) is (lists.ends (subst IsTrue (sym honest) all));
  unlisted = lists.unlisted;
}

module _ {W : Type 0} (disk : Unseen) (input : Option (List ℕ)) (path : List ℕ) (bounds : Bounds) (words : FormWords) (contents : W → Option (List ℕ)) (old new : W) where
  -- the words are refused
  pub not_begun : (calls : List Call) (fault : CommandFault) → IsListRefused (words_of bounds words) fault → ListsAs disk input path bounds words contents old old (Err fault) calls
  not_begun calls fault is = record { records = tt; untouched = λ _. refl; fault = is }

  -- the input, the output or memory failed
  pub broken_off : (calls : List Call) (fault : CommandFault) → status_of fault ≡ 4 → ListsAs disk input path bounds words contents old new (Err fault) calls
  broken_off calls fault four = record { records = tt; untouched = λ other. absurd (other four); fault = inr (inl (form_not_read (form_text words) fault four)) }

  module _ (start : ListStart) (calls : List Call) (begun : IsStart input path bounds (words_of bounds words) calls start) where
    -- the file is of another schema than that of the deck
    pub other_schema : WritesOther start.told.schema start.page.items (contents old) (contents new) → ListsAs disk input path bounds words contents old new (Ok OtherSchema) calls
    other_schema written = record {
      records = (begun.told, begun.deck, begun.is_form, (start.page.items, begun.are, subst (λ (told : ListForm). WritesOther told.schema start.page.items (contents old) (contents new)) begun.form_is written));
      untouched = tt;
      fault = tt;
    }

    -- the list ended
    pub listed : (end : Result FileList ListFault) (result : Result Outcome CommandFault) (reads : List Call) → AgreesWith start.told.schema start.page.items
        → ListsPath disk path start.page.items start.told.form start.asked (contents old) (contents new) end reads → ToldOfList end result
        → ListsAs disk input path bounds words contents old new result (reads ++ calls)
    listed (Ok list) (Ok outcome) reads agrees lists told = record {
      records = subst (ListsAsked disk input path bounds (words_of bounds words) contents old new (reads ++ calls)) (sym told.done) (record {
        told = begun.told;
        deck = begun.deck;
        page = start.page.items;
        reads = reads;
        is_form = begun.is_form;
        agrees = subst (λ (told : ListForm). AgreesWith told.schema start.page.items) begun.form_is agrees;
        are = ap (λ (l : List Call). reads ++ l) begun.are;
        so = (
          start.asked,
          begun.asked,
          subst (λ (told : ListForm). ListsPath disk path start.page.items told.form start.asked (contents old) (contents new) (Ok list) reads) begun.form_is lists,
        );
      });
      untouched = tt;
      fault = tt;
    }
    listed (Err fault) (Ok outcome) reads agrees lists told = absurd told.there
    listed end (Err fault) reads agrees lists told = broken_off (reads ++ calls) fault told.fault
