use Rattle.std.proofs.Common.{◌≡◌, ℕ, List, [], find, Some, Ok, Err, string_bytes, refl, sym, ap, ◌∙◌, inr, subst}
use Rattle.std.proofs.Common.{Result}
use Rattle.std.proofs.lemmas.Result.{IfErr-at_err}
use Rattle.record_loading.specs.declared.shelf_end.ShelfEnd.{ShelfEnd}
use Rattle.command_support.specs.declared.fault.CommandFault.{CommandFault}
use Rattle.file_control.specs.Description.{FileDesc}
use Rattle.record_layout.specs.Schema.{Schema}
use Rattle.folder_shelf.specs.SystemState.{file_path}
use Rattle.record_loading.specs.declared.end.Load.{Load}
use Rattle.command_support.specs.DeckFile.{is_named_in_deck, IsFileOf}
use Rattle.command_line.specs.LoadForm.{form_word}
use Rattle.command_line.proofs.LoadFormLemmas.{laid_in, form_is_whole}
use Rattle.command_line.proofs.LoadingLemmas.{told_fault, told_or_output, deck_fault, untouched_unless}
use Rattle.command_line.specs.Loaded.{LoadsFolder, TellsLoad, IsShelfFault, load_of, load_source}
use Rattle.command_line.proofs.loading.load_deck.Goals as goal

pub load_over_folder-system-requires-clause-unasked : goal.load_over_folder-system-requires-clause-unasked
load_over_folder-system-requires-clause-unasked g c = ap (λ system. system.calls) c.exchange_record.ensures.record ∙ c.requires.none_aside

pub load_over_folder-system-requires-clause-whole : goal.load_over_folder-system-requires-clause-whole
load_over_folder-system-requires-clause-whole g c =
    let file = c.in-Some.file.now in
    let named : IsFileOf c.in-Ok.deck.files c.args.asked.file.now file =
    sym (subst (λ (files : List FileDesc). Some file ≡ find (is_named_in_deck c.args.asked.file.now) files) c.as_slice.ensures c.in-Some.ensures) in
    form_is_whole c.items_are_whole.ensures (form_word c.args.kind) file (laid_in c.args.bytes.now c.in-Ok.deck c.args.asked.file.now file c.in-Ok.ensures.deck named)
    c.in-Ok-form_of.form c.in-Ok-form_of.ensures.form

-- it was told how the load ended, or that this cannot be written
pub returns-in-Ok-end : goal.returns-in-Ok-end
returns-in-Ok-end g c =
    let end = c.in-Ok-end.end in
    let file = c.in-Some.file.now in
    let before = g.W.Write.contents c.args.out.now in
    let behind = g.W.Write.contents c.tell_end-told.new.out in
    let outcome = c.told_if_kept.result in
    let system = g.S.System.state c.load_over_folder-system.result.0 in
    let reads = c.in-Ok-read_encoded.ensures in
    let named : IsFileOf c.in-Ok.deck.files c.args.asked.file.now file =
    sym (subst (λ (files : List FileDesc). Some file ≡ find (is_named_in_deck c.args.asked.file.now) files) c.as_slice.ensures c.in-Some.ensures) in
    let loads_as : Load → List ℕ → Type 0 = λ load text. LoadsFolder g.D.Disk.unseen (string_bytes c.args.folder) file.file file.schema load (load_source c.in-Ok-form_of.form text c.args.asked.lines) system (Ok end) in
    let loads : loads_as (load_of c.args.asked.into) c.in-Ok-read_encoded.text.list.items =
    subst (loads_as (load_of c.args.asked.into)) c.as_slice-3.ensures.value (subst (λ (load : Load). loads_as load c.as_slice-3.result.now) c.load_of.ensures (subst (λ (r : Result ShelfEnd CommandFault). LoadsFolder g.D.Disk.unseen (string_bytes c.args.folder) file.file file.schema c.load_of.result (load_source c.in-Ok-form_of.form c.as_slice-3.result.now c.args.asked.lines) system r) c.in-Ok-end.is c.load_over_folder-system.ensures.loads)) in
    let path = file_path (string_bytes c.args.folder) file.file in
    let calls = c.tell_end-told.ensures.calls in
    let told_at : List ℕ → Schema → Type 0 = λ at schema. TellsLoad at schema (Ok end) calls before behind c.tell_end-told.result in
    let path_is : c.as_str-in-Ok-end.result.now ≡ path = c.as_str-in-Ok-end.ensures.value ∙ c.in-Ok-room_and_path.ensures.path ∙ ap (λ (of : List ℕ). file_path of file.file) c.as_str.ensures.value in
    let told_first : told_at path file.schema = subst (λ (at : List ℕ). told_at at file.schema) path_is (subst (λ (x : FileDesc). told_at c.as_str-in-Ok-end.result.now x.schema) c.file.view_is c.tell_end-told.ensures.so) in
    let told = told_or_output path file.schema end calls before behind c.tell_end-told.result outcome c.told_if_kept.ensures.told told_first in
    let failed = told_fault path file.schema (Ok end) calls before behind outcome told in record {
      came = inr (
        reads.calls,
        c.exchange_record.ensures.other ∙ ap (λ state. state.calls) reads.noted,
        record {
          deck = c.in-Ok.deck;
          is_deck = c.in-Ok.ensures.deck;
          file = file;
          named = named;
          form = c.in-Ok-form_of.form;
          is_form = c.in-Ok-form_of.ensures.form;
          text = c.in-Ok-read_encoded.text.list.items;
          is_text = reads.so;
          end = Ok end;
          left = system;
          loads = loads;
          calls = calls;
          behind_load = c.tell_end-told.ensures.noted;
          told = told;
        },
      );
      untouched = untouched_unless (c.tell_end-told.new.out ≡ c.args.out.now) outcome failed;
      fault = deck_fault outcome failed;
    }

-- nothing was loaded
pub returns : goal.returns
returns g c =
    let fault = c.in-Err-end.fault in
    let file = c.in-Some.file.now in
    let before = g.W.Write.contents c.args.out.now in
    let system = g.S.System.state c.load_over_folder-system.result.0 in
    let reads = c.in-Ok-read_encoded.ensures in
    let named : IsFileOf c.in-Ok.deck.files c.args.asked.file.now file =
    sym (subst (λ (files : List FileDesc). Some file ≡ find (is_named_in_deck c.args.asked.file.now) files) c.as_slice.ensures c.in-Some.ensures) in
    let loads_as : Load → List ℕ → Type 0 = λ load text. LoadsFolder g.D.Disk.unseen (string_bytes c.args.folder) file.file file.schema load (load_source c.in-Ok-form_of.form text c.args.asked.lines) system (Err fault) in
    let loads : loads_as (load_of c.args.asked.into) c.in-Ok-read_encoded.text.list.items =
    subst (loads_as (load_of c.args.asked.into)) c.as_slice-3.ensures.value (subst (λ (load : Load). loads_as load c.as_slice-3.result.now) c.load_of.ensures (subst (λ (r : Result ShelfEnd CommandFault). LoadsFolder g.D.Disk.unseen (string_bytes c.args.folder) file.file file.schema c.load_of.result (load_source c.in-Ok-form_of.form c.as_slice-3.result.now c.args.asked.lines) system r) c.in-Err-end.is c.load_over_folder-system.ensures.loads)) in
    let path = file_path (string_bytes c.args.folder) file.file in
    let told : TellsLoad path file.schema (Err fault) [] before before (Err fault) = (refl, IfErr-at_err IsShelfFault c.in-Err-end.is c.load_over_folder-system.ensures.fault, refl, refl) in
    let failed = told_fault path file.schema (Err fault) [] before before (Err fault) told in record {
      came = inr (
        reads.calls,
        c.exchange_record.ensures.other ∙ ap (λ state. state.calls) reads.noted,
        record {
          deck = c.in-Ok.deck;
          is_deck = c.in-Ok.ensures.deck;
          file = file;
          named = named;
          form = c.in-Ok-form_of.form;
          is_form = c.in-Ok-form_of.ensures.form;
          text = c.in-Ok-read_encoded.text.list.items;
          is_text = reads.so;
          end = Err fault;
          left = system;
          loads = loads;
          calls = [];
          behind_load = refl;
          told = told;
        },
      );
      untouched = λ other. refl;
      fault = deck_fault (Err fault) failed;
    }
