-- What a list after a check tells.
use Rattle.std.proofs.Common.{◌≡◌, ℕ, false, List, [], ◌∷◌, length, take, get_or, Option, Some, None, Result, Ok, Err, IfOk, refl, sym, ap, subst, ◌∙◌, arith}
use Rattle.std.specs.Prelude.{IsTrue, OnOk}
use Rattle.std.specs.Option.{unwrap_or}
use Rattle.std.specs.Result.{is_err}
use Rattle.io_state.specs.declared.fault.Fault.{Fault}
use Rattle.page_store.specs.Calls.{ReadsBytes}
use Rattle.page_store.specs.DeviceFile.{DeviceFile, content, page_of_bytes}
use Rattle.page_store.specs.ShelfCalls.{HasUnitWith}
use Rattle.page_store.specs.ShelfState.{ShelfState, OnlyAnswers, attached_as, unit_file}
use Rattle.file_checker.specs.Sound.{IsSound, IsRight, IsUnsoundAt}
use Rattle.file_checker.specs.UnitChecking.{ChecksUnit}
use Rattle.file_checker.specs.declared.verdict.Verdict.{Verdict}
use Rattle.file_checker.specs.declared.verdict.Verdict.TheVariants.{Sound as FoundSound, Unsound as FoundUnsound}
use Rattle.file_checker.specs.declared.verdict.Reason.{Reason}
use Rattle.pages.specs.declared.fault_place.FaultPlace.{FaultPlace}
use Rattle.record_text.specs.declared.form.Form.{Form}
use Rattle.record_listing.specs.declared.asked.Asked.{Asked}
use Rattle.record_listing.specs.declared.end.ListEnd.{ListEnd}
use Rattle.record_listing.specs.declared.end.ListEnd.TheVariants.{Listed as LinesWritten, NoKey as HasNoKey, Absent, Unsound as Refused, Damaged}
use Rattle.record_listing.specs.declared.end.ListFault.{ListFault}
use Rattle.record_listing.specs.declared.file_list.FileList.{FileList}
use Rattle.record_listing.specs.declared.file_list.FileList.TheVariants.{Unsound as NotListed}
use Rattle.record_listing.specs.FileList.{EndsOfFile, EndsChecked, IsFileOfRows, ListsChecked, ListsSound, ListsTruly, ToldAsChecked}
use Rattle.record_listing.proofs.FileListLemmas.{MeansFor, means}

-- a sound file stands for rows
pub rows_of_sound : (bytes : List ℕ) (records pages : ℕ) → IsSound bytes records pages → IsFileOfRows bytes
rows_of_sound bytes records pages sound =
    (sound.header.schema, sound.file, record { header = sound.header; accepted = sound.accepted; schema_is = refl; stands = sound.stands })

module _ (page bytes : List ℕ) (form : Form) (asked : Asked) (before behind : Option (List ℕ)) (begins : page ≡ page_of_bytes bytes 0) where
  -- how the list is told
  told : (end : Result ListEnd ListFault) (result : Result FileList ListFault) → ToldAsChecked end result → MeansFor form bytes asked before behind end
      → EndsChecked page bytes form asked before behind result
  told (Ok LinesWritten) result is ends = subst (EndsChecked page bytes form asked before behind) (sym is) (begins, ends)
  told (Ok HasNoKey) result is ends = subst (EndsChecked page bytes form asked before behind) (sym is) (begins, ends)
  told (Ok Absent) result is ends = absurd ends
  told (Ok Refused) result is ends = absurd ends
  told (Ok Damaged) result is ends = absurd ends
  told (Err fault) result is ends = subst (EndsChecked page bytes form asked before behind) (sym is) ends

  -- so of the file of a device that has these bytes
  pub checked_list : (device : DeviceFile) → device.seen ≡ Some bytes → IsFileOfRows bytes → (end : Result ListEnd ListFault) (result : Result FileList ListFault) → ToldAsChecked end result
      → EndsOfFile device form asked before behind end → EndsChecked page bytes form asked before behind result
  checked_list device seen rows end result is ends =
      told end result is (means form bytes asked before behind rows.0 rows.1 rows.2 end (ends rows.0 rows.1 (bytes, seen, rows.2)))

-- what is so of the answer of a call that did not fail
pub if_ok : {T E : Type 0} {P : T → Type 0} (r : Result T E) → is_err r ≡ false → IfOk r P → (x : T) × P x
if_ok (Ok x) fine is = (x, is)
if_ok (Err e) fine is = absurd (cc)

pub on_ok : {T E : Type 0} {P : Type 0} (r : Result T E) → is_err r ≡ false → OnOk r P → P
on_ok (Ok x) fine is = is
on_ok (Err e) fine is = absurd (cc)

-- a file of rows is there
pub there_with_rows : (seen : Option (List ℕ)) → IsFileOfRows (unwrap_or seen []) → seen ≡ Some (unwrap_or seen [])
there_with_rows (Some bytes) rows = refl
there_with_rows None rows =
    let accepted = rows.2.accepted in
    let first = accepted.first.bytes in
    absurd (cc)

-- a list of a sound file is not told as one of an unsound file
never_refused : (end : Result ListEnd ListFault) (result : Result FileList ListFault) → ToldAsChecked end result → (reason : Reason) → result ≡ Ok (NotListed reason) → ⊥
never_refused (Ok LinesWritten) result told reason is = absurd (cc)
never_refused (Ok HasNoKey) result told reason is = absurd (cc)
never_refused (Ok Absent) result told reason is = absurd (cc)
never_refused (Ok Refused) result told reason is = absurd (cc)
never_refused (Ok Damaged) result told reason is = absurd (cc)
never_refused (Err fault) result told reason is = absurd (cc)

-- the file of unit 0, which has the empty name
unnamed : (shelf : ShelfState) → shelf.names ≡ [] ∷ [] → unit_file shelf 0 ≡ shelf.file []
unnamed shelf named = ap (λ (names : List (List ℕ)). shelf.file (get_or names 0 [])) named

-- the first page of a file was read
begins_so : (file : DeviceFile) (page : List ℕ) → length page ≡ 4096 → ReadsBytes file 0 page → page ≡ page_of_bytes (content file) 0
begins_so file page long read = read.is ∙ ap (λ (n : ℕ). take n (content file)) long

module _ (old mid now last : ShelfState) (page : List ℕ) (form : Form) (asked : Asked) (before behind : Option (List ℕ)) (end : Result ListEnd ListFault) (result : Result FileList ListFault) where
  -- a list of a sound file, whose first page was read just before
  pub lists_sound : HasUnitWith old 0 (λ file. IsFileOfRows (content file)) → old.names ≡ [] ∷ [] → length page ≡ 4096 → (IsTrue mid.is_honest → ReadsBytes (unit_file old 0) 0 page) → OnlyAnswers old mid
      → now ≡ attached_as [] mid → (IsTrue last.is_honest → IsTrue now.is_honest) → ListsTruly now last form asked before behind end → ToldAsChecked end result
      → ListsSound old last page form asked before behind result
  lists_sound sound named long read only is falls lists told = (record { ends = ends; unlisted = λ reason refused. absurd (never reason refused) }, never)
    where
      never : (reason : Reason) → result ≡ Ok (NotListed reason) → ⊥
      never = never_refused end result told

      ends : IsTrue last.is_honest → EndsChecked page (content (old.file [])) form asked before behind result
      ends honest =
          let between : IsTrue mid.is_honest = subst (λ (shelf : ShelfState). IsTrue shelf.is_honest) is (falls honest) in
          let unit = unnamed old named in
          let rows = subst (λ (file : DeviceFile). IsFileOfRows (content file)) unit (sound.file (only.honest between)) in
          let begins = begins_so (old.file []) page long (subst (λ (file : DeviceFile). ReadsBytes file 0 page) unit (read between)) in
          let same : now.file [] ≡ old.file [] = ap (λ (shelf : ShelfState). shelf.file []) is ∙ ap (λ (files : List ℕ → DeviceFile). files []) only.file in
          checked_list page (content (old.file [])) form asked before behind begins (old.file []) (there_with_rows (old.file []).seen rows) rows end result told
          (subst (λ (file : DeviceFile). EndsOfFile file form asked before behind end) same (lists honest))

-- of the file of a unit of the empty name that was examined
module _ {H : Type 0} (state : H → ShelfState) (count : H → ℕ) (first old new : H) (named : state old ≡ attached_as ([] ∷ []) (state first)) where
  file_of_it : unit_file (state old) 0 ≡ (state first).file []
  file_of_it = ap (λ (shelf : ShelfState). unit_file shelf 0) named

  -- it stands for rows, where a check finds it sound
  pub sound_unit : (result : Result Verdict Fault) (records pages : ℕ) → ChecksUnit state count 0 old new result → result ≡ Ok (FoundSound records pages)
      → HasUnitWith (state new) 0 (λ file. IsFileOfRows (content file))
  sound_unit result records pages examined is = record {
    unit = record { attached = (let names = examined.only.names ∙ ap (λ (shelf : ShelfState). shelf.names) named in let long = ap length names in omega (arith, long)) };
    file = λ honest.
        let right = subst (λ (r : Result Verdict Fault). IfOk r (λ verdict. IsTrue (state new).is_honest → IsRight (content (unit_file (state old) 0)) verdict)) is examined.right in
        let same : unit_file (state old) 0 ≡ unit_file (state new) 0 =
        sym (ap (λ (files : List ℕ → DeviceFile). files (get_or (state new).names 0 [])) examined.only.file ∙ ap (λ (names : List (List ℕ)). (state old).file (get_or names 0 [])) examined.only.names) in
        subst (λ (file : DeviceFile). IsFileOfRows (content file)) same (rows_of_sound (content (unit_file (state old) 0)) records pages (right honest));
  }

  module _ (page : List ℕ) (form : Form) (asked : Asked) (out : Option (List ℕ)) where
    -- it is refused, and nothing is written
    pub refused_unit : (found : Result Verdict Fault) (reason : Reason) (place : FaultPlace) → ChecksUnit state count 0 old new found → found ≡ Ok (FoundUnsound reason place)
        → ListsChecked (state first) (state new) page form asked out out (Ok (NotListed reason))
    refused_unit found reason place examined is = record {
      ends = λ honest.
          let right = subst (λ (r : Result Verdict Fault). IfOk r (λ verdict. IsTrue (state new).is_honest → IsRight (content (unit_file (state old) 0)) verdict)) is examined.right in
          let told = subst (λ (file : DeviceFile). IsUnsoundAt place (content file) reason) file_of_it (right honest) in
          ((place, told), refl);
      unlisted = λ _ _. refl;
    }
