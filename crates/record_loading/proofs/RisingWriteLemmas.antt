-- The WRITEs of records that a new file accepts, one after another, and its CLOSE.
use Rattle.std.proofs.Common.{◌≡◌, ◌≤◌, ℕ, ◌+◌, Bool, true, false, List, [], ◌∷◌, ◌++◌, length, drop, take, Some, None, cond, inl, inr, refl, sym, ap, ◌∙◌, subst, arith}
use Rattle.std.specs.Prelude.{IsTrue}
use Rattle.std.proofs.lemmas.Bool.{le-leb}
use Rattle.std.proofs.Math.Seq.{take-append_seam}
use Rattle.indexed_file.specs.File.{File}
use Rattle.indexed_file.specs.Change.{clashes, repeats, added}
use Rattle.indexed_file.specs.Sound.{is_length}
use Rattle.indexed_file.specs.World.{Unsound}
use Rattle.io_state.specs.Status.{is_successful}
use Rattle.io_state.specs.declared.modes.Access.TheVariants.{Dynamic}
use Rattle.io_state.specs.declared.modes.OpenMode.TheVariants.{Output}
use Rattle.io_state.specs.declared.position.Position.TheVariants.{From}
use Rattle.io_state.specs.declared.status.Status.TheVariants.{Successful, Duplicate}
use Rattle.record_layout.specs.Schema.{Schema}
use Rattle.verbs.specs.Connector.{Session, FileState, closed_connector}
use Rattle.verbs.specs.Fits.{IsRecordOf}
use Rattle.verbs.specs.Writing.{written_record}
use Rattle.file_building.specs.Written.{with_all_added, AreAccepted}
use Rattle.record_text.specs.Lines.{form_header}
use Rattle.record_loading.specs.LineRecords.{BeginsWithRecords}
use Rattle.record_loading.specs.Passing.{LoadSource, Place, write_of, with_record, lines_form}
use Rattle.record_loading.specs.Loading.{IsPassedUpTo, place_at_first}
use Rattle.record_loading.proofs.PassedLemmas.{none_passed, one_written}

-- a file that OPEN OUTPUT made in dynamic access, that has these rows now
abbrev pub session_of_new : Session
session_of_new = record { mode = Output; position = From (record { items = [] }); key = 0; missing = false; failed = false; last_read = None }

abbrev pub new_with : Schema → File → (area : List ℕ) → FileState
new_with schema file area = record {
  connector = record (closed_connector Dynamic false schema) { session = Some session_of_new };
  named = Unsound;
  file = Some file;
  area = area;
}

is_length_of : (schema : Schema) (bytes : List ℕ) → IsRecordOf schema bytes → is_length schema (length bytes) ≡ true
is_length_of schema bytes is =
    let low = le-leb schema.least (length bytes) is.least in
    let high = le-leb (length bytes) schema.greatest is.greatest in
    rw (low, high) refl

success_either : (again : Bool) → IsTrue (is_successful (cond again Duplicate Successful))
success_either true = refl
success_either false = refl

module _ (schema : Schema) (file : File) (area bytes : List ℕ) (fits : IsRecordOf schema bytes) (accepted : clashes schema bytes file.rows ≡ false) where
  -- the record area after it
  abbrev pub area_after : List ℕ
  area_after = bytes ++ drop (length bytes) area

  written_is : write_of bytes (new_with schema file area) ≡ written_record bytes (new_with schema file area_after) session_of_new
  written_is = rw (is_length_of schema bytes fits, take-append_seam bytes (drop (length bytes) area)) refl

  -- its WRITE is a success
  pub write_succeeds : IsTrue (is_successful (write_of bytes (new_with schema file area)).status)
  write_succeeds = rw (written_is, accepted) (success_either (repeats schema bytes file.rows))

  -- and adds it
  pub write_adds : (write_of bytes (new_with schema file area)).next ≡ new_with schema (added schema bytes file) area_after
  write_adds = rw (written_is, accepted) refl

-- so many records were written, and no line was passed over
abbrev pub place_after : (rest : List ℕ) → (records : ℕ) → FileState → Place
place_after rest records file = record { rest = rest; records = records; replaced = 0; told = []; file = file }

module _ (schema : Schema) (source : LoadSource) (start : FileState) where
  -- the lines of records that the file accepts were passed
  pub all_written : (records : List (List ℕ)) (text rest : List ℕ) (count : ℕ) (file : File) (area : List ℕ)
      → BeginsWithRecords schema (lines_form source) text records rest → AreAccepted schema records file
      → IsPassedUpTo schema source start (place_after text count (new_with schema file area))
      → (area_now : List ℕ) × IsPassedUpTo schema source start (place_after rest (count + length records) (new_with schema (with_all_added schema records file) area_now))
  all_written [] text rest count file area begins accepted so_far = (
    area,
    subst (λ (l : List ℕ). IsPassedUpTo schema source start (place_after l (count + 0) (new_with schema file area))) (sym begins)
        (subst (λ (n : ℕ). IsPassedUpTo schema source start (place_after text n (new_with schema file area))) (omega arith) so_far),
  )
  all_written (bytes ∷ records) text rest count file area (after, begins, can_be, more) (first, others) so_far =
      let area_now = bytes ++ drop (length bytes) area in
      let now = new_with schema (added schema bytes file) area_now in
      let one = one_written schema source start (place_after text count (new_with schema file area)) (place_after after (count + 1) now) so_far
      (record {
        bytes = bytes;
        begins = begins;
        can_be = can_be;
        success = write_succeeds schema file area bytes can_be.length_is first;
        file = sym (write_adds schema file area bytes can_be.length_is first);
      }) refl refl refl in
      let all = all_written records after rest (count + 1) (added schema bytes file) area_now more others one in
      let many : count + 1 + length records ≡ count + length (bytes ∷ records) = omega arith in
      (all.0, subst (λ (n : ℕ). IsPassedUpTo schema source start (place_after rest n (new_with schema (with_all_added schema records (added schema bytes file)) all.0))) many all.1)
