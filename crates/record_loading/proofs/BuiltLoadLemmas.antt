-- How a load ends whose file was built.
use Rattle.std.proofs.Common.{◌≡◌, ◌<◌, ℕ, ◌+◌, false, List, [], ◌∷◌, ◌++◌, length, replicate, Option, Some, None, inl, inr, refl, sym, ap, ◌∙◌, subst, arith}
use Rattle.std.specs.Prelude.{IsTrue, ◌⊎◌}
use Rattle.indexed_file.specs.File.{File, empty_file}
use Rattle.indexed_file.specs.World.{Absent, Closed, Unsound}
use Rattle.io_state.specs.declared.statement.FileStatement.TheVariants.{Open, Close}
use Rattle.io_state.specs.declared.modes.OpenMode.TheVariants.{Output}
use Rattle.io_state.specs.declared.status.Status.{Status}
use Rattle.io_state.specs.declared.status.Status.TheVariants.{Successful, PermanentError}
use Rattle.record_layout.specs.Schema.{Schema}
use Rattle.shelf_run.specs.Files.{Represents}
use Rattle.verbs.specs.Connector.{FileState}
use Rattle.verbs.specs.Verbs.{perform}
use Rattle.file_building.specs.Written.{with_all_added, AreAccepted}
use Rattle.record_text.specs.declared.form.Form.{Form}
use Rattle.record_text.specs.declared.mistake.LineMistake.{LineMistake}
use Rattle.record_text.specs.Header.{header_lines}
use Rattle.record_text.specs.Lines.{form_header}
use Rattle.record_loading.specs.declared.end.Load.TheVariants.{New}
use Rattle.record_loading.specs.declared.end.LinesEnd.{LinesEnd}
use Rattle.record_loading.specs.declared.end.LinesEnd.TheVariants.{Loaded, NoRecord}
use Rattle.record_loading.specs.declared.end.LoadEnd.TheVariants.{Opened}
use Rattle.record_loading.specs.declared.options.LoadOptions.{LoadOptions}
use Rattle.record_loading.specs.LineRecords.{BeginsWithRecords, IsWrongLine}
use Rattle.record_loading.specs.Loaded.{LeavesFile}
use Rattle.record_loading.specs.Loading.{Listing, LinesLeave, IsPassedUpTo, load_text, listing_by}
use Rattle.record_loading.specs.Passing.{LoadSource, behind_lines, lines_form}
use Rattle.record_loading.proofs.PassedLemmas.{none_passed}
use Rattle.record_loading.proofs.RisingWriteLemmas.{new_with, place_after, all_written}

-- a new file that was opened
abbrev pub new_file_of : Schema → FileState
new_file_of schema = new_with schema empty_file (replicate schema.greatest 32)

-- where the lines of records end, which a new file accepts
module _ (schema : Schema) (form : Form) (text : List ℕ) (options : LoadOptions) (lines : List ℕ) (text_is : text ≡ form_header form ++ lines) (records : List (List ℕ)) (rest : List ℕ)
    (begins : BeginsWithRecords schema (lines_form (load_text form text options)) (behind_lines options.skip lines) records rest) (accepted : AreAccepted schema records empty_file) where
  abbrev source : LoadSource
  source = load_text form text options

  abbrev list : Listing
  list = listing_by form text options []

  abbrev pub file_then : File
  file_then = with_all_added schema records empty_file

  abbrev pub passed : (area_now : List ℕ) × IsPassedUpTo schema source (new_file_of schema) (place_after rest (0 + length records) (new_with schema file_then area_now))
  passed = all_written schema source (new_file_of schema) records (behind_lines options.skip lines) rest 0 empty_file (replicate schema.greatest 32) begins accepted
      (none_passed schema source (new_file_of schema) lines text_is)

  abbrev pub area_then : List ℕ
  area_then = passed.0

  -- no line is left
  pub all_loaded : (count : ℕ) → count ≡ length records → rest ≡ [] → LinesLeave schema list (new_file_of schema) (Loaded count 0 0) (new_with schema file_then area_then)
  all_loaded count many none = record {
    passed = subst (λ (n : ℕ). IsPassedUpTo schema source (new_file_of schema) (place_after [] n (new_with schema file_then area_then))) (let many = many in omega (arith, many))
        (subst (λ (l : List ℕ). IsPassedUpTo schema source (new_file_of schema) (place_after l (0 + length records) (new_with schema file_then area_then))) none passed.1);
    rejected_is = refl;
  }

  -- the next line is no record's
  pub wrong_ends : (mistake : LineMistake) (count number : ℕ) → count ≡ length records → number ≡ header_lines form + options.skip + count + 1 → options.keep_going ≡ false
      → IsWrongLine schema (lines_form source) rest mistake → LinesLeave schema list (new_file_of schema) (NoRecord number mistake) (new_with schema file_then area_then)
  wrong_ends mistake count number many at ends wrong = inr (record {
    place = place_after rest (0 + length records) (new_with schema file_then area_then);
    passed = passed.1;
    told = refl;
    line_is = omega (arith, many, at);
    behind = [];
    end = record { some = wrong.some; none = wrong.none; wrong = wrong.wrong; ends = ends; file = refl };
  })

-- the file was closed, and represents what it was then
pub leaves_closed : (schema : Schema) (listed : Listing) (lines : LinesEnd) (file : File) (area : List ℕ) (seen : Option (List ℕ))
    → LinesLeave schema listed (new_file_of schema) lines (new_with schema file area) → Represents seen (Closed schema file) → LeavesFile schema New listed Absent (Opened lines Successful) seen
leaves_closed schema listed lines file area seen leave represents = record {
  after = (perform (Close false) 0 (new_with schema file area)).next;
  loads = record { opened = refl; written = new_with schema file area; lines_are = leave; close = inl refl };
  of_schema = tt;
  represents = represents;
}

-- its CLOSE failed, and it represents what it was then, or is refused
pub leaves_unclosed : (schema : Schema) (listed : Listing) (lines : LinesEnd) (file : File) (area : List ℕ) (seen : Option (List ℕ))
    → LinesLeave schema listed (new_file_of schema) lines (new_with schema file area) → Represents seen Unsound ⊎ Represents seen (Closed schema file)
    → LeavesFile schema New listed Absent (Opened lines PermanentError) seen
leaves_unclosed schema listed lines file area seen leave (inr represents) =
    let after = (perform (Close false) 0 (new_with schema file area)).next in
    record {
      after = after;
      loads = record { opened = refl; written = new_with schema file area; lines_are = leave; close = inr (refl, (refl, inl refl)) };
      of_schema = tt;
      represents = represents;
    }
leaves_unclosed schema listed lines file area seen leave (inl represents) =
    let after = (perform (Close false) 0 (new_with schema file area)).next in
    record {
      after = record after { named = Unsound };
      loads = record { opened = refl; written = new_with schema file area; lines_are = leave; close = inr (refl, (refl, inr refl)) };
      of_schema = tt;
      represents = represents;
    }
