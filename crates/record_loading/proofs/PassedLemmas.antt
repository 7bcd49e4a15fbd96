-- Lines of a text are passed, one after another.
use Rattle.std.proofs.Common.{◌≡◌, ℕ, suc, ◌+◌, List, [], ◌∷◌, ◌++◌, inl, inr, refl}
use Rattle.std.specs.Prelude.{IsTrue}
use Rattle.record_layout.specs.Schema.{Schema}
use Rattle.verbs.specs.Connector.{FileState}
use Rattle.record_text.specs.Lines.{form_header}
use Rattle.record_loading.specs.declared.rejected.RejectReason.{RejectReason}
use Rattle.record_loading.specs.declared.rejected.RejectReason.TheVariants.{Refused, NoRecord}
use Rattle.record_loading.specs.Passing.{LoadSource, Place, from_to, number_of_line, lines_form, told_line, IsRecordWritten, IsRecordReplaced, IsRejected, IsEnd, lines_end}
use Rattle.record_loading.specs.Loading.{Listing, place_at_first, IsPassedUpTo, LinesLeave}

module _ (schema : Schema) (source : LoadSource) (start : FileState) where
  pub none_passed : (lines : List ℕ) → source.text ≡ form_header source.form ++ lines → IsPassedUpTo schema source start (place_at_first source lines start)
  none_passed lines is = record { lines = lines; text_is = is; count = 0; passed = refl }

  module _ (place after : Place) (so_far : IsPassedUpTo schema source start place) where
    pub one_written : IsRecordWritten schema (lines_form source) (from_to place after) → after.records ≡ place.records + 1 → after.replaced ≡ place.replaced → after.told ≡ place.told → IsPassedUpTo schema source start after
    one_written line records replaced told = record {
      lines = so_far.lines;
      text_is = so_far.text_is;
      count = suc so_far.count;
      passed = (place, so_far.passed, inl (record { line = line; records = records; replaced = replaced; told = told }));
    }

    pub one_replaced : IsTrue source.options.replace → IsRecordReplaced schema (lines_form source) (from_to place after) → after.records ≡ place.records → after.replaced ≡ place.replaced + 1 → after.told ≡ place.told
        → IsPassedUpTo schema source start after
    one_replaced asked line records replaced told = record {
      lines = so_far.lines;
      text_is = so_far.text_is;
      count = suc so_far.count;
      passed = (place, so_far.passed, inr (inl (record { asked = asked; line = line; records = records; replaced = replaced; told = told })));
    }

    pub one_rejected : (reason : RejectReason) (bytes : List ℕ) → IsTrue source.options.keep_going → IsRejected schema (lines_form source) source.options.replace reason (from_to place after) → place.rest ≡ bytes ++ after.rest → after.records ≡ place.records → after.replaced ≡ place.replaced
        → after.told ≡ place.told ++ (told_line (number_of_line source place) reason bytes ∷ []) → IsPassedUpTo schema source start after
    one_rejected reason bytes asked line whole records replaced told = record {
      lines = so_far.lines;
      text_is = so_far.text_is;
      count = suc so_far.count;
      passed = (place, so_far.passed, inr (inr (record { reason = reason; bytes = bytes; whole = whole; asked = asked; line = line; records = records; replaced = replaced; told = told })));
    }

-- the lines end at one that is neither written nor passed over
pub ended_at : (schema : Schema) (list : Listing) (start : FileState) (place : Place) (behind : List ℕ) (after : FileState) (reason : RejectReason)
    → IsPassedUpTo schema list.source start place → place.told ≡ list.told
    → IsEnd schema (lines_form list.source) list.source.options reason (record { text = place.rest; behind = behind; before = place.file; after = after })
    → LinesLeave schema list start (lines_end (number_of_line list.source place) reason) after
ended_at schema list start place behind after (Refused status) so_far told end = record { place = place; passed = so_far; told = told; line_is = refl; behind = behind; end = end }
ended_at schema list start place behind after (NoRecord mistake) so_far told end = inr (record { place = place; passed = so_far; told = told; line_is = refl; behind = behind; end = end })
