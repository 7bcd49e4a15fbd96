-- A load that skips no line, and ends at the first that is rejected, tells of none.
use Rattle.std.proofs.Common.{◌≡◌, ℕ, zero, suc, false, List, [], Option, inl, inr, refl, sym, ap, ◌∙◌, subst, true≢false}
use Rattle.record_layout.specs.Schema.{Schema}
use Rattle.indexed_file.specs.World.{Named}
use Rattle.io_state.specs.declared.modes.OpenMode.{OpenMode}
use Rattle.page_store.specs.ShelfState.{ShelfState}
use Rattle.verbs.specs.Connector.{FileState}
use Rattle.record_text.specs.declared.form.Form.{Form}
use Rattle.record_loading.specs.declared.end.Load.{Load}
use Rattle.record_loading.specs.declared.end.Load.TheVariants.{New, Into}
use Rattle.record_loading.specs.declared.end.LinesEnd.{LinesEnd}
use Rattle.record_loading.specs.declared.end.LinesEnd.TheVariants.{Loaded, Refused, NoRecord}
use Rattle.record_loading.specs.declared.end.LoadEnd.{LoadEnd}
use Rattle.record_loading.specs.declared.end.LoadEnd.TheVariants.{NotOpened, Opened}
use Rattle.record_loading.specs.declared.shelf_end.ShelfEnd.{ShelfEnd}
use Rattle.record_loading.specs.declared.shelf_end.ShelfEnd.TheVariants.{IsThere, Loaded as LoadedSo}
use Rattle.record_loading.specs.Passing.{LoadSource, Place, PassesLines}
use Rattle.record_loading.specs.Told.{ToldLine}
use Rattle.record_loading.specs.Loading.{Listing, Loads, LinesLeave, listing, listing_by, usual_options, mode_of}
use Rattle.record_loading.specs.Loaded.{EndsAnyhow, EndsLoad, LeavesFile, file_at_first}

none_told : (schema : Schema) (source : LoadSource) → source.options.keep_going ≡ false → (count : ℕ) (before after : Place) → PassesLines schema source count before after → after.told ≡ before.told
none_told schema source stops zero before after is = ap (λ (place : Place). place.told) is
none_told schema source stops (suc count) before after (between, first, inl line) = line.told ∙ none_told schema source stops count before between first
none_told schema source stops (suc count) before after (between, first, inr (inl line)) = line.told ∙ none_told schema source stops count before between first
none_told schema source stops (suc count) before after (between, first, inr (inr line)) = absurd (true≢false (sym line.asked ∙ stops))

module _ (schema : Schema) (mode : OpenMode) (form : Form) (text : List ℕ) (told : List ToldLine) where
  abbrev list : Listing
  list = listing_by form text usual_options told

  lines_untold : (before : FileState) (lines : LinesEnd) (after : FileState) → LinesLeave schema list before lines after → told ≡ []
  lines_untold before (Loaded records replaced rejected) after is = none_told schema list.source refl is.passed.count _ _ is.passed.passed
  lines_untold before (Refused line status) after is = sym is.told ∙ none_told schema list.source refl is.passed.count _ _ is.passed.passed
  lines_untold before (NoRecord line mistake) after (inl is) = is.told
  lines_untold before (NoRecord line mistake) after (inr is) = sym is.told ∙ none_told schema list.source refl is.passed.count _ _ is.passed.passed

  untold : (before : FileState) (end : LoadEnd) (after : FileState) → Loads schema mode list before end after → told ≡ []
  untold before (NotOpened status) after is = is.1
  untold before (Opened lines closed) after is = lines_untold _ lines is.written is.lines_are

module _ (name : List ℕ) (schema : Schema) (form : Form) (text : List ℕ) (told : List ToldLine) (old new : ShelfState) where
  leaves : (load : Load) (named : Named) (end : LoadEnd) (seen : Option (List ℕ)) → LeavesFile schema load (listing_by form text usual_options told) named end seen → LeavesFile schema load (listing form text) named end seen
  leaves load named end seen is = record {
    after = is.after;
    loads = subst (λ (lines : List ToldLine). Loads schema (mode_of load) (listing_by form text usual_options lines) (file_at_first named schema) end is.after)
        (untold schema (mode_of load) form text told (file_at_first named schema) end is.after is.loads) is.loads;
    of_schema = is.of_schema;
    represents = is.represents;
  }

  anyhow : (load : Load) (end : ShelfEnd) → EndsAnyhow name schema load (listing_by form text usual_options told) old end new → EndsAnyhow name schema load (listing form text) old end new
  anyhow load IsThere is = absurd is
  anyhow load (LoadedSo end) is = λ honest named represents. leaves load named end _ (is honest named represents)

  pub ends_usual : (load : Load) (end : ShelfEnd) → EndsLoad name schema load (listing_by form text usual_options told) old end new → EndsLoad name schema load (listing form text) old end new
  ends_usual New IsThere is = (refl, is.1)
  ends_usual New (LoadedSo end) is = λ honest. let so = is honest in record { absent = so.absent; leaves = leaves New _ end _ so.leaves }
  ends_usual Into end is = anyhow Into end is
