-- A load of the text that was loaded is one of the text that was given.
use Rattle.std.proofs.Common.{◌≡◌, ℕ, Bool, true, false, List, not, refl, sym}
use Rattle.std.specs.Prelude.{Result}
use Rattle.std.proofs.lemmas.Result.{IfOk-weaker}
use Rattle.page_store.specs.ShelfState.{ShelfState}
use Rattle.record_layout.specs.Schema.{Schema}
use Rattle.record_loading.specs.declared.end.Load.{Load}
use Rattle.record_loading.specs.declared.rejected.RejectedLine.{RejectedLine}
use Rattle.record_loading.specs.declared.shelf_end.ShelfEnd.{ShelfEnd}
use Rattle.record_loading.specs.declared.shelf_end.ShelfFault.{ShelfFault}
use Rattle.record_loading.specs.Loaded.{EndsLoad, LoadsInto, TellsLoadEnd}
use Rattle.record_loading.specs.Passing.{LoadSource, lines_form}
use Rattle.record_loading.specs.SortedLoad.{IsLoadedText, EndsTextLoad, source_with_text}

pub is_unasked : (asked : Bool) → not asked ≡ true → asked ≡ false
is_unasked true is = sym is
is_unasked false is = refl

pub is_asked : (asked : Bool) → not asked ≡ false → asked ≡ true
is_asked true is = refl
is_asked false is = sym is

pub loads_text : {R : Type 0} → (Tells : R → R → RejectedLine → List ℕ → Type 0) → (log log_after : R) → (name : List ℕ) (schema : Schema) (load : Load) (source : LoadSource) (text : List ℕ)
    → IsLoadedText source.options.sort schema (lines_form source) source.text text
    → (old new : ShelfState) (result : Result ShelfEnd ShelfFault)
    → LoadsInto name (TellsLoadEnd Tells log log_after (λ told. EndsLoad name schema load (record { source = source_with_text text source; told = told }))) old new result
    → LoadsInto name (TellsLoadEnd Tells log log_after (λ told. EndsTextLoad name schema load source told)) old new result
loads_text Tells log log_after name schema load source text text_is old new result is = record {
  ends = IfOk-weaker result
      (λ end. TellsLoadEnd Tells log log_after (λ told. EndsLoad name schema load (record { source = source_with_text text source; told = told })) old end new)
      (λ end. TellsLoadEnd Tells log log_after (λ told. EndsTextLoad name schema load source told) old end new)
      (λ end so. (so.0, so.1, record { text = text; text_is = text_is; ends = so.2 })) is.ends;
  nothing = is.nothing;
  others = is.others;
  safe = is.safe;
}
