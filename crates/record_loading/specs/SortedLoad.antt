-- What a load leaves of a text that may be sorted first. All of this is ours.
use Rattle.std.specs.Prelude.{◌≡◌, ℕ, Bool, true, false, List, Result}
use Rattle.page_store.specs.ShelfState.{ShelfState}
use Rattle.record_layout.specs.Schema.{Schema}
use Rattle.record_loading.specs.declared.end.Load.{Load}
use Rattle.record_loading.specs.declared.rejected.RejectedLine.{RejectedLine}
use Rattle.record_loading.specs.declared.shelf_end.ShelfEnd.{ShelfEnd}
use Rattle.record_loading.specs.declared.shelf_end.ShelfFault.{ShelfFault}
use Rattle.record_loading.specs.LineForm.{LineForm}
use Rattle.record_loading.specs.Loaded.{EndsLoad, LoadsInto, TellsLoadEnd}
use Rattle.record_loading.specs.Loading.{AskedLoad}
use Rattle.record_loading.specs.Passing.{LoadSource, lines_form}
use Rattle.record_loading.specs.SortedText.{IsSortedText}
use Rattle.record_loading.specs.Told.{ToldLine}

-- the text of which the lines are loaded is this one, or this one sorted, where that is asked for
abbrev pub IsLoadedText : (sort : Bool) → Schema → LineForm → (text loaded : List ℕ) → Type 0
IsLoadedText false schema form text loaded = loaded ≡ text
IsLoadedText true schema form text loaded = IsSortedText schema form text loaded

-- another text in the same form, of which the same lines are to be loaded
abbrev pub source_with_text : List ℕ → LoadSource → LoadSource
source_with_text text source = record { form = source.form; text = text; options = source.options }

-- a load ended so, of the text that it loaded: the numbers of lines that were told are those of that text
pub record EndsTextLoad (name : List ℕ) (schema : Schema) (load : Load) (source : LoadSource)
    (told : List ToldLine) (old : ShelfState) (end : ShelfEnd) (new : ShelfState) : Type 0 where
  pub text : List ℕ
  pub text_is : IsLoadedText source.options.sort schema (lines_form source) source.text text
  pub ends : EndsLoad name schema load (record { source = source_with_text text source; told = told }) old end new

-- a load into the file of a name, over a shelf that shows this state and is given back: it ended so, and a log was
-- told of the lines that were rejected; or nothing was changed
abbrev pub LoadsTextInto : {R H : Type 0} → (Tells : R → R → RejectedLine → List ℕ → Type 0) → (log log_after : R)
    → AskedLoad → (state : H → ShelfState) → (shelf : H) → (H × Result ShelfEnd ShelfFault) → Type 0
LoadsTextInto Tells log log_after asked state shelf given = LoadsInto asked.name (TellsLoadEnd Tells log log_after
    (λ told. EndsTextLoad asked.name asked.schema asked.load asked.source told))
    (state shelf) (state given.0) given.1
