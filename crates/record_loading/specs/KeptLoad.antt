-- What a load leaves that keeps the lines that it rejects. All of this is ours.
use Rattle.std.specs.Prelude.{ℕ, List, Result}
use Rattle.page_store.specs.ShelfState.{ShelfState}
use Rattle.record_layout.specs.Schema.{Schema}
use Rattle.record_loading.specs.declared.end.Load.{Load}
use Rattle.record_loading.specs.declared.shelf_end.ShelfEnd.{ShelfEnd}
use Rattle.record_loading.specs.declared.shelf_end.ShelfFault.{ShelfFault}
use Rattle.record_loading.specs.Loading.{AskedLoad}
use Rattle.record_loading.specs.Passing.{LoadSource}
use Rattle.record_loading.specs.Told.{ToldLine}
use Rattle.record_loading.specs.Loaded.{LoadsInto}
use Rattle.record_loading.specs.SortedLoad.{EndsTextLoad}
use Rattle.record_loading.specs.Kept.{Kept, KeepsMore, bytes_of_told}

-- a load ended so, of some lines that were rejected, and the bytes of these lines were to be kept
abbrev pub EndsKeeping : (before after : Kept) → (name : List ℕ) → Schema → Load → LoadSource → (old : ShelfState)
    → ShelfEnd → (new : ShelfState) → Type 0
EndsKeeping before after name schema load source old end new = (told : List ToldLine)
    × KeepsMore before (bytes_of_told told) after
    × EndsTextLoad name schema load source told old end new

-- so of a load into the file of a name, over a shelf that shows this state and is given back, or nothing was changed
abbrev pub LoadsKeeping : {H : Type 0} → (before after : Kept) → AskedLoad → (state : H → ShelfState) → (shelf : H)
    → (H × Result ShelfEnd ShelfFault) → Type 0
LoadsKeeping before after asked state shelf given = LoadsInto asked.name
    (EndsKeeping before after asked.name asked.schema asked.load asked.source)
    (state shelf) (state given.0) given.1
