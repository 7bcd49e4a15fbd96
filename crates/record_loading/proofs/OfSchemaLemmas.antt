-- Records are loaded into a file that is there only where that is one of the same schema.
use Rattle.std.proofs.Common.{◌≡◌, Bool, true, false, cond, refl, sym, ◌∙◌, true≢false}
use Rattle.std.specs.Prelude.{IsTrue}
use Rattle.io_state.specs.Status.{is_successful}
use Rattle.record_layout.specs.Schema.{Schema, same_schema}
use Rattle.indexed_file.specs.World.{Named, Absent, Closed, Unsound}
use Rattle.verbs.specs.Connector.{FileState, Outcome}
use Rattle.record_loading.specs.Loading.{Listing, Loads, mode_of}
use Rattle.record_loading.specs.declared.end.Load.{Load}
use Rattle.record_loading.specs.declared.end.Load.TheVariants.{New, Into}
use Rattle.record_loading.specs.declared.end.LoadEnd.{LoadEnd}
use Rattle.record_loading.specs.declared.end.LoadEnd.TheVariants.{NotOpened, Opened}
use Rattle.record_loading.specs.Loaded.{HasSameSchema, file_at_first}

-- what is a success was the first of two, of which the other is none
success_of_first : (first : Bool) (x y : Outcome) → is_successful y.status ≡ false → IsTrue (is_successful (cond first x y).status) → IsTrue first
success_of_first true x y fails is = refl
success_of_first false x y fails is = absurd (true≢false (sym is ∙ fails))

pub of_schema : (schema : Schema) (load : Load) (list : Listing) (named : Named) (end : LoadEnd) (after : FileState) → Loads schema (mode_of load) list (file_at_first named schema) end after
    → HasSameSchema schema load named end
of_schema schema load list named (NotOpened status) after is = tt
of_schema schema New list named (Opened lines closed) after is = tt
of_schema schema Into list (Closed other file) (Opened lines closed) after is = success_of_first (same_schema other schema) _ _ refl is.opened
of_schema schema Into list Unsound (Opened lines closed) after is = absurd (true≢false (sym is.opened))
of_schema schema Into list Absent (Opened lines closed) after is = absurd (true≢false (sym is.opened))
