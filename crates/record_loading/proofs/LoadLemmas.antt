-- A load, from its parts.
use Rattle.std.proofs.Common.{◌≡◌, ◌<◌, ℕ, true, false, List, [], length, refl, sym, ap, ◌∙◌, subst}
use Rattle.std.specs.Prelude.{IsTrue}
use Rattle.io_state.specs.declared.modes.Access.TheVariants.{Dynamic}
use Rattle.io_state.specs.declared.modes.OpenMode.{OpenMode}
use Rattle.io_state.specs.declared.status.Status.{Status}
use Rattle.io_state.specs.declared.statement.FileStatement.TheVariants.{Open, Close}
use Rattle.io_state.specs.Status.{is_successful}
use Rattle.record_layout.specs.Schema.{Schema}
use Rattle.indexed_file.specs.Believed.{Believed}
use Rattle.indexed_file.specs.Moments.{JoinsStretches, EndsNow}
use Rattle.indexed_file.specs.Shown.{Shown}
use Rattle.verbs.specs.Connector.{Outcome, answers}
use Rattle.verbs.specs.Held.{Held, held_at_start, silent}
use Rattle.verbs.specs.Performed.{PerformsWithout, Trusted, in_memory, state_in}
use Rattle.verbs.specs.Verbs.{perform}
use Rattle.record_loading.specs.declared.end.LinesEnd.{LinesEnd}
use Rattle.record_loading.specs.declared.end.LoadEnd.TheVariants.{NotOpened, Opened}
use Rattle.record_loading.specs.Loading.{Listing, LinesLeave}
use Rattle.record_loading.specs.Going.{LoadGoesOn, LeavesLines, LoadsUnit}
use Rattle.record_loading.proofs.WrittenLemmas.{success_step}
use Rattle.record_loading.proofs.GoingLemmas.{goes_performed, goes_both, trusted}

abbrev pub at_start : Schema → Held
at_start schema = held_at_start Dynamic false schema

-- what was opened is a connector at its start
pub opens_at_start : {S : Type 0} (shown : Shown S) (schema copied : Schema) (mode : OpenMode) (start begun : S) (connector opened : Held) (status : Status) → copied ≡ schema → connector ≡ at_start copied
    → PerformsWithout shown 0 (Open mode) connector start status opened begun
    → PerformsWithout shown 0 (Open mode) (at_start schema) start status opened begun
opens_at_start shown schema copied mode start begun connector opened status copy new opens =
    subst (λ (h : Held). PerformsWithout shown 0 (Open mode) h start status opened begun) (new ∙ ap at_start copy) opens

module _ {S : Type 0} (shown : Shown S) (schema : Schema) (mode : OpenMode) (list : Listing) (area : List ℕ) (start begun : S) (opened : Held) (status : Status)
    (opens : PerformsWithout shown 0 (Open mode) (at_start schema) start status opened begun) where
  pub goes_open : LoadGoesOn shown (in_memory (at_start schema) start []) (in_memory opened begun [])
  goes_open = goes_performed shown (Open mode) 0 (in_memory (at_start schema) start []) (silent status) (in_memory opened begun []) (opens 0 [])

  -- OPEN was no success
  pub not_opened : is_successful status ≡ false → list.told ≡ [] → Believed shown 0 start begun (LoadsUnit shown schema mode list area start (NotOpened status) begun)
  not_opened failed untold honest truly = record {
    after = state_in shown 0 (in_memory opened begun area);
    loads = (failed, untold, (opens 0 area).step honest truly tt);
    named = refl;
    real = goes_open.real honest truly tt;
  }

  -- the lines were written, and the file was closed
  module _ (joins : JoinsStretches shown.moments) (ends : EndsNow shown.moments) (some : 0 < length (shown.world start).units) (success : is_successful status ≡ true) (between end : S) (written closed : Held) (lines : LinesEnd) (answer : Status)
      (goes : LoadGoesOn shown (in_memory opened begun []) (in_memory written between []))
      (does : Trusted shown 0 (in_memory opened begun []) (in_memory written between []) (LeavesLines shown list lines (in_memory opened begun area) (in_memory written between [])))
      (closes : PerformsWithout shown 0 (Close false) written between answer closed end) where
    goes_lines : LoadGoesOn shown (in_memory (at_start schema) start []) (in_memory written between [])
    goes_lines = goes_both shown (in_memory (at_start schema) start []) (in_memory opened begun []) (in_memory written between []) some goes_open joins ends goes

    pub goes_all : LoadGoesOn shown (in_memory (at_start schema) start []) (in_memory closed end [])
    goes_all =
        goes_both shown (in_memory (at_start schema) start []) (in_memory written between []) (in_memory closed end []) some goes_lines joins ends
        (goes_performed shown (Close false) 0 (in_memory written between []) (silent answer) (in_memory closed end []) (closes 0 []))

    pub loaded : Believed shown 0 start end (LoadsUnit shown schema mode list area start (Opened lines answer) end)
    loaded honest truly =
        let shut = closes 0 [] in
        let before = shut.keeps.honest honest in
        let should : perform (Open mode) 0 (state_in shown 0 (in_memory (at_start schema) start area)) ≡ answers status (state_in shown 0 (in_memory opened begun area))
        = success_step (Open mode) 0 (state_in shown 0 (in_memory (at_start schema) start area)) status (state_in shown 0 (in_memory opened begun area)) success
        ((opens 0 area).step (goes.keeps.honest before) truly tt) in
        let lines_are = trusted shown (in_memory (at_start schema) start []) (in_memory opened begun []) (in_memory written between []) some goes_open
        (LeavesLines shown list lines (in_memory opened begun area) (in_memory written between [])) goes.keeps does before truly tt in
        record {
          after = state_in shown 0 (in_memory closed end lines_are.0);
          loads = record {
            opened = subst (λ (o : Outcome). IsTrue (is_successful o.status)) (sym should) success;
            written = state_in shown 0 (in_memory written between lines_are.0);
            lines_are = subst (λ (o : Outcome). LinesLeave schema list o.next lines (state_in shown 0 (in_memory written between lines_are.0))) (sym should)
                (subst (λ (s : Schema). LinesLeave s list (state_in shown 0 (in_memory opened begun area)) lines (state_in shown 0 (in_memory written between lines_are.0))) goes_open.schema lines_are.1);
            close = trusted shown (in_memory (at_start schema) start []) (in_memory written between []) (in_memory closed end []) some goes_lines _ shut.keeps
                (closes 0 lines_are.0).step honest truly tt;
          };
          named = refl;
          real = goes_all.real honest truly tt;
        }
