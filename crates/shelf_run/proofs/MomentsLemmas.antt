-- What a crash may leave of the deck's files at each moment of a run.
use Rattle.std.proofs.Common.{ℕ, List, [], ◌∷◌, inl, inr, sym, subst}
use Rattle.deck_reader.specs.declared.statement.Statement.{Statement}
use Rattle.deck_runner.specs.Line.{Line}
use Rattle.deck_runner.specs.NoFalseFile.{Judged, IsSafeStretch, IsSafeRun, IsSafeBrokenOff}
use Rattle.deck_runner.specs.Steps.{AreStepsOf, until_stop, closes_from, AreStepsInPart}
use Rattle.shelf_library.specs.MomentLaws.{joins}
use Rattle.shelf_library.specs.State.{LibraryState}
use Rattle.shelf_run.specs.ShelfRun.{shown_of_state}

-- from the start on each image is absent, closed or refused
abbrev pub AreReal : LibraryState → LibraryState → List ℕ → Type 0
AreReal = shown_of_state.moments.AreReal

module _ (start : LibraryState) (name : List ℕ) (real : AreReal start start name) where
  over_steps : (statements : List Statement) (before : Judged LibraryState) (lines : List Line) (after : Judged LibraryState)
      → AreStepsOf (IsSafeStretch shown_of_state start) statements before lines after → AreReal start before.point.library name → AreReal start after.point.library name
  over_steps [] before lines after are begun = subst (λ (j : Judged LibraryState). AreReal start j.point.library name) (sym are.1) begun
  over_steps (statement ∷ rest) before lines after are begun =
      let between : Judged LibraryState = are.1 in
      let here : AreReal before.point.library between.point.library name = (are.3.stands name (λ first. real)).0 in
      over_steps rest between are.2 after are.4 (joins start.shelf before.point.library.shelf between.point.library.shelf name begun here).0

  pub over_run : (statements : List Statement) (before : Judged LibraryState) (lines : List Line) (after : Judged LibraryState)
      → IsSafeRun shown_of_state start statements before lines after → AreReal start before.point.library name → AreReal start after.point.library name
  over_run statements before lines after is begun =
      over_steps (closes_from 0 is.0.point.run.files) is.0 is.2 after is.4 (over_steps (until_stop statements) before is.1 is.0 is.3 begun)

  over_part : (statements : List Statement) (before : Judged LibraryState) (lines : List Line) (after : Judged LibraryState)
      → AreStepsInPart (IsSafeStretch shown_of_state start) statements before lines after → AreReal start before.point.library name → AreReal start after.point.library name
  over_part statements before lines after is begun = over_steps is.0 before lines after is.3 begun

  pub over_broken_off : (statements : List Statement) (before : Judged LibraryState) (lines : List Line) (after : Judged LibraryState)
      → IsSafeBrokenOff shown_of_state start statements before lines after → AreReal start before.point.library name → AreReal start after.point.library name
  over_broken_off statements before lines after (inl part) begun = over_part (until_stop statements) before lines after part begun
  over_broken_off statements before lines after (inr is) begun =
      over_part (closes_from 0 is.0.point.run.files) is.0 is.2 after is.4 (over_steps (until_stop statements) before is.1 is.0 is.3 begun)
