-- A run goes through a point behind each front of its lines.
use Rattle.std.proofs.Common.{◌≡◌, ◌⊎◌, ℕ, List, [], ◌∷◌, ◌++◌, slice_get, All, Option, Some, None, inl, inr, refl, sym, ap, subst, ◌∙◌}
use Rattle.std.proofs.lemmas.List.Elements.{All-weaker}
use Rattle.file_control.specs.Description.{file_names}
use Rattle.deck_reader.specs.declared.statement.Statement.{Statement}
use Rattle.deck_reader.specs.declared.statement.Statement.TheVariants.{Perform, Move, MoveLength, StopRun}
use Rattle.io_state.specs.declared.statement.FileStatement.{FileStatement}
use Rattle.deck_reader.specs.declared.deck.Deck.{Deck}
use Rattle.deck_runner.specs.Line.{Line}
use Rattle.deck_runner.specs.NoFalseFile.{Judged, IsSafeStretch, IsSafeRun}
use Rattle.deck_runner.specs.Run.{RunFile, Run}
use Rattle.deck_runner.specs.Steps.{IsStep, IsStepOn, AreStepsOf, until_stop, closes_from}
use Rattle.shelf_library.specs.State.{LibraryState}
use Rattle.shelf_library.specs.Crashes.{IsSoundImage}
use Rattle.shelf_run.specs.Files.{reads_of}
use Rattle.shelf_run.specs.NightPoints.{GoThrough, RunGoesThrough, NightsGoThrough}
use Rattle.shelf_run.specs.ShelfRun.{shown_of_state, over_shelf}
use Rattle.shelf_run.proofs.FilesLemmas.{shown_truly}

-- a step has one line at most
abbrev AtMostOne : List Line → Type 0
AtMostOne lines = (lines ≡ []) ⊎ ((line : Line) × (lines ≡ line ∷ []))

line_on : (statement : FileStatement) (u : ℕ) (file : Option RunFile) (run : Run) (lines : List Line) (next : Run) → IsStepOn statement u file run lines next → AtMostOne lines
line_on statement u None run lines next is = inl is.0
line_on statement u (Some file) run lines next is = inr (_, is.2)

line_of_step : (statement : Statement) (run : Run) (lines : List Line) (next : Run) → IsStep statement run lines next → AtMostOne lines
line_of_step (Perform u statement) run lines next is = line_on statement u (slice_get run.files u) run lines next is
line_of_step (Move u field source) run lines next is = inl is.0
line_of_step (MoveLength i source) run lines next is = inl is.0
line_of_step StopRun run lines next is = inl is.0

-- two ways to part the same lines
part_twice : (a b c d : List Line) → a ++ b ≡ c ++ d → ((x : List Line) × (c ≡ a ++ x) × (b ≡ x ++ d)) ⊎ ((x : List Line) × (a ≡ c ++ x) × (d ≡ x ++ b))
part_twice [] b c d same = inl (c, refl, same)
part_twice (x ∷ a) b [] d same = inr (x ∷ a, refl, sym same)
part_twice (x ∷ a) b (y ∷ c) d same =
    let head : x ≡ y = cc in
    let tail : a ++ b ≡ c ++ d = cc in
    more head (part_twice a b c d tail)
  where
    more : x ≡ y → ((z : List Line) × (c ≡ a ++ z) × (b ≡ z ++ d)) ⊎ ((z : List Line) × (a ≡ c ++ z) × (d ≡ z ++ b))
        → ((z : List Line) × (y ∷ c ≡ (x ∷ a) ++ z) × (b ≡ z ++ d)) ⊎ ((z : List Line) × (x ∷ a ≡ (y ∷ c) ++ z) × (d ≡ z ++ b))
    more head (inl is) = inl (is.0, (λ i. sym head i ∷ is.1 i), is.2)
    more head (inr is) = inr (is.0, (λ i. head i ∷ is.1 i), is.2)

module _ (start : LibraryState) where
  -- some steps, and a point behind these lines of theirs
  abbrev Parted : List Statement → Judged LibraryState → List Line → List Line → Judged LibraryState → Type 0
  Parted statements before seen later after = (point : Judged LibraryState) × GoThrough (IsSafeStretch shown_of_state start) statements before seen point later after

  module _ (statement : Statement) (rest : List Statement) (before : Judged LibraryState) (first : List Line) (between after : Judged LibraryState)
      (step : IsSafeStretch shown_of_state start statement before first between) where
    behind_step : (seen seen_after later : List Line) → seen_after ≡ first ++ seen → Parted rest between seen later after → Parted (statement ∷ rest) before seen_after later after
    behind_step seen seen_after later is parted = (
      parted.0,
      (
        statement ∷ parted.1.0,
        parted.1.1,
        ap (λ (s : List Statement). statement ∷ s) parted.1.2,
        (first, between, seen, step, parted.1.3, is),
        parted.1.4,
      ),
    )

  part_steps : (statements : List Statement) (before : Judged LibraryState) (lines seen later : List Line) (after : Judged LibraryState) → lines ≡ seen ++ later
      → AreStepsOf (IsSafeStretch shown_of_state start) statements before lines after → Parted statements before seen later after
  part_steps statements before lines [] later after is are =
      (before, ([], statements, refl, (refl, refl), subst (λ (l : List Line). AreStepsOf (IsSafeStretch shown_of_state start) statements before l after) is are))
  part_steps [] before lines (line ∷ seen) later after is are = let e : line ∷ (seen ++ later) ≡ [] = sym is ∙ are.0 in absurd (cc)
  part_steps (statement ∷ rest) before lines (line ∷ seen) later after is are =
      by (line_of_step statement before.point.run are.0 are.1.point.run are.3.stretch.step) (λ front e. part_steps rest are.1 are.2 front later after e are.4)
    where
      by : AtMostOne are.0 → ((front : List Line) → are.2 ≡ front ++ later → Parted rest are.1 front later after) → Parted (statement ∷ rest) before (line ∷ seen) later after
      by (inl none) parts =
          behind_step statement rest before are.0 are.1 after are.3 (line ∷ seen) (line ∷ seen) later (ap (λ (l : List Line). l ++ line ∷ seen) (sym none))
          (parts (line ∷ seen) (ap (λ (l : List Line). l ++ are.2) (sym none) ∙ sym are.5 ∙ is))
      by (inr one) parts =
          let all : one.0 ∷ are.2 ≡ line ∷ (seen ++ later) = ap (λ (l : List Line). l ++ are.2) (sym one.1) ∙ sym are.5 ∙ is in
          let same : one.0 ≡ line = cc in
          let others : are.2 ≡ seen ++ later = cc in
          behind_step statement rest before are.0 are.1 after are.3 seen (line ∷ seen) later
          (ap (λ (x : Line). x ∷ seen) (sym same) ∙ ap (λ (l : List Line). l ++ seen) (sym one.1))
          (parts seen others)

  -- of a whole run
  pub part_run : (statements : List Statement) (before : Judged LibraryState) (seen later : List Line) (after : Judged LibraryState)
      → IsSafeRun shown_of_state start statements before (seen ++ later) after
      → (point : Judged LibraryState) × RunGoesThrough (IsSafeStretch shown_of_state start) (λ judged. closes_from 0 judged.point.run.files) statements before seen point later after
  part_run statements before seen later after is = by (part_twice seen later is.1 is.2 is.5)
    where
      by : ((x : List Line) × (is.1 ≡ seen ++ x) × (later ≡ x ++ is.2)) ⊎ ((x : List Line) × (seen ≡ is.1 ++ x) × (is.2 ≡ x ++ later))
          → (point : Judged LibraryState) × RunGoesThrough (IsSafeStretch shown_of_state start) (λ judged. closes_from 0 judged.point.run.files) statements before seen point later after
      by (inl x) =
          let parted = part_steps (until_stop statements) before is.1 seen x.0 is.0 x.1 is.3 in
          (parted.0, inl (is.0, x.0, is.2, parted.1, is.4, x.2))
      by (inr x) =
          let parted = part_steps (closes_from 0 is.0.point.run.files) is.0 is.2 x.0 later after x.2 is.4 in
          (parted.0, inr (is.0, is.1, x.0, is.3, parted.1, x.1))

pub nights_go_through : NightsGoThrough
nights_go_through night seen later has honest none sound =
    let start = over_shelf night.limit night.frames night.old [] night.faults in
    let of = has.1 in
    let deck : Deck = of.0 in
    let runs = of.3.2 in
    let truly : All (shown_of_state.IsShownTruly start) (file_names deck.files) =
    All-weaker (λ name. IsSoundImage (reads_of night.old name)) (shown_of_state.IsShownTruly start) (λ name. shown_truly night.old name none) (file_names deck.files) (sound deck of.1) in
    let is = runs.run.stretches honest truly in
    let through = part_run start deck.statements _ seen later is.1 is.3 in (
      through.0.point.library.shelf,
      (
        has.0,
        (
          deck,
          of.1,
          of.2,
          (
            seen ++ later,
            of.3.0,
            of.3.1,
            record {
              held = runs.held;
              limits = runs.limits;
              run = record {
                stretches = λ honest_too truly_too. (is.0, is.1, is.2, (through.0, later, refl, refl, through.1), is.4, is.5, is.6);
                lines_are = runs.run.lines_are;
              };
              no_false_file = runs.no_false_file;
            },
          ),
        ),
      ),
    )
