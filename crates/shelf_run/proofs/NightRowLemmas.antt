-- What one night may leave of a name, as rows.
use Rattle.std.proofs.Common.{◌≡◌, ℕ, zero, suc, List, [], ◌∷◌, ◌++◌, map, get_or, Option, bytes_eq, inl, inr, refl, sym, ap, subst, ◌∙◌, if◌then◌else◌}
use Rattle.std.specs.Prelude.{slice_index_or}
use Rattle.std.proofs.lemmas.List.{append-nil, append_assoc}
use Rattle.indexed_file.specs.Images.{Trace, untouched}
use Rattle.indexed_file.specs.Moments.{EachImage}
use Rattle.indexed_file.specs.World.{World, FileUnit, Named, Absent, Shut}
use Rattle.indexed_file.proofs.ImageLemmas.{each_weaker, each_then}
use Rattle.page_store.specs.Images.{Leaves}
use Rattle.page_store.specs.ShelfState.{ShelfState}
use Rattle.page_store.proofs.MomentLemmas.{throughout_none}
use Rattle.file_control.specs.Description.{file_names}
use Rattle.deck_reader.specs.declared.statement.Statement.{Statement}
use Rattle.deck_reader.specs.declared.statement.Statement.TheVariants.{Perform, Move, MoveLength, StopRun}
use Rattle.deck_reader.specs.declared.deck.Deck.{Deck}
use Rattle.deck_runner.specs.Line.{Line}
use Rattle.deck_runner.specs.Run.{Run}
use Rattle.deck_runner.specs.Running.{unit_names}
use Rattle.deck_runner.specs.NoFalseFile.{Ledger, first_ledger, AreWithinLedgers, IsOfLedger, during, behind, StandsBy, trace_for, Judged, IsSafeStretch, IsSafeRun, IsSafeBrokenOff}
use Rattle.deck_runner.specs.Steps.{AreStepsOf, AreStepsInPart, IsRunOf, IsRunInPart, until_stop, closes_from}
use Rattle.deck_runner.specs.Stretches.{name_by, trace_by}
use Rattle.deck_runner.proofs.FalseFileLaws.{behind_stretch}
use Rattle.shelf_library.specs.Named.{named_of}
use Rattle.shelf_library.specs.Crashes.{IsSoundImage, MayBeFound, moments_on}
use Rattle.shelf_library.specs.MomentLaws.{found_such, each_read, joins, ends}
use Rattle.shelf_library.specs.State.{LibraryState}
use Rattle.shelf_run.specs.Files.{Represents}
use Rattle.shelf_run.specs.NightRows.{Watched, name_of, trace_at, IsWatchedStep, IsLeftBehind}
use Rattle.shelf_run.specs.NightPoints.{RunGoesThrough}
use Rattle.shelf_run.specs.ShelfRun.{shown_of_state}
use Rattle.shelf_run.proofs.FilesLemmas.{named_is, sound_of, represents_sound}

-- ---- some that all images are among

-- at each moment from the one shelf to the other each image of the name is real, and is such
abbrev pub Covers : (Named → Type 0) → ShelfState → ShelfState → List ℕ → Type 0
Covers = EachImage moments_on

pub cover_then : (P : Named → Type 0) (first middle last : ShelfState) (name : List ℕ) → Covers P first middle name → Covers P middle last name → Covers P first last name
cover_then P = each_then moments_on joins ends P

pub cover_weaker : (P Q : Named → Type 0) (old new : ShelfState) (name : List ℕ) → ((named : Named) → P named → Q named) → Covers P old new name → Covers Q old new name
cover_weaker = each_weaker moments_on

-- what may be found represents something that is such
pub cover_found : (P : Named → Type 0) (old new : ShelfState) (name : List ℕ) → Covers P old new name → (c : Option (List ℕ)) → MayBeFound (old.file name) (new.file name) c
    → (named : Named) × Represents c named × P named
cover_found P old new name a c found =
    (named_of c, represents_sound c (found_such IsSoundImage (old.file name) (new.file name) a.0 c found), a.1 (named_of c) (c, found, refl))

-- where whatever a crash now may leave represents something that is such
pub cover_now : (P : Named → Type 0) (shelf : ShelfState) (name : List ℕ) → ((c : Option (List ℕ)) → Leaves (shelf.file name) c → (named : Named) × Represents c named × P named) → Covers P shelf shelf name
cover_now P shelf name such =
    each_read P (shelf.file name) (shelf.file name)
    (throughout_none _ (shelf.file name) (shelf.file name) refl (λ c leaves.
    let is = such c leaves in
    (sound_of c is.0 is.1, subst P (sym (named_is c is.0 is.1)) is.2)))

-- ---- steps

-- steps, and then more steps
steps_append : {X : Type 0} (IsOne : Statement → X → List Line → X → Type 0) (xs ys : List Statement) (a : X) (l : List Line) (b : X) (m : List Line) (c : X)
    → AreStepsOf IsOne xs a l b → AreStepsOf IsOne ys b m c → AreStepsOf IsOne (xs ++ ys) a (l ++ m) c
steps_append {X} IsOne [] ys a l b m c are more =
    subst (λ (x : X). AreStepsOf IsOne ys x (l ++ m) c) are.1 (subst (λ (k : List Line). AreStepsOf IsOne ys b (k ++ m) c) (sym are.0) more)
steps_append IsOne (x ∷ xs) ys a l b m c are more = (
  are.0,
  are.1,
  are.2 ++ m,
  are.3,
  steps_append IsOne xs ys are.1 are.2 b m c are.4 more,
  ap (λ (k : List Line). k ++ m) are.5 ∙ append_assoc are.0 are.2 m,
)

-- ---- names

unit_name_at : (units : List FileUnit) (u : ℕ) → (slice_index_or units u (record { name = []; named = Absent; holding = Shut })).name ≡ get_or (map (λ (unit : FileUnit). unit.name) units) u []
unit_name_at [] u = refl
unit_name_at (unit ∷ units) zero = refl
unit_name_at (unit ∷ units) (suc u) = unit_name_at units u

same_name : (world : World) (deck : Deck) → unit_names world ≡ file_names deck.files → (statement : Statement) → name_by world statement ≡ name_of deck statement
same_name world deck names (Perform u statement) = unit_name_at world.units u ∙ ap (λ (ns : List (List ℕ)). get_or ns u []) names
same_name world deck names (Move u field source) = refl
same_name world deck names (MoveLength i source) = refl
same_name world deck names StopRun = refl

same_trace : (world : World) (deck : Deck) → unit_names world ≡ file_names deck.files → (statement : Statement) (run : Run) (lines : List Line) (name : List ℕ)
    → trace_for world statement run lines name ≡ trace_at deck name statement run lines
same_trace world deck names statement run lines name =
    ap (λ (n : List ℕ). if bytes_eq n name then trace_by statement run lines else untouched) (same_name world deck names statement)

-- ---- names stand by their ledgers

module _ (start : LibraryState) where
  stand_step : (statement : Statement) (before : Judged LibraryState) (lines : List Line) (after : Judged LibraryState) → IsSafeStretch shown_of_state start statement before lines after
      → AreWithinLedgers shown_of_state start before → AreWithinLedgers shown_of_state start after
  stand_step statement before lines after is now name =
      subst (λ (ledger : Ledger). StandsBy shown_of_state.moments start name ledger after.point.library after.point.library) (sym (is.ledger name))
      (behind_stretch shown_of_state (λ first last. ends first.shelf last.shelf)
      start statement before.point lines after.point is.stretch name (before.ledger name) (now name))

  pub stand_after : (statements : List Statement) (before : Judged LibraryState) (lines : List Line) (after : Judged LibraryState) → AreStepsOf (IsSafeStretch shown_of_state start) statements before lines after
      → AreWithinLedgers shown_of_state start before → AreWithinLedgers shown_of_state start after
  stand_after [] before lines after are now = subst (λ (at : Judged LibraryState). AreWithinLedgers shown_of_state start at) (sym are.1) now
  stand_after (statement ∷ rest) before lines after are now =
      stand_after rest are.1 are.2 after are.4 (stand_step statement before are.0 are.1 are.3 now)

  pub stand_at_point : (statements : List Statement) (before : Judged LibraryState) (seen : List Line) (point : Judged LibraryState) (later : List Line) (after : Judged LibraryState)
      → RunGoesThrough (IsSafeStretch shown_of_state start) (λ judged. closes_from 0 judged.point.run.files) statements before seen point later after
      → AreWithinLedgers shown_of_state start before → AreWithinLedgers shown_of_state start point
  stand_at_point statements before seen point later after (inl go) now = stand_after go.3.0 before seen point go.3.3 now
  stand_at_point statements before seen point later after (inr go) now =
      stand_after go.4.0 go.0 go.2 point go.4.3 (stand_after (until_stop statements) before go.1 go.0 go.3 now)

-- ---- a run, in which one name is watched

-- what the images of the name might be in the step before a point, and the lines before that step and by then
pub record Mark : Type 0 where
  pub in_step : Ledger
  pub begun : List Line
  pub told : List Line

abbrev pub first_mark : Mark
first_mark = record { in_step = first_ledger; begun = []; told = [] }

module _ (start : LibraryState) (deck : Deck) (name : List ℕ) where
  -- the units have the names of the deck's files
  abbrev pub HasNames : Judged LibraryState → Type 0
  HasNames at = unit_names (shown_of_state.world at.point.library) ≡ file_names deck.files

  -- the point as one where the name is watched, with this mark
  abbrev pub watched : Mark → Judged LibraryState → Watched
  watched mark at = record { run = at.point.run; in_step = mark.in_step; ledger = at.ledger name; begun = mark.begun; told = mark.told }

  abbrev pub step_ledger : Statement → Judged LibraryState → List Line → Ledger
  step_ledger statement before lines = during (trace_at deck name statement before.point.run lines) (before.ledger name)

  abbrev pub step_mark : Statement → Judged LibraryState → List Line → Mark → Mark
  step_mark statement before lines mark = record { in_step = step_ledger statement before lines; begun = mark.told; told = mark.told ++ lines }

  one_step : (statement : Statement) (before : Judged LibraryState) (lines : List Line) (after : Judged LibraryState) (mark : Mark) → HasNames before
      → IsSafeStretch shown_of_state start statement before lines after
      → IsWatchedStep deck name statement (watched mark before) lines (watched (step_mark statement before lines mark) after)
  one_step statement before lines after mark names is = record {
    step = is.stretch.step;
    in_step = refl;
    begun = refl;
    told = refl;
    ledger =
        is.ledger name
        ∙ ap (λ (trace : Trace). behind trace (before.ledger name)) (same_trace (shown_of_state.world before.point.library) deck names statement before.point.run lines name);
  }

  pub steps_watched : (statements : List Statement) (before : Judged LibraryState) (lines : List Line) (after : Judged LibraryState) (mark : Mark) → HasNames before
      → AreStepsOf (IsSafeStretch shown_of_state start) statements before lines after
      → (last : Mark) × HasNames after × AreStepsOf (IsWatchedStep deck name) statements (watched mark before) lines (watched last after) × (last.told ≡ mark.told ++ lines)
  steps_watched [] before lines after mark names are = (
    mark,
    subst (λ (at : Judged LibraryState). HasNames at) (sym are.1) names,
    (are.0, ap (λ (at : Judged LibraryState). watched mark at) are.1),
    sym (append-nil mark.told) ∙ ap (λ (l : List Line). mark.told ++ l) (sym are.0),
  )
  steps_watched (statement ∷ rest) before lines after mark names are =
      let between : Judged LibraryState = are.1 in
      let now = step_mark statement before are.0 mark in
      let more = steps_watched rest between are.2 after now (are.3.stretch.names ∙ names) are.4 in (
        more.0,
        more.1,
        (are.0, watched now between, are.2, one_step statement before are.0 between mark names are.3, more.2, are.5),
        more.3 ∙ append_assoc mark.told are.0 are.2 ∙ ap (λ (l : List Line). mark.told ++ l) (sym are.5),
      )

  -- ---- what its images are among

  module _ (may : Named → Type 0) (now : Covers may start.shelf start.shelf name) where
    by_ledger : (ledger : Ledger) (named : Named) → IsOfLedger (moments_on.IsImage start.shelf start.shelf name) ledger named → IsOfLedger may ledger named
    by_ledger ledger named (inl first) = inl (first.0, now.1 named first.1)
    by_ledger ledger named (inr later) = inr later

    -- where a name stands by its ledger
    pub cover_stands : (P : Named → Type 0) (ledger : Ledger) (old new : LibraryState) → ((named : Named) → IsOfLedger may ledger named → P named)
        → StandsBy shown_of_state.moments start name ledger old new → Covers P old.shelf new.shelf name
    cover_stands P ledger old new gives stands =
        cover_weaker (IsOfLedger (moments_on.IsImage start.shelf start.shelf name) ledger) P old.shelf new.shelf name (λ named is. gives named (by_ledger ledger named is)) (stands (λ _. now.0))

    -- what some of these steps may leave, from this point on, with the first of these lines
    abbrev pub LeftInPart : List Statement → Watched → List Line → Named → Type 0
    LeftInPart statements point all named =
        (lines more : List Line) × (all ≡ lines ++ more) × (after : Watched)
        × AreStepsInPart (IsWatchedStep deck name) statements point lines after
        × (since : List Line) × (after.begun ≡ point.told ++ since) × IsOfLedger may after.in_step named

    -- what a crash in the run may leave
    abbrev pub LeftInRun : List Statement → Watched → List Line → Named → Type 0
    LeftInRun statements point all named =
        (lines more : List Line) × (all ≡ lines ++ more) × (after : Watched)
        × IsRunInPart (IsWatchedStep deck name) (λ at. closes_from 0 at.run.files) statements point lines after × IsOfLedger may after.in_step named

    module _ (P : Named → Type 0) (first : ShelfState) where
      cover_steps : (statements : List Statement) (before : Judged LibraryState) (lines : List Line) (after : Judged LibraryState) (mark : Mark) → HasNames before
          → ((named : Named) → LeftInPart statements (watched mark before) lines named → P named)
          → AreStepsOf (IsSafeStretch shown_of_state start) statements before lines after
          → Covers P first before.point.library.shelf name → Covers P first after.point.library.shelf name
      cover_steps [] before lines after mark names gives are so_far =
          subst (λ (at : Judged LibraryState). Covers P first at.point.library.shelf name) (sym are.1) so_far
      cover_steps (statement ∷ rest) before lines after mark names gives are so_far =
          let between : Judged LibraryState = are.1 in
          let ledger = step_ledger statement before are.0 in
          let now_mark = step_mark statement before are.0 mark in
          let point = watched now_mark between in
          let step = one_step statement before are.0 between mark names are.3 in
          let stands : StandsBy shown_of_state.moments start name ledger before.point.library between.point.library =
          subst (λ (trace : Trace). StandsBy shown_of_state.moments start name (during trace (before.ledger name)) before.point.library between.point.library)
          (same_trace (shown_of_state.world before.point.library) deck names statement before.point.run are.0 name) (are.3.stands name) in
          let here : Covers P before.point.library.shelf between.point.library.shelf name =
          cover_stands P ledger before.point.library between.point.library
          (λ named of. gives named (are.0, are.2, are.5, point, (statement ∷ [], rest, refl, (are.0, point, [], step, (refl, refl), sym (append-nil are.0))), [], sym (append-nil mark.told), of)) stands in
          let later : (named : Named) → LeftInPart rest point are.2 named → P named =
          λ named left. gives named (
            are.0 ++ left.0,
            left.1,
            are.5 ∙ ap (λ (l : List Line). are.0 ++ l) left.2 ∙ sym (append_assoc are.0 left.0 left.1),
            left.3,
            (statement ∷ left.4.0, left.4.1, ap (λ (s : List Statement). statement ∷ s) left.4.2, (are.0, point, left.0, step, left.4.3, refl)),
            are.0 ++ left.5,
            left.6 ∙ append_assoc mark.told are.0 left.5,
            left.7,
          ) in
          cover_steps rest between are.2 after now_mark (are.3.stretch.names ∙ names) later are.4
          (cover_then P first before.point.library.shelf between.point.library.shelf name so_far here)

      cover_part : (statements : List Statement) (before : Judged LibraryState) (lines : List Line) (after : Judged LibraryState) (mark : Mark) → HasNames before
          → ((named : Named) → LeftInPart statements (watched mark before) lines named → P named)
          → AreStepsInPart (IsSafeStretch shown_of_state start) statements before lines after
          → Covers P first before.point.library.shelf name → Covers P first after.point.library.shelf name
      cover_part statements before lines after mark names gives part so_far =
          let gives_part : (named : Named) → LeftInPart part.0 (watched mark before) lines named → P named =
          λ named left. gives named (
            left.0,
            left.1,
            left.2,
            left.3,
            (
              left.4.0,
              left.4.1 ++ part.1,
              part.2 ∙ ap (λ (s : List Statement). s ++ part.1) left.4.2 ∙ append_assoc left.4.0 left.4.1 part.1,
              left.4.3,
            ),
            left.5,
            left.6,
            left.7,
          ) in
          cover_steps part.0 before lines after mark names gives_part part.3 so_far

      pub cover_run : (statements : List Statement) (before : Judged LibraryState) (lines : List Line) (after : Judged LibraryState) (mark : Mark) → HasNames before
          → ((named : Named) → LeftInRun statements (watched mark before) lines named → P named)
          → IsSafeRun shown_of_state start statements before lines after
          → Covers P first before.point.library.shelf name → Covers P first after.point.library.shelf name
      cover_run statements before lines after mark names gives is so_far =
          let stopped : Judged LibraryState = is.0 in
          let till = steps_watched (until_stop statements) before is.1 stopped mark names is.3 in
          let at_stop = cover_steps (until_stop statements) before is.1 stopped mark names
          (λ named left. gives named (left.0, left.1 ++ is.2, is.5 ∙ ap (λ (l : List Line). l ++ is.2) left.2 ∙ append_assoc left.0 left.1 is.2, left.3, inl left.4, left.7)) is.3 so_far in
          cover_steps (closes_from 0 stopped.point.run.files) stopped is.2 after till.0 till.1
          (λ named left. gives named (
            is.1 ++ left.0,
            left.1,
            is.5 ∙ ap (λ (l : List Line). is.1 ++ l) left.2 ∙ sym (append_assoc is.1 left.0 left.1),
            left.3,
            inr (watched till.0 stopped, is.1, left.0, till.2, left.4, refl),
            left.7,
          )) is.4 at_stop

      pub cover_broken_off : (statements : List Statement) (before : Judged LibraryState) (lines : List Line) (after : Judged LibraryState) (mark : Mark) → HasNames before
          → ((named : Named) → LeftInRun statements (watched mark before) lines named → P named)
          → IsSafeBrokenOff shown_of_state start statements before lines after
          → Covers P first before.point.library.shelf name → Covers P first after.point.library.shelf name
      cover_broken_off statements before lines after mark names gives (inl part) so_far =
          cover_part (until_stop statements) before lines after mark names (λ named left. gives named (left.0, left.1, left.2, left.3, inl left.4, left.7)) part so_far
      cover_broken_off statements before lines after mark names gives (inr is) so_far =
          let stopped : Judged LibraryState = is.0 in
          let till = steps_watched (until_stop statements) before is.1 stopped mark names is.3 in
          let at_stop = cover_steps (until_stop statements) before is.1 stopped mark names
          (λ named left. gives named (left.0, left.1 ++ is.2, is.5 ∙ ap (λ (l : List Line). l ++ is.2) left.2 ∙ append_assoc left.0 left.1 is.2, left.3, inl left.4, left.7)) is.3 so_far in
          cover_part (closes_from 0 stopped.point.run.files) stopped is.2 after till.0 till.1
          (λ named left. gives named (
            is.1 ++ left.0,
            left.1,
            is.5 ∙ ap (λ (l : List Line). is.1 ++ l) left.2 ∙ sym (append_assoc is.1 left.0 left.1),
            left.3,
            inr (watched till.0 stopped, is.1, left.0, till.2, left.4, refl),
            left.7,
          )) is.4 at_stop

    -- ---- behind a point

    -- what a crash behind these lines may leave
    abbrev pub LeftBehind : List Line → List Statement → Watched → List Line → Named → Type 0
    LeftBehind seen statements from all named =
        (lines more : List Line) × (all ≡ lines ++ more) × (after : Watched)
        × IsRunInPart (IsWatchedStep deck name) (λ at. closes_from 0 at.run.files) statements from lines after × IsLeftBehind seen may after named

    module _
        (P : Named → Type 0) (statements : List Statement) (before : Judged LibraryState) (seen : List Line) (point : Judged LibraryState) (later : List Line) (after : Judged LibraryState)
        (names : HasNames before) (gives : (named : Named) → LeftBehind seen statements (watched first_mark before) (seen ++ later) named → P named)
        (stands : StandsBy shown_of_state.moments start name (point.ledger name) point.point.library point.point.library) where
      -- from the point on, of which what it may be there is said
      from_point : ((named : Named) → IsOfLedger may (point.ledger name) named → P named) → Covers P point.point.library.shelf point.point.library.shelf name
      from_point gives_there = cover_stands P (point.ledger name) point.point.library point.point.library gives_there stands

      before_stop : (stopped : Judged LibraryState) (first others : List Line) (done rest : List Statement) → until_stop statements ≡ done ++ rest
          → AreStepsOf (IsSafeStretch shown_of_state start) done before seen point → AreStepsOf (IsSafeStretch shown_of_state start) rest point first stopped
          → AreStepsOf (IsSafeStretch shown_of_state start) (closes_from 0 stopped.point.run.files) stopped others after → later ≡ first ++ others
          → Covers P point.point.library.shelf after.point.library.shelf name
      before_stop stopped first others done rest split to_point on closes all =
          let here = steps_watched done before seen point first_mark names to_point in
          let there = steps_watched rest point first stopped here.0 here.1 on in
          let begin = from_point (λ named of. gives named (seen, later, refl, watched here.0 point, inl (done, rest, split, here.2), inr ([], here.3 ∙ sym (append-nil seen), of))) in
          let at_stop = cover_steps P point.point.library.shelf rest point first stopped here.0 here.1
          (λ named left. gives named (
            seen ++ left.0,
            left.1 ++ others,
            ap (λ (l : List Line). seen ++ l) (all ∙ ap (λ (l : List Line). l ++ others) left.2 ∙ append_assoc left.0 left.1 others) ∙ sym (append_assoc seen left.0 (left.1 ++ others)),
            left.3,
            inl (
              done ++ left.4.0,
              left.4.1,
              split ∙ ap (λ (s : List Statement). done ++ s) left.4.2 ∙ sym (append_assoc done left.4.0 left.4.1),
              steps_append (IsWatchedStep deck name) done left.4.0 (watched first_mark before) seen (watched here.0 point) left.0 left.3 here.2 left.4.3,
            ),
            inl (left.5, left.6 ∙ ap (λ (l : List Line). l ++ left.5) here.3, left.7),
          )) on begin in
          let till : AreStepsOf (IsWatchedStep deck name) (until_stop statements) (watched first_mark before) (seen ++ first) (watched there.0 stopped) =
          subst (λ (s : List Statement). AreStepsOf (IsWatchedStep deck name) s (watched first_mark before) (seen ++ first) (watched there.0 stopped)) (sym split)
          (steps_append (IsWatchedStep deck name) done rest (watched first_mark before) seen (watched here.0 point) first (watched there.0 stopped) here.2 there.2) in
          let told : there.0.told ≡ seen ++ first = there.3 ∙ ap (λ (l : List Line). l ++ first) here.3 in
          cover_steps P point.point.library.shelf (closes_from 0 stopped.point.run.files) stopped others after there.0 there.1
          (λ named left. gives named (
            (seen ++ first) ++ left.0,
            left.1,
            ap (λ (l : List Line). seen ++ l) (all ∙ ap (λ (l : List Line). first ++ l) left.2)
                ∙ sym (append_assoc seen first (left.0 ++ left.1)) ∙ sym (append_assoc (seen ++ first) left.0 left.1),
            left.3,
            inr (watched there.0 stopped, seen ++ first, left.0, till, left.4, refl),
            inl (first ++ left.5, left.6 ∙ ap (λ (l : List Line). l ++ left.5) told ∙ append_assoc seen first left.5, left.7),
          )) closes at_stop

      among_closes : (stopped : Judged LibraryState) (first others : List Line) (done rest : List Statement)
          → AreStepsOf (IsSafeStretch shown_of_state start) (until_stop statements) before first stopped → closes_from 0 stopped.point.run.files ≡ done ++ rest
          → AreStepsOf (IsSafeStretch shown_of_state start) done stopped others point → AreStepsOf (IsSafeStretch shown_of_state start) rest point later after → seen ≡ first ++ others
          → Covers P point.point.library.shelf after.point.library.shelf name
      among_closes stopped first others done rest to_stop split to_point on all =
          let till = steps_watched (until_stop statements) before first stopped first_mark names to_stop in
          let here = steps_watched done stopped others point till.0 till.1 to_point in
          let told : here.0.told ≡ seen = here.3 ∙ ap (λ (l : List Line). l ++ others) till.3 ∙ sym all in
          let begin = from_point (λ named of. gives named (
            seen,
            later,
            refl,
            watched here.0 point,
            inr (watched till.0 stopped, first, others, till.2, (done, rest, split, here.2), all),
            inr ([], told ∙ sym (append-nil seen), of),
          )) in
          cover_steps P point.point.library.shelf rest point later after here.0 here.1
          (λ named left. gives named (
            seen ++ left.0,
            left.1,
            ap (λ (l : List Line). seen ++ l) left.2 ∙ sym (append_assoc seen left.0 left.1),
            left.3,
            inr (
              watched till.0 stopped,
              first,
              others ++ left.0,
              till.2,
              (
                done ++ left.4.0,
                left.4.1,
                split ∙ ap (λ (s : List Statement). done ++ s) left.4.2 ∙ sym (append_assoc done left.4.0 left.4.1),
                steps_append (IsWatchedStep deck name) done left.4.0 (watched till.0 stopped) others (watched here.0 point) left.0 left.3 here.2 left.4.3,
              ),
              ap (λ (l : List Line). l ++ left.0) all ∙ append_assoc first others left.0,
            ),
            inl (left.5, left.6 ∙ ap (λ (l : List Line). l ++ left.5) told, left.7),
          )) on begin

      pub cover_through : RunGoesThrough (IsSafeStretch shown_of_state start) (λ judged. closes_from 0 judged.point.run.files) statements before seen point later after
          → Covers P point.point.library.shelf after.point.library.shelf name
      cover_through (inl go) = before_stop go.0 go.1 go.2 go.3.0 go.3.1 go.3.2 go.3.3 go.3.4 go.4 go.5
      cover_through (inr go) = among_closes go.0 go.1 go.2 go.4.0 go.4.1 go.3 go.4.2 go.4.3 go.4.4 go.5

  -- ---- the whole of it

  pub run_watched : (statements : List Statement) (before : Judged LibraryState) (lines : List Line) (after : Judged LibraryState) (mark : Mark) → HasNames before
      → IsSafeRun shown_of_state start statements before lines after
      → (last : Mark) × IsRunOf (IsWatchedStep deck name) (λ at. closes_from 0 at.run.files) statements (watched mark before) lines (watched last after)
  run_watched statements before lines after mark names is =
      let till = steps_watched (until_stop statements) before is.1 is.0 mark names is.3 in
      let more = steps_watched (closes_from 0 is.0.point.run.files) is.0 is.2 after till.0 till.1 is.4 in
      (more.0, (watched till.0 is.0, is.1, is.2, till.2, more.2, is.5))

  part_watched : (statements : List Statement) (before : Judged LibraryState) (lines : List Line) (after : Judged LibraryState) (mark : Mark) → HasNames before
      → AreStepsInPart (IsSafeStretch shown_of_state start) statements before lines after
      → (last : Mark) × AreStepsInPart (IsWatchedStep deck name) statements (watched mark before) lines (watched last after)
  part_watched statements before lines after mark names part =
      let are = steps_watched part.0 before lines after mark names part.3 in
      (are.0, (part.0, part.1, part.2, are.2))

  pub broken_off_watched : (statements : List Statement) (before : Judged LibraryState) (lines : List Line) (after : Judged LibraryState) (mark : Mark) → HasNames before
      → IsSafeBrokenOff shown_of_state start statements before lines after
      → (last : Mark) × IsRunInPart (IsWatchedStep deck name) (λ at. closes_from 0 at.run.files) statements (watched mark before) lines (watched last after)
  broken_off_watched statements before lines after mark names (inl part) =
      let are = part_watched (until_stop statements) before lines after mark names part in
      (are.0, inl are.1)
  broken_off_watched statements before lines after mark names (inr is) =
      let till = steps_watched (until_stop statements) before is.1 is.0 mark names is.3 in
      let more = part_watched (closes_from 0 is.0.point.run.files) is.0 is.2 after till.0 till.1 is.4 in
      (more.0, inr (watched till.0 is.0, is.1, is.2, till.2, more.1, is.5))
