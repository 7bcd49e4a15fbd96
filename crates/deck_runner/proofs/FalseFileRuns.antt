-- In the run of a deck each name stands by its ledger.
use Rattle.std.proofs.Common.{◌≡◌, ℕ, List, refl, sym, ap, subst, inl, inr}
use Rattle.indexed_file.specs.Images.{Stays}
use Rattle.indexed_file.specs.Moments.{EndsNow, EachImage}
use Rattle.indexed_file.proofs.ImageLemmas.{each_weaker}
use Rattle.indexed_file.specs.Shown.{Shown}
use Rattle.deck_reader.specs.declared.statement.Statement.{Statement}
use Rattle.deck_reader.specs.declared.deck.Deck.{Deck}
use Rattle.deck_runner.specs.Line.{Line}
use Rattle.deck_runner.specs.Steps.{until_stop, closes_from, AreStepsInPart}
use Rattle.deck_runner.specs.Stretches.{Point, AreStretches, IsRunOver, AreStretchesInPart, IsBrokenOff}
use Rattle.deck_runner.specs.ExactRun.{run_before}
use Rattle.deck_runner.specs.Beginning.{WorldIsLeft, DeckLeads}
use Rattle.deck_runner.specs.NoFalseFile.{first_ledger, IsOfLedger, Judged, IsSafeStretch, AreWithinLedgers, IsSafeRun, IsSafeBrokenOff, DeckRuns, RunsWhole, RunsInPart}
use Rattle.deck_runner.proofs.FalseFileLaws.{no_false_file}

module _
    {S : Type 0} (library : Shown S)
    (ends : EndsNow library.moments)
    (start : S) where
  -- what comes of a run of stretches
  abbrev Safe : (Judged S → List Line → Judged S → Type 0) → Judged S → List Line → Point S → Type 0
  Safe AreSuch before lines next = (after : Judged S) × (after.point ≡ next) × AreSuch before lines after × AreWithinLedgers library start after

  part : (statements : List Statement) (before : Judged S) (lines : List Line) (next : Point S) → AreStretchesInPart library statements before.point lines next → AreWithinLedgers library start before
      → Safe (AreStepsInPart (IsSafeStretch library start) statements) before lines next
  part statements before lines next p now =
      let done = no_false_file library ends start p.0 before lines next p.3 now in
      (done.0, done.1, (p.0, p.1, p.2, done.2), done.3)

  whole : (statements : List Statement) (before : Judged S) (lines : List Line) (next : Point S) → IsRunOver library statements before.point lines next → AreWithinLedgers library start before
      → Safe (IsSafeRun library start statements) before lines next
  whole statements before lines next p now =
      let first = no_false_file library ends start (until_stop statements) before p.1 p.0 p.3 now in
      let closes : AreStretches library (closes_from 0 first.0.point.run.files) first.0.point p.2 next =
      subst (λ (point : Point S). AreStretches library (closes_from 0 point.run.files) point p.2 next) (sym first.1) p.4 in
      let others = no_false_file library ends start (closes_from 0 first.0.point.run.files) first.0 p.2 next closes first.3 in
      (others.0, others.1, (first.0, p.1, p.2, first.2, others.2, p.5), others.3)

  broken : (statements : List Statement) (before : Judged S) (lines : List Line) (next : Point S) → IsBrokenOff library statements before.point lines next → AreWithinLedgers library start before
      → Safe (IsSafeBrokenOff library start statements) before lines next
  broken statements before lines next (inl p) now =
      let done = part (until_stop statements) before lines next p now in
      (done.0, done.1, inl done.2, done.3)
  broken statements before lines next (inr p) now =
      let first = no_false_file library ends start (until_stop statements) before p.1 p.0 p.3 now in
      let closes : AreStretchesInPart library (closes_from 0 first.0.point.run.files) first.0.point p.2 next =
      subst (λ (point : Point S). AreStretchesInPart library (closes_from 0 point.run.files) point p.2 next) (sym first.1) p.4 in
      let others = part (closes_from 0 first.0.point.run.files) first.0 p.2 next closes first.3 in
      (others.0, others.1, inr (first.0, p.1, p.2, first.2, others.2, p.5), others.3)

  -- ---- of a deck

  -- where the images of a name stay, it stands by the first ledger
  pub begun_stands : (begun : S) (name : List ℕ) → Stays library.moments start begun name → library.moments.AreReal start start name
      → EachImage library.moments (IsOfLedger (library.moments.IsImage start start name) first_ledger) begun begun name
  begun_stands begun name stays real =
      let all = stays.within real in
      each_weaker library.moments _ _ begun begun name (λ image is. inl (refl, all.1 image is)) (ends start begun name all.0)

  stands : (new : S) (deck : Deck) (Steps : Point S → List Line → Point S → Type 0) (Stretches : Judged S → List Line → Judged S → Type 0)
      → ((before : Judged S) (lines : List Line) (next : Point S) → Steps before.point lines next → AreWithinLedgers library start before → Safe Stretches before lines next)
      → (lines : List Line) → DeckLeads library start new deck Steps lines → DeckRuns library start new deck Stretches lines
  stands new deck Steps Stretches safe lines p = record {
    stretches = λ honest shown.
        let led = p.steps honest shown in
        let before : Judged S = record { point = record { run = run_before (library.world start) deck; library = led.0 }; ledger = λ name. first_ledger } in
        let now : AreWithinLedgers library start before = λ name was. begun_stands led.0 name (led.2.images name) (was refl) in
        let done = safe before lines (record { run = led.1; library = new }) led.3 now in (
          led.0,
          done.0,
          led.2,
          done.2,
          ap (λ (point : Point S). point.library) done.1,
          done.3,
          subst (λ (point : Point S). WorldIsLeft (library.world new) deck point.run) (sym done.1) led.4,
        );
    lines_are = p.lines_are;
  }

  pub run_stands : (new : S) (deck : Deck) (lines : List Line) → DeckLeads library start new deck (IsRunOver library deck.statements) lines → RunsWhole library start new deck lines
  run_stands new deck lines p = stands new deck (IsRunOver library deck.statements) (IsSafeRun library start deck.statements) (whole deck.statements) lines p

  pub broken_stands : (new : S) (deck : Deck) (lines : List Line) → DeckLeads library start new deck (IsBrokenOff library deck.statements) lines → RunsInPart library start new deck lines
  broken_stands new deck lines p = stands new deck (IsBrokenOff library deck.statements) (IsSafeBrokenOff library start deck.statements) (broken deck.statements) lines p
