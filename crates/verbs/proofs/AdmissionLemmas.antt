-- A verb that its first checks refuse.
use Rattle.std.proofs.Common.{◌≡◌, ℕ, true, false, List, Option, Some, None, refl, ap, subst, inl, inr, rules}
use Rattle.io_state.specs.declared.modes.OpenMode.{OpenMode}
use Rattle.io_state.specs.declared.status.Status.{Status}
use Rattle.io_state.specs.declared.status.Status.TheVariants.{ConnectorFailed}
use Rattle.io_state.specs.declared.statement.FileStatement.{FileStatement}
use Rattle.io_state.specs.Status.{is_successful}
use Rattle.indexed_file.specs.Images.{untouched}
use Rattle.indexed_file.specs.Shown.{Shown}
use Rattle.indexed_file.proofs.ImageLemmas.{goes_none}
use Rattle.verbs.specs.declared.admission.Purpose.{Purpose}
use Rattle.verbs.specs.declared.admission.Purpose.TheVariants.{Reading, Writing, Updating}
use Rattle.verbs.specs.declared.connector.Connector.TheInside.{Inside}
use Rattle.verbs.specs.Admission.{IsRefusedFirst, is_for, not_open_for}
use Rattle.verbs.specs.Connector.{Session, FileState, Outcome, answers}
use Rattle.verbs.specs.Fields.{held_of}
use Rattle.verbs.specs.Faults.{is_boundary_violation}
use Rattle.verbs.specs.Fits.{Fits, asks, closes_failed, has_failed}
use Rattle.verbs.specs.Held.{Held, state_of}
use Rattle.verbs.specs.Performed.{AnswersFrom, StatusHasCause, is_known_late}
use Rattle.verbs.specs.Traces.{trace_of}
use Rattle.verbs.specs.Verbs.{perform}
use Rattle.verbs.proofs.ChangeLemmas.{asking_at, refused, no_memory, no_room, only_none}
use Rattle.verbs.proofs.PageLemmas.{none_more}

-- a check refuses a statement by a status, and leaves this: the library is asked for nothing, and the
-- statement is none that has more to say of its refusal
abbrev Checked : FileStatement → ℕ → Held → FileState → Status → FileState → Type 0
Checked statement n held before status after = (asks statement n before ≡ false)
    × (perform statement n before ≡ answers status after) × (closes_failed statement held.connector.session ≡ false)
    × (is_known_late statement n held before ≡ false) × (trace_of statement before status ≡ untouched)

no_success : (purpose : Purpose) → (is_successful (not_open_for purpose) ≡ false) × (is_boundary_violation (not_open_for purpose) ≡ false)
no_success Reading = (refl, refl)
no_success Writing = (refl, refl)
no_success Updating = (refl, refl)

mode_cause : (statement : FileStatement) (session : Option Session) (count : ℕ) (purpose : Purpose)
    → StatusHasCause statement session (not_open_for purpose) count count
mode_cause statement session count Reading = search rules
mode_cause statement session count Writing = search rules
mode_cause statement session count Updating = search rules

fault_cause : (statement : FileStatement) (session : Option Session) (count : ℕ) → has_failed session ≡ true
    → StatusHasCause statement session ConnectorFailed count count
fault_cause statement session count fails = search rules

-- the connector of a closed file stays
closed_left : (c : Inside) (held : Held) → held_of c ≡ held → c.mode ≡ None → held ≡ asking_at c c.position
closed_left c held view is = rw (← view, is) refl

module _
    {S : Type 0} {shown : Shown S} {u : ℕ} {statement : FileStatement} {n : ℕ} {library : S} {area : List ℕ}
    (c : Inside) (held : Held) (fits : Fits held (shown.world library) u) (view : held_of c ≡ held) where
  refused_closed : (status : Status) → c.mode ≡ None
      → Checked statement n held (state_of held (shown.world library) u area) status (state_of held (shown.world library) u area)
      → StatusHasCause statement held.connector.session status (shown.fault_count library) (shown.fault_count library)
      → is_successful status ≡ false → is_boundary_violation status ≡ false
      → AnswersFrom shown u statement n held library area status held library
  refused_closed status is checked cause fails full = record {
    fits = fits;
    schema = refl;
    only = only_none (shown.world library) u;
    keeps = search rules;
    early = λ _. (refl, checked.1);
    refusal = λ _. checked.0;
    known = λ late. let no = checked.3 in absurd (cc);
    failed_close = λ closes. let no = checked.2 in absurd (cc);
    cause = cause;
    memory = no_memory statement n (state_of held (shown.world library) u area) shown.may_want_memory status checked.2 (ap (λ (o : Outcome). o.status) checked.1);
    step = λ _ _ _. inl checked.1;
    standing = λ _ _ standing. standing;
    room = λ _ _ _. no_room _ _ status (ap (λ (o : Outcome). o.status) checked.1) fails full;
    asked = λ _ _ _ _ _. none_more (shown.pages_asked library u) _;
    images = λ _ _ _. rw checked.4 (goes_none shown.moments library _);
  }

  -- in a mode, or in none
  refused_in : (purpose : Purpose) (status : Status) (mode : Option OpenMode) → c.mode ≡ mode
      → (c.mode ≡ None → Checked statement n held (state_of held (shown.world library) u area) (not_open_for purpose) (state_of held (shown.world library) u area))
      → ((opened : OpenMode) → c.mode ≡ Some opened → c.failed ≡ true
      → Checked statement n held (state_of held (shown.world library) u area) ConnectorFailed (state_of (asking_at c c.position) (shown.world library) u area))
      → ((opened : OpenMode) → c.mode ≡ Some opened → c.failed ≡ false → is_for purpose c.access opened ≡ false
      → Checked statement n held (state_of held (shown.world library) u area) (not_open_for purpose) (state_of (asking_at c c.position) (shown.world library) u area))
      → IsRefusedFirst purpose c.access mode c.failed status
      → AnswersFrom shown u statement n held library area status (asking_at c c.position) library
  refused_in purpose status None is closed failed unfit told =
      let st = not_open_for purpose in
      let answered : AnswersFrom shown u statement n held library area st held library =
      refused_closed st is (closed is) (mode_cause statement held.connector.session (shown.fault_count library) purpose) (no_success purpose).0 (no_success purpose).1 in
      rw told (subst (λ (h : Held). AnswersFrom shown u statement n held library area st h library) (closed_left c held view is) answered)
  refused_in purpose status (Some opened) is closed failed unfit (inl (fails, told)) =
      let checked = failed opened is fails in
      let session : has_failed held.connector.session ≡ true = rw (← view, is, fails) refl in
      rw told (refused c held opened c.position fits view is refl (checked.0, checked.1)
      (fault_cause statement held.connector.session (shown.fault_count library) session) checked.2 checked.3 refl refl checked.4)
  refused_in purpose status (Some opened) is closed failed unfit (inr (works, suits, told)) =
      let checked = unfit opened is works suits in
      rw told (refused c held opened c.position fits view is refl (checked.0, checked.1)
      (mode_cause statement held.connector.session (shown.fault_count library) purpose) checked.2 checked.3 (no_success purpose).0 (no_success purpose).1 checked.4)

  -- a statement of this purpose, where each of its first checks refuses it so
  pub refused_first : (purpose : Purpose) (status : Status)
      → (c.mode ≡ None → Checked statement n held (state_of held (shown.world library) u area) (not_open_for purpose) (state_of held (shown.world library) u area))
      → ((opened : OpenMode) → c.mode ≡ Some opened → c.failed ≡ true
      → Checked statement n held (state_of held (shown.world library) u area) ConnectorFailed (state_of (asking_at c c.position) (shown.world library) u area))
      → ((opened : OpenMode) → c.mode ≡ Some opened → c.failed ≡ false → is_for purpose c.access opened ≡ false
      → Checked statement n held (state_of held (shown.world library) u area) (not_open_for purpose) (state_of (asking_at c c.position) (shown.world library) u area))
      → IsRefusedFirst purpose c.access c.mode c.failed status
      → AnswersFrom shown u statement n held library area status (asking_at c c.position) library
  refused_first purpose status closed failed unfit told = refused_in purpose status c.mode refl closed failed unfit told
