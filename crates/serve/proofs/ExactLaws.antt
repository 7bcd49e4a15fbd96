-- Requests without a fault are exact, however they came.
use Rattle.std.proofs.Common.{◌≡◌, ℕ, ◌+◌, Bool, true, false, not, List, [], ◌∷◌, ◌++◌, refl, subst, arith, if◌then◌else◌, true≢false}
use Rattle.io_state.specs.declared.status.Status.{Status}
use Rattle.io_state.specs.declared.status.Status.TheVariants.{Successful}
use Rattle.indexed_file.specs.Moments.{JoinsStretches, EndsNow}
use Rattle.indexed_file.specs.Shown.{Shown}
use Rattle.indexed_file.specs.World.{named_in}
use Rattle.serve.specs.Reading.{request_in}
use Rattle.verbs.specs.Faults.{is_unclean}
use Rattle.serve.specs.Files.{Files, files_at_start}
use Rattle.serve.specs.Steps.{close_request}
use Rattle.serve.specs.Answers.{AnswersRequest}
use Rattle.serve.specs.ExactFiles.{ExactFiles, exact_at_start, ServesExactly, EndsExactly}
use Rattle.serve.specs.ExactSession.{files_in_session, AreCleanCloses, AreWithoutFault, ExactInCloses, ExactAfter, ExactInRequests, ExactSession}
use Rattle.serve.specs.Serving.{Exchange, Serving, ClosesAllFiles, is_failed_close, failed_among}
use Rattle.serve.proofs.ExactLemmas.{IsKnown, serves_exact, closes_exact, start_known, start_exact}
use Rattle.serve.proofs.ServingLemmas.{join}
use Rattle.serve.proofs.TruthLemmas.{closes_keep}

module _ {S : Type 0} (shown : Shown S) (joins : JoinsStretches shown.moments) (ends : EndsNow shown.moments) (keeps_open : S → ℕ → Bool) (start : S) where
  -- ---- requests one at a time

  module _ (exchanges : List Exchange) (now : Files S) (none : (shown.world start).units ≡ []) (serving : Serving shown keeps_open (files_at_start start) exchanges now) where
    -- what is known behind them, and what they were
    served : AreWithoutFault shown start exchanges now.library
        → IsKnown shown joins ends start keeps_open now × ServesExactly (files_in_session shown (files_at_start start)) exchanges (files_in_session shown now)
    served without =
        serves_exact shown joins ends start keeps_open exchanges (files_at_start start) now (start_known shown joins ends start keeps_open none) serving without.honest without.truly without.clean

    exactly : AreWithoutFault shown start exchanges now.library → ServesExactly (exact_at_start (named_in (shown.world start))) exchanges (files_in_session shown now)
    exactly without =
        subst (λ (files : ExactFiles). ServesExactly files exchanges (files_in_session shown now)) (start_exact shown joins ends start keeps_open) (served without).1

    before_closes : (statuses : List Status) (end : Files S) → ClosesAllFiles shown now statuses end → AreWithoutFault shown start exchanges end.library → AreWithoutFault shown start exchanges now.library
    before_closes statuses end closing without = record {
      honest = (closes_keep shown statuses now end closing).honest without.honest;
      truly = without.truly;
      clean = without.clean;
    }

    in_closes : ExactInCloses shown start exchanges now
    in_closes statuses end closing without calm =
        closes_exact shown joins ends start keeps_open statuses now end (served (before_closes statuses end closing without)).0 closing without.honest calm

    pub after : ExactAfter shown keeps_open start exchanges now
    after = record { no_unit = none; answered = serving; exact = exactly; closes = in_closes }

    -- and then the open files are closed
    pub to_end : (statuses : List Status) (end : Files S) → ClosesAllFiles shown now statuses end → AreWithoutFault shown start exchanges end.library → AreCleanCloses statuses
        → EndsExactly (named_in (shown.world start)) exchanges statuses (files_in_session shown end)
    to_end statuses end closing without calm = record {
      last = files_in_session shown now;
      serves = exactly (before_closes statuses end closing without);
      closed = in_closes statuses end closing without calm;
    }

  pub behind_next : (exchanges : List Exchange) (e : Exchange) (old new : Files S) → ExactAfter shown keeps_open start exchanges old → AnswersRequest shown keeps_open (request_in e.body) old e.told new
      → ExactAfter shown keeps_open start (exchanges ++ e ∷ []) new
  behind_next exchanges e old new had answers =
      after (exchanges ++ e ∷ []) new had.no_unit (join shown keeps_open exchanges (e ∷ []) (files_at_start start) old new had.answered (new, answers, refl))

-- ---- closes of which none failed

calm_close : (status : Status) → is_failed_close status ≡ false → not (is_unclean (close_request 0).statement status) ≡ true
calm_close Successful none = refl
calm_close _ none = absurd (true≢false none)

not_failed : (failed : Bool) (more : ℕ) → (if failed then 1 else 0) + more ≡ 0 → (failed ≡ false) × (more ≡ 0)
not_failed true more none = absurd (omega (arith, none))
not_failed false more none = (refl, omega (arith, none))

calm : (closes : List Status) → failed_among closes ≡ 0 → AreCleanCloses closes
calm [] none = tt
calm (status ∷ closes) none =
    let both = not_failed (is_failed_close status) (failed_among closes) none in (calm_close status both.0, calm closes both.1)

-- ---- the laws

module _ {S : Type 0} (shown : Shown S) (joins : JoinsStretches shown.moments) (ends : EndsNow shown.moments) (keeps_open : S → ℕ → Bool) where
  pub in_requests : ExactInRequests shown keeps_open
  in_requests = record {
    first = λ start none. after shown joins ends keeps_open start [] (files_at_start start) none refl;
    next = behind_next shown joins ends keeps_open;
    none_failed = calm;
  }

  pub exact_session : ExactSession shown keeps_open
  exact_session start s result session none =
      let exchanges = session.served.exchanges in
      let serving = session.served.serving in (
        after shown joins ends keeps_open start exchanges session.last none serving,
        to_end shown joins ends keeps_open start exchanges session.last none serving session.closes session.end session.closed,
      )
