use Rattle.std.proofs.Common.{refl, subst, inl, inr}
use Rattle.std.proofs.lemmas.Result.{err_from_is_err_and, IfOk-weaker, IfErr-weaker}
use Rattle.deck_parser.specs.Fault.{IsFault}
use Rattle.deck_parser.proofs.CutLemmas.{words_have_no_fault}
use Rattle.deck_reader.specs.Deck.{Spells, IsDeck}
use Rattle.deck_reader.specs.CanBeRun.{CanBeRun}
use Rattle.deck_reader.proofs.deck.read_whole.Goals as goal

pub returns-in_err-words-clause-deck : goal.returns-in_err-words-clause-deck
returns-in_err-words-clause-deck c =
    let p = err_from_is_err_and c.from_residual.result c.from_residual.ensures.1 in
    rw (p.1, p.2) (record {
      given = tt;
      none = λ other deck d. subst IsFault (words_have_no_fault c.args.bytes.now d.0 c.in_err-words.field-0.0 d.1 c.in_err-words.ensures) other;
    })

pub returns-in_err-words-clause-fault : goal.returns-in_err-words-clause-fault
returns-in_err-words-clause-fault c =
    let p = err_from_is_err_and c.from_residual.result c.from_residual.ensures.1 in
    rw (p.1, p.2) (λ other. inl (c.in_err-words.field-0.0, refl, c.in_err-words.ensures))

pub returns-clause-fault : goal.returns-clause-fault
returns-clause-fault c = IfErr-weaker c.read.result _ _ (λ refusal tells other. inr (c.in_ok-words.words, c.in_ok-words.ensures, tells other)) c.read.ensures.fault

pub returns-clause-deck : goal.returns-clause-deck
returns-clause-deck c = record {
  given = IfOk-weaker c.read.result (Spells c.in_ok-words.words) (IsDeck c.args.bytes.now) (λ deck s. (c.in_ok-words.words, c.in_ok-words.ensures, s)) c.read.ensures.deck.given;
  none = IfErr-weaker c.read.result _ _ (λ refusal none other deck d. none other deck
      (subst (λ words. Spells words deck) (c.one_reading.ensures.words c.args.bytes.now d.0 c.in_ok-words.words d.1 c.in_ok-words.ensures) d.2)) c.read.ensures.deck.none;
}

pub returns-clause-runnable : goal.returns-clause-runnable
returns-clause-runnable c = IfOk-weaker c.read.result (Spells c.in_ok-words.words) CanBeRun (λ deck s. c.every_deck_can_be_run.ensures c.in_ok-words.words deck s) c.read.ensures.deck.given
