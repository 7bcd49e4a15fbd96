use Rattle.std.proofs.Common.{inl, inr, sym}
use Rattle.std.proofs.lemmas.Result.{err_from_is_err_and}
use Rattle.deck_reader.proofs.DeckLemmas.{no_deck}
use Rattle.deck_reader.proofs.deck.read.Goals as goal

pub returns-in_err-description-clause-deck : goal.returns-in_err-description-clause-deck
returns-in_err-description-clause-deck c =
    let p = err_from_is_err_and c.from_residual.result c.from_residual.ensures.1 in
    rw (p.1, p.2) (record { given = tt; none = λ other deck s. c.in_err-description.ensures.description.none other s.0 s.1 })

pub returns-in_err-description-clause-fault : goal.returns-in_err-description-clause-fault
returns-in_err-description-clause-fault c =
    let p = err_from_is_err_and c.from_residual.result c.from_residual.ensures.1 in
    rw (p.1, p.2) (λ other. inl (c.in_err-description.ensures.fault other))

pub returns-in_err-placed-clause-deck : goal.returns-in_err-placed-clause-deck
returns-in_err-placed-clause-deck c =
    let p = err_from_is_err_and c.from_residual-in_err-placed.result c.from_residual-in_err-placed.ensures.1 in
    rw (p.1, p.2) (record {
      given = tt;
      none = λ other. no_deck c.one_description.ensures c.args.words.now c.in_ok-description.description c.in_ok-description.ensures.description.given
          (λ statements s. c.in_err-placed.ensures.statements.none other statements (rw (c.as_slice.ensures, c.as_slice-2.ensures, c.skip-rest.ensures) s));
    })

pub returns-in_err-placed-clause-fault : goal.returns-in_err-placed-clause-fault
returns-in_err-placed-clause-fault c =
    let p = err_from_is_err_and c.from_residual-in_err-placed.result c.from_residual-in_err-placed.ensures.1 in
    rw (p.1, p.2) (λ other. inr (
      c.in_ok-description.description,
      c.in_ok-description.ensures.description.given,
      rw (sym c.as_slice.ensures, sym c.as_slice-2.ensures, sym c.skip-rest.ensures) (c.in_err-placed.ensures.fault other),
    ))
