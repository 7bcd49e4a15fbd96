use Rattle.std.proofs.Common.{◌∙◌, refl, rules}
use Rattle.io_state.specs.declared.position.Position.TheVariants.{Invalid}
use Rattle.verbs.proofs.ChangeLemmas.{has_lost, refused}
use Rattle.verbs.specs.declared.admission.Purpose.TheVariants.{Reading}
use Rattle.verbs.proofs.AdmissionLemmas.{refused_first}
use Rattle.verbs.proofs.connector.Connector.answer_start.Goals as goal

pub returns-then-self : goal.returns-then-self
returns-then-self g c n =
    rw c.lose.ensures.status (refused c.self.inside c.args.self.now c.in-Ok.field-0 Invalid
    c.requires.fits c.self.view_is c.in-Ok.ensures.opened (c.lose.ensures.held ∙ has_lost c.self.inside c.in-Ok.field-0 c.in-Ok.ensures.opened)
    (rw (← c.self.view_is, c.in-Ok.ensures.opened, c.in-Ok.ensures.works, c.in-Ok.ensures.suits, c.if-self.true) (refl, refl))
    (search rules) refl refl refl refl refl)

pub returns-in-Err : goal.returns-in-Err
returns-in-Err g c n =
    refused_first c.self.inside c.args.self.now c.requires.fits c.self.view_is Reading c.in-Err.status
    (λ is. rw (← c.self.view_is, is) (refl, refl, refl, refl, refl))
    (λ mode is fails. rw (← c.self.view_is, is, fails) (refl, refl, refl, refl, refl))
    (λ mode is works suits. rw (← c.self.view_is, is, works, suits) (refl, refl, refl, refl, refl)) c.in-Err.ensures.refused
