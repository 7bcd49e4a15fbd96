use Rattle.std.proofs.Common.{rules, sym, refl}
use Rattle.verbs.proofs.ChangeLemmas.{none_alike, delete_done, refused}
use Rattle.verbs.specs.declared.admission.Purpose.TheVariants.{Updating}
use Rattle.verbs.proofs.AdmissionLemmas.{refused_first}
use Rattle.verbs.proofs.connector.Connector.answer_delete.Goals as goal

pub returns : goal.returns
returns g c n = record {
  fits = search rules;
  schema = search rules;
  only = search rules;
  keeps = search rules;
  early = search rules;
  refusal = search rules;
  known = search rules;
  failed_close = search rules;
  cause = search rules;
  memory = search rules;
  step = λ honest truly standing.
      delete_done c.self.inside c.args.self.now c.take_out.new.self c.in-Ok.field-0 (g.L.Library.shown.world c.args.lib.now) (g.L.Library.shown.world c.take_out.new.lib) c.args.u n c.args.area.now c.take_out.result
      c.self.view_is c.in-Ok.ensures.opened c.in-Ok.ensures.works
      c.prime_to_delete-prime.result c.in-Ok.ensures.suits (sym c.if-unread.ensures) c.prime_to_delete-prime.ensures
      (λ session is. (c.take_out.ensures.updates.change honest truly).step session is c.args.area.now);
  standing = search rules;
  room = search rules;
  asked = search rules;
  images = search rules;
}

pub returns-then-unread : goal.returns-then-unread
returns-then-unread g c n =
    refused c.self.inside c.args.self.now c.in-Ok.field-0 c.self.inside.position c.requires.fits c.self.view_is c.in-Ok.ensures.opened refl
    (rw (← c.self.view_is, c.in-Ok.ensures.opened, c.in-Ok.ensures.works, c.in-Ok.ensures.suits, none_alike c.self.inside.was_read c.self.inside.last_read, sym c.if-unread.ensures) (refl, refl))
    (search rules) refl refl refl refl refl

pub returns-in-Err : goal.returns-in-Err
returns-in-Err g c n =
    refused_first c.self.inside c.args.self.now c.requires.fits c.self.view_is Updating c.in-Err.status
    (λ is. rw (← c.self.view_is, is) (refl, refl, refl, refl, refl))
    (λ mode is fails. rw (← c.self.view_is, is, fails) (refl, refl, refl, refl, refl))
    (λ mode is works suits. rw (← c.self.view_is, is, works, suits) (refl, refl, refl, refl, refl)) c.in-Err.ensures.refused
