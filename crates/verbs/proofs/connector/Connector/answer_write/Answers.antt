use Rattle.std.proofs.Common.{sym, ap, refl, rules}
use Rattle.verbs.proofs.ChangeLemmas.{write_done, write_room, stands_unread, refused}
use Rattle.std.proofs.lemmas.Bool.{and_parts}
use Rattle.verbs.specs.Held.{silent}
use Rattle.verbs.proofs.PageLemmas.{at_most}
use Rattle.verbs.specs.declared.admission.Purpose.TheVariants.{Writing}
use Rattle.verbs.proofs.AdmissionLemmas.{refused_first}
use Rattle.verbs.proofs.connector.Connector.answer_write.Goals as goal

pub returns : goal.returns
returns g c = record {
  fits = search rules;
  schema = search rules;
  only = search rules;
  keeps = search rules;
  early = search rules;
  refusal = search rules;
  known = λ late.
      let held_late = rw (← c.self.view_is) at late in
      let known = c.put.ensures.known (rw c.from.ensures (and_parts _ _ held_late).1) in
      (known.0, ap silent known.1);
  failed_close = search rules;
  cause = search rules;
  memory = search rules;
  step = λ honest truly standing. write_done c.self.inside c.args.self.now c.put.new.self c.in-Ok.field-0 (g.L.Library.shown.world c.args.lib.now) (g.L.Library.shown.world c.put.new.lib) c.args.u c.args.length c.args.area.now c.put.result
      c.self.view_is c.in-Ok.ensures.opened c.in-Ok.ensures.works c.in-Ok.ensures.suits (sym c.if-not-fit.ensures)
      (λ session is. rw (← c.from.ensures) ((c.put.ensures.change honest truly
      (stands_unread c.self.inside c.args.self.now c.in-Ok.field-0 c.self.inside.position (g.L.Library.shown.world c.args.lib.now) c.args.u c.self.view_is c.in-Ok.ensures.opened standing)).step session is c.args.area.now));
  standing = search rules;
  room = λ honest truly standing. write_room c.self.inside c.args.self.now c.put.new.self c.in-Ok.field-0 (g.L.Library.shown.world c.args.lib.now) (g.L.Library.shown.world c.put.new.lib) c.args.u c.args.length c.args.area.now c.put.result
      c.self.view_is c.in-Ok.ensures.opened c.in-Ok.ensures.works _ c.in-Ok.ensures.suits (sym c.if-not-fit.ensures)
      (λ session. rw (← c.from.ensures) ((c.put.ensures.change honest truly
      (stands_unread c.self.inside c.args.self.now c.in-Ok.field-0 c.self.inside.position (g.L.Library.shown.world c.args.lib.now) c.args.u c.self.view_is c.in-Ok.ensures.opened standing)).room c.args.area.now session));
  asked = λ honest truly standing counts answered.
      at_most (g.L.Library.shown.room c.args.lib.now c.args.u) (g.L.Library.shown.pages_asked c.args.lib.now c.args.u) (g.L.Library.shown.pages_asked c.put.new.lib c.args.u) (c.put.ensures.asked honest truly answered);
  images = search rules;
}

pub returns-then-not-fit : goal.returns-then-not-fit
returns-then-not-fit g c =
    refused c.self.inside c.args.self.now c.in-Ok.field-0 c.self.inside.position c.requires.fits c.self.view_is c.in-Ok.ensures.opened refl
    (rw (← c.self.view_is, c.in-Ok.ensures.opened, c.in-Ok.ensures.works, c.in-Ok.ensures.suits, sym c.if-not-fit.ensures) (refl, refl))
    (search rules) refl (rw (← c.self.view_is, c.in-Ok.ensures.opened, c.in-Ok.ensures.works, c.in-Ok.ensures.suits, sym c.if-not-fit.ensures) refl) refl refl refl

pub returns-in-Err : goal.returns-in-Err
returns-in-Err g c =
    refused_first c.self.inside c.args.self.now c.requires.fits c.self.view_is Writing c.in-Err.status
    (λ is. rw (← c.self.view_is, is) (refl, refl, refl, refl, refl))
    (λ mode is fails. rw (← c.self.view_is, is, fails) (refl, refl, refl, refl, refl))
    (λ mode is works suits. rw (← c.self.view_is, is, works, suits) (refl, refl, refl, refl, refl)) c.in-Err.ensures.refused
