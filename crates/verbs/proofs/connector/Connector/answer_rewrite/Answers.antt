use Rattle.std.proofs.Common.{◌≡◌, sym, ap, ◌∙◌, take, refl, rules}
use Rattle.record_layout.specs.Schema.{prime_of}
use Rattle.verbs.proofs.ChangeLemmas.{none_alike, rewrite_done, rewrite_room, refused, rewrite_misfits, rewrites_another, rewrite_reaches}
use Rattle.verbs.specs.declared.admission.Purpose.TheVariants.{Updating}
use Rattle.verbs.proofs.AdmissionLemmas.{refused_first}
use Rattle.verbs.proofs.connector.Connector.answer_rewrite.Goals as goal

pub returns : goal.returns
returns g c =
    let is_prime : c.value-prime.result.items ≡ prime_of c.self.inside.schema (take c.args.length c.args.area.now) =
    c.value-prime.ensures ∙ ap (λ n. prime_of c.self.inside.schema (take n c.args.area.now)) c.from.ensures in
    let reached = rewrite_reaches c.self.inside c.args.self.now c.in-Ok.field-0 (g.L.Library.shown.world c.args.lib.now) c.args.u c.args.length c.args.area.now
    c.self.view_is c.in-Ok.ensures.opened c.in-Ok.ensures.works c.in-Ok.ensures.suits (sym c.if-unread.ensures)
    c.value-prime.result (sym c.if-not-fit.ensures) is_prime (sym c.if-other.ensures) in
    record {
      fits = search rules;
      schema = search rules;
      only = search rules;
      keeps = search rules;
      early = λ none. absurd (cc);
      refusal = λ refused. let late = c.substitute.ensures.late in absurd (cc);
      known = search rules;
      failed_close = search rules;
      cause = search rules;
      memory = search rules;
      step = λ honest truly standing. rewrite_done c.self.inside c.args.self.now c.substitute.new.self c.in-Ok.field-0 (g.L.Library.shown.world c.args.lib.now) (g.L.Library.shown.world c.substitute.new.lib) c.args.u c.args.length c.args.area.now c.substitute.result
          c.self.view_is c.in-Ok.ensures.opened c.in-Ok.ensures.works
          c.value-prime.result c.in-Ok.ensures.suits (sym c.if-unread.ensures) (sym c.if-not-fit.ensures)
          is_prime (sym c.if-other.ensures)
          (λ session is. rw (← c.from.ensures) ((c.substitute.ensures.updates.change honest truly).step session is c.args.area.now));
      standing = search rules;
      room = λ honest truly standing. rewrite_room c.self.inside c.args.self.now c.substitute.new.self c.in-Ok.field-0 (g.L.Library.shown.world c.args.lib.now) (g.L.Library.shown.world c.substitute.new.lib) c.args.u c.args.length c.args.area.now c.substitute.result
          c.self.view_is c.in-Ok.ensures.opened c.in-Ok.ensures.works
          c.value-prime.result (g.L.Library.shown.room c.args.lib.now c.args.u) c.in-Ok.ensures.suits (sym c.if-unread.ensures) (sym c.if-not-fit.ensures)
          is_prime (sym c.if-other.ensures)
          (λ session. rw (← c.from.ensures) ((c.substitute.ensures.updates.change honest truly).room c.args.area.now session));
      asked = search rules;
      images = search rules;
    }

pub returns-then-not-fit : goal.returns-then-not-fit
returns-then-not-fit g c =
    refused c.self.inside c.args.self.now c.in-Ok.field-0 c.self.inside.position c.requires.fits c.self.view_is c.in-Ok.ensures.opened refl
    (rewrite_misfits c.self.inside c.args.self.now c.in-Ok.field-0 (g.L.Library.shown.world c.args.lib.now) c.args.u c.args.length
    c.args.area.now c.self.view_is c.in-Ok.ensures.opened c.in-Ok.ensures.works c.in-Ok.ensures.suits (sym c.if-unread.ensures) (sym
    c.if-not-fit.ensures)) (search rules) refl refl refl refl refl

pub returns-then-other : goal.returns-then-other
returns-then-other g c =
    refused c.self.inside c.args.self.now c.in-Ok.field-0 c.self.inside.position c.requires.fits c.self.view_is c.in-Ok.ensures.opened refl
    (rewrites_another c.self.inside c.args.self.now c.in-Ok.field-0 (g.L.Library.shown.world c.args.lib.now) c.args.u c.args.length
    c.args.area.now c.self.view_is c.in-Ok.ensures.opened c.in-Ok.ensures.works c.in-Ok.ensures.suits (sym c.if-unread.ensures)
    c.value-prime.result (sym c.if-not-fit.ensures) (c.value-prime.ensures ∙ ap (λ n. prime_of c.self.inside.schema (take n
    c.args.area.now)) c.from.ensures) (sym c.if-other.ensures)) (search rules) refl refl refl refl refl

pub returns-then-unread : goal.returns-then-unread
returns-then-unread g c =
    refused c.self.inside c.args.self.now c.in-Ok.field-0 c.self.inside.position c.requires.fits c.self.view_is c.in-Ok.ensures.opened refl
    (rw (← c.self.view_is, c.in-Ok.ensures.opened, c.in-Ok.ensures.works, c.in-Ok.ensures.suits, none_alike c.self.inside.was_read c.self.inside.last_read, sym c.if-unread.ensures) (refl, refl))
    (search rules) refl refl refl refl refl

pub returns-in-Err : goal.returns-in-Err
returns-in-Err g c =
    refused_first c.self.inside c.args.self.now c.requires.fits c.self.view_is Updating c.in-Err.status
    (λ is. rw (← c.self.view_is, is) (refl, refl, refl, refl, refl))
    (λ mode is fails. rw (← c.self.view_is, is, fails) (refl, refl, refl, refl, refl))
    (λ mode is works suits. rw (← c.self.view_is, is, works, suits) (refl, refl, refl, refl, refl)) c.in-Err.ensures.refused
