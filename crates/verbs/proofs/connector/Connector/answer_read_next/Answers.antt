use Rattle.std.proofs.Common.{sym, ap, ◌∙◌, refl, Ok, rules}
use Rattle.indexed_file.specs.Rank.{admits}
use Rattle.verbs.specs.Held.{silent}
use Rattle.verbs.proofs.ReadLemmas.{at_end, next_record, standing_after_read}
use Rattle.io_state.specs.declared.position.Position.TheVariants.{Invalid}
use Rattle.verbs.proofs.ChangeLemmas.{had_none, has_lost, refused}
use Rattle.verbs.specs.declared.admission.Purpose.TheVariants.{Reading}
use Rattle.verbs.proofs.AdmissionLemmas.{refused_first}
use Rattle.verbs.proofs.connector.Connector.answer_read_next.Goals as goal

pub returns-in-Ok-Some : goal.returns-in-Ok-Some
returns-in-Ok-Some g c n = record {
  fits = search rules;
  schema = search rules;
  only = search rules;
  keeps = search rules;
  early = search rules;
  refusal = search rules;
  known = search rules;
  failed_close = search rules;
  cause = search rules;
  memory = search rules;
  step = λ honest truly standing. next_record c.self.inside c.args.self.now c.deliver.new.self c.in-Ok.field-0 (g.L.Library.shown.world c.args.lib.now) (g.L.Library.shown.world c.next.new.self) c.args.u n c.args.area.now c.next.new.area
      c.in-Ok-Some.found c.deliver.result
      c.requires.fits c.self.view_is c.in-Ok.ensures.opened c.in-Ok.ensures.works c.in-Ok.ensures.suits c.if-self.false (c.next.ensures.reads.world.same honest)
      c.deliver.ensures.answer (sym c.if-lost.ensures)
      (sym c.in-Ok-Some.field-0-is ∙ c.in-Ok-Some.ensures.found honest truly) (c.in-Ok-Some.ensures.area honest truly) c.deliver.ensures.held;
  standing = λ honest truly standing. standing_after_read c.self.inside c.args.self.now c.deliver.new.self c.in-Ok.field-0 (g.L.Library.shown.world c.args.lib.now) (g.L.Library.shown.world c.next.new.self) c.args.u c.self.inside.key c.args.area.now c.next.new.area
      c.in-Ok-Some.found (λ schema. admits schema c.self.inside.key c.self.inside.position)
      c.requires.fits c.self.view_is c.in-Ok.ensures.opened c.if-self.false (c.next.ensures.reads.world.same honest)
      (sym c.in-Ok-Some.field-0-is ∙ c.in-Ok-Some.ensures.found honest truly) (c.in-Ok-Some.ensures.area honest truly) c.deliver.ensures.held standing;
  room = search rules;
  asked = search rules;
  images = search rules;
}

pub returns-in-Ok-None : goal.returns-in-Ok-None
returns-in-Ok-None g c n = record {
  fits = search rules;
  schema = search rules;
  only = search rules;
  keeps = search rules;
  early = search rules;
  refusal = search rules;
  known = search rules;
  failed_close = search rules;
  cause = search rules;
  memory = search rules;
  step = λ honest truly standing. at_end c.self.inside c.args.self.now c.lose-in-Ok-None.new.self c.in-Ok.field-0 (g.L.Library.shown.world c.args.lib.now) (g.L.Library.shown.world c.next.new.self) c.args.u n c.args.area.now c.next.new.area c.silent-in-Ok-None.result
      c.requires.fits c.self.view_is c.in-Ok.ensures.opened c.in-Ok.ensures.works c.in-Ok.ensures.suits c.if-self.false (c.next.ensures.reads.world.same honest)
      (c.silent-in-Ok-None.ensures ∙ ap (λ status. silent status) c.lose-in-Ok-None.ensures.status) (sym c.if-lost.ensures)
      (sym c.in-Ok-None.field-0-is ∙ c.in-Ok-None.ensures.found honest truly) (c.in-Ok-None.ensures.none (ap Ok c.in-Ok-None.field-0-is)) c.lose-in-Ok-None.ensures.held;
  standing = search rules;
  room = search rules;
  asked = search rules;
  images = search rules;
}

pub returns-then-lost : goal.returns-then-lost
returns-then-lost g c n =
    rw c.silent-then-lost.ensures (refused c.self.inside c.args.self.now c.in-Ok.field-0 Invalid
    c.requires.fits c.self.view_is c.in-Ok.ensures.opened (had_none c.self.inside c.self.inside.position refl (sym c.if-lost.ensures))
    (rw (← c.self.view_is, c.in-Ok.ensures.opened, c.in-Ok.ensures.works, c.in-Ok.ensures.suits, sym c.if-lost.ensures) (refl, refl))
    (search rules) refl refl refl refl refl)

pub returns-then-self : goal.returns-then-self
returns-then-self g c n =
    rw (c.silent-then-self.ensures, c.lose.ensures.status) (refused c.self.inside c.args.self.now c.in-Ok.field-0 Invalid
    c.requires.fits c.self.view_is c.in-Ok.ensures.opened (c.lose.ensures.held ∙ has_lost c.self.inside c.in-Ok.field-0 c.in-Ok.ensures.opened)
    (rw (← c.self.view_is, c.in-Ok.ensures.opened, c.in-Ok.ensures.works, c.in-Ok.ensures.suits, sym c.if-lost.ensures, c.if-self.true) (refl, refl))
    (search rules) refl refl refl refl refl)

pub returns-in-Err : goal.returns-in-Err
returns-in-Err g c n =
    rw c.silent.ensures (refused_first c.self.inside c.args.self.now c.requires.fits c.self.view_is Reading c.in-Err.status
    (λ is. rw (← c.self.view_is, is) (refl, refl, refl, refl, refl))
    (λ mode is fails. rw (← c.self.view_is, is, fails) (refl, refl, refl, refl, refl))
    (λ mode is works suits. rw (← c.self.view_is, is, works, suits) (refl, refl, refl, refl, refl)) c.in-Err.ensures.refused)
