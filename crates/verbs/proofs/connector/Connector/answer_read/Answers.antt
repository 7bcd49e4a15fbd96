use Rattle.std.proofs.Common.{sym, ◌∙◌, refl, rules}
use Rattle.indexed_file.specs.Rank.{has_value}
use Rattle.verbs.proofs.ReadLemmas.{equal_record, standing_after_read}
use Rattle.io_state.specs.declared.position.Position.TheVariants.{Invalid}
use Rattle.verbs.proofs.ChangeLemmas.{has_lost, refused}
use Rattle.verbs.specs.declared.admission.Purpose.TheVariants.{Reading}
use Rattle.verbs.proofs.AdmissionLemmas.{refused_first}
use Rattle.verbs.proofs.connector.Connector.answer_read.Goals as goal

pub returns-in-Ok-Some : goal.returns-in-Ok-Some
returns-in-Ok-Some g c n = record {
  fits = search rules;
  schema = search rules;
  only = search rules;
  keeps = search rules;
  early = search rules;
  refusal = search rules;
  known = search rules;
  failed_close = search rules;
  cause = search rules;
  memory = search rules;
  step = λ honest truly standing. equal_record c.self.inside c.args.self.now c.deliver.new.self c.in-Ok.field-0 (g.L.Library.shown.world c.args.lib.now) (g.L.Library.shown.world c.by_key.new.self) c.args.u n c.args.area.now c.by_key.new.area
      c.in-Ok-Some.found c.deliver.result
      c.requires.fits c.self.view_is c.in-Ok.ensures.opened c.in-Ok.ensures.works c.in-Ok.ensures.suits c.if-self.false (c.by_key.ensures.reads.world.same honest)
      c.deliver.ensures.answer c.args.k c.value-wanted.result c.value-wanted.ensures
      (sym c.in-Ok-Some.field-0-is ∙ c.in-Ok-Some.ensures.found honest truly) (c.in-Ok-Some.ensures.area honest truly) c.deliver.ensures.held;
  standing = λ honest truly standing. standing_after_read c.self.inside c.args.self.now c.deliver.new.self c.in-Ok.field-0 (g.L.Library.shown.world c.args.lib.now) (g.L.Library.shown.world c.by_key.new.self) c.args.u c.args.k c.args.area.now c.by_key.new.area
      c.in-Ok-Some.found (λ schema. has_value schema c.args.k c.value-wanted.result.items)
      c.requires.fits c.self.view_is c.in-Ok.ensures.opened c.if-self.false (c.by_key.ensures.reads.world.same honest)
      (sym c.in-Ok-Some.field-0-is ∙ c.in-Ok-Some.ensures.found honest truly) (c.in-Ok-Some.ensures.area honest truly) c.deliver.ensures.held standing;
  room = search rules;
  asked = search rules;
  images = search rules;
}

pub returns-then-self : goal.returns-then-self
returns-then-self g c n =
    rw (c.silent-then-self.ensures, c.lose.ensures.status) (refused c.self.inside c.args.self.now c.in-Ok.field-0 Invalid
    c.requires.fits c.self.view_is c.in-Ok.ensures.opened (c.lose.ensures.held ∙ has_lost c.self.inside c.in-Ok.field-0 c.in-Ok.ensures.opened)
    (rw (← c.self.view_is, c.in-Ok.ensures.opened, c.in-Ok.ensures.works, c.in-Ok.ensures.suits, c.if-self.true) (refl, refl))
    (search rules) refl refl refl refl refl)

pub returns-in-Err : goal.returns-in-Err
returns-in-Err g c n =
    rw c.silent.ensures (refused_first c.self.inside c.args.self.now c.requires.fits c.self.view_is Reading c.in-Err.status
    (λ is. rw (← c.self.view_is, is) (refl, refl, refl, refl, refl))
    (λ mode is fails. rw (← c.self.view_is, is, fails) (refl, refl, refl, refl, refl))
    (λ mode is works suits. rw (← c.self.view_is, is, works, suits) (refl, refl, refl, refl, refl)) c.in-Err.ensures.refused)
