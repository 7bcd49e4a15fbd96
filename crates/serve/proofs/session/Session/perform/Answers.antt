use Rattle.std.proofs.Common.{rules, arith, sym, ap, ◌∙◌, subst, Option}
use Rattle.serve.specs.Request.{performed_of}
use Rattle.serve.specs.Files.{Files, NumberedFile}
use Rattle.serve.specs.Steps.{PerformsRequest, refusal_by, refusal_of_verb}
use Rattle.serve.proofs.CallLemmas.{place_is, performed_performs, changed_to, files_with_table}
use Rattle.serve.proofs.SessionLemmas.{goes_with, verb_named}
use Rattle.serve.proofs.session.Session.perform.Goals as goal

pub perform-requires : goal.perform-requires
perform-requires g c = record {
  fits = goes_with g.L.Library.shown (record { places = c.self.inside.files.items; opened = c.self.inside.order }) c.self.inside.library c.self.inside.names.items c.self.invariant
      c.from.result c.args.performance.now.file c.index_mut-place.result.now (search rules) (search (rules, arith)) c.index_mut-place.ensures.value;
}

pub invariant_of-self-2 : goal.invariant_of-self-2
invariant_of-self-2 g c =
    verb_named g.L.Library.shown (record { places = c.self.inside.files.items; opened = c.self.inside.order }) c.self.inside.library c.self.inside.names.items c.self.invariant
    (performed_of c.args.performance.now) c.from.result c.perform.new.library c.index_mut-place.result.now c.perform.new.place c.in_ok-answer.answer c.note.new.self
    (search rules) (search (rules, arith)) c.index_mut-place.ensures.value c.in_ok-answer.ensures.performed (search rules)

pub returns : goal.returns
returns g c = record {
  performed = subst (λ (files : Files _). PerformsRequest g.L.Library.shown (performed_of c.args.performance.now) files c.in_ok-answer.answer
      (files_with_table c.perform.new.library (changed_to (record { places = c.self.inside.files.items; opened = c.self.inside.order }) c.from.result c.perform.new.place c.note.new.self)))
      {x = files_with_table c.self.inside.library (record { places = c.self.inside.files.items; opened = c.self.inside.order })} {y = c.args.self.now} (search rules)
      (performed_performs g.L.Library.shown (performed_of c.args.performance.now) (record { places = c.self.inside.files.items; opened = c.self.inside.order })
      c.from.result c.self.inside.library c.perform.new.library c.index_mut-place.result.now c.perform.new.place c.in_ok-answer.answer c.note.new.self
      c.self.invariant.files_are.table (search rules) (search (rules, arith)) c.index_mut-place.ensures.value c.in_ok-answer.ensures.performed (search rules));
  refused = c.in_ok-answer.ensures.refused
      ∙ ap (λ (place : Option NumberedFile). refusal_by place (performed_of c.args.performance.now))
      (sym (place_is (record { places = c.self.inside.files.items; opened = c.self.inside.order }) c.from.result c.args.performance.now.file c.index_mut-place.result.now
      c.self.invariant.files_are.table (search rules) (search (rules, arith)) c.index_mut-place.ensures.value))
      ∙ ap (λ (files : Files _). refusal_of_verb files.table (performed_of c.args.performance.now))
      {x = files_with_table c.self.inside.library (record { places = c.self.inside.files.items; opened = c.self.inside.order })} {y = c.args.self.now} (search rules);
  err = tt;
}
