use Rattle.std.proofs.Common.{rules, arith, subst, sym, ap, ◌∙◌, Option}
use Rattle.serve.specs.Files.{Files, NumberedFile}
use Rattle.serve.specs.Steps.{Releases, refusal_of_file, refusal_of_release}
use Rattle.serve.proofs.CallLemmas.{place_is, changed_to, files_with_table}
use Rattle.serve.proofs.SessionLemmas.{release_named, release_releases, not_open_unit}
use Rattle.serve.proofs.session.Session.release.Goals as goal

pub let_go-requires : goal.let_go-requires
let_go-requires g c =
    not_open_unit g.L.Library.shown (record { places = c.self.inside.files.items; opened = c.self.inside.order }) c.self.inside.library c.self.inside.names.items c.self.invariant
    c.from.result c.args.number c.index_mut-place.result.now c.in_ok-unit.unit (search rules) (search (rules, arith)) c.index_mut-place.ensures.value c.in_ok-unit.ensures.unit

pub invariant_of-self-2 : goal.invariant_of-self-2
invariant_of-self-2 g c =
    release_named g.L.Library.shown (record { places = c.self.inside.files.items; opened = c.self.inside.order }) c.self.inside.library c.self.inside.names.items c.self.invariant
    c.from.result c.args.number c.let_go.new.self c.index_mut-place.result.now c.clear.new.place c.in_ok-unit.unit
    (search rules) (search (rules, arith)) c.index_mut-place.ensures.value c.in_ok-unit.ensures.unit c.clear.ensures c.let_go.ensures.stays

pub returns : goal.returns
returns g c = record {
  released = subst (λ (files : Files _). Releases g.L.Library.shown g.L.GrowingLibrary.keeps_open c.args.number files
      (files_with_table c.let_go.new.self (changed_to (record { places = c.self.inside.files.items; opened = c.self.inside.order }) c.from.result c.clear.new.place c.self.inside.order)))
      {x = files_with_table c.self.inside.library (record { places = c.self.inside.files.items; opened = c.self.inside.order })} {y = c.args.self.now} (search rules)
      (release_releases g.L.Library.shown (record { places = c.self.inside.files.items; opened = c.self.inside.order }) c.self.inside.library c.self.inside.names.items c.self.invariant g.L.GrowingLibrary.keeps_open
      c.from.result c.args.number c.let_go.new.self c.index_mut-place.result.now c.clear.new.place c.in_ok-unit.unit
      (search rules) (search (rules, arith)) c.index_mut-place.ensures.value c.in_ok-unit.ensures.unit c.clear.ensures c.let_go.ensures.stays c.let_go.ensures.gone);
  refused = c.in_ok-unit.ensures.refused
      ∙ ap refusal_of_file
      (sym (place_is (record { places = c.self.inside.files.items; opened = c.self.inside.order }) c.from.result c.args.number c.index_mut-place.result.now
      c.self.invariant.files_are.table (search rules) (search (rules, arith)) c.index_mut-place.ensures.value))
      ∙ ap (λ (files : Files _). refusal_of_release files.table c.args.number)
      {x = files_with_table c.self.inside.library (record { places = c.self.inside.files.items; opened = c.self.inside.order })} {y = c.args.self.now} (search rules);
  err = tt;
}
