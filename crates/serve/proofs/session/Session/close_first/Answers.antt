use Rattle.std.proofs.Common.{rules, subst}
use Rattle.serve.specs.Files.{Files}
use Rattle.serve.specs.Steps.{ClosesFirst}
use Rattle.serve.proofs.CallLemmas.{first_is_number, first_is_there, close_closes, changed_to, files_with_table}
use Rattle.serve.proofs.SessionLemmas.{goes_with, close_named}
use Rattle.serve.proofs.session.Session.close_first.Goals as goal

pub close-requires : goal.close-requires
close-requires g c = record {
  fits = goes_with g.L.Library.shown (record { places = c.self.inside.files.items; opened = c.self.inside.order }) c.self.inside.library c.self.inside.names.items c.self.invariant
      c.from.result c.in_ok-number.number c.index_mut.result.now (search rules)
      (first_is_number (record { places = c.self.inside.files.items; opened = c.self.inside.order }) c.in_ok-number.number c.self.invariant.files_are.table (search rules))
      c.index_mut.ensures.value;
}

pub returns-in_err-status-clause-none : goal.returns-in_err-status-clause-none
returns-in_err-status-clause-none g c none =
    absurd (first_is_there (record { places = c.self.inside.files.items; opened = c.self.inside.order }) c.from.result c.in_ok-number.number c.index_mut.result.now
    c.self.invariant.files_are.table (search rules) (search rules) c.index_mut.ensures.value (search rules))

pub invariant_of-self : goal.invariant_of-self
invariant_of-self g c =
    absurd (first_is_there (record { places = c.self.inside.files.items; opened = c.self.inside.order }) c.from.result c.in_ok-number.number c.index_mut.result.now
    c.self.invariant.files_are.table (search rules) (search rules) c.index_mut.ensures.value (search rules))

pub note-requires : goal.note-requires
note-requires g c =
    first_is_number (record { places = c.self.inside.files.items; opened = c.self.inside.order }) c.in_ok-number.number c.self.invariant.files_are.table (search rules)

pub invariant_of-self-2 : goal.invariant_of-self-2
invariant_of-self-2 g c =
    close_named g.L.Library.shown (record { places = c.self.inside.files.items; opened = c.self.inside.order }) c.self.inside.library c.self.inside.names.items c.self.invariant
    c.from.result c.in_ok-number.number c.close.new.library c.index_mut.result.now c.close.new.place c.in_ok-status.status c.note.new.self
    (search rules) (search rules) c.index_mut.ensures.value c.in_ok-status.ensures.closed (search rules)

pub returns-clause-closed : goal.returns-clause-closed
returns-clause-closed g c =
    subst (λ (files : Files _). ClosesFirst g.L.Library.shown files c.in_ok-status.status
    (files_with_table c.close.new.library (changed_to (record { places = c.self.inside.files.items; opened = c.self.inside.order }) c.from.result c.close.new.place c.note.new.self)))
    {x = files_with_table c.self.inside.library (record { places = c.self.inside.files.items; opened = c.self.inside.order })} {y = c.args.self.now} (search rules)
    (close_closes g.L.Library.shown (record { places = c.self.inside.files.items; opened = c.self.inside.order }) c.from.result c.in_ok-number.number c.self.inside.library c.close.new.library
    c.index_mut.result.now c.close.new.place c.in_ok-status.status c.note.new.self
    c.self.invariant.files_are.table (search rules) (search rules) c.index_mut.ensures.value c.in_ok-status.ensures.closed (search rules))
