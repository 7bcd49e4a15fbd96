use Rattle.test_store.proofs.paged_files.give_and_take.Goals as goal

pub returns : goal.returns
returns g c = record {
  goes = g.met.P.Pages.writes_on _ _ _ c.give.ensures.writes.step (g.met.P.Pages.writes_on _ _ _ c.give-2.ensures.writes.step
      (g.met.P.Pages.writes_on _ _ _ c.take.ensures.writes.step c.take-2.ensures.writes.step));
}
