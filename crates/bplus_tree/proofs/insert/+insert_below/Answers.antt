use Rattle.std.proofs.lemmas.Grind.{common_steps}
use Rattle.std.proofs.Common.{◌≡◌, ◌+◌, ◌-◌, ◌<◌, suc, arith, rules}
use Rattle.pages.proofs.CauseLemmas.{fails_since}
use Rattle.tree_search.proofs.AnswerLemmas.{fails}
use Rattle.bplus_tree.proofs.RemoveLemmas.{descent_fails}
use Rattle.bplus_tree.proofs.InsertLemmas.{inserts_at, child_fails, child_has, child_grown, split_grown}
use Rattle.bplus_tree.proofs.insert.+insert_below.Goals as goal

pub returns-then-levels-eq0-clause-inserted : goal.returns-then-levels-eq0-clause-inserted
returns-then-levels-eq0-clause-inserted g t c honest sound =
    inserts_at _ c.args.entry.now (c.insert_in_leaf.ensures.inserted honest sound) c.if-levels-eq0.true

pub returns-in_err-down-clause-inserted : goal.returns-in_err-down-clause-inserted
returns-in_err-down-clause-inserted g t c honest sound =
    inserts_at {m = suc (c.args.levels - 1)} _ c.args.entry.now
    (λ node whole within. descent_fails node whole (c.in_err-down.ensures.found honest) c.from_residual.ensures.1) (omega arith)

pub returns-in_err-found-clause-inserted : goal.returns-in_err-found-clause-inserted
returns-in_err-found-clause-inserted g t c honest sound =
    let reads = c.descend.ensures.reads.step in
    let h = g.met.P.Pages.writes_honestly _ _ c.insert_below.ensures.writes.step honest in
    let inserts = rw (g.met.P.Pages.reads_live _ _ reads h) at
    (c.in_err-found.ensures.inserted honest (rw (g.met.P.Pages.reads_sound _ _ reads h) sound)) in
    inserts_at _ c.args.entry.now (λ node whole within.
    fails _ _ _ c.from_residual-in_err-found.ensures.1
    (child_fails c.args.entry.now (c.in_ok-down.ensures.found h) _ inserts node whole within)) (omega arith)

pub returns-in-Present-clause-inserted : goal.returns-in-Present-clause-inserted
returns-in-Present-clause-inserted g t c honest sound =
    let reads = c.descend.ensures.reads.step in
    let h = g.met.P.Pages.writes_honestly _ _ c.insert_below.ensures.writes.step honest in
    let inserts = rw c.in-Present.is at (c.in_ok-found.ensures.inserted honest (rw (g.met.P.Pages.reads_sound _ _ reads h) sound)) in
    inserts_at _ c.args.entry.now (child_has c.args.entry.now (c.in_ok-down.ensures.found h) _ c.in-Present.found
    (rw (g.met.P.Pages.reads_live _ _ reads h) at inserts)) (omega arith)

pub returns-in-Added-None-clause-inserted : goal.returns-in-Added-None-clause-inserted
returns-in-Added-None-clause-inserted g t c honest sound =
    let reads = c.descend.ensures.reads.step in
    let h = g.met.P.Pages.writes_honestly _ _ c.insert_below.ensures.writes.step honest in
    let inserts = rw (c.in-Added-None.is, c.in-Added-None.field-0-is) at
    (c.in_ok-found.ensures.inserted honest (rw (g.met.P.Pages.reads_sound _ _ reads h) sound)) in
    inserts_at _ c.args.entry.now
    (child_grown c.args.entry.now (c.in_ok-down.ensures.found h) _ (rw (g.met.P.Pages.reads_live _ _ reads h) at inserts)) (omega arith)

pub returns-in_ok-up-in-Added-Some-clause-inserted : goal.returns-in_ok-up-in-Added-Some-clause-inserted
returns-in_ok-up-in-Added-Some-clause-inserted g t c honest sound =
    let reads = c.descend.ensures.reads.step in
    let late = (g.P.Pages.shown.state c.add_to_inner.new.pages).live in
    let h2 = g.met.P.Pages.writes_honestly _ _ c.add_to_inner.ensures.alters.writes.step honest in
    let h = g.met.P.Pages.writes_honestly _ _ c.insert_below.ensures.writes.step h2 in
    let inserts = rw (c.in-Added-Some.is, c.in-Added-Some.field-0-is) at
    (c.in_ok-found.ensures.inserted h2 (rw (g.met.P.Pages.reads_sound _ _ reads h) sound)) in
    let below = rw (g.met.P.Pages.reads_live _ _ reads h) at inserts in
    let split = split_grown c.args.entry.now (c.in_ok-down.ensures.found h) _ late c.in-Added-Some.separator below in
    inserts_at _ c.args.entry.now (λ node whole within.
    let a = split (c.in_ok-up-in-Added-Some.ensures.alters.leaves honest) node whole within in
    record { answer = a.answer; no_damage = tt }) (omega arith)

pub returns-in_err-up-in-Added-Some-clause-inserted : goal.returns-in_err-up-in-Added-Some-clause-inserted
returns-in_err-up-in-Added-Some-clause-inserted g t c honest sound =
    let reads = c.descend.ensures.reads.step in
    let late = (g.P.Pages.shown.state c.add_to_inner.new.pages).live in
    let h2 = g.met.P.Pages.writes_honestly _ _ c.add_to_inner.ensures.alters.writes.step honest in
    let h = g.met.P.Pages.writes_honestly _ _ c.insert_below.ensures.writes.step h2 in
    let inserts = rw (c.in-Added-Some.is, c.in-Added-Some.field-0-is) at
    (c.in_ok-found.ensures.inserted h2 (rw (g.met.P.Pages.reads_sound _ _ reads h) sound)) in
    let below = rw (g.met.P.Pages.reads_live _ _ reads h) at inserts in
    let split = split_grown c.args.entry.now (c.in_ok-down.ensures.found h) _ late c.in-Added-Some.separator below in
    inserts_at _ c.args.entry.now (λ node whole within.
    fails _ _ _ c.from_residual-in_err-up-in-Added-Some.ensures.1
    (split (c.in_err-up-in-Added-Some.ensures.alters.leaves honest) node whole within).no_damage) (omega arith)

pub returns-in_err-up-in-Added-Some-clause-writes : goal.returns-in_err-up-in-Added-Some-clause-writes
returns-in_err-up-in-Added-Some-clause-writes g t c =
    record {
      few =
          let same = g.met.P.Pages.reads_available _ _ c.descend.ensures.reads.step in
          let first = c.insert_below.ensures.writes.few in
          let some = c.if-levels-eq0.false in
          omega arith;
      cause =
          let old = c.args.pages.now in
          let mid = c.descend.new.pages in
          let new = c.insert_below.new.pages in
          let last = c.add_to_inner.new.pages in
          let reads = c.descend.ensures.reads.step in
          let goes = g.met.P.Pages.writes_on old mid new (g.met.P.Pages.reads_writes _ _ reads) c.insert_below.ensures.writes.step in
          let same = g.met.P.Pages.reads_available _ _ reads in
          let few = c.insert_below.ensures.writes.few in
          let some = c.if-levels-eq0.false in
          fails_since c.from_residual-in_err-up-in-Added-Some.result _ (g.P.Pages.shown.HasFailed new last) (g.P.Pages.shown.HasFailed old last) ((g.P.Pages.shown.state new).available ≡ 0) ((g.P.Pages.shown.state old).available < c.args.levels + 1)
          c.from_residual-in_err-up-in-Added-Some.ensures.1 (g.met.P.Pages.failed_after old new last goes) (λ none. omega arith) c.in_err-up-in-Added-Some.ensures.alters.writes.cause;
      asked = grind (arith, common_steps);
      step =
          g.met.P.Pages.writes_on c.args.pages.now c.insert_below.new.pages c.add_to_inner.new.pages (g.met.P.Pages.writes_on c.args.pages.now c.descend.new.pages c.insert_below.new.pages (g.met.P.Pages.reads_writes c.args.pages.now c.descend.new.pages c.descend.ensures.reads.step) c.insert_below.ensures.writes.step) c.add_to_inner.ensures.alters.writes.step;
    }

pub add_to_inner-requires : goal.add_to_inner-requires
add_to_inner-requires g m c =
    let goes = g.met.P.Pages.reads_writes _ _ c.descend.ensures.reads.step in
    let on = c.insert_below.ensures.writes.step in
    record {
      width = search rules;
      pages = record {
        ready = g.met.P.Pages.writes_ready c.descend.new.pages c.insert_below.new.pages on (g.met.P.Pages.writes_ready c.args.pages.now c.descend.new.pages goes c.requires.ready);
        changing = g.met.P.Pages.writes_changing c.descend.new.pages c.insert_below.new.pages on (g.met.P.Pages.writes_changing c.args.pages.now c.descend.new.pages goes c.requires.changing);
      };
    }
