use Rattle.std.proofs.Common.{refl, sym, subst, arith}
use Rattle.record_heap.specs.Standing.{HeapStands}
use Rattle.open_file.specs.Parts.{heap_pages}
use Rattle.open_file.specs.Fields.{heap_of, file_schema}
use Rattle.open_file.specs.Stored.{stored}
use Rattle.open_file.proofs.ExitLemmas.{fails}
use Rattle.file_changes.proofs.FoundLemmas.{leads_to, old_is, none_is}
use Rattle.file_changes.proofs.old_record.find_old.Goals as goal

pub stamps_in-stamps-requires : goal.stamps_in-stamps-requires
stamps_in-stamps-requires g c =
    let shaped = c.requires.ready.shaped in
    record { shaped = shaped; room = omega (arith, c.read_stored.ensures.front.long, c.requires.room) }

pub returns-in_err-entry-clause-found : goal.returns-in_err-entry-clause-found
returns-in_err-entry-clause-found g c honest file stands =
    fails c.from_residual.result _ c.from_residual.ensures.1 (c.in_err-entry.ensures.found honest _ _ stands.parts.prime_stands).no_damage _

pub returns-in_default-clause-found : goal.returns-in_default-clause-found
returns-in_default-clause-found g c honest file stands =
    let found = (rw c.in_default.is at c.in_ok-entry.ensures.found honest _ _ stands.parts.prime_stands).answer in
    record { answer = none_is c.args.opened.now (g.P.Pages.shown.state c.args.pages.now).live file stands c.args.prime.now (sym found); no_damage = tt }

pub returns-in_err-end-clause-found : goal.returns-in_err-end-clause-found
returns-in_err-end-clause-found g c honest file stands =
    let u = c.args.opened.now in
    let start = (g.P.Pages.shown.state c.args.pages.now).live in
    let before = g.met.P.Pages.writes_honestly c.find_prime.new.pages c.read_stored.new.pages (g.met.P.Pages.reads_writes c.find_prime.new.pages c.read_stored.new.pages c.read_stored.ensures.reads.step) honest in
    let found = (rw c.in-Some.is at c.in_ok-entry.ensures.found before _ _ stands.parts.prime_stands).answer in
    let leads = leads_to u start file stands c.args.prime.now c.in-Some.entry (sym found) in
    let heap = subst (λ p. HeapStands (heap_of u) p stands.slots (heap_pages stands.parts.owns)) (sym (g.met.P.Pages.reads_live c.args.pages.now c.find_prime.new.pages c.find_prime.ensures.reads.step before)) stands.parts.heap_stands in
    fails c.from_residual-in_err-end.result _ c.from_residual-in_err-end.ensures.1 (c.in_err-end.ensures.got honest stands.slots _ (stored (file_schema u) leads.row) heap leads.here).no_damage _

pub returns-clause-found : goal.returns-clause-found
returns-clause-found g c honest file stands =
    let u = c.args.opened.now in
    let start = (g.P.Pages.shown.state c.args.pages.now).live in
    let before = g.met.P.Pages.writes_honestly c.find_prime.new.pages c.read_stored.new.pages (g.met.P.Pages.reads_writes c.find_prime.new.pages c.read_stored.new.pages c.read_stored.ensures.reads.step) honest in
    let found = (rw c.in-Some.is at c.in_ok-entry.ensures.found before _ _ stands.parts.prime_stands).answer in
    let leads = leads_to u start file stands c.args.prime.now c.in-Some.entry (sym found) in
    let heap = subst (λ p. HeapStands (heap_of u) p stands.slots (heap_pages stands.parts.owns)) (sym (g.met.P.Pages.reads_live c.args.pages.now c.find_prime.new.pages c.find_prime.ensures.reads.step before)) stands.parts.heap_stands in
    let got = (c.in_ok-end.ensures.got honest stands.slots _ (stored (file_schema u) leads.row) heap leads.here).answer in
    record {
      answer = old_is u start file stands c.args.prime.now c.in-Some.entry (sym found) c.read_stored.new.to c.args.slot.now
          (record { place = c.in-Some.entry.place; stamps = c.stamps_in-stamps.result; end = c.in_ok-end.end }) refl got.0 got.1 c.stamps_in-stamps.ensures.stamps;
      no_damage = tt;
    }
