use Rattle.std.proofs.Common.{sym, subst}
use Rattle.open_file.specs.Stands.{Stands}
use Rattle.open_file.proofs.ExitLemmas.{fails_reading}
use Rattle.open_file.proofs.DeliverLemmas.{repeated_next}
use Rattle.open_file.proofs.open_file.OpenFile.deliver.Goals as goal

pub returns-clause-found : goal.returns-clause-found
returns-clause-found g c honest file stands row is =
    let before = g.met.P.Pages.writes_honestly c.is_followed.new.pages c.found_of.new.pages (g.met.P.Pages.reads_writes c.is_followed.new.pages c.found_of.new.pages c.found_of.ensures.keeps.reads.step) honest in
    let still = subst (λ p. Stands c.args.self.now p file) (sym (g.met.P.Pages.reads_live c.args.pages.now c.is_followed.new.pages c.is_followed.ensures.reads.step before)) stands in
    let told = rw c.as_slice.ensures.value at (c.in_ok-repeated.ensures.told before file stands).answer in
    c.found_of.ensures.found honest file still c.args.k row is (repeated_next c.args.self.now.schema c.args.k file c.args.entry.now row is c.in_ok-repeated.repeated told)

pub returns-in_err-repeated-clause-found : goal.returns-in_err-repeated-clause-found
returns-in_err-repeated-clause-found g c honest file stands row is =
    fails_reading c.from_residual.result _ c.from_residual.ensures.1 (c.in_err-repeated.ensures.told honest file stands).no_damage _ _ _ _
