use Rattle.std.proofs.Common.{sym, ◌∙◌}
use Rattle.open_file.proofs.ExitLemmas.{fails}
use Rattle.open_file.proofs.EntryLemmas.{alt_at}
use Rattle.open_file.proofs.SeekLemmas.{alt_sought, alt_not_sought}
use Rattle.open_file.proofs.open_file.OpenFile.seek_alternate.Goals as goal

pub returns-in_err-entry-clause-found : goal.returns-in_err-entry-clause-found
returns-in_err-entry-clause-found g c honest file stands =
    let at = alt_at c.args.self.now (g.P.Pages.shown.state c.args.pages.now).live file stands c.args.k c.alternate-index.result c.requires.key.some c.requires.key.within c.alternate-index.ensures in
    fails c.from_residual.result _ c.from_residual.ensures.1 (c.in_err-entry.ensures.found honest _ _ at).no_damage _

pub returns-in-Some-clause-found : goal.returns-in-Some-clause-found
returns-in-Some-clause-found g c honest file stands =
    let at = alt_at c.args.self.now (g.P.Pages.shown.state c.args.pages.now).live file stands c.args.k c.alternate-index.result c.requires.key.some c.requires.key.within c.alternate-index.ensures in
    let found = (rw c.in-Some.is at c.in_ok-entry.ensures.found honest _ _ at).answer in
    record { answer = c.wanted.ensures ∙ sym (alt_sought c.args.self.now.schema c.args.k c.args.relation c.args.operand.now file c.in-Some.entry (sym found)); no_damage = tt }

pub returns-in-None-clause-found : goal.returns-in-None-clause-found
returns-in-None-clause-found g c honest file stands =
    let at = alt_at c.args.self.now (g.P.Pages.shown.state c.args.pages.now).live file stands c.args.k c.alternate-index.result c.requires.key.some c.requires.key.within c.alternate-index.ensures in
    let found = (rw c.in-None.is at c.in_ok-entry.ensures.found honest _ _ at).answer in
    record { answer = sym (alt_not_sought c.args.self.now.schema c.args.k c.args.relation c.args.operand.now file (sym found)); no_damage = tt }
