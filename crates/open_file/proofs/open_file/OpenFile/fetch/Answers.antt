use Rattle.std.proofs.Common.{sym}
use Rattle.open_file.proofs.ExitLemmas.{fails_reading}
use Rattle.open_file.proofs.FetchLemmas.{row_at_place, no_row, found_row}
use Rattle.open_file.proofs.open_file.OpenFile.fetch.Goals as goal

pub returns-in_err-place_of-clause-fetched : goal.returns-in_err-place_of-clause-fetched
returns-in_err-place_of-clause-fetched g c honest file stands =
    fails_reading c.from_residual.result _ c.from_residual.ensures.1 (c.in_err-place_of.ensures.found honest _ _ stands.parts.prime_stands).no_damage _ _ _ _

pub returns-in-None-clause-fetched : goal.returns-in-None-clause-fetched
returns-in-None-clause-fetched g c honest file stands =
    let found = (rw c.in-None.is at c.in_ok-place_of.ensures.found honest _ _ stands.parts.prime_stands).answer in
    no_row c.args.self.now ((g.P.Pages.shown.state c.args.pages.now).live) file stands c.args.prime.now c.args.area.now (sym found)

pub returns-in_err-read-in-Some-clause-fetched : goal.returns-in_err-read-in-Some-clause-fetched
returns-in_err-read-in-Some-clause-fetched g c honest file stands =
    let before = g.met.P.Pages.writes_honestly c.place_of.new.pages c.read.new.pages (g.met.P.Pages.reads_writes c.place_of.new.pages c.read.new.pages c.read.ensures.keeps.reads.step) honest in
    let found = (rw c.in-Some.is at c.in_ok-place_of.ensures.found before _ _ stands.parts.prime_stands).answer in
    let place = row_at_place c.args.self.now ((g.P.Pages.shown.state c.args.pages.now).live) ((g.P.Pages.shown.state c.place_of.new.pages).live) c.requires.shaped.stamps (g.met.P.Pages.reads_live c.args.pages.now c.place_of.new.pages c.place_of.ensures.reads.step before) file stands c.args.prime.now c.in-Some.place (sym found) in
    fails_reading c.from_residual-in_err-read-in-Some.result _ c.from_residual-in_err-read-in-Some.ensures.1 (c.in_err-read-in-Some.ensures.found honest place.row place.at).answered.no_damage _ _ _ _

pub returns-in_ok-read-in-Some-clause-fetched : goal.returns-in_ok-read-in-Some-clause-fetched
returns-in_ok-read-in-Some-clause-fetched g c honest file stands =
    let before = g.met.P.Pages.writes_honestly c.place_of.new.pages c.read.new.pages (g.met.P.Pages.reads_writes c.place_of.new.pages c.read.new.pages c.read.ensures.keeps.reads.step) honest in
    let found = (rw c.in-Some.is at c.in_ok-place_of.ensures.found before _ _ stands.parts.prime_stands).answer in
    let place = row_at_place c.args.self.now ((g.P.Pages.shown.state c.args.pages.now).live) ((g.P.Pages.shown.state c.place_of.new.pages).live) c.requires.shaped.stamps (g.met.P.Pages.reads_live c.args.pages.now c.place_of.new.pages c.place_of.ensures.reads.step before) file stands c.args.prime.now c.in-Some.place (sym found) in
    found_row c.args.self.now.schema file c.args.prime.now place.row place.is_row c.in_ok-read-in-Some.field-0 c.args.area.now c.read.new.area (c.in_ok-read-in-Some.ensures.found honest place.row place.at)
