use Rattle.std.proofs.Common.{refl, ap, ◌∙◌, arith, IsTrue}
use Rattle.open_file.specs.Fields.{alternates_of, prime_index_of, file_schema}
use Rattle.open_file.specs.InOrder.{prime_entries}
use Rattle.pages.proofs.CauseLemmas.{fails_since}
use Rattle.file_changes.proofs.EndingLemmas.{kept, stopped, not_made, made}
use Rattle.file_changes.proofs.FoundLemmas.{parts_later, old_at}
use Rattle.file_changes.proofs.LevelLemmas.{heights_few, levels_of_all}
use Rattle.file_changes.proofs.RemovedLemmas.{has_row, has_removed, none_removed}
use Rattle.file_changes.proofs.removing.remove_by.Goals as goal

pub returns-in_err-old-clause-removes : goal.returns-in_err-old-clause-removes
returns-in_err-old-clause-removes g c =
    let u = c.args.opened.now in
    let start = c.args.pages.now in
    let looked = c.find_old.new.pages in
    let step = c.find_old.ensures.reads.step in
    let begins = g.met.P.Pages.writes_begins start looked (g.met.P.Pages.reads_writes start looked step) in
    stopped _ _ _ _ c.from_residual.result _ c.from_residual.ensures.1 c.in_err-old.ensures.reads.cause.full
    (λ honest sound file stands. (c.in_err-old.ensures.found honest file stands).no_damage)
    (kept _ _ _ refl (g.met.P.Pages.begins_ready start looked begins c.requires.ready.pages) c.requires.ready.shaped begins (omega (arith, c.find_old.ensures.reads.asked, heights_few (prime_index_of u) (alternates_of u), levels_of_all (prime_index_of u) (alternates_of u))))

pub returns-in_default-clause-removes : goal.returns-in_default-clause-removes
returns-in_default-clause-removes g c =
    let u = c.args.opened.now in
    let start = c.args.pages.now in
    let looked = c.find_old.new.pages in
    let step = c.find_old.ensures.reads.step in
    let begins = g.met.P.Pages.writes_begins start looked (g.met.P.Pages.reads_writes start looked step) in
    not_made _ _ _ _ _ refl (refl, step)
    (λ honest sound file stands.
    let none = (rw c.in_default.is at c.in_ok-old.ensures.found honest file stands).answer in
    none_removed u (g.P.Pages.shown.state start).live (g.P.Pages.shown.state looked).live (IsTrue (g.P.Pages.shown.state looked).is_sound) file c.args.prime.now stands
    (g.met.P.Pages.reads_live start looked step honest) none (g.met.P.Pages.reads_sound start looked step honest ∙ sound))
    (λ honest file stands. refl)
    (kept _ _ _ refl (g.met.P.Pages.begins_ready start looked begins c.requires.ready.pages) c.requires.ready.shaped begins (omega (arith, c.find_old.ensures.reads.asked, heights_few (prime_index_of u) (alternates_of u), levels_of_all (prime_index_of u) (alternates_of u))))

pub record_in-before-requires-clause-room : goal.record_in-before-requires-clause-room
record_in-before-requires-clause-room g c = omega (arith, c.find_old.ensures.long, c.requires.room)

pub returns-in_err-begin-clause-removes : goal.returns-in_err-begin-clause-removes
returns-in_err-begin-clause-removes g c =
    let u = c.args.opened.now in
    let start = c.args.pages.now in
    let looked = c.find_old.new.pages in
    let step = c.find_old.ensures.reads.step in
    let begun = c.begin.new.self in
    let begins = g.met.P.Pages.begins_on start looked begun (g.met.P.Pages.writes_begins start looked (g.met.P.Pages.reads_writes start looked step)) c.begin.ensures.begins in
    stopped _ _ _ _ c.from_residual-in_err-begin.result _ c.from_residual-in_err-begin.ensures.1 c.in_err-begin.ensures.cause.full
    (λ honest sound file stands. c.in_err-begin.ensures.damage)
    (kept _ _ _ refl (g.met.P.Pages.begins_ready start begun begins c.requires.ready.pages) c.requires.ready.shaped begins (omega (arith, c.find_old.ensures.reads.asked, c.begin.ensures.asked, heights_few (prime_index_of u) (alternates_of u), levels_of_all (prime_index_of u) (alternates_of u))))

pub returns-in_err-take_out-clause-removes : goal.returns-in_err-take_out-clause-removes
returns-in_err-take_out-clause-removes g c =
    let u = c.args.opened.now in
    let start = c.args.pages.now in
    let looked = c.find_old.new.pages in
    let step = c.find_old.ensures.reads.step in
    let begun = c.begin.new.self in
    let last = c.take_out.new.pages in
    let begins = g.met.P.Pages.begins_on start begun last
    (g.met.P.Pages.begins_on start looked begun (g.met.P.Pages.writes_begins start looked (g.met.P.Pages.reads_writes start looked step)) c.begin.ensures.begins)
    (g.met.P.Pages.writes_begins begun last c.take_out.ensures.writes.step) in
    stopped _ _ _ _ c.from_residual-in_err-take_out.result _ c.from_residual-in_err-take_out.ensures.1 c.in_err-take_out.ensures.writes.cause.full
    (λ honest sound file stands.
    let h2 = g.met.P.Pages.writes_honestly begun last c.take_out.ensures.writes.step honest in
    let h1 = g.met.P.Pages.begins_honestly looked begun c.begin.ensures.begins h2 in
    let live = c.begin.ensures.rests.live h2 ∙ g.met.P.Pages.reads_live start looked step h1 in
    let kept = c.begin.ensures.rests.sound h2 ∙ g.met.P.Pages.reads_sound start looked step h1 ∙ sound in
    let is = (rw c.in-Some.is at c.in_ok-old.ensures.found h1 file stands).answer in
    let at = old_at (file_schema u) stands.slots (prime_entries (file_schema u) stands.places file.rows) file c.args.prime.now c.find_old.new.slot c.record_in-before.result.now c.in-Some.old is c.record_in-before.ensures.bytes in
    let has = has_row u (g.P.Pages.shown.state start).live file c.args.prime.now c.in-Some.old.place _ stands at in
    let parts = parts_later stands live in
    (c.in_err-take_out.ensures.out honest kept stands.slots _ _ parts has).no_damage)
    (kept _ _ _ (ap file_schema c.take_out.ensures.rest) (g.met.P.Pages.begins_ready start last begins c.requires.ready.pages) c.take_out.ensures.shaped begins (omega (arith, c.find_old.ensures.reads.asked, c.begin.ensures.asked, c.take_out.ensures.writes.asked, heights_few (prime_index_of u) (alternates_of u), levels_of_all (prime_index_of u) (alternates_of u))))

pub returns-in_err-take_out-clause-cause : goal.returns-in_err-take_out-clause-cause
returns-in_err-take_out-clause-cause g c =
    let start = c.args.pages.now in
    let looked = c.find_old.new.pages in
    let begun = c.begin.new.self in
    let moves = g.met.P.Pages.begins_on start looked begun (g.met.P.Pages.writes_begins start looked (g.met.P.Pages.reads_writes start looked c.find_old.ensures.reads.step)) c.begin.ensures.begins in
    fails_since c.from_residual-in_err-take_out.result _ _ _ _ _ c.from_residual-in_err-take_out.ensures.1 (λ failed. g.met.P.Pages.failed_later start begun c.take_out.new.pages moves failed) (λ x. x) c.in_err-take_out.ensures.writes.cause

pub returns-clause-removes : goal.returns-clause-removes
returns-clause-removes g c =
    let u = c.args.opened.now in
    let start = c.args.pages.now in
    let looked = c.find_old.new.pages in
    let step = c.find_old.ensures.reads.step in
    let begun = c.begin.new.self in
    let last = c.take_out.new.pages in
    let begins = g.met.P.Pages.begins_on start begun last
    (g.met.P.Pages.begins_on start looked begun (g.met.P.Pages.writes_begins start looked (g.met.P.Pages.reads_writes start looked step)) c.begin.ensures.begins)
    (g.met.P.Pages.writes_begins begun last c.take_out.ensures.writes.step) in
    made _ _ _ _ _ refl (g.met.P.Pages.writes_changing begun last c.take_out.ensures.writes.step c.in_ok-begin.ensures.open)
    (λ honest sound file stands.
    let h2 = g.met.P.Pages.writes_honestly begun last c.take_out.ensures.writes.step honest in
    let h1 = g.met.P.Pages.begins_honestly looked begun c.begin.ensures.begins h2 in
    let live = c.begin.ensures.rests.live h2 ∙ g.met.P.Pages.reads_live start looked step h1 in
    let kept = c.begin.ensures.rests.sound h2 ∙ g.met.P.Pages.reads_sound start looked step h1 ∙ sound in
    let is = (rw c.in-Some.is at c.in_ok-old.ensures.found h1 file stands).answer in
    let at = old_at (file_schema u) stands.slots (prime_entries (file_schema u) stands.places file.rows) file c.args.prime.now c.find_old.new.slot c.record_in-before.result.now c.in-Some.old is c.record_in-before.ensures.bytes in
    let has = has_row u (g.P.Pages.shown.state start).live file c.args.prime.now c.in-Some.old.place _ stands at in
    let parts = parts_later stands live in
    let out = (c.in_ok-take_out.ensures.out honest kept stands.slots _ _ parts has).answer in
    has_removed u c.take_out.new.opened (g.P.Pages.shown.state start).live (g.P.Pages.shown.state last).live (IsTrue (g.P.Pages.shown.state last).is_sound) file c.args.prime.now c.in-Some.old.place _ stands
    c.requires.ready.shaped c.take_out.ensures.shaped at c.take_out.ensures.rest out)
    (λ honest file stands. refl)
    (kept _ _ _ (ap file_schema c.take_out.ensures.rest) (g.met.P.Pages.begins_ready start last begins c.requires.ready.pages) c.take_out.ensures.shaped begins (omega (arith, c.find_old.ensures.reads.asked, c.begin.ensures.asked, c.take_out.ensures.writes.asked, heights_few (prime_index_of u) (alternates_of u), levels_of_all (prime_index_of u) (alternates_of u))))
