use Rattle.std.proofs.Common.{not, ◌||◌, refl, sym, subst, ap, ◌∙◌, arith, IsTrue}
use Rattle.std.proofs.Math.Bool.{or-true}
use Rattle.record_layout.specs.Schema.{prime_of}
use Rattle.indexed_file.specs.Change.{clashes_with_others}
use Rattle.indexed_file.specs.Room.{is_full_at}
use Rattle.open_file.specs.Fields.{alternates_of, prime_index_of, file_schema}
use Rattle.open_file.specs.InOrder.{prime_entries}
use Rattle.file_changes.specs.Old.{IsFoundIn}
use Rattle.open_file.specs.Stands.{Stands, room_of}
use Rattle.open_file.proofs.ExitLemmas.{if_ok}
use Rattle.file_changes.proofs.EndingLemmas.{kept, stopped, not_made}
use Rattle.file_changes.proofs.LevelLemmas.{heights_few, levels_of_all}
use Rattle.file_changes.proofs.FoundLemmas.{old_at}
use Rattle.pages.proofs.CauseLemmas.{caused_since}
use Rattle.file_changes.proofs.ReplacedLemmas.{has_none}
use Rattle.file_changes.proofs.replacing.replace_by.Goals as goal

pub record_in-before-requires-clause-room : goal.record_in-before-requires-clause-room
record_in-before-requires-clause-room g c = omega (arith, c.find_old.ensures.long, c.requires.room)

pub returns-in_err-old-clause-replaces : goal.returns-in_err-old-clause-replaces
returns-in_err-old-clause-replaces g c =
    let u = c.args.opened.now in
    let start = c.args.pages.now in
    let looked = c.find_old.new.pages in
    let step = c.find_old.ensures.reads.step in
    let begins = g.met.P.Pages.writes_begins start looked (g.met.P.Pages.reads_writes start looked step) in
    stopped _ _ _ _ c.from_residual.result _ c.from_residual.ensures.1 c.in_err-old.ensures.reads.cause.full
    (λ honest sound file stands. (c.in_err-old.ensures.found honest file stands).no_damage)
    (kept _ _ _ refl (g.met.P.Pages.begins_ready start looked begins c.requires.can.ready.pages) c.requires.can.ready.shaped begins (omega (arith, c.find_old.ensures.reads.asked, heights_few (prime_index_of u) (alternates_of u), levels_of_all (prime_index_of u) (alternates_of u))))

pub returns-in_default-clause-replaces : goal.returns-in_default-clause-replaces
returns-in_default-clause-replaces g c =
    let u = c.args.opened.now in
    let start = c.args.pages.now in
    let looked = c.find_old.new.pages in
    let step = c.find_old.ensures.reads.step in
    let begins = g.met.P.Pages.writes_begins start looked (g.met.P.Pages.reads_writes start looked step) in
    not_made _ _ _ _ _ refl (refl, step)
    (λ honest sound file stands.
    let none = (rw (c.value-prime.ensures.value, c.in_default.is) at c.in_ok-old.ensures.found honest file stands).answer in
    has_none u (g.P.Pages.shown.state start).live (g.P.Pages.shown.state looked).live (IsTrue (g.P.Pages.shown.state looked).is_sound) c.args.bytes.now file stands
    (g.met.P.Pages.reads_live start looked step honest) none (g.met.P.Pages.reads_sound start looked step honest ∙ sound))
    (λ honest file stands.
    let none = (rw (c.value-prime.ensures.value, c.in_default.is) at c.in_ok-old.ensures.found honest file stands).answer in
    ap (λ row. clashes_with_others (file_schema u) c.args.bytes.now file || not (is_full_at (room_of u (g.P.Pages.shown.state start).available) (file_schema u) c.args.bytes.now file row)) none
    ∙ or-true (clashes_with_others (file_schema u) c.args.bytes.now file))
    (kept _ _ _ refl (g.met.P.Pages.begins_ready start looked begins c.requires.can.ready.pages) c.requires.can.ready.shaped begins (omega (arith, c.find_old.ensures.reads.asked, heights_few (prime_index_of u) (alternates_of u), levels_of_all (prime_index_of u) (alternates_of u))))

pub returns-clause-keeps : goal.returns-clause-keeps
returns-clause-keeps g c =
    let start = c.args.pages.now in
    let looked = c.find_old.new.pages in
    record {
      cause = caused_since c.replace_old.result _ _ _ _ (λ failed. g.met.P.Pages.failed_after start looked c.replace_old.new.pages (g.met.P.Pages.reads_writes start looked c.find_old.ensures.reads.step) failed) (λ x. x) c.replace_old.ensures.cause;
      broken = c.replace_old.ensures.replaces.keeps.broken;
    }

pub returns-clause-replaces : goal.returns-clause-replaces
returns-clause-replaces g c =
    let u = c.args.opened.now in
    let start = c.args.pages.now in
    let looked = c.find_old.new.pages in
    let step = c.find_old.ensures.reads.step in
    let last = c.replace_old.new.pages in
    let prime = prime_of (file_schema u) c.args.bytes.now in
    let found = c.replace_old.ensures.replaces in
    let begins = g.met.P.Pages.begins_on start looked last (g.met.P.Pages.writes_begins start looked (g.met.P.Pages.reads_writes start looked step)) found.keeps.begins in
    let reads = g.met.P.Pages.reads_on start looked last step in
    record {
      done = λ honest sound file stands.
          let h1 = g.met.P.Pages.begins_honestly looked last found.keeps.begins honest in
          let live = g.met.P.Pages.reads_live start looked step h1 in
          let kept = g.met.P.Pages.reads_sound start looked step h1 ∙ sound in
          let is = (rw (c.value-prime.ensures.value, c.in-Some.is) at c.in_ok-old.ensures.found h1 file stands).answer in
          let at = old_at (file_schema u) stands.slots (prime_entries (file_schema u) stands.places file.rows) file prime c.find_old.new.slot c.record_in-before.result.now c.in-Some.old is c.record_in-before.ensures.bytes in
          let moved = subst (λ p. (s : Stands u p file) × IsFoundIn s prime c.in-Some.old c.record_in-before.result.now) (sym live) (stands, at) in
          found.done honest kept file moved.0 moved.1;
      unmade = if_ok c.replace_old.result _ _ (λ x unmade none. let same = unmade none in (same.0, reads same.1)) found.unmade;
      begun = found.begun;
      room = λ honest file stands.
          let h1 = g.met.P.Pages.begins_honestly looked last found.keeps.begins honest in
          let still = subst (λ p. Stands u p file) (sym (g.met.P.Pages.reads_live start looked step h1)) stands in
          let is = (rw (c.value-prime.ensures.value, c.in-Some.is) at c.in_ok-old.ensures.found h1 file stands).answer in
          let at = old_at (file_schema u) stands.slots (prime_entries (file_schema u) stands.places file.rows) file prime c.find_old.new.slot c.record_in-before.result.now c.in-Some.old is c.record_in-before.ensures.bytes in
          rw (g.met.P.Pages.reads_available start looked step) at (found.room honest file still at.is_row);
      full = λ is. let full = found.full is in (full.0, reads full.1);
      lacks = λ is honest file stands.
          let h1 = g.met.P.Pages.begins_honestly looked last found.keeps.begins honest in
          let still = subst (λ p. Stands u p file) (sym (g.met.P.Pages.reads_live start looked step h1)) stands in
          let told = (rw (c.value-prime.ensures.value, c.in-Some.is) at c.in_ok-old.ensures.found h1 file stands).answer in
          let at = old_at (file_schema u) stands.slots (prime_entries (file_schema u) stands.places file.rows) file prime c.find_old.new.slot c.record_in-before.result.now c.in-Some.old told c.record_in-before.ensures.bytes in
          rw (g.met.P.Pages.reads_available start looked step) at (found.lacks is honest file still at.is_row);
      keeps = kept _ _ _ found.keeps.schema (g.met.P.Pages.begins_ready start last begins c.requires.can.ready.pages) found.keeps.shaped begins (omega (arith, c.find_old.ensures.reads.asked, found.keeps.asked, heights_few (prime_index_of u) (alternates_of u), levels_of_all (prime_index_of u) (alternates_of u)));
    }
