use Rattle.std.proofs.Common.{◌≡◌, Bool, true, false, not, ◌||◌, refl, sym, ap, ◌∙◌, arith, IsTrue}
use Rattle.indexed_file.specs.Change.{clashes_with_others}
use Rattle.indexed_file.specs.Room.{is_full_to_replace}
use Rattle.file_changes.specs.Old.{row_with}
use Rattle.file_changes.specs.Replacing.{is_full_for}
use Rattle.open_file.specs.Fields.{file_schema}
use Rattle.open_file.specs.Stands.{room_of}
use Rattle.pages.proofs.CauseLemmas.{fails_since}
use Rattle.file_changes.proofs.EndingLemmas.{found_kept, found_stopped}
use Rattle.file_changes.proofs.ReplacedLemmas.{is_change, can_put_over, has_replaced, has_clashed, clashed, not_clashed, only_clash}
use Rattle.file_changes.proofs.FoundLemmas.{parts_later}
use Rattle.file_changes.proofs.FullLemmas.{full_is, room_is, stamp_is, need_within}
use Rattle.file_changes.proofs.replacing.replace_old.Goals as goal

pub put_over-requires : goal.put_over-requires
put_over-requires g c =
    let u = c.args.opened.now in
    let start = c.args.pages.now in
    let looked = c.replacing.new.pages in
    let begun = c.begin.new.self in
    let begins = g.met.P.Pages.begins_on start looked begun (g.met.P.Pages.writes_begins start looked (g.met.P.Pages.reads_writes start looked c.replacing.ensures.reads.step)) c.begin.ensures.begins in
    let full = sym c.is_full_to_change.ensures ∙ c.if-is_full_to_change.false in
    let room = room_is u c.pages_left.result c.args.before.now c.args.bytes.now full in
    record {
      can = record {
        ready = g.met.P.Pages.begins_ready start begun begins c.requires.can.ready.pages;
        gate = c.in_ok-begin.ensures.open;
        shaped = c.requires.can.ready.shaped;
        least = c.requires.can.least;
        greatest = c.requires.can.greatest;
      };
      old = c.requires.old;
      room = record {
        room = omega (arith, room, c.pages_left.ensures, c.begin.ensures.rests.available);
        stamps = stamp_is u c.pages_left.result c.args.before.now c.args.bytes.now full;
      };
    }

pub returns-in_err-repeated-clause-replaces : goal.returns-in_err-repeated-clause-replaces
returns-in_err-repeated-clause-replaces g c =
    let start = c.args.pages.now in
    let now = c.replacing.new.pages in
    let row = row_with c.args.before.now c.args.old.now.stamps.items in
    found_stopped _ _ _ _ _ _ c.from_residual.result _ c.from_residual.ensures.1 c.in_err-repeated.ensures.reads.cause.full
    (λ honest sound file stands at. (c.in_err-repeated.ensures.found honest file stands row at.is_row refl).no_damage)
    (found_kept _ _ _ refl refl c.requires.can.ready.shaped (g.met.P.Pages.writes_begins start now (g.met.P.Pages.reads_writes start now c.replacing.ensures.reads.step)) (omega (arith, c.replacing.ensures.reads.asked)))

pub returns-in_default-clause-replaces : goal.returns-in_default-clause-replaces
returns-in_default-clause-replaces g c =
    let u = c.args.opened.now in
    let start = c.args.pages.now in
    let now = c.replacing.new.pages in
    let step = c.replacing.ensures.reads.step in
    let row = row_with c.args.before.now c.args.old.now.stamps.items in
    let is = only_clash c.in_ok-repeated.field-0 c.in_ok-repeated.ensures.some c.in_default.not-Done in
    record {
      done = λ honest sound file stands at.
          let told = (rw is at c.in_ok-repeated.ensures.found honest file stands row at.is_row refl).answer in
          record {
            answer = has_clashed u (g.P.Pages.shown.state start).live (g.P.Pages.shown.state now).live (IsTrue (g.P.Pages.shown.state now).is_sound) c.args.bytes.now file row stands
                (g.met.P.Pages.reads_live start now step honest) at.is_row told (g.met.P.Pages.reads_sound start now step honest ∙ sound);
            no_damage = tt;
          };
      unmade = λ none. (refl, step);
      begun = λ made. absurd (cc);
      room = λ honest file stands has.
          let told = (rw is at c.in_ok-repeated.ensures.found honest file stands row has refl).answer in
          rw (clashed (file_schema u) c.args.bytes.now file row told) refl;
      full = λ same. absurd (cc);
      lacks = λ same. absurd (cc);
      keeps = found_kept _ _ _ refl refl c.requires.can.ready.shaped (g.met.P.Pages.writes_begins start now (g.met.P.Pages.reads_writes start now step)) (omega (arith, c.replacing.ensures.reads.asked));
    }

pub returns-then-is_full_to_change-clause-replaces : goal.returns-then-is_full_to_change-clause-replaces
returns-then-is_full_to_change-clause-replaces g c =
    let u = c.args.opened.now in
    let start = c.args.pages.now in
    let now = c.replacing.new.pages in
    let step = c.replacing.ensures.reads.step in
    record {
      done = λ honest sound file stands at. record { answer = tt; no_damage = λ same. cc };
      unmade = tt;
      begun = tt;
      room = λ honest file stands is. tt;
      full = λ same. (refl, step);
      lacks = λ same honest file stands is.
          let row = row_with c.args.before.now c.args.old.now.stamps.items in
          let told = (rw c.in-Done.is at c.in_ok-repeated.ensures.found honest file stands row is refl).answer in
          let left : c.pages_left.result ≡ (g.P.Pages.shown.state start).available = c.pages_left.ensures ∙ g.met.P.Pages.reads_available start now step in
          let full = sym c.is_full_to_change.ensures ∙ c.if-is_full_to_change.true in (
            not_clashed (file_schema u) c.args.bytes.now file row c.in-Done.repeated told,
            full_is u (g.P.Pages.shown.state start).live c.args.bytes.now file row (g.P.Pages.shown.state start).available stands c.requires.can.ready.shaped is
                ∙ ap (λ n. is_full_for u n c.args.before.now c.args.bytes.now) (sym left) ∙ full,
          );
      keeps = found_kept _ _ _ refl refl c.requires.can.ready.shaped (g.met.P.Pages.writes_begins start now (g.met.P.Pages.reads_writes start now step)) (omega (arith, c.replacing.ensures.reads.asked));
    }

pub returns-in_err-begin-clause-replaces : goal.returns-in_err-begin-clause-replaces
returns-in_err-begin-clause-replaces g c =
    let start = c.args.pages.now in
    let looked = c.replacing.new.pages in
    let begun = c.begin.new.self in
    found_stopped _ _ _ _ _ _ c.from_residual-in_err-begin.result _ c.from_residual-in_err-begin.ensures.1 c.in_err-begin.ensures.cause.full
    (λ honest sound file stands at. c.in_err-begin.ensures.damage)
    (found_kept _ _ _ refl refl c.requires.can.ready.shaped (g.met.P.Pages.begins_on start looked begun (g.met.P.Pages.writes_begins start looked (g.met.P.Pages.reads_writes start looked c.replacing.ensures.reads.step)) c.begin.ensures.begins) (omega (arith, c.replacing.ensures.reads.asked, c.begin.ensures.asked)))

pub returns-in_err-put_over-clause-replaces : goal.returns-in_err-put_over-clause-replaces
returns-in_err-put_over-clause-replaces g c =
    let u = c.args.opened.now in
    let start = c.args.pages.now in
    let looked = c.replacing.new.pages in
    let begun = c.begin.new.self in
    let last = c.put_over.new.pages in
    let row = row_with c.args.before.now c.args.old.now.stamps.items in
    found_stopped _ _ _ _ _ _ c.from_residual-in_err-put_over.result _ c.from_residual-in_err-put_over.ensures.1 c.in_err-put_over.ensures.writes.cause.full
    (λ honest sound file stands at.
    let h2 = g.met.P.Pages.writes_honestly begun last c.put_over.ensures.writes.step honest in
    let h1 = g.met.P.Pages.begins_honestly looked begun c.begin.ensures.begins h2 in
    let live = c.begin.ensures.rests.live h2 ∙ g.met.P.Pages.reads_live start looked c.replacing.ensures.reads.step h1 in
    let kept = c.begin.ensures.rests.sound h2 ∙ g.met.P.Pages.reads_sound start looked c.replacing.ensures.reads.step h1 ∙ sound in
    let told = (rw c.in-Done.is at c.in_ok-repeated.ensures.found h1 file stands row at.is_row refl).answer in
    let clash = not_clashed (file_schema u) c.args.bytes.now file row c.in-Done.repeated told in
    let change = is_change u c.args.bytes.now file row c.requires.can.ready.shaped stands.sound c.requires.can.least c.requires.can.greatest at.is_row clash in
    let can = can_put_over u (g.P.Pages.shown.state start).live c.args.bytes.now file c.args.old.now.place row stands c.requires.can.ready.shaped at change in
    let parts = parts_later stands live in
    (c.in_err-put_over.ensures.over honest kept stands.slots _ _ parts can).no_damage)
    (found_kept _ _ _ c.put_over.ensures.file.schema c.put_over.ensures.file.broken c.put_over.ensures.file.shaped (g.met.P.Pages.begins_on start begun last (g.met.P.Pages.begins_on start looked begun (g.met.P.Pages.writes_begins start looked (g.met.P.Pages.reads_writes start looked c.replacing.ensures.reads.step)) c.begin.ensures.begins) (g.met.P.Pages.writes_begins begun last c.put_over.ensures.writes.step)) (omega (arith, c.replacing.ensures.reads.asked, c.begin.ensures.asked, c.put_over.ensures.writes.asked, need_within u c.args.before.now c.args.bytes.now)))

or_not : (a b : Bool) → b ≡ false → (a || not b) ≡ true
or_not true b none = refl
or_not false b none = ap not none

pub returns-clause-replaces : goal.returns-clause-replaces
returns-clause-replaces g c =
    let u = c.args.opened.now in
    let start = c.args.pages.now in
    let looked = c.replacing.new.pages in
    let begun = c.begin.new.self in
    let last = c.put_over.new.pages in
    let step = c.replacing.ensures.reads.step in
    let row = row_with c.args.before.now c.args.old.now.stamps.items in
    let passes = sym c.is_full_to_change.ensures ∙ c.if-is_full_to_change.false in
    record {
      done = λ honest sound file stands at.
          let h2 = g.met.P.Pages.writes_honestly begun last c.put_over.ensures.writes.step honest in
          let h1 = g.met.P.Pages.begins_honestly looked begun c.begin.ensures.begins h2 in
          let live = c.begin.ensures.rests.live h2 ∙ g.met.P.Pages.reads_live start looked step h1 in
          let kept = c.begin.ensures.rests.sound h2 ∙ g.met.P.Pages.reads_sound start looked step h1 ∙ sound in
          let told = (rw c.in-Done.is at c.in_ok-repeated.ensures.found h1 file stands row at.is_row refl).answer in
          let clash = not_clashed (file_schema u) c.args.bytes.now file row c.in-Done.repeated told in
          let change = is_change u c.args.bytes.now file row c.requires.can.ready.shaped stands.sound c.requires.can.least c.requires.can.greatest at.is_row clash in
          let can = can_put_over u (g.P.Pages.shown.state start).live c.args.bytes.now file c.args.old.now.place row stands c.requires.can.ready.shaped at change in
          let parts = parts_later stands live in
          let limit = stamp_is u c.pages_left.result c.args.before.now c.args.bytes.now passes in
          let over = (c.in_ok-put_over.ensures.over honest kept stands.slots _ _ parts can).answer in
          record {
            answer = has_replaced u c.put_over.new.opened (g.P.Pages.shown.state start).live (g.P.Pages.shown.state last).live (IsTrue (g.P.Pages.shown.state last).is_sound) c.args.bytes.now file c.args.old.now.place row _ stands
                c.requires.can.ready.shaped c.put_over.ensures.file.shaped at change clash limit c.in_ok-put_over.ensures.file.rest told over;
            no_damage = tt;
          };
      unmade = λ none. absurd (cc);
      begun = λ made. g.met.P.Pages.writes_changing begun last c.put_over.ensures.writes.step c.in_ok-begin.ensures.open;
      room = λ honest file stands is.
          let left : c.pages_left.result ≡ (g.P.Pages.shown.state start).available = c.pages_left.ensures ∙ g.met.P.Pages.reads_available start looked step in
          let none = full_is u (g.P.Pages.shown.state start).live c.args.bytes.now file row (g.P.Pages.shown.state start).available stands c.requires.can.ready.shaped is
          ∙ ap (λ n. is_full_for u n c.args.before.now c.args.bytes.now) (sym left) ∙ passes in
          or_not (clashes_with_others (file_schema u) c.args.bytes.now file) (is_full_to_replace (room_of u (g.P.Pages.shown.state start).available) (file_schema u) c.args.bytes.now file) none;
      full = λ same. absurd (cc);
      lacks = λ same. absurd (cc);
      keeps = found_kept _ _ _ c.put_over.ensures.file.schema c.put_over.ensures.file.broken c.put_over.ensures.file.shaped (g.met.P.Pages.begins_on start begun last (g.met.P.Pages.begins_on start looked begun (g.met.P.Pages.writes_begins start looked (g.met.P.Pages.reads_writes start looked step)) c.begin.ensures.begins) (g.met.P.Pages.writes_begins begun last c.put_over.ensures.writes.step)) (omega (arith, c.replacing.ensures.reads.asked, c.begin.ensures.asked, c.put_over.ensures.writes.asked, need_within u c.args.before.now c.args.bytes.now));
    }

pub returns-in_err-put_over-clause-cause : goal.returns-in_err-put_over-clause-cause
returns-in_err-put_over-clause-cause g c =
    let start = c.args.pages.now in
    let looked = c.replacing.new.pages in
    let begun = c.begin.new.self in
    let moves = g.met.P.Pages.begins_on start looked begun (g.met.P.Pages.writes_begins start looked (g.met.P.Pages.reads_writes start looked c.replacing.ensures.reads.step)) c.begin.ensures.begins in
    fails_since c.from_residual-in_err-put_over.result _ _ _ _ _ c.from_residual-in_err-put_over.ensures.1 (λ failed. g.met.P.Pages.failed_later start begun c.put_over.new.pages moves failed) (λ x. tt) c.in_err-put_over.ensures.writes.cause
