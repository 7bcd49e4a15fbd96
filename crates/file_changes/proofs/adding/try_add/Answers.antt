use Rattle.std.proofs.Common.{◌^◌, ◌||◌, ap, refl, sym, subst, ◌∙◌, arith}
use Rattle.std.specs.Prelude.{nat_lt, nat_le}
use Rattle.indexed_file.specs.Room.{need_of_add}
use Rattle.indexed_file.specs.Change.{clashes}
use Rattle.open_file.specs.Fields.{alternates_of, next_stamp_of, prime_index_of, file_schema}
use Rattle.open_file.specs.Stands.{Stands, heights_of}
use Rattle.pages.proofs.CauseLemmas.{fails_since}
use Rattle.open_file.proofs.LookLemmas.{done_is, clash_is, has_room}
use Rattle.file_changes.proofs.EndingLemmas.{kept, stopped, lacking, not_made, made}
use Rattle.file_changes.proofs.LevelLemmas.{need_in, heights_few, levels_of_all}
use Rattle.file_changes.proofs.adding.try_add.Goals as goal

pub returns-in_err-repeated-clause-adds : goal.returns-in_err-repeated-clause-adds
returns-in_err-repeated-clause-adds g c =
    let start = c.args.pages.now in
    let looked = c.adding.new.pages in
    let begins = g.met.P.Pages.writes_begins start looked (g.met.P.Pages.reads_writes start looked c.adding.ensures.reads.step) in
    stopped _ _ _ _ c.from_residual.result _ c.from_residual.ensures.1 c.in_err-repeated.ensures.reads.cause.full
    (λ honest sound file stands. (c.in_err-repeated.ensures.found honest file stands).no_damage)
    (kept _ _ _ refl (g.met.P.Pages.begins_ready start looked begins c.requires.ready.pages) c.requires.ready.shaped begins (omega (arith, c.adding.ensures.reads.asked, heights_few (prime_index_of c.args.opened.now) (alternates_of c.args.opened.now), levels_of_all (prime_index_of c.args.opened.now) (alternates_of c.args.opened.now))))

pub returns-in_default-clause-adds : goal.returns-in_default-clause-adds
returns-in_default-clause-adds g c =
    let u = c.args.opened.now in
    let start = c.args.pages.now in
    let looked = c.adding.new.pages in
    let step = c.adding.ensures.reads.step in
    let begins = g.met.P.Pages.writes_begins start looked (g.met.P.Pages.reads_writes start looked step) in
    not_made _ _ _ _ _ refl (refl, step)
    (λ honest sound file stands.
    let told = (rw c.in_default.is at c.in_ok-repeated.ensures.found honest file stands).answer in
    let clash = clash_is (file_schema u) c.args.bytes.now file told in
    let still = subst (λ p. Stands u p file) (sym (g.met.P.Pages.reads_live start looked step honest)) stands in
    record { answers = told; stands = rw clash still; sound = g.met.P.Pages.reads_sound start looked step honest ∙ sound })
    (λ honest file stands.
    let told = (rw c.in_default.is at c.in_ok-repeated.ensures.found honest file stands).answer in
    let clash = clash_is (file_schema u) c.args.bytes.now file told in
    rw clash refl)
    (kept _ _ _ refl (g.met.P.Pages.begins_ready start looked begins c.requires.ready.pages) c.requires.ready.shaped begins (omega (arith, c.adding.ensures.reads.asked, heights_few (prime_index_of u) (alternates_of u), levels_of_all (prime_index_of u) (alternates_of u))))

pub returns-then-is_full-clause-adds : goal.returns-then-is_full-clause-adds
returns-then-is_full-clause-adds g c =
    let u = c.args.opened.now in
    let start = c.args.pages.now in
    let looked = c.adding.new.pages in
    let step = c.adding.ensures.reads.step in
    let begins = g.met.P.Pages.writes_begins start looked (g.met.P.Pages.reads_writes start looked step) in
    let left = c.pages_left.ensures ∙ g.met.P.Pages.reads_available start looked step in
    let full = ap (λ n. nat_lt n (need_of_add (heights_of u)) || nat_le (2 ^ 63) (next_stamp_of u)) (sym left) ∙ sym c.is_full.ensures ∙ c.if-is_full.true in
    lacking _ _ _ _ (refl, step) (λ honest file stands. (done_is (file_schema u) c.args.bytes.now file c.in-Done.repeated (rw c.in-Done.is at c.in_ok-repeated.ensures.found honest file stands).answer, ap (λ n. nat_lt (g.P.Pages.shown.state start).available (need_of_add (heights_of u)) || nat_le (2 ^ 63) n) (sym stands.stamp) ∙ full))
    (kept _ _ _ refl (g.met.P.Pages.begins_ready start looked begins c.requires.ready.pages) c.requires.ready.shaped begins (omega (arith, c.adding.ensures.reads.asked, heights_few (prime_index_of u) (alternates_of u), levels_of_all (prime_index_of u) (alternates_of u))))

pub returns-in_err-begin-clause-adds : goal.returns-in_err-begin-clause-adds
returns-in_err-begin-clause-adds g c =
    let u = c.args.opened.now in
    let start = c.args.pages.now in
    let looked = c.adding.new.pages in
    let begun = c.begin.new.self in
    let begins = g.met.P.Pages.begins_on start looked begun (g.met.P.Pages.writes_begins start looked (g.met.P.Pages.reads_writes start looked c.adding.ensures.reads.step)) c.begin.ensures.begins in
    stopped _ _ _ _ c.from_residual-in_err-begin.result _ c.from_residual-in_err-begin.ensures.1 c.in_err-begin.ensures.cause.full
    (λ honest sound file stands. c.in_err-begin.ensures.damage)
    (kept _ _ _ refl (g.met.P.Pages.begins_ready start begun begins c.requires.ready.pages) c.requires.ready.shaped begins (omega (arith, c.adding.ensures.reads.asked, c.begin.ensures.asked, heights_few (prime_index_of u) (alternates_of u), levels_of_all (prime_index_of u) (alternates_of u))))

pub returns-in_err-put_in-clause-adds : goal.returns-in_err-put_in-clause-adds
returns-in_err-put_in-clause-adds g c =
    let u = c.args.opened.now in
    let start = c.args.pages.now in
    let looked = c.adding.new.pages in
    let begun = c.begin.new.self in
    let last = c.put_in.new.pages in
    let step = c.adding.ensures.reads.step in
    let begins = g.met.P.Pages.begins_on start begun last
    (g.met.P.Pages.begins_on start looked begun (g.met.P.Pages.writes_begins start looked (g.met.P.Pages.reads_writes start looked step)) c.begin.ensures.begins)
    (g.met.P.Pages.writes_begins begun last c.put_in.ensures.writes.step) in
    stopped _ _ _ _ c.from_residual-in_err-put_in.result _ c.from_residual-in_err-put_in.ensures.1 c.in_err-put_in.ensures.writes.cause.full
    (λ honest sound file stands.
    let h2 = g.met.P.Pages.writes_honestly begun last c.put_in.ensures.writes.step honest in
    let h1 = g.met.P.Pages.begins_honestly looked begun c.begin.ensures.begins h2 in
    let live = c.begin.ensures.rests.live h2 ∙ g.met.P.Pages.reads_live start looked step h1 in
    let still = subst (λ p. Stands u p file) (sym live) stands in
    let kept = c.begin.ensures.rests.sound h2 ∙ g.met.P.Pages.reads_sound start looked step h1 ∙ sound in
    let told = (rw c.in-Done.is at c.in_ok-repeated.ensures.found h1 file stands).answer in
    let free = done_is (file_schema u) c.args.bytes.now file c.in-Done.repeated told in
    (c.in_err-put_in.ensures.done honest kept file still free).no_damage)
    (kept _ _ _ c.put_in.ensures.keeps.schema (g.met.P.Pages.begins_ready start last begins c.requires.ready.pages) c.put_in.ensures.keeps.shaped begins (omega (arith, c.adding.ensures.reads.asked, c.begin.ensures.asked, c.put_in.ensures.writes.asked, need_in (prime_index_of u) (alternates_of u), heights_few (prime_index_of u) (alternates_of u), levels_of_all (prime_index_of u) (alternates_of u))))

pub returns-in_err-put_in-clause-keeps : goal.returns-in_err-put_in-clause-keeps
returns-in_err-put_in-clause-keeps g c =
    let moves = g.met.P.Pages.begins_on c.args.pages.now c.adding.new.pages c.begin.new.self
    (g.met.P.Pages.writes_begins c.args.pages.now c.adding.new.pages (g.met.P.Pages.reads_writes c.args.pages.now c.adding.new.pages c.adding.ensures.reads.step)) c.begin.ensures.begins in
    record {
      cause = fails_since c.from_residual-in_err-put_in.result _ _ _ _ _ c.from_residual-in_err-put_in.ensures.1
          (λ failed. g.met.P.Pages.failed_later c.args.pages.now c.begin.new.self c.put_in.new.pages moves failed) (λ none. tt) c.in_err-put_in.ensures.writes.cause;
      broken = c.put_in.ensures.keeps.broken;
    }

pub returns-clause-adds : goal.returns-clause-adds
returns-clause-adds g c =
    let u = c.args.opened.now in
    let start = c.args.pages.now in
    let looked = c.adding.new.pages in
    let begun = c.begin.new.self in
    let last = c.put_in.new.pages in
    let step = c.adding.ensures.reads.step in
    let begins = g.met.P.Pages.begins_on start begun last
    (g.met.P.Pages.begins_on start looked begun (g.met.P.Pages.writes_begins start looked (g.met.P.Pages.reads_writes start looked step)) c.begin.ensures.begins)
    (g.met.P.Pages.writes_begins begun last c.put_in.ensures.writes.step) in
    made _ _ _ _ _ refl (g.met.P.Pages.writes_changing begun last c.put_in.ensures.writes.step c.in_ok-begin.ensures.open)
    (λ honest sound file stands.
    let h2 = g.met.P.Pages.writes_honestly begun last c.put_in.ensures.writes.step honest in
    let h1 = g.met.P.Pages.begins_honestly looked begun c.begin.ensures.begins h2 in
    let live = c.begin.ensures.rests.live h2 ∙ g.met.P.Pages.reads_live start looked step h1 in
    let still = subst (λ p. Stands u p file) (sym live) stands in
    let kept = c.begin.ensures.rests.sound h2 ∙ g.met.P.Pages.reads_sound start looked step h1 ∙ sound in
    let told = (rw c.in-Done.is at c.in_ok-repeated.ensures.found h1 file stands).answer in
    let free = done_is (file_schema u) c.args.bytes.now file c.in-Done.repeated told in
    let done = (c.in_ok-put_in.ensures.done honest kept file still free).answer in
    record { answers = told; stands = rw free done.0; sound = done.1 })
    (λ honest file stands.
    let left = c.pages_left.ensures ∙ g.met.P.Pages.reads_available start looked step in
    let room = ap (λ n. nat_lt n (need_of_add (heights_of u)) || nat_le (2 ^ 63) (next_stamp_of u)) (sym left) ∙ sym c.is_full.ensures ∙ c.if-is_full.false in
    has_room (heights_of u) (g.P.Pages.shown.state start).available (next_stamp_of u) (clashes (file_schema u) c.args.bytes.now file.rows) file stands.stamp room)
    (kept _ _ _ c.put_in.ensures.keeps.schema (g.met.P.Pages.begins_ready start last begins c.requires.ready.pages) c.put_in.ensures.keeps.shaped begins (omega (arith, c.adding.ensures.reads.asked, c.begin.ensures.asked, c.put_in.ensures.writes.asked, need_in (prime_index_of u) (alternates_of u), heights_few (prime_index_of u) (alternates_of u), levels_of_all (prime_index_of u) (alternates_of u))))
