use Rattle.std.proofs.Common.{rules, ◌∙◌, refl, sym, ap, false, Err, List, ℕ, arith}
use Rattle.std.specs.Box.{with_value}
use Rattle.page_cache.specs.HeldFrames.{Frame, held_frames, put_at}
use Rattle.page_cache.specs.Calls.{KeepsPages}
use Rattle.page_cache.proofs.QuietLemmas.{keeps_then}
use Rattle.page_cache.proofs.AddLemmas.{all_added, zeroed_put, goes_on_put, zeroed_then, goes_on_then}
use Rattle.page_cache.proofs.WriteLemmas.{at_err}
use Rattle.page_cache.proofs.CauseLemmas.{no_cause, cause_since, handed_on}
use Rattle.page_cache.proofs.cache.Cache.add.Goals as goal

pub returns-in_err-place : goal.returns-in_err-place
returns-in_err-place g c =
    let room = c.make_room.ensures.looks.kept in
    record {
      zeroed = search rules;
      kept = at_err c.from_residual.result (record { over = room.over; pages = room.pages; keeps = record { store = room.keeps.store; cap = room.keeps.cap }; goes = room.goes });
      goes_on = record { over = room.over; cap = room.keeps.cap; goes = room.goes };
      asked = search rules;
      grows = search rules;
      cause = handed_on c.from_residual.result _ _ _ c.from_residual.ensures.1 c.in_err-place.ensures.looks.cause;
    }

pub returns-in_err-write_zeros : goal.returns-in_err-write_zeros
returns-in_err-write_zeros g c =
    let old = c.args.self.now in
    let m = c.make_room.new.self in
    let d = record m { store = c.write_zeros.new.store; page = with_value m.page c.write_zeros.new.page } in
    let s = g.S.Shelf.state c.args.shelf.now in
    let t = g.S.Shelf.state c.make_room.new.shelf in
    let u = g.S.Shelf.state c.write_zeros.new.shelf in
    let room = c.make_room.ensures.looks.kept in
    let kept : KeepsPages old m s t = record { over = room.over; pages = room.pages; keeps = record { store = room.keeps.store; cap = room.keeps.cap }; goes = room.goes } in
    let w = c.write_zeros.ensures in
    let last = c.requires.page.1 ∙ sym (ap (λ x. x.pages) room.keeps.store) in
    let all = all_added m d t u c.args.n c.requires.page.0 last refl w.extends room.over w.writes.goes (Err c.in_err-write_zeros.field-0.0) tt c.in_err-write_zeros.ensures.added tt in
    record {
      zeroed = search rules;
      kept = at_err c.from_residual-in_err-write_zeros.result (keeps_then old m d s t u kept all.kept);
      goes_on = goes_on_then old m d s t u kept all.goes_on;
      asked = search rules;
      grows = search rules;
      cause = handed_on c.from_residual-in_err-write_zeros.result _ _ _ c.from_residual-in_err-write_zeros.ensures.1
          (cause_since _ _ _ _ c.make_room.ensures.looks.cause.no_fewer c.in_err-write_zeros.ensures.writes.cause);
    }

pub returns : goal.returns
returns g c =
    let old = c.args.self.now in
    let m = c.make_room.new.self in
    let e = record m { store = c.write_zeros.new.store; page = with_value m.page c.write_zeros.new.page } in
    let d = record e { frames = c.put.new.self } in
    let s = g.S.Shelf.state c.args.shelf.now in
    let t = g.S.Shelf.state c.make_room.new.shelf in
    let u = g.S.Shelf.state c.write_zeros.new.shelf in
    let room = c.make_room.ensures.looks.kept in
    let kept : KeepsPages old m s t = record { over = room.over; pages = room.pages; keeps = record { store = room.keeps.store; cap = room.keeps.cap }; goes = room.goes } in
    let w = c.write_zeros.ensures in
    let frame : Frame = record { changed = false; page = c.write_zeros.new.page } in
    let place = c.in_ok-place.place in
    let last = c.requires.page.1 ∙ sym (ap (λ x. x.pages) room.keeps.store) in
    let put = c.put.ensures ∙ ap (λ (page : List ℕ). held_frames (put_at place (c.args.n, record { changed = false; page = page }) m.frames.entries) m.frames.cap) c.deref.ensures in
    record {
      zeroed = zeroed_then c.args.n old m d s t u kept w.writes.goes
          (zeroed_put m e d t u place c.args.n frame c.requires.page.0 last room.over c.in_ok-place.ensures.room refl w.extends w.writes.goes c.in_ok-write_zeros.ensures.added w.zeros refl refl put);
      kept = tt;
      goes_on = goes_on_then old m d s t u kept
          (goes_on_put m e d t u place c.args.n frame c.requires.page.0 last room.over c.in_ok-place.ensures.room refl w.extends w.writes.goes c.in_ok-write_zeros.ensures.added w.zeros refl refl put);
      asked = search rules;
      grows = search rules;
      cause = no_cause tt _ _ (let a = c.make_room.ensures.looks.cause.no_fewer in let b = w.writes.cause.no_fewer in omega arith);
    }
