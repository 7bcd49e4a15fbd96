use Rattle.std.proofs.Common.{rules, refl, sym}
use Rattle.page_cache.specs.HeldFrames.{Frame}
use Rattle.page_cache.proofs.WriteLemmas.{held_at, held_low, looks_rewritten, written_at}
use Rattle.page_cache.proofs.cache.Cache.write.Goals as goal

pub write_back-requires : goal.write_back-requires
write_back-requires g c =
    let old = c.args.self.now in
    let frame : Frame = record { changed = c.at-n.result.1; page = c.at-n.result.2.now } in
    let held = held_at old c.args.place c.at-n.result.0 frame c.len-held.ensures.seated c.at-n.ensures in
    record {
      page = held_low old (g.S.Shelf.state c.args.shelf.now) c.at-n.result.0 frame c.requires.over held;
      stored = record { unit = c.requires.over.attached; pages = c.requires.over.pages };
    }

pub returns-in_err-write_back : goal.returns-in_err-write_back
returns-in_err-write_back g c =
    let old = c.args.self.now in
    let frame : Frame = record { changed = c.at-n.result.1; page = c.at-n.result.2.now } in
    let w = c.write_back.ensures in
    let held = held_at old c.args.place c.at-n.result.0 frame c.len-held.ensures.seated c.at-n.ensures in
    rw w.store (record {
      written = search rules;
      same = refl {a = old};
      looks = looks_rewritten g.S.Shelf.state g.S.Shelf.fault_count old c.args.shelf.now c.write_back.new.shelf c.at-n.result.0 frame _ c.requires.over held c.if-changed.true w.rewrites w.writes.goes (search rules);
    })

pub returns-in_ok-write_back : goal.returns-in_ok-write_back
returns-in_ok-write_back g c =
    let old = c.args.self.now in
    let frame : Frame = record { changed = c.at-n.result.1; page = c.at-n.result.2.now } in
    let w = c.write_back.ensures in
    let held = held_at old c.args.place c.at-n.result.0 frame c.len-held.ensures.seated c.at-n.ensures in
    rw w.store (record {
      written = written_at old (g.S.Shelf.state c.write_back.new.shelf) c.args.place c.at-n.result.0 frame c.at-n.ensures (λ honest. sym (c.in_ok-write_back.ensures.written honest));
      same = refl {a = old};
      looks = looks_rewritten g.S.Shelf.state g.S.Shelf.fault_count old c.args.shelf.now c.write_back.new.shelf c.at-n.result.0 frame _ c.requires.over held c.if-changed.true w.rewrites w.writes.goes c.in_ok-write_back.ensures.writes.cause;
    })

pub returns-else-changed : goal.returns-else-changed
returns-else-changed g c =
    let old = c.args.self.now in
    let frame : Frame = record { changed = c.at-n.result.1; page = c.at-n.result.2.now } in
    let held = held_at old c.args.place c.at-n.result.0 frame c.len-held.ensures.seated c.at-n.ensures in
    record {
      written = written_at old (g.S.Shelf.state c.args.shelf.now) c.args.place c.at-n.result.0 frame c.at-n.ensures (λ honest. c.requires.over.clean honest c.at-n.result.0 frame held c.if-changed.false);
      same = refl;
      looks = search rules;
    }
