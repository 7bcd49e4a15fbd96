use Rattle.std.proofs.Common.{rules, ◌≡◌, ◌∙◌, refl, sym, ap, subst, true, None, IsTrue, length}
use Rattle.std.specs.Box.{with_value}
use Rattle.page_cache.specs.declared.cache.Cache.{Cache}
use Rattle.page_cache.specs.HeldFrames.{Frame}
use Rattle.page_cache.specs.Cached.{frame_of, is_counted_page}
use Rattle.page_cache.specs.Rewrites.{IsZeros}
use Rattle.page_cache.proofs.QuietLemmas.{goes_nowhere}
use Rattle.page_cache.proofs.AddLemmas.{zeros_page, zeroed_then, goes_on_then}
use Rattle.page_cache.proofs.CauseLemmas.{no_cause}
use Rattle.page_cache.proofs.PutLemmas.{Blanked, blanked}
use Rattle.page_cache.proofs.cache.Cache.hold_zeros.Goals as goal

all : (g : _) (c : goal.After-put g) → Blanked c.args.n c.make_room.new.self (record c.make_room.new.self { frames = c.put.new.self; page = with_value c.make_room.new.self.page c.fill.new.self }) (g.S.Shelf.state c.make_room.new.shelf)
all g c =
    let m = c.make_room.new.self in
    let frame : Frame = record { changed = true; page = c.deref.result.now } in
    let same = c.make_room.ensures.same in
    let zeros = zeros_page c.fill.new.self _ (c.fill.ensures.after (λ y is. is)) (c.fill.ensures.len ∙ whole) in
    blanked m (record m { frames = c.put.new.self; page = with_value m.page c.fill.new.self }) (g.S.Shelf.state c.make_room.new.shelf) c.in_ok-place.place c.args.n frame
    c.make_room.ensures.looks.kept.over c.in_ok-place.ensures.room
    (subst (λ (x : Cache). IsTrue (is_counted_page x c.args.n)) (sym same) c.requires.page) (subst (λ (x : Cache). frame_of x c.args.n ≡ None) (sym same) c.requires.absent)
    refl refl (subst IsZeros (sym c.deref.ensures) zeros) c.put.ensures
  where
    whole : length c.deref_mut.result.now ≡ 4096
    whole = search rules

pub returns : goal.returns
returns g c =
    let old = c.args.self.now in
    let m = c.make_room.new.self in
    let d = record m { frames = c.put.new.self; page = with_value m.page c.fill.new.self } in
    let s = g.S.Shelf.state c.args.shelf.now in
    let t = g.S.Shelf.state c.make_room.new.shelf in
    let room = c.make_room.ensures.looks in
    record {
      zeroed = zeroed_then c.args.n old m d s t t room.kept (goes_nowhere m.store.unit t) (all g c).zeroed;
      kept = tt;
      goes_on = goes_on_then old m d s t t room.kept (record { over = (all g c).over; cap = ap (λ f. f.cap) c.put.ensures; goes = goes_nowhere m.store.unit t });
      asked = room.asked;
      grows = room.grows;
      cause = no_cause tt _ _ room.cause.no_fewer;
    }
