use Rattle.std.proofs.Common.{rules, ◌≡◌, ◌∙◌, refl, sym, ap, subst, false, None, IsTrue, arith}
use Rattle.std.specs.Box.{with_value}
use Rattle.page_cache.specs.declared.cache.Cache.{Cache}
use Rattle.page_cache.specs.HeldFrames.{Frame}
use Rattle.page_cache.specs.Cached.{frame_of, is_counted_page}
use Rattle.page_cache.proofs.QuietLemmas.{keeps_then, goes_then, reads_quietly}
use Rattle.page_cache.proofs.OverLemmas.{clean_same, keeps_read}
use Rattle.page_cache.proofs.CauseLemmas.{no_cause, cause_since, handed_on}
use Rattle.page_cache.proofs.PutLemmas.{Brought, brought}
use Rattle.page_cache.proofs.cache.Cache.bring.Goals as goal

pub returns-in_err-read_page : goal.returns-in_err-read_page
returns-in_err-read_page g c =
    let m = c.make_room.new.self in
    let d = record m { page = with_value m.page c.read_page.new.page } in
    let s = g.S.Shelf.state c.make_room.new.shelf in
    let t = g.S.Shelf.state c.read_page.new.shelf in
    let room = c.make_room.ensures.looks in
    let only = c.read_page.ensures.only in
    record {
      held = search rules;
      looks = record {
        kept = keeps_then c.args.self.now m d (g.S.Shelf.state c.args.shelf.now) s t room.kept (keeps_read m d s t refl refl only room.kept.over);
        asked = room.asked;
        grows = room.grows;
        looks = record { clean = λ clean. clean_same m d (λ _. refl) (room.looks.clean clean); file = λ clean. only.file ∙ room.looks.file clean };
        cause = handed_on c.from_residual-in_err-read_page.result _ _ _ c.from_residual-in_err-read_page.ensures.1
            (cause_since _ _ _ _ room.cause.no_fewer c.in_err-read_page.ensures.cause);
      };
    }

all : (g : _) (c : goal.After-put g) → Brought c.args.n c.make_room.new.self (record c.make_room.new.self { frames = c.put.new.self; page = with_value c.make_room.new.self.page c.read_page.new.page }) (g.S.Shelf.state c.make_room.new.shelf) (g.S.Shelf.state c.read_page.new.shelf)
all g c =
    let m = c.make_room.new.self in
    let frame : Frame = record { changed = false; page = c.deref.result.now } in
    let same = c.make_room.ensures.same in
    brought m (record m { frames = c.put.new.self; page = with_value m.page c.read_page.new.page }) (g.S.Shelf.state c.make_room.new.shelf) (g.S.Shelf.state c.read_page.new.shelf) c.in_ok-place.place c.args.n frame
    c.make_room.ensures.looks.kept.over c.in_ok-place.ensures.room
    (subst (λ (x : Cache). IsTrue (is_counted_page x c.args.n)) (sym same) c.requires.page) (subst (λ (x : Cache). frame_of x c.args.n ≡ None) (sym same) c.requires.absent)
    refl c.read_page.ensures.only refl (λ honest. c.deref.ensures ∙ c.in_ok-read_page.ensures.answer honest) c.put.ensures

pub returns : goal.returns
returns g c =
    let old = c.args.self.now in
    let s = g.S.Shelf.state c.make_room.new.shelf in
    let t = g.S.Shelf.state c.read_page.new.shelf in
    let room = c.make_room.ensures.looks in
    let only = c.read_page.ensures.only in
    record {
      held = (all g c).held;
      looks = record {
        kept = record {
          over = (all g c).over;
          pages = λ honest. (all g c).pages honest ∙ room.kept.pages (only.honest honest);
          keeps = record { store = room.kept.keeps.store; cap = ap (λ f. f.cap) c.put.ensures ∙ room.kept.keeps.cap };
          goes = goes_then old.store.unit (g.S.Shelf.state c.args.shelf.now) s t room.kept.goes (reads_quietly old.store.unit s t only);
        };
        asked = room.asked;
        grows = room.grows;
        looks = record { clean = λ clean. (all g c).clean (room.looks.clean clean); file = λ clean. only.file ∙ room.looks.file clean };
        cause = no_cause tt _ _ (let a = room.cause.no_fewer in let b = c.read_page.ensures.cause.no_fewer in omega arith);
      };
    }
