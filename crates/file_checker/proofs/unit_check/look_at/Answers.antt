use Rattle.std.proofs.Common.{length, refl, sym, ap, subst, ◌∙◌, arith}
use Rattle.page_store.specs.DeviceFile.{DeviceFile, content}
use Rattle.page_store.specs.Calls.{ReadsBytes}
use Rattle.page_store.specs.ShelfState.{unit_file}
use Rattle.page_store.proofs.GateLemmas.{same_file}
use Rattle.file_checker.proofs.UnitLemmas.{only_then, none_there, still_there, first_read, look_is}
use Rattle.file_checker.proofs.unit_check.look_at.Goals as goal

pub returns-then-not-branch-clause-look : goal.returns-then-not-branch-clause-look
returns-then-not-branch-clause-look g c = record {
  answer = λ honest. none_there (unit_file (g.S.Shelf.state c.args.shelf.now) c.args.unit) _ (c.in_ok-exists.ensures.answer honest) c.if-not-branch.true;
  only = c.exists.ensures.only;
  cause = record { no_fewer = c.exists.ensures.cause.no_fewer; counted = tt; device = tt };
}

pub returns-clause-look : goal.returns-clause-look
returns-clause-look g c =
    let old = g.S.Shelf.state c.args.shelf.now in
    let mid = g.S.Shelf.state c.exists.new.self in
    let two = g.S.Shelf.state c.size.new.self in
    let now = g.S.Shelf.state c.read_at.new.self in
    let only = only_then old mid two c.exists.ensures.only c.size.ensures.only in
    record {
      answer = λ honest.
          let file = unit_file old c.args.unit in
          let honest_two = c.read_at.ensures.only.honest honest in
          let is = c.in_ok-size.ensures.answer honest_two ∙ ap (λ (f : DeviceFile). length (content f)) (same_file old mid c.args.unit c.exists.ensures.only) in
          let there = still_there old old c.args.unit 4096 _ (record { names = refl; file = refl; honest = λ h. h }) (c.in_ok-exists.ensures.answer (c.size.ensures.only.honest honest_two)) c.if-not-branch.false (omega (arith, is)) in
          let read = subst (λ (f : DeviceFile). ReadsBytes f 0 c.read_at.new.bytes) (same_file old two c.args.unit only) (c.in_ok-read_at.ensures.answer honest) in
          look_is file c.first_look.result there (c.first_look.ensures.look (content file) (sym is) (first_read file c.read_at.new.bytes c.read_at.auto.bytes read));
      only = only_then old two now only c.read_at.ensures.only;
      cause = record {
        no_fewer = (let a = c.exists.ensures.cause.no_fewer in let b = c.size.ensures.cause.no_fewer in let d = c.read_at.ensures.cause.no_fewer in omega (arith, a, b, d));
        counted = tt;
        device = tt;
      };
    }
