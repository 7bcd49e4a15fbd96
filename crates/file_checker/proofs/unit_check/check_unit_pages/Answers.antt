use Rattle.std.proofs.Common.{◌≡◌, ◌≤◌, ℕ, List, Result, length, inl, inr, refl, sym, ap, subst, ◌∙◌, arith}
use Rattle.std.specs.Prelude.{IfOk}
use Rattle.pages.proofs.ChunkLemmas.{length-chunks}
use Rattle.pages.specs.Chunks.{chunks}
use Rattle.page_store.specs.DeviceFile.{content}
use Rattle.page_store.specs.ShelfState.{ShelfState, OnlyAnswers, unit_file}
use Rattle.file_checker.specs.Asked.{first_pages_of}
use Rattle.file_checker.specs.Sound.{IsRightOfPages}
use Rattle.file_checker.specs.declared.verdict.Verdict.{Verdict}
use Rattle.std.specs.declared.alloc.AllocError.{AllocError}
use Rattle.file_checker.proofs.UnitLemmas.{holds_all, pages_of_file}
use Rattle.file_checker.proofs.unit_check.check_unit_pages.Goals as goal

pub new-pages-requires-clause-holds : goal.new-pages-requires-clause-holds
new-pages-requires-clause-holds g c = record {
  unit = c.requires.accepted.unit;
  file = λ honest. holds_all (unit_file (g.S.Shelf.state c.args.shelf) c.args.unit) c.args.header.now (c.requires.accepted.file honest);
}

pub check_counted-found-requires-clause-counted : goal.check_counted-found-requires-clause-counted
check_counted-found-requires-clause-counted g c = λ list has.
    let asked = g.A.UnitAsked in
    ap (λ (l : List (List ℕ)). length l) has.2 ∙ length-chunks 4096 asked.count (content (unit_file asked.before asked.unit)) ∙ sym c.requires.asked.1

pub returns-then-has_failed : goal.returns-then-has_failed
returns-then-has_failed g c =
    let asked = g.A.UnitAsked in
    let answered = c.into_shelf-shelf.ensures.answered in
    record {
      right = tt;
      only = subst (λ (s : ShelfState). OnlyAnswers s (g.S.Shelf.state c.into_shelf-shelf.result.0)) (sym c.requires.before.0) answered.only;
      no_fewer = subst (λ (n : ℕ). n ≤ g.S.Shelf.fault_count c.into_shelf-shelf.result.0) (sym c.requires.before.1) answered.no_fewer;
      fault = inr (refl, (let same = c.requires.before.1 in let rose = answered.counted (let yes = c.if-has_failed.true in cc) in omega (arith, same, rose)));
    }

pub returns-in-Ok : goal.returns-in-Ok
returns-in-Ok g c =
    let asked = g.A.UnitAsked in
    let header = c.args.header.now in
    let before = g.S.Shelf.state c.args.shelf in
    let after = g.S.Shelf.state c.into_shelf-shelf.result.0 in
    let answered = c.into_shelf-shelf.ensures.answered in
    let only = subst (λ (s : ShelfState). OnlyAnswers s after) (sym c.requires.before.0) answered.only in
    let file = unit_file before c.args.unit in
    record {
      right = λ honest.
          let list = first_pages_of asked.before asked.unit asked.count in
          let has = c.into_shelf-shelf.ensures.has c.if-has_failed.false honest in
          let right : IfOk c.check_counted-found.result (IsRightOfPages header list) = c.check_counted-found.ensures list has in
          let of_pages : IsRightOfPages header list c.in-Ok.verdict = subst (λ (r : Result Verdict AllocError). IfOk r (IsRightOfPages header list)) c.in-Ok.is right in
          let same : list ≡ chunks 4096 header.pages (content file) = ap (λ (s : ShelfState). first_pages_of s asked.unit asked.count) (sym c.requires.before.0)
          ∙ ap (λ (u : ℕ). first_pages_of before u asked.count) (sym c.requires.asked.0) ∙ ap (λ (k : ℕ). first_pages_of before c.args.unit k) (sym c.requires.asked.1) in
          subst (λ (l : List (List ℕ)). IsRightOfPages header l c.in-Ok.verdict) same of_pages (content file) (pages_of_file file header (c.requires.accepted.file (only.honest honest)));
      only = only;
      no_fewer = subst (λ (n : ℕ). n ≤ g.S.Shelf.fault_count c.into_shelf-shelf.result.0) (sym c.requires.before.1) answered.no_fewer;
      fault = tt;
    }

pub returns-in-Err : goal.returns-in-Err
returns-in-Err g c =
    let answered = c.into_shelf-shelf.ensures.answered in
    record {
      right = tt;
      only = subst (λ (s : ShelfState). OnlyAnswers s (g.S.Shelf.state c.into_shelf-shelf.result.0)) (sym c.requires.before.0) answered.only;
      no_fewer = subst (λ (n : ℕ). n ≤ g.S.Shelf.fault_count c.into_shelf-shelf.result.0) (sym c.requires.before.1) answered.no_fewer;
      fault = inl refl;
    }
