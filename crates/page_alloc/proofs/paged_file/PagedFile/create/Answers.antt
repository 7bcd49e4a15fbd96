use Rattle.std.proofs.Common.{rules, ◌≡◌, ◌≤◌, ◌∙◌, sym, ap, subst, arith, IsTrue, inl, inr}
use Rattle.page_store.proofs.OpenLemmas.{opened_open, open_kept, all_refused}
use Rattle.page_store.specs.ShelfState.{HasUnit, unit_file}
use Rattle.page_store.specs.Moments.{IsQuiet}
use Rattle.page_store.specs.Gate.{AllOpen}
use Rattle.page_cache.proofs.CauseLemmas.{no_cause, cause_since, handed_on}
use Rattle.page_alloc.proofs.OpenLemmas.{made_quietly}
use Rattle.page_alloc.proofs.JoinLemmas.{at_err_where}
use Rattle.page_alloc.proofs.paged_file.PagedFile.create.Goals as goal

pub returns-in_err-write_page-clause-opens : goal.returns-in_err-write_page-clause-opens
returns-in_err-write_page-clause-opens g c =
    let unit = c.args.unit in
    let s = g.S.Shelf.state c.args.shelf.now in
    let t = g.S.Shelf.state c.make.new.shelf in
    let u = g.S.Shelf.state c.write_page.new.shelf in
    let quiet : IsQuiet unit t u = subst (λ n. IsQuiet n t u) c.in_ok-store.ensures.store.named c.write_page.ensures.quiet in
    let all : IsTrue u.is_honest → AllOpen (unit_file t unit) = λ honest. opened_open (unit_file s unit) (unit_file t unit) (c.in_ok-store.ensures.opens (sym c.write_page.ensures.only.honest ∙ honest)) in
    record {
      images = λ honest. made_quietly (unit_file s unit) (unit_file t unit) (unit_file u unit) (c.make.ensures.images (sym c.write_page.ensures.only.honest ∙ honest)) (all honest) quiet;
      failed = at_err_where _ _ _ (λ honest. inr (all_refused (unit_file u unit) (open_kept (unit_file t unit) (unit_file u unit) (all honest) quiet)));
      others = search rules;
      no_fewer = search rules;
      cause = inl (handed_on c.from_residual-in_err-write_page.result _ _ _ c.from_residual-in_err-write_page.ensures.1 (cause_since _ _ _ _ c.make.ensures.cause.no_fewer c.in_err-write_page.ensures.cause));
    }

pub returns-clause-opens : goal.returns-clause-opens
returns-clause-opens g c =
    let unit = c.args.unit in
    let s = g.S.Shelf.state c.args.shelf.now in
    let t = g.S.Shelf.state c.make.new.shelf in
    let u = g.S.Shelf.state c.write_page.new.shelf in
    let quiet : IsQuiet unit t u = subst (λ n. IsQuiet n t u) c.in_ok-store.ensures.store.named c.write_page.ensures.quiet in
    let all : IsTrue u.is_honest → AllOpen (unit_file t unit) = λ honest. opened_open (unit_file s unit) (unit_file t unit) (c.in_ok-store.ensures.opens (sym c.write_page.ensures.only.honest ∙ honest)) in
    record {
      images = λ honest. made_quietly (unit_file s unit) (unit_file t unit) (unit_file u unit) (c.make.ensures.images (sym c.write_page.ensures.only.honest ∙ honest)) (all honest) quiet;
      failed = tt;
      others = search rules;
      no_fewer = search rules;
      cause = inl (no_cause _ _ _ (let a = c.make.ensures.cause.no_fewer in let b = c.write_page.ensures.cause.no_fewer in omega arith));
    }

pub returns-clause-ready : goal.returns-clause-ready
returns-clause-ready g c =
    let unit = c.args.unit in
    let s = g.S.Shelf.state c.args.shelf.now in
    let t = g.S.Shelf.state c.make.new.shelf in
    let u = g.S.Shelf.state c.write_page.new.shelf in
    let w = c.write_page.new.self in
    let added = c.in_ok-write_page.ensures.added in
    let named : w.unit ≡ unit = ap (λ x. x.unit) added ∙ c.in_ok-store.ensures.store.named in
    let more = ap (λ x. x.pages) added in
    let same = c.over.ensures.store_is in
    let one : 1 ≤ w.pages = omega arith in
    let has : HasUnit u w.unit = subst (λ n. HasUnit u n) (sym named) (record { attached = rw (c.write_page.ensures.only.names, c.make.ensures.only.names) c.requires.unit.attached }) in
    record {
      joined = record {
        over = c.over.ensures.over u has c.write_page.ensures.pages;
        counted = rw c.fresh.ensures (subst (λ x. 1 ≤ x.pages) (sym same) one);
        header = rw c.fresh.ensures (omega arith);
      };
      clean = λ e. absurd (cc);
      gate = λ _ honest.
          let before : IsTrue t.is_honest = sym c.write_page.ensures.only.honest ∙ honest in
          let all = opened_open (unit_file s unit) (unit_file t unit) (c.in_ok-store.ensures.opens before) in
          let kept = open_kept (unit_file t unit) (unit_file u unit) all (subst (λ n. IsQuiet n t u) c.in_ok-store.ensures.store.named c.write_page.ensures.quiet) in
          subst (λ n. AllOpen (unit_file u n)) (sym (ap (λ x. x.unit) same ∙ named)) kept;
    }
