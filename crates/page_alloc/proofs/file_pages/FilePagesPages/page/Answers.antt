use Rattle.std.proofs.Common.{refl, arith}
use Rattle.std.specs.Prelude.{⊤}
use Rattle.std.proofs.lemmas.Result.{IfOk-weaker, err_from_is_err_and}
use Rattle.page_alloc.proofs.JoinLemmas.{reads_after, kept_after, looks_after, shown, no_fault, fails_as, damaged}
use Rattle.page_cache.specs.Cached.{cached_pages_of}
use Rattle.page_alloc.specs.StepLaws.{reads_nothing}
use Rattle.page_alloc.proofs.ChainLemmas.{can_give}
use Rattle.page_alloc.proofs.file_pages.FilePagesPages.page.Goals as goal
use Rattle.page_alloc.proofs.file_pages.FilePagesPages.page.Goals.{then-n-eq0-via-then-n-eq0, then-n-eq0-via-else-n-eq0+then-n-self}

pub returns-then-n-eq0 : goal.returns-then-n-eq0
returns-then-n-eq0 g c =
    let old = c.args.self.now.file.now in
    let s = g.S.Shelf.state c.args.self.now.shelf.now in
    let reads = reads_nothing old s (g.S.Shelf.fault_count c.args.self.now.shelf.now) in
    elim c.then-n-eq0.branch [
      | then-n-eq0-via-then-n-eq0 w ↦
          rw w.self-is ((refl, (λ _. tt), (reads.rests, omega arith, (refl, refl, reads), (λ h. tt), (λ h there. (let p = can_give (cached_pages_of old.cache s) old.pager.count c.args.n old.pager.first old.pager.free there in let e = w.if-n-eq0.true in absurd (omega (arith, p.0, e)))), damaged _ ⊥)), record { lends = tt })
      | then-n-eq0-via-else-n-eq0+then-n-self w ↦
          rw w.self-is ((refl, (λ _. tt), (reads.rests, omega arith, (refl, refl, reads), (λ h. tt), (λ h there. (let p = can_give (cached_pages_of old.cache s) old.pager.count c.args.n old.pager.first old.pager.free there in let e = w.if-n-self.true in absurd (omega (arith, p.1, e)))), damaged _ ⊥)), record { lends = tt })
    ]

pub returns-in_err-load : goal.returns-in_err-load
returns-in_err-load g c =
    let old = c.args.self.now.file.now in
    let s = g.S.Shelf.state c.args.self.now.shelf.now in
    let t = g.S.Shelf.state c.load.new.shelf in
    let d = c.load.new.self in
    let load = c.load.ensures.looks in
    let asked = load.asked in
    let y = err_from_is_err_and c.from_residual.result c.from_residual.ensures.1 in
    let fails = fails_as c.in_err-load.field-0.0 _ _ ⊤ ⊥ c.in_err-load.ensures.looks.cause in
    let reads = reads_after old (record old { cache = d }) s t _ _ refl refl load.kept load.looks load.grows load.cause.no_fewer in
    rw (y.1, y.2) ((refl, (λ _. tt), (reads.rests, omega arith, (refl, refl, reads), (λ h. tt), (λ h there. fails.damage tt), fails.caused)), record { lends = tt })

pub returns : goal.returns
returns g c =
    let old = c.args.self.now.file.now in
    let s = g.S.Shelf.state c.args.self.now.shelf.now in
    let t = g.S.Shelf.state c.load.new.shelf in
    let d = c.load.new.self in
    let e = c.held.follows.lender-at-none in
    let same = c.held.follows.holds-at-none in
    let load = c.load.ensures.looks in
    let ok = c.held.ensures.answer.ok c.in_ok-load.ensures.held in
    let asked = load.asked in
    let again = same.asked in
    let grows = load.grows in
    let reads = reads_after old (record old { cache = e }) s t _ _ refl refl (kept_after old.cache d e s t load.kept same) (looks_after old.cache d e s t load.looks same) (omega arith) load.cause.no_fewer in (
      (
        refl,
        (λ _. tt),
        (
          reads.rests,
          omega arith,
          (refl, refl, reads),
          (λ h. IfOk-weaker c.held.result _ _ (λ page value. shown old.cache d old.pager s t c.args.n page.now (load.kept.pages h) value) c.held.ensures.answer.value),
          (λ h there. no_fault c.held.result _ ok),
          no_fault c.held.result _ ok,
        ),
      ),
      record { lends = tt },
    )
