use Rattle.std.proofs.Common.{refl, ◌∙◌, arith}
use Rattle.std.specs.Prelude.{⊤}
use Rattle.std.proofs.lemmas.Result.{IfOk-weaker, err_from_is_err_and}
use Rattle.page_cache.specs.Cached.{cached_pages_of}
use Rattle.page_cache.proofs.OverLemmas.{over_set}
use Rattle.page_alloc.proofs.JoinLemmas.{counted_page, joined_after, parts_after, reads_after, goes_after, left, shown, no_fault, fails_as}
use Rattle.page_alloc.specs.StepLaws.{reads_nothing}
use Rattle.page_alloc.proofs.ChainLemmas.{can_give}
use Rattle.page_alloc.proofs.file_pages.FilePagesPages.page_mut.Goals as goal
use Rattle.page_alloc.proofs.file_pages.FilePagesPages.page_mut.Goals.{then-n-eq0-via-then-n-eq0, then-n-eq0-via-else-n-eq0+then-n-self}

pub returns-then-n-eq0 : goal.returns-then-n-eq0
returns-then-n-eq0 g c =
    let old = c.args.self.now.file.now in
    let s = g.S.Shelf.state c.args.self.now.shelf.now in
    let reads = reads_nothing old s (g.S.Shelf.fault_count c.args.self.now.shelf.now) in
    elim c.then-n-eq0.branch [
      | then-n-eq0-via-then-n-eq0 w ↦
          rw w.self-is ((refl, (λ b ok. absurd (cc)), (reads.rests, omega arith, (refl, refl, reads), (λ h there. (let p = can_give (cached_pages_of old.cache s) old.pager.count c.args.n old.pager.first old.pager.free there in let e = w.if-n-eq0.true in absurd (omega (arith, p.0, e)))), record { device = λ e. absurd (cc); full = λ e. absurd (cc); not_memory = λ e. absurd (cc); not_broken = λ e. absurd (cc) })), record { lends = tt })
      | then-n-eq0-via-else-n-eq0+then-n-self w ↦
          rw w.self-is ((refl, (λ b ok. absurd (cc)), (reads.rests, omega arith, (refl, refl, reads), (λ h there. (let p = can_give (cached_pages_of old.cache s) old.pager.count c.args.n old.pager.first old.pager.free there in let e = w.if-n-self.true in absurd (omega (arith, p.1, e)))), record { device = λ e. absurd (cc); full = λ e. absurd (cc); not_memory = λ e. absurd (cc); not_broken = λ e. absurd (cc) })), record { lends = tt })
    ]

pub returns-in_err-load : goal.returns-in_err-load
returns-in_err-load g c =
    let old = c.args.self.now.file.now in
    let s = g.S.Shelf.state c.args.self.now.shelf.now in
    let t = g.S.Shelf.state c.load.new.shelf in
    let d = c.load.new.self in
    let load = c.load.ensures.looks in
    let asked = load.asked in
    let y = err_from_is_err_and c.from_residual.result c.from_residual.ensures.1 in
    let fails = fails_as c.in_err-load.field-0.0 _ _ ⊤ ⊥ c.in_err-load.ensures.looks.cause in
    let reads = reads_after old (record old { cache = d }) s t _ _ refl refl load.kept load.looks load.grows load.cause.no_fewer in
    rw (y.1, y.2) ((refl, (λ w ok. absurd (cc)), (reads.rests, omega arith, (refl, refl, reads), (λ h there. fails.damage tt), fails.caused)), record { lends = tt })

pub returns : goal.returns
returns g c =
    let old = c.args.self.now.file.now in
    let s = g.S.Shelf.state c.args.self.now.shelf.now in
    let t = g.S.Shelf.state c.load.new.shelf in
    let d = c.load.new.self in
    let load = c.load.ensures.looks in
    let ok = c.held_mut.ensures.answer.ok c.in_ok-load.ensures.held in
    let asked = load.asked in
    let loaded = joined_after old.cache d old.pager s t c.requires.ready.joined load.kept.keeps.store load.kept.over in
    let here = counted_page d old.pager t c.args.n loaded c.if-n-eq0.false c.if-n-self.false in (
      (
        refl,
        (λ w is_ok.
            let e = c.held_mut.follows.lender w in
            let set = c.held_mut.follows.holds w is_ok in
            let again = set.asked in
            let grows = load.grows in
            let joined = joined_after old.cache e old.pager s t c.requires.ready.joined (set.store ∙ load.kept.keeps.store) (over_set c.args.n w d e set t here load.kept.over) in (
              left c.args.n w old.cache d e old.pager s t set load.kept.pages load.kept.goes.others.honest,
              omega arith,
              (refl, refl, goes_after old (record old { cache = e }) s t _ _ c.requires.open refl refl (parts_after old.cache e s t _ _ (record { store = set.store ∙ load.kept.keeps.store; cap = set.cap ∙ load.kept.keeps.cap }) load.kept.goes (omega arith) load.cause.no_fewer) joined),
              (λ h. IfOk-weaker c.held_mut.result _ _ (λ page value. shown old.cache d old.pager s t c.args.n page.now (load.kept.pages h) value) c.held_mut.ensures.answer.value),
            )),
        no_fault c.held_mut.result _ ok,
      ),
      record { lends = tt },
    )
