use Rattle.std.proofs.Common.{◌≡◌, ◌≤◌, ℕ, List, None, sym, subst}
use Rattle.std.proofs.lemmas.Bool.{ltb-false}
use Rattle.pages.specs.PageList.{pages_in}
use Rattle.page_store.specs.DeviceFile.{content}
use Rattle.page_store.specs.ShelfState.{unit_file}
use Rattle.file_checker.proofs.PageLemmas.{no_page}
use Rattle.file_checker.proofs.source.UnitPages.has_page.Goals as goal

pub returns-then-not-self-clause-none : goal.returns-then-not-self-clause-none
returns-then-not-self-clause-none g c = λ past list has.
    let n = c.args.n in
    let asked = g.A.UnitAsked in
    let behind : asked.count ≤ n = subst (λ (k : ℕ). k ≤ n) c.args.self.now.count_is (ltb-false n c.args.self.now.count past) in
    subst (λ (l : List (List ℕ)). None ≡ pages_in l n) (sym has.2) (no_page (content (unit_file asked.before asked.unit)) asked.count n behind)
