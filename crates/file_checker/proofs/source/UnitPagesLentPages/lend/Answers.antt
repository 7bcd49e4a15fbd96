use Rattle.std.proofs.Common.{◌≡◌, ◌<◌, ℕ, List, Some, length, ap, sym, subst, ◌∙◌, refl, false, IsTrue}
use Rattle.pages.specs.PageList.{pages_in}
use Rattle.page_store.specs.DeviceFile.{content}
use Rattle.page_store.specs.ShelfState.{unit_file}
use Rattle.file_checker.specs.declared.frames.Frame.{Frame}
use Rattle.file_checker.specs.Frames.{IsFrameOf}
use Rattle.file_checker.specs.Asked.{first_pages_of}
use Rattle.file_checker.proofs.PageLemmas.{frame_has, page_there}
use Rattle.file_checker.proofs.source.UnitPagesLentPages.lend.Goals as goal

-- what a frame has was read
pub returns-in-Some : goal.returns-in-Some
returns-in-Some g c =
    let n = c.args.n in
    let self = c.args.self.now in
    let asked = g.A.UnitAsked in
    let bytes = content (unit_file asked.before asked.unit) in
    let page : (list : List (List ℕ)) → (self.has_failed ≡ false) × IsTrue (g.S.Shelf.state self.shelf).is_honest × (list ≡ first_pages_of asked.before asked.unit asked.count)
    → Some c.index.result.now.bytes ≡ pages_in list n = λ list has.
    let inside : n < asked.count = subst (λ (k : ℕ). n < k) self.count_is (c.if-not-has_page.ensures.within refl) in
    let is : IsFrameOf self.frames.items n c.in-Some.place = subst (λ (l : List Frame). IsFrameOf l n c.in-Some.place) c.deref.ensures.value c.in-Some.ensures.page in
    let place = subst (λ (l : List Frame). c.in-Some.place < length l) c.deref.ensures.value c.in-Some.ensures.within in
    let same = ap (λ (f : Frame). f.bytes) c.index.ensures
    ∙ frame_has self.count bytes self.frames.items n c.in-Some.place c.index.result.now (self.read has.1) is place (c.if-not-has_page.ensures.within refl) in
    subst (λ (l : List (List ℕ)). Some c.index.result.now.bytes ≡ pages_in l n) (sym has.2) (page_there bytes asked.count n c.index.result.now.bytes inside same) in
    ((refl, λ _. tt, (page, λ list has. has)), record { lends = tt })
