use Rattle.std.proofs.Common.{◌≡◌, ◌<◌, ◌*◌, ℕ, List, Some, take, drop, length, ap, sym, subst, ◌∙◌}
use Rattle.std.proofs.lemmas.List.Elements.{All-set}
use Rattle.pages.specs.PageList.{pages_in}
use Rattle.page_store.specs.DeviceFile.{DeviceFile, content}
use Rattle.page_store.specs.ShelfState.{unit_file}
use Rattle.page_store.proofs.GateLemmas.{same_file}
use Rattle.file_checker.specs.declared.frames.Frame.{Frame}
use Rattle.file_checker.specs.Frames.{AreRead}
use Rattle.file_checker.proofs.PageLemmas.{page_there}
use Rattle.file_checker.proofs.source.UnitPages.read.Goals as goal

pub returns-in-Ok-clause-page : goal.returns-in-Ok-clause-page
returns-in-Ok-clause-page g c = λ list has.
    let n = c.args.n in
    let self = c.args.self.now in
    let asked = g.A.UnitAsked in
    let old = g.S.Shelf.state self.shelf in
    let bytes = content (unit_file asked.before asked.unit) in
    let inside : n < asked.count = subst (λ (k : ℕ). n < k) self.count_is c.requires.within in
    let read = (c.in-Ok.ensures.answer has.1).is in
    let long : length c.read_at.new.bytes ≡ 4096 = c.read_at.auto.bytes in
    let at : c.from.result * 4096 ≡ n * 4096 = ap (λ (k : ℕ). k * 4096) c.from.ensures in
    let file = same_file asked.before old self.unit self.answered.only ∙ ap (λ (u : ℕ). unit_file asked.before u) self.unit_is in
    let same = read ∙ ap (λ (k : ℕ). take k (drop (c.from.result * 4096) (content (unit_file old self.unit)))) long
    ∙ ap (λ (k : ℕ). take 4096 (drop k (content (unit_file old self.unit)))) at ∙ ap (λ (f : DeviceFile). take 4096 (drop (n * 4096) (content f))) file in
    subst (λ (l : List (List ℕ)). Some c.read_at.new.bytes ≡ pages_in l n) (sym has.2) (page_there bytes asked.count n c.read_at.new.bytes inside same)

pub invariant_of-self-clause-read : goal.invariant_of-self-clause-read
invariant_of-self-clause-read g c = λ honest.
    let n = c.args.n in
    let self = c.args.self.now in
    let asked = g.A.UnitAsked in
    let old = g.S.Shelf.state self.shelf in
    let bytes = content (unit_file asked.before asked.unit) in
    let read = (c.in-Ok.ensures.answer honest).is in
    let long : length c.read_at.new.bytes ≡ 4096 = c.read_at.auto.bytes in
    let at : c.from.result * 4096 ≡ n * 4096 = ap (λ (k : ℕ). k * 4096) c.from.ensures in
    let file = same_file asked.before old self.unit self.answered.only ∙ ap (λ (u : ℕ). unit_file asked.before u) self.unit_is in
    let same : c.read_at.new.bytes ≡ take 4096 (drop (n * 4096) bytes) = read ∙ ap (λ (k : ℕ). take k (drop (c.from.result * 4096) (content (unit_file old self.unit)))) long
    ∙ ap (λ (k : ℕ). take 4096 (drop k (content (unit_file old self.unit)))) at ∙ ap (λ (f : DeviceFile). take 4096 (drop (n * 4096) (content f))) file in
    let frame : Frame = record { page = n; bytes = c.read_at.new.bytes } in
    subst (AreRead self.count bytes) (sym c.keep.ensures.is)
    (All-set (λ (f : Frame). f.page < self.count → f.bytes ≡ take 4096 (drop (f.page * 4096) bytes)) self.frames.items c.keep.ensures.at frame (λ within. same) (self.read (c.read_at.ensures.only.honest honest)))
