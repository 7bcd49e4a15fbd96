use Rattle.std.proofs.Common.{rules, ◌≡◌, ◌∙◌, ◌*◌, ℕ, ap, List, Result, Ok, Err, OnOk, length, take, drop, arith}
use Rattle.page_store.specs.DeviceFile.{DeviceFile, content, page_of_bytes}
use Rattle.page_store.specs.Calls.{ReadsBytes}
use Rattle.page_store.specs.ShelfState.{unit_file}
use Rattle.page_store.proofs.store.Store.read_page.Goals as goal

-- 4,096 bytes read at a page's place are the page
page : (f : DeviceFile) (n : ℕ) (bytes : List ℕ) → length bytes ≡ 4096 → ReadsBytes f (n * 4096) bytes → bytes ≡ page_of_bytes (content f) n
page f n bytes long read =
    let same : n * 4096 ≡ 4096 * n = omega arith in
    read.is ∙ ap (λ (m : ℕ). take m (drop (n * 4096) (content f))) long ∙ ap (λ (m : ℕ). take 4096 (drop m (content f))) same

either : {T E : Type 0} (r : Result T E) (P : Type 0) (f : DeviceFile) (n : ℕ) (bytes : List ℕ) → length bytes ≡ 4096 → OnOk r (P → ReadsBytes f (n * 4096) bytes) → OnOk r (P → bytes ≡ page_of_bytes (content f) n)
either (Ok v) P f n bytes long ok = λ h. page f n bytes long (ok h)
either (Err e) P f n bytes long ok = tt

pub returns : goal.returns
returns g c =
    let f = unit_file (g.S.Shelf.state c.args.shelf.now) c.args.self.now.unit in
    let long : length c.read_at.new.bytes ≡ 4096 = search rules in
    record {
      answer = either c.read_at.result _ f c.args.n c.read_at.new.bytes long c.read_at.ensures.answer;
      quiet = search rules;
      only = search rules;
      cause = search rules;
    }
