use Rattle.std.proofs.Common.{rules, zero, suc, ◌+◌, ◌≡◌, ◌∙◌, ◌*◌, ◌≤◌, ◌<◌, ℕ, sym, ap, subst, List, Result, Ok, Err, OnOk, OnErr, length, take, drop, refl, arith}
use Rattle.std.proofs.lemmas.List.{take_all, length-drop}
use Rattle.page_store.specs.DeviceFile.{DeviceFile, content, IsWithin}
use Rattle.page_store.specs.Calls.{WrittenAt, WriteFails}
use Rattle.page_store.specs.Moments.{Quiet}
use Rattle.page_store.specs.ShelfState.{unit_file}
use Rattle.page_store.specs.Pages.{PageWritten, PageFails, offset_of, length_of_part}
use Rattle.page_store.proofs.FileLemmas.{quiet_failed, quiet_done, reached, longer_either}
use Rattle.page_store.proofs.store.write_at_page.Goals as goal

rest : (page : List ℕ) → length page ≡ 4096 → take 4095 (drop 1 page) ≡ drop 1 page
rest page long = take_all 4095 (drop 1 page) (omega (arith, length-drop 1 page))

length_rest : (page : List ℕ) → length page ≡ 4096 → length (take 4095 (drop 1 page)) ≡ 4095
length_rest page long = ap length (rest page long) ∙ omega (arith, length-drop 1 page)

first_written : {T E : Type 0} (r : Result T E) (n : ℕ) (page part : List ℕ) (f h : DeviceFile) → n ≡ 0 → part ≡ drop 1 page → OnOk r (WrittenAt 1 part f h) → OnOk r (PageWritten n page f h)
first_written (Ok v) n page part f h first is ok = subst (λ (k : ℕ). PageWritten k page f h) (sym first) (subst (λ (l : List ℕ). WrittenAt 1 l f h) is ok)
first_written (Err e) n page part f h first is ok = tt

first_failed : {T E : Type 0} (r : Result T E) (n m : ℕ) (f h : DeviceFile) → n ≡ 0 → m ≡ 4095 → OnErr r (WriteFails 1 m f h) → OnErr r (PageFails n f h)
first_failed (Ok v) n m f h first is err = tt
first_failed (Err e) n m f h first is err = subst (λ (k : ℕ). PageFails k f h) (sym first) (subst (λ (k : ℕ). WriteFails 1 k f h) is err)

-- done or failed
quiet_either : {T E : Type 0} (r : Result T E) (at n : ℕ) (bytes : List ℕ) (f h : DeviceFile) → 0 < at → length bytes ≡ n → OnOk r (WrittenAt at bytes f h) → OnErr r (WriteFails at n f h) → Quiet f h
quiet_either (Ok v) at n bytes f h low is ok err = quiet_done f h at bytes low ok
quiet_either (Err e) at n bytes f h low is ok err = quiet_failed f h at n low err

positive : (n : ℕ) → (n ≡ 0 → ⊥) → 0 < n * 4096
positive n not = let h : 0 < n = grind arith in omega arith

pub returns-then-n-eq0-clause-changes : goal.returns-then-n-eq0-clause-changes
returns-then-n-eq0-clause-changes g c =
    let f = unit_file (g.S.Shelf.state c.args.shelf.now) c.args.unit in
    let h = unit_file (g.S.Shelf.state c.write_at.new.self) c.args.unit in
    record {
      done = first_written c.write_at.result c.args.n c.args.page.now _ f h (search rules) (rest c.args.page.now (search rules)) c.write_at.ensures.done;
      failed = first_failed c.write_at.result c.args.n _ f h (search rules) (length_rest c.args.page.now (search rules)) c.write_at.ensures.failed;
      only = search rules;
      cause = search rules;
    }

pub returns-then-n-eq0-clause-quiet : goal.returns-then-n-eq0-clause-quiet
returns-then-n-eq0-clause-quiet g c =
    let f = unit_file (g.S.Shelf.state c.args.shelf.now) c.args.unit in
    let h = unit_file (g.S.Shelf.state c.write_at.new.self) c.args.unit in
    quiet_either c.write_at.result 1 _ _ f h (omega arith) refl c.write_at.ensures.done c.write_at.ensures.failed

pub returns-else-n-eq0-clause-quiet : goal.returns-else-n-eq0-clause-quiet
returns-else-n-eq0-clause-quiet g c =
    let f = unit_file (g.S.Shelf.state c.args.shelf.now) c.args.unit in
    let h = unit_file (g.S.Shelf.state c.write_at-else-n-eq0.new.self) c.args.unit in
    quiet_either c.write_at-else-n-eq0.result (c.args.n * 4096) _ _ f h (positive c.args.n c.if-n-eq0.false) refl c.write_at-else-n-eq0.ensures.done c.write_at-else-n-eq0.ensures.failed

first_offset : (n : ℕ) → n ≡ 0 → 1 ≤ offset_of n
first_offset zero is = omega arith
first_offset (suc n) is = absurd (cc)

other_offset : (n : ℕ) → (n ≡ 0 → ⊥) → offset_of n ≡ n * 4096
other_offset zero not = absurd (not refl)
other_offset (suc n) not = omega arith

first_reached : {T E : Type 0} (r : Result T E) (P : Type 0) (n : ℕ) (part : List ℕ) (f h : DeviceFile) → n ≡ 0 → length part ≡ 4095 → (P → 1 ≤ length (content f)) → OnOk r (WrittenAt 1 part f h) → OnOk r (P → IsWithin (offset_of n + length_of_part n) h)
first_reached (Ok v) P n part f h first is low ok = λ p. subst (λ (k : ℕ). IsWithin (offset_of k + length_of_part k) h) (sym first) (subst (λ (k : ℕ). IsWithin (1 + k) h) is (reached f h 1 part (low p) ok))
first_reached (Err e) P n part f h first is low ok = tt

both : (n : ℕ) → (n ≡ 0 → ⊥) → n * 4096 + 4096 ≡ offset_of n + length_of_part n
both zero not = absurd (not refl)
both (suc n) not = omega arith

other_reached : {T E : Type 0} (r : Result T E) (P : Type 0) (n : ℕ) (page : List ℕ) (f h : DeviceFile) → (n ≡ 0 → ⊥) → length page ≡ 4096 → (P → n * 4096 ≤ length (content f)) → OnOk r (WrittenAt (n * 4096) page f h) → OnOk r (P → IsWithin (offset_of n + length_of_part n) h)
other_reached (Ok v) P n page f h not is low ok = λ p. subst (λ (k : ℕ). IsWithin k h) (both n not) (subst (λ (k : ℕ). IsWithin (n * 4096 + k) h) is (reached f h (n * 4096) page (low p) ok))
other_reached (Err e) P n page f h not is low ok = tt

pub returns-then-n-eq0-clause-reached : goal.returns-then-n-eq0-clause-reached
returns-then-n-eq0-clause-reached g c =
    let f = unit_file (g.S.Shelf.state c.args.shelf.now) c.args.unit in
    let h = unit_file (g.S.Shelf.state c.write_at.new.self) c.args.unit in
    let zero : c.args.n ≡ 0 = search rules in
    first_reached c.write_at.result _ c.args.n _ f h zero (length_rest c.args.page.now (search rules)) (λ honest. let low = (c.requires.file honest).long in let one = first_offset c.args.n zero in omega arith) c.write_at.ensures.done

pub returns-then-n-eq0-clause-longer : goal.returns-then-n-eq0-clause-longer
returns-then-n-eq0-clause-longer g c honest =
    let f = unit_file (g.S.Shelf.state c.args.shelf.now) c.args.unit in
    let h = unit_file (g.S.Shelf.state c.write_at.new.self) c.args.unit in
    let zero : c.args.n ≡ 0 = search rules in
    let low = (c.requires.file honest).long in
    let one = first_offset c.args.n zero in
    longer_either c.write_at.result f h 1 _ _ (omega arith) c.write_at.ensures.done c.write_at.ensures.failed

pub returns-else-n-eq0-clause-reached : goal.returns-else-n-eq0-clause-reached
returns-else-n-eq0-clause-reached g c =
    let f = unit_file (g.S.Shelf.state c.args.shelf.now) c.args.unit in
    let h = unit_file (g.S.Shelf.state c.write_at-else-n-eq0.new.self) c.args.unit in
    other_reached c.write_at-else-n-eq0.result _ c.args.n c.args.page.now f h c.if-n-eq0.false (search rules) (λ honest. let low = (c.requires.file honest).long in let same = other_offset c.args.n c.if-n-eq0.false in omega arith) c.write_at-else-n-eq0.ensures.done

pub returns-else-n-eq0-clause-longer : goal.returns-else-n-eq0-clause-longer
returns-else-n-eq0-clause-longer g c honest =
    let f = unit_file (g.S.Shelf.state c.args.shelf.now) c.args.unit in
    let h = unit_file (g.S.Shelf.state c.write_at-else-n-eq0.new.self) c.args.unit in
    let low = (c.requires.file honest).long in
    let same = other_offset c.args.n c.if-n-eq0.false in
    longer_either c.write_at-else-n-eq0.result f h (c.args.n * 4096) _ _ (omega arith) c.write_at-else-n-eq0.ensures.done c.write_at-else-n-eq0.ensures.failed
