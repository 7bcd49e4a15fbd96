-- What the header and the gate leave of the list of pages.
use Rattle.std.proofs.Common.{zero, suc, ◌≡◌, ◌⊎◌, inl, inr, ℕ, ◌-◌, ◌*◌, ◌<◌, ltb, true, if◌then◌else◌, List, [], ◌∷◌, length, take, drop, Option, Some, None, refl, sym, ◌∙◌, ap, subst, arith, IsTrue, is_some}
use Rattle.std.specs.Option.{option_map_or}
use Rattle.std.proofs.lemmas.Bool.{cases_Bool, and_parts, ltb-true}
use Rattle.std.proofs.lemmas.List.{length-drop}
use Rattle.page_store.specs.DeviceFile.{DeviceFile, content, bytes_or_none, page_of_bytes}
use Rattle.page_store.specs.Gate.{OnlyGate, with_gate}
use Rattle.page_store.specs.Pages.{HoldsPages, PageWritten, PageFails}
use Rattle.page_store.proofs.PageLemmas.{others_read, others_kept}
use Rattle.page_store.specs.ShelfState.{ShelfState, HasUnit, unit_file, WhereHonest, KeepsOthers, ChangesOnly}
use Rattle.page_store.specs.declared.store.Store.{Store}
use Rattle.page_cache.specs.HeldFrames.{Frame}
use Rattle.page_cache.specs.declared.cache.Cache.{Cache}
use Rattle.page_cache.specs.Cached.{frame_of, is_counted_page, cached_pages_of, IsOver}
use Rattle.page_cache.specs.Calls.{ShowsSame}
use Rattle.page_cache.proofs.WriteLemmas.{same_unit}

-- every page but the header is as it was
pub record HeaderKept (store : Store) (s t : ShelfState) : Type 0 where
  pub attached : HasUnit t store.unit
  pub pages : WhereHonest t store.unit (HoldsPages store.pages)
  pub others : IsTrue t.is_honest → (k : ℕ) → 0 < k → k < store.pages → page_of_bytes (content (unit_file t store.unit)) k ≡ page_of_bytes (content (unit_file s store.unit)) k
  pub honest : IsTrue t.is_honest → IsTrue s.is_honest

counted_parts : (c : Cache) (k : ℕ) → IsTrue (is_counted_page c k) → (0 < k) × (k < c.store.pages)
counted_parts c k is = let p = and_parts (ltb 0 k) (ltb k c.store.pages) is in (ltb-true 0 k p.0, ltb-true k c.store.pages p.1)

module _ (c : Cache) (s t : ShelfState) (keeps : HeaderKept c.store s t) where
  pub over_kept : IsOver c s → IsOver c t
  over_kept over = record {
    attached = keeps.attached;
    counted = over.counted;
    pages = keeps.pages;
    clean = λ honest k frame is clean. let low = counted_parts c k (over.counted k frame is) in over.clean (keeps.honest honest) k frame is clean ∙ sym (keeps.others honest k low.0 low.1);
  }

  pub pages_kept : IsTrue t.is_honest → cached_pages_of c t ≡ cached_pages_of c s
  pages_kept honest = λ i k. ap (option_map_or (λ (f : Frame). f.page) (frame_of c k)) (stored k) i
    where
      stored : (k : ℕ) → (if is_counted_page c k then page_of_bytes (content (unit_file t c.store.unit)) k else []) ≡ (if is_counted_page c k then page_of_bytes (content (unit_file s c.store.unit)) k else [])
      stored k = elim (cases_Bool (is_counted_page c k)) [
        | inl counted ↦ let low = counted_parts c k counted in rw counted (keeps.others honest k low.0 low.1)
        | inr past ↦ rw past refl
      ]

pub header_kept : (store : Store) (s t : ShelfState) (page : List ℕ) → HasUnit s store.unit → 0 < store.pages → WhereHonest s store.unit (HoldsPages store.pages) → length page ≡ 4096
    → ChangesOnly store.unit s t → WhereHonest t store.unit (HoldsPages store.pages)
    → PageWritten 0 page (unit_file s store.unit) (unit_file t store.unit) ⊎ PageFails 0 (unit_file s store.unit) (unit_file t store.unit)
    → HeaderKept store s t
header_kept store s t page unit low has whole only pages how = record {
  attached = same_unit store.unit s t only unit;
  pages = pages;
  others = λ honest k positive below.
      let was = has (sym only.honest ∙ honest) in
      elim how [
        | inl w ↦ others_read (unit_file s store.unit) (unit_file t store.unit) store.pages 0 k page was (omega arith) below (λ same. omega arith) whole w
        | inr w ↦ others_kept (unit_file s store.unit) (unit_file t store.unit) store.pages 0 k was below (λ same. omega arith) w
      ];
  honest = λ honest. sym only.honest ∙ honest;
}

drop_one : (bytes : List ℕ) (m : ℕ) → drop m (drop 1 bytes) ≡ drop (suc m) bytes
drop_one [] zero = refl
drop_one [] (suc m) = refl
drop_one (x ∷ bytes) m = refl

drop_same : (old new : List ℕ) (m : ℕ) → drop 1 new ≡ drop 1 old → drop (suc m) new ≡ drop (suc m) old
drop_same old new m same = sym (drop_one new m) ∙ ap (drop m) same ∙ drop_one old m

-- a page behind the header has no byte of the gate
pub page_behind : (old new : List ℕ) (k : ℕ) → 0 < k → drop 1 new ≡ drop 1 old → page_of_bytes new k ≡ page_of_bytes old k
page_behind old new k low same = let e : 4096 * k ≡ suc (4096 * k - 1) = omega arith in rw e (ap (take 4096) (drop_same old new (4096 * k - 1) same))

pub gate_page : (x : ℕ) (bytes : List ℕ) (k : ℕ) → 0 < k → page_of_bytes (with_gate x bytes) k ≡ page_of_bytes bytes k
gate_page x bytes k low = page_behind bytes (with_gate x bytes) k low refl

seen_there : (o : Option (List ℕ)) (x : ℕ) (rest : List ℕ) → bytes_or_none o ≡ x ∷ rest → is_some o ≡ true
seen_there None x rest is = absurd (cc)
seen_there (Some bytes) x rest is = refl

pub gate_has : (f g : DeviceFile) (x pages : ℕ) → content g ≡ with_gate x (content f) → HoldsPages pages f → HoldsPages pages g
gate_has f g x pages is has = record {
  there = seen_there g.seen x (drop 1 (content f)) is;
  long = let l = has.long in let e : length (content g) ≡ length (with_gate x (content f)) = ap length is in omega (arith, length-drop 1 (content f));
}

pub gate_kept : (store : Store) (s t : ShelfState) (x : ℕ) → HasUnit s store.unit → WhereHonest s store.unit (HoldsPages store.pages) → ChangesOnly store.unit s t
    → content (unit_file t store.unit) ≡ with_gate x (content (unit_file s store.unit)) → HeaderKept store s t
gate_kept store s t x unit has only is = record {
  attached = same_unit store.unit s t only unit;
  pages = λ honest. gate_has (unit_file s store.unit) (unit_file t store.unit) x store.pages is (has (sym only.honest ∙ honest));
  others = λ honest k low below. ap (λ bytes. page_of_bytes bytes k) is ∙ gate_page x (content (unit_file s store.unit)) k low;
  honest = λ honest. sym only.honest ∙ honest;
}

-- the gate was opened, or its opening failed
pub opening_kept : (store : Store) (s t : ShelfState) → HasUnit s store.unit → WhereHonest s store.unit (HoldsPages store.pages) → KeepsOthers store.unit s t
    → (IsTrue t.is_honest → OnlyGate (unit_file s store.unit) (unit_file t store.unit)) → HeaderKept store s t
opening_kept store s t unit has only gate = record {
  attached = record { attached = subst (λ names. store.unit < length names) (sym only.names) unit.attached };
  pages = λ honest. let g = gate honest in let long = (has (only.honest honest)).long in let same = g.long in record { there = g.there.there; long = omega arith };
  others = λ honest k low below. page_behind (content (unit_file s store.unit)) (content (unit_file t store.unit)) k low (gate honest).rest;
  honest = only.honest;
}

pub shows_kept : (c : Cache) (s t : ShelfState) → HeaderKept c.store s t → IsOver c s → ShowsSame c c s t
shows_kept c s t kept over = record { over = over_kept c s t kept over; pages = pages_kept c s t kept }
