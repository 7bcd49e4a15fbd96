-- What a page that was written back leaves of the list of pages.
use Rattle.std.proofs.Common.{zero, suc, ◌≡◌, ◌≢◌, ◌⊎◌, inl, inr, ℕ, ◌+◌, ◌<◌, ◌≤◌, max, ltb, true, false, if◌then◌else◌, Option, Some, None, List, [], length, slice_get, refl, sym, ◌∙◌, ap, subst, arith, IsTrue, Result, Ok, Err, OnOk, OnErr}
use Rattle.io_state.specs.declared.fault.Fault.{Fault}
use Rattle.std.specs.Option.{option_map_or}
use Rattle.std.specs.Cmp.{nat_eq_equiv}
use Rattle.std.proofs.lemmas.Map.Entries.{lookup_from_place}
use Rattle.std.proofs.lemmas.Bool.{cases_Bool, both_ways, and_parts, ltb-true}
use Rattle.std.proofs.lemmas.Option.{slice_get_within}
use Rattle.page_store.specs.DeviceFile.{DeviceFile, content, page_of_bytes}
use Rattle.page_store.specs.Pages.{HoldsPages, PageWritten, PageFails}
use Rattle.page_store.specs.PageFacts.{page_over}
use Rattle.page_store.proofs.PageLemmas.{written_is_read, others_read, others_kept}
use Rattle.page_store.specs.ShelfState.{ShelfState, HasUnit, unit_file, WhereHonest, ChangesOnly, FaultHasCause}
use Rattle.page_store.specs.declared.store.Store.{Store}
use Rattle.page_cache.specs.declared.cache.Cache.{Cache}
use Rattle.page_cache.specs.Cached.{frame_of, is_counted_page, cached_pages_of, IsOver}
use Rattle.page_cache.specs.HeldFrames.{Frame, IsSeated}
use Rattle.page_cache.specs.Room.{HasRoom, IsInFile}
use Rattle.page_cache.specs.Calls.{OnlyLooks, LooksUp}
use Rattle.page_cache.specs.Quietly.{GoesQuietly}
use Rattle.page_cache.specs.Rewrites.{Rewrites}

pub fewer : (n pages : ℕ) (f : DeviceFile) → n ≤ pages → HoldsPages pages f → HoldsPages n f
fewer n pages f le has = record { there = has.there; long = let l = has.long in omega arith }

pub over_positive : (n : ℕ) (old page : List ℕ) → 0 < n → page_over n old page ≡ page
over_positive zero old page low = absurd (omega arith)
over_positive (suc n) old page low = refl

pub written_here : (f g : DeviceFile) (n pages : ℕ) (page : List ℕ) → 0 < n → n < pages → HoldsPages pages f → length page ≡ 4096 → PageWritten n page f g → page_of_bytes (content g) n ≡ page
written_here f g n pages page low within has whole w = written_is_read f g n page (fewer n pages f (omega arith) has) whole w ∙ over_positive n (content f) page low

pub same_unit : (unit : ℕ) (s t : ShelfState) → ChangesOnly unit s t → HasUnit s unit → HasUnit t unit
same_unit unit s t only has = record { attached = subst (λ names. unit < length names) (sym only.names) has.attached }

pub rewritten : (store : Store) (n : ℕ) (s t : ShelfState) (page : List ℕ) → HasUnit s store.unit → 0 < n → n < store.pages → WhereHonest s store.unit (HoldsPages store.pages) → length page ≡ 4096
    → ChangesOnly store.unit s t → WhereHonest t store.unit (HoldsPages store.pages)
    → PageWritten n page (unit_file s store.unit) (unit_file t store.unit) ⊎ PageFails n (unit_file s store.unit) (unit_file t store.unit)
    → Rewrites store n s t
rewritten store n s t page unit low within has whole only pages how = record {
  attached = same_unit store.unit s t only unit;
  pages = pages;
  others = λ honest m below differs.
      let was = has (sym only.honest ∙ honest) in
      elim how [
        | inl w ↦ others_read (unit_file s store.unit) (unit_file t store.unit) store.pages n m page was (omega arith) below differs whole w
        | inr w ↦ others_kept (unit_file s store.unit) (unit_file t store.unit) store.pages n m was below differs w
      ];
}

-- the frame of a place is one that a look-up finds
pub held_at : (c : Cache) (place n : ℕ) (frame : Frame) → IsSeated c.frames → slice_get c.frames.entries place ≡ Some (n, frame) → frame_of c n ≡ Some frame
held_at c place n frame seated is = lookup_from_place nat_eq_equiv c.frames.entries place n frame seated.apart is

pub counted_low : (c : Cache) (n : ℕ) → IsTrue (is_counted_page c n) → (0 < n) × (n < c.store.pages)
counted_low c n counted =
    let parts = and_parts (ltb 0 n) (ltb n c.store.pages) counted in
    (ltb-true 0 n parts.0, ltb-true n c.store.pages parts.1)

pub held_low : (c : Cache) (s : ShelfState) (n : ℕ) (frame : Frame) → IsOver c s → frame_of c n ≡ Some frame → (0 < n) × (n < c.store.pages)
held_low c s n frame over is = counted_low c n (over.counted n frame is)

unchanged_here : (c : Cache) (n k : ℕ) (frame other : Frame) → frame_of c n ≡ Some frame → frame.changed ≡ true → frame_of c k ≡ Some other → other.changed ≡ false → k ≢ n
unchanged_here c n k frame other is changed at clean same =
    let one : Some other ≡ Some frame = sym at ∙ ap (frame_of c) same ∙ is in
    let e : other ≡ frame = cc in
    both_ways other.changed clean (ap (λ (x : Frame). x.changed) e ∙ changed)

module _ (c : Cache) (s t : ShelfState) (n : ℕ) (frame : Frame) (over : IsOver c s) (is : frame_of c n ≡ Some frame) (w : Rewrites c.store n s t) (honest : IsTrue t.is_honest → IsTrue s.is_honest) where
  pub over_rewritten : frame.changed ≡ true → IsOver c t
  over_rewritten changed = record {
    attached = w.attached;
    counted = over.counted;
    pages = w.pages;
    clean = λ h k other at clean.
        let low = held_low c s k other over at in
        over.clean (honest h) k other at clean ∙ sym (w.others h k low.1 (unchanged_here c n k frame other is changed at clean));
  }

  shows : (h : IsTrue t.is_honest) (k : ℕ) (o : Option Frame) → frame_of c k ≡ o
      → option_map_or (λ (x : Frame). x.page) o (if is_counted_page c k then page_of_bytes (content (unit_file t c.store.unit)) k else []) ≡ option_map_or (λ (x : Frame). x.page) o (if is_counted_page c k then page_of_bytes (content (unit_file s c.store.unit)) k else [])
  shows h k (Some other) at = refl
  shows h k None at = elim (cases_Bool (is_counted_page c k)) [
    | inl counted ↦ rw counted (w.others h k (counted_low c k counted).1 (λ same. differs (sym at ∙ ap (frame_of c) same ∙ is)))
    | inr past ↦ rw past refl
  ]
    where
      differs : None ≡ Some frame → ⊥
      differs e = cc

  pub pages_rewritten : IsTrue t.is_honest → cached_pages_of c t ≡ cached_pages_of c s
  pages_rewritten h = λ i k. at k i
    where
      at : (k : ℕ) → cached_pages_of c t k ≡ cached_pages_of c s k
      at k = rw_at k (frame_of c k) refl
        where
          rw_at : (k : ℕ) (o : Option Frame) → frame_of c k ≡ o → cached_pages_of c t k ≡ cached_pages_of c s k
          rw_at k o is = rw is (shows h k o is)

pub either : {P Q : Type 0} (r : Result (Unit {0}) Fault) → OnOk r P → OnErr r Q → P ⊎ Q
either (Ok x) p q = inl p
either (Err x) p q = inr q

pub if_ok : {P Q : Type 0} (r : Result (Unit {0}) Fault) → (P → Q) → OnOk r P → OnOk r Q
if_ok (Ok x) f p = f p
if_ok (Err x) f p = tt

pub if_err : {P Q : Type 0} (r : Result (Unit {0}) Fault) → (P → Q) → OnErr r P → OnErr r Q
if_err (Ok x) f p = tt
if_err (Err x) f p = f p

pub at_err : {P : Type 0} (r : Result (Unit {0}) Fault) → P → OnErr r P
at_err (Ok x) p = tt
at_err (Err x) p = p

pub store_same : (store new : Store) (n : ℕ) → n < store.pages → (r : Result (Unit {0}) Fault) → OnOk r (new ≡ record store { pages = max store.pages (n + 1) }) → OnErr r (new ≡ store) → new ≡ store
store_same store new n low (Ok x) added kept = let e : max store.pages (n + 1) ≡ store.pages = omega arith in added ∙ ap (λ pages. record store { pages = pages }) e
store_same store new n low (Err x) added kept = kept

-- what stands at a place is that of the file
pub written_at : (c : Cache) (t : ShelfState) (place n : ℕ) (frame : Frame) → slice_get c.frames.entries place ≡ Some (n, frame)
    → (IsTrue t.is_honest → frame.page ≡ page_of_bytes (content (unit_file t c.store.unit)) n) → IsInFile place c t
written_at c t place n frame at same = record {
  settled = λ honest k other is.
      let pair : Some (k, other) ≡ Some (n, frame) = sym is ∙ at in
      let number : k ≡ n = ap (λ (o : Option (ℕ × Frame)). option_map_or (λ p. p.0) o k) pair in
      let bytes : other ≡ frame = ap (λ (o : Option (ℕ × Frame)). option_map_or (λ p. p.1) o other) pair in
      ap (λ (x : Frame). x.page) bytes ∙ same honest ∙ ap (page_of_bytes (content (unit_file t c.store.unit))) (sym number);
}

-- nothing stands at the next place
pub room_next : (c : Cache) (t : ShelfState) (place : ℕ) → IsSeated c.frames → place ≡ length c.frames.entries → place < c.frames.cap → HasRoom place c t
room_next c t place seated last room = record {
  written = record { settled = λ honest n frame is. let within = slice_get_within c.frames.entries place (n, frame) is in absurd (omega arith) };
  seated = seated;
  next = omega arith;
  room = room;
}

-- the page was written, so the shelf is honest after where it was before
pub nothing_clean : (c : Cache) (s t : ShelfState) (k : ℕ) (frame : Frame) → frame_of c k ≡ Some frame → frame.changed ≡ true → OnlyLooks c c s t
nothing_clean c s t k frame is changed = record { clean = λ h. h; file = λ h. absurd (both_ways frame.changed (h.clean k frame is) changed) }

-- a page in memory was written back, or that failed: all pages stay
pub looks_rewritten : {H X : Type 0} (state : H → ShelfState) (count : H → ℕ) (c : Cache) (before after : H) (n : ℕ) (frame : Frame) (result : Result X Fault) → IsOver c (state before) → frame_of c n ≡ Some frame
    → frame.changed ≡ true → Rewrites c.store n (state before) (state after) → GoesQuietly c.store.unit (state before) (state after) → FaultHasCause (count before) (count after) result → LooksUp state count c.asked c c before after result
looks_rewritten state count c before after n frame result over is changed w goes cause = record {
  kept = record {
    over = over_rewritten c (state before) (state after) n frame over is w goes.others.honest changed;
    pages = pages_rewritten c (state before) (state after) n frame over is w goes.others.honest;
    keeps = record { store = refl; cap = refl };
    goes = goes;
  };
  asked = refl;
  grows = omega arith;
  looks = nothing_clean c (state before) (state after) n frame is changed;
  cause = cause;
}
