-- What a page of zeros that is added leaves of the list of pages.
use Rattle.std.proofs.Common.{◌≤◌, zero, suc, ◌≡◌, ◌≢◌, inl, inr, ℕ, ◌+◌, ◌<◌, max, ltb, ◌&&◌, true, false, if◌then◌else◌, List, [], length, get_or, replicate, Option, Some, None, refl, sym, ◌∙◌, ap, subst, arith, IsTrue, Result, Ok, Err, OnOk, OnErr, slice_get}
use Rattle.std.specs.Prelude.{MatchResult}
use Rattle.std.specs.Option.{option_map_or}
use Rattle.std.proofs.lemmas.Bool.{cases_Bool, and_parts, and_from, ltb-true, ltb-false, lt-ltb, le-ltb, both_ways, and_right}
use Rattle.page_store.specs.DeviceFile.{DeviceFile, content, page_of_bytes}
use Rattle.page_store.specs.Pages.{HoldsPages, PageWritten, PageFails}
use Rattle.page_store.proofs.PageLemmas.{written_is_read, others_read, others_kept}
use Rattle.io_state.specs.declared.fault.Fault.{Fault}
use Rattle.page_cache.proofs.WriteLemmas.{over_positive, same_unit, held_at}
use Rattle.page_store.specs.ShelfState.{ShelfState, HasUnit, unit_file, WhereHonest, ChangesOnly}
use Rattle.page_store.specs.declared.store.Store.{Store}
use Rattle.page_cache.specs.declared.cache.Cache.{Cache}
use Rattle.page_cache.specs.Cached.{frame_of, is_counted_page, cached_pages_of, IsOver}
use Rattle.page_cache.specs.Calls.{KeepsPages, Zeroed, MayGoOn}
use Rattle.page_cache.specs.Quietly.{GoesQuietly}
use Rattle.page_cache.proofs.QuietLemmas.{goes_then}
use Rattle.page_cache.specs.HeldFrames.{Frame, held_frames, put_at, IsSeated}
use Rattle.page_cache.specs.Room.{HasRoom}
use Rattle.page_cache.specs.Rewrites.{Extends, AddsPage, IsZeros}
use Rattle.page_cache.proofs.PutLemmas.{Brought, brought}

parts : (c : Cache) (k : ℕ) → is_counted_page c k ≡ true → (0 < k) × (k < c.store.pages)
parts c k is = let p = and_parts (ltb 0 k) (ltb k c.store.pages) is in (ltb-true 0 k p.0, ltb-true k c.store.pages p.1)

-- d has the same frames over a store of as many pages, or one more
module _ (c d : Cache) (s t : ShelfState) (frames : d.frames ≡ c.frames) (ext : Extends c.store d.store s t) (no_fewer : c.store.pages ≤ d.store.pages) (over : IsOver c s) (honest : IsTrue t.is_honest → IsTrue s.is_honest) where
  same_frame : (k : ℕ) → frame_of d k ≡ frame_of c k
  same_frame k = ap (λ f. frame_of (record c { frames = f }) k) frames

  pub over_added : IsOver d t
  over_added = record {
    attached = subst (λ u. HasUnit t u) (sym ext.unit) ext.attached;
    counted = λ k frame is. let low = parts c k (over.counted k frame (sym (same_frame k) ∙ is)) in and_from (ltb 0 k) (ltb k d.store.pages) (lt-ltb 0 k low.0) (lt-ltb k d.store.pages (let l = low.1 in omega arith));
    pages = λ h. subst (λ u. HoldsPages d.store.pages (unit_file t u)) (sym ext.unit) (ext.pages h);
    clean = λ h k frame is clean.
        let was = sym (same_frame k) ∙ is in
        let low = parts c k (over.counted k frame was) in
        over.clean (honest h) k frame was clean ∙ sym (ext.others h k low.1) ∙ ap (λ u. page_of_bytes (content (unit_file t u)) k) (sym ext.unit);
  }

  -- a page that both count, or neither
  pub page_kept : IsTrue t.is_honest → (k : ℕ) → is_counted_page d k ≡ is_counted_page c k → cached_pages_of d t k ≡ cached_pages_of c s k
  page_kept h k both =
      ap (λ o. option_map_or (λ (f : Frame). f.page) o (if is_counted_page d k then page_of_bytes (content (unit_file t d.store.unit)) k else [])) (same_frame k)
      ∙ ap (option_map_or (λ (f : Frame). f.page) (frame_of c k)) stored
    where
      stored : (if is_counted_page d k then page_of_bytes (content (unit_file t d.store.unit)) k else []) ≡ (if is_counted_page c k then page_of_bytes (content (unit_file s c.store.unit)) k else [])
      stored = elim (cases_Bool (is_counted_page c k)) [
        | inl counted ↦ rw (both, counted) (ap (λ u. page_of_bytes (content (unit_file t u)) k) ext.unit ∙ ext.others h k (parts c k counted).1)
        | inr past ↦ rw (both, past) refl
      ]

  -- the page that was added
  pub page_added : (n : ℕ) → is_counted_page c n ≡ false → is_counted_page d n ≡ true → cached_pages_of d t n ≡ page_of_bytes (content (unit_file t c.store.unit)) n
  page_added n past counted = go (frame_of c n) refl
    where
      go : (o : Option Frame) → frame_of c n ≡ o → cached_pages_of d t n ≡ page_of_bytes (content (unit_file t c.store.unit)) n
      go (Some frame) is = absurd (both_ways (is_counted_page c n) past (over.counted n frame is))
      go None is = rw (same_frame n ∙ is, counted) (ap (λ u. page_of_bytes (content (unit_file t u)) n) ext.unit)

zeros_get : (n i : ℕ) → ◌≡◌ {A = ℕ} (get_or (replicate n 0) i 0) 0
zeros_get zero i = refl
zeros_get (suc n) zero = refl
zeros_get (suc n) (suc i) = zeros_get n i

pub zeros_page : (page : List ℕ) (n : ℕ) → ◌≡◌ {A = List ℕ} page (replicate n 0) → length page ≡ 4096 → IsZeros page
zeros_page page n is whole = record { whole = whole; each = λ i. ap (λ l. get_or l i 0) is ∙ zeros_get n i }

pub page_written : (f g : DeviceFile) (n : ℕ) (page : List ℕ) → 0 < n → HoldsPages n f → PageWritten n page f g → length page ≡ 4096 → page_of_bytes (content g) n ≡ page
page_written f g n page low has w whole = written_is_read f g n page has whole w ∙ over_positive n (content f) page low

pub adds : (old new : Store) (n : ℕ) (page : List ℕ) (t : ShelfState) (r : Result (Unit {0}) Fault) → max old.pages (n + 1) ≡ n + 1 → OnOk r (new ≡ record old { pages = max old.pages (n + 1) })
    → OnErr r (new ≡ old) → OnOk r (IsTrue t.is_honest → page_of_bytes (content (unit_file t old.unit)) n ≡ page) → MatchResult r (λ _. AddsPage n page old new t) (λ _. new ≡ old)
adds old new n page t (Ok x) most added kept written = record { store = added ∙ ap (λ p. record old { pages = p }) most; written = written }
adds old new n page t (Err x) most added kept written = kept

pub extended : (old new : Store) (n : ℕ) (s t : ShelfState) (page : List ℕ) → HasUnit s old.unit → n ≡ old.pages → WhereHonest s old.unit (HoldsPages old.pages) → length page ≡ 4096 → ChangesOnly old.unit s t
    → (r : Result (Unit {0}) Fault) → OnOk r (new ≡ record old { pages = max old.pages (n + 1) }) → OnErr r (new ≡ old) → WhereHonest t new.unit (HoldsPages new.pages)
    → OnOk r (PageWritten n page (unit_file s old.unit) (unit_file t old.unit)) → OnErr r (PageFails n (unit_file s old.unit) (unit_file t old.unit))
    → Extends old new s t
extended old new n s t page unit last has whole only (Ok x) added kept pages written failed = record {
  attached = same_unit old.unit s t only unit;
  unit = ap (λ x. x.unit) added;
  pages = λ honest. subst (λ u. HoldsPages new.pages (unit_file t u)) (ap (λ x. x.unit) added) (pages honest);
  others = λ honest m below. others_read (unit_file s old.unit) (unit_file t old.unit) old.pages n m page (has (sym only.honest ∙ honest)) (omega arith) below (λ same. omega arith) whole written;
}
extended old new n s t page unit last has whole only (Err x) added kept pages written failed = record {
  attached = same_unit old.unit s t only unit;
  unit = ap (λ x. x.unit) kept;
  pages = λ honest. subst (λ u. HoldsPages new.pages (unit_file t u)) (ap (λ x. x.unit) kept) (pages honest);
  others = λ honest m below. others_kept (unit_file s old.unit) (unit_file t old.unit) old.pages n m (has (sym only.honest ∙ honest)) below (λ same. omega arith) failed;
}

-- a page past the last one is not held
pub absent_past : (c : Cache) (s : ShelfState) (n : ℕ) → IsOver c s → n ≡ c.store.pages → frame_of c n ≡ None
absent_past c s n over last = go (frame_of c n) refl
  where
    go : (o : Option Frame) → frame_of c n ≡ o → frame_of c n ≡ None
    go None is = is
    go (Some other) is = let below = (parts c n (over.counted n other is)).1 in absurd (omega arith)

pub record Added (n : ℕ) (r : Result (Unit {0}) Fault) (c d : Cache) (s t : ShelfState) : Type 0 where
  pub zeroed : OnOk r (Zeroed n c d s t)
  pub kept : OnErr r (KeepsPages c d s t)
  pub goes_on : MayGoOn c d s t

counted_same : (n k : ℕ) → k ≢ n → (ltb 0 k && ltb k (n + 1)) ≡ (ltb 0 k && ltb k n)
counted_same n k differs = elim (cases_Bool (ltb k n)) [
  | inl low ↦ rw (low, lt-ltb k (n + 1) (let l = ltb-true k n low in omega arith)) refl
  | inr high ↦ rw (high, le-ltb k (n + 1) (let l = ltb-false k n high in omega (arith, differs))) refl
]

pub all_added : (c d : Cache) (s t : ShelfState) (n : ℕ) → 0 < n → n ≡ c.store.pages → d.frames ≡ c.frames → Extends c.store d.store s t → IsOver c s → GoesQuietly c.store.unit s t
    → (r : Result (Unit {0}) Fault) → OnOk r (d.store ≡ record c.store { pages = n + 1 }) → OnErr r (d.store ≡ c.store) → OnOk r (IsTrue t.is_honest → IsZeros (page_of_bytes (content (unit_file t c.store.unit)) n))
    → Added n r c d s t
all_added c d s t n low last frames ext over goes (Ok x) added kept zeros =
    let pages : d.store.pages ≡ n + 1 = ap (λ x. x.pages) added in
    let more : c.store.pages ≤ d.store.pages = omega arith in
    let most : n + 1 ≡ max c.store.pages (n + 1) = omega arith in
    record {
      zeroed = record {
        zeros = λ h. subst IsZeros (sym (page_added c d s t frames ext more over goes.others.honest n (rw (sym last) past) (rw pages (and_from (ltb 0 n) (ltb n (n + 1)) (lt-ltb 0 n low) (lt-ltb n (n + 1) (omega arith)))))) (zeros h);
        others = λ h k differs. page_kept c d s t frames ext more over goes.others.honest h k (rw (pages, sym last) (counted_same n k differs));
        store = added ∙ ap (λ p. record c.store { pages = p }) most;
      };
      kept = tt;
      goes_on = record { over = over_added c d s t frames ext more over goes.others.honest; cap = ap (λ f. f.cap) frames; goes = goes };
    }
  where
    past : (ltb 0 n && ltb n n) ≡ false
    past = and_right (ltb 0 n) (ltb n n) (le-ltb n n (omega arith))
all_added c d s t n low last frames ext over goes (Err x) added kept zeros =
    let more : c.store.pages ≤ d.store.pages = let e : d.store.pages ≡ c.store.pages = ap (λ x. x.pages) kept in omega arith in
    let here = over_added c d s t frames ext more over goes.others.honest in
    record {
      zeroed = tt;
      kept = record {
        over = here;
        pages = λ h i k. page_kept c d s t frames ext more over goes.others.honest h k (ap (λ x. ltb 0 k && ltb k x.pages) kept) i;
        keeps = record { store = kept; cap = ap (λ f. f.cap) frames };
        goes = goes;
      };
      goes_on = record { over = here; cap = ap (λ f. f.cap) frames; goes = goes };
    }

-- a page was added to the store, and put at a place that has room
module _ (c e d : Cache) (t u : ShelfState) (place n : ℕ) (frame : Frame) (low : 0 < n) (last : n ≡ c.store.pages) (over : IsOver c t) (room : HasRoom place c t)
    (frames : e.frames ≡ c.frames) (ext : Extends c.store e.store t u) (goes : GoesQuietly c.store.unit t u) (adds : AddsPage n frame.page c.store e.store u) (zeros : IsZeros frame.page) (unchanged : frame.changed ≡ false)
    (store : d.store ≡ e.store) (put : d.frames ≡ held_frames (put_at place (n, frame) e.frames.entries) e.frames.cap) where
  added : Added n (Ok tt) c e t u
  added = all_added c e t u n low last frames ext over goes (Ok tt) adds.store tt (λ h. subst IsZeros (sym (adds.written h)) zeros)

  unit : e.store.unit ≡ c.store.unit
  unit = ap (λ x. x.unit) adds.store

  room_kept : HasRoom place e u
  room_kept = record {
    written = record {
      settled = λ honest m other is.
          let was = ap (λ f. slice_get f.entries place) (sym frames) ∙ is in
          let held = held_at c place m other room.seated was in
          let below = (parts c m (over.counted m other held)).1 in
          room.written.settled (goes.others.honest honest) m other was ∙ sym (ext.others honest m below) ∙ ap (λ x. page_of_bytes (content (unit_file u x)) m) (sym unit);
    };
    seated = subst IsSeated (sym frames) room.seated;
    next = subst (λ f. place ≤ length f.entries) (sym frames) room.next;
    room = subst (λ f. place < f.cap) (sym frames) room.room;
  }

  pages : e.store.pages ≡ n + 1
  pages = ap (λ x. x.pages) adds.store

  counted : IsTrue (is_counted_page e n)
  counted = rw pages (and_from (ltb 0 n) (ltb n (n + 1)) (lt-ltb 0 n low) (lt-ltb n (n + 1) (omega arith)))

  absent : frame_of e n ≡ None
  absent = ap (λ f. frame_of (record c { frames = f }) n) frames ∙ absent_past c t n over last

  held : Brought n e d u u
  held = brought e d u u place n frame added.goes_on.over room_kept counted absent store (record { names = refl; file = refl; honest = λ h. h }) unchanged
      (λ h. sym (adds.written h) ∙ ap (λ x. page_of_bytes (content (unit_file u x)) n) (sym unit)) put

  pub zeroed_put : Zeroed n c d t u
  zeroed_put = record {
    zeros = λ h. subst IsZeros (sym (ap (λ p. p n) (held.pages h))) (added.zeroed.zeros h);
    others = λ h k differs. ap (λ p. p k) (held.pages h) ∙ added.zeroed.others h k differs;
    store = store ∙ added.zeroed.store;
  }

  pub goes_on_put : MayGoOn c d t u
  goes_on_put = record { over = held.over; cap = ap (λ f. f.cap) put ∙ added.goes_on.cap; goes = goes }

pub zeroed_then : (n : ℕ) (old c d : Cache) (s t u : ShelfState) → KeepsPages old c s t → GoesQuietly c.store.unit t u → Zeroed n c d t u → Zeroed n old d s u
zeroed_then n old c d s t u before goes z = record {
  zeros = z.zeros;
  others = λ h k differs. z.others h k differs ∙ ap (λ p. p k) (before.pages (goes.others.honest h));
  store = z.store ∙ grown_same before.keeps.store;
}
  where
    grown_same : {a b : Store} → b ≡ a → (record b { pages = max b.pages (n + 1) }) ≡ (record a { pages = max a.pages (n + 1) })
    grown_same same i = record (same i) { pages = max (same i).pages (n + 1) }

pub goes_on_then : (old c d : Cache) (s t u : ShelfState) → KeepsPages old c s t → MayGoOn c d t u → MayGoOn old d s u
goes_on_then old c d s t u before after = record {
  over = after.over;
  cap = after.cap ∙ before.keeps.cap;
  goes = goes_then old.store.unit s t u before.goes (subst (λ unit. GoesQuietly unit t u) (ap (λ x. x.unit) before.keeps.store) after.goes);
}

-- pages kept are a step on
pub goes_on_kept : (c d : Cache) (s t : ShelfState) → KeepsPages c d s t → MayGoOn c d s t
goes_on_kept c d s t kept = record { over = kept.over; cap = kept.keeps.cap; goes = kept.goes }
