-- What a cache that has the same frames needs of its shelf, and shows.
use Rattle.std.proofs.Common.{◌≡◌, ◌≢◌, inl, inr, ℕ, ltb, ◌&&◌, true, if◌then◌else◌, ◌<◌, length, Option, Some, None, List, [], refl, sym, ◌∙◌, ap, subst, IsTrue, option_map}
use Rattle.std.specs.Option.{option_map_or}
use Rattle.std.proofs.lemmas.Bool.{cases_eq, both_ways}
use Rattle.page_store.specs.DeviceFile.{content, page_of_bytes}
use Rattle.page_store.specs.Pages.{HoldsPages}
use Rattle.page_store.specs.ShelfState.{ShelfState, HasUnit, unit_name, unit_file, OnlyAnswers}
use Rattle.page_cache.specs.HeldFrames.{Frame}
use Rattle.page_cache.specs.declared.cache.Cache.{Cache}
use Rattle.page_cache.specs.Lending.{FrameSet}
use Rattle.page_cache.specs.Cached.{frame_of, bytes_held, is_counted_page, cached_pages_of, IsOver, IsClean}
use Rattle.page_cache.specs.Calls.{KeepsPages}
use Rattle.page_cache.proofs.QuietLemmas.{goes_nowhere, reads_quietly}

pub counted_same : (c d : Cache) (n : ℕ) → d.store ≡ c.store → IsTrue (is_counted_page c n) → IsTrue (is_counted_page d n)
counted_same c d n same is = subst (λ x. IsTrue (is_counted_page (record c { store = x }) n)) (sym same) is

pub over_same : (c d : Cache) (s : ShelfState) → d.store ≡ c.store → ((k : ℕ) → frame_of d k ≡ frame_of c k) → IsOver c s → IsOver d s
over_same c d s store same over = record {
  attached = subst (λ unit. HasUnit s unit) (sym (ap (λ x. x.unit) store)) over.attached;
  counted = λ n frame is. counted_same c d n store (over.counted n frame (sym (same n) ∙ is));
  pages = λ honest. subst (λ x. HoldsPages x.pages (unit_file s x.unit)) (sym store) (over.pages honest);
  clean = λ honest n frame is unchanged. over.clean honest n frame (sym (same n) ∙ is) unchanged ∙ ap (λ x. page_of_bytes (content (unit_file s x.unit)) n) (sym store);
}

pub clean_same : (c d : Cache) → ((k : ℕ) → frame_of d k ≡ frame_of c k) → IsClean c → IsClean d
clean_same c d same clean = record { clean = λ n frame is. clean.clean n frame (sym (same n) ∙ is) }

pages_same_at : (c d : Cache) (s : ShelfState) (k : ℕ) → d.store ≡ c.store → frame_of d k ≡ frame_of c k → cached_pages_of d s k ≡ cached_pages_of c s k
pages_same_at c d s k store same =
    ap (λ o. option_map_or (λ (frame : Frame). frame.page) o (if is_counted_page d k then page_of_bytes (content (unit_file s d.store.unit)) k else [])) same
    ∙ ap (λ x. option_map_or (λ (frame : Frame). frame.page) (frame_of c k) (if ltb 0 k && ltb k x.pages then page_of_bytes (content (unit_file s x.unit)) k else [])) store

-- the same frames show the same pages
pub pages_same : (c d : Cache) (s : ShelfState) → d.store ≡ c.store → ((k : ℕ) → frame_of d k ≡ frame_of c k) → cached_pages_of d s ≡ cached_pages_of c s
pages_same c d s store same = λ i k. pages_same_at c d s k store (same k) i

mapped : (o : Option Frame) (w rest : List ℕ) → option_map (λ frame. frame.page) o ≡ Some w → option_map_or (λ frame. frame.page) o rest ≡ w
mapped None w rest is = absurd (cc)
mapped (Some frame) w rest is = cc

-- a held page is what the cache shows
pub held_page : (c : Cache) (s : ShelfState) (n : ℕ) (w : List ℕ) → bytes_held c n ≡ Some w → cached_pages_of c s n ≡ w
held_page c s n w is = mapped (frame_of c n) w _ is

changed_at : (o : Option Frame) (frame : Frame) → option_map (λ frame. frame.changed) o ≡ Some true → o ≡ Some frame → frame.changed ≡ true
changed_at None frame is at = absurd (cc)
changed_at (Some g) frame is at = cc

module _ (n : ℕ) (w : List ℕ) (c d : Cache) (set : FrameSet n w c d) where
  pub set_page : (s : ShelfState) → cached_pages_of d s n ≡ w
  set_page s = held_page d s n w set.this

  pub set_others : (s : ShelfState) (k : ℕ) → k ≢ n → cached_pages_of d s k ≡ cached_pages_of c s k
  set_others s k differs = pages_same_at c d s k set.store (set.others k differs)

  pub over_set : (s : ShelfState) → IsTrue (is_counted_page c n) → IsOver c s → IsOver d s
  over_set s here over = record {
    attached = subst (λ unit. HasUnit s unit) (sym (ap (λ x. x.unit) set.store)) over.attached;
    counted = λ k frame is. counted_same c d k set.store
        (elim (cases_eq k n) [ inl same ↦ rw same here | inr differs ↦ over.counted k frame (sym (set.others k differs) ∙ is) ]);
    pages = λ honest. subst (λ x. HoldsPages x.pages (unit_file s x.unit)) (sym set.store) (over.pages honest);
    clean = λ honest k frame is unchanged. elim (cases_eq k n) [
      | inl same ↦ absurd (both_ways frame.changed unchanged (changed_at (frame_of d n) frame set.changed (ap (frame_of d) (sym same) ∙ is)))
      | inr differs ↦ over.clean honest k frame (sym (set.others k differs) ∙ is) unchanged ∙ ap (λ x. page_of_bytes (content (unit_file s x.unit)) k) (sym set.store)
    ];
  }

-- a cache without changed pages shows those of the file
pub clean_shows : (c : Cache) (s : ShelfState) (k : ℕ) → IsOver c s → IsClean c → IsTrue s.is_honest → IsTrue (is_counted_page c k) → cached_pages_of c s k ≡ page_of_bytes (content (unit_file s c.store.unit)) k
clean_shows c s k over clean honest counted = go (frame_of c k) refl
  where
    go : (o : Option Frame) → frame_of c k ≡ o → cached_pages_of c s k ≡ page_of_bytes (content (unit_file s c.store.unit)) k
    go None is = rw (is, counted) refl
    go (Some frame) is = rw is (over.clean honest k frame is (clean.clean k frame is))

-- the shelf only answered
module _ (c : Cache) (t u : ShelfState) (only : OnlyAnswers t u) where
  pub file_read : unit_file u c.store.unit ≡ unit_file t c.store.unit
  file_read = ap (λ file. file (unit_name u c.store.unit)) only.file ∙ ap (λ names. t.file (unit_name (record t { names = names }) c.store.unit)) only.names

  pub pages_read : cached_pages_of c u ≡ cached_pages_of c t
  pages_read = λ i k. option_map_or (λ (f : Frame). f.page) (frame_of c k) (if is_counted_page c k then page_of_bytes (content (file_read i)) k else [])

  pub over_read : IsOver c t → IsOver c u
  over_read over = record {
    attached = record { attached = subst (λ names. c.store.unit < length names) (sym only.names) over.attached.attached };
    counted = over.counted;
    pages = λ honest. rw file_read (over.pages (only.honest honest));
    clean = λ honest k frame is clean. rw file_read (over.clean (only.honest honest) k frame is clean);
  }

-- the frames are the same, in another order perhaps
pub keeps_frames : (c d : Cache) (s : ShelfState) → d.store ≡ c.store → ((k : ℕ) → frame_of d k ≡ frame_of c k) → d.frames.cap ≡ c.frames.cap → IsOver c s → KeepsPages c d s s
keeps_frames c d s store same cap over = record {
  over = over_same c d s store same over;
  pages = λ honest. pages_same c d s store same;
  keeps = record { store = store; cap = cap };
  goes = goes_nowhere c.store.unit s;
}

-- nothing but the count of pages asked has changed
pub keeps_same : (c d : Cache) (s : ShelfState) → d.store ≡ c.store → d.frames ≡ c.frames → IsOver c s → KeepsPages c d s s
keeps_same c d s store frames over = keeps_frames c d s store (λ k. ap (λ f. frame_of (record c { frames = f }) k) frames) (ap (λ f. f.cap) frames) over

-- the shelf only answered, and the frames are the same
pub keeps_read : (c d : Cache) (s t : ShelfState) → d.store ≡ c.store → d.frames ≡ c.frames → OnlyAnswers s t → IsOver c s → KeepsPages c d s t
keeps_read c d s t store frames only over =
    let same : (k : ℕ) → frame_of d k ≡ frame_of c k = λ k. ap (λ f. frame_of (record c { frames = f }) k) frames in
    record {
      over = over_same c d t store same (over_read c s t only over);
      pages = λ honest. pages_same c d t store same ∙ pages_read c s t only;
      keeps = record { store = store; cap = ap (λ f. f.cap) frames };
      goes = reads_quietly c.store.unit s t only;
    }
