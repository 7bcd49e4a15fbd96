-- What a frame that is put at a place leaves of the list of pages.
use Rattle.std.proofs.Common.{◌≡◌, ◌≢◌, ◌⊎◌, inl, inr, ℕ, ◌+◌, ◌<◌, max, false, true, if◌then◌else◌, nat_eq, Option, Some, None, [], length, slice_get, refl, sym, ◌∙◌, ap, subst, arith, IsTrue, IsSome, is_some}
use Rattle.page_cache.proofs.WriteLemmas.{counted_low}
use Rattle.page_cache.specs.Calls.{Zeroed}
use Rattle.page_cache.specs.Rewrites.{IsZeros}
use Rattle.std.specs.Option.{option_map_or}
use Rattle.std.specs.Map.{lookup}
use Rattle.std.proofs.lemmas.Bool.{cases_eq, both_ways}
use Rattle.page_store.specs.DeviceFile.{content, page_of_bytes}
use Rattle.page_store.specs.Pages.{HoldsPages}
use Rattle.page_store.specs.ShelfState.{ShelfState, unit_name, unit_file, OnlyAnswers}
use Rattle.page_cache.specs.declared.cache.Cache.{Cache}
use Rattle.page_cache.specs.Cached.{frame_of, is_counted_page, cached_pages_of, IsOver, IsClean}
use Rattle.page_cache.specs.HeldFrames.{Frame, held_frames, put_at}
use Rattle.page_cache.specs.Room.{HasRoom}
use Rattle.page_cache.proofs.FrameLemmas.{put_found, put_apart}

-- the frame stands at the place, of which the page may be gone
module _ (c d : Cache) (t u : ShelfState) (place n : ℕ) (frame : Frame) (over : IsOver c t) (room : HasRoom place c t) (counted : IsTrue (is_counted_page c n))
    (absent : frame_of c n ≡ None) (store : d.store ≡ c.store) (put : d.frames ≡ held_frames (put_at place (n, frame) c.frames.entries) c.frames.cap) (only : OnlyAnswers t u) where
  entries : d.frames.entries ≡ put_at place (n, frame) c.frames.entries
  entries = ap (λ frames. frames.entries) put

  pub put_here : frame_of d n ≡ Some frame
  put_here = ap (lookup (nat_eq n)) entries ∙ put_found n frame c.frames.entries place absent

  pub put_other : (k : ℕ) → k ≢ n → (frame_of d k ≡ frame_of c k) ⊎ ((frame_of d k ≡ None) × ((other : Frame) × (slice_get c.frames.entries place ≡ Some (k, other)) × (frame_of c k ≡ Some other)))
  put_other k differs = elim (put_apart k n frame c.frames.entries place differs room.seated.apart) [
    | inl same ↦ inl (ap (lookup (nat_eq k)) entries ∙ same)
    | inr gone ↦ inr (ap (lookup (nat_eq k)) entries ∙ gone.0, gone.1)
  ]

  -- what d finds but the new frame, c found
  was_held : (k : ℕ) (other : Frame) → k ≢ n → frame_of d k ≡ Some other → frame_of c k ≡ Some other
  was_held k other differs is = elim (put_other k differs) [
    | inl same ↦ sym same ∙ is
    | inr gone ↦ absurd (ends other (sym gone.0 ∙ is))
  ]
    where
      ends : (other : Frame) → None ≡ Some other → ⊥
      ends other e = cc

  file_same : unit_file u d.store.unit ≡ unit_file t c.store.unit
  file_same = ap (λ x. unit_file u x.unit) store ∙ ap (λ file. file (unit_name u c.store.unit)) only.file ∙ ap (λ names. t.file (unit_name (record t { names = names }) c.store.unit)) only.names

  one_frame : (other : Frame) → frame_of d n ≡ Some other → other ≡ frame
  one_frame other is = let e : Some other ≡ Some frame = sym is ∙ put_here in cc

  counted_in : (k : ℕ) → IsTrue (is_counted_page c k) → IsTrue (is_counted_page d k)
  counted_in k is = subst (λ x. IsTrue (is_counted_page (record c { store = x }) k)) (sym store) is

  -- the frame is that of the file, or counts as changed
  pub over_put : (IsTrue u.is_honest → frame.changed ≡ false → frame.page ≡ page_of_bytes (content (unit_file t c.store.unit)) n) → IsOver d u
  over_put bytes = record {
    attached = record { attached = subst (λ names. d.store.unit < length names) (sym only.names) (subst (λ x. x.unit < length t.names) (sym store) over.attached.attached) };
    counted = λ k other is. counted_in k (elim (cases_eq k n) [ inl same ↦ rw same counted | inr differs ↦ over.counted k other (was_held k other differs is) ]);
    pages = λ honest. rw file_same (subst (λ x. HoldsPages x.pages (unit_file t c.store.unit)) (sym store) (over.pages (only.honest honest)));
    clean = λ honest k other is clean. rw file_same (elim (cases_eq k n) [
      | inl same ↦
          let one = one_frame other (ap (frame_of d) (sym same) ∙ is) in
          ap (λ (x : Frame). x.page) one ∙ bytes honest (sym (ap (λ (x : Frame). x.changed) one) ∙ clean) ∙ ap (page_of_bytes (content (unit_file t c.store.unit))) (sym same)
      | inr differs ↦ over.clean (only.honest honest) k other (was_held k other differs is) clean
    ]);
  }

  pub clean_put : frame.changed ≡ false → IsClean c → IsClean d
  clean_put unchanged clean = record {
    clean = λ k other is. elim (cases_eq k n) [
      | inl same ↦ ap (λ (x : Frame). x.changed) (one_frame other (ap (frame_of d) (sym same) ∙ is)) ∙ unchanged
      | inr differs ↦ clean.clean k other (was_held k other differs is)
    ];
  }

  stored : (k : ℕ) → (if is_counted_page d k then page_of_bytes (content (unit_file u d.store.unit)) k else []) ≡ (if is_counted_page c k then page_of_bytes (content (unit_file t c.store.unit)) k else [])
  stored k = ap (λ file. if is_counted_page d k then page_of_bytes (content file) k else []) file_same ∙ ap (λ x. if is_counted_page (record c { store = x }) k then page_of_bytes (content (unit_file t c.store.unit)) k else []) store

  of_frame : (k : ℕ) (o q : Option Frame) → frame_of d k ≡ o → frame_of c k ≡ q → option_map_or (λ (f : Frame). f.page) o (if is_counted_page d k then page_of_bytes (content (unit_file u d.store.unit)) k else []) ≡ option_map_or (λ (f : Frame). f.page) q (if is_counted_page c k then page_of_bytes (content (unit_file t c.store.unit)) k else []) → cached_pages_of d u k ≡ cached_pages_of c t k
  of_frame k o q d_is c_is same = rw (d_is, c_is) same

  pub page_here : cached_pages_of d u n ≡ frame.page
  page_here = ap (λ o. option_map_or (λ (f : Frame). f.page) o (if is_counted_page d n then page_of_bytes (content (unit_file u d.store.unit)) n else [])) put_here

  pub pages_apart : IsTrue u.is_honest → (k : ℕ) → k ≢ n → cached_pages_of d u k ≡ cached_pages_of c t k
  pages_apart honest k differs = elim (put_other k differs) [
    | inl kept ↦ ap (λ o. option_map_or (λ (f : Frame). f.page) o (if is_counted_page d k then page_of_bytes (content (unit_file u d.store.unit)) k else [])) kept ∙ ap (option_map_or (λ (f : Frame). f.page) (frame_of c k)) (stored k)
    | inr gone ↦ of_frame k None (Some gone.1.0) gone.0 gone.1.2 (stored k ∙ rw (over.counted k gone.1.0 gone.1.2) (sym (room.written.settled (only.honest honest) k gone.1.0 gone.1.1)))
  ]

  pub pages_put : (IsTrue u.is_honest → frame.page ≡ page_of_bytes (content (unit_file t c.store.unit)) n) → IsTrue u.is_honest → cached_pages_of d u ≡ cached_pages_of c t
  pages_put bytes honest = λ i k. at k i
    where
      at : (k : ℕ) → cached_pages_of d u k ≡ cached_pages_of c t k
      at k = elim (cases_eq k n) [
        | inl same ↦ of_frame k (Some frame) None (ap (frame_of d) same ∙ put_here) (ap (frame_of c) same ∙ absent) (bytes honest ∙ rw (same, counted) refl)
        | inr differs ↦ pages_apart honest k differs
      ]

-- what a page that was read and put at a place leaves
pub record Brought (n : ℕ) (c d : Cache) (t u : ShelfState) : Type 0 where
  pub held : IsSome (frame_of d n)
  pub over : IsOver d u
  pub pages : IsTrue u.is_honest → cached_pages_of d u ≡ cached_pages_of c t
  pub clean : IsClean c → IsClean d

pub brought : (c d : Cache) (t u : ShelfState) (place n : ℕ) (frame : Frame) → IsOver c t → HasRoom place c t → IsTrue (is_counted_page c n) → frame_of c n ≡ None → d.store ≡ c.store
    → OnlyAnswers t u → frame.changed ≡ false → (IsTrue u.is_honest → frame.page ≡ page_of_bytes (content (unit_file t c.store.unit)) n)
    → d.frames ≡ held_frames (put_at place (n, frame) c.frames.entries) c.frames.cap → Brought n c d t u
brought c d t u place n frame over room counted absent store only unchanged bytes put = record {
  held = ap is_some (put_here c d t u place n frame over room counted absent store put only);
  over = over_put c d t u place n frame over room counted absent store put only (λ honest _. bytes honest);
  pages = pages_put c d t u place n frame over room counted absent store put only bytes;
  clean = clean_put c d t u place n frame over room counted absent store put only unchanged;
}

-- what a page of zeros that was put at a place leaves
pub record Blanked (n : ℕ) (c d : Cache) (t : ShelfState) : Type 0 where
  pub zeroed : Zeroed n c d t t
  pub over : IsOver d t

pub blanked : (c d : Cache) (t : ShelfState) (place n : ℕ) (frame : Frame) → IsOver c t → HasRoom place c t → IsTrue (is_counted_page c n) → frame_of c n ≡ None → d.store ≡ c.store
    → frame.changed ≡ true → IsZeros frame.page → d.frames ≡ held_frames (put_at place (n, frame) c.frames.entries) c.frames.cap → Blanked n c d t
blanked c d t place n frame over room counted absent store changed zeros put =
    let only : OnlyAnswers t t = record { names = refl; file = refl; honest = λ h. h } in
    let low = (counted_low c n counted).1 in
    let most : c.store.pages ≡ max c.store.pages (n + 1) = omega arith in
    record {
      zeroed = record {
        zeros = λ honest. subst IsZeros (sym (page_here c d t t place n frame over room counted absent store put only)) zeros;
        others = λ honest k differs. pages_apart c d t t place n frame over room counted absent store put only honest k differs;
        store = store ∙ ap (λ p. record c.store { pages = p }) most;
      };
      over = over_put c d t t place n frame over room counted absent store put only (λ honest clean. absurd (both_ways frame.changed clean changed));
    }
