-- The closing of a file that was changed.
use Rattle.std.proofs.Common.{suc, ◌≡◌, ◌⊎◌, inl, inr, ℕ, ◌*◌, ◌≤◌, ltb, List, [], ◌∷◌, ◌++◌, length, take, drop, Option, Some, refl, sym, ◌∙◌, ap, subst, arith, IsTrue}
use Rattle.std.proofs.lemmas.Bool.{and_parts, ltb-true}
use Rattle.std.proofs.lemmas.List.{length-drop}
use Rattle.page_store.specs.DeviceFile.{DeviceFile, content, page_of_bytes}
use Rattle.page_store.specs.Images.{IsSettled}
use Rattle.page_store.specs.Moments.{Throughout, Quiet}
use Rattle.page_store.proofs.MomentLemmas.{throughout_weaker, throughout_then, quiet_then}
use Rattle.page_store.proofs.OpenLemmas.{quiet_open, open_kept, refused_open, all_refused}
use Rattle.page_store.specs.Gate.{IsRefused, IsOpen, AllOpen, AllRefused, with_gate, ClosedOrRefused, WasOrRefused}
use Rattle.page_store.specs.PageFacts.{page_over}
use Rattle.page_store.specs.ShelfState.{ShelfState, unit_file}
use Rattle.page_cache.specs.declared.cache.Cache.{Cache}
use Rattle.page_cache.specs.Cached.{store_of, cached_pages_of, is_counted_page, IsOver, IsClean}
use Rattle.page_cache.proofs.HeaderLemmas.{gate_page}
use Rattle.page_cache.proofs.OverLemmas.{counted_same, clean_shows}
use Rattle.page_alloc.specs.PagedFile.{IsClosedWith, ClosedWith, ClosesPages}

abbrev Ends : List ℕ → Cache → ShelfState → Option (List ℕ) → Type 0
Ends header cache shelf c = IsRefused c ⊎ ((bytes : List ℕ) × (c ≡ Some bytes) × IsClosedWith header cache shelf bytes)

-- while the gate is open, each image is refused
pub quiet_closes : (header : List ℕ) (cache : Cache) (shelf : ShelfState) (f g : DeviceFile) → AllOpen f → Quiet f g → ClosesPages header cache shelf f g
quiet_closes header cache shelf f g all quiet = throughout_weaker IsOpen (Ends header cache shelf) f g (λ c o. inl (refused_open c o)) (quiet_open f g all quiet)

-- the header as it was written, behind a closed gate
header_closed : (n : ℕ) (old header now : List ℕ) → 1 ≤ length old → take (suc n) now ≡ take 1 old ++ drop 1 header → take (suc n) (with_gate 67 now) ≡ 67 ∷ drop 1 header
header_closed n [] header now low is = absurd (omega arith)
header_closed n (x ∷ old) header [] low is = absurd (cc)
header_closed n (x ∷ old) header (y ∷ now) low is = ap (λ l. 67 ∷ drop 1 l) is

module _ (header : List ℕ) (c d : Cache) (s t : ShelfState) (f before g h : DeviceFile) (whole : 1 ≤ length (content before)) (written : page_of_bytes (content g) 0 ≡ page_over 0 (content before) header)
    (pages : (k : ℕ) → IsTrue (is_counted_page c k) → page_of_bytes (content g) k ≡ cached_pages_of c s k) (long : 4096 * (store_of c).pages ≤ length (content g)) where
  pub closed_with : IsClosedWith header c s (with_gate 67 (content g))
  closed_with = record {
    closed = refl;
    long = omega (arith, long, length-drop 1 (content g));
    header = header_closed 4095 (content before) header (content g) whole written;
    pages = λ k counted. let low = and_parts (ltb 0 k) (ltb k (store_of c).pages) counted in gate_page 67 (content g) k (ltb-true 0 k low.0) ∙ pages k counted;
  }

  pub finish_closes : Throughout (ClosedOrRefused g) g h → ClosesPages header c s g h
  finish_closes images = throughout_weaker (ClosedOrRefused g) (Ends header c s) g h ends images
    where
      ends : (i : Option (List ℕ)) → ClosedOrRefused g i → Ends header c s i
      ends i (inl is) = inr (with_gate 67 (content g), is, closed_with)
      ends i (inr refused) = inl refused

  pub closes : AllOpen f → Quiet f g → Throughout (ClosedOrRefused g) g h → ClosesPages header c s f h
  closes all quiet images = throughout_then (Ends header c s) f g h (quiet_closes header c s f g all quiet) (finish_closes images)

  pub is_closed : content h ≡ with_gate 67 (content g) → IsSettled h → ClosedWith header c s h
  is_closed is settled = record { bytes = subst (IsClosedWith header c s) (sym is) closed_with; settled = settled }

-- a flush, the header, and the gate: d is the cache after the flush, t, u and v the shelf after each of the three
module _ (header : List ℕ) (c d : Cache) (s t u v : ShelfState) (store : store_of d ≡ store_of c) (over1 : IsOver d t) (over2 : IsOver d u) (clean : IsClean d) (h1 : IsTrue t.is_honest) (h2 : IsTrue u.is_honest)
    (p1 : cached_pages_of d t ≡ cached_pages_of c s) (p2 : cached_pages_of d u ≡ cached_pages_of d t)
    (written : page_of_bytes (content (unit_file u (store_of d).unit)) 0 ≡ page_over 0 (content (unit_file t (store_of d).unit)) header)
    (q1 : Quiet (unit_file s (store_of c).unit) (unit_file t (store_of c).unit)) (q2 : Quiet (unit_file t (store_of d).unit) (unit_file u (store_of d).unit))
    (all : AllOpen (unit_file s (store_of c).unit)) where
  unit : (store_of d).unit ≡ (store_of c).unit
  unit = ap (λ x. x.unit) store

  pages : (k : ℕ) → IsTrue (is_counted_page c k) → page_of_bytes (content (unit_file u (store_of c).unit)) k ≡ cached_pages_of c s k
  pages k counted =
      ap (λ n. page_of_bytes (content (unit_file u n)) k) (sym unit)
      ∙ sym (clean_shows d u k over2 clean h2 (counted_same c d k store counted))
      ∙ ap (λ (p : ℕ → List ℕ). p k) (p2 ∙ p1)

  whole : 1 ≤ length (content (unit_file t (store_of c).unit))
  whole = let l = (over1.pages h1).long in subst (λ n. 1 ≤ length (content (unit_file t n))) unit (omega arith)

  here : page_of_bytes (content (unit_file u (store_of c).unit)) 0 ≡ page_over 0 (content (unit_file t (store_of c).unit)) header
  here = subst (λ n. page_of_bytes (content (unit_file u n)) 0 ≡ page_over 0 (content (unit_file t n)) header) unit written

  long : 4096 * (store_of c).pages ≤ length (content (unit_file u (store_of c).unit))
  long = subst (λ x. 4096 * x.pages ≤ length (content (unit_file u x.unit))) store (let l = (over2.pages h2).long in omega arith)

  quiet : Quiet (unit_file s (store_of c).unit) (unit_file u (store_of c).unit)
  quiet = quiet_then (unit_file s (store_of c).unit) (unit_file t (store_of c).unit) (unit_file u (store_of c).unit) q1 (subst (λ n. Quiet (unit_file t n) (unit_file u n)) unit q2)

  pub all_closes : (AllRefused (unit_file u (store_of d).unit) → Throughout (ClosedOrRefused (unit_file u (store_of d).unit)) (unit_file u (store_of d).unit) (unit_file v (store_of d).unit)) → ClosesPages header c s (unit_file s (store_of c).unit) (unit_file v (store_of c).unit)
  all_closes images =
      let refused : AllRefused (unit_file u (store_of c).unit) = all_refused (unit_file u (store_of c).unit) (open_kept (unit_file s (store_of c).unit) (unit_file u (store_of c).unit) all quiet) in
      let images_here = subst (λ n. AllRefused (unit_file u n) → Throughout (ClosedOrRefused (unit_file u n)) (unit_file u n) (unit_file v n)) unit images in
      closes header c d s t (unit_file s (store_of c).unit) (unit_file t (store_of c).unit) (unit_file u (store_of c).unit) (unit_file v (store_of c).unit) whole here pages long all quiet (images_here refused)

  pub all_closed : (content (unit_file v (store_of d).unit) ≡ with_gate 67 (content (unit_file u (store_of d).unit))) × IsSettled (unit_file v (store_of d).unit) → ClosedWith header c s (unit_file v (store_of c).unit)
  all_closed end =
      let there = subst (λ n. (content (unit_file v n) ≡ with_gate 67 (content (unit_file u n))) × IsSettled (unit_file v n)) unit end in
      is_closed header c d s t (unit_file s (store_of c).unit) (unit_file t (store_of c).unit) (unit_file u (store_of c).unit) (unit_file v (store_of c).unit) whole here pages long there.0 there.1

-- a quiet step behind a gate that was opened
pub made_quietly : (f g h : DeviceFile) → Throughout (WasOrRefused f) f g → AllOpen g → Quiet g h → Throughout (WasOrRefused f) f h
made_quietly f g h made all quiet = throughout_then (WasOrRefused f) f g h made (throughout_weaker IsOpen (WasOrRefused f) g h (λ c o. inr (refused_open c o)) (quiet_open g h all quiet))
