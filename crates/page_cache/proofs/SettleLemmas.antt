-- A frame that was written is marked as not changed.
use Rattle.std.proofs.Common.{zero, suc, ◌≡◌, ◌≢◌, inl, inr, ℕ, ◌+◌, ◌<◌, ltb, ◌&&◌, false, if◌then◌else◌, nat_eq, Option, Some, None, option_map, List, [], ◌∷◌, length, slice_get, refl, sym, ◌∙◌, ap, subst, arith, IsTrue}
use Rattle.std.specs.List.{IsDistinct, AllByRecursion}
use Rattle.std.specs.Map.{keys_of, lookup}
use Rattle.std.specs.Option.{option_map_or}
use Rattle.std.specs.Cmp.{nat_eq_equiv}
use Rattle.std.proofs.lemmas.Bool.{cases_eq, eqb-false, eq-eqb, ne_eqb}
use Rattle.std.proofs.lemmas.Map.Entries.{place_from_lookup, lookup_from_place}
use Rattle.std.proofs.lemmas.Map.Keys.{IsDistinct-head, IsDistinct-tail}
use Rattle.page_store.specs.DeviceFile.{content, page_of_bytes}
use Rattle.page_store.specs.Pages.{HoldsPages}
use Rattle.page_store.specs.ShelfState.{ShelfState, HasUnit, unit_file}
use Rattle.page_cache.specs.declared.cache.Cache.{Cache}
use Rattle.page_cache.specs.Cached.{frame_of, is_counted_page, cached_pages_of, IsOver, IsClean}
use Rattle.page_cache.specs.HeldFrames.{Frame, settled}

pub settled_length : (p : ℕ) (es : List (ℕ × Frame)) → length (settled p es) ≡ length es
settled_length p [] = refl
settled_length zero (e ∷ es) = refl
settled_length (suc p) (e ∷ es) = ap suc (settled_length p es)

number_of : (e : ℕ × Frame) (n : ℕ) (frame : Frame) → Some e ≡ Some (n, frame) → e.0 ≡ n
number_of e n frame is = ap (λ (o : Option (ℕ × Frame)). option_map_or (λ q. q.0) o n) is

away : (k n : ℕ) (frame : Frame) (es : List (ℕ × Frame)) (p : ℕ) → AllByRecursion (λ y. nat_eq k y ≡ false) (keys_of es) → slice_get es p ≡ Some (n, frame) → k ≢ n
away k n frame [] p apart is = absurd (cc)
away k n frame (e ∷ es) zero apart is = λ same. eqb-false k e.0 apart.0 (same ∙ sym (number_of e n frame is))
away k n frame (e ∷ es) (suc p) apart is = away k n frame es p apart.1 is

-- the page of the place, and another one
pub settled_here : (n : ℕ) (frame : Frame) (es : List (ℕ × Frame)) (p : ℕ) → IsDistinct nat_eq (keys_of es) → slice_get es p ≡ Some (n, frame) → lookup (nat_eq n) (settled p es) ≡ Some (record frame { changed = false })
settled_here n frame [] p distinct is = absurd (cc)
settled_here n frame (e ∷ es) zero distinct is =
    rw (eq-eqb n e.0 (sym (number_of e n frame is))) (ap (λ (o : Option (ℕ × Frame)). Some (record (option_map_or (λ q. q.1) o frame) { changed = false })) is)
settled_here n frame (e ∷ es) (suc p) distinct is =
    let apart = away e.0 n frame es p (IsDistinct-head nat_eq e.0 (keys_of es) distinct) is in
    rw (ne_eqb n e.0 (λ same. apart (sym same))) (settled_here n frame es p (IsDistinct-tail nat_eq e.0 (keys_of es) distinct) is)

pub settled_apart : (k n : ℕ) (frame : Frame) (es : List (ℕ × Frame)) (p : ℕ) → slice_get es p ≡ Some (n, frame) → k ≢ n → lookup (nat_eq k) (settled p es) ≡ lookup (nat_eq k) es
settled_apart k n frame [] p is differs = refl
settled_apart k n frame (e ∷ es) zero is differs = rw (ne_eqb k e.0 (λ same. differs (same ∙ number_of e n frame is))) refl
settled_apart k n frame (e ∷ es) (suc p) is differs = ap (λ o. if nat_eq k e.0 then Some e.1 else o) (settled_apart k n frame es p is differs)

-- the frames up to a place are not changed
pub record CleanFront (k : ℕ) (c : Cache) : Type 0 where
  pub each : (j n : ℕ) (frame : Frame) → j < k → slice_get c.frames.entries j ≡ Some (n, frame) → frame.changed ≡ false

pub front_none : (c : Cache) → CleanFront 0 c
front_none c = record { each = λ j n frame low is. absurd (omega arith) }

settled_front : (es : List (ℕ × Frame)) (k j n : ℕ) (frame : Frame) → ((i m : ℕ) (other : Frame) → i < k → slice_get es i ≡ Some (m, other) → other.changed ≡ false) → j < k + 1
    → slice_get (settled k es) j ≡ Some (n, frame) → frame.changed ≡ false
settled_front [] k j n frame front low is = absurd (cc)
settled_front (e ∷ es) zero zero n frame front low is = sym (ap (λ (o : Option (ℕ × Frame)). option_map_or (λ q. q.1.changed) o false) is)
settled_front (e ∷ es) zero (suc j) n frame front low is = absurd (omega arith)
settled_front (e ∷ es) (suc k) zero n frame front low is = front 0 n frame (omega arith) is
settled_front (e ∷ es) (suc k) (suc j) n frame front low is = settled_front es k j n frame (λ i m other below at. front (suc i) m other (omega arith) at) (omega arith) is

pub front_more : (k : ℕ) (c d : Cache) → CleanFront k c → d.frames.entries ≡ settled k c.frames.entries → CleanFront (k + 1) d
front_more k c d front is = record { each = λ j n frame low at. settled_front c.frames.entries k j n frame front.each low (ap (λ l. slice_get l j) (sym is) ∙ at) }

pub front_all : (c : Cache) → CleanFront (length c.frames.entries) c → IsClean c
front_all c front = record { clean = λ n frame is. let p = place_from_lookup (nat_eq n) c.frames.entries frame is in front.each p.0 p.1 frame (below c.frames.entries p.0 (p.1, frame) p.2) p.2 }
  where
    below : {X : Type 0} (es : List X) (j : ℕ) (x : X) → slice_get es j ≡ Some x → j < length es
    below [] j x is = absurd (cc)
    below (y ∷ es) zero x is = omega arith
    below (y ∷ es) (suc j) x is = let l = below es j x is in omega arith

-- the frame of the place is that of the file
module _ (c d : Cache) (p n : ℕ) (frame : Frame) (distinct : IsDistinct nat_eq (keys_of c.frames.entries)) (at : slice_get c.frames.entries p ≡ Some (n, frame)) (is : d.frames.entries ≡ settled p c.frames.entries) where
  found : frame_of c n ≡ Some frame
  found = lookup_from_place nat_eq_equiv c.frames.entries p n frame distinct at

  here : frame_of d n ≡ Some (record frame { changed = false })
  here = ap (lookup (nat_eq n)) is ∙ settled_here n frame c.frames.entries p distinct at

  other : (k : ℕ) → k ≢ n → frame_of d k ≡ frame_of c k
  other k differs = ap (lookup (nat_eq k)) is ∙ settled_apart k n frame c.frames.entries p at differs

  shows_same : (k : ℕ) → option_map (λ (f : Frame). f.page) (frame_of d k) ≡ option_map (λ (f : Frame). f.page) (frame_of c k)
  shows_same k = elim (cases_eq k n) [
    | inl same ↦
        ap (λ m. option_map (λ (f : Frame). f.page) (frame_of d m)) same ∙ ap (option_map (λ (f : Frame). f.page)) here ∙ sym (ap (option_map (λ (f : Frame). f.page)) found)
        ∙ sym (ap (λ m. option_map (λ (f : Frame). f.page) (frame_of c m)) same)
    | inr differs ↦ ap (option_map (λ (f : Frame). f.page)) (other k differs)
  ]

  pub pages_settled : (s : ShelfState) → d.store ≡ c.store → cached_pages_of d s ≡ cached_pages_of c s
  pages_settled s store = λ i k. at_page k i
    where
      by_map : (o q : Option Frame) (rest more : List ℕ) → option_map (λ (f : Frame). f.page) o ≡ option_map (λ (f : Frame). f.page) q → rest ≡ more
          → option_map_or (λ (f : Frame). f.page) o rest ≡ option_map_or (λ (f : Frame). f.page) q more
      by_map None None rest more same e = e
      by_map None (Some g) rest more same e = absurd (cc)
      by_map (Some f) None rest more same e = absurd (cc)
      by_map (Some f) (Some g) rest more same e = ap (λ (o : Option (List ℕ)). option_map_or (λ v. v) o f.page) same

      at_page : (k : ℕ) → cached_pages_of d s k ≡ cached_pages_of c s k
      at_page k = by_map (frame_of d k) (frame_of c k) _ _ (shows_same k) (ap (λ x. if ltb 0 k && ltb k x.pages then page_of_bytes (content (unit_file s x.unit)) k else []) store)

  pub over_settled : (s : ShelfState) → d.store ≡ c.store → IsOver c s → (IsTrue s.is_honest → frame.page ≡ page_of_bytes (content (unit_file s c.store.unit)) n) → IsOver d s
  over_settled s store over same = record {
    attached = subst (λ unit. HasUnit s unit) (sym (ap (λ x. x.unit) store)) over.attached;
    counted = λ k some got. subst (λ x. IsTrue (is_counted_page (record c { store = x }) k)) (sym store) (elim (cases_eq k n) [
      | inl now ↦ rw now (over.counted n frame found)
      | inr differs ↦ over.counted k some (sym (other k differs) ∙ got)
    ]);
    pages = λ honest. subst (λ x. HoldsPages x.pages (unit_file s x.unit)) (sym store) (over.pages honest);
    clean = λ honest k some got clean. elim (cases_eq k n) [
      | inl now ↦
          let one : Some (record frame { changed = false }) ≡ Some some = sym here ∙ ap (frame_of d) (sym now) ∙ got in
          sym (ap (λ (o : Option Frame). option_map_or (λ (f : Frame). f.page) o []) one) ∙ same honest ∙ ap (λ x. page_of_bytes (content (unit_file s x.unit)) n) (sym store) ∙ ap (page_of_bytes (content (unit_file s d.store.unit))) (sym now)
      | inr differs ↦ over.clean honest k some (sym (other k differs) ∙ got) clean ∙ ap (λ x. page_of_bytes (content (unit_file s x.unit)) k) (sym store)
    ];
  }
