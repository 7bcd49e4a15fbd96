-- Steps of calls, one after the other: what the pages of an open file promise as a trait.
use Rattle.std.proofs.Common.{◌≡◌, inl, inr, ℕ, ◌≤◌, false, IsTrue, refl, sym, ◌∙◌, ap, subst, arith}
use Rattle.std.proofs.lemmas.Bool.{cases_Bool}
use Rattle.page_store.specs.DeviceFile.{DeviceFile}
use Rattle.page_store.specs.Moments.{Throughout}
use Rattle.page_store.proofs.MomentLemmas.{throughout_none, throughout_weaker}
use Rattle.page_store.proofs.OpenLemmas.{quiet_open, open_kept, refused_open, all_refused}
use Rattle.page_store.proofs.RefusedLemmas.{refused_after, images_then}
use Rattle.page_store.proofs.ShelfLemmas.{same_place, others_then}
use Rattle.page_store.specs.Gate.{IsRefused, IsOpen, WasOrRefused}
use Rattle.page_store.specs.ShelfState.{ShelfState, unit_file, KeepsOthers}
use Rattle.page_cache.specs.declared.cache.Cache.{Cache}
use Rattle.page_cache.specs.Cached.{store_of}
use Rattle.page_cache.specs.Quietly.{GoesQuietly}
use Rattle.page_cache.proofs.QuietLemmas.{goes_nowhere, goes_then}
use Rattle.page_alloc.specs.declared.paged_file.PagedFile.{PagedFile}
use Rattle.page_alloc.specs.Joining.{PartsGo, FaultsRose}
use Rattle.page_alloc.specs.PagedFile.{unit_of_pages, IsOpenOver, IsKeptOrRefused}
use Rattle.page_alloc.specs.Steps.{KeepsGate, ReadsFilePages, MayOpenGate}

pub parts_stay : (c : Cache) (s : ShelfState) (n : ℕ) → PartsGo c c s s n n
parts_stay c s n = record {
  unit = refl;
  cap = refl;
  pages = omega arith;
  asked = omega arith;
  quietly = goes_nowhere (store_of c).unit s;
  faults = omega arith;
}

pub parts_then : (c d e : Cache) (x y z : ShelfState) (i j k : ℕ) → PartsGo c d x y i j
    → PartsGo d e y z j k → PartsGo c e x z i k
parts_then c d e x y z i j k cd de = record {
  unit = de.unit ∙ cd.unit;
  cap = de.cap ∙ cd.cap;
  pages = let p = cd.pages in let q = de.pages in omega arith;
  asked = let p = cd.asked in let q = de.asked in omega arith;
  quietly = goes_then (store_of c).unit x y z cd.quietly
      (subst (λ unit. GoesQuietly unit y z) cd.unit de.quietly);
  faults = let p = cd.faults in let q = de.faults in omega arith;
}

pub failed_before : (i j k : ℕ) → FaultsRose i j → j ≤ k → FaultsRose i k
failed_before i j k p q = omega arith

pub failed_after : (i j k : ℕ) → i ≤ j → FaultsRose j k → FaultsRose i k
failed_after i j k p q = omega arith

pub goes_nothing : (a : PagedFile) (s : ShelfState) (n : ℕ) → KeepsGate a a s s n n
goes_nothing a s n = record {
  parts = parts_stay a.cache s n;
  gate = refl;
  limit = refl;
  ready = λ r. r;
  still = λ r shut. refl;
}

pub goes_on : (a b c : PagedFile) (x y z : ShelfState) (i j k : ℕ) → KeepsGate a b x y i j
    → KeepsGate b c y z j k
    → KeepsGate a c x z i k
goes_on a b c x y z i j k ab bc = record {
  parts = parts_then a.cache b.cache c.cache x y z i j k ab.parts bc.parts;
  gate = bc.gate ∙ ab.gate;
  limit = bc.limit ∙ ab.limit;
  ready = λ r. bc.ready (ab.ready r);
  still = λ r shut. bc.still (ab.ready r) (ab.gate ∙ shut) ∙ ab.still r shut;
}

pub reads_nothing : (a : PagedFile) (s : ShelfState) (n : ℕ) → ReadsFilePages a a s s n n
reads_nothing a s n = record {
  goes = goes_nothing a s n;
  pager = refl;
  rests = record { live = λ h. refl; sound = λ h. refl; available = refl; honest = λ h. h };
}

pub reads_on : (a b c : PagedFile) (x y z : ShelfState) (i j k : ℕ) → ReadsFilePages a b x y i j
    → ReadsFilePages b c y z j k → ReadsFilePages a c x z i k
reads_on a b c x y z i j k ab bc = record {
  goes = goes_on a b c x y z i j k ab.goes bc.goes;
  pager = bc.pager ∙ ab.pager;
  rests = record {
    live = λ h. bc.rests.live h ∙ ab.rests.live (bc.rests.honest h);
    sound = λ h. bc.rests.sound h ∙ ab.rests.sound (bc.rests.honest h);
    available = bc.rests.available ∙ ab.rests.available;
    honest = λ h. ab.rests.honest (bc.rests.honest h);
  };
}

pub goes_moves : (a b : PagedFile) (x y : ShelfState) (i j : ℕ) → KeepsGate a b x y i j
    → MayOpenGate a b x y i j
goes_moves a b x y i j goes = record {
  unit = goes.parts.unit;
  cap = goes.parts.cap;
  limit = goes.limit;
  asked = goes.parts.asked;
  others = goes.parts.quietly.others;
  faults = goes.parts.faults;
  ready = goes.ready;
  images = λ r honest. elim (cases_Bool a.changed) [
    | inl begun ↦
        let all = r.gate begun (goes.parts.quietly.others.honest honest) in
        throughout_weaker IsOpen (WasOrRefused f) f g (λ c o. inr (refused_open c o))
        (quiet_open f g all goes.parts.quietly.quiet)
    | inr shut ↦ throughout_none (WasOrRefused f) f g (ap (λ (h : DeviceFile). h.log) (same r shut))
        (λ c may. inl may)
  ];
  stands = λ r honest. elim (cases_Bool a.changed) [
    | inl begun ↦ inr (all_refused g (open_kept f g
        (r.gate begun (goes.parts.quietly.others.honest honest)) goes.parts.quietly.quiet))
    | inr shut ↦ inl (inl (ap (λ (h : DeviceFile). h.seen) (same r shut)))
  ];
}
  where
    f : DeviceFile
    f = unit_file x (unit_of_pages a)

    g : DeviceFile
    g = unit_file y (unit_of_pages a)

    same : IsOpenOver a x → a.changed ≡ false → g ≡ f
    same r shut = same_place x y (unit_of_pages a) (goes.still r shut) goes.parts.quietly.others.names

stands_then : (f g h : DeviceFile) → Throughout (WasOrRefused g) g h → IsKeptOrRefused f g
    → IsKeptOrRefused g h → IsKeptOrRefused f h
stands_then f g h gh (inr all) next = inr (refused_after g h all gh)
stands_then f g h gh (inl was) (inr all) = inr all
stands_then f g h gh (inl was) (inl (inr refused)) = inl (inr refused)
stands_then f g h gh (inl (inl same)) (inl (inl again)) = inl (inl (again ∙ same))
stands_then f g h gh (inl (inr refused)) (inl (inl again)) = inl (inr (subst IsRefused (sym again) refused))

pub moves_on : (a b c : PagedFile) (x y z : ShelfState) (i j k : ℕ) → MayOpenGate a b x y i j
    → MayOpenGate b c y z j k
    → MayOpenGate a c x z i k
moves_on a b c x y z i j k ab bc = record {
  unit = bc.unit ∙ ab.unit;
  cap = bc.cap ∙ ab.cap;
  limit = bc.limit ∙ ab.limit;
  asked = let p = ab.asked in let q = bc.asked in omega arith;
  others = others_then unit x y z ab.others others;
  faults = let p = ab.faults in let q = bc.faults in omega arith;
  ready = λ r. bc.ready (ab.ready r);
  images = λ r honest. images_then (unit_file x unit) (unit_file y unit) (unit_file z unit)
      (ab.images r (others.honest honest)) (images (ab.ready r) honest);
  stands = λ r honest. stands_then (unit_file x unit) (unit_file y unit) (unit_file z unit)
      (images (ab.ready r) honest) (ab.stands r (others.honest honest)) (stands (ab.ready r) honest);
}
  where
    unit : ℕ
    unit = unit_of_pages a

    others : KeepsOthers unit y z
    others = subst (λ n. KeepsOthers n y z) ab.unit bc.others

    images : IsOpenOver b y → IsTrue z.is_honest → Throughout (WasOrRefused (unit_file y unit))
        (unit_file y unit) (unit_file z unit)
    images r honest = subst (λ n. Throughout (WasOrRefused (unit_file y n)) (unit_file y n)
        (unit_file z n)) ab.unit (bc.images r honest)

    stands : IsOpenOver b y → IsTrue z.is_honest → IsKeptOrRefused (unit_file y unit) (unit_file z unit)
    stands r honest = subst (λ n. IsKeptOrRefused (unit_file y n) (unit_file z n)) ab.unit
        (bc.stands r honest)
