-- What a call of the cache leaves of the joined parts.
use Rattle.std.proofs.Common.{◌≡◌, ◌≢◌, inl, inr, ℕ, ◌+◌, ◌<◌, ◌≤◌, ltb, Bool, true, List, Some, is_some, IsTrue, Result, Ok, Err, is_ok, IsSome, IfOk, IfErr, OnOk, OnErr, true, refl, sym, ◌∙◌, ap, subst, arith}
use Rattle.std.proofs.lemmas.Bool.{and_from, lt-ltb, both_ways}
use Rattle.io_state.specs.declared.fault.Fault.{Fault}
use Rattle.io_state.specs.declared.fault.Fault.TheVariants.{Device, Memory, Full, Damage, Broken}
use Rattle.page_store.specs.ShelfState.{ShelfState, FaultHasCause, unit_file}
use Rattle.page_cache.specs.declared.cache.Cache.{Cache}
use Rattle.page_cache.specs.Cached.{store_of, pages_asked, bytes_held, is_counted_page, cached_pages_of, IsOver}
use Rattle.page_cache.specs.Calls.{KeepsStore, OnlyLooks, KeepsPages}
use Rattle.page_cache.specs.Quietly.{GoesQuietly}
use Rattle.page_cache.proofs.QuietLemmas.{goes_nowhere}
use Rattle.page_cache.specs.Lending.{FrameSet, SameFrames}
use Rattle.page_cache.proofs.OverLemmas.{over_same, pages_same, clean_same, held_page, set_page, set_others}
use Rattle.page_alloc.specs.declared.pager.Pager.{Pager}
use Rattle.pages.specs.PagesState.{Shows, KeepsEachPage, LeavesPage}
use Rattle.pages.specs.ShownPages.{ShownPages}
use Rattle.pages.specs.PageChanges.{TakesUnused, GivesBack}
use Rattle.page_alloc.specs.Chain.{chain, used}
use Rattle.page_alloc.specs.Joining.{free_pages, pages_state, IsJoined, PartsGo, FaultsRose}
use Rattle.page_alloc.specs.Taking.{Taken, GivenBack, CallFails}
use Rattle.pages.specs.Cause.{IsCaused}
use Rattle.page_store.proofs.OpenLemmas.{open_kept}
use Rattle.page_store.specs.Gate.{AllOpen}
use Rattle.page_alloc.specs.declared.paged_file.PagedFile.{PagedFile}
use Rattle.page_alloc.specs.PagedFile.{unit_of_pages, times_asked, IsOpenOver}
use Rattle.page_alloc.specs.Steps.{KeepsGate, ReadsFilePages, pages_state_of}
use Rattle.page_alloc.proofs.ChainLemmas.{in_use, use_kept, same_chain}

pub counted_page : (c : Cache) (p : Pager) (s : ShelfState) (n : ℕ) → IsJoined c p s → (n ≡ 0 → ⊥) → n < p.count → IsTrue (is_counted_page c n)
counted_page c p s n joined positive low =
    let counted = joined.counted in
    and_from (ltb 0 n) (ltb n (store_of c).pages) (lt-ltb 0 n (omega arith)) (lt-ltb n (store_of c).pages (omega arith))

pub joined_after : (c d : Cache) (p : Pager) (s t : ShelfState) → IsJoined c p s → store_of d ≡ store_of c → IsOver d t → IsJoined d p t
joined_after c d p s t joined same over = record { over = over; counted = subst (λ x. p.count ≤ x.pages) (sym same) joined.counted; header = joined.header }

-- no page of the list has changed
pub rested : (c d : Cache) (p : Pager) (s t : ShelfState) → (IsTrue t.is_honest → cached_pages_of d t ≡ cached_pages_of c s) → (IsTrue t.is_honest → IsTrue s.is_honest) → KeepsEachPage (pages_state c p s) (pages_state d p t)
rested c d p s t same honest = record {
  live = λ h. ap (λ pages. used pages p.count (chain pages p.count p.first p.free)) (same h);
  sound = λ h. ap (λ pages. is_some (chain pages p.count p.first p.free)) (same h);
  available = refl;
  honest = honest;
}

pub left : (n : ℕ) (w : List ℕ) (c d e : Cache) (p : Pager) (s t : ShelfState) → FrameSet n w d e → (IsTrue t.is_honest → cached_pages_of d t ≡ cached_pages_of c s) → (IsTrue t.is_honest → IsTrue s.is_honest)
    → LeavesPage n w (pages_state c p s) (pages_state e p t)
left n w c d e p s t set same honest = record {
  live = λ h there. use_kept (cached_pages_of c s) (cached_pages_of e t) p.count n p.first p.free (others h) there w (set_page n w d e set t);
  sound = λ h there. ap is_some (same_chain (cached_pages_of c s) (cached_pages_of e t) p.count n p.first p.free (others h) there);
  available = refl;
  honest = honest;
}
  where
    others : IsTrue t.is_honest → (k : ℕ) → k ≢ n → cached_pages_of e t k ≡ cached_pages_of c s k
    others h k differs = set_others n w d e set t k differs ∙ ap (λ pages. pages k) (same h)

pub parts_after : (c d : Cache) (s t : ShelfState) (i j : ℕ) → KeepsStore c d → GoesQuietly (store_of c).unit s t → pages_asked c ≤ pages_asked d → i ≤ j → PartsGo c d s t i j
parts_after c d s t i j keeps quietly asked faults = record {
  unit = ap (λ x. x.unit) keeps.store;
  cap = keeps.cap;
  pages = let e : (store_of d).pages ≡ (store_of c).pages = ap (λ x. x.pages) keeps.store in omega arith;
  asked = asked;
  quietly = quietly;
  faults = faults;
}

pub looks_after : (c d e : Cache) (s t : ShelfState) → OnlyLooks c d s t → SameFrames d e → OnlyLooks c e s t
looks_after c d e s t looks same = record { clean = λ clean. clean_same d e same.frames (looks.clean clean); file = looks.file }

-- the same frames, in another order
pub kept_after : (c d e : Cache) (s t : ShelfState) → KeepsPages c d s t → SameFrames d e → KeepsPages c e s t
kept_after c d e s t kept same = record {
  over = over_same d e t same.store same.frames kept.over;
  pages = λ h. pages_same d e t same.store same.frames ∙ kept.pages h;
  keeps = record { store = same.store ∙ kept.keeps.store; cap = same.cap ∙ kept.keeps.cap };
  goes = kept.goes;
}

-- nothing was asked of the shelf
pub reordered : (c d : Cache) (s : ShelfState) → IsOver c s → SameFrames c d → KeepsPages c d s s × OnlyLooks c d s s
reordered c d s over same = (
  kept_after c c d s s (record { over = over; pages = λ h. refl; keeps = record { store = refl; cap = refl }; goes = goes_nowhere (store_of c).unit s }) same,
  looks_after c c d s s (record { clean = λ clean. clean; file = λ clean. refl }) same,
)

pub at_err : {T : Type 0} {P : Type 0} (r : Result T Fault) → P → OnErr r P
at_err (Ok x) p = tt
at_err (Err x) p = p

pub at_err_where : {T : Type 0} (honest : Bool) (P : Type 0) (r : Result T Fault) → (IsTrue honest → P) → OnErr r (IsTrue honest → P)
at_err_where honest P (Ok x) p = tt
at_err_where honest P (Err x) p = p

-- a page was taken, or all pages are as they were
pub takes_unused : {S : Type 0} (shown : ShownPages S) (a b : S) (r : Result ℕ Fault) → IfOk r (Taken (shown.state a) (shown.state b)) → OnErr r (KeepsEachPage (shown.state a) (shown.state b))
    → IfErr r (CallFails (IsTrue (shown.state b).is_honest × IsTrue (shown.state a).is_sound) (shown.HasFailed a b) ((shown.state a).available ≡ 0))
    → (IsTrue (shown.state b).is_honest → IsTrue (shown.state a).is_honest) → (shown.state b).asked ≤ (shown.state a).asked + 1 → shown.Writes a b → TakesUnused shown a b r
takes_unused shown a b (Ok n) taken kept fails honest asked step = record {
  taken = λ h s. (taken.number, taken.page h s);
  kept = λ h. tt;
  sound = taken.sound;
  one = taken.one;
  none = tt;
  damage = λ h s. tt;
  honest = honest;
  writes = record { cause = tt; asked = asked; step = step };
}
takes_unused shown a b (Err e) taken kept fails honest asked step = record {
  taken = λ h s. tt;
  kept = kept.live;
  sound = λ h s. rw (kept.sound h) s;
  one = tt;
  none = kept.available;
  damage = λ h s. fails.damage (h, s);
  honest = honest;
  writes = record { cause = fails.caused; asked = asked; step = step };
}

-- page n was given back, or all pages are as they were
pub gives_back : {S X : Type 0} (shown : ShownPages S) (n : ℕ) (a b : S) (r : Result X Fault) → OnOk r (GivenBack (shown.state a) (shown.state b) n) → OnErr r (KeepsEachPage (shown.state a) (shown.state b))
    → IfErr r (CallFails (IsTrue (shown.state b).is_honest × IsSome ((shown.state a).live n)) (shown.HasFailed a b) ⊥)
    → (IsTrue (shown.state b).is_honest → IsTrue (shown.state a).is_honest) → (shown.state b).asked ≤ (shown.state a).asked + 1 → shown.Writes a b → GivesBack shown n a b r
gives_back shown n a b (Ok x) given kept fails honest asked step = record {
  given = given.page;
  kept = λ h. tt;
  sound = given.sound;
  one = given.one;
  none = tt;
  damage = λ h there. tt;
  honest = honest;
  writes = record { cause = tt; asked = asked; step = step };
}
gives_back shown n a b (Err e) given kept fails honest asked step = record {
  given = λ h there. tt;
  kept = kept.live;
  sound = λ h there. kept.sound h;
  one = tt;
  none = kept.available;
  damage = λ h there. fails.damage (h, there);
  honest = honest;
  writes = record { cause = fails.caused; asked = asked; step = step };
}

-- a page of the cache is lent, or could not be loaded
pub reads_after : (a b : PagedFile) (s t : ShelfState) (i j : ℕ) → b.pager ≡ a.pager → b.changed ≡ a.changed → KeepsPages a.cache b.cache s t → OnlyLooks a.cache b.cache s t → times_asked a ≤ times_asked b → i ≤ j → ReadsFilePages a b s t i j
reads_after a b s t i j pager gate kept looks asked faults = record {
  goes = record {
    parts = parts_after a.cache b.cache s t i j kept.keeps kept.goes asked faults;
    gate = gate;
    limit = ap (λ x. x.limit) pager;
    ready = λ r. record {
      joined = record { over = kept.over; counted = subst (λ x. x.count ≤ (store_of b.cache).pages) (sym pager) (subst (λ x. a.pager.count ≤ x.pages) (sym kept.keeps.store) r.joined.counted); header = subst (λ x. 0 < x.count) (sym pager) r.joined.header };
      clean = λ shut. looks.clean (r.clean (sym gate ∙ shut));
      gate = λ changed honest. gate_open r (sym gate ∙ changed) honest;
    };
    still = λ r shut. looks.file (r.clean shut);
  };
  pager = pager;
  rests = subst (λ x. KeepsEachPage (pages_state_of a s) (pages_state b.cache x t)) (sym pager) (rested a.cache b.cache a.pager s t kept.pages kept.goes.others.honest);
}
  where
    gate_open : IsOpenOver a s → a.changed ≡ true → IsTrue t.is_honest → AllOpen (unit_file t (unit_of_pages b))
    gate_open r changed honest = subst (λ x. AllOpen (unit_file t x.unit)) (sym kept.keeps.store)
        (open_kept (unit_file s (unit_of_pages a)) (unit_file t (unit_of_pages a)) (r.gate changed (kept.goes.others.honest honest)) kept.goes.quiet)

-- pages were changed behind an open gate
pub goes_after : (a b : PagedFile) (s t : ShelfState) (i j : ℕ) → a.changed ≡ true → b.changed ≡ a.changed → b.pager.limit ≡ a.pager.limit → PartsGo a.cache b.cache s t i j → IsJoined b.cache b.pager t → KeepsGate a b s t i j
goes_after a b s t i j changed gate limit parts joined = record {
  parts = parts;
  gate = gate;
  limit = limit;
  ready = λ r. record {
    joined = joined;
    clean = λ shut. absurd (both_ways b.changed shut (gate ∙ changed));
    gate = λ still honest. subst (λ unit. AllOpen (unit_file t unit)) (sym parts.unit)
        (open_kept (unit_file s (unit_of_pages a)) (unit_file t (unit_of_pages a)) (r.gate changed (parts.quietly.others.honest honest)) parts.quietly.quiet);
  };
  still = λ r shut. absurd (both_ways a.changed shut changed);
}

-- a page that is held is the page in use
pub shown : (c d : Cache) (p : Pager) (s t : ShelfState) (n : ℕ) (bytes : List ℕ) → cached_pages_of d t ≡ cached_pages_of c s → bytes_held d n ≡ Some bytes → Shows (pages_state c p s) n bytes
shown c d p s t n bytes same held there =
    let u = in_use (cached_pages_of c s) p.count n (free_pages c p s) there in rw (u.1, u.2, u.3) (ap Some (sym (ap (λ pages. pages n) same) ∙ held_page d t n bytes held))

pub no_fault : {X : Type 0} (r : Result X Fault) (P : Fault → Type 0) → is_ok r ≡ true → IfErr r P
no_fault (Ok x) P ok = tt
no_fault (Err e) P ok = absurd (cc)

pub damaged : (failed full : Type 0) → IsCaused failed full Damage
damaged failed full = record { device = λ e. absurd (cc); full = λ e. absurd (cc); not_memory = λ e. cc; not_broken = λ e. cc }

-- a fault of the cache
pub fails_as : (x : Fault) (i j : ℕ) (P full : Type 0) → FaultHasCause {T = Unit {0}} i j (Err x) → CallFails P (FaultsRose i j) full x
fails_as x i j P full cause = record {
  caused = record {
    device = λ is. cause.counted;
    full = λ is. absurd (not Full is (λ e. cc));
    not_memory = λ is. not Memory is (λ e. cc);
    not_broken = λ is. not Broken is (λ e. cc);
  };
  damage = λ _ is. not Damage is (λ e. cc);
}
  where
    not : (y : Fault) → x ≡ y → (y ≡ Device → ⊥) → ⊥
    not y is other = other (sym is ∙ cause.device)
