-- What the making of a file leaves, from what it leaves of its pages and of its parts.
use Rattle.std.proofs.Common.{zero, suc, ◌≡◌, ℕ, ◌+◌, ◌-◌, ◌≤◌, ◌<◌, false, IsTrue, length, None, Result, Ok, Err, IfErr, OnErr, ◌≢◌, ◌⊎◌, inl, inr, refl, sym, ap, ◌∙◌, subst, arith}
use Rattle.std.specs.Prelude.{IsErrAnd, IsOkUnless}
use Rattle.std.proofs.lemmas.Bool.{le-ltb, lt-ltb}
use Rattle.record_layout.specs.Schema.{Schema}
use Rattle.indexed_file.specs.Room.{Pages}
use Rattle.io_state.specs.declared.fault.Fault.{Fault}
use Rattle.io_state.specs.declared.fault.Fault.TheVariants.{Device, Memory}
use Rattle.pages.specs.Cause.{IsCaused}
use Rattle.page_store.specs.DeviceFile.{DeviceFile}
use Rattle.page_store.specs.Moments.{Throughout, Quiet}
use Rattle.page_store.specs.Gate.{AllOpen, AllRefused, WasOrRefused}
use Rattle.page_store.proofs.OpenLemmas.{open_kept, all_refused}
use Rattle.page_store.specs.ShelfState.{FaultHasCause, ShelfState, unit_file}
use Rattle.page_alloc.specs.declared.paged_file.PagedFile.{PagedFile}
use Rattle.page_alloc.specs.Chain.{is_page}
use Rattle.page_alloc.specs.Joining.{FaultsRose, available_of, page_limit}
use Rattle.page_alloc.specs.PagedFile.{IsOpenOver, IsNewPagedFile, counts_of, most_held}
use Rattle.page_alloc.specs.Steps.{KeepsGate, pages_state_of}
use Rattle.page_alloc.specs.StepLaws.{failed_after}
use Rattle.page_alloc.proofs.OpenLemmas.{made_quietly}
use Rattle.open_file.specs.Creating.{IsNewFile, IsNewOpenFile}
use Rattle.open_file.specs.declared.open_file.OpenFile.{OpenFile}
use Rattle.shelf_library.specs.FileOpening.{MayFailToMake, counted_shelf}
use Rattle.shelf_library.specs.Shelves.{IsMade}
use Rattle.shelf_library.specs.Standing.{HasLimits}

-- no page but the header is counted
none_counted : (n : ℕ) → is_page 1 n ≡ false
none_counted zero = refl
none_counted (suc n) = rw (lt-ltb 0 (suc n) (omega arith), le-ltb (suc n) 1 (omega arith)) refl

module _ (unit limit : ℕ) (a b : PagedFile) (s t : ShelfState) (failed fails : ℕ) (made : IsNewPagedFile a unit limit) (ready : IsOpenOver a s) (goes : KeepsGate a b s t failed fails) where
  all_open : IsTrue t.is_honest → AllOpen (unit_file s unit)
  all_open honest = subst (λ n. AllOpen (unit_file s n)) made.unit_is (ready.gate made.changed (goes.parts.quietly.others.honest honest))

  quiet : Quiet (unit_file s unit) (unit_file t unit)
  quiet = subst (λ n. Quiet (unit_file s n) (unit_file t n)) made.unit_is goes.parts.quietly.quiet

  -- at each moment a crash leaves what it could leave before, or a refused file
  pub made_images : (old : DeviceFile) → (IsTrue s.is_honest → Throughout (WasOrRefused old) old (unit_file s unit)) → IsTrue t.is_honest → Throughout (WasOrRefused old) old (unit_file t unit)
  made_images old images honest = made_quietly old (unit_file s unit) (unit_file t unit) (images (goes.parts.quietly.others.honest honest)) (all_open honest) quiet

  -- the gate is open
  pub made_refused : IsTrue t.is_honest → AllRefused (unit_file t unit)
  made_refused honest = all_refused (unit_file t unit) (open_kept (unit_file s unit) (unit_file t unit) (all_open honest) quiet)

  -- the pages before are sound, and none is in use
  pub new_sound : IsTrue (pages_state_of a s).is_sound
  new_sound = rw made.pager refl

  pub new_free : (n : ℕ) → (pages_state_of a s).live n ≡ None
  new_free n = rw (made.pager, none_counted n) refl

  pub new_available : available_of (counts_of a) ≡ limit - 1
  new_available = rw made.pager (omega arith)

  -- a fault is no lack of pages
  pub made_cause : (first keys : ℕ) (e : Fault) → first ≤ failed → 16 ≤ limit → keys ≤ 9 → IsCaused (FaultsRose failed fails) (available_of (counts_of a) < keys) e
      → MayFailToMake (FaultsRose first fails) e
  made_cause first keys e before enough few cause = record {
    device = λ is. failed_after first failed fails before (cause.device is);
    not_full = λ is. let lacks = cause.full is in let has = new_available in absurd (omega arith);
    not_broken = cause.not_broken;
  }

  pub is_made : (file : OpenFile) (schema : Schema) → IsNewOpenFile file schema → available_of (counts_of b) + length schema.keys ≡ available_of (counts_of a)
      → (IsTrue t.is_honest → IsNewFile file (pages_state_of b t).live (IsTrue (pages_state_of b t).is_sound)) → IsMade (record { file = file; pages = b }) unit limit schema t
  is_made file schema parts spent new = record {
    unit_is = goes.parts.unit ∙ made.unit_is;
    schema_is = parts.schema_is;
    unbroken = parts.unbroken;
    changed = goes.gate ∙ made.changed;
    room =
        let left : available_of (counts_of b) ≡ limit - (1 + length schema.keys) = let has = new_available in omega arith in
        λ i. Pages (parts.heights i) (left i);
    ready = record { over = goes.ready ready; shaped = parts.shaped };
    stands = λ honest. record { stands = (new honest).stands; sound = (new honest).sound };
  }

-- a fault that is handed on
pub handed_on : {X : Type 0} (result : Result X Fault) (fault : Fault) (P : Fault → Type 0) → IsErrAnd result (λ e. e ≡ fault) → P fault → IfErr result P
handed_on (Ok x) fault P was p = tt
handed_on (Err e) fault P was p = subst P (sym was) p

-- it is no want of memory
pub never_memory : {X P : Type 0} (result : Result X Fault) (fault : Fault) → IsErrAnd result (λ e. e ≡ fault) → fault ≢ Memory → result ≡ Err Memory → P
never_memory (Ok x) fault was other is = absurd (cc)
never_memory (Err e) fault was other is = let same : e ≡ Memory = cc in absurd (other (sym was ∙ same))

-- the pages of a file lacked memory before anything was asked of the shelf
pub memory_first : {H X Y : Type 0} (state : H → ShelfState) (count : H → ℕ) (before after : H) (pages : Result X Fault) (result : Result Y Fault) (fault : Fault)
    → pages ≡ Err fault → IsErrAnd result (λ e. e ≡ fault)
    → FaultHasCause (count before) (count after) pages ⊎ ((pages ≡ Err Memory) × (after ≡ before))
    → result ≡ Err Memory → counted_shelf (state after) (count after) ≡ counted_shelf (state before) (count before)
memory_first state count before after pages result fault is was (inr lacked) memory = ap (λ s. counted_shelf (state s) (count s)) lacked.1
memory_first {H} {X} state count before after pages result fault is was (inl cause) memory =
    let device : fault ≡ Device = subst (λ (r : Result X Fault). IsOkUnless r Device) is cause.device in
    never_memory result fault was (λ same. cc) memory

pub at_err : {X : Type 0} (result : Result X Fault) (P : Type 0) → P → OnErr result P
at_err (Ok x) P p = tt
at_err (Err e) P p = p

-- what was made has as many frames as its pages had at the start, and their limit
pub made_limits : (unit limit frames : ℕ) (a b : PagedFile) (s t : ShelfState) (failed fails : ℕ) → IsNewPagedFile a unit limit → most_held a ≡ frames
    → KeepsGate a b s t failed fails → (file : OpenFile) → HasLimits limit frames (record { file = file; pages = b })
made_limits unit limit frames a b s t failed fails made cap goes file = record {
  limit = goes.limit ∙ ap page_limit made.pager;
  cap = goes.parts.cap ∙ cap;
}
