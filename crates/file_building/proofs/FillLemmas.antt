-- What the filling of pages leaves, from what it leaves of the two files.
use Rattle.std.proofs.Common.{◌≡◌, ℕ, ◌≤◌, Bool, IsTrue, IsFalse, false, None, List, Option, Some, refl, ◌∙◌, subst, arith, Result, Ok, Err}
use Rattle.indexed_file.specs.File.{File}
use Rattle.io_state.specs.declared.fault.Fault.{Fault}
use Rattle.page_store.specs.DeviceFile.{DeviceFile}
use Rattle.page_store.specs.Pages.{HoldsPages}
use Rattle.page_store.specs.ShelfState.{ShelfState, OnlyAnswers, unit_file}
use Rattle.page_cache.specs.Cached.{store_of}
use Rattle.page_alloc.specs.declared.paged_file.PagedFile.{PagedFile}
use Rattle.page_alloc.specs.Chain.{used}
use Rattle.page_alloc.specs.Joining.{available_of, page_limit, FaultsRose}
use Rattle.page_alloc.specs.PagedFile.{IsOpenOver, is_begun, counts_of, unit_of_pages}
use Rattle.page_alloc.specs.Steps.{KeepsGate, ReadsFilePages, pages_state_of}
use Rattle.open_file.specs.Faults.{IsCausedIn}
use Rattle.open_file.specs.Fields.{has_broken}
use Rattle.open_file.specs.Stands.{Stands}
use Rattle.open_file.specs.declared.open_file.OpenFile.{OpenFile}
use Rattle.shelf_library.specs.FileOpening.{counted_shelf}
use Rattle.tree_building.specs.Fresh.{IsBuildCause}
use Rattle.file_building.specs.CopyFault.{IsCopyCause, IsCopyAnswer, IsNoDamage as IsNoCopyDamage}
use Rattle.file_building.specs.CopiedOpening.{IsOpenedLike}
use Rattle.file_building.specs.declared.copy_fault.CopyFault.{CopyFault}
use Rattle.file_building.specs.declared.copy_fault.CopyFault.TheVariants.{Reading, Writing}
use Rattle.file_building.specs.declared.fault.CopyingFault.{CopyingFault}
use Rattle.file_building.specs.declared.fault.CopyingFault.TheVariants.{Reading as NotRead, Writing as NotWritten}
use Rattle.file_building.specs.Faults.{copying_fault_of, IsReadingCause, IsMovingCause, IsNoSourceDamage}
use Rattle.file_building.specs.Filling.{IsFullFile, CanFill, FillsNew}

-- the header is no page in use
no_header_in : (bytes : ℕ → List ℕ) (count : ℕ) (free : Option (List ℕ)) → used bytes count free 0 ≡ None
no_header_in bytes count None = refl
no_header_in bytes count (Some free) = refl

pub no_header : (held : PagedFile) (shelf : ShelfState) → (pages_state_of held shelf).live 0 ≡ None
no_header held shelf = no_header_in _ _ _

-- a file that has so many pages has fewer too
fewer_pages : (file : DeviceFile) (many few : ℕ) → few ≤ many → HoldsPages many file → HoldsPages few file
fewer_pages file many few low has = record {
  there = has.there;
  long = let long = has.long in omega arith;
}

-- where no page could be taken at some time, the file has as many pages as it may have
pub full_file : (a m b : PagedFile) (s t u : ShelfState) (i j k : ℕ) → IsOpenOver a s → KeepsGate a m s t i j
    → KeepsGate m b t u j k → available_of (counts_of m) ≡ 0
    → IsFullFile (unit_of_pages a) (page_limit (counts_of a)) u
full_file a m b s t u i j k ready first second none honest =
    let over = second.ready (first.ready ready) in
    let limit : page_limit (counts_of m) ≡ page_limit (counts_of a) = first.limit in
    let here : unit_of_pages b ≡ unit_of_pages a = second.parts.unit ∙ first.parts.unit in
    let counted = (first.ready ready).joined.counted in
    let more = second.parts.pages in
    let room : available_of (counts_of m) ≡ 0 = none in
    subst (λ n. HoldsPages (page_limit (counts_of a)) (unit_file u n)) here
    (fewer_pages (unit_file u (unit_of_pages b)) (store_of b.cache).pages (page_limit (counts_of a)) (omega arith)
    (over.joined.over.pages honest))

-- a shelf that was only read
pub only_read : (a b : PagedFile) (s t : ShelfState) (i j : ℕ) → IsOpenOver a s → is_begun a ≡ false → KeepsGate a b s t i j
    → OnlyAnswers s t
only_read a b s t i j ready shut goes = record {
  names = goes.parts.quietly.others.names;
  file = goes.still ready shut;
  honest = goes.parts.quietly.others.honest;
}

-- why a file that is not broken was not read
pub reading_cause : (broken : Bool) (failed : Type 0) (fault : Fault) → IsFalse broken → IsCausedIn broken failed ⊥ fault
    → IsReadingCause failed fault
reading_cause broken failed fault whole is = record {
  device = is.device;
  not_full = is.full;
  not_memory = is.not_memory;
  not_broken = λ e. let b = is.broken e in absurd (cc);
}

-- why one was not written
pub writing_cause : (failed ran_out full : Type 0) (fault : Fault) → (ran_out → full) → IsBuildCause failed ran_out fault
    → IsBuildCause failed full fault
writing_cause failed ran_out full fault means is = record {
  device = is.device;
  full = λ e. means (is.full e);
  not_broken = is.not_broken;
}

-- a call that filled pages: what it read, wrote and answered
module _ (file : OpenFile) (key : ℕ) (a a2 b m : PagedFile) (from from_now to to_now : ShelfState) (i j k l : ℕ) (can : CanFill file key a b from to)
    (reads : ReadsFilePages a a2 from from_now i j) (writes : KeepsGate b m to to_now k l) where
  -- what the file and its copy stand for
  abbrev Copies : Result OpenFile CopyFault → Type 0
  Copies result = IsTrue from_now.is_honest → IsTrue to_now.is_honest → IsTrue (pages_state_of b to).is_sound → (rows : File)
      → Stands file (pages_state_of a from).live rows → ((n : ℕ) → (pages_state_of b to).live n ≡ None) → (pages_state_of m to_now).live 0 ≡ None
      → IsCopyAnswer result (λ copy. Stands copy (pages_state_of m to_now).live rows × IsTrue (pages_state_of m to_now).is_sound)

  pub filled : (copy : OpenFile) → Copies (Ok copy) → IsOpenedLike file copy
      → FillsNew file a b (counted_shelf from i) (counted_shelf from_now j) (counted_shelf to k) (counted_shelf to_now l) (Ok (record { file = copy; pages = m }))
  filled copy copied made = record {
    copied = λ hf ht blank rows stands.
        let is = (copied hf ht blank.sound rows stands blank.none (no_header m to_now)).answer in
        record { answer = record { stands = is.0; sound = is.1 }; no_damage = tt };
    made = record {
      ready = record { over = writes.ready can.writable; shaped = made.shaped };
      unit_is = writes.parts.unit;
      limit_is = writes.limit;
      changed = writes.gate ∙ can.begun;
      unbroken = made.unbroken;
      schema_is = made.schema_is;
    };
    only = only_read a a2 from from_now i j can.readable can.unchanged reads.goes;
    others = writes.parts.quietly.others;
    quiet = writes.parts.quietly.quiet;
    read_count = reads.goes.parts.faults;
    write_count = writes.parts.faults;
    cause = tt;
  }

  -- a fault, which is told of the one file or of the other
  failed : (fault : CopyFault) (told : CopyingFault) → Copies (Err fault) → (IsNoCopyDamage fault → IsNoSourceDamage told)
      → IsMovingCause (FaultsRose i j) (FaultsRose k l) (IsFullFile (unit_of_pages b) (page_limit (counts_of b)) to_now) told
      → FillsNew file a b (counted_shelf from i) (counted_shelf from_now j) (counted_shelf to k) (counted_shelf to_now l) (Err told)
  failed fault told copied same cause = record {
    copied = λ hf ht blank rows stands. record {
      answer = tt;
      no_damage = same (copied hf ht blank.sound rows stands blank.none (no_header m to_now)).no_damage;
    };
    made = tt;
    only = only_read a a2 from from_now i j can.readable can.unchanged reads.goes;
    others = writes.parts.quietly.others;
    quiet = writes.parts.quietly.quiet;
    read_count = reads.goes.parts.faults;
    write_count = writes.parts.faults;
    cause = cause;
  }

  pub not_filled : (ran_out : Type 0) (fault : CopyFault) → Copies (Err fault) → (ran_out → IsFullFile (unit_of_pages b) (page_limit (counts_of b)) to_now)
      → IsCopyCause (has_broken file) (FaultsRose i j) (FaultsRose k l) ran_out fault
      → FillsNew file a b (counted_shelf from i) (counted_shelf from_now j) (counted_shelf to k) (counted_shelf to_now l) (Err (copying_fault_of fault))
  not_filled ran_out (Reading fault) copied full cause =
      failed (Reading fault) (NotRead fault) copied (λ no. no) (reading_cause (has_broken file) (FaultsRose i j) fault can.unbroken cause)
  not_filled ran_out (Writing fault) copied full cause =
      failed (Writing fault) (NotWritten fault) copied (λ no. no)
      (writing_cause (FaultsRose k l) ran_out (IsFullFile (unit_of_pages b) (page_limit (counts_of b)) to_now) fault full cause)
