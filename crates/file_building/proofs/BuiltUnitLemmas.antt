-- What the building of a new file leaves, from what each of its steps leaves.
use Rattle.std.proofs.Common.{◌≡◌, ◌≤◌, ◌+◌, ◌⊎◌, ℕ, suc, length, inl, inr, List, [], ◌∷◌, Option, Result, Ok, Err, IsTrue, refl, sym, ◌∙◌, ap, subst, arith}
use Rattle.io_state.specs.declared.fault.Fault.{Fault}
use Rattle.io_state.specs.declared.fault.Fault.TheVariants.{Memory, Device, Full, Damage, Broken}
use Rattle.record_layout.specs.Schema.{Schema}
use Rattle.indexed_file.specs.File.{File, empty_file}
use Rattle.page_store.specs.DeviceFile.{DeviceFile, content}
use Rattle.page_store.specs.Gate.{AllRefused, WasOrRefused, SameOrRefused}
use Rattle.page_store.specs.Images.{Leaves}
use Rattle.page_store.specs.Moments.{Throughout}
use Rattle.page_store.specs.ShelfState.{ShelfState, KeepsOthers, unit_file}
use Rattle.page_store.proofs.MomentLemmas.{throughout_then, throughout_weaker, throughout_last}
use Rattle.page_store.proofs.ShelfLemmas.{others_then}
use Rattle.page_cache.specs.HeaderCalls.{MayRefuse}
use Rattle.page_alloc.specs.declared.paged_file.PagedFile.{PagedFile}
use Rattle.page_alloc.specs.Joining.{FaultsRose, page_limit}
use Rattle.page_alloc.specs.PagedFile.{IsOpenOver, IsNewPagedFile, MakesPagedFile, IsKeptOrRefused, counts_of, unit_of_pages}
use Rattle.page_alloc.specs.StepLaws.{failed_after}
use Rattle.open_file.specs.Fields.{file_schema}
use Rattle.shelf_library.specs.FileOpening.{counted_shelf}
use Rattle.shelf_library.specs.Shelves.{ClosedFileOrRefused}
use Rattle.tree_building.specs.Fresh.{IsBuildCause}
use Rattle.file_building.specs.declared.built_end.FileBuilt.{FileBuilt}
use Rattle.file_building.specs.declared.built_end.FileBuilt.TheVariants.{Closed, Unclosed, OutOfOrder, Clash}
use Rattle.file_building.specs.declared.built_parts.BuiltParts.{BuiltParts}
use Rattle.file_building.specs.declared.built_parts.BuiltParts.TheVariants.{File as Parts, OutOfOrder as PartsStopped, Clash as PartsClashed}
use Rattle.file_building.specs.declared.file_parts.FileParts.{FileParts}
use Rattle.file_building.specs.BuiltParts.{CanBuildParts, BuildsOnPages, EndsParts, ArePartsOf, AreBuiltPartsOf}
use Rattle.file_building.specs.BuiltUnit.{file_of_records, IsBuiltRefused, EndsBuilt, WhereAllTaken, BuildsOnShelf}
use Rattle.file_building.specs.Closing.{ClosesWithCount, HasCounted, EndsCounted, IsUnclosedFor}
use Rattle.file_building.specs.Filling.{IsBlank, IsFullFile}
use Rattle.file_building.specs.NewFile.{IsOldOrWhole, ReadsOldOrWhole}
use Rattle.file_building.specs.Written.{AreAccepted, RecordsRise, rows_with_stamps}
use Rattle.file_building.proofs.CopyLemmas.{filled_images, filled_refused}
use Rattle.file_building.proofs.MoveLemmas.{none_counted, made_fault}
use Rattle.file_building.proofs.WrittenLemmas.{file_of}

-- as many rows as records
rows_many : (schema : Schema) (stamp : ℕ) (records : List (List ℕ)) → length (rows_with_stamps schema stamp records) ≡ length records
rows_many schema stamp [] = refl
rows_many schema stamp (bytes ∷ records) = ap suc (rows_many schema (stamp + 1) records)

file_many : (schema : Schema) (records : List (List ℕ)) → RecordsRise schema records → length (file_of_records schema records).rows ≡ length records
file_many schema records rise = ap (λ (file : File). length file.rows) (file_of schema records rise) ∙ rows_many schema 1 records

-- what a crash leaves of a file that is not whole, and of one that is closed
was_weaker : (old : DeviceFile) (schema : Schema) (file : File) (c : Option (List ℕ)) → WasOrRefused old c → IsOldOrWhole old schema file c
was_weaker old schema file c is = inl is

closed_weaker : (old : DeviceFile) (schema : Schema) (file : File) (c : Option (List ℕ)) → ClosedFileOrRefused schema file c → IsOldOrWhole old schema file c
closed_weaker old schema file c (inl refused) = inl (inr refused)
closed_weaker old schema file c (inr closed) = inr closed

closed_reads : (old new : DeviceFile) (schema : Schema) (file : File) → ClosedFileOrRefused schema file new.seen → ReadsOldOrWhole old new schema file
closed_reads old new schema file (inl refused) = inl (inr refused)
closed_reads old new schema file (inr closed) = inr closed

kept_reads : (old new : DeviceFile) (schema : Schema) (file : File) → Leaves new new.seen → IsKeptOrRefused old new → ReadsOldOrWhole old new schema file
kept_reads old new schema file leaves (inl same) = inl same
kept_reads old new schema file leaves (inr refused) = inl (inr (refused new.seen leaves))

kept_left : (old new : DeviceFile) → Leaves new new.seen → IsKeptOrRefused old new → SameOrRefused old new
kept_left old new leaves (inl same) = same
kept_left old new leaves (inr refused) = inr (refused new.seen leaves)

-- where all records were taken
pub where_taken : (fact : Type 0) (end : FileBuilt) → fact → WhereAllTaken fact end
where_taken fact (Closed count) is = is
where_taken fact (Unclosed count fault) is = is
where_taken fact OutOfOrder is = tt
where_taken fact Clash is = tt

-- a cause of a later step
later_cause : (rose rose_later full full_later : Type 0) (fault : Fault) → (rose → rose_later) → (full → full_later) → IsBuildCause rose full fault → IsBuildCause rose_later full_later fault
later_cause rose rose_later full full_later fault means more is = record {
  device = λ e. means (is.device e);
  full = λ e. more (is.full e);
  not_broken = is.not_broken;
}

-- a closing that failed, as the whole call
later_unclosed : (rose rose_later : Type 0) (end : FileBuilt) → (rose → rose_later) → IsUnclosedFor rose end → IsUnclosedFor rose_later end
later_unclosed rose rose_later (Closed count) means is = tt
later_unclosed rose rose_later (Unclosed count fault) means is = record { device = is.device; counted = means is.counted }
later_unclosed rose rose_later OutOfOrder means is = tt
later_unclosed rose rose_later Clash means is = tt

-- what is told of it
module _ (schema : Schema) (given : List (List ℕ)) (before after : DeviceFile) (accepted : AreAccepted schema given empty_file) (rise : RecordsRise schema given)
    (reads : ClosedFileOrRefused schema (file_of_records schema given) after.seen) (law : Leaves after after.seen) where
  counted_so : (end : FileBuilt) → HasCounted schema (file_of_records schema given) after end → EndsBuilt schema given before after end
  counted_so (Closed count) is = record {
    accepted = accepted;
    settled = is.0;
    closed = (content after, is.0 after.seen law, is.1);
    count_is = is.2 ∙ file_many schema given rise;
  }
  counted_so (Unclosed count fault) is = record { accepted = accepted; reads = reads; count_is = is ∙ file_many schema given rise }
  counted_so OutOfOrder is = absurd is
  counted_so Clash is = absurd is

-- pages were made for the new file
module _ (unit limit : ℕ) (schema : Schema) (given : List (List ℕ)) (a : PagedFile) (s0 s1 : ShelfState) (k0 k1 : ℕ)
    (made : IsNewPagedFile a unit limit) (ready : IsOpenOver a s1) (images : MayRefuse unit s0 s1) (others : KeepsOthers unit s0 s1) (count : k0 ≤ k1) where
  pub can_build : CanBuildParts a s1
  can_build = record { writable = ready; begun = made.changed }

  blank : IsBlank a s1
  blank = record { none = λ n. rw (made.pager, none_counted n) refl; sound = rw made.pager refl }

  abbrev pub file : File
  file = file_of_records schema given

  -- they were filled, or not
  module _ (s2 : ShelfState) (k2 : ℕ) (result : Result BuiltParts Fault) (fills : BuildsOnPages a schema given (counted_shelf s1 k1) (counted_shelf s2 k2) result) where
    pub images_by : IsTrue s2.is_honest → Throughout (WasOrRefused (unit_file s0 unit)) (unit_file s0 unit) (unit_file s2 unit)
    images_by honest = filled_images unit a s0 s1 s2 made.unit_is ready made.changed images fills.others fills.quiet honest

    pub refused_by : IsTrue s2.is_honest → AllRefused (unit_file s2 unit)
    refused_by honest = filled_refused unit a s0 s1 s2 made.unit_is ready made.changed images fills.others fills.quiet honest

    pub others_by : KeepsOthers unit s0 s2
    others_by = others_then unit s0 s1 s2 others (subst (λ n. KeepsOthers n s1 s2) made.unit_is fills.others)

    pub whole_images : IsTrue s2.is_honest → Throughout (IsOldOrWhole (unit_file s0 unit) schema file) (unit_file s0 unit) (unit_file s2 unit)
    whole_images honest = throughout_weaker (WasOrRefused (unit_file s0 unit)) (IsOldOrWhole (unit_file s0 unit) schema file) (unit_file s0 unit) (unit_file s2 unit)
        (was_weaker (unit_file s0 unit) schema file) (images_by honest)

    pub left_refused : (IsTrue s2.is_honest → Leaves (unit_file s2 unit) (unit_file s2 unit).seen) → IsTrue s2.is_honest → IsBuiltRefused (unit_file s0 unit) (unit_file s2 unit)
    left_refused law honest = record {
      images = images_by honest;
      refused = refused_by honest;
      reads = refused_by honest (unit_file s2 unit).seen (law honest);
    }

    -- they were not, and this is told
    pub told_by : (end : FileBuilt) → IsUnclosedFor (FaultsRose k0 k2) end → (IsTrue s2.is_honest → Leaves (unit_file s2 unit) (unit_file s2 unit).seen)
        → (IsTrue s2.is_honest → EndsBuilt schema given (unit_file s0 unit) (unit_file s2 unit) end)
        → BuildsOnShelf unit limit schema given (counted_shelf s0 k0) (counted_shelf s2 k2) (Ok end)
    told_by end why law ends = record {
      ends = ends;
      images = whole_images;
      reads = λ honest. inl (inr (refused_by honest (unit_file s2 unit).seen (law honest)));
      left = λ honest. tt;
      others = others_by;
      count = let more = fills.count in omega (arith, count);
      cause = tt;
      unclosed = why;
      no_damage = λ honest. tt;
    }

  -- the prime values do not rise
  pub built_stopped : (s2 : ShelfState) (k2 : ℕ) (found : BuiltParts) → found ≡ PartsStopped
      → BuildsOnPages a schema given (counted_shelf s1 k1) (counted_shelf s2 k2) (Ok found) → (IsTrue s2.is_honest → Leaves (unit_file s2 unit) (unit_file s2 unit).seen)
      → BuildsOnShelf unit limit schema given (counted_shelf s0 k0) (counted_shelf s2 k2) (Ok OutOfOrder)
  built_stopped s2 k2 found found_is fills law = told_by s2 k2 (Ok found) fills OutOfOrder tt law
      (λ honest. (subst (EndsParts schema given s2) found_is (fills.built honest blank).answer, left_refused s2 k2 (Ok found) fills law honest))

  -- a record clashed
  pub built_clashed : (s2 : ShelfState) (k2 : ℕ) (found : BuiltParts) → found ≡ PartsClashed
      → BuildsOnPages a schema given (counted_shelf s1 k1) (counted_shelf s2 k2) (Ok found) → (IsTrue s2.is_honest → Leaves (unit_file s2 unit) (unit_file s2 unit).seen)
      → BuildsOnShelf unit limit schema given (counted_shelf s0 k0) (counted_shelf s2 k2) (Ok Clash)
  built_clashed s2 k2 found found_is fills law = told_by s2 k2 (Ok found) fills Clash tt law
      (λ honest. (subst (EndsParts schema given s2) found_is (fills.built honest blank).answer, left_refused s2 k2 (Ok found) fills law honest))

  -- a fault
  pub not_built : (s2 : ShelfState) (k2 : ℕ) (fault : Fault)
      → BuildsOnPages a schema given (counted_shelf s1 k1) (counted_shelf s2 k2) (Err fault) → (IsTrue s2.is_honest → Leaves (unit_file s2 unit) (unit_file s2 unit).seen)
      → BuildsOnShelf unit limit schema given (counted_shelf s0 k0) (counted_shelf s2 k2) (Err fault)
  not_built s2 k2 fault fills law = record {
    ends = λ honest. tt;
    images = whole_images s2 k2 (Err fault) fills;
    reads = λ honest. inl (inr (refused_by s2 k2 (Err fault) fills honest (unit_file s2 unit).seen (law honest)));
    left = λ honest. inr (refused_by s2 k2 (Err fault) fills honest (unit_file s2 unit).seen (law honest));
    others = others_by s2 k2 (Err fault) fills;
    count = let more = fills.count in omega (arith, count);
    cause = later_cause _ _ _ _ fault (λ rose. failed_after k0 k1 k2 count rose)
        (λ full. subst (λ n. IsFullFile unit n s2) (ap page_limit made.pager) (subst (λ n. IsFullFile n (page_limit (counts_of a)) s2) made.unit_is full)) fills.cause;
    unclosed = tt;
    no_damage = λ honest. (fills.built honest blank).no_damage;
  }

  -- they were, and the file was closed
  module _ (s2 s3 : ShelfState) (k2 k3 : ℕ) (found : BuiltParts) (parts : FileParts) (found_is : found ≡ Parts parts)
      (fills : BuildsOnPages a schema given (counted_shelf s1 k1) (counted_shelf s2 k2) (Ok found)) (result : FileBuilt)
      (closes : ClosesWithCount parts (counted_shelf s2 k2) (counted_shelf s3 k3) result) (law : IsTrue s3.is_honest → Leaves (unit_file s3 unit) (unit_file s3 unit).seen) where
    of : ArePartsOf schema (unit_of_pages a) s2 parts
    of = subst (AreBuiltPartsOf schema (unit_of_pages a) s2) found_is fills.made

    here : unit_of_pages parts.pages ≡ unit
    here = of.unit_is ∙ made.unit_is

    later : KeepsOthers unit s2 s3
    later = subst (λ n. KeepsOthers n s2 s3) here closes.others

    built : IsTrue s3.is_honest → EndsParts schema given s2 (Parts parts)
    built honest = subst (EndsParts schema given s2) found_is (fills.built (later.honest honest) blank).answer

    ended : IsTrue s3.is_honest → EndsCounted schema file (unit_file s2 unit) (unit_file s3 unit) result
    ended honest = subst (λ s. EndsCounted s file (unit_file s2 unit) (unit_file s3 unit) result) of.schema_is
        (subst (λ n. EndsCounted (file_schema parts.file) file (unit_file s2 n) (unit_file s3 n) result) here (closes.closes honest file (built honest).2))

    images_to : IsTrue s3.is_honest → Throughout (IsOldOrWhole (unit_file s0 unit) schema file) (unit_file s0 unit) (unit_file s3 unit)
    images_to honest = throughout_then (IsOldOrWhole (unit_file s0 unit) schema file) (unit_file s0 unit) (unit_file s2 unit) (unit_file s3 unit)
        (whole_images s2 k2 (Ok found) fills (later.honest honest))
        (throughout_weaker (ClosedFileOrRefused schema file) (IsOldOrWhole (unit_file s0 unit) schema file) (unit_file s2 unit) (unit_file s3 unit)
        (closed_weaker (unit_file s0 unit) schema file) (ended honest).images)

    reads_to : IsTrue s3.is_honest → ReadsOldOrWhole (unit_file s0 unit) (unit_file s3 unit) schema file
    reads_to honest = closed_reads (unit_file s0 unit) (unit_file s3 unit) schema file
        (throughout_last (ClosedFileOrRefused schema file) (unit_file s2 unit) (unit_file s3 unit) (ended honest).images (unit_file s3 unit).seen (law honest))

    others_to : KeepsOthers unit s0 s3
    others_to = others_then unit s0 s2 s3 (others_by s2 k2 (Ok found) fills) later

  pub built_whole : (s2 s3 : ShelfState) (k2 k3 : ℕ) (found : BuiltParts) (parts : FileParts) → (found_is : found ≡ Parts parts)
      → (fills : BuildsOnPages a schema given (counted_shelf s1 k1) (counted_shelf s2 k2) (Ok found)) (end : FileBuilt)
      → (closes : ClosesWithCount parts (counted_shelf s2 k2) (counted_shelf s3 k3) end) → (law : IsTrue s3.is_honest → Leaves (unit_file s3 unit) (unit_file s3 unit).seen)
      → BuildsOnShelf unit limit schema given (counted_shelf s0 k0) (counted_shelf s3 k3) (Ok end)
  built_whole s2 s3 k2 k3 found parts found_is fills end closes law = record {
    ends = λ honest.
        let is = ended s2 s3 k2 k3 found parts found_is fills end closes law honest in
        let all = built s2 s3 k2 k3 found parts found_is fills end closes law honest in
        counted_so schema given (unit_file s0 unit) (unit_file s3 unit) all.1 all.0
        (throughout_last (ClosedFileOrRefused schema file) (unit_file s2 unit) (unit_file s3 unit) is.images (unit_file s3 unit).seen (law honest)) (law honest) end is.ends;
    images = images_to s2 s3 k2 k3 found parts found_is fills end closes law;
    reads = reads_to s2 s3 k2 k3 found parts found_is fills end closes law;
    left = λ honest. tt;
    others = others_to s2 s3 k2 k3 found parts found_is fills end closes law;
    count = let more = fills.count in let most = closes.count in omega (arith, count);
    cause = tt;
    unclosed = later_unclosed _ _ end (λ rose. failed_after k0 k2 k3 (let more = fills.count in omega (arith, count)) rose) closes.cause;
    no_damage = λ honest. tt;
  }

-- no page was made
pub not_made : {H : Type 0} (state : H → ShelfState) (count : H → ℕ) (unit limit : ℕ) (schema : Schema) (given : List (List ℕ)) (before after : H) (fault : Fault)
    → (IsTrue (state after).is_honest → Leaves (unit_file (state after) unit) (unit_file (state after) unit).seen)
    → MakesPagedFile {X = PagedFile} state count unit before after (Err fault)
    → BuildsOnShelf unit limit schema given (counted_shelf (state before) (count before)) (counted_shelf (state after) (count after)) (Err fault)
not_made state count unit limit schema given before after fault law makes =
    let old = unit_file (state before) unit in
    let new = unit_file (state after) unit in
    let file = file_of_records schema given in
    let why = made_fault {X = PagedFile} (count before) (count after) fault makes.cause in
    record {
      ends = λ honest. tt;
      images = λ honest. throughout_weaker (WasOrRefused old) (IsOldOrWhole old schema file) old new (was_weaker old schema file) (makes.images honest);
      reads = λ honest. kept_reads old new schema file (law honest) (makes.failed honest);
      left = λ honest. kept_left old new (law honest) (makes.failed honest);
      others = makes.others;
      count = makes.no_fewer;
      cause = record { device = why.0; full = λ e. absurd (no_full why.1 e); not_broken = no_broken why.1 };
      unclosed = tt;
      no_damage = λ honest. no_damage why.1;
    }
  where
    no_damage : (fault ≡ Device) ⊎ (fault ≡ Memory) → fault ≡ Damage → ⊥
    no_damage (inl is) e = let same : Device ≡ Damage = sym is ∙ e in absurd (cc)
    no_damage (inr is) e = let same : Memory ≡ Damage = sym is ∙ e in absurd (cc)

    no_full : (fault ≡ Device) ⊎ (fault ≡ Memory) → fault ≡ Full → ⊥
    no_full (inl is) e = let same : Device ≡ Full = sym is ∙ e in absurd (cc)
    no_full (inr is) e = let same : Memory ≡ Full = sym is ∙ e in absurd (cc)

    no_broken : (fault ≡ Device) ⊎ (fault ≡ Memory) → fault ≡ Broken → ⊥
    no_broken (inl is) e = let same : Device ≡ Broken = sym is ∙ e in absurd (cc)
    no_broken (inr is) e = let same : Memory ≡ Broken = sym is ∙ e in absurd (cc)
