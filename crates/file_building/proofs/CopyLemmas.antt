-- What a copy leaves, from what each of its steps leaves.
use Rattle.std.proofs.Common.{◌≡◌, ℕ, length, true, inl, inr, List, Option, Result, Err, IsTrue, sym, ◌∙◌, ap, subst}
use Rattle.std.specs.Prelude.{IfErr}
use Rattle.record_layout.specs.Schema.{Schema}
use Rattle.indexed_file.specs.File.{File}
use Rattle.page_store.specs.DeviceFile.{DeviceFile, content}
use Rattle.page_store.specs.Gate.{AllOpen, AllRefused, WasOrRefused}
use Rattle.page_store.specs.Moments.{Throughout, Quiet, IsQuiet}
use Rattle.page_store.specs.ShelfState.{ShelfState, KeepsOthers, unit_file}
use Rattle.page_store.proofs.MomentLemmas.{throughout_none, throughout_then, throughout_weaker}
use Rattle.page_store.proofs.OpenLemmas.{open_kept, all_refused}
use Rattle.page_cache.specs.HeaderCalls.{MayRefuse}
use Rattle.page_alloc.specs.declared.paged_file.PagedFile.{PagedFile}
use Rattle.page_alloc.specs.PagedFile.{IsOpenOver, is_begun, unit_of_pages}
use Rattle.page_alloc.proofs.OpenLemmas.{made_quietly}
use Rattle.open_file.specs.declared.first_page.Header.{Header}
use Rattle.pages.specs.PageMap.{PageMap}
use Rattle.key_index.specs.declared.prime_index.PrimeIndex.{PrimeIndex}
use Rattle.key_index.specs.Standing.{CountsPrime}
use Rattle.open_file.specs.Fields.{file_schema, prime_index_of}
use Rattle.open_file.specs.InOrder.{prime_entries}
use Rattle.open_file.specs.Parts.{prime_pages}
use Rattle.open_file.specs.Stands.{Stands}
use Rattle.open_file.specs.declared.open_file.OpenFile.{OpenFile}
use Rattle.open_file.proofs.HeaderLemmas.{prime_entries_many}
use Rattle.shelf_library.specs.ClosedFile.{AreClosed, StandsIn}
use Rattle.shelf_library.specs.Named.{look_of}
use Rattle.shelf_library.specs.Shelves.{ClosedFileOrRefused}
use Rattle.shelf_library.specs.declared.look.HeaderLook.TheVariants.{Accepted}
use Rattle.shelf_library.specs.FileAcceptedLemmas.{looks_accepted, accepted_there}
use Rattle.file_building.specs.declared.fault.Copied.{Copied}
use Rattle.file_building.specs.declared.fault.CopyingFault.{CopyingFault}
use Rattle.file_building.specs.Closing.{EndsCopy, IsCopyDone}
use Rattle.file_building.specs.Copying.{BecomesCopy}
use Rattle.file_building.specs.NewFile.{GoesRefused, IsOldOrWhole}
use Rattle.file_building.specs.Faults.{IsNoSourceDamage}

-- the file of a unit after its pages were filled behind an open gate
module _ (unit : ℕ) (a : PagedFile) (s0 s1 s2 : ShelfState) (here : unit_of_pages a ≡ unit) (ready : IsOpenOver a s1) (begun : is_begun a ≡ true)
    (images : MayRefuse unit s0 s1) (others : KeepsOthers (unit_of_pages a) s1 s2) (quiet : IsQuiet (unit_of_pages a) s1 s2) (honest : IsTrue s2.is_honest) where
  all_open : AllOpen (unit_file s1 unit)
  all_open = subst (λ n. AllOpen (unit_file s1 n)) here (ready.gate begun (others.honest honest))

  quiet_here : Quiet (unit_file s1 unit) (unit_file s2 unit)
  quiet_here = subst (λ n. Quiet (unit_file s1 n) (unit_file s2 n)) here quiet

  pub filled_images : Throughout (WasOrRefused (unit_file s0 unit)) (unit_file s0 unit) (unit_file s2 unit)
  filled_images = made_quietly (unit_file s0 unit) (unit_file s1 unit) (unit_file s2 unit) (images (others.honest honest)) all_open quiet_here

  pub filled_refused : AllRefused (unit_file s2 unit)
  filled_refused = all_refused (unit_file s2 unit) (open_kept (unit_file s1 unit) (unit_file s2 unit) all_open quiet_here)

  pub filled_stays : GoesRefused (unit_file s0 unit) (unit_file s2 unit)
  filled_stays = record { images = filled_images; stands = inr filled_refused }

-- what a crash could leave, or refused
was_weaker : (old : DeviceFile) (schema : Schema) (file : File) (c : Option (List ℕ)) → WasOrRefused old c → IsOldOrWhole old schema file c
was_weaker old schema file c is = inl is

closed_weaker : (old : DeviceFile) (schema : Schema) (file : File) (c : Option (List ℕ)) → ClosedFileOrRefused schema file c → IsOldOrWhole old schema file c
closed_weaker old schema file c (inl refused) = inl (inr refused)
closed_weaker old schema file c (inr closed) = inr closed

-- nothing is told of a fault
pub not_done : (schema : Schema) (file : File) (new : DeviceFile) (fault : CopyingFault) → IsCopyDone schema file new (Err fault)
not_done schema file new fault = record { settled = tt; closed = tt; records = tt; pages = tt }

-- a copy that gave up before its end
pub gave_up : (schema : Schema) (file : File) (old new : DeviceFile) (fault : CopyingFault) → Throughout (WasOrRefused old) old new → IsNoSourceDamage fault
    → BecomesCopy schema file old new (Err fault)
gave_up schema file old new fault images no_damage = record {
  images = throughout_weaker (WasOrRefused old) (IsOldOrWhole old schema file) old new (was_weaker old schema file) images;
  done = not_done schema file new fault;
  no_damage = no_damage;
}

-- one before which nothing was written
pub not_begun : (schema : Schema) (file : File) (old new : DeviceFile) (fault : CopyingFault) → new ≡ old → IsNoSourceDamage fault
    → BecomesCopy schema file old new (Err fault)
not_begun schema file old new fault same no_damage =
    gave_up schema file old new fault (throughout_none (WasOrRefused old) old new (ap (λ (f : DeviceFile). f.log) same) (λ c may. inl may)) no_damage

-- one that came to its end
pub ended : (schema : Schema) (file : File) (old mid new : DeviceFile) (result : Result Copied CopyingFault) → Throughout (WasOrRefused old) old mid
    → EndsCopy schema file mid new result → IfErr result IsNoSourceDamage → BecomesCopy schema file old new result
ended schema file old mid new result images ends no_damage = record {
  images = throughout_then (IsOldOrWhole old schema file) old mid new
      (throughout_weaker (WasOrRefused old) (IsOldOrWhole old schema file) old mid (was_weaker old schema file) images)
      (throughout_weaker (ClosedFileOrRefused schema file) (IsOldOrWhole old schema file) mid new (closed_weaker old schema file) ends.images);
  done = ends.done;
  no_damage = no_damage;
}

-- a file that is closed with one header, and whose first page has another, has but one
pub same_header : (file : DeviceFile) (header : Header) (schema : Schema) (rows : File) → look_of file.seen ≡ Accepted header → AreClosed schema rows (content file)
    → (header.schema ≡ schema) × StandsIn header (content file) rows
same_header file header schema rows looks closed =
    let there = accepted_there file header looks in
    let found : look_of file.seen ≡ Accepted closed.header = ap look_of there ∙ looks_accepted (content file) closed.header closed.accepted in
    let both : Accepted closed.header ≡ Accepted header = sym found ∙ looks in
    let same : closed.header ≡ header = cc in
    (ap (λ (h : Header). h.schema) (sym same) ∙ closed.schema_is, subst (λ (h : Header). StandsIn h (content file) rows) same closed.stands)

-- an index counts as many entries as its file has rows
pub many : (opened : OpenFile) (pages : PageMap) (file : File) (index : PrimeIndex) (count : ℕ) → index ≡ prime_index_of opened → CountsPrime index count
    → Stands opened pages file → count ≡ length file.rows
many opened pages file index count same counts stands =
    let here = subst (λ (i : PrimeIndex). CountsPrime i count) same counts in
    here pages (prime_entries (file_schema opened) stands.places file.rows) (prime_pages stands.parts.owns) stands.parts.prime_stands
    ∙ prime_entries_many (file_schema opened) stands.slots stands.places file.rows stands.placed.rows_at
