-- What a call on an open file leaves, from what it leaves of the file's parts and of its pages.
use Rattle.std.proofs.Common.{◌≡◌, ℕ, Bool, IsTrue, refl, subst, sym}
use Rattle.indexed_file.specs.File.{File}
use Rattle.page_store.specs.ShelfState.{ShelfState}
use Rattle.page_alloc.specs.declared.paged_file.PagedFile.{PagedFile}
use Rattle.page_alloc.specs.Steps.{ReadsFilePages}
use Rattle.open_file.specs.Fields.{with_path_of}
use Rattle.open_file.specs.declared.open_file.OpenFile.{OpenFile}
use Rattle.open_file.specs.Stands.{Stands, IsShaped}
use Rattle.shelf_library.specs.declared.shelf_file.ShelfFile.{ShelfFile}
use Rattle.shelf_library.specs.Standing.{live_of}
use Rattle.shelf_library.specs.Calls.{OnlyReadsFile}

-- what is true of what a reference refers to is true of its end, where it is still the one that was lent
pub at_end : {X : Type 0} {lent kept : ℕ} (P : X → Type 0) (end now : X) → (lent ≡ kept → end ≡ now) → kept ≡ lent → P now → P end
at_end P end now tie same p = subst P (sym (tie (sym same))) p

-- the same of two that were lent
pub at_ends : {X Y : Type 0} {lent kept lent_too kept_too : ℕ} (P : X → Y → Type 0) (end now : X) (end_too now_too : Y) → (lent ≡ kept → end ≡ now) → kept ≡ lent → (lent_too ≡ kept_too → end_too ≡ now_too) → kept_too ≡ lent_too
    → P now now_too → P end end_too
at_ends P end now end_too now_too tie same tie_too same_too p =
    at_end (λ x. P x end_too) end now tie same (at_end (P now) end_too now_too tie_too same_too p)

-- a call that leaves the file's parts, but for its path
pub reads_but_path : (old new : ShelfFile) (before after : ShelfState) (failed fails : ℕ) → new.file ≡ with_path_of new.file old.file
    → (IsTrue after.is_honest → (rows : File) → Stands old.file (live_of old before) rows → Stands new.file (live_of old before) rows)
    → ReadsFilePages old.pages new.pages before after failed fails → OnlyReadsFile old new before after failed fails
reads_but_path old new before after failed fails parts stays reads = record {
  file = parts;
  pages = reads;
  ready = λ r. record { over = reads.goes.ready r.over; shaped = subst IsShaped (sym parts) r.shaped };
  stands = λ honest rows s. record {
    stands = subst (λ live. Stands new.file live rows) (sym (reads.rests.live honest)) (stays honest rows s.stands);
    sound = subst (λ (sound : Bool). IsTrue sound) (sym (reads.rests.sound honest)) s.sound;
  };
}

-- a call that leaves the file's parts
pub only_reads : (file : OpenFile) (a b : PagedFile) (before after : ShelfState) (failed fails : ℕ) → ReadsFilePages a b before after failed fails
    → OnlyReadsFile (record { file = file; pages = a }) (record { file = file; pages = b }) before after failed fails
only_reads file a b before after failed fails reads =
    reads_but_path (record { file = file; pages = a }) (record { file = file; pages = b }) before after failed fails refl (λ honest rows s. s) reads

pub reads_same : (old new : ShelfFile) (before after : ShelfState) (failed fails : ℕ) → new.file ≡ old.file
    → ReadsFilePages old.pages new.pages before after failed fails → OnlyReadsFile old new before after failed fails
reads_same old new before after failed fails same reads =
    reads_but_path old new before after failed fails
    (subst (λ (file : OpenFile). file ≡ with_path_of file old.file) (sym same) refl)
    (λ honest rows s. subst (λ file. Stands file (live_of old before) rows) (sym same) s) reads
