-- What a load over a library over a shelf says of the files of the shelf.
use Rattle.std.proofs.Common.{◌≡◌, ℕ, false, List, [], length, IsTrue, bytes_eq, Result, Ok, Err, IfOk, OnErr, refl, sym, ap, subst, ◌∙◌}
use Rattle.record_layout.specs.Schema.{Schema}
use Rattle.indexed_file.specs.Calls.{Keeps}
use Rattle.indexed_file.specs.World.{World, Named, named_in}
use Rattle.page_store.specs.Images.{Leaves as MayBe}
use Rattle.page_store.proofs.MomentLemmas.{throughout_none}
use Rattle.shelf_library.specs.State.{LibraryState}
use Rattle.shelf_library.specs.Truth.{IsShownTruly}
use Rattle.shelf_library.specs.Units.{world_of}
use Rattle.shelf_library.specs.WorldLaws.{named_anywhere}
use Rattle.shelf_library.specs.Crashes.{IsSoundImage}
use Rattle.shelf_run.specs.Soundness.{files_of}
use Rattle.shelf_run.specs.Files.{reads_of, Represents}
use Rattle.shelf_run.specs.ShelfRun.{shown_of_state}
use Rattle.shelf_run.proofs.FilesLemmas.{world_at_first, named_is, sound_of, shown_truly, represents_sound}
use Rattle.shelf_run.proofs.RunLemmas.{stays_sound}
use Rattle.record_loading.specs.Loading.{Listing, Loads, LoadsNamed, mode_of}
use Rattle.record_loading.specs.Real.{AllStayReal}
use Rattle.record_loading.specs.declared.end.Load.{Load}
use Rattle.record_loading.specs.declared.end.LoadEnd.{LoadEnd}
use Rattle.record_loading.specs.declared.end.LoadFault.{LoadFault}
use Rattle.record_loading.specs.declared.shelf_end.ShelfEnd.{ShelfEnd}
use Rattle.record_loading.specs.declared.shelf_end.ShelfEnd.TheVariants.{Loaded}
use Rattle.record_loading.proofs.OfSchemaLemmas.{of_schema}
use Rattle.record_loading.specs.Loaded.{LeavesLoaded, KeepsOtherNames, IsSafeLoad, load_end_of, file_at_first}

-- a library over a shelf before a load, which holds nothing, and after it
module _ (old new : LibraryState) (none : old.shelf.names ≡ []) (empty : old.held ≡ []) (many : length new.held ≡ length new.shelf.names)
    (keeps : Keeps shown_of_state old new) (an_image : (name : List ℕ) → IsTrue old.shelf.is_honest → MayBe (old.shelf.file name) (old.shelf.file name).seen) (name : List ℕ) where
  first_world : world_of old.shelf old.held ≡ files_of old.shelf
  first_world = rw empty (world_at_first old.shelf none)

  truly : IsSoundImage (old.shelf.file name).seen → IsShownTruly old.shelf old.held name
  truly sound = rw empty (shown_truly old.shelf name none sound)

  pub leaves : (schema : Schema) (load : Load) (list : Listing) (end : LoadEnd)
      → (IsTrue new.shelf.is_honest → IsShownTruly old.shelf old.held name
      → LoadsNamed name schema (mode_of load) list (world_of old.shelf old.held) end (world_of new.shelf new.held))
      → LeavesLoaded name schema load list old.shelf end new.shelf
  leaves schema load list end loads honest named is =
      let sound = sound_of (reads_of old.shelf name) named is in
      let done = loads honest (truly sound) in
      let was : named_in (world_of old.shelf old.held) name ≡ named = ap (λ (world : World). named_in world name) first_world ∙ named_is (reads_of old.shelf name) named is in
      let done_from : Loads schema (mode_of load) list (file_at_first named schema) end done.after =
      subst (λ (n : Named). Loads schema (mode_of load) list (file_at_first n schema) end done.after) was done.loads in
      record {
        after = done.after;
        loads = done_from;
        of_schema = of_schema schema load list named end done.after done_from;
        represents =
            subst (λ (n : Named). Represents (reads_of new.shelf name) n) (sym (named_anywhere new.shelf new.held name many) ∙ done.named)
            (represents_sound (reads_of new.shelf name) (stays_sound old new none empty many keeps an_image honest name sound));
      }

  pub others : ((other : List ℕ) → bytes_eq name other ≡ false → named_in (world_of new.shelf new.held) other ≡ named_in (world_of old.shelf old.held) other)
      → KeepsOtherNames name old.shelf new.shelf
  others same other apart =
      sym (named_anywhere new.shelf new.held other many) ∙ same other apart ∙ ap (λ (world : World). named_in world other) first_world

  pub safe : (IsTrue new.shelf.is_honest → IsShownTruly old.shelf old.held name → AllStayReal shown_of_state old new) → IsSafeLoad name old.shelf new.shelf
  safe real = record {
    honest = keeps.honest;
    sound = stays_sound old new none empty many keeps an_image;
    no_false_file = λ honest all other sound.
        let now = all (old.shelf.file name).seen (an_image name (keeps.honest honest)) in
        real honest (truly now) other (throughout_none IsSoundImage (old.shelf.file other) (old.shelf.file other) refl sound);
  }

-- ---- how a load over a library ended

pub ends_by : (result : Result LoadEnd LoadFault) (P : LoadEnd → Type 0) (Q : ShelfEnd → Type 0) → ((end : LoadEnd) → P end → Q (Loaded end)) → IfOk result P → IfOk (load_end_of result) Q
ends_by (Ok end) P Q so known = so end known
ends_by (Err fault) P Q so known = tt

pub nothing_by : (result : Result LoadEnd LoadFault) (A B : Type 0) → (A → B) → OnErr result A → OnErr (load_end_of result) B
nothing_by (Ok end) A B so known = tt
nothing_by (Err fault) A B so known = so known
