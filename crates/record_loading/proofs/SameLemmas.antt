-- Calls that leave the files of a shelf as they were.
use Rattle.std.proofs.Common.{◌≡◌, ℕ, Bool, false, List, Option, Some, None, Result, Ok, Err, OnErr, IsTrue, refl, sym, ap, subst, ◌∙◌}
use Rattle.std.specs.Prelude.{is_some}
use Rattle.record_layout.specs.Schema.{Schema}
use Rattle.indexed_file.specs.World.{Absent}
use Rattle.page_store.specs.DeviceFile.{DeviceFile}
use Rattle.page_store.specs.Moments.{Throughout}
use Rattle.page_store.specs.ShelfState.{ShelfState}
use Rattle.page_store.proofs.MomentLemmas.{throughout_none}
use Rattle.shelf_library.specs.Named.{named_of}
use Rattle.shelf_library.specs.Crashes.{IsSoundImage, MayReadAs}
use Rattle.shelf_library.specs.MomentLaws.{EachRead}
use Rattle.shelf_run.specs.Soundness.{AllSound}
use Rattle.shelf_run.specs.ShelfRun.{LeavesFiles}
use Rattle.record_loading.specs.BuiltLoad.{TriesToBuild}
use Rattle.record_loading.specs.declared.built_load.BuildTry.TheVariants.{Unmade}
use Rattle.record_loading.specs.Loading.{Listing}
use Rattle.record_loading.specs.declared.end.Load.TheVariants.{New}
use Rattle.record_loading.specs.declared.shelf_end.ShelfEnd.{ShelfEnd}
use Rattle.record_loading.specs.declared.shelf_end.ShelfFault.{ShelfFault}
use Rattle.record_loading.specs.declared.shelf_end.ShelfEnd.TheVariants.{IsThere, Loaded}
use Rattle.record_loading.specs.Loaded.{EndsAnyhow, EndsLoad, KeepsOtherNames, IsSafeLoad}

none_there : (c : Option (List ℕ)) → false ≡ is_some c → c ≡ None
none_there None lacks = refl
none_there (Some bytes) lacks = absurd (cc)

-- nothing was done
module _ (old new : ShelfState) (same : new.file ≡ old.file) where
  pub untouched : LeavesFiles old new
  untouched = record {
    named = λ name. ap (λ (file : List ℕ → DeviceFile). named_of (file name).seen) same;
    images = λ honest name. record {
      within = λ real. subst (λ (file : List ℕ → DeviceFile). EachRead (MayReadAs (old.file name) (old.file name)) (old.file name) (file name)) (sym same) (real, λ image is. is);
      back = λ real. subst (λ (file : List ℕ → DeviceFile). EachRead (MayReadAs (new.file name) (new.file name)) (file name) (file name)) same (real, λ image is. is);
    };
  }

  pub others_same : (name : List ℕ) → KeepsOtherNames name old new
  others_same name other apart = ap (λ (file : List ℕ → DeviceFile). named_of (file other).seen) same

  pub safe_same : (IsTrue new.is_honest → IsTrue old.is_honest) → (name : List ℕ) → IsSafeLoad name old new
  safe_same before name = record {
    honest = before;
    sound = λ honest other. subst (λ (file : List ℕ → DeviceFile). IsSoundImage (file other).seen) (sym same);
    no_false_file = λ honest all other sound. throughout_none IsSoundImage (old.file other) (new.file other) (ap (λ (file : List ℕ → DeviceFile). (file other).log) same) sound;
  }

-- no file was begun
pub none_tried : (old new : ShelfState) → new.file ≡ old.file → (IsTrue new.is_honest → IsTrue old.is_honest) → (name : List ℕ) (schema : Schema) (list : Listing) → TriesToBuild name schema list old new Unmade
none_tried old new same before name schema list = record {
  ends = λ honest absent. tt;
  unmade = same;
  others = others_same old new same name;
  safe = safe_same old new same before name;
}

-- something was done behind such calls
module _ (first then last : ShelfState) (same : then.file ≡ first.file) where
  pub left_from : LeavesFiles then last → LeavesFiles first last
  left_from is = record {
    named = λ name. is.named name ∙ ap (λ (file : List ℕ → DeviceFile). named_of (file name).seen) same;
    images = λ honest name. let stays = is.images honest name in record {
      within = λ real.
          subst (λ (file : List ℕ → DeviceFile). EachRead (MayReadAs (file name) (file name)) (file name) (last.file name)) same
          (stays.within (subst (λ (file : List ℕ → DeviceFile). Throughout IsSoundImage (file name) (file name)) (sym same) real));
      back = λ real. subst (λ (file : List ℕ → DeviceFile). EachRead (MayReadAs (last.file name) (last.file name)) (file name) (file name)) same (stays.back real);
    };
  }

  pub nothing_from : (result : Result ShelfEnd ShelfFault) → OnErr result (LeavesFiles then last) → OnErr result (LeavesFiles first last)
  nothing_from (Ok end) known = tt
  nothing_from (Err fault) known = left_from known

  pub others_from : (name : List ℕ) → KeepsOtherNames name then last → KeepsOtherNames name first last
  others_from name is other apart = is other apart ∙ ap (λ (file : List ℕ → DeviceFile). named_of (file other).seen) same

  pub safe_from : (IsTrue then.is_honest → IsTrue first.is_honest) → (name : List ℕ) → IsSafeLoad name then last → IsSafeLoad name first last
  safe_from before name is = record {
    honest = λ honest. before (is.honest honest);
    sound = λ honest other sound. is.sound honest other (subst (λ (file : List ℕ → DeviceFile). IsSoundImage (file other).seen) (sym same) sound);
    no_false_file = λ honest all other sound.
        subst (λ (file : List ℕ → DeviceFile). Throughout IsSoundImage (file other) (last.file other)) same
        (is.no_false_file honest (subst (λ (file : List ℕ → DeviceFile). AllSound (file name)) (sym same) all) other
        (subst (λ (file : List ℕ → DeviceFile). AllSound (file other)) (sym same) sound));
  }

  -- what was told of the name by then
  pub absent_then : (name : List ℕ) (there : Bool) → there ≡ false → (IsTrue then.is_honest → there ≡ is_some (first.file name).seen) → IsTrue then.is_honest → (then.file name).seen ≡ None
  absent_then name there lacks tells honest =
      ap (λ (file : List ℕ → DeviceFile). (file name).seen) same ∙ none_there (first.file name).seen (sym lacks ∙ tells honest)

  -- where the name had no file, what was loaded was loaded into a new one
  pub anew : (name : List ℕ) (schema : Schema) (list : Listing) → (IsTrue last.is_honest → (first.file name).seen ≡ None) → (end : ShelfEnd) → EndsAnyhow name schema New list then end last → EndsLoad name schema New list first end last
  anew name schema list absent IsThere is = absurd is
  anew name schema list absent (Loaded end) is = λ honest. record {
    absent = absent honest;
    leaves = is honest Absent (ap (λ (file : List ℕ → DeviceFile). (file name).seen) same ∙ absent honest);
  }

  -- so a load of a new file ended, whose name stood for the same before
  pub ends_from : (name : List ℕ) (schema : Schema) (list : Listing) (end : ShelfEnd) → EndsLoad name schema New list then end last → EndsLoad name schema New list first end last
  ends_from name schema list IsThere is = (
    is.0,
    record {
      there = λ honest. subst (λ (file : List ℕ → DeviceFile). IsTrue (is_some (file name).seen)) same (is.1.there honest);
      same = is.1.same ∙ same;
    },
  )
  ends_from name schema list (Loaded end) is = λ honest. let loads = is honest in record {
    absent = sym (ap (λ (file : List ℕ → DeviceFile). (file name).seen) same) ∙ loads.absent;
    leaves = loads.leaves;
  }
