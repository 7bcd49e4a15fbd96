-- What the building of the parts of a file leaves, from what it leaves of their pages.
use Rattle.std.proofs.Common.{◌≡◌, ℕ, IsTrue, None, List, Result, Ok, Err, ◌∙◌, subst}
use Rattle.io_state.specs.declared.fault.Fault.{Fault}
use Rattle.record_layout.specs.Schema.{Schema}
use Rattle.page_store.specs.ShelfState.{ShelfState}
use Rattle.pages.specs.Answer.{IsAnswer}
use Rattle.page_alloc.specs.declared.paged_file.PagedFile.{PagedFile}
use Rattle.page_alloc.specs.Joining.{FaultsRose, page_limit}
use Rattle.page_alloc.specs.PagedFile.{counts_of, unit_of_pages}
use Rattle.page_alloc.specs.Steps.{KeepsGate, pages_state_of}
use Rattle.open_file.specs.declared.open_file.OpenFile.{OpenFile}
use Rattle.shelf_library.specs.FileOpening.{counted_shelf}
use Rattle.tree_building.specs.Fresh.{IsBuildCause}
use Rattle.file_building.specs.declared.built_file.BuiltFile.{BuiltFile}
use Rattle.file_building.specs.declared.built_file.BuiltFile.TheVariants.{File as AFile, OutOfOrder as AllStopped, Clash as AllClashed}
use Rattle.file_building.specs.declared.built_parts.BuiltParts.TheVariants.{File as Parts, OutOfOrder as PartsStopped, Clash as PartsClashed}
use Rattle.file_building.specs.BuiltFile.{EndsBuiltFile, IsBuiltFileFor}
use Rattle.file_building.specs.BuiltParts.{CanBuildParts, BuildsOnPages}
use Rattle.file_building.specs.Filling.{IsFullFile}
use Rattle.file_building.proofs.FillLemmas.{no_header, writing_cause}

module _ (a m : PagedFile) (s t : ShelfState) (i k : ℕ) (can : CanBuildParts a s) (writes : KeepsGate a m s t i k) (schema : Schema) (given : List (List ℕ)) where
  -- what was built in the pages
  abbrev Built : Result BuiltFile Fault → Type 0
  Built result = IsTrue t.is_honest → IsTrue (pages_state_of a s).is_sound → ((n : ℕ) → (pages_state_of a s).live n ≡ None) → (pages_state_of m t).live 0 ≡ None
      → IsAnswer result (EndsBuiltFile schema given (pages_state_of m t).live (IsTrue (pages_state_of m t).is_sound))

  pub parts_built : (file : OpenFile) (found : BuiltFile) → found ≡ AFile file → Built (Ok found) → IsBuiltFileFor schema found
      → BuildsOnPages a schema given (counted_shelf s i) (counted_shelf t k) (Ok (Parts (record { file = file; pages = m })))
  parts_built file found found_is built made =
      let of = subst (IsBuiltFileFor schema) found_is made in
      record {
        built = λ honest blank.
            let is = subst (EndsBuiltFile schema given (pages_state_of m t).live (IsTrue (pages_state_of m t).is_sound)) found_is (built honest blank.sound blank.none (no_header m t)).answer in
            record { answer = (is.0, is.1, record { stands = is.2; sound = is.3 }); no_damage = tt };
        made = record {
          ready = record {
            ready = record { over = writes.ready can.writable; shaped = of.shaped };
            unbroken = of.unbroken;
            changed = writes.gate ∙ can.begun;
          };
          unit_is = writes.parts.unit;
          schema_is = of.schema_is;
        };
        others = writes.parts.quietly.others;
        quiet = writes.parts.quietly.quiet;
        count = writes.parts.faults;
        cause = tt;
      }

  pub parts_stopped : (found : BuiltFile) → found ≡ AllStopped → Built (Ok found) → BuildsOnPages a schema given (counted_shelf s i) (counted_shelf t k) (Ok PartsStopped)
  parts_stopped found found_is built = record {
    built = λ honest blank. record {
      answer = subst (EndsBuiltFile schema given (pages_state_of m t).live (IsTrue (pages_state_of m t).is_sound)) found_is (built honest blank.sound blank.none (no_header m t)).answer;
      no_damage = tt;
    };
    made = tt;
    others = writes.parts.quietly.others;
    quiet = writes.parts.quietly.quiet;
    count = writes.parts.faults;
    cause = tt;
  }

  pub parts_clashed : (found : BuiltFile) → found ≡ AllClashed → Built (Ok found) → BuildsOnPages a schema given (counted_shelf s i) (counted_shelf t k) (Ok PartsClashed)
  parts_clashed found found_is built = record {
    built = λ honest blank. record {
      answer = subst (EndsBuiltFile schema given (pages_state_of m t).live (IsTrue (pages_state_of m t).is_sound)) found_is (built honest blank.sound blank.none (no_header m t)).answer;
      no_damage = tt;
    };
    made = tt;
    others = writes.parts.quietly.others;
    quiet = writes.parts.quietly.quiet;
    count = writes.parts.faults;
    cause = tt;
  }

  pub parts_failed : (ran_out : Type 0) (fault : Fault) → Built (Err fault) → (ran_out → IsFullFile (unit_of_pages a) (page_limit (counts_of a)) t)
      → IsBuildCause (FaultsRose i k) ran_out fault → BuildsOnPages a schema given (counted_shelf s i) (counted_shelf t k) (Err fault)
  parts_failed ran_out fault built full cause = record {
    built = λ honest blank. record { answer = tt; no_damage = (built honest blank.sound blank.none (no_header m t)).no_damage };
    made = tt;
    others = writes.parts.quietly.others;
    quiet = writes.parts.quietly.quiet;
    count = writes.parts.faults;
    cause = writing_cause (FaultsRose i k) ran_out (IsFullFile (unit_of_pages a) (page_limit (counts_of a)) t) fault full cause;
  }
