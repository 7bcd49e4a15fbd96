-- What the calls of a session keep, and what they do.
use Rattle.std.proofs.Common.{◌≡◌, ◌≢◌, ◌⊎◌, inl, inr, ℕ, ◌<◌, ◌++◌, ◌∷◌, [], Bool, true, false, List, map, slice_set, slice_get, slice_index_or, Option, Some, None, Ok, refl, sym, ap, ◌∙◌, subst}
use Rattle.arrayvec.specs.ArrayString.{ArrayString}
use Rattle.indexed_file.specs.Shown.{Shown}
use Rattle.indexed_file.specs.Clients.{IsNotOpen}
use Rattle.indexed_file.specs.World.{World}
use Rattle.io_state.specs.declared.status.Status.{Status}
use Rattle.indexed_file.specs.Growing.{LetsFileGo, LetsGoOnly}
use Rattle.verbs.specs.declared.answer.Answer.{Answer}
use Rattle.verbs.specs.Fits.{Fits}
use Rattle.verbs.specs.Held.{silent}
use Rattle.serve.specs.Request.{Described, Performed}
use Rattle.serve.specs.Files.{NumberedFile, FileTable, Files, PlaceFits, IsVacant, file_of_number, is_free_number, is_named_file, is_open_in, order_after}
use Rattle.serve.specs.Fields.{AreNamed}
use Rattle.serve.specs.Steps.{PerformsAt, ClosesPlace, IsClosedUnit, Releases, Describes, GivesUnit, CanBeDescribed, IsShutUnit, file_described, close_request}
use Rattle.serve.proofs.CallLemmas.{place_is, changed_to, files_with_table, performed_keeps, closing, order_of_close, first_is_number, release_keeps, describe_keeps, free_below, free_none}
use Rattle.serve.proofs.UnitLemmas.{place_fits, closed_unit, named_then, named_left, named_with}

module _ {S : Type 0} (shown : Shown S) (files : FileTable) (library : S) (names : List ArrayString) (named : AreNamed shown (files_with_table library files) names) where
  -- the file of a place goes with the library
  pub goes_with : (i number : ℕ) (place : Option NumberedFile) → i ≡ number → number < 64 → place ≡ slice_index_or files.places i place → PlaceFits (shown.world library) place
  goes_with i number place is below at =
      place_fits shown (files_with_table library files) number place named.files_are (place_is files i number place named.files_are.table is below at)

  pub verb_named : (p : Performed) (i : ℕ) (after : S) (now new : Option NumberedFile) (answer : Answer) (opened : List ℕ)
      → i ≡ p.file → p.file < 64 → now ≡ slice_index_or files.places i now → PerformsAt shown p library now answer after new
      → opened ≡ order_after p.file (is_open_in new) files.opened
      → AreNamed shown (files_with_table after (changed_to files i new opened)) names
  verb_named p i after now new answer opened is below at does order =
      named_then shown (files_with_table library files) p.file does.before does.after after (changed_to files i new opened) named.files_are
      (performed_keeps shown p files i library after now new answer opened named.files_are.table is below at does order)
      (place_is files i p.file now named.files_are.table is below at ∙ does.was)
      (ap (λ k. slice_set files.places k new) is ∙ ap (λ place. slice_set files.places p.file place) does.is)
      below does.does.name does.does.unit does.does.performed.only
      (subst (λ (u : ℕ). Fits does.after.held (shown.world after) u) (sym does.does.unit) does.does.performed.fits) names named.names_are

  pub close_named : (i number : ℕ) (after : S) (now new : Option NumberedFile) (status : Status) (opened : List ℕ)
      → i ≡ number → Some number ≡ slice_get files.opened 0 → now ≡ slice_index_or files.places i now → ClosesPlace shown library now status after new
      → opened ≡ order_after number false files.opened
      → AreNamed shown (files_with_table after (changed_to files i new opened)) names
  close_named i number after now new status opened is first at does order =
      verb_named (close_request number) i after now new (silent status) opened is (first_is_number files number named.files_are.table first) at
      (closing number does) (order_of_close shown files number library after now new status opened does order)

  -- ---- a file is given up

  pub not_open_unit : (i number : ℕ) (now : Option NumberedFile) (unit : ℕ) → i ≡ number → number < 64 → now ≡ slice_index_or files.places i now → IsClosedUnit now unit
      → IsNotOpen (shown.world library) unit
  not_open_unit i number now unit is below at does =
      let file = place_is files i number now named.files_are.table is below at ∙ does.was in
      let fits = (named.files_are.units number does.file file).fits in
      subst (λ (u : ℕ). IsNotOpen (shown.world library) u) (sym does.unit)
      (record { attached = fits.attached; closed = closed_unit shown (files_with_table library files) number does.file named.files_are file does.closed })

  pub release_named : (i number : ℕ) (after : S) (now new : Option NumberedFile) (unit : ℕ)
      → i ≡ number → number < 64 → now ≡ slice_index_or files.places i now → IsClosedUnit now unit → new ≡ None → LetsFileGo shown library after
      → AreNamed shown (files_with_table after (changed_to files i new files.opened)) names
  release_named i number after now new unit is below at does gone goes =
      named_left shown (files_with_table library files) number does.file after (changed_to files i new files.opened) named.files_are
      (release_keeps files i number now new unit named.files_are.table is below at does gone)
      (place_is files i number now named.files_are.table is below at ∙ does.was)
      (ap (λ k. slice_set files.places k new) is ∙ ap (λ place. slice_set files.places number place) gone)
      below does.closed goes.world names named.names_are

  pub release_releases : (keeps_open : S → ℕ → Bool) (i number : ℕ) (after : S) (now new : Option NumberedFile) (unit : ℕ)
      → i ≡ number → number < 64 → now ≡ slice_index_or files.places i now → IsClosedUnit now unit → new ≡ None → LetsFileGo shown library after
      → LetsGoOnly keeps_open unit library after
      → Releases shown keeps_open number (files_with_table library files) (files_with_table after (changed_to files i new files.opened))
  release_releases keeps_open i number after now new unit is below at does gone goes only = record {
    file = does.file;
    was = place_is files i number now named.files_are.table is below at ∙ does.was;
    closed = does.closed;
    stays = goes;
    gone = subst (λ (u : ℕ). LetsGoOnly keeps_open u library after) does.unit only;
    table = ap (λ k. changed_to files k new files.opened) is ∙ ap (λ place. changed_to files number place files.opened) gone;
  }

  -- ---- a file is described, over a library that has its unit

  pub describe_named : (d : Described) (u i : ℕ) (new : Option NumberedFile)
      → i ≡ d.file → is_free_number files d.file ≡ true → CanBeDescribed files d → IsShutUnit (shown.world library) u d.name → new ≡ Some (file_described d u)
      → AreNamed shown (files_with_table library (changed_to files i new files.opened)) names
  describe_named d u i new is free allowed unit put =
      named_with shown (files_with_table library files) d u (changed_to files i new files.opened) named.files_are
      (describe_keeps d u files i new named.files_are.table is free allowed.name put)
      (free_none files d.file free)
      (ap (λ k. slice_set files.places k new) is ∙ ap (λ place. slice_set files.places d.file place) put)
      (free_below files d.file free) unit allowed.file.schema names named.names_are

pub describe_describes : {S : Type 0} (shown : Shown S) (keeps_open : S → ℕ → Bool) (d : Described) (files : FileTable) (library after : S) (u i : ℕ) (new : Option NumberedFile)
    → i ≡ d.file → CanBeDescribed files d → GivesUnit shown keeps_open d.name u library after → new ≡ Some (file_described d u)
    → Describes shown keeps_open d (files_with_table library files) (files_with_table after (changed_to files i new files.opened))
describe_describes shown keeps_open d files library after u i new is allowed gives put = record {
  allowed = allowed;
  unit = u;
  gives = gives;
  table = ap (λ k. changed_to files k new files.opened) is ∙ ap (λ place. changed_to files d.file place files.opened) put;
}
