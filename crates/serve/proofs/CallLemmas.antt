-- The calls of a session, from those on a place.
use Rattle.std.proofs.Common.{◌≡◌, ℕ, ◌<◌, Bool, true, false, ◌&&◌, ◌||◌, List, [], ◌∷◌, slice_set, slice_get, slice_index_or, Option, Some, None, is_none, nat_lt, Result, Ok, Err, IfOk, OnErr, suc, zero, sym, ap, ◌∙◌, refl, arith, true≢false, subst}
use Rattle.std.proofs.lemmas.Bool.{ltb-true}
use Rattle.std.proofs.lemmas.List.{get_or_default, set-get_or}
use Rattle.std.proofs.Math.ListN.{get_or-eq_default}
use Rattle.std.proofs.lemmas.Cmp.{nat_list_eq_equiv}
use Rattle.std.specs.List.{list_any}
use Rattle.std.specs.Str.{bytes_eq}
use Rattle.serve.specs.declared.request_refusal.RequestRefusal.{RequestRefusal}
use Rattle.io_state.specs.declared.status.Status.{Status}
use Rattle.indexed_file.specs.Shown.{Shown}
use Rattle.verbs.specs.declared.answer.Answer.{Answer}
use Rattle.verbs.specs.Held.{silent}
use Rattle.serve.specs.Request.{Described, Performed}
use Rattle.serve.specs.Files.{NumberedFile, FileTable, Files, AreNumberedFiles, IsOrder, file_of_number, is_open_file, is_open_in, is_free_number, is_named_file, has_file_name, without, order_after}
use Rattle.serve.specs.Steps.{PerformsWith, PerformsAt, PerformsRequest, ClosesPlace, ClosesFirst, IsClosedUnit, Releases, Describes, GivesUnit, CanBeDescribed, file_described, close_request}
use Rattle.serve.proofs.FilesLemmas.{place_after, files_with, files_without, or_true, first_known, first_below, first_open, without_first, none_some}

-- the file of a number is that of its place
pub place_is : (files : FileTable) (i number : ℕ) (place : Option (NumberedFile)) → AreNumberedFiles files → i ≡ number → number < 64
    → place ≡ slice_index_or files.places i place → file_of_number files number ≡ place
place_is files i number place are is below at =
    get_or_default files.places number None place (omega (arith, are.places, below))
    ∙ ap (λ k. slice_index_or files.places k place) (sym is) ∙ sym at

abbrev pub changed_to : FileTable → ℕ → Option (NumberedFile) → List ℕ → FileTable
changed_to files i place opened = record { places = slice_set files.places i place; opened = opened }

pub performed_keeps : {S : Type 0} (shown : Shown S) (p : Performed) (files : FileTable) (i : ℕ) (library after : S) (now new : Option NumberedFile) (answer : Answer) (opened : List ℕ)
    → AreNumberedFiles files → i ≡ p.file → p.file < 64 → now ≡ slice_index_or files.places i now → PerformsAt shown p library now answer after new
    → opened ≡ order_after p.file (is_open_in new) files.opened → AreNumberedFiles (changed_to files i new opened)
performed_keeps shown p files i library after now new answer opened are is below at does order =
    subst (λ (k : ℕ). AreNumberedFiles (changed_to files k new opened)) (sym is)
    (place_after files p.file does.before does.after new opened are below (place_is files i p.file now are is below at ∙ does.was) does.is does.does.name
    (order ∙ ap (λ (b : Bool). order_after p.file b files.opened) (ap is_open_in does.is)))

-- the files of a session, with another library and another table
abbrev pub files_with_table : {S : Type 0} → S → FileTable → Files S
files_with_table library table = record { library = library; table = table }

pub performed_performs : {S : Type 0} (shown : Shown S) (p : Performed) (files : FileTable) (i : ℕ) (library after : S) (now new : Option NumberedFile) (answer : Answer) (opened : List ℕ)
    → AreNumberedFiles files → i ≡ p.file → p.file < 64 → now ≡ slice_index_or files.places i now → PerformsAt shown p library now answer after new
    → opened ≡ order_after p.file (is_open_in new) files.opened
    → PerformsRequest shown p (files_with_table library files) answer (files_with_table after (changed_to files i new opened))
performed_performs shown p files i library after now new answer opened are is below at does order = record {
  before = does.before;
  after = does.after;
  file = place_is files i p.file now are is below at ∙ does.was;
  does = does.does;
  places = ap (λ k. slice_set files.places k new) is ∙ ap (λ place. slice_set files.places p.file place) does.is;
  opened = order ∙ ap (λ (b : Bool). order_after p.file b files.opened) (ap is_open_in does.is);
}

-- ---- the file that was opened first

pub closing : {S : Type 0} {shown : Shown S} {library after : S} {old : Option NumberedFile} {status : Status} {new : Option NumberedFile} (number : ℕ)
    → ClosesPlace shown library old status after new → PerformsAt shown (close_request number) library old (silent status) after new
closing number does = record { before = does.before; after = does.after; was = does.was; is = does.is; does = does.does }

pub order_of_close : {S : Type 0} (shown : Shown S) (files : FileTable) (number : ℕ) (library after : S) (now new : Option NumberedFile) (status : Status) (opened : List ℕ)
    → ClosesPlace shown library now status after new → opened ≡ order_after number false files.opened → opened ≡ order_after number (is_open_in new) files.opened
order_of_close shown files number library after now new status opened does order =
    order ∙ ap (λ (b : Bool). order_after number b files.opened) (sym (ap is_open_in does.is ∙ does.closed))

pub first_is_number : (files : FileTable) (number : ℕ) → AreNumberedFiles files → Some number ≡ slice_get files.opened 0 → number < 64
first_is_number files number are first =
    let known = first_known files.opened number (sym first) in
    first_below files.opened number known.0 are.order known.1

pub first_is_there : (files : FileTable) (i number : ℕ) (now : Option NumberedFile) → AreNumberedFiles files → i ≡ number
    → Some number ≡ slice_get files.opened 0 → now ≡ slice_index_or files.places i now → now ≡ None → ⊥
first_is_there files i number now are is first at none =
    let known = first_known files.opened number (sym first) in
    true≢false (sym (first_open files number known.0 are known.1)
    ∙ ap is_open_in (place_is files i number now are is (first_is_number files number are first) at ∙ none))

pub close_closes : {S : Type 0} (shown : Shown S) (files : FileTable) (i number : ℕ) (library after : S) (now new : Option NumberedFile) (status : Status) (opened : List ℕ)
    → AreNumberedFiles files → i ≡ number → Some number ≡ slice_get files.opened 0 → now ≡ slice_index_or files.places i now → ClosesPlace shown library now status after new
    → opened ≡ order_after number false files.opened → ClosesFirst shown (files_with_table library files) status (files_with_table after (changed_to files i new opened))
close_closes shown files i number library after now new status opened are is first at does order =
    let known = first_known files.opened number (sym first) in
    record {
      first = number;
      rest = known.0;
      was = known.1;
      closed = performed_performs shown (close_request number) files i library after now new (silent status) opened are is (first_is_number files number are first) at
          (closing number does) (order_of_close shown files number library after now new status opened does order);
      opened = order ∙ ap (without number) known.1 ∙ without_first number known.0 (subst IsOrder known.1 are.order);
    }

-- ---- a file is given up

pub release_keeps : (files : FileTable) (i number : ℕ) (now new : Option NumberedFile) (unit : ℕ)
    → AreNumberedFiles files → i ≡ number → number < 64 → now ≡ slice_index_or files.places i now → IsClosedUnit now unit → new ≡ None
    → AreNumberedFiles (changed_to files i new files.opened)
release_keeps files i number now new unit are is below at does gone =
    subst (λ (k : ℕ). AreNumberedFiles (changed_to files k new files.opened)) (sym is)
    (subst (λ (p : Option NumberedFile). AreNumberedFiles (changed_to files number p files.opened)) (sym gone)
    (files_without files number does.file are below (place_is files i number now are is below at ∙ does.was) does.closed))

-- ---- a file is described

named_from : (name : List ℕ) (places : List (Option (NumberedFile))) (number : ℕ) (file : NumberedFile)
    → slice_index_or places number None ≡ Some file → bytes_eq name file.name ≡ true → list_any (has_file_name name) places ≡ true
named_from name [] number file at same = absurd (none_some (sym (get_or-eq_default [] None {n = number} (omega arith)) ∙ at))
named_from name (place ∷ places) zero file at same =
    ap (λ (p : Option (NumberedFile)). has_file_name name p || list_any (has_file_name name) places) at ∙ ap (λ b. b || list_any (has_file_name name) places) same
named_from name (place ∷ places) (suc number) file at same =
    ap (λ b. has_file_name name place || b) (named_from name places number file at same) ∙ or_true (has_file_name name place)

and_left : (a b : Bool) → (a && b) ≡ true → a ≡ true
and_left true b both = refl
and_left false b both = both

and_right : (a b : Bool) → (a && b) ≡ true → b ≡ true
and_right true b both = both
and_right false b both = absurd (true≢false (sym both))

none_from : (place : Option (NumberedFile)) → is_none place ≡ true → place ≡ None
none_from None is = refl
none_from (Some file) is = absurd (true≢false (sym is))

pub free_below : (files : FileTable) (number : ℕ) → is_free_number files number ≡ true → number < 64
free_below files number free = ltb-true number 64 (and_left (nat_lt number 64) (is_none (file_of_number files number)) free)

pub free_none : (files : FileTable) (number : ℕ) → is_free_number files number ≡ true → file_of_number files number ≡ None
free_none files number free = none_from (file_of_number files number) (and_right (nat_lt number 64) (is_none (file_of_number files number)) free)

pub describe_keeps : (d : Described) (u : ℕ) (files : FileTable) (i : ℕ) (new : Option NumberedFile)
    → AreNumberedFiles files → i ≡ d.file → is_free_number files d.file ≡ true → is_named_file files d.name ≡ false → new ≡ Some (file_described d u)
    → AreNumberedFiles (changed_to files i new files.opened)
describe_keeps d u files i new are is free named put =
    subst (λ (k : ℕ). AreNumberedFiles (changed_to files k new files.opened)) (sym is)
    (subst (λ (p : Option NumberedFile). AreNumberedFiles (changed_to files d.file p files.opened)) (sym put)
    (files_with files d.file (file_described d u) are (free_below files d.file free) (free_none files d.file free) refl
    (λ other a at same. true≢false (sym (named_from d.name files.places other a at (ap (bytes_eq d.name) same ∙ nat_list_eq_equiv.refl d.name)) ∙ named))))

-- no file has a name that none is told to have
pub not_named : (files : FileTable) (name : List ℕ) (number : ℕ) (file : NumberedFile) → is_named_file files name ≡ false → file_of_number files number ≡ Some file → file.name ≡ name → ⊥
not_named files name number file named at same =
    true≢false (sym (named_from name files.places number file at (ap (bytes_eq name) same ∙ nat_list_eq_equiv.refl name)) ∙ named)
