-- What the definitions give depends on what the described names stand for alone.
use Rattle.std.proofs.Common.{◌≡◌, ℕ, List, [], ◌∷◌, Option, Some, None, bytes_eq, sym, ap, ◌∙◌, if◌then◌else◌}
use Rattle.io_state.specs.declared.status.Status.{Status}
use Rattle.indexed_file.specs.World.{Named}
use Rattle.serve.specs.Answer.{Told, Refuses, Does, Tells}
use Rattle.serve.specs.Reading.{request_in}
use Rattle.serve.specs.Request.{Described, Performed, Asked, Describing, Performing, Releasing}
use Rattle.serve.specs.declared.request_refusal.RequestRefusal.{RequestRefusal}
use Rattle.serve.specs.declared.request_refusal.RequestRefusal.TheVariants as refusal
use Rattle.serve.specs.Steps.{close_request}
use Rattle.serve.specs.ExactFiles.{ExactFile, ExactFiles, with_exact, IsFree, HasNamed, exact_described, DescribesExactly, RefusesExactly, exact_outcome, PerformsExactly, AnswersExactly, ServesExactly, ClosesExactly}
use Rattle.serve.specs.ExactSession.{IsSoOfDescribed, IsSoOfAllDescribed}
use Rattle.serve.specs.Serving.{Exchange}

-- what is so of each described name
pub described_weaker : (P Q : List ℕ → Type 0) → ((name : List ℕ) → P name → Q name) → (exchanges : List Exchange) → IsSoOfAllDescribed P exchanges → IsSoOfAllDescribed Q exchanges
described_weaker P Q so [] all = tt
described_weaker P Q so (e ∷ rest) all = (by (request_in e.body) all.0, described_weaker P Q so rest all.1)
  where
    by : (asked : Option Asked) → IsSoOfDescribed P asked → IsSoOfDescribed Q asked
    by None is = tt
    by (Some (Describing d)) is = so d.name is
    by (Some (Performing p)) is = tt
    by (Some (Releasing number)) is = tt

-- the files, with names that stand for something else
abbrev pub with_names : ExactFiles → (List ℕ → Named) → ExactFiles
with_names files named = record { file = files.file; opened = files.opened; named = named }

-- a name stands for the same in both
abbrev pub IsSame : (List ℕ → Named) → ExactFiles → List ℕ → Type 0
IsSame named files name = named name ≡ files.named name

-- where it is so before, it is so behind
abbrev StaysSame : (named : List ℕ → Named) → ExactFiles → (left : List ℕ → Named) → ExactFiles → Type 0
StaysSame named old left new = (name : List ℕ) → IsSame named old name → IsSame left new name

-- files that are the same but for what names stand for
as_before : (old new : ExactFiles) (named : List ℕ → Named) → new ≡ old → with_names new named ≡ with_names old named
as_before old new named same = ap (λ (files : ExactFiles). with_names files named) same

names_stay : (old new : ExactFiles) (named : List ℕ → Named) → new.named ≡ old.named → StaysSame named old named new
names_stay old new named same name is = is ∙ sym (ap (λ (n : List ℕ → Named). n name) same)

free_with : (files : ExactFiles) (named : List ℕ → Named) (number : ℕ) → IsFree files number → IsFree (with_names files named) number
free_with files named number free = record { below = free.below; free = free.free }

free_of : (files : ExactFiles) (named : List ℕ → Named) (number : ℕ) → IsFree (with_names files named) number → IsFree files number
free_of files named number free = record { below = free.below; free = free.free }

named_with : (files : ExactFiles) (named : List ℕ → Named) (name : List ℕ) → HasNamed files name → HasNamed (with_names files named) name
named_with files named name has = record { number = has.number; file = has.file; at = has.at; name_is = has.name_is }

named_without : (files : ExactFiles) (named : List ℕ → Named) (name : List ℕ) → HasNamed (with_names files named) name → HasNamed files name
named_without files named name has = record { number = has.number; file = has.file; at = has.at; name_is = has.name_is }

refuses_with : (d : Described) (files : ExactFiles) (named : List ℕ → Named) (why : RequestRefusal) → RefusesExactly d files why → RefusesExactly d (with_names files named) why
refuses_with d files named refusal.NoRequest a = absurd a
refuses_with d files named refusal.TooLong a = absurd a
refuses_with d files named refusal.Number a = λ free. a (free_of files named d.file free)
refuses_with d files named refusal.Description a = (free_with files named d.file a.0, a.1)
refuses_with d files named refusal.Name a = (free_with files named d.file a.0, a.1, named_with files named d.name a.2)
refuses_with d files named refusal.Open a = absurd a
refuses_with d files named refusal.Memory a = absurd a
refuses_with d files named refusal.Key a = absurd a

describes_with : (d : Described) (old new : ExactFiles) (named : List ℕ → Named) → IsSame named old d.name → DescribesExactly d old new → DescribesExactly d (with_names old named) (with_names new named)
describes_with d old new named same a = record {
  free = free_with old named d.file a.free;
  file = a.file;
  name = λ has. a.name (named_without old named d.name has);
  files =
      ap (λ (files : ExactFiles). with_names files named) a.files
      ∙ ap (λ (n : Named). with_names (with_exact old d.file (Some (exact_described (λ name. n) d))) named) (sym same);
}

-- what names stand for behind a verb on this file
abbrev named_behind : Performed → ExactFile → (List ℕ → Named) → List ℕ → Named
named_behind p file named name = if bytes_eq file.name name then (exact_outcome p file).next.named else named name

performs_with : (p : Performed) (old : ExactFiles) (status : Status) (bytes : List ℕ) (new : ExactFiles) (named : List ℕ → Named) (a : PerformsExactly p old status bytes new)
    → PerformsExactly p (with_names old named) status bytes (with_names new (named_behind p a.file named))
performs_with p old status bytes new named a = record {
  file = a.file;
  at = a.at;
  status_is = a.status_is;
  bytes_are = a.bytes_are;
  files = ap (λ (files : ExactFiles). with_names files (named_behind p a.file named)) a.files;
}

behind_same : (p : Performed) (old : ExactFiles) (status : Status) (bytes : List ℕ) (new : ExactFiles) (named : List ℕ → Named) (a : PerformsExactly p old status bytes new)
    → StaysSame named old (named_behind p a.file named) new
behind_same p old status bytes new named a name is =
    ap (λ (n : Named). if bytes_eq a.file.name name then (exact_outcome p a.file).next.named else n) is
    ∙ sym (ap (λ (files : ExactFiles). files.named name) a.files)

-- ---- a request

-- the same answer from other names, which leaves them the same where they were
abbrev AnswersElsewhere : Option Asked → ExactFiles → Told → ExactFiles → (List ℕ → Named) → Type 0
AnswersElsewhere asked old told new named =
    (left : List ℕ → Named) × AnswersExactly asked (with_names old named) told (with_names new left) × StaysSame named old left new

answers_with : (asked : Option Asked) (told : Told) (old new : ExactFiles) (named : List ℕ → Named) → IsSoOfDescribed (IsSame named old) asked → AnswersExactly asked old told new
    → AnswersElsewhere asked old told new named
answers_with None told old new named same a = (named, (a.0, as_before old new named a.1), names_stay old new named (ap (λ (f : ExactFiles). f.named) a.1))
answers_with (Some (Describing d)) Does old new named same a =
    (named, describes_with d old new named same a, names_stay old new named (ap (λ (f : ExactFiles). f.named) a.files))
answers_with (Some (Describing d)) (Refuses why) old new named same a =
    (named, (refuses_with d old named why a.0, as_before old new named a.1), names_stay old new named (ap (λ (f : ExactFiles). f.named) a.1))
answers_with (Some (Describing d)) (Tells status bytes) old new named same a = absurd a
answers_with (Some (Performing p)) Does old new named same a = absurd a
answers_with (Some (Performing p)) (Refuses why) old new named same a =
    (named, (a.0, as_before old new named a.1), names_stay old new named (ap (λ (f : ExactFiles). f.named) a.1))
answers_with (Some (Performing p)) (Tells status bytes) old new named same a =
    (named_behind p a.1.file named, (a.0, performs_with p old status bytes new named a.1), behind_same p old status bytes new named a.1)
answers_with (Some (Releasing number)) Does old new named same a =
    (named, (a.0, ap (λ (f : ExactFiles). with_names f named) a.1), names_stay old new named (ap (λ (f : ExactFiles). f.named) a.1))
answers_with (Some (Releasing number)) (Refuses why) old new named same a =
    (named, (a.0, as_before old new named a.1), names_stay old new named (ap (λ (f : ExactFiles). f.named) a.1))
answers_with (Some (Releasing number)) (Tells status bytes) old new named same a = absurd a

-- ---- requests, and closes

pub serves_with : (exchanges : List Exchange) (old new : ExactFiles) (named : List ℕ → Named) → IsSoOfAllDescribed (IsSame named old) exchanges → ServesExactly old exchanges new
    → (left : List ℕ → Named) × ServesExactly (with_names old named) exchanges (with_names new left) × StaysSame named old left new
serves_with [] old new named same is = (named, as_before old new named is, names_stay old new named (ap (λ (f : ExactFiles). f.named) is))
serves_with (e ∷ rest) old new named same (between, answers, more) =
    let one = answers_with (request_in e.body) e.told old between named same.0 answers in
    let others = serves_with rest between new one.0 (described_weaker (IsSame named old) (IsSame one.0 between) one.2 rest same.1) more in
    (others.0, (with_names between one.0, one.1, others.1), λ name is. others.2 name (one.2 name is))

pub closes_with : (statuses : List Status) (old new : ExactFiles) (named : List ℕ → Named) → ClosesExactly old statuses new
    → (left : List ℕ → Named) × ClosesExactly (with_names old named) statuses (with_names new left) × StaysSame named old left new
closes_with [] old new named (none, is) = (named, (none, as_before old new named is), names_stay old new named (ap (λ (f : ExactFiles). f.named) is))
closes_with (status ∷ rest) old new named (first, more, opened, between, performs, closes) =
    let request = close_request first in
    let others = closes_with rest between new (named_behind request performs.file named) closes in (
      others.0,
      (first, more, opened, with_names between (named_behind request performs.file named), performs_with request old status [] between named performs, others.1),
      λ name is. others.2 name (behind_same request old status [] between named performs name is),
    )
