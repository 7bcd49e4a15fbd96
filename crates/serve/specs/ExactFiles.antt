-- What the definitions give for requests in order, and what they leave, with no library. All of this
-- is ours.
use Rattle.std.specs.Prelude.{◌≡◌, ◌<◌, ℕ, not, List, [], ◌∷◌, ◌++◌, length, drop, replicate}
use Rattle.std.specs.Prelude.{eqb, bytes_eq, nat_lt, Option, Some, None, is_some, unwrap_or}
use Rattle.std.specs.Prelude.{if◌then◌else◌}
use Rattle.io_state.specs.declared.status.Status.{Status}
use Rattle.indexed_file.specs.World.{Named}
use Rattle.serve.specs.Answer.{Told, Refuses, Does, Tells}
use Rattle.serve.specs.Reading.{request_in}
use Rattle.serve.specs.Request.{Described, Performed, Asked, Describing, Performing, Releasing}
use Rattle.serve.specs.declared.request_refusal.RequestRefusal.{RequestRefusal}
use Rattle.serve.specs.declared.request_refusal.RequestRefusal.TheVariants as refusal
use Rattle.verbs.specs.Connector.{FileState, Outcome, closed_connector}
use Rattle.verbs.specs.Verbs.{perform}
use Rattle.serve.specs.Files.{number_limit, order_after}
use Rattle.serve.specs.Steps.{CanBeFile, schema_described, is_of_keys, close_request}
use Rattle.serve.specs.Serving.{Exchange}

-- a described file: its name, and its state
pub record ExactFile : Type 0 where
  pub name : List ℕ
  pub state : FileState

-- the file of each number, the numbers of the open files in the order of opening, and what each name
-- stands for
pub record ExactFiles : Type 0 where
  pub file : ℕ → Option ExactFile
  pub opened : List ℕ
  pub named : List ℕ → Named

-- no file is described
abbrev pub exact_at_start : (List ℕ → Named) → ExactFiles
exact_at_start named = record { file = λ number. None; opened = []; named = named }

-- the files with another one of this number
abbrev pub with_exact : ExactFiles → ℕ → Option ExactFile → ExactFiles
with_exact files number place =
    record files { file = λ other. if eqb other number then place else files.file other }

-- ---- a description

-- the number is one of a session, and of no file
pub record IsFree (files : ExactFiles) (number : ℕ) : Type 0 where
  pub below : number < number_limit
  pub free : files.file number ≡ None

-- a file has the name
pub record HasNamed (files : ExactFiles) (name : List ℕ) : Type 0 where
  pub number : ℕ
  pub file : ExactFile
  pub at : files.file number ≡ Some file
  pub name_is : file.name ≡ name

-- the file of a description is closed, and its record area all spaces
abbrev pub exact_described : (List ℕ → Named) → Described → ExactFile
exact_described named d = record {
  name = d.name;
  state = record {
    connector = closed_connector d.access d.optional (schema_described d);
    named = named d.name;
    file = None;
    area = replicate d.greatest 32;
  };
}

pub record DescribesExactly (d : Described) (old new : ExactFiles) : Type 0 where
  pub free : IsFree old d.file
  pub file : CanBeFile d
  pub name : HasNamed old d.name → ⊥
  pub files : new ≡ with_exact old d.file (Some (exact_described old.named d))

-- why a description is refused: the first that is amiss
abbrev pub RefusesExactly : Described → ExactFiles → RequestRefusal → Type 0
RefusesExactly d old refusal.Number = IsFree old d.file → ⊥
RefusesExactly d old refusal.Description = IsFree old d.file × (CanBeFile d → ⊥)
RefusesExactly d old refusal.Name = IsFree old d.file × CanBeFile d × HasNamed old d.name
RefusesExactly d old _ = ⊥

-- ---- a verb

-- why it is refused, if it is
abbrev pub exact_refusal : Option ExactFile → Performed → Option RequestRefusal
exact_refusal None p = Some refusal.Number
exact_refusal (Some file) p =
    if not (is_of_keys file.state.connector.schema p.statement) then Some refusal.Key
    else if nat_lt (length file.state.area) (length p.bytes) then Some refusal.NoRequest
    else None

-- what it answers and leaves of its file, when the bytes of the request were put into the area
abbrev pub exact_outcome : Performed → ExactFile → Outcome
exact_outcome p file = perform p.statement p.length
    (record file.state { area = p.bytes ++ drop (length p.bytes) file.state.area })

-- what it leaves: its file, the order of opening, and what the name of the file stands for
abbrev pub after_verb : Performed → ExactFile → ExactFiles → ExactFiles
after_verb p file old =
    let next = (exact_outcome p file).next in
    record {
      file = λ other. if eqb other p.file then Some (record { name = file.name; state = next }) else old.file other;
      opened = order_after p.file (is_some next.connector.session) old.opened;
      named = λ name. if bytes_eq file.name name then next.named else old.named name;
    }

pub record PerformsExactly (p : Performed) (old : ExactFiles) (status : Status) (bytes : List ℕ)
    (new : ExactFiles) : Type 0 where
  pub file : ExactFile
  pub at : old.file p.file ≡ Some file
  pub status_is : status ≡ (exact_outcome p file).status
  pub bytes_are : bytes ≡ unwrap_or (exact_outcome p file).delivered []
  pub files : new ≡ after_verb p file old

-- ---- a release

abbrev pub exact_release : Option ExactFile → Option RequestRefusal
exact_release None = Some refusal.Number
exact_release (Some file) = if is_some file.state.connector.session then Some refusal.Open else None

-- ---- a session

-- the answer to a request is the one that the definitions give, and so is what it leaves
abbrev pub AnswersExactly : Option Asked → ExactFiles → Told → ExactFiles → Type 0
AnswersExactly None old told new = (told ≡ Refuses refusal.NoRequest) × (new ≡ old)
AnswersExactly (Some (Describing d)) old Does new = DescribesExactly d old new
AnswersExactly (Some (Describing d)) old (Refuses why) new = RefusesExactly d old why × (new ≡ old)
AnswersExactly (Some (Describing d)) old (Tells status bytes) new = ⊥
AnswersExactly (Some (Performing p)) old Does new = ⊥
AnswersExactly (Some (Performing p)) old (Refuses why) new =
    (exact_refusal (old.file p.file) p ≡ Some why) × (new ≡ old)
AnswersExactly (Some (Performing p)) old (Tells status bytes) new =
    (exact_refusal (old.file p.file) p ≡ None) × PerformsExactly p old status bytes new
AnswersExactly (Some (Releasing number)) old Does new =
    (exact_release (old.file number) ≡ None) × (new ≡ with_exact old number None)
AnswersExactly (Some (Releasing number)) old (Refuses why) new =
    (exact_release (old.file number) ≡ Some why) × (new ≡ old)
AnswersExactly (Some (Releasing number)) old (Tells status bytes) new = ⊥

abbrev pub ServesExactly : ExactFiles → List Exchange → ExactFiles → Type 0
ServesExactly old [] new = new ≡ old
ServesExactly old (e ∷ rest) new =
    (between : ExactFiles) × AnswersExactly (request_in e.body) old e.told between × ServesExactly between rest new

-- the open files are closed, the one that was opened first at first
abbrev pub ClosesExactly : ExactFiles → List Status → ExactFiles → Type 0
ClosesExactly old [] new = (old.opened ≡ []) × (new ≡ old)
ClosesExactly old (status ∷ rest) new =
    (first : ℕ) × (more : List ℕ) × (old.opened ≡ first ∷ more) × (between : ExactFiles)
    × PerformsExactly (close_request first) old status [] between × ClosesExactly between rest new

-- the requests were answered so from where no file was described and names stood for this, and then
-- the open files were closed so, which leaves these files
pub record EndsExactly (named : List ℕ → Named) (exchanges : List Exchange) (closes : List Status)
    (end : ExactFiles) : Type 0 where
  pub last : ExactFiles
  pub serves : ServesExactly (exact_at_start named) exchanges last
  pub closed : ClosesExactly last closes end
