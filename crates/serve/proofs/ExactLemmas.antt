-- A session without a fault is exact.
use Rattle.std.proofs.Common.{◌≡◌, ◌≢◌, ◌⊎◌, inl, inr, ℕ, zero, suc, ◌<◌, ◌≤◌, ◌||◌, ◌&&◌, Bool, true, false, not, List, [], ◌∷◌, ◌++◌, map, length, drop, slice_set, slice_index_or, nat_lt, eqb, bytes_eq, Option, Some, None, is_some, is_none, unwrap_or, replicate, IsTrue, Ok, Result, refl, sym, ap, subst, ◌∙◌, arith, if◌then◌else◌, true≢false}
use Rattle.std.specs.List.{list_any}
use Rattle.std.specs.Option.{option_map}
use Rattle.std.proofs.lemmas.Bool.{cases_eq, ne_eqb, ltb-true, ltb-false, and_from}
use Rattle.std.proofs.lemmas.Cmp.{nat_eq_equiv, nat_list_eq_equiv}
use Rattle.std.proofs.lemmas.List.{get_or-set_same, get_or-set_other}
use Rattle.std.proofs.lemmas.Slice.Eq.{bytes_eq-Decides}
use Rattle.io_state.specs.declared.status.Status.{Status}
use Rattle.indexed_file.specs.Shown.{Shown}
use Rattle.indexed_file.specs.Calls.{Keeps}
use Rattle.indexed_file.specs.Moments.{JoinsStretches, EndsNow}
use Rattle.indexed_file.specs.World.{World, FileUnit, Named, Absent, Holding, Shut, Looked, Opened, Broken, OnlyAt, unit_at, name_at, named_at, holding_at, named_in, is_open, file_in}
use Rattle.indexed_file.specs.File.{File}
use Rattle.indexed_file.proofs.TestLemmas.{either}
use Rattle.verbs.specs.declared.answer.Answer.{Answer}
use Rattle.verbs.specs.Connector.{FileState, Outcome}
use Rattle.verbs.specs.Faults.{is_unclean}
use Rattle.verbs.specs.Held.{state_of, record_delivered, silent}
use Rattle.verbs.specs.Performed.{IsPerformed, state_in}
use Rattle.verbs.specs.Verbs.{perform}
use Rattle.deck_runner.specs.Running.{unit_names}
use Rattle.deck_runner.proofs.CleanLemmas.{clean_step}
use Rattle.deck_runner.proofs.FrameLemmas.{unit_elsewhere}
use Rattle.serve.specs.Answer.{Told, Refuses, Does, Tells}
use Rattle.serve.specs.Reading.{request_in}
use Rattle.serve.specs.Request.{Described, Performed, Asked, Describing, Performing, Releasing}
use Rattle.serve.specs.declared.request_refusal.RequestRefusal.{RequestRefusal}
use Rattle.serve.specs.declared.request_refusal.RequestRefusal.TheVariants as refusal
use Rattle.serve.specs.Files.{number_limit, NumberedFile, FileTable, Files, file_of_number, is_open_file, is_free_number, is_named_file, has_file_name, order_after, memory_of, files_at_start}
use Rattle.serve.specs.Steps.{PerformsRequest, Describes, GivesUnit, AddsLast, IsShutUnit, Releases, RefusesDescription, ClosesFirst, refusal_by, refusal_of_file, file_described, with_bytes, record_by, close_request}
use Rattle.serve.proofs.CallLemmas.{not_named, free_below, free_none}
use Rattle.serve.proofs.UnitLemmas.{unit_in_front, unit_behind}
use Rattle.serve.specs.Answers.{AnswersRequest}
use Rattle.serve.specs.ExactFiles.{ExactFile, ExactFiles, exact_at_start, with_exact, IsFree, HasNamed, exact_described, DescribesExactly, RefusesExactly, exact_refusal, exact_outcome, after_verb, PerformsExactly, exact_release, AnswersExactly, ServesExactly, ClosesExactly}
use Rattle.serve.specs.ExactSession.{file_in_session, place_in_session, files_in_session, is_clean_answer, AreCleanAnswers, AreCleanCloses, IsSoOfDescribed, IsSoOfAllDescribed}
use Rattle.serve.specs.Ledgers.{JudgedFiles, none_judged, WereTrue}
use Rattle.serve.specs.NoFalseFile.{LedgersGo, LedgersStay}
use Rattle.serve.specs.Serving.{Exchange, Serving, ClosesAllFiles}
use Rattle.serve.proofs.LedgerLemmas.{IsKept, AllKept, within_places, none_kept}
use Rattle.serve.proofs.NamedLemmas.{AreApart, apart_more, new_among_names, name_here, apart_after, named_after}
use Rattle.serve.proofs.NoFalseFileLemmas.{answered, goes_on}
use Rattle.serve.proofs.TruthLemmas.{serving_keeps, closes_keep}

abbrev no_unit : FileUnit
no_unit = record { name = []; named = Absent; holding = Shut }

-- ---- the files as the library shows them

-- a file whose unit is as it was
stays_exact : (old new : World) (file : NumberedFile) → unit_at new file.unit ≡ unit_at old file.unit → file_in_session new file ≡ file_in_session old file
stays_exact old new file same =
    ap (λ (unit : FileUnit). let f : ExactFile = record { name = file.name; state = record { connector = file.held.connector; named = unit.named; file = file_in unit.holding; area = file.area } } in f) same

-- files with the same parts
same_files : (a b : ExactFiles) → ((n : ℕ) → a.file n ≡ b.file n) → a.opened ≡ b.opened → ((name : List ℕ) → a.named name ≡ b.named name) → a ≡ b
same_files a b file opened named = λ i. record { file = λ n. file n i; opened = opened i; named = λ name. named name i }

here_exact : (files : ExactFiles) (n number : ℕ) (place : Option ExactFile) → n ≡ number → (with_exact files number place).file n ≡ place
here_exact files n number place same =
    ap (λ (b : Bool). if b then place else files.file n) (ap (λ (k : ℕ). eqb k number) same ∙ nat_eq_equiv.refl number)

there_exact : (files : ExactFiles) (n number : ℕ) (place : Option ExactFile) → n ≢ number → (with_exact files number place).file n ≡ files.file n
there_exact files n number place apart = ap (λ (b : Bool). if b then place else files.file n) (ne_eqb n number apart)

-- a place that shows a file has one
place_known : (world : World) (place : Option NumberedFile) (shown : ExactFile) → place_in_session world place ≡ Some shown → (file : NumberedFile) × (place ≡ Some file) × (file_in_session world file ≡ shown)
place_known world None shown is = absurd (cc)
place_known world (Some file) shown is = (file, refl, cc)

refusal_exact : (world : World) (p : Performed) (place : Option NumberedFile) → exact_refusal (place_in_session world place) p ≡ refusal_by place p
refusal_exact world p None = refl
refusal_exact world p (Some file) = refl

release_exact : (world : World) (place : Option NumberedFile) → exact_release (place_in_session world place) ≡ refusal_of_file place
release_exact world None = refl
release_exact world (Some file) = refl

none_exact : (world : World) (place : Option NumberedFile) → place ≡ None → place_in_session world place ≡ None
none_exact world place is = ap (place_in_session world) is

shut_file : (holding : Holding) → is_open holding ≡ false → file_in holding ≡ None
shut_file Shut closed = refl
shut_file (Looked schema) closed = refl
shut_file (Opened schema file) closed = absurd (true≢false closed)
shut_file (Broken schema) closed = refl

-- a file that has a name, where one is told to have it
named_place : (places : List (Option NumberedFile)) (name : List ℕ) → list_any (has_file_name name) places ≡ true
    → (n : ℕ) × (file : NumberedFile) × (slice_index_or places n None ≡ Some file) × (bytes_eq name file.name ≡ true)
named_place [] name any = absurd (true≢false (sym any))
named_place (None ∷ places) name any = let more = named_place places name any in (suc more.0, more.1, more.2, more.3)
named_place (Some file ∷ places) name any = by (bytes_eq name file.name) refl (λ later. named_place places name later)
  where
    by : (b : Bool) → bytes_eq name file.name ≡ b
        → (list_any (has_file_name name) places ≡ true → (n : ℕ) × (other : NumberedFile) × (slice_index_or places n None ≡ Some other) × (bytes_eq name other.name ≡ true))
        → (n : ℕ) × (other : NumberedFile) × (slice_index_or (Some file ∷ places) n None ≡ Some other) × (bytes_eq name other.name ≡ true)
    by true hit search_on = (0, file, refl, hit)
    by false miss search_on =
        let more = search_on (sym (ap (λ (b : Bool). b || list_any (has_file_name name) places) miss) ∙ any) in (suc more.0, more.1, more.2, more.3)

is_none_of : {A : Type 0} (place : Option A) → place ≡ None → is_none place ≡ true
is_none_of place is = ap is_none is

lt_true : (a b : ℕ) → a < b → nat_lt a b ≡ true
lt_true a b below = either (nat_lt a b) _ (λ yes. yes) (λ miss. let past = ltb-false a b miss in absurd (omega (arith, below, past)))

place_none : (world : World) (place : Option NumberedFile) → place_in_session world place ≡ None → place ≡ None
place_none world None is = refl
place_none world (Some file) is = absurd (cc)

record_none : (place : Option NumberedFile) → record_by place None ≡ []
record_none None = refl
record_none (Some file) = refl

names_more : (units : List FileUnit) (one : FileUnit) → map (λ (x : FileUnit). x.name) (units ++ one ∷ []) ≡ map (λ (x : FileUnit). x.name) units ++ one.name ∷ []
names_more [] one = refl
names_more (x ∷ units) one = ap (λ (names : List (List ℕ)). x.name ∷ names) (names_more units one)

empty_at : (count number : ℕ) → slice_index_or (replicate {A = Option NumberedFile} count None) number None ≡ None
empty_at zero number = refl
empty_at (suc count) zero = refl
empty_at (suc count) (suc number) = empty_at count number

module _ {S : Type 0} (shown : Shown S) (joins : JoinsStretches shown.moments) (ends : EndsNow shown.moments) (start : S) (keeps_open : S → ℕ → Bool) where
  abbrev world_at : Files S → World
  world_at files = shown.world files.library

  -- ---- a verb

  module _ (p : Performed) (old : JudgedFiles S) (new : Files S) (answer : Answer) (kept : AllKept shown start old) (does : PerformsRequest shown p old.files answer new)
      (apart : AreApart (unit_names (shown.world old.files.library))) (honest : IsTrue (shown.is_honest new.library)) (were : WereTrue shown start old.names)
      (clean : not (is_unclean p.statement answer.status) ≡ true) where
    abbrev file : NumberedFile
    file = does.before

    had : IsKept shown start old does.before
    had = kept.each p.file does.before does.file

    performed : IsPerformed shown does.before.unit p.statement p.length (with_bytes p.bytes (memory_of old.files.library does.before)) answer (memory_of new.library does.after)
    performed = does.does.performed

    abbrev shown_outcome : Outcome
    shown_outcome = record {
      status = answer.status;
      delivered = record_delivered does.after.area answer.length;
      next = state_in shown does.before.unit (memory_of new.library does.after);
    }

    exactly : exact_outcome p (file_in_session (world_at old.files) does.before) ≡ shown_outcome
    exactly =
        clean_step p.statement p.length (state_in shown does.before.unit (with_bytes p.bytes (memory_of old.files.library does.before))) shown_outcome clean
        (performed.step honest
        (subst (λ (n : List ℕ). shown.IsShownTruly old.files.library n) (sym had.name) (kept.truly (performed.keeps.honest honest) does.before.name (were does.before.name had.described)))
        (had.standing (performed.keeps.honest honest) were))

    after_here : file_of_number new.table p.file ≡ Some does.after
    after_here =
        ap (λ (places : List (Option NumberedFile)). slice_index_or places p.file None) does.places
        ∙ get_or-set_same old.files.table.places p.file (Some does.after) None (within_places old.files.table.places p.file does.before does.file)

    other_there : (n : ℕ) → n ≢ p.file → file_of_number new.table n ≡ file_of_number old.files.table n
    other_there n far = ap (λ (places : List (Option NumberedFile)). slice_index_or places n None) does.places ∙ get_or-set_other old.files.table.places p.file n (Some does.after) None far

    abbrev model : ExactFiles
    model = after_verb p (file_in_session (world_at old.files) does.before) (files_in_session shown old.files)

    this_file : file_in_session (world_at new) does.after ≡ record { name = does.before.name; state = (exact_outcome p (file_in_session (world_at old.files) does.before)).next }
    this_file =
        (λ i. let f : ExactFile = record { name = does.does.name i; state = state_of does.after.held (world_at new) (does.does.unit i) does.after.area } in f)
        ∙ ap (λ (o : Outcome). let f : ExactFile = record { name = does.before.name; state = o.next } in f) (sym exactly)

    other_file : (n : ℕ) → n ≢ p.file → (place : Option NumberedFile) → file_of_number old.files.table n ≡ place → place_in_session (world_at new) place ≡ place_in_session (world_at old.files) place
    other_file n far None is = refl
    other_file n far (Some other) is =
        ap Some (stays_exact (world_at old.files) (world_at new) other
        (unit_elsewhere (world_at old.files) (world_at new) does.before.unit other.unit performed.only (λ same. far (kept.apart n p.file other does.before is does.file same))))

    file_now : (n : ℕ) → (n ≡ p.file) ⊎ (n ≢ p.file) → (files_in_session shown new).file n ≡ model.file n
    file_now n (inl same) =
        ap (place_in_session (world_at new)) (ap (file_of_number new.table) same ∙ after_here) ∙ ap Some this_file
        ∙ sym (here_exact (files_in_session shown old.files) n p.file _ same)
    file_now n (inr far) =
        ap (place_in_session (world_at new)) (other_there n far) ∙ other_file n far (file_of_number old.files.table n) refl
        ∙ sym (there_exact (files_in_session shown old.files) n p.file _ far)

    opened_now : new.table.opened ≡ model.opened
    opened_now =
        does.opened
        ∙ ap (λ (o : Outcome). order_after p.file (is_some o.next.connector.session) old.files.table.opened) (sym exactly)

    named_now : (name : List ℕ) → named_in (world_at new) name ≡ model.named name
    named_now name =
        named_after (world_at old.files) (world_at new) does.before.unit performed.only apart had.attached name
        ∙ ap (λ (n : List ℕ). if bytes_eq n name then named_at (world_at new) does.before.unit else named_in (world_at old.files) name) had.name
        ∙ ap (λ (o : Outcome). if bytes_eq does.before.name name then o.next.named else named_in (world_at old.files) name) (sym exactly)

    pub verb_exact : PerformsExactly p (files_in_session shown old.files) answer.status (record_by (file_of_number new.table p.file) answer.length) (files_in_session shown new)
    verb_exact = record {
      file = file_in_session (world_at old.files) does.before;
      at = ap (place_in_session (world_at old.files)) does.file;
      status_is = ap (λ (o : Outcome). o.status) (sym exactly);
      bytes_are = ap (λ (place : Option NumberedFile). record_by place answer.length) after_here ∙ ap (λ (o : Outcome). unwrap_or o.delivered []) (sym exactly);
      files = same_files (files_in_session shown new) model (λ n. file_now n (cases_eq n p.file)) opened_now named_now;
    }

    pub verb_apart : AreApart (unit_names (world_at new))
    verb_apart = apart_after (world_at old.files) (world_at new) does.before.unit performed.only apart

  -- ---- a description

  -- what is known of a library that has given a unit
  record Given (d : Described) (u : ℕ) (old : Files S) (library : S) : Type 0 where
    pub named : (name : List ℕ) → named_in (shown.world library) name ≡ named_in (world_at old) name
    pub here : named_at (shown.world library) u ≡ named_in (world_at old) d.name
    pub others : (v : ℕ) → v < length (world_at old).units → unit_at (shown.world library) v ≡ unit_at (world_at old) v
    pub apart : AreApart (unit_names (shown.world library))

  given_known : (d : Described) (u : ℕ) (old : Files S) (library : S) → AreApart (unit_names (world_at old)) → GivesUnit shown keeps_open d.name u old.library library → Given d u old library
  given_known d u old library apart gives = by gives.from gives.unit
    where
      by : (library ≡ old.library) ⊎ AddsLast shown keeps_open d.name u old.library library → IsShutUnit (shown.world library) u d.name → Given d u old library
      by (inl same) =
          subst (λ (l : S). IsShutUnit (shown.world l) u d.name → Given d u old l) (sym same) (λ unit. record {
            named = λ name. refl;
            here = sym (name_here (world_at old).units (world_at old).elsewhere u apart unit.attached) ∙ ap (named_in (world_at old)) unit.name_is;
            others = λ v within. refl;
            apart = apart;
          })
      by (inr last) = λ unit. record {
        named = last.adds.named;
        here =
            ap (λ (v : ℕ). named_at (shown.world library) v) last.last
            ∙ ap (λ (us : List FileUnit). (slice_index_or us (length (world_at old).units) no_unit).named) last.adds.units
            ∙ ap (λ (x : FileUnit). x.named) (unit_behind (world_at old).units _);
        others = λ v within. ap (λ (us : List FileUnit). slice_index_or us v no_unit) last.adds.units ∙ unit_in_front (world_at old).units _ v within;
        apart = subst AreApart (sym (ap (λ (us : List FileUnit). map (λ (x : FileUnit). x.name) us) last.adds.units ∙ names_more (world_at old).units _))
            (apart_more (unit_names (world_at old)) d.name apart (new_among_names (world_at old).units d.name last.is_new));
      }

  module _ (d : Described) (old : JudgedFiles S) (new : Files S) (kept : AllKept shown start old) (does : Describes shown keeps_open d old.files new)
      (apart : AreApart (unit_names (shown.world old.files.library))) where
    known : Given d does.unit old.files new.library
    known = given_known d does.unit old.files new.library apart does.gives

    below : d.file < number_limit
    below = free_below old.files.table d.file does.allowed.free

    new_here : file_of_number new.table d.file ≡ Some (file_described d does.unit)
    new_here =
        ap (λ (table : FileTable). file_of_number table d.file) does.table
        ∙ get_or-set_same old.files.table.places d.file (Some (file_described d does.unit)) None (omega (arith, below, kept.places))

    old_there : (n : ℕ) → n ≢ d.file → file_of_number new.table n ≡ file_of_number old.files.table n
    old_there n far =
        ap (λ (table : FileTable). file_of_number table n) does.table
        ∙ get_or-set_other old.files.table.places d.file n (Some (file_described d does.unit)) None far

    new_exact : file_in_session (world_at new) (file_described d does.unit) ≡ exact_described (named_in (world_at old.files)) d
    new_exact =
        let named = known.here in
        let none = shut_file (holding_at (world_at new) does.unit) does.gives.unit.shut in
        λ i. record {
          name = d.name;
          state = record { connector = (file_described d does.unit).held.connector; named = named i; file = none i; area = (file_described d does.unit).area };
        }

    other_described : (n : ℕ) (place : Option NumberedFile) → file_of_number old.files.table n ≡ place → place_in_session (world_at new) place ≡ place_in_session (world_at old.files) place
    other_described n None is = refl
    other_described n (Some file) is =
        ap Some (stays_exact (world_at old.files) (world_at new) file (known.others file.unit (kept.each n file is).attached))

    described_now : (n : ℕ) → (n ≡ d.file) ⊎ (n ≢ d.file)
        → (files_in_session shown new).file n ≡ (with_exact (files_in_session shown old.files) d.file (Some (exact_described (named_in (world_at old.files)) d))).file n
    described_now n (inl same) =
        ap (place_in_session (world_at new)) (ap (file_of_number new.table) same ∙ new_here) ∙ ap Some new_exact
        ∙ sym (here_exact (files_in_session shown old.files) n d.file _ same)
    described_now n (inr far) =
        ap (place_in_session (world_at new)) (old_there n far) ∙ other_described n (file_of_number old.files.table n) refl
        ∙ sym (there_exact (files_in_session shown old.files) n d.file _ far)

    pub described_exact : DescribesExactly d (files_in_session shown old.files) (files_in_session shown new)
    described_exact = record {
      free = record { below = below; free = none_exact (world_at old.files) (file_of_number old.files.table d.file) (free_none old.files.table d.file does.allowed.free) };
      file = does.allowed.file;
      name = λ has.
          let one = place_known (world_at old.files) (file_of_number old.files.table has.number) has.file has.at in
          not_named old.files.table d.name has.number one.0 does.allowed.name one.1 (ap (λ (f : ExactFile). f.name) one.2 ∙ has.name_is);
      files = same_files (files_in_session shown new) _ (λ n. described_now n (cases_eq n d.file)) (ap (λ (table : FileTable). table.opened) does.table) known.named;
    }

    pub described_apart : AreApart (unit_names (world_at new))
    described_apart = known.apart

  -- a number that the definitions have free is told so
  is_free : (files : Files S) (number : ℕ) → IsFree (files_in_session shown files) number → is_free_number files.table number ≡ true
  is_free files number free =
      and_from _ _ (lt_true number number_limit free.below) (is_none_of (file_of_number files.table number) (place_none (world_at files) (file_of_number files.table number) free.free))

  free_exact : (files : Files S) (number : ℕ) → is_free_number files.table number ≡ true → IsFree (files_in_session shown files) number
  free_exact files number free = record {
    below = free_below files.table number free;
    free = none_exact (world_at files) (file_of_number files.table number) (free_none files.table number free);
  }

  named_exact : (files : Files S) (name : List ℕ) → is_named_file files.table name ≡ true → HasNamed (files_in_session shown files) name
  named_exact files name named =
      let one = named_place files.table.places name named in
      record { number = one.0; file = file_in_session (world_at files) one.1; at = ap (place_in_session (world_at files)) one.2; name_is = sym ((bytes_eq-Decides name one.1.name).0 one.3) }

  refused_exact : (d : Described) (files : Files S) (why : RequestRefusal) → RefusesDescription files.table d why → is_clean_answer (Some (Describing d)) (Refuses why) ≡ true → RefusesExactly d (files_in_session shown files) why
  refused_exact d files refusal.NoRequest a clean = absurd a
  refused_exact d files refusal.TooLong a clean = absurd a
  refused_exact d files refusal.Number a clean = λ free. true≢false (sym (is_free files d.file free) ∙ a)
  refused_exact d files refusal.Description a clean = (free_exact files d.file a.0, a.1)
  refused_exact d files refusal.Name a clean = (free_exact files d.file a.0, a.1, named_exact files d.name a.2)
  refused_exact d files refusal.Open a clean = absurd a
  refused_exact d files refusal.Memory a clean = absurd (true≢false (sym clean))
  refused_exact d files refusal.Key a clean = absurd a

  -- ---- a release

  released_exact : (number : ℕ) (old : JudgedFiles S) (new : Files S) → AllKept shown start old → Releases shown keeps_open number old.files new
      → (exact_release ((files_in_session shown old.files).file number) ≡ None) × (files_in_session shown new ≡ with_exact (files_in_session shown old.files) number None)
  released_exact number old new kept does = (
    release_exact (world_at old.files) (file_of_number old.files.table number) ∙ ap refusal_of_file does.was ∙ rw does.closed refl,
    same_files (files_in_session shown new) _ (λ n. by n (cases_eq n number)) (ap (λ (table : FileTable). table.opened) does.table) (λ name. ap (λ (w : World). named_in w name) does.stays.world),
  )
    where
      by : (n : ℕ) → (n ≡ number) ⊎ (n ≢ number) → (files_in_session shown new).file n ≡ (with_exact (files_in_session shown old.files) number None).file n
      by n (inl same) =
          ap (place_in_session (world_at new)) (ap (file_of_number new.table) same ∙ ap (λ (table : FileTable). file_of_number table number) does.table
          ∙ get_or-set_same old.files.table.places number None None (within_places old.files.table.places number does.file does.was))
          ∙ sym (here_exact (files_in_session shown old.files) n number None same)
      by n (inr far) =
          ap (place_in_session (world_at new)) (ap (λ (table : FileTable). file_of_number table n) does.table ∙ get_or-set_other old.files.table.places number n None None far)
          ∙ ap (λ (w : World). place_in_session w (file_of_number old.files.table n)) does.stays.world
          ∙ sym (there_exact (files_in_session shown old.files) n number None far)

  -- ---- a request

  abbrev Apart : Files S → Type 0
  Apart files = AreApart (unit_names (world_at files))

  abbrev Exactly : Option Asked → Told → Files S → Files S → Type 0
  Exactly asked told old new = AnswersExactly asked (files_in_session shown old) told (files_in_session shown new) × Apart new

  unchanged : (old new : Files S) → new ≡ old → Apart old → (files_in_session shown new ≡ files_in_session shown old) × Apart new
  unchanged old new same apart = (ap (files_in_session shown) same, subst Apart (sym same) apart)

  exact_step : (asked : Option Asked) (told : Told) (old : JudgedFiles S) (new : Files S) → AllKept shown start old → Apart old.files → AnswersRequest shown keeps_open asked old.files told new
      → IsTrue (shown.is_honest new.library) → WereTrue shown start old.names → is_clean_answer asked told ≡ true → Exactly asked told old.files new
  exact_step None told old new kept apart a honest were clean = let same = unchanged old.files new a.1 apart in ((a.0, same.0), same.1)
  exact_step (Some (Describing d)) Does old new kept apart a honest were clean = (described_exact d old new kept a apart, described_apart d old new kept a apart)
  exact_step (Some (Describing d)) (Refuses why) old new kept apart a honest were clean =
      let same = unchanged old.files new
      (a.1.same (λ is. true≢false (sym clean ∙ ap (λ (w : RequestRefusal). is_clean_answer (Some (Describing d)) (Refuses w)) is))) apart in
      ((refused_exact d old.files why a.0 clean, same.0), same.1)
  exact_step (Some (Describing d)) (Tells status bytes) old new kept apart a honest were clean = absurd a
  exact_step (Some (Performing p)) Does old new kept apart a honest were clean = absurd a
  exact_step (Some (Performing p)) (Refuses why) old new kept apart a honest were clean =
      let same = unchanged old.files new a.1 apart in
      ((refusal_exact (world_at old.files) p (file_of_number old.files.table p.file) ∙ a.0, same.0), same.1)
  exact_step (Some (Performing p)) (Tells status bytes) old new kept apart a honest were clean =
      let calm : not (is_unclean p.statement a.0.status) ≡ true = ap (λ (s : Status). not (is_unclean p.statement s)) (sym a.2) ∙ clean in (
        (
          refusal_exact (world_at old.files) p (file_of_number old.files.table p.file) ∙ a.4,
          subst (λ (s : Status). PerformsExactly p (files_in_session shown old.files) s bytes (files_in_session shown new)) (sym a.2)
              (subst (λ (l : List ℕ). PerformsExactly p (files_in_session shown old.files) a.0.status l (files_in_session shown new)) (sym a.3) (verb_exact p old new a.0 kept a.1 apart honest were calm)),
        ),
        verb_apart p old new a.0 kept a.1 apart honest were calm,
      )
  exact_step (Some (Releasing number)) Does old new kept apart a honest were clean =
      (released_exact number old new kept a, subst (λ (w : World). AreApart (unit_names w)) (sym a.stays.world) apart)
  exact_step (Some (Releasing number)) (Refuses why) old new kept apart a honest were clean =
      let same = unchanged old.files new a.1 apart in
      ((release_exact (world_at old.files) (file_of_number old.files.table number) ∙ a.0, same.0), same.1)
  exact_step (Some (Releasing number)) (Tells status bytes) old new kept apart a honest were clean = absurd a

  -- ---- the names that were described

  were_more : (name : List ℕ) (names : List (List ℕ)) → shown.IsShownTruly start name → WereTrue shown start names → WereTrue shown start (name ∷ names)
  were_more name names truly were other is =
      either (bytes_eq other name) (shown.IsShownTruly start other)
      (λ yes. subst (λ (n : List ℕ). shown.IsShownTruly start n) (sym ((bytes_eq-Decides other name).0 yes)) truly)
      (λ miss. were other (sym (ap (λ (b : Bool). b || list_any (bytes_eq other) names) miss) ∙ is))

  were_stay : (names : List (List ℕ)) (old after : JudgedFiles S) → LedgersStay shown start names old after → WereTrue shown start names → WereTrue shown start after.names
  were_stay names old after stays were = subst (λ (l : List (List ℕ)). WereTrue shown start l) (sym stays.names_are) were

  were_after : (asked : Option Asked) (told : Told) (old after : JudgedFiles S) → LedgersGo shown start asked told old after → WereTrue shown start old.names → IsSoOfDescribed (shown.IsShownTruly start) asked
      → WereTrue shown start after.names
  were_after None told old after goes were truly = were_stay old.names old after goes were
  were_after (Some (Describing d)) Does old after goes were truly = were_stay (d.name ∷ old.names) old after goes (were_more d.name old.names truly were)
  were_after (Some (Describing d)) (Refuses why) old after goes were truly = were_stay old.names old after goes were
  were_after (Some (Describing d)) (Tells status bytes) old after goes were truly = absurd goes
  were_after (Some (Performing p)) Does old after goes were truly = absurd goes
  were_after (Some (Performing p)) (Refuses why) old after goes were truly = were_stay old.names old after goes were
  were_after (Some (Performing p)) (Tells status bytes) old after goes were truly = subst (λ (l : List (List ℕ)). WereTrue shown start l) (sym goes.names_are) were
  were_after (Some (Releasing number)) Does old after goes were truly = were_stay old.names old after goes were
  were_after (Some (Releasing number)) (Refuses why) old after goes were truly = were_stay old.names old after goes were
  were_after (Some (Releasing number)) (Tells status bytes) old after goes were truly = absurd goes

  -- ---- a session

  -- a point of which all this is known
  pub record IsKnown (files : Files S) : Type 0 where
    pub judged : JudgedFiles S
    pub is : judged.files ≡ files
    pub kept : AllKept shown start judged
    pub apart : Apart judged.files
    pub were : WereTrue shown start judged.names

  pub serves_exact : (exchanges : List Exchange) (old new : Files S) → IsKnown old → Serving shown keeps_open old exchanges new → IsTrue (shown.is_honest new.library) → IsSoOfAllDescribed (shown.IsShownTruly start) exchanges
      → AreCleanAnswers exchanges → IsKnown new × ServesExactly (files_in_session shown old) exchanges (files_in_session shown new)
  serves_exact [] old new point same honest trues clean = (subst IsKnown (sym same) point, ap (files_in_session shown) same)
  serves_exact (e ∷ rest) old new point (between, answers, more) honest trues clean =
      let honest_then = (serving_keeps shown keeps_open rest between new more).honest honest in
      let from : AnswersRequest shown keeps_open (request_in e.body) point.judged.files e.told between =
      subst (λ (files : Files S). AnswersRequest shown keeps_open (request_in e.body) files e.told between) (sym point.is) answers in
      let went = answered shown joins ends start keeps_open (request_in e.body) e.told point.judged between point.kept from in
      let exactly = exact_step (request_in e.body) e.told point.judged between point.kept point.apart from honest_then point.were clean.0 in
      let next_point : IsKnown between = record {
        judged = went.0;
        is = went.1;
        kept = went.3;
        apart = subst Apart (sym went.1) exactly.1;
        were = were_after (request_in e.body) e.told point.judged went.0 went.2 point.were trues.0;
      } in
      let others = serves_exact rest between new next_point more honest trues.1 clean.1 in (
        others.0,
        (
          files_in_session shown between,
          subst (λ (files : Files S). AnswersExactly (request_in e.body) (files_in_session shown files) e.told (files_in_session shown between)) point.is exactly.0,
          others.1,
        ),
      )

  pub closes_exact : (statuses : List Status) (old new : Files S) → IsKnown old → ClosesAllFiles shown old statuses new → IsTrue (shown.is_honest new.library) → AreCleanCloses statuses
      → ClosesExactly (files_in_session shown old) statuses (files_in_session shown new)
  closes_exact [] old new point (none, same) honest clean = (none, ap (files_in_session shown) same)
  closes_exact (status ∷ rest) old new point (between, first, more) honest clean =
      let honest_then = (closes_keep shown rest between new more).honest honest in
      let from : PerformsRequest shown (close_request first.first) point.judged.files (silent status) between =
      subst (λ (files : Files S). PerformsRequest shown (close_request first.first) files (silent status) between) (sym point.is) first.closed in
      let went = goes_on shown joins ends start keeps_open (close_request first.first) point.judged between (silent status) point.kept from in
      let exactly = verb_exact (close_request first.first) point.judged between (silent status) point.kept from point.apart honest_then point.were clean.0 in
      let plain : PerformsExactly (close_request first.first) (files_in_session shown point.judged.files) status [] (files_in_session shown between) =
      subst (λ (l : List ℕ). PerformsExactly (close_request first.first) (files_in_session shown point.judged.files) status l (files_in_session shown between)) (record_none (file_of_number between.table first.first)) exactly in
      let next_point : IsKnown between = record {
        judged = went.0;
        is = went.1;
        kept = went.3;
        apart = subst Apart (sym went.1)
            (verb_apart (close_request first.first) point.judged between (silent status) point.kept from point.apart honest_then point.were clean.0);
        were = subst (λ (l : List (List ℕ)). WereTrue shown start l) (sym went.2.names_are) point.were;
      } in (
        first.first,
        first.rest,
        first.was,
        files_in_session shown between,
        subst (λ (files : Files S). PerformsExactly (close_request first.first) (files_in_session shown files) status [] (files_in_session shown between)) point.is plain,
        closes_exact rest between new next_point more honest clean.1,
      )

  pub start_known : (shown.world start).units ≡ [] → IsKnown (files_at_start start)
  start_known none = record {
    judged = none_judged start;
    is = refl;
    kept = none_kept shown joins ends start;
    apart = subst (λ (us : List FileUnit). AreApart (map (λ (x : FileUnit). x.name) us)) (sym none) tt;
    were = λ name is. absurd (true≢false (sym is));
  }

  pub start_exact : files_in_session shown (files_at_start start) ≡ exact_at_start (named_in (shown.world start))
  start_exact = same_files (files_in_session shown (files_at_start start)) (exact_at_start (named_in (shown.world start)))
      (λ n. ap (place_in_session (shown.world start)) (empty_at number_limit n)) refl (λ name. refl)
