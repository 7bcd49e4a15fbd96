-- A run of steps whose lines are all clean is the definition's.
use Rattle.std.proofs.Common.{◌≡◌, ℕ, zero, suc, Bool, true, false, not, ◌&&◌, List, [], ◌∷◌, ◌++◌, length, map, filter, cond, slice_get, Option, Some, None, refl, sym, ap, ◌∙◌, append_assoc, subst, if◌then◌else◌}
use Rattle.std.specs.List.{list_all}
use Rattle.std.specs.Option.{option_map_or}
use Rattle.std.proofs.lemmas.List.Folds.{list_all-append}
use Rattle.verbs.specs.Connector.{Session, FileState, Outcome, answers}
use Rattle.io_state.specs.declared.statement.FileStatement.{FileStatement}
use Rattle.io_state.specs.declared.statement.FileStatement.TheVariants.{Close}
use Rattle.io_state.specs.declared.status.Status.TheVariants.{PermanentError, Successful}
use Rattle.verbs.specs.Faults.{is_unclean}
use Rattle.verbs.specs.Checks.{check, unless_refused}
use Rattle.verbs.specs.Opening.{ended, closed, close_in}
use Rattle.deck_reader.specs.declared.statement.Statement.{Statement}
use Rattle.deck_reader.specs.declared.statement.Statement.TheVariants.{Perform, StopRun}
use Rattle.deck_runner.specs.Line.{Line, is_clean}
use Rattle.deck_runner.specs.Run.{RunFile, LengthValue, Run, change_at, outcome_on, performed, items_after_read, line_of, after_statement, lines_of_run, after_run}
use Rattle.deck_runner.specs.Steps.{line_by, left_by, IsStepOn, IsStep, AreSteps, until_stop, is_still_open, closes_from, IsRun, CleanRunsAreExact}
use Rattle.deck_runner.specs.Running.{length_for}
use Rattle.deck_runner.specs.Stretches.{Point, AreStretches, IsRunOver}
use Rattle.indexed_file.specs.Shown.{Shown}
use Rattle.deck_runner.proofs.CleanLemmas.{clean_step}

pub and_left : (a b : Bool) → (a && b) ≡ true → a ≡ true
and_left true b e = refl
and_left false b e = absurd (cc)

pub and_right : (a b : Bool) → (a && b) ≡ true → b ≡ true
and_right true b e = e
and_right false b e = absurd (cc)

-- lines one after another are clean where all are
pub clean_first : (xs ys : List Line) → list_all is_clean (xs ++ ys) ≡ true → list_all is_clean xs ≡ true
clean_first xs ys e = and_left (list_all is_clean xs) (list_all is_clean ys) (sym (list_all-append is_clean xs ys) ∙ e)

pub clean_rest : (xs ys : List Line) → list_all is_clean (xs ++ ys) ≡ true → list_all is_clean ys ≡ true
clean_rest xs ys e = and_right (list_all is_clean xs) (list_all is_clean ys) (sym (list_all-append is_clean xs ys) ∙ e)

-- two changes of one place that agree there
pub change_alike : {A : Type 0} (u : ℕ) (f h : A → A) (xs : List A) (x : A) → slice_get xs u ≡ Some x → f x ≡ h x → change_at u f xs ≡ change_at u h xs
change_alike u f h [] x e same = refl
change_alike zero f h (y ∷ xs) x e same = let y_is : y ≡ x = cc in rw (y_is, same) refl
change_alike (suc u) f h (y ∷ xs) x e same = ap (λ l. y ∷ l) (change_alike u f h xs x e same)

-- a change of a place that is not there
change_past : {A : Type 0} (u : ℕ) (f : A → A) (xs : List A) → slice_get xs u ≡ None → change_at u f xs ≡ xs
change_past u f [] e = refl
change_past zero f (y ∷ xs) e = absurd (cc)
change_past (suc u) f (y ∷ xs) e = ap (λ l. y ∷ l) (change_past u f xs e)

abbrev of_files : Run → List RunFile → Run
of_files run files = record run { files = files }

-- the lines of a statement
abbrev pub lines_of : Statement → Run → List Line
lines_of (Perform u statement) run =
    option_map_or (λ file. line_of statement run.items file ∷ []) (slice_get run.files u) []
lines_of _ run = []

-- the lines of the statements up to STOP RUN
abbrev pub lines_until_stop : List Statement → Run → List Line
lines_until_stop [] run = []
lines_until_stop (StopRun ∷ rest) run = []
lines_until_stop (statement ∷ rest) run =
    lines_of statement run ++ lines_until_stop rest (after_statement statement run)

-- what they leave
abbrev pub run_at_stop : List Statement → Run → Run
run_at_stop [] run = run
run_at_stop (StopRun ∷ rest) run = run
run_at_stop (statement ∷ rest) run = run_at_stop rest (after_statement statement run)

-- the lines and the items after a statement on the file of a place, if there is that file
abbrev pub lines_on : FileStatement → List LengthValue → Option RunFile → List Line
lines_on statement items file = option_map_or (λ f. line_of statement items f ∷ []) file []

abbrev pub items_after : FileStatement → List LengthValue → Option RunFile → List LengthValue
items_after statement items file =
    option_map_or (λ f. items_after_read f.depends_on (outcome_on statement items f).delivered items) file items

-- a clean step on a file
clean_on : (statement : FileStatement) (u : ℕ) (file : Option RunFile) (run : Run) (lines : List Line) (next : Run)
    → slice_get run.files u ≡ file → IsStepOn statement u file run lines next → list_all is_clean lines ≡ true
    → (lines ≡ lines_on statement run.items file) × (next ≡ record { files = change_at u (performed statement run.items) run.files; items = items_after statement run.items file })
clean_on statement u None run lines next is step clean =
    (step.0, step.1 ∙ ap (of_files run) (sym (change_past u (performed statement run.items) run.files is)))
clean_on statement u (Some file) run lines next is step clean =
    let outcome = step.0 in
    let one : (not (is_unclean statement outcome.status) && true) ≡ true = rw step.2 at clean in
    let exact : outcome_on statement run.items file ≡ outcome = clean_step statement (length_for run.items file.state.connector.schema file.depends_on) file.state outcome (and_left _ true one) step.1 in
    let same : left_by outcome file ≡ performed statement run.items file = ap (λ (o : Outcome). left_by o file) (sym exact) in (
      step.2 ∙ ap (λ (o : Outcome). line_by statement file o ∷ []) (sym exact),
      step.3 ∙ (λ i. record {
        files = change_alike u (left_by outcome) (performed statement run.items) run.files file is same i;
        items = ap (λ (o : Outcome). items_after_read file.depends_on o.delivered run.items) (sym exact) i;
      }),
    )

-- a clean step
pub clean_one : (statement : Statement) (run : Run) (lines : List Line) (next : Run) → IsStep statement run lines next → list_all is_clean lines ≡ true
    → (lines ≡ lines_of statement run) × (next ≡ after_statement statement run)
clean_one (Perform u statement) run lines next step clean = clean_on statement u (slice_get run.files u) run lines next refl step clean
clean_one statement run lines next step clean = step

-- clean steps up to STOP RUN
abbrev pub AreExactUntilStop : List Statement → Type 0
AreExactUntilStop statements =
    (run : Run) → (lines : List Line) → (next : Run) → AreSteps (until_stop statements) run lines next → list_all is_clean lines ≡ true
    → (lines ≡ lines_until_stop statements run) × (next ≡ run_at_stop statements run)

pub clean_until_stop : (statements : List Statement) → AreExactUntilStop statements
clean_until_stop [] run lines next steps clean = steps
clean_until_stop (StopRun ∷ rest) run lines next steps clean = steps
clean_until_stop (statement ∷ rest) run lines next steps clean =
    let all = rw steps.5 at clean in
    let one = clean_one statement run steps.0 steps.1 steps.3 (clean_first steps.0 steps.2 all) in
    let others = clean_until_stop rest steps.1 steps.2 next steps.4 (clean_rest steps.0 steps.2 all) in
    (rw (steps.5, one.0, others.0, one.1) refl, rw (others.1, one.1) refl)

-- ---- the closes

-- CLOSE delivers no record
close_delivers_none : (n : ℕ) (s : FileState) (session : Option Session) → (close_in false s session).delivered ≡ None
close_delivers_none n s None = refl
close_delivers_none n s (Some session) = by_checks session.failed session.missing
  where
    by_checks : (failed missing : Bool) → (unless_refused (check failed (answers PermanentError (ended false s)) ∷ check missing (answers Successful (ended false s)) ∷ []) (closed false s)).delivered ≡ None
    by_checks false true = refl
    by_checks failed missing = refl

no_record_read : (depends_on : Option ℕ) (items : List LengthValue) → items_after_read depends_on None items ≡ items
no_record_read None items = refl
no_record_read (Some i) items = refl

pub close_keeps_items : (items : List LengthValue) (file : RunFile) → items_after_read file.depends_on (outcome_on (Close false) items file).delivered items ≡ items
close_keeps_items items file =
    rw (close_delivers_none 0 file.state file.state.connector.session) (no_record_read file.depends_on items)

-- the file behind the first ones
pub get_behind : {A : Type 0} (before : List A) (x : A) (after : List A) → slice_get (before ++ x ∷ after) (length before) ≡ Some x
get_behind [] x after = refl
get_behind (y ∷ before) x after = get_behind before x after

pub change_behind : {A : Type 0} (f : A → A) (before : List A) (x : A) (after : List A) → change_at (length before) f (before ++ x ∷ after) ≡ (before ++ f x ∷ []) ++ after
change_behind f [] x after = refl
change_behind f (y ∷ before) x after = ap (λ l. y ∷ l) (change_behind f before x after)

pub length_behind : {A : Type 0} (before : List A) (x : A) → length (before ++ x ∷ []) ≡ suc (length before)
length_behind [] x = refl
length_behind (y ∷ before) x = ap suc (length_behind before x)

abbrev pub of : List RunFile → List LengthValue → Run
of files items = record { files = files; items = items }

-- the lines of the closes of the files that are still open, and such a file behind its close
abbrev pub closing_lines : List LengthValue → List RunFile → List Line
closing_lines items files = map (line_of (Close false) items) (filter is_still_open files)

abbrev closed_at_end : List LengthValue → RunFile → RunFile
closed_at_end items file = if is_still_open file then performed (Close false) items file else file

abbrev AreExactCloses : List LengthValue → List RunFile → Type 0
AreExactCloses items files =
    (before : List RunFile) → (lines : List Line) → (next : Run) → AreSteps (closes_from (length before) files) (of (before ++ files) items) lines next → list_all is_clean lines ≡ true
    → (lines ≡ closing_lines items files) × (next ≡ of (before ++ map (closed_at_end items) files) items)

closes_more : (items : List LengthValue) (file : RunFile) (files : List RunFile) → AreExactCloses items files → (before : List RunFile) (lines : List Line) (next : Run) (open_still : Bool)
    → AreSteps ((if open_still then Perform (length before) (Close false) ∷ [] else []) ++ closes_from (suc (length before)) files) (of (before ++ file ∷ files) items) lines next
    → list_all is_clean lines ≡ true
    → (lines ≡ map (line_of (Close false) items) (cond open_still (file ∷ filter is_still_open files) (filter is_still_open files)))
    × (next ≡ of (before ++ (if open_still then performed (Close false) items file else file) ∷ map (closed_at_end items) files) items)
closes_more items file files more before lines next false steps clean =
    let at_next = subst (λ (n : ℕ). AreSteps (closes_from n files) (of (before ++ file ∷ files) items) lines next) (sym (length_behind before file)) steps in
    let here = subst (λ (l : List RunFile). AreSteps (closes_from (length (before ++ file ∷ [])) files) (of l items) lines next) (sym (append_assoc before (file ∷ []) files)) at_next in
    let others = more (before ++ file ∷ []) lines next here clean in
    (others.0, others.1 ∙ ap (λ (l : List RunFile). of l items) (append_assoc before (file ∷ []) (map (closed_at_end items) files)))
closes_more items file files more before lines next true steps clean =
    let all = rw steps.5 at clean in
    let closed_file = performed (Close false) items file in
    let one = clean_on (Close false) (length before) (Some file) (of (before ++ file ∷ files) items) steps.0 steps.1 (get_behind before file files)
    (subst (λ (o : Option RunFile). IsStepOn (Close false) (length before) o (of (before ++ file ∷ files) items) steps.0 steps.1) (get_behind before file files) steps.3) (clean_first steps.0 steps.2 all) in
    let between : steps.1 ≡ of ((before ++ closed_file ∷ []) ++ files) items =
    one.1 ∙ (λ i. record { files = change_behind (performed (Close false) items) before file files i; items = close_keeps_items items file i }) in
    let at_next = subst (λ (n : ℕ). AreSteps (closes_from n files) steps.1 steps.2 next) (sym (length_behind before closed_file)) steps.4 in
    let here = subst (λ (r : Run). AreSteps (closes_from (length (before ++ closed_file ∷ [])) files) r steps.2 next) between at_next in
    let others = more (before ++ closed_file ∷ []) steps.2 next here (clean_rest steps.0 steps.2 all) in
    (rw (steps.5, one.0, others.0) refl, others.1 ∙ ap (λ (l : List RunFile). of l items) (append_assoc before (closed_file ∷ []) (map (closed_at_end items) files)))

clean_closes : (items : List LengthValue) (files : List RunFile) → AreExactCloses items files
clean_closes items [] before lines next steps clean = steps
clean_closes items (file ∷ files) before lines next steps clean =
    closes_more items file files (clean_closes items files) before lines next (is_still_open file) steps clean

-- ---- a run

-- stretches are steps
pub steps_of : {S : Type 0} (library : Shown S) (statements : List Statement) (run : Point S) (lines : List Line) (next : Point S) → AreStretches library statements run lines next → AreSteps statements run.run lines next.run
steps_of library [] run lines next p = (p.0, ap (λ r. r.run) p.1)
steps_of library (statement ∷ rest) run lines next p = (p.0, p.1.run, p.2, p.3.step, steps_of library rest p.1 p.2 next p.4, p.5)

pub run_of_stretches : {S : Type 0} (library : Shown S) (statements : List Statement) (run : Point S) (lines : List Line) (next : Point S) → IsRunOver library statements run lines next → IsRun statements run.run lines next.run
run_of_stretches library statements run lines next p =
    (p.0.run, p.1, p.2, steps_of library (until_stop statements) run p.1 p.0 p.3, steps_of library (closes_from 0 p.0.run.files) p.0 p.2 next p.4, p.5)

-- the lines of a run, and what it leaves
pub run_lines : (statements : List Statement) (run : Run)
    → lines_of_run statements run ≡ lines_until_stop statements run ++ closing_lines (run_at_stop statements run).items (run_at_stop statements run).files
run_lines [] run = refl
run_lines (StopRun ∷ rest) run = refl
run_lines (statement ∷ rest) run =
    let next = after_statement statement run in
    let stopped = run_at_stop rest next in
    ap (λ (l : List Line). lines_of statement run ++ l) (run_lines rest next)
    ∙ sym (append_assoc (lines_of statement run) (lines_until_stop rest next) (closing_lines stopped.items stopped.files))

run_left : (statements : List Statement) (run : Run)
    → after_run statements run ≡ of (map (closed_at_end (run_at_stop statements run).items) (run_at_stop statements run).files) (run_at_stop statements run).items
run_left [] run = refl
run_left (StopRun ∷ rest) run = refl
run_left (statement ∷ rest) run = run_left rest (after_statement statement run)

pub clean_runs_are_exact : CleanRunsAreExact
clean_runs_are_exact statements run lines next steps clean =
    let all = rw steps.5 at clean in
    let first = clean_until_stop statements run steps.1 steps.0 steps.3 (clean_first steps.1 steps.2 all) in
    let others = clean_closes steps.0.items steps.0.files [] steps.2 next steps.4 (clean_rest steps.1 steps.2 all) in
    (rw (steps.5, first.0, others.0, first.1) (sym (run_lines statements run)), rw (others.1, first.1) (sym (run_left statements run)))
