-- The lines before the first unclean one are the definition's.
use Rattle.std.proofs.Common.{◌≡◌, ℕ, suc, Bool, true, false, ◌⊎◌, List, [], ◌∷◌, ◌++◌, length, map, filter, cond, slice_get, Option, Some, None, refl, sym, ap, ◌∙◌, append_assoc, append-nil, subst, inl, inr, if◌then◌else◌}
use Rattle.std.specs.List.{list_all}
use Rattle.io_state.specs.declared.statement.FileStatement.TheVariants.{Close}
use Rattle.deck_reader.specs.declared.statement.Statement.{Statement}
use Rattle.deck_reader.specs.declared.statement.Statement.TheVariants.{Perform, StopRun}
use Rattle.indexed_file.specs.Shown.{Shown}
use Rattle.deck_runner.specs.Line.{Line, is_clean}
use Rattle.deck_runner.specs.Run.{RunFile, LengthValue, Run, performed, line_of, after_statement, lines_of_run}
use Rattle.deck_runner.specs.Steps.{IsStepOn, IsStep, AreSteps, until_stop, is_still_open, closes_from}
use Rattle.deck_runner.specs.Stretches.{CleanFrontsAreExact}
use Rattle.deck_runner.proofs.RunLaws.{lines_of, lines_until_stop, run_at_stop, run_lines, lines_on, items_after, closing_lines, clean_first, clean_rest, clean_one, clean_until_stop, get_behind, change_behind, length_behind, close_keeps_items, of, steps_of}

-- ---- the lines of statements one after another

abbrev lines_through : List Statement → Run → List Line
lines_through [] run = []
lines_through (statement ∷ rest) run = lines_of statement run ++ lines_through rest (after_statement statement run)

abbrev run_through : List Statement → Run → Run
run_through [] run = run
run_through (statement ∷ rest) run = run_through rest (after_statement statement run)

lines_through_both : (first rest : List Statement) (run : Run) → lines_through (first ++ rest) run ≡ lines_through first run ++ lines_through rest (run_through first run)
lines_through_both [] rest run = refl
lines_through_both (statement ∷ first) rest run =
    rw (lines_through_both first rest (after_statement statement run))
    (sym (append_assoc (lines_of statement run) (lines_through first (after_statement statement run)) (lines_through rest (run_through first (after_statement statement run)))))

lines_to_stop : (statements : List Statement) (run : Run) → lines_through (until_stop statements) run ≡ lines_until_stop statements run
lines_to_stop [] run = refl
lines_to_stop (StopRun ∷ rest) run = refl
lines_to_stop (statement ∷ rest) run =
    ap (λ (l : List Line). lines_of statement run ++ l) (lines_to_stop rest (after_statement statement run))

-- the lines of the closes
abbrev AreLinesOfCloses : List LengthValue → List RunFile → Type 0
AreLinesOfCloses items files = (before : List RunFile) → lines_through (closes_from (length before) files) (of (before ++ files) items) ≡ closing_lines items files

closes_in : (items : List LengthValue) (file : RunFile) (files : List RunFile) → AreLinesOfCloses items files → (before : List RunFile) (open_still : Bool)
    → lines_through ((if open_still then Perform (length before) (Close false) ∷ [] else []) ++ closes_from (suc (length before)) files) (of (before ++ file ∷ files) items)
    ≡ map (line_of (Close false) items) (cond open_still (file ∷ filter is_still_open files) (filter is_still_open files))
closes_in items file files more before false =
    subst (λ (n : ℕ). lines_through (closes_from n files) (of (before ++ file ∷ files) items) ≡ closing_lines items files) (length_behind before file)
    (subst (λ (l : List RunFile). lines_through (closes_from (length (before ++ file ∷ [])) files) (of l items) ≡ closing_lines items files) (append_assoc before (file ∷ []) files)
    (more (before ++ file ∷ [])))
closes_in items file files more before true =
    let closed_file = performed (Close false) items file in
    let here = of (before ++ file ∷ files) items in
    let next : after_statement (Perform (length before) (Close false)) here ≡ of ((before ++ closed_file ∷ []) ++ files) items =
    λ i. record {
      files = change_behind (performed (Close false) items) before file files i;
      items = (ap (λ (o : Option RunFile). items_after (Close false) items o) (get_behind before file files) ∙ close_keeps_items items file) i;
    } in
    let rest : lines_through (closes_from (suc (length before)) files) (of ((before ++ closed_file ∷ []) ++ files) items) ≡ closing_lines items files =
    subst (λ (n : ℕ). lines_through (closes_from n files) (of ((before ++ closed_file ∷ []) ++ files) items) ≡ closing_lines items files) (length_behind before closed_file)
    (more (before ++ closed_file ∷ [])) in
    let first : lines_of (Perform (length before) (Close false)) here ≡ line_of (Close false) items file ∷ [] = ap (λ (o : Option RunFile). lines_on (Close false) items o) (get_behind before file files) in
    let others : lines_through (closes_from (suc (length before)) files) (after_statement (Perform (length before) (Close false)) here) ≡ closing_lines items files =
    ap (λ (r : Run). lines_through (closes_from (suc (length before)) files) r) next ∙ rest in
    λ i. first i ++ others i

lines_of_closes : (items : List LengthValue) (files : List RunFile) → AreLinesOfCloses items files
lines_of_closes items [] before = refl
lines_of_closes items (file ∷ files) before = closes_in items file files (lines_of_closes items files) before (is_still_open file)

-- ---- a front of the lines of steps

abbrev Begins : List Line → List Line → Type 0
Begins front lines = (more : List Line) × (lines ≡ front ++ more)

-- where a list stands before another in the same list as two others
pub cut : {A : Type 0} (xs ys zs ws : List A) → xs ++ ys ≡ zs ++ ws
    → ((us : List A) × (zs ≡ xs ++ us) × (ys ≡ us ++ ws)) ⊎ ((us : List A) × (xs ≡ zs ++ us) × (ws ≡ us ++ ys))
cut [] ys zs ws e = inl (zs, refl, e)
cut (x ∷ xs) ys [] ws e = inr (x ∷ xs, refl, sym e)
cut (x ∷ xs) ys (z ∷ zs) ws e =
    let same : x ≡ z = cc in
    let rest : xs ++ ys ≡ zs ++ ws = cc in
    elim (cut xs ys zs ws rest) [
      | inl h ↦ inl (h.0, rw same (ap (λ l. z ∷ l) h.1), h.2)
      | inr h ↦ inr
          (h.0, rw same (ap (λ l. z ∷ l) h.1), h.2)
    ]

-- a statement has one line at most
pub few : (statement : Statement) (run : Run) (lines : List Line) (next : Run) → IsStep statement run lines next
    → (lines ≡ []) ⊎ ((line : Line) × (lines ≡ line ∷ []))
few (Perform u statement) run lines next step = on (slice_get run.files u) step
  where
    on : (file : Option RunFile) → IsStepOn statement u file run lines next → (lines ≡ []) ⊎ ((line : Line) × (lines ≡ line ∷ []))
    on None p = inl p.0
    on (Some file) p = inr (_, p.2)
few statement run lines next step = inl step.0

step_on_front : (statement : Statement) (run : Run) (lines : List Line) (next : Run) (front us : List Line) → IsStep statement run lines next → lines ≡ front ++ us → list_all is_clean front ≡ true
    → (front ≡ []) ⊎ ((front ≡ lines) × (us ≡ []))
step_on_front statement run lines next front us step is clean = by_front front is (few statement run lines next step)
  where
    by_front : (xs : List Line) → lines ≡ xs ++ us → (lines ≡ []) ⊎ ((line : Line) × (lines ≡ line ∷ [])) → (xs ≡ []) ⊎ ((xs ≡ lines) × (us ≡ []))
    by_front [] e h = inl refl
    by_front (x ∷ []) e (inr one) = let rest : us ≡ [] = cc in inr (sym (e ∙ ap (λ (l : List Line). x ∷ l) rest), rest)
    by_front (x ∷ y ∷ xs) e (inr one) = absurd (cc)
    by_front xs e (inl none) = absurd (cc)

begins_then : (front first others lines more : List Line) → front ≡ first ++ others → first ≡ lines → Begins others more → Begins front (lines ++ more)
begins_then front first others lines more is one begun = (begun.0, rw (is, one, begun.1) (sym (append_assoc lines others begun.0)))

begins_all : (front lines more : List Line) → front ≡ lines → Begins front (lines ++ more)
begins_all front lines more is = (more, rw is refl)

front_of : (statements : List Statement) (run : Run) (front rest : List Line) (next : Run) → AreSteps statements run (front ++ rest) next → list_all is_clean front ≡ true → Begins front (lines_through statements run)
front_of [] run [] rest next steps clean = ([], refl)
front_of [] run (x ∷ front) rest next steps clean = absurd (cc)
front_of (statement ∷ others) run front rest next steps clean =
    elim (cut front rest steps.0 steps.2 steps.5) [
      | inl h ↦ elim (step_on_front statement run steps.0 steps.1 front h.0 steps.3 h.1 clean) [
        | inl none ↦ (lines_through (statement ∷ others) run, rw none refl)
        | inr all ↦
            let one = clean_one statement run steps.0 steps.1 steps.3 (rw all.0 at clean) in
            begins_all front (lines_of statement run) (lines_through others (after_statement statement run)) (all.0 ∙ one.0)
      ]
      | inr h ↦
          let both = rw h.1 at clean in
          let one = clean_one statement run steps.0 steps.1 steps.3 (clean_first steps.0 h.0 both) in
          let more = front_of others steps.1 h.0 rest next (rw h.2 at steps.4) (clean_rest steps.0 h.0 both) in
          begins_then front steps.0 h.0 (lines_of statement run) (lines_through others (after_statement statement run)) h.1 one.0 (subst (λ (r : Run). Begins h.0 (lines_through others r)) one.1 more)
    ]

-- ---- a run

-- the lines of the closes behind the statements
abbrev closing : Run → List Line
closing stopped = closing_lines stopped.items stopped.files

-- the statements up to STOP RUN, and some of the closes behind them
front_of_both : (statements : List Statement) (run stopped next : Run) (first others front rest : List Line) (done left : List Statement)
    → AreSteps (until_stop statements) run first stopped → closes_from 0 stopped.files ≡ done ++ left → AreSteps done stopped others next → front ++ rest ≡ first ++ others
    → list_all is_clean front ≡ true → Begins front (lines_of_run statements run)
front_of_both statements run stopped next first others front rest done left steps closes ending is clean =
    elim (cut front rest first others is) [
      | inl h ↦
          let begun = front_of (until_stop statements) run front h.0 stopped (rw h.1 at steps) clean in
          let lines : lines_until_stop statements run ≡ front ++ begun.0 = sym (lines_to_stop statements run) ∙ begun.1 in
          (begun.0 ++ closing (run_at_stop statements run), run_lines statements run ∙ ap (λ (l : List Line). l ++ closing (run_at_stop statements run)) lines ∙ append_assoc front begun.0 (closing (run_at_stop statements run)))
      | inr h ↦
          let both = rw h.1 at clean in
          let exact = clean_until_stop statements run first stopped steps (clean_first first h.0 both) in
          let begun = front_of done stopped h.0 rest next (rw h.2 at ending) (clean_rest first h.0 both) in
          let all : lines_through (closes_from 0 stopped.files) stopped ≡ h.0 ++ (begun.0 ++ lines_through left (run_through done stopped)) =
          rw closes (lines_through_both done left stopped ∙ ap (λ (l : List Line). l ++ lines_through left (run_through done stopped)) begun.1 ∙ append_assoc h.0 begun.0 (lines_through left (run_through done stopped))) in
          let lines : closing stopped ≡ h.0 ++ (begun.0 ++ lines_through left (run_through done stopped)) = sym (lines_of_closes stopped.items stopped.files []) ∙ all in
          subst (λ (l : List Line). Begins front l) (sym (run_lines statements run))
          (begins_then front first h.0 (lines_until_stop statements run) (closing (run_at_stop statements run)) h.1 exact.0
          (subst (λ (r : Run). Begins h.0 (closing r)) exact.1 (begun.0 ++ lines_through left (run_through done stopped), lines)))
    ]

front_in_part : (statements done left : List Statement) (run next : Run) (front rest : List Line) → until_stop statements ≡ done ++ left → AreSteps done run (front ++ rest) next → list_all is_clean front ≡ true
    → Begins front (lines_of_run statements run)
front_in_part statements done left run next front rest is steps clean =
    let begun = front_of done run front rest next steps clean in
    let more = begun.0 ++ lines_through left (run_through done run) in
    let last = closing (run_at_stop statements run) in
    let lines : lines_until_stop statements run ≡ front ++ more =
    sym (lines_to_stop statements run) ∙ ap (λ (l : List Statement). lines_through l run) is ∙ lines_through_both done left run
    ∙ ap (λ (l : List Line). l ++ lines_through left (run_through done run)) begun.1 ∙ append_assoc front begun.0 (lines_through left (run_through done run)) in
    (more ++ last, run_lines statements run ∙ ap (λ (l : List Line). l ++ last) lines ∙ append_assoc front more last)

pub clean_fronts_are_exact : {S : Type 0} (library : Shown S) → CleanFrontsAreExact library
clean_fronts_are_exact library statements run front rest next (inl p) clean =
    front_of_both statements run.run p.0.run next.run p.1 p.2 front rest (closes_from 0 p.0.run.files) []
    (steps_of library (until_stop statements) run p.1 p.0 p.3) (sym (append-nil (closes_from 0 p.0.run.files))) (steps_of library (closes_from 0 p.0.run.files) p.0 p.2 next p.4) p.5 clean
clean_fronts_are_exact library statements run front rest next (inr (inl p)) clean =
    front_in_part statements p.0 p.1 run.run next.run front rest p.2 (steps_of library p.0 run (front ++ rest) next p.3) clean
clean_fronts_are_exact library statements run front rest next (inr (inr p)) clean =
    front_of_both statements run.run p.0.run next.run p.1 p.2 front rest p.4.0 p.4.1
    (steps_of library (until_stop statements) run p.1 p.0 p.3) p.4.2 (steps_of library p.4.0 p.0 p.2 next p.4.3) p.5 clean
