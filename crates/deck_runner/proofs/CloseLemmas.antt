-- The closes at the end of a run, one by one.
use Rattle.std.proofs.Common.{◌≡◌, ◌<◌, ℕ, zero, suc, ◌+◌, Bool, true, false, List, [], ◌∷◌, ◌++◌, length, take, drop, slice_get, Option, Some, None, refl, sym, ap, ◌∙◌, subst, append_assoc, append-nil, add-one, if◌then◌else◌, arith}
use Rattle.std.proofs.lemmas.List.{take_more, take_all, take-append-drop, length-take-le}
use Rattle.std.proofs.lemmas.Option.{get_or_from_slice_get}
use Rattle.indexed_file.specs.World.{World}
use Rattle.deck_runner.specs.Line.{Line}
use Rattle.deck_runner.specs.Run.{RunFile, Run, change_at}
use Rattle.io_state.specs.declared.statement.FileStatement.TheVariants.{Close}
use Rattle.deck_reader.specs.declared.statement.Statement.{Statement}
use Rattle.deck_reader.specs.declared.statement.Statement.TheVariants.{Perform}
use Rattle.indexed_file.specs.Shown.{Shown}
use Rattle.deck_runner.specs.Steps.{left_by, IsStepOn, is_still_open, close_of, close_at, closes_from}
use Rattle.deck_runner.specs.Stretches.{Point, IsStretch, AreStretches, AreStretchesInPart, ClosesAt, ClosesAtInPart, ClosesFiles, ClosesInPart}
use Rattle.deck_runner.specs.Running.{Running, run_files}
use Rattle.deck_runner.proofs.StepLemmas.{no_steps, steps_then, one_step}

-- ---- lists

get_there : {A : Type 0} (xs : List A) (u : ℕ) → u < length xs → (x : A) × (slice_get xs u ≡ Some x)
get_there [] u h = absurd (omega arith)
get_there (x ∷ xs) zero h = (x, refl)
get_there (x ∷ xs) (suc u) h = let within : u < length xs = omega arith in get_there xs u within

get_of_rest : {A : Type 0} (xs : List A) (u : ℕ) → slice_get xs u ≡ slice_get (drop u xs) 0
get_of_rest [] zero = refl
get_of_rest (x ∷ xs) (suc u) = get_of_rest xs u
get_of_rest xs u = refl

rest_of_rest : {A : Type 0} (xs : List A) (u : ℕ) → drop (suc u) xs ≡ drop 1 (drop u xs)
rest_of_rest [] zero = refl
rest_of_rest (x ∷ xs) (suc u) = rest_of_rest xs u
rest_of_rest xs u = refl

rest_of_change : {A : Type 0} (u : ℕ) (f : A → A) (xs : List A) → drop (suc u) (change_at u f xs) ≡ drop (suc u) xs
rest_of_change u f [] = refl
rest_of_change zero f (x ∷ xs) = refl
rest_of_change (suc u) f (x ∷ xs) = rest_of_change u f xs

pub as_many_files : (world : World) (w : ℕ) (files : List Running) → length (run_files world w files) ≡ length files
as_many_files world w [] = refl
as_many_files world w (file ∷ files) = ap suc (as_many_files world (suc w) files)

-- ---- closes

closes_append : (w : ℕ) (xs ys : List RunFile) → closes_from w (xs ++ ys) ≡ closes_from w xs ++ closes_from (w + length xs) ys
closes_append w [] ys = let place : w + 0 ≡ w = omega arith in rw place refl
closes_append w (x ∷ xs) ys =
    let place : w + suc (length xs) ≡ suc w + length xs = omega arith in
    rw (closes_append (suc w) xs ys, place) (sym (append_assoc (close_of w x) (closes_from (suc w) xs) (closes_from (suc w + length xs) ys)))

closes_to_next : (files : List RunFile) (u : ℕ) (file : RunFile) → u < length files → slice_get files u ≡ Some file
    → closes_from 0 (take (u + 1) files) ≡ closes_from 0 (take u files) ++ close_at u (slice_get files u)
closes_to_next files u file within get =
    let front : take (u + 1) files ≡ take u files ++ file ∷ [] =
    take_more files u file within ∙ ap (λ (f : RunFile). take u files ++ f ∷ []) (get_or_from_slice_get files u file file get) in
    let place : 0 + length (take u files) ≡ u = let many = length-take-le u files (omega arith) in omega arith in
    let one : closes_from u (file ∷ []) ≡ close_at u (slice_get files u) = rw get (append-nil (close_of u file)) in
    ap (closes_from 0) front ∙ closes_append 0 (take u files) (file ∷ []) ∙ ap (λ (n : ℕ). closes_from 0 (take u files) ++ closes_from n (file ∷ [])) place
    ∙ ap (λ (l : List Statement). closes_from 0 (take u files) ++ l) one

-- the close of one file leaves those after it
rest_after_one : (u : ℕ) (file : Option RunFile) (run : Run) (lines : List Line) (next : Run) → IsStepOn (Close false) u file run lines next → drop (suc u) next.files ≡ drop (suc u) run.files
rest_after_one u None run lines next step = ap (λ (r : Run). drop (suc u) r.files) step.1
rest_after_one u (Some file) run lines next step =
    ap (λ (r : Run). drop (suc u) r.files) step.3 ∙ rest_of_change u (left_by step.0) run.files

module _ {S : Type 0} (library : Shown S) where
  rest_after_if : (u : ℕ) (is_open : Bool) (run : Point S) (lines : List Line) (next : Point S) → AreStretches library (if is_open then Perform u (Close false) ∷ [] else []) run lines next
      → drop (suc u) next.run.files ≡ drop (suc u) run.run.files
  rest_after_if u true run lines next steps =
      ap (λ (r : Point S). drop (suc u) r.run.files) steps.4.1 ∙ rest_after_one u (slice_get run.run.files u) run.run steps.0 steps.1.run steps.3.step
  rest_after_if u false run lines next steps = ap (λ (r : Point S). drop (suc u) r.run.files) steps.1

  rest_after : (u : ℕ) (file : Option RunFile) (run : Point S) (lines : List Line) (next : Point S) → AreStretches library (close_at u file) run lines next → drop (suc u) next.run.files ≡ drop (suc u) run.run.files
  rest_after u None run lines next steps = ap (λ (r : Point S). drop (suc u) r.run.files) steps.1
  rest_after u (Some file) run lines next steps = rest_after_if u (is_still_open file) run lines next steps

  -- the closes of the first files, where the others are as they were
  pub record AreClosed (u : ℕ) (first : Point S) (lines : List Line) (now : Point S) : Type 0 where
    pub steps : AreStretches library (closes_from 0 (take u first.run.files)) first lines now
    pub rest : drop u now.run.files ≡ drop u first.run.files

  pub one_closed : (first now next : Point S) (u : ℕ) (lines others : List Line) → u < length first.run.files → AreClosed u first lines now → ClosesAt library u now others next → AreClosed (u + 1) first (lines ++ others) next
  one_closed first now next u lines others within closed step =
      let file = get_there first.run.files u within in
      let same : slice_get now.run.files u ≡ slice_get first.run.files u =
      get_of_rest now.run.files u ∙ ap (λ (l : List RunFile). slice_get l 0) closed.rest ∙ sym (get_of_rest first.run.files u) in
      let here : AreStretches library (close_at u (slice_get first.run.files u)) now others next = subst (λ (o : Option RunFile). AreStretches library (close_at u o) now others next) same step in
      let after : drop (suc u) next.run.files ≡ drop (suc u) first.run.files =
      rest_after u (slice_get now.run.files u) now others next step ∙ rest_of_rest now.run.files u ∙ ap (λ (l : List RunFile). drop 1 l) closed.rest ∙ sym (rest_of_rest first.run.files u) in
      record {
        steps = subst (λ (l : List Statement). AreStretches library l first (lines ++ others) next) (sym (closes_to_next first.run.files u file.0 within file.1))
            (steps_then (IsStretch library) (closes_from 0 (take u first.run.files)) (close_at u (slice_get first.run.files u)) first now next lines others closed.steps here);
        rest = rw add-one after;
      }

  pub all_closed : (first now : Point S) (u : ℕ) (lines : List Line) → u ≡ length first.run.files → AreClosed u first lines now → ClosesFiles library first lines now
  all_closed first now u lines at_end closed =
      subst (λ (l : List RunFile). AreStretches library (closes_from 0 l) first lines now) (take_all u first.run.files (omega arith)) closed.steps

  -- a part of the close of one more
  pub closed_in_part : (first now next : Point S) (u : ℕ) (lines others : List Line) → u < length first.run.files → AreClosed u first lines now → ClosesAtInPart library u now others next
      → ClosesInPart library first (lines ++ others) next
  closed_in_part first now next u lines others within closed part =
      let files = first.run.files in
      let file = get_there files u within in
      let same : slice_get now.run.files u ≡ slice_get files u = get_of_rest now.run.files u ∙ ap (λ (l : List RunFile). slice_get l 0) closed.rest ∙ sym (get_of_rest files u) in
      let here : AreStretchesInPart library (close_at u (slice_get files u)) now others next = subst (λ (o : Option RunFile). AreStretchesInPart library (close_at u o) now others next) same part in
      let before = closes_from 0 (take u files) in
      let after = closes_from (0 + length (take (u + 1) files)) (drop (u + 1) files) in
      let all : closes_from 0 files ≡ closes_from 0 (take (u + 1) files) ++ after =
      ap (closes_from 0) (sym (take-append-drop (u + 1) files)) ∙ closes_append 0 (take (u + 1) files) (drop (u + 1) files) in
      let front : closes_from 0 (take (u + 1) files) ≡ (before ++ here.0) ++ here.1 =
      closes_to_next files u file.0 within file.1 ∙ ap (λ (l : List Statement). before ++ l) here.2 ∙ sym (append_assoc before here.0 here.1) in (
        before ++ here.0,
        here.1 ++ after,
        all ∙ ap (λ (l : List Statement). l ++ after) front ∙ append_assoc (before ++ here.0) here.1 after,
        steps_then (IsStretch library) before here.0 first now next lines others closed.steps here.3,
      )

  -- ---- the close of a file that is open, and of one that is not

  pub not_open : (u : ℕ) (run : Point S) (file : RunFile) → slice_get run.run.files u ≡ Some file → is_still_open file ≡ false → ClosesAt library u run [] run
  not_open u run file get is =
      subst (λ (o : Option RunFile). AreStretches library (close_at u o) run [] run) (sym get)
      (subst (λ (b : Bool). AreStretches library (if b then Perform u (Close false) ∷ [] else []) run [] run) (sym is) (no_steps (IsStretch library) run))

  pub is_closed : (u : ℕ) (run next : Point S) (lines : List Line) (file : RunFile) → slice_get run.run.files u ≡ Some file → is_still_open file ≡ true → IsStretch library (Perform u (Close false)) run lines next → ClosesAt library u run lines next
  is_closed u run next lines file get is step =
      subst (λ (o : Option RunFile). AreStretches library (close_at u o) run lines next) (sym get)
      (subst (λ (b : Bool). AreStretches library (if b then Perform u (Close false) ∷ [] else []) run lines next) (sym is) (one_step (IsStretch library) (Perform u (Close false)) run next lines step))

  pub is_closed_in_part : (u : ℕ) (run next : Point S) (lines : List Line) (file : RunFile) → slice_get run.run.files u ≡ Some file → is_still_open file ≡ true
      → AreStretchesInPart library (Perform u (Close false) ∷ []) run lines next → ClosesAtInPart library u run lines next
  is_closed_in_part u run next lines file get is steps =
      subst (λ (o : Option RunFile). AreStretchesInPart library (close_at u o) run lines next) (sym get)
      (subst (λ (b : Bool). AreStretchesInPart library (if b then Perform u (Close false) ∷ [] else []) run lines next) (sym is) steps)
