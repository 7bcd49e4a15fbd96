-- Counting equal values that stand together.
use Rattle.std.proofs.Common.{◌≡◌, ℕ, zero, suc, ◌+◌, ◌<◌, ◌≤◌, ◌^◌, Bool, true, false, List, [], ◌∷◌, ◌++◌, length, take, drop, max, min, Some, None, refl, ap, sym, ◌∙◌, arith, subst, slice_index_or, ◌⊎◌, inl, inr, ◌-◌}
use Rattle.std.specs.Prelude.{bytes_eq}
use Rattle.std.proofs.Math.Nat.{le-max_left, le-max_right, max-eq_left, max-eq_right}
use Rattle.std.proofs.Math.Seq.{take-suc}
use Rattle.std.proofs.lemmas.List.{length-append, length-map, length-take-le, append_assoc, map-append, append-nil, take-append-drop, take_all}
use Rattle.std.proofs.lemmas.Grind.{flat_map-append}
use Rattle.std.proofs.lemmas.Slice.Eq.{bytes_eq-Decides}
use Rattle.tree_node.specs.declared.shape.NodeShape.{NodeShape}
use Rattle.tree_node.specs.Leaf.{leaf_entries}
use Rattle.tree_search.specs.Calls.{last_of}
use Rattle.tree_search.proofs.SearchLemmas.{last_index}
use Rattle.page_walks.specs.declared.runs.Run.{Run}
use Rattle.page_walks.specs.Rows.{page_at, entries_in_row}
use Rattle.page_walks.specs.Runs.{values_of, count_of_value, AreTogether, RunOf, last_in, TakesValues}

abbrev pub one_if : Bool → ℕ
one_if true = 1
one_if false = 0

pub count_step : (v y : List ℕ) (ys : List (List ℕ)) → count_of_value v (y ∷ ys) ≡ one_if (bytes_eq v y) + count_of_value v ys
count_step v y ys = by_test (bytes_eq v y) refl
  where
    by_test : (b : Bool) → bytes_eq v y ≡ b → count_of_value v (y ∷ ys) ≡ one_if (bytes_eq v y) + count_of_value v ys
    by_test true is = rw is (omega arith)
    by_test false is = rw is (omega arith)

count_more : (v x : List ℕ) (xs : List (List ℕ)) → count_of_value v (xs ++ x ∷ []) ≡ count_of_value v xs + one_if (bytes_eq v x)
count_more v x [] = let s = count_step v x [] in omega (arith, s)
count_more v x (y ∷ ys) = let a = count_step v y (ys ++ x ∷ []) in let b = count_step v y ys in omega (arith, a, b, count_more v x ys)

same_is : (x y : List ℕ) → x ≡ y → one_if (bytes_eq x y) ≡ 1
same_is x y e = rw ((bytes_eq-Decides x y).1 e) refl

count_long : (v : List ℕ) (xs : List (List ℕ)) → count_of_value v xs ≤ length xs
count_long v [] = omega arith
count_long v (y ∷ ys) = by_test (bytes_eq v y) refl (count_long v ys)
  where
    by_test : (b : Bool) → bytes_eq v y ≡ b → count_of_value v ys ≤ length ys → count_of_value v (y ∷ ys) ≤ suc (length ys)
    by_test true is rest = let s = count_step v y ys in let one : one_if (bytes_eq v y) ≡ 1 = ap one_if is in omega (arith, s, one, rest)
    by_test false is rest = let s = count_step v y ys in let one : one_if (bytes_eq v y) ≡ 0 = ap one_if is in omega (arith, s, one, rest)

last_more : (xs : List (List ℕ)) (x : List ℕ) → last_of (xs ++ x ∷ []) ≡ Some x
last_more [] x = refl
last_more (y ∷ []) x = refl
last_more (y ∷ (z ∷ zs)) x = last_more (z ∷ zs) x

some_same : (x y : List ℕ) → Some x ≡ Some y → x ≡ y
some_same x y e = cc

pub at_front : (xs ys : List (List ℕ)) (i : ℕ) → i < length xs → slice_index_or (xs ++ ys) i [] ≡ slice_index_or xs i []
at_front [] ys i inside = absurd (omega arith)
at_front (x ∷ xs) ys zero inside = refl
at_front (x ∷ xs) ys (suc i) inside = at_front xs ys i (omega arith)

at_end : (xs : List (List ℕ)) (x : List ℕ) (n : ℕ) → n ≡ length xs → slice_index_or (xs ++ x ∷ []) n [] ≡ x
at_end [] x zero e = refl
at_end [] x (suc n) e = absurd (omega arith)
at_end (y ∷ ys) x zero e = absurd (omega arith)
at_end (y ∷ ys) x (suc n) e = at_end ys x n (omega arith)

pub together_front : (xs ys : List (List ℕ)) → AreTogether (xs ++ ys) → AreTogether xs
together_front xs ys together i j k a b inside same =
    let long = length-append xs ys in
    let at_i = at_front xs ys i (omega arith) in
    let at_j = at_front xs ys j (omega arith) in
    let at_k = at_front xs ys k inside in
    sym at_j ∙ together i j k a b (omega (arith, long)) (at_i ∙ same ∙ sym at_k) ∙ at_k

record FoundAt (v : List ℕ) (xs : List (List ℕ)) : Type 0 where
  pub i : ℕ
  pub inside : i < length xs
  pub is : slice_index_or xs i [] ≡ v

found : (v : List ℕ) (xs : List (List ℕ)) → 1 ≤ count_of_value v xs → FoundAt v xs
found v [] some = absurd (omega arith)
found v (y ∷ ys) some = by_test (bytes_eq v y) refl (λ more. found v ys more)
  where
    by_test : (b : Bool) → bytes_eq v y ≡ b → (1 ≤ count_of_value v ys → FoundAt v ys) → FoundAt v (y ∷ ys)
    by_test true is behind = record { i = 0; inside = omega arith; is = sym ((bytes_eq-Decides v y).0 is) }
    by_test false is behind =
        let s = count_step v y ys in
        let one : one_if (bytes_eq v y) ≡ 0 = ap one_if is in
        let rest = behind (omega (arith, s, one, some)) in
        record { i = suc rest.i; inside = (let h = rest.inside in omega arith); is = rest.is }

-- a value that stands together with its equals is the last one so far, or new
new_in : (xs : List (List ℕ)) (x : List ℕ) → AreTogether (xs ++ x ∷ []) → 1 ≤ count_of_value x xs → last_of xs ≡ Some x
new_in xs x together some =
    let at = found x xs some in
    let some_long = at.inside in
    let n = length xs - 1 in
    let back : n + 1 ≡ length xs = omega arith in
    let long = length-append xs (x ∷ []) in
    let at_i = at_front xs (x ∷ []) at.i at.inside in
    let at_n = at_front xs (x ∷ []) n (omega arith) in
    let end = at_end xs x (length xs) refl in
    let same = together at.i n (length xs) (omega arith) (omega arith) (omega (arith, long)) (at_i ∙ at.is ∙ sym end) in
    last_index xs n back ∙ ap Some (sym at_n ∙ same ∙ end)

-- one value more
pub run_more : (xs : List (List ℕ)) (x : List ℕ) (run new : Run) → RunOf xs run → new.length ≡ count_of_value x xs + 1 → last_in new ≡ Some x
    → new.longest ≡ max run.longest new.length → RunOf (xs ++ x ∷ []) new
run_more xs x run new so_far many last longest =
    let left = le-max_left run.longest new.length in
    let right = le-max_right run.longest new.length in
    record {
      last = last ∙ sym (last_more xs x);
      length_is = λ v e. let same : x ≡ v = some_same x v (sym (last_more xs x) ∙ e) in
          subst (λ (w : List ℕ). new.length ≡ count_of_value w (xs ++ x ∷ [])) same (let m = count_more x x xs in let one = same_is x x refl in omega (arith, m, one, many));
      longest = record {
        most = λ v. most v (bytes_eq v x) refl left right;
        some = some (le_or run.longest new.length);
      };
    }
  where
    most : (v : List ℕ) (b : Bool) → bytes_eq v x ≡ b → run.longest ≤ max run.longest new.length → new.length ≤ max run.longest new.length → count_of_value v (xs ++ x ∷ []) ≤ new.longest
    most v true is left right =
        let same : v ≡ x = (bytes_eq-Decides v x).0 is in
        let m = count_more v x xs in
        let one : one_if (bytes_eq v x) ≡ 1 = ap one_if is in
        let e : count_of_value v xs ≡ count_of_value x xs = ap (λ (w : List ℕ). count_of_value w xs) same in
        omega (arith, m, one, e, many, longest, right)
    most v false is left right =
        let m = count_more v x xs in
        let one : one_if (bytes_eq v x) ≡ 0 = ap one_if is in
        let old = so_far.longest.most v in
        omega (arith, m, one, old, longest, left)

    le_or : (a b : ℕ) → (a ≤ b) ⊎ (b < a)
    le_or zero b = inl (omega arith)
    le_or (suc a) zero = inr (omega arith)
    le_or (suc a) (suc b) = next (le_or a b)
      where
        next : (a ≤ b) ⊎ (b < a) → (suc a ≤ suc b) ⊎ (suc b < suc a)
        next (inl h) = inl (omega arith)
        next (inr h) = inr (omega arith)

    some : (run.longest ≤ new.length) ⊎ (new.length < run.longest) → (v : List ℕ) × (count_of_value v (xs ++ x ∷ []) ≡ new.longest)
    some (inl h) =
        let m = count_more x x xs in
        let one = same_is x x refl in
        let top : max run.longest new.length ≡ new.length = max-eq_right h in
        (x, omega (arith, m, one, many, longest, top))
    some (inr h) =
        let old = so_far.longest.some in
        let top : max run.longest new.length ≡ run.longest = max-eq_left (omega arith) in
        (old.0, kept old.0 old.1 (bytes_eq old.0 x) refl top h)
      where
        kept : (v : List ℕ) → count_of_value v xs ≡ run.longest → (b : Bool) → bytes_eq v x ≡ b → max run.longest new.length ≡ run.longest → new.length < run.longest → count_of_value v (xs ++ x ∷ []) ≡ new.longest
        kept v old true is top h =
            let same : v ≡ x = (bytes_eq-Decides v x).0 is in
            let e : count_of_value v xs ≡ count_of_value x xs = ap (λ (w : List ℕ). count_of_value w xs) same in
            absurd (omega (arith, old, e, many, h))
        kept v old false is top h =
            let m = count_more v x xs in
            let one : one_if (bytes_eq v x) ≡ 0 = ap one_if is in
            omega (arith, m, one, old, longest, top)

-- the length of the run that goes on, and of one that begins
pub goes_on : (xs : List (List ℕ)) (x : List ℕ) (run : Run) → RunOf xs run → last_in run ≡ Some x → run.length ≡ count_of_value x xs
goes_on xs x run so_far last = so_far.length_is x (sym so_far.last ∙ last)

pub begins : (xs : List (List ℕ)) (x : List ℕ) (run : Run) → RunOf xs run → AreTogether (xs ++ x ∷ []) → (last_in run ≡ Some x → ⊥) → count_of_value x xs ≡ 0
begins xs x run so_far together other = by_count (count_of_value x xs) refl
  where
    by_count : (n : ℕ) → count_of_value x xs ≡ n → count_of_value x xs ≡ 0
    by_count zero is = is
    by_count (suc n) is = absurd (other (so_far.last ∙ new_in xs x together (omega arith)))

pub run_short : (xs : List (List ℕ)) (x : List ℕ) (run : Run) → RunOf xs run → last_in run ≡ Some x → length (xs ++ x ∷ []) < 2 ^ 64 → run.length + 1 < 2 ^ 64
run_short xs x run so_far last few =
    let is = goes_on xs x run so_far last in
    let long = length-append xs (x ∷ []) in
    let n = count_long x xs in
    omega (arith, is, long, n, few)

-- what is counted stays below the greatest number
pub not_saturated : (n : ℕ) → n + 1 < 2 ^ 64 → min (n + 1) (2 ^ 64 - 1) ≡ n + 1
not_saturated n small = omega (arith, small)

-- what is known behind a value that is the last one or not
pub run_same : (xs : List (List ℕ)) (x : List ℕ) (run new : Run) → RunOf xs run → last_in run ≡ Some x → new.length ≡ run.length + 1 → last_in new ≡ Some x
    → new.longest ≡ max run.longest new.length → RunOf (xs ++ x ∷ []) new
run_same xs x run new so_far same many last longest =
    let is = goes_on xs x run so_far same in
    run_more xs x run new so_far (omega (arith, is, many)) last longest

pub run_other : (xs : List (List ℕ)) (x : List ℕ) (run new : Run) → RunOf xs run → AreTogether (xs ++ x ∷ []) → (last_in run ≡ Some x → ⊥) → new.length ≡ 1
    → last_in new ≡ Some x → new.longest ≡ max run.longest new.length → RunOf (xs ++ x ∷ []) new
run_other xs x run new so_far together other many last longest =
    let is = begins xs x run so_far together other in
    run_more xs x run new so_far (omega (arith, is, many)) last longest

-- the first values of entries, and one more
pub values_more : (width : ℕ) (es : List (List ℕ)) (i m : ℕ) → m ≡ suc i → i < length es
    → values_of width (take m es) ≡ values_of width (take i es) ++ take width (slice_index_or es i []) ∷ []
values_more width es i m e inside = rw e (ap (values_of width) (take-suc es i [] inside) ∙ map-append (take width) (take i es) (slice_index_or es i [] ∷ []))

pub values_whole : (width : ℕ) (es : List (List ℕ)) (i m : ℕ) (before : List (List ℕ)) → m ≡ suc i → i < length es → AreTogether (before ++ values_of width es)
    → AreTogether ((before ++ values_of width (take i es)) ++ take width (slice_index_or es i []) ∷ [])
values_whole width es i m before e inside together =
    let x = take width (slice_index_or es i []) in
    let front = values_of width (take i es) in
    let cut : values_of width es ≡ (front ++ x ∷ []) ++ values_of width (drop m es) =
    ap (values_of width) (sym (take-append-drop m es)) ∙ map-append (take width) (take m es) (drop m es)
    ∙ ap (λ (l : List (List ℕ)). l ++ values_of width (drop m es)) (values_more width es i m e inside) in
    let all : before ++ values_of width es ≡ ((before ++ front) ++ x ∷ []) ++ values_of width (drop m es) =
    ap (λ (l : List (List ℕ)). before ++ l) cut ∙ sym (append_assoc before (front ++ x ∷ []) (values_of width (drop m es)))
    ∙ ap (λ (l : List (List ℕ)). l ++ values_of width (drop m es)) (sym (append_assoc before front (x ∷ []))) in
    together_front ((before ++ front) ++ x ∷ []) (values_of width (drop m es)) (subst AreTogether all together)

-- so far the values before a leaf, and those of its first entries, wherever it stands
abbrev pub SoFar : ℕ → List (List ℕ) → Run → ℕ → Run → Type 0
SoFar width es start i run = (values : List (List ℕ)) → RunOf values start → AreTogether (values ++ values_of width es) → length (values ++ values_of width es) < 2 ^ 64
    → RunOf (values ++ values_of width (take i es)) run

values_few : (width : ℕ) (es before : List (List ℕ)) (x : List ℕ) (i : ℕ) → i < length es → length (before ++ values_of width es) < 2 ^ 64
    → length ((before ++ values_of width (take i es)) ++ x ∷ []) < 2 ^ 64
values_few width es before x i inside few =
    let front = values_of width (take i es) in
    let a = length-append (before ++ front) (x ∷ []) in
    let b = length-append before front in
    let c = length-append before (values_of width es) in
    let d = length-map (take i es) (take width) in
    let e = length-map es (take width) in
    let f = length-take-le i es (omega arith) in
    omega (arith, a, b, c, d, e, f, few)

pub entry_more : (width : ℕ) (es : List (List ℕ)) (i m : ℕ) (start run new : Run) (x : List ℕ) → m ≡ suc i → i < length es → x ≡ take width (slice_index_or es i [])
    → SoFar width es start i run → TakesValues (x ∷ []) run new → SoFar width es start m new
entry_more width es i m start run new x e inside is so_far adds values begun together few =
    let front = values_of width (take i es) in
    let last = take width (slice_index_or es i []) in
    let whole = values_whole width es i (suc i) values refl inside together in
    let done = adds (values ++ front) (so_far values begun together few) (subst (λ (y : List ℕ). AreTogether ((values ++ front) ++ y ∷ [])) (sym is) whole) (values_few width es values x i inside few) in
    let all : (values ++ front) ++ x ∷ [] ≡ values ++ values_of width (take m es) =
    ap (λ (y : List ℕ). (values ++ front) ++ y ∷ []) is ∙ append_assoc values front (last ∷ []) ∙ ap (λ (l : List (List ℕ)). values ++ l) (sym (values_more width es i m e inside)) in
    subst (λ (l : List (List ℕ)). RunOf l new) all done

pub leaf_done : (width : ℕ) (es : List (List ℕ)) (n : ℕ) (start run : Run) → n ≡ length es → SoFar width es start n run → TakesValues (values_of width es) start run
leaf_done width es n start run e so_far values begun together few =
    subst (λ (l : List (List ℕ)). RunOf (values ++ values_of width l) run) (take_all n es (omega arith)) (so_far values begun together few)

-- nothing so far
pub run_none : (run : Run) → last_in run ≡ None → run.longest ≡ 0 → RunOf [] run
run_none run none zero' = record {
  last = none;
  length_is = λ v e. absurd (let no : None ≡ Some v = e in cc);
  longest = record { most = λ v. omega arith; some = ([], sym zero') };
}

module _ (width : ℕ) (shape : NodeShape) (list : List (List ℕ)) (row : List ℕ) where
  leaf_values : (k m : ℕ) → m ≡ suc k → k < length row
      → values_of width (entries_in_row shape list (take m row)) ≡ values_of width (entries_in_row shape list (take k row)) ++ values_of width (leaf_entries shape (page_at list (slice_index_or row k 0)))
  leaf_values k m e inside =
      let n = slice_index_or row k 0 in
      let one : entries_in_row shape list (take (suc k) row) ≡ entries_in_row shape list (take k row) ++ leaf_entries shape (page_at list n) =
      ap (entries_in_row shape list) (take-suc row k 0 inside) ∙ flat_map-append (λ (n : ℕ). leaf_entries shape (page_at list n)) (take k row) (n ∷ [])
      ∙ ap (λ (l : List (List ℕ)). entries_in_row shape list (take k row) ++ l) (append-nil (leaf_entries shape (page_at list n))) in
      rw e (ap (values_of width) one ∙ map-append (take width) (entries_in_row shape list (take k row)) (leaf_entries shape (page_at list n)))

  whole_values : (k m : ℕ) → m ≡ suc k → k < length row → values_of width (entries_in_row shape list row)
      ≡ (values_of width (entries_in_row shape list (take k row)) ++ values_of width (leaf_entries shape (page_at list (slice_index_or row k 0)))) ++ values_of width (entries_in_row shape list (drop m row))
  whole_values k m e inside =
      ap (λ (l : List ℕ). values_of width (entries_in_row shape list l)) (sym (take-append-drop m row))
      ∙ ap (values_of width) (flat_map-append (λ (n : ℕ). leaf_entries shape (page_at list n)) (take m row) (drop m row))
      ∙ map-append (take width) (entries_in_row shape list (take m row)) (entries_in_row shape list (drop m row))
      ∙ ap (λ (l : List (List ℕ)). l ++ values_of width (entries_in_row shape list (drop m row))) (leaf_values k m e inside)

  pub leaf_adds : (k m : ℕ) (run new : Run) → m ≡ suc k → k < length row → length (entries_in_row shape list row) < 2 ^ 64
      → AreTogether (values_of width (entries_in_row shape list row))
      → RunOf (values_of width (entries_in_row shape list (take k row))) run
      → TakesValues (values_of width (leaf_entries shape (page_at list (slice_index_or row k 0)))) run new
      → RunOf (values_of width (entries_in_row shape list (take m row))) new
  leaf_adds k m run new e inside few together so_far adds =
      let front = values_of width (entries_in_row shape list (take k row)) in
      let here = values_of width (leaf_entries shape (page_at list (slice_index_or row k 0))) in
      let back = values_of width (entries_in_row shape list (drop m row)) in
      let all = whole_values k m e inside in
      let a = ap length all in
      let b = length-append (front ++ here) back in
      let c = length-map (entries_in_row shape list row) (take width) in
      subst (λ (l : List (List ℕ)). RunOf l new) (sym (leaf_values k m e inside))
      (adds front so_far (together_front (front ++ here) back (subst AreTogether all together)) (omega (arith, a, b, c, few)))
