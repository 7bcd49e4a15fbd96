-- What one more byte adds to how lines end.
use Rattle.std.proofs.Common.{◌≡◌, ℕ, ◌+◌, Bool, true, false, ◌||◌, List, [], ◌∷◌, ◌++◌, length, drop, take, get_or, suc, ◌-◌, ◌≤◌, ◌==◌, ◌&&◌, cond, refl, ap, sym, ◌∙◌, append_assoc, drop-cons, inl, inr, arith, length-append}
use Rattle.std.proofs.lemmas.List.{take-append-drop}
use Rattle.std.proofs.Math.Seq.{drop-append-add}
use Rattle.std.specs.List.{sum_by}
use Rattle.std.proofs.lemmas.List.Sums.{sum_by-append}
use Rattle.std.proofs.lemmas.Bool.{cases_Bool}
use Rattle.std.proofs.lemmas.List.{append-nil}
use Rattle.streams.specs.LinesIn.{IsWithinLine}
use Rattle.streams.specs.LineEnds.{is_failed_end, is_failing, ends_failed, has_failed_line, AreEndsOf}
use Rattle.streams.specs.declared.line_ends.LineEnds.{LineEnds}

or_assoc : (a b c : Bool) → (a || (b || c)) ≡ ((a || b) || c)
or_assoc true b c = refl
or_assoc false b c = refl

or_false : (a : Bool) → (a || false) ≡ a
or_false true = refl
or_false false = refl

-- a byte behind four or more does not change what begins them
ends_same : (f : ℕ) (front : List ℕ) (a b c x : ℕ) → ends_failed (f ∷ (front ++ a ∷ b ∷ c ∷ x ∷ [])) ≡ ends_failed (f ∷ (front ++ a ∷ b ∷ c ∷ []))
ends_same f [] a b c x = refl
ends_same f (g ∷ []) a b c x = refl
ends_same f (g ∷ h ∷ []) a b c x = refl
ends_same f (g ∷ h ∷ i ∷ front) a b c x = refl

failed_behind : (front : List ℕ) (a b c x : ℕ) → has_failed_line (front ++ a ∷ b ∷ c ∷ x ∷ []) ≡ (has_failed_line (front ++ a ∷ b ∷ c ∷ []) || is_failed_end a b c x)
failed_behind [] a b c x = or_false (is_failed_end a b c x)
failed_behind (f ∷ front) a b c x =
    ap (λ e. e || has_failed_line (front ++ a ∷ b ∷ c ∷ x ∷ [])) (ends_same f front a b c x)
    ∙ ap (λ h. ends_failed (f ∷ (front ++ a ∷ b ∷ c ∷ [])) || h) (failed_behind front a b c x)
    ∙ or_assoc (ends_failed (f ∷ (front ++ a ∷ b ∷ c ∷ []))) (has_failed_line (front ++ a ∷ b ∷ c ∷ [])) (is_failed_end a b c x)

-- three LF in front end no line so
led : (s : List ℕ) → has_failed_line (10 ∷ 10 ∷ 10 ∷ s) ≡ has_failed_line s
led [] = refl
led (a ∷ []) = refl
led (a ∷ b ∷ []) = refl
led (a ∷ b ∷ c ∷ s) = refl

-- what one more byte adds
pub failed_more : (s : List ℕ) (a b c x : ℕ) → drop (length s) (10 ∷ 10 ∷ 10 ∷ s) ≡ a ∷ b ∷ c ∷ [] → has_failed_line (s ++ x ∷ []) ≡ (has_failed_line s || is_failed_end a b c x)
failed_more s a b c x window =
    let front = take (length s) (10 ∷ 10 ∷ 10 ∷ s) in
    let whole : 10 ∷ 10 ∷ 10 ∷ s ≡ front ++ a ∷ b ∷ c ∷ [] = sym (take-append-drop (length s) (10 ∷ 10 ∷ 10 ∷ s)) ∙ ap (λ r. front ++ r) window in
    let more : 10 ∷ 10 ∷ 10 ∷ (s ++ x ∷ []) ≡ front ++ a ∷ b ∷ c ∷ x ∷ [] = ap (λ r. r ++ x ∷ []) whole ∙ append_assoc front (a ∷ b ∷ c ∷ []) (x ∷ []) in
    sym (led (s ++ x ∷ [])) ∙ ap has_failed_line more ∙ failed_behind front a b c x
    ∙ ap (λ h. h || is_failed_end a b c x) (ap has_failed_line (sym whole) ∙ led s)

-- the last three bytes, after one more
pub window_more : (s : List ℕ) (a b c x : ℕ) → drop (length s) (10 ∷ 10 ∷ 10 ∷ s) ≡ a ∷ b ∷ c ∷ [] → drop (length (s ++ x ∷ [])) (10 ∷ 10 ∷ 10 ∷ (s ++ x ∷ [])) ≡ b ∷ c ∷ x ∷ []
window_more s a b c x window =
    let l : List ℕ = 10 ∷ 10 ∷ 10 ∷ s in
    let front = take (length s) l in
    let whole : l ≡ front ++ a ∷ b ∷ c ∷ [] = sym (take-append-drop (length s) l) ∙ ap (λ r. front ++ r) window in
    let more : l ++ x ∷ [] ≡ front ++ a ∷ b ∷ c ∷ x ∷ [] = ap (λ r. r ++ x ∷ []) whole ∙ append_assoc front (a ∷ b ∷ c ∷ []) (x ∷ []) in
    let long : length (s ++ x ∷ []) ≡ length front + 1 = omega (arith, length-append s (x ∷ []), length-append front (a ∷ b ∷ c ∷ []), ap (λ (r : List ℕ). length r) whole) in
    ap (λ n. drop n (l ++ x ∷ [])) long ∙ ap (drop (length front + 1)) more ∙ drop-append-add front (a ∷ b ∷ c ∷ x ∷ []) 1

-- ---- bytes of one line

and_false : (a : Bool) → (a && false) ≡ false
and_false true = refl
and_false false = refl

-- the first of them is no LF, and the others are bytes of one line
no_end : (x : ℕ) (t : List ℕ) → IsWithinLine (x ∷ t) → ((x == 10) ≡ false) × IsWithinLine t
no_end x t within =
    let f : ℕ → ℕ = λ b. cond (b == 10) 1 0 in
    let sum : (0 + cond (x == 10) 1 0) + sum_by f t ≡ 0 = sym (sum_by-append f (x ∷ []) t) ∙ within in
    elim (cases_Bool (x == 10)) [
      | inl end ↦ let more : (0 + 1) + sum_by f t ≡ 0 = rw end at sum in absurd (omega (arith, more))
      | inr other ↦ let rest : sum_by f t ≡ 0 = omega (arith, sum) in (other, rest)
    ]

no_failed_end : (a b c x : ℕ) → (x == 10) ≡ false → is_failed_end a b c x ≡ false
no_failed_end a b c x other = ap (λ (e : Bool). (a == 32) && is_failing b c && e) other ∙ and_false ((a == 32) && is_failing b c)

-- they end no line
pub pass_failed : (t s : List ℕ) (a b c : ℕ) → drop (length s) (10 ∷ 10 ∷ 10 ∷ s) ≡ a ∷ b ∷ c ∷ [] → IsWithinLine t → has_failed_line (s ++ t) ≡ has_failed_line s
pass_failed [] s a b c window within = ap has_failed_line (append-nil s)
pass_failed (x ∷ t) s a b c window within =
    let parts = no_end x t within in
    ap has_failed_line (sym (append_assoc s (x ∷ []) t))
    ∙ pass_failed t (s ++ x ∷ []) b c x (window_more s a b c x window) parts.1
    ∙ failed_more s a b c x window
    ∙ ap (λ (e : Bool). has_failed_line s || e) (no_failed_end a b c x parts.0)
    ∙ or_false (has_failed_line s)

past_end : (t : List ℕ) → drop (length t) t ≡ []
past_end [] = refl
past_end (x ∷ t) = past_end t

-- the last three bytes are those of three or more that follow
pub pass_window : (s t : List ℕ) (n : ℕ) → length t ≡ n + 3 → drop (length (s ++ t)) (10 ∷ 10 ∷ 10 ∷ (s ++ t)) ≡ get_or t n 0 ∷ get_or t (suc n) 0 ∷ get_or t (suc (suc n)) 0 ∷ []
pass_window s t n long =
    let many : length (s ++ t) ≡ length (10 ∷ 10 ∷ 10 ∷ s) + n = omega (arith, length-append s t, long) in
    let all : suc (suc (suc n)) ≡ length t = omega (arith, long) in
    ap (λ (k : ℕ). drop k (10 ∷ 10 ∷ 10 ∷ (s ++ t))) many
    ∙ drop-append-add (10 ∷ 10 ∷ 10 ∷ s) t n
    ∙ drop-cons t n 0 (omega (arith, long))
    ∙ ap (λ (r : List ℕ). get_or t n 0 ∷ r) (drop-cons t (suc n) 0 (omega (arith, long)))
    ∙ ap (λ (r : List ℕ). get_or t n 0 ∷ get_or t (suc n) 0 ∷ r) (drop-cons t (suc (suc n)) 0 (omega (arith, long)))
    ∙ ap (λ (r : List ℕ). get_or t n 0 ∷ get_or t (suc n) 0 ∷ get_or t (suc (suc n)) 0 ∷ r) (ap (λ (k : ℕ). drop k t) all ∙ past_end t)

pub passed : (s t : List ℕ) (ends : LineEnds) (i j k : ℕ) → 3 ≤ length t → i ≡ length t - 3 → j ≡ length t - 2 → k ≡ length t - 1 → IsWithinLine t → AreEndsOf s ends
    → AreEndsOf (s ++ t) (record { third = get_or t i 0; second = get_or t j 0; last = get_or t k 0; failed = ends.failed })
passed s t ends i j k long is_i is_j is_k within h =
    let second : suc i ≡ j = omega (arith, is_i, is_j, long) in
    let last : suc (suc i) ≡ k = omega (arith, is_i, is_k, long) in
    record {
      window = pass_window s t i (omega (arith, is_i, long))
          ∙ ap (λ (n : ℕ). get_or t i 0 ∷ get_or t n 0 ∷ get_or t (suc (suc i)) 0 ∷ []) second
          ∙ ap (λ (n : ℕ). get_or t i 0 ∷ get_or t j 0 ∷ get_or t n 0 ∷ []) last;
      failed = h.failed ∙ sym (pass_failed t s ends.third ends.second ends.last h.window within);
    }

-- ---- a line behind others

pub line_behind : (before done line : List ℕ) → (((before ++ done) ++ line) ++ 10 ∷ []) ≡ before ++ (done ++ (line ++ 10 ∷ []))
line_behind before done line = append_assoc (before ++ done) line (10 ∷ []) ∙ append_assoc before done (line ++ 10 ∷ [])

pub line_whole : (done line after : List ℕ) → done ++ (line ++ 10 ∷ after) ≡ (done ++ (line ++ 10 ∷ [])) ++ after
line_whole done line after = sym (append_assoc done (line ++ 10 ∷ []) after ∙ ap (λ (r : List ℕ). done ++ r) (append_assoc line (10 ∷ []) after))
