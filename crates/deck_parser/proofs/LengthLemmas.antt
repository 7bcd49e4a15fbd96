-- A text is compared with words of its length alone.
use Rattle.std.proofs.Common.{◌≡◌, ℕ, ◌==◌, ◌&&◌, ◌||◌, not, Bool, true, false, cond, List, [], ◌∷◌, length, refl, sym, ap, ◌∙◌, subst, arith}
use Rattle.std.specs.List.{list_any}
use Rattle.std.specs.Str.{bytes_eq}
use Rattle.std.proofs.lemmas.Bool.Decides.{nat_tests}
use Rattle.std.proofs.lemmas.Slice.Eq.{bytes_eq-Decides}

-- the words of a length of which this is so
abbrev pub kept : (ℕ → Bool) → List (List ℕ) → List (List ℕ)
kept keep [] = []
kept keep (word ∷ words) = cond (keep (length word)) (word ∷ kept keep words) (kept keep words)

alike : (word text : List ℕ) → bytes_eq word text ≡ true → word ≡ text
alike word text e = grind (arith, bytes_eq-Decides, e)

-- a word that is not kept is not the text
not_kept : (keep : ℕ → Bool) (found : Bool) (word text : List ℕ) → keep (length text) ≡ true → keep (length word) ≡ false → bytes_eq word text ≡ found → found ≡ false
not_kept keep false word text here other is = refl
not_kept keep true word text here other is = sym (subst (λ (t : List ℕ). keep (length t) ≡ true) (sym (alike word text is)) here) ∙ other

by_case : (keep : ℕ → Bool) (b : Bool) (word text : List ℕ) (words rest : List (List ℕ)) → keep (length text) ≡ true → keep (length word) ≡ b → list_any (λ w. bytes_eq w text) words ≡ list_any (λ w. bytes_eq w text) rest
    → (bytes_eq word text || list_any (λ w. bytes_eq w text) words) ≡ list_any (λ w. bytes_eq w text) (cond b (word ∷ rest) rest)
by_case keep true word text words rest here is same = ap (λ v. bytes_eq word text || v) same
by_case keep false word text words rest here is same = ap (λ v. v || list_any (λ w. bytes_eq w text) words) (not_kept keep (bytes_eq word text) word text here is refl) ∙ same

-- the text is among the words where it is among those of its length
pub by_length : (keep : ℕ → Bool) (text : List ℕ) → keep (length text) ≡ true → (words : List (List ℕ)) → list_any (λ word. bytes_eq word text) words ≡ list_any (λ word. bytes_eq word text) (kept keep words)
by_length keep text here [] = refl
by_length keep text here (word ∷ words) = by_case keep (keep (length word)) word text words (kept keep words) here refl (by_length keep text here words)

-- ---- lengths

pub is_length : (k n : ℕ) → k ≡ n → (k == n) ≡ true
is_length k n h = grind (arith, nat_tests, h)

no_length : (k n : ℕ) → (k ≡ n → ⊥) → (k == n) ≡ false
no_length k n h = grind (arith, nat_tests, h)

-- none of the lengths 2 to 7
abbrev pub is_longer : ℕ → Bool
is_longer k = not (k == 2) && (not (k == 3) && (not (k == 4) && (not (k == 5) && (not (k == 6) && not (k == 7)))))

pub longer : (k : ℕ) → (k ≡ 2 → ⊥) → (k ≡ 3 → ⊥) → (k ≡ 4 → ⊥) → (k ≡ 5 → ⊥) → (k ≡ 6 → ⊥) → (k ≡ 7 → ⊥) → is_longer k ≡ true
longer k two three four five six seven =
    rw (no_length k 2 two, no_length k 3 three, no_length k 4 four, no_length k 5 five, no_length k 6 six, no_length k 7 seven) refl
