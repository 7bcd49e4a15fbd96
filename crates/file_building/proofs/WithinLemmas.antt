-- Entries between two ranks: how they part into those up to a top and those above it.
use Rattle.std.proofs.Common.{◌≡◌, inl, inr, ℕ, suc, ◌+◌, ◌≤◌, ◌&&◌, Bool, true, false, not, List, [], ◌∷◌, length, refl, ap, sym, subst, ◌∙◌, arith, cond, Option, None, Some}
use Rattle.std.specs.List.{filter}
use Rattle.std.proofs.lemmas.List.Sorted.{ranks_by}
use Rattle.std.specs.Cmp.{IsStrictWeakOrder}
use Rattle.pages.specs.Each.{Each}
use Rattle.pages.proofs.EachLemmas.{each_weaker}
use Rattle.record_heap.specs.Chain.{IsOneOf}
use Rattle.key_index.specs.declared.entry.AltEntry.{AltEntry}
use Rattle.open_file.proofs.OrderLemmas.{either}
use Rattle.file_building.specs.Ranks.{is_lower, Untied, AreUntied}
use Rattle.file_building.specs.Held.{entries_up_to}
use Rattle.file_building.specs.Within.{is_below_top, entries_within}
use Rattle.file_building.proofs.RankLemmas.{onward, itself, rank_total}

ranked : IsStrictWeakOrder is_lower
ranked = ranks_by rank_total (λ (e : AltEntry). e)

-- what is not above an entry that is not above another is not above that
pub chain : (a b c : AltEntry) → is_lower a b ≡ false → is_lower b c ≡ false → is_lower a c ≡ false
chain = ranked.chain

-- what is above an entry is above those that are not above it
pub below_top : (x t e : AltEntry) → is_lower t x ≡ false → is_lower t e ≡ true → is_lower x e ≡ true
below_top x t e up high = either (is_lower x e) (is_lower x e ≡ true) (λ low. low) (λ off. let never = chain t x e up off in absurd (cc (never, high)))

-- ---- filtered lists

module _ {X : Type 0} (test : X → Bool) where
  pub each_left : (P : X → Type 0) (xs : List X) → Each P xs → Each P (filter test xs)
  each_left P [] all = tt
  each_left P (x ∷ xs) all = by_test (test x) (each_left P xs all.1)
    where
      by_test : (b : Bool) → Each P (filter test xs) → Each P (cond b (x ∷ filter test xs) (filter test xs))
      by_test true rest = (all.0, rest)
      by_test false rest = rest

  pub each_passes : (xs : List X) → Each (λ x. test x ≡ true) (filter test xs)
  each_passes [] = tt
  each_passes (x ∷ xs) = by_test (test x) refl (each_passes xs)
    where
      by_test : (b : Bool) → test x ≡ b → Each (λ x. test x ≡ true) (filter test xs) → Each (λ x. test x ≡ true) (cond b (x ∷ filter test xs) (filter test xs))
      by_test true is rest = (is, rest)
      by_test false is rest = rest

  pub each_is_of : (xs : List X) → Each (IsOneOf xs) (filter test xs)
  each_is_of [] = tt
  each_is_of (x ∷ xs) = by_test (test x) (each_weaker (IsOneOf xs) (IsOneOf (x ∷ xs)) (λ y one. inr one) (filter test xs) (each_is_of xs))
    where
      by_test : (b : Bool) → Each (IsOneOf (x ∷ xs)) (filter test xs) → Each (IsOneOf (x ∷ xs)) (cond b (x ∷ filter test xs) (filter test xs))
      by_test true rest = (inl refl, rest)
      by_test false rest = rest

  pub untied_left : (lt : X → X → Bool) (xs : List X) → AreUntied lt xs → AreUntied lt (filter test xs)
  untied_left lt [] all = tt
  untied_left lt (x ∷ xs) all = by_test (test x) (untied_left lt xs all.1)
    where
      by_test : (b : Bool) → AreUntied lt (filter test xs) → AreUntied lt (cond b (x ∷ filter test xs) (filter test xs))
      by_test true rest = (each_left (Untied lt x) xs all.0, rest)
      by_test false rest = rest

pub each_one : {X : Type 0} (P : X → Type 0) (xs : List X) (x : X) → Each P xs → IsOneOf xs x → P x
each_one P [] x all one = absurd one
each_one P (y ∷ xs) x all (inl same) = subst P (sym same) all.0
each_one P (y ∷ xs) x all (inr one) = each_one P xs x all.1 one

-- ---- cut at a top

-- those up to a top are those that are held up to it
pub cut_within : (above t : AltEntry) (top : Option AltEntry) (es : List AltEntry) → is_below_top top t ≡ true
    → entries_up_to t (entries_within above top es) ≡ entries_within above (Some t) es
cut_within above t top [] up = refl
cut_within above t top (e ∷ es) up = step (cut_within above t top es up)
  where
    still : is_lower t e ≡ false → is_below_top top e ≡ true
    still under = by_top top up
      where
        by_top : (top : Option AltEntry) → is_below_top top t ≡ true → is_below_top top e ≡ true
        by_top None h = refl
        by_top (Some u) h = (let no : is_lower u t ≡ false = by_not (is_lower u t) h in ap not (chain u t e no under))
          where
            by_not : (b : Bool) → not b ≡ true → b ≡ false
            by_not true h = sym h
            by_not false h = refl

    step : entries_up_to t (entries_within above top es) ≡ entries_within above (Some t) es → entries_up_to t (entries_within above top (e ∷ es)) ≡ entries_within above (Some t) (e ∷ es)
    step rest =
        either (is_lower above e) (entries_up_to t (entries_within above top (e ∷ es)) ≡ entries_within above (Some t) (e ∷ es))
        (λ low. either (is_lower t e) (entries_up_to t (entries_within above top (e ∷ es)) ≡ entries_within above (Some t) (e ∷ es))
        (λ over. either (is_below_top top e) (entries_up_to t (entries_within above top (e ∷ es)) ≡ entries_within above (Some t) (e ∷ es))
        (λ within. rw (low, within, over) rest)
        (λ out. rw (low, out, over) rest))
        (λ under. rw (low, still under, under) (ap (λ (l : List AltEntry). e ∷ l) rest)))
        (λ off. rw off rest)

-- one of them is not above itself
pub some_up_to : (t : AltEntry) (es : List AltEntry) → IsOneOf es t → 1 ≤ length (entries_up_to t es)
some_up_to t [] one = absurd one
some_up_to t (e ∷ es) (inl same) =
    let no : is_lower t e ≡ false = ap (is_lower t) (sym same) ∙ itself t in
    rw no (omega arith)
some_up_to t (e ∷ es) (inr one) = by_test (is_lower t e) (some_up_to t es one)
  where
    by_test : (b : Bool) → 1 ≤ length (entries_up_to t es) → 1 ≤ length (cond (not b) (e ∷ entries_up_to t es) (entries_up_to t es))
    by_test true some = some
    by_test false some = omega arith

-- ---- how many are left

-- so many are of a higher rank
abbrev pub count_above : AltEntry → List AltEntry → ℕ
count_above above es = length (filter (is_lower above) es)

pub count_parts : (above t : AltEntry) (es : List AltEntry) → is_lower above t ≡ true → length (entries_within above (Some t) es) + count_above t es ≡ count_above above es
count_parts above t [] higher = refl
count_parts above t (e ∷ es) higher = step (count_parts above t es higher)
  where
    step : length (entries_within above (Some t) es) + count_above t es ≡ count_above above es → length (entries_within above (Some t) (e ∷ es)) + count_above t (e ∷ es) ≡ count_above above (e ∷ es)
    step rest =
        either (is_lower t e) (length (entries_within above (Some t) (e ∷ es)) + count_above t (e ∷ es) ≡ count_above above (e ∷ es))
        (λ over. let low = onward above t e higher over in rw (over, low) (omega (arith, rest)))
        (λ under. either (is_lower above e) (length (entries_within above (Some t) (e ∷ es)) + count_above t (e ∷ es) ≡ count_above above (e ∷ es))
        (λ low. rw (under, low) (omega (arith, rest)))
        (λ off. rw (under, off) rest))

pub count_all : (above : AltEntry) (es : List AltEntry) → length (entries_within above None es) ≡ count_above above es
count_all above [] = refl
count_all above (e ∷ es) = by_test (is_lower above e) (count_all above es)
  where
    by_test : (b : Bool) → length (entries_within above None es) ≡ count_above above es → length (cond (b && true) (e ∷ entries_within above None es) (entries_within above None es)) ≡ length (cond b (e ∷ filter (is_lower above) es) (filter (is_lower above) es))
    by_test true rest = ap suc rest
    by_test false rest = rest
