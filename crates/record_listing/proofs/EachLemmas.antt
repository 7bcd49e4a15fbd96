-- What is so of each of some rows, and of those of them that pass a test.
use Rattle.std.proofs.Common.{◌≡◌, ◌⊎◌, inl, inr, ◌≤◌, ◌<◌, ℕ, zero, suc, Bool, true, false, List, [], ◌∷◌, length, take, filter, refl, sym, ap, subst, arith}
use Rattle.pages.specs.Each.{Each}
use Rattle.record_layout.specs.Schema.{Schema}
use Rattle.indexed_file.specs.File.{Row}
use Rattle.indexed_file.specs.Laws.{IsOf}
use Rattle.indexed_file.proofs.TestLemmas.{either}
use Rattle.indexed_file.proofs.RankLemmas.{differ}
use Rattle.record_listing.specs.Listed.{ComesBefore, Rise}

pub each_weaker : (P Q : Row → Type 0) → ((row : Row) → P row → Q row) → (rows : List Row) → Each P rows → Each Q rows
each_weaker P Q weaker [] all = tt
each_weaker P Q weaker (row ∷ rows) all = (weaker row all.0, each_weaker P Q weaker rows all.1)

-- so it is of one of them
each_of : (P : Row → Type 0) (rows : List Row) (row : Row) → Each P rows → IsOf rows row → P row
each_of P [] row all is = absurd is
each_of P (other ∷ rows) row all (inl same) = subst P (sym same) all.0
each_of P (other ∷ rows) row all (inr more) = each_of P rows row all.1 more

-- of the first of them
pub each_take : (P : Row → Type 0) (n : ℕ) (rows : List Row) → Each P rows → Each P (take n rows)
each_take P zero rows all = tt
each_take P (suc n) [] all = tt
each_take P (suc n) (row ∷ rows) all = (all.0, each_take P n rows all.1)

-- and of those that pass a test
pub each_filter : (P : Row → Type 0) (test : Row → Bool) (rows : List Row) → Each P rows → Each (λ row. P row × (test row ≡ true)) (filter test rows)
each_filter P test [] all = tt
each_filter P test (row ∷ rows) all =
    either (test row) (Each (λ r. P r × (test r ≡ true)) (filter test (row ∷ rows)))
    (λ yes. rw yes ((all.0, yes), each_filter P test rows all.1))
    (λ no. rw no (each_filter P test rows all.1))

-- ---- how many they are

pub few_taken : (n : ℕ) (rows : List Row) → length (take n rows) ≤ n
few_taken zero rows = omega arith
few_taken (suc n) [] = omega arith
few_taken (suc n) (row ∷ rows) = let rest = few_taken n rows in omega (arith, rest)

pub few_filtered : (test : Row → Bool) (rows : List Row) → length (filter test rows) ≤ length rows
few_filtered test [] = omega arith
few_filtered test (row ∷ rows) =
    let rest = few_filtered test rows in
    either (test row) (length (filter test (row ∷ rows)) ≤ suc (length rows))
    (λ yes. rw yes (omega (arith, rest)))
    (λ no. rw no (omega (arith, rest)))

-- a row that passes is among those that do
pub in_filter : (test : Row → Bool) (rows : List Row) (row : Row) → IsOf rows row → test row ≡ true → IsOf (filter test rows) row
in_filter test [] row is pass = absurd is
in_filter test (other ∷ rows) row is pass =
    either (test other) (IsOf (filter test (other ∷ rows)) row)
    (λ yes. rw yes (elim is [ inl same ↦ inl same | inr more ↦ inr (in_filter test rows row more pass) ]))
    (λ no. rw no (elim is [ inl same ↦ absurd (differ pass (subst (λ (r : Row). test r ≡ false) (sym same) no)) | inr more ↦ in_filter test rows row more pass ]))

some_of : (rows : List Row) (row : Row) → IsOf rows row → length rows ≤ 0 → ⊥
some_of [] row is none = is
some_of (other ∷ rows) row is none = omega (arith, none)

-- none passes where none is left
pub some_pass : (test : Row → Bool) (rows : List Row) (row : Row) → IsOf rows row → test row ≡ true → length (filter test rows) ≤ 0 → ⊥
some_pass test rows row is pass none = some_of (filter test rows) row (in_filter test rows row is pass) none

module _ (p q : Row → Bool) (weaker : (row : Row) → p row ≡ true → q row ≡ true) where
  -- no fewer pass a weaker test
  no_fewer : (rows : List Row) → length (filter p rows) ≤ length (filter q rows)
  no_fewer [] = omega arith
  no_fewer (row ∷ rows) =
      let rest = no_fewer rows in
      either (p row) (length (filter p (row ∷ rows)) ≤ length (filter q (row ∷ rows)))
      (λ yes. rw (yes, weaker row yes) (omega (arith, rest)))
      (λ no. rw no (either (q row) (length (filter p rows) ≤ length (filter q (row ∷ rows)))
      (λ yes. rw yes (omega (arith, rest)))
      (λ other. rw other (omega (arith, rest)))))

  -- and more, where a row passes that alone
  pub fewer : (rows : List Row) (row : Row) → IsOf rows row → p row ≡ false → q row ≡ true → length (filter p rows) < length (filter q rows)
  fewer [] row is fails passes = absurd is
  fewer (other ∷ rows) row (inl same) fails passes =
      let rest = no_fewer rows in
      let other_fails : p other ≡ false = subst (λ (r : Row). p r ≡ false) same fails in
      let other_passes : q other ≡ true = subst (λ (r : Row). q r ≡ true) same passes in
      rw (other_fails, other_passes) (omega (arith, rest))
  fewer (other ∷ rows) row (inr more) fails passes =
      let rest = fewer rows row more fails passes in
      either (p other) (length (filter p (other ∷ rows)) < length (filter q (other ∷ rows)))
      (λ pass. rw (pass, weaker other pass) (omega (arith, rest)))
      (λ fail. rw fail (either (q other) (length (filter p rows) < length (filter q (other ∷ rows)))
      (λ pass. rw pass (omega (arith, rest)))
      (λ failed. rw failed (omega (arith, rest)))))

-- ---- rows that rise

module _ (schema : Schema) (k : ℕ) where
  pub rise_filter : (test : Row → Bool) (rows : List Row) → Rise schema k rows → Rise schema k (filter test rows)
  rise_filter test [] rise = tt
  rise_filter test (row ∷ rows) rise =
      let rest = rise_filter test rows rise.1 in
      let behind : Each (ComesBefore schema k row) (filter test rows) =
      each_weaker (λ r. ComesBefore schema k row r × (test r ≡ true)) (ComesBefore schema k row) (λ r both. both.0) (filter test rows) (each_filter (ComesBefore schema k row) test rows rise.0) in
      either (test row) (Rise schema k (filter test (row ∷ rows)))
      (λ yes. rw yes (behind, rest))
      (λ no. rw no rest)

  pub rise_take : (n : ℕ) (rows : List Row) → Rise schema k rows → Rise schema k (take n rows)
  rise_take zero rows rise = tt
  rise_take (suc n) [] rise = tt
  rise_take (suc n) (row ∷ rows) rise = (each_take (ComesBefore schema k row) n rows rise.0, rise_take n rows rise.1)

  -- one of them is among the first, or those are as many as are taken, and come before it
  pub in_front : (n : ℕ) (rows : List Row) (row : Row) → Rise schema k rows → IsOf rows row
      → IsOf (take n rows) row ⊎ ((length (take n rows) ≡ n) × Each (λ other. ComesBefore schema k other row) (take n rows))
  in_front zero rows row rise is = inr (refl, tt)
  in_front (suc n) [] row rise is = absurd is
  in_front (suc n) (first ∷ rows) row rise (inl same) = inl (inl same)
  in_front (suc n) (first ∷ rows) row rise (inr more) =
      elim (in_front n rows row rise.1 more) [
        | inl there ↦ inl (inr there)
        | inr full ↦ inr (ap suc full.0, (each_of (λ r. ComesBefore schema k first r) rows row rise.0 more, full.1))
      ]
