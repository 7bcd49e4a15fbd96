-- The same pages have the same free ones, and the same in use. Only the pages that are counted are looked at.
use Rattle.std.proofs.Common.{zero, suc, ◌≡◌, ℕ, inl, inr, true, List, Option, Some, None, refl, ◌∙◌, ap}
use Rattle.std.proofs.lemmas.Bool.{cases_Bool}
use Rattle.page_alloc.specs.FreePage.{next_of}
use Rattle.page_alloc.specs.Chain.{is_page, chain, used}

abbrev pub Bytes : Type 0
Bytes = ℕ → List ℕ

-- the pages that are counted are the same
abbrev pub AreAlike : ℕ → Bytes → Bytes → Type 0
AreAlike count a b = (n : ℕ) → is_page count n ≡ true → a n ≡ b n

module _ (a b : Bytes) (count : ℕ) (alike : AreAlike count a b) where
  pub same_chain : (first free : ℕ) → chain a count first free ≡ chain b count first free
  same_chain first zero = refl
  same_chain first (suc free) = elim (cases_Bool (is_page count first)) [
    | inl page ↦ rw (page, alike first page, same_chain (next_of (b first)) free) refl
    | inr past ↦ rw past refl
  ]

  same_used : (o : Option (List ℕ)) (n : ℕ) → used a count o n ≡ used b count o n
  same_used None n = refl
  same_used (Some free) n = elim (cases_Bool (is_page count n)) [
    | inl page ↦ rw (page, alike n page) refl
    | inr past ↦ rw past refl
  ]

  -- the pages in use
  pub same_live : (first free : ℕ) → used a count (chain a count first free) ≡ used b count (chain b count first free)
  same_live first free = ap (used a count) (same_chain first free) ∙ (λ i n. same_used (chain b count first free) n i)
