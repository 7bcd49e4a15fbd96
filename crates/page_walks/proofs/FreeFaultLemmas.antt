-- What is wrong with the chain of free pages.
use Rattle.std.proofs.Common.{◌≡◌, ◌≢◌, ℕ, ◌<◌, Bool, true, false, List, length, refl, sym, ◌∙◌, subst, inl, inr}
use Rattle.page_alloc.specs.Chain.{is_among}
use Rattle.pages.specs.declared.fault_place.FaultPlace.TheVariants.{Page}
use Rattle.pages.specs.declared.damage.Damage.TheVariants.{Shared, Heap}
use Rattle.pages.specs.declared.walk_fault.WalkFault.{WalkFault}
use Rattle.pages.specs.declared.walk_fault.WalkFault.TheVariants.{At}
use Rattle.pages.specs.Marks.{IsUnmarked, marked_in}
use Rattle.page_walks.specs.FreeWalk.{FreeFront, IsFreeFault, TellsOfNext}
use Rattle.pages.specs.Told.{TellsOfFault}
use Rattle.page_walks.proofs.FileLemmas.{among_outside}

module _ (list : List (List ℕ)) (first count from at passed : ℕ) (marks now : List Bool) (front : FreeFront list first from at passed (marked_in marks) (marked_in now)) where
  -- a page that another page leads to
  pub tells_next : (fault : WalkFault) → passed < count → TellsOfNext list from at fault → TellsOfFault (IsFreeFault list first count marks) fault
  tells_next fault some (inl h) = subst (TellsOfFault (IsFreeFault list first count marks)) (sym h.0)
      (front.own, at, front.path, inl (subst (λ (n : ℕ). n < count) (sym front.as_many) some, inl (subst (λ (n : ℕ). At Heap (Page from) ≡ At Heap (Page n)) (sym front.last) refl, h.1)))
  tells_next fault some (inr h) = subst (TellsOfFault (IsFreeFault list first count marks)) (sym h.0)
      (front.own, at, front.path, inl (subst (λ (n : ℕ). n < count) (sym front.as_many) some, inr (refl, h.1, h.2)))

  -- a page that has its mark
  pub tells_shared : (fault : WalkFault) → fault ≡ At Shared (Page at) → passed < count → at < length list → length now ≡ length marks → (IsUnmarked now at → ⊥)
      → TellsOfFault (IsFreeFault list first count marks) fault
  tells_shared fault is some inside long never = subst (TellsOfFault (IsFreeFault list first count marks)) (sym is)
      (front.own, at, front.path, (refl, inside, subst (λ (n : ℕ). n < count) (sym front.as_many) some, λ free. among free (is_among at front.own) refl))
    where
      among : IsUnmarked marks at → (b : Bool) → is_among at front.own ≡ b → is_among at front.own ≡ true
      among free true e = e
      among free false e =
          absurd (never (subst (λ (n : ℕ). at < n) (sym long) free.0, front.marks.others at (among_outside at front.own e) ∙ free.1))

  -- a page behind the last one
  pub tells_more_pages : (fault : WalkFault) → fault ≡ At Heap (Page from) → passed ≡ count → at ≢ 0 → TellsOfFault (IsFreeFault list first count marks) fault
  tells_more_pages fault is all some = subst (TellsOfFault (IsFreeFault list first count marks)) (sym is)
      (front.own, at, front.path, inr (front.as_many ∙ all, some, subst (λ (n : ℕ). Page from ≡ Page n) (sym front.last) refl))
