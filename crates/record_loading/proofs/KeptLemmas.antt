-- What a log keeps of lines that it was told of, one after another.
use Rattle.std.proofs.Common.{◌≡◌, ◌⊎◌, ℕ, List, [], ◌∷◌, ◌++◌, inl, inr, refl, sym, ap, ◌∙◌, subst, append_assoc, append-nil}
use Rattle.record_loading.specs.declared.rejected.RejectedLine.{RejectedLine}
use Rattle.record_loading.specs.Told.{ToldLine, AreToldRejected}
use Rattle.record_loading.specs.Kept.{Kept, Nothing, All, NotAll, KeepsMore, IsAllKept, bytes_of_told}

-- no bytes more
keeps_none : (kept : Kept) → KeepsMore kept [] kept
keeps_none Nothing = refl
keeps_none (All before) = inl (ap All (sym (append-nil before)))
keeps_none NotAll = refl

-- some bytes, and then others
all_both : (before xs ys : List ℕ) (between after : Kept) → (between ≡ All (before ++ xs)) ⊎ (between ≡ NotAll) → KeepsMore between ys after → KeepsMore (All before) (xs ++ ys) after
all_both before xs ys between after (inl all) second =
    elim (subst (λ (k : Kept). KeepsMore k ys after) all second) [
      | inl is ↦ inl (is ∙ ap All (append_assoc before xs ys))
      | inr not ↦ inr not
    ]
all_both before xs ys between after (inr not) second = inr (subst (λ (k : Kept). KeepsMore k ys after) not second)

keeps_both : (kept between after : Kept) (xs ys : List ℕ) → KeepsMore kept xs between → KeepsMore between ys after → KeepsMore kept (xs ++ ys) after
keeps_both Nothing between after xs ys first second = subst (λ (k : Kept). KeepsMore k ys after) first second
keeps_both (All before) between after xs ys first second = all_both before xs ys between after first second
keeps_both NotAll between after xs ys first second = subst (λ (k : Kept). KeepsMore k ys after) first second

module _ {R : Type 0} (Tells : R → R → RejectedLine → List ℕ → Type 0) (kept : R → Kept) (keeps : (old new : R) (rejected : RejectedLine) (line : List ℕ) → Tells old new rejected line → KeepsMore (kept old) line (kept new)) where
  -- the lines that it was told of
  pub told_kept : (told : List ToldLine) (old new : R) → AreToldRejected Tells told old new → KeepsMore (kept old) (bytes_of_told told) (kept new)
  told_kept [] old new same = subst (λ (log : R). KeepsMore (kept old) [] (kept log)) (sym same) (keeps_none (kept old))
  told_kept (line ∷ lines) old new is =
      keeps_both (kept old) (kept is.0) (kept new) line.bytes (bytes_of_told lines) (keeps old is.0 line.rejected line.bytes is.1) (told_kept lines is.0 new is.2)

-- where nothing is missing, it has all of them
pub whole_kept : (before xs : List ℕ) (old new : Kept) → old ≡ All before → KeepsMore old xs new → IsAllKept new → new ≡ All (before ++ xs)
whole_kept before xs old new all keeps whole =
    elim (subst (λ (k : Kept). KeepsMore k xs new) all keeps) [ inl is ↦ is | inr not ↦ absurd (subst IsAllKept not whole) ]
