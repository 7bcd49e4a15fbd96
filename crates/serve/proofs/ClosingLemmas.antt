-- The files that are open are closed.
use Rattle.std.proofs.Common.{◌≡◌, ℕ, ◌+◌, ◌<◌, ◌≤◌, Bool, true, false, List, [], ◌∷◌, length, refl, sym, ap, subst, ◌∙◌, arith}
use Rattle.std.specs.Prelude.{Option, Some, None, if◌then◌else◌}
use Rattle.std.specs.Option.{IfSome}
use Rattle.io_state.specs.declared.status.Status.{Status}
use Rattle.indexed_file.specs.Shown.{Shown}
use Rattle.serve.specs.Files.{Files}
use Rattle.serve.specs.Steps.{ClosesFirst}
use Rattle.serve.specs.Serving.{ClosesAllFiles, ClosesAndCounts, is_failed_close, failed_of, failed_among}

-- the closes so far, and those that follow, are those of all; so many were made, of so many at most, and so many of them failed
pub record HasClosed {S : Type 0} (shown : Shown S) (old now : Files S) (made count failed : ℕ) : Type 0 where
  pub finish : (more : List Status) (last : Files S) → ClosesAllFiles shown now more last
      → (statuses : List Status) × ClosesAllFiles shown old statuses last × (failed_among statuses ≡ failed + failed_among more)
  pub left : length now.table.opened + made ≤ count
  pub few : failed ≤ made

no_numbers : (numbers : List ℕ) → length numbers ≤ 0 → numbers ≡ []
no_numbers [] few = refl
no_numbers (n ∷ numbers) few = absurd (omega arith)

one_by : (b : Bool) → (if b then 1 else 0) ≤ 1
one_by true = omega arith
one_by false = omega arith

pub one_at_most : (r : Option Status) → failed_of r ≤ 1
one_at_most None = omega arith
one_at_most (Some status) = one_by (is_failed_close status)

module _ {S : Type 0} (shown : Shown S) where
  pub none_closed : (old : Files S) (count : ℕ) → count ≡ length old.table.opened → HasClosed shown old old 0 count 0
  none_closed old count is = record { finish = λ more last h. (more, h, omega arith); left = omega arith; few = omega arith }

  pub one_closed : (old now next : Files S) (made count failed : ℕ) (r : Option Status) → IfSome r (λ status. ClosesFirst shown now status next)
      → (r ≡ None → (now.table.opened ≡ []) × (next ≡ now)) → made < count → HasClosed shown old now made count failed → HasClosed shown old next (made + 1) count (failed + failed_of r)
  one_closed old now next made count failed (Some status) closed none before had = record {
    finish = λ more last h.
        let all = had.finish (status ∷ more) last (next, closed, h) in
        (all.0, all.1, (let same = all.2 in omega (arith, same)));
    left = let was = ap length closed.was in let is = ap length closed.opened in let few = had.left in omega arith;
    few = let few = had.few in let one = one_at_most (Some status) in omega (arith, few, one);
  }
  one_closed old now next made count failed None closed none before had =
      let same = none refl in
      record {
        finish = λ more last h.
            let all = had.finish more last (subst (λ (f : Files S). ClosesAllFiles shown f more last) same.1 h) in
            (all.0, all.1, (let sum = all.2 in omega (arith, sum)));
        left = let empty : length next.table.opened ≡ 0 = ap (λ (f : Files S). length f.table.opened) same.1 ∙ ap length same.0 in omega arith;
        few = let few = had.few in omega (arith, few);
      }

  pub all_closed : (old now : Files S) (made count failed : ℕ) → made ≡ count → HasClosed shown old now made count failed → ClosesAndCounts shown old now failed
  all_closed old now made count failed is had =
      let all = had.finish [] now (no_numbers now.table.opened (let few = had.left in omega arith), refl) in
      record { statuses = all.0; closed = all.1; failed_are = let same = all.2 in omega (arith, same) }

  -- behind all the closes no file is open
  pub none_left : (old : Files S) (statuses : List Status) (new : Files S) → ClosesAllFiles shown old statuses new → new.table.opened ≡ []
  none_left old [] new (none, same) = ap (λ (f : Files S). f.table.opened) same ∙ none
  none_left old (status ∷ rest) new (between, first, more) = none_left between rest new more
