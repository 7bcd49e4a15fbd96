-- What a loan of a page leaves of its source.
use Rattle.std.specs.Prelude.{◌≡◌, ℕ, List, Option, ⊤}
use Rattle.std.specs.Option.{option_copied}
use Rattle.std.specs.Borrow.{follows_so, RattleType, Bor, MutBor, Fml}
use mathlib.Core.Option.{none}
use Rattle.pages.specs.PageList.{pages_in}
use Rattle.pages.specs.Source.{KeepsItsPages, OfItsPages}

module _ (R : RattleType) (has : R.Denot → List (List ℕ) → Type 0) (source : MutBor R.Denot) where
  -- after the loan this is so of each list of pages that the source has, and it had each of them before
  abbrev pub LendsOfItsPages : (List (List ℕ) → Type 0) → Fml
  LendsOfItsPages P = follows_so R R source.ghost_name none (λ _ _. ⊤)
      (λ after. OfItsPages has after P × KeepsItsPages has source.now after)

  -- what was lent is page n of each list of pages that the source has
  abbrev pub LendsPage : ℕ → Option (Bor (List ℕ)) → Fml
  LendsPage n lent = LendsOfItsPages (λ list. option_copied lent ≡ pages_in list n)
