use Rattle.std.proofs.Common.{◌≡◌, Option, Some, refl}
use Rattle.cobix_inside.proofs.exports.answered.Goals as goal

-- what is so of the session that was held and of the one that is held now
so_of_both : {A : Type 0} (IsSo : A → A → Type 0) (before behind : Option A) (a b : A) → before ≡ Some a → behind ≡ Some b → IsSo a b
    → (old new : A) → before ≡ Some old → behind ≡ Some new → IsSo old new
so_of_both IsSo before behind a b first last so old new is_old is_new =
    let same_old : a ≡ old = cc in
    let same_new : b ≡ new = cc in
    rw (← same_old) (rw (← same_new) so)

pub returns : goal.returns
returns c = ((refl, λ _. tt, (refl, so_of_both _ _ _ _ _ c.lend-held.ensures.value refl c.answer_lent-answer.follows.holds-at-none)), record { answered = tt })
