-- Texts one behind another.
use Rattle.std.proofs.Common.{◌≡◌, ℕ, List, ◌++◌, ap, ◌∙◌, Result, Ok, Err, OnOk}
use Rattle.std.proofs.lemmas.List.{append_assoc}

pub text_behind : {X E : Type 0} (r : Result X E) (old first second before after : List ℕ) → before ≡ old ++ first → OnOk r (after ≡ before ++ second)
    → OnOk r (after ≡ old ++ (first ++ second))
text_behind (Ok x) old first second before after is h = h ∙ ap (λ (l : List ℕ). l ++ second) is ∙ append_assoc old first second
text_behind (Err e) old first second before after is h = tt
