-- Names that are kept in their order, and one more.
use Rattle.std.proofs.Common.{◌≡◌, ℕ, Bool, true, false, cond, ◌||◌, List, [], ◌∷◌, ◌++◌, refl, sym, ap, ◌∙◌}
use Rattle.std.specs.Ordering.{nat_cmp}
use Rattle.std.specs.Str.{bytes_eq}
use Rattle.std.specs.Cmp.Lexicographic.{slice_cmp}
use Rattle.std.specs.BTreeSet.{BTreeSet, contains_by, Updates}
use Rattle.std.proofs.lemmas.Map.Text.{is_eq-slice_cmp}
use Rattle.std.proofs.lemmas.List.Folds.{list_any-append}
use Rattle.file_control.specs.Description.{has_name}
use Rattle.file_control.specs.InOrder.{AreInOrder}
use denote.Ref.{Bor}

one_more : (yes old : Bool) (found : Bool) → found ≡ old → cond yes true found ≡ (old || (yes || false))
one_more true true found e = refl
one_more true false found e = refl
one_more false true found e = e
one_more false false found e = e

pub with_one : (text : Bor (List ℕ)) (before after : BTreeSet (Bor (List ℕ))) (names : List (List ℕ)) → Updates (λ x y. slice_cmp nat_cmp x.now y.now) before after text true → AreInOrder before names → AreInOrder after (names ++ text.now ∷ [])
with_one text before after names updates known name =
    let before_it = contains_by (λ key. slice_cmp nat_cmp name key.now) before in
    updates.0 (record { ref_ptr = text.ref_ptr; now = name })
    ∙ ap (λ yes. cond yes true before_it) (is_eq-slice_cmp text.now name)
    ∙ one_more (bytes_eq text.now name) (has_name names name) before_it (known name)
    ∙ sym (list_any-append (λ other. bytes_eq other name) names (text.now ∷ []))
