-- The names of entries in their order, and one more.
use Rattle.std.proofs.Common.{◌≡◌, ℕ, Bool, true, false, cond, ◌||◌, List, ◌∷◌, Some, refl, sym, ap, ◌∙◌}
use Rattle.std.specs.Ordering.{nat_cmp}
use Rattle.std.specs.Str.{bytes_eq}
use Rattle.std.specs.Cmp.Lexicographic.{slice_cmp}
use Rattle.std.specs.BTreeSet.{BTreeSet, contains_by, Updates}
use Rattle.std.proofs.lemmas.Map.Text.{is_eq-slice_cmp}
use Rattle.record_layout.specs.Layout.{Entry, is_named, is_name_of}
use Rattle.record_layout.specs.NamesInOrder.{HasNamesOf}
use denote.Ref.{Bor}

one_more : (yes old : Bool) (found : Bool) → found ≡ old → cond yes true found ≡ (yes || old)
one_more true old found e = refl
one_more false old found e = e

-- the name of an entry is put into the set
pub with_name : (text : Bor (List ℕ)) (entry : Entry) (before after : BTreeSet (Bor (List ℕ))) (entries : List Entry) → entry.name ≡ Some text.now → Updates (λ x y. slice_cmp nat_cmp x.now y.now) before after text true → HasNamesOf before entries → HasNamesOf after (entry ∷ entries)
with_name text entry before after entries named updates known name =
    let before_it = contains_by (λ key. slice_cmp nat_cmp name key.now) before in
    updates.0 (record { ref_ptr = text.ref_ptr; now = name })
    ∙ ap (λ yes. cond yes true before_it) (is_eq-slice_cmp text.now name)
    ∙ one_more (bytes_eq text.now name) (is_name_of entries (Some name)) before_it (known name)
    ∙ ap (λ n. is_named name n || is_name_of entries (Some name)) (sym named)
