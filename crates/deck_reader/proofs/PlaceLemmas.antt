-- Places of items by their names, one item at a time.
use Rattle.std.proofs.Common.{◌≡◌, ℕ, ◌+◌, ◌<◌, Bool, true, false, cond, List, [], ◌∷◌, ◌++◌, take, get_or, Option, Some, None, length, refl, sym, ap, ◌∙◌, subst, true≢false, arith, length-append, length-take}
use Rattle.std.specs.Prelude.{position, bytes_eq}
use Rattle.std.specs.Option.{option_or, is_some}
use Rattle.std.specs.Ordering.{nat_cmp}
use Rattle.std.specs.Cmp.Lexicographic.{slice_cmp}
use Rattle.std.proofs.lemmas.Slice.Eq.{bytes_eq-Decides}
use Rattle.std.proofs.lemmas.Map.Text.{btree_map_updates_str}
use Rattle.std.specs.BTreeMap.{BTreeMap, UpdatesBy}
use Rattle.std.proofs.lemmas.List.{take_more}
use Rattle.std.proofs.lemmas.List.Folds.{position_or_len_push}
use Rattle.std.proofs.lemmas.List.Sums.{prefix_len-le-length}
use Rattle.file_control.specs.Description.{LengthItem}
use Rattle.deck_reader.specs.Places.{place_of_name, ArePlaces}
use denote.Ref.{Bor}

-- a place that is found stays, and one more that passes is found behind the others
pub one_more : {X : Type 0} (p : X → Bool) (xs : List X) (x : X) → position p (xs ++ x ∷ []) ≡ option_or (position p xs) (cond (p x) (Some (length xs)) None)
one_more p xs x = grind (arith, position_or_len_push, prefix_len-le-length, length-append)

apart : (name other : List ℕ) → bytes_eq name other ≡ true → name ≡ other
apart name other e = grind (arith, bytes_eq-Decides, e)

with_place : (yes : Bool) (old : Option ℕ) (place : ℕ) → (yes ≡ true → is_some old ≡ false) → cond yes (Some place) old ≡ option_or old (cond yes (Some place) None)
with_place true (Some p) place none = absurd (true≢false (none refl))
with_place true None place none = refl
with_place false (Some p) place none = refl
with_place false None place none = refl

-- a name that has no place gets one
pub added : (name : List ℕ) (place : ℕ) (before after : BTreeMap (Bor (List ℕ)) ℕ) → UpdatesBy (λ x y. slice_cmp nat_cmp x.now y.now) (λ key. slice_cmp nat_cmp name key.now) before after (Some place) → is_some (place_of_name before name) ≡ false → (other : List ℕ) → place_of_name after other ≡ option_or (place_of_name before other) (cond (bytes_eq name other) (Some place) None)
added name place before after updates none other =
    btree_map_updates_str name before after (Some place) updates other
    ∙ with_place (bytes_eq name other) (place_of_name before other) place (λ e. subst (λ n. is_some (place_of_name before n) ≡ false) (apart name other e) none)

-- with the next item
pub next_place : (items : List LengthItem) (i : ℕ) (item : LengthItem) → item ≡ get_or items i item → i < length items → (text : List ℕ) → text ≡ item.name → (before after : BTreeMap (Bor (List ℕ)) ℕ) → ArePlaces before (take i items) → ((other : List ℕ) → place_of_name after other ≡ option_or (place_of_name before other) (cond (bytes_eq text other) (Some i) None)) → ArePlaces after (take (i + 1) items)
next_place items i item is within text named before after known adds name =
    let p : LengthItem → Bool = λ other. bytes_eq other.name name in
    let listed : take (i + 1) items ≡ take i items ++ item ∷ [] = take_more items i item within ∙ ap (λ x. take i items ++ x ∷ []) (sym is) in
    let found : position p (take (i + 1) items) ≡ option_or (position p (take i items)) (cond (p item) (Some (length (take i items))) None) = ap (position p) listed ∙ one_more p (take i items) item in
    let here : length (take i items) ≡ i = grind (arith, length-take, within) in
    adds name ∙ ap (λ o. option_or o (cond (bytes_eq text name) (Some i) None)) (known name)
    ∙ ap (λ t. option_or (position p (take i items)) (cond (bytes_eq t name) (Some i) None)) named
    ∙ sym (found ∙ ap (λ n. option_or (position p (take i items)) (cond (p item) (Some n) None)) here)
