-- The first row that START asks for, by the first that it begins with.
use Rattle.std.proofs.Common.{◌≡◌, ℕ, zero, suc, Bool, true, false, List, [], ◌∷◌, length, take, Option, Some, None, refl, ap, sym, ◌∙◌}
use Rattle.std.proofs.Common.{arith}
use Rattle.std.specs.Prelude.{find, bytes_eq}
use Rattle.std.specs.Ordering.{is_lt, is_ge, is_eq, nat_cmp, ordering_then, ordering_reverse}
use Rattle.std.specs.declared.cmp.Ordering.{Ordering}
use Rattle.std.specs.declared.cmp.Ordering.TheVariants.{Less, Greater}
use Rattle.std.specs.Cmp.{IsTotalOrder}
use Rattle.std.proofs.lemmas.Grind.{common_steps}
use Rattle.std.proofs.lemmas.Map.Text.{is_eq-slice_cmp}
use Rattle.std.proofs.lemmas.Cmp.{nat_list_cmp_total}
use Rattle.io_state.specs.declared.modes.Relation.{Relation}
use Rattle.io_state.specs.declared.modes.Relation.TheVariants.{Equal as ForEqual, Greater as ForGreater, NotLess as ForNotLess}
use Rattle.record_layout.specs.Schema.{Schema, value_of}
use Rattle.indexed_file.specs.File.{Row, stamp_of}
use Rattle.io_state.specs.Rank.{value_cmp}
use Rattle.indexed_file.specs.Rank.{row_cmp, satisfies}
use Rattle.pages.specs.Each.{Each}
use Rattle.open_file.specs.InOrder.{alt_entry}
use Rattle.open_file.specs.Steps.{leads_alt, is_wanted_value}
use Rattle.open_file.proofs.OrderLemmas.{either, by_not_lt, tied_ge, above}
use Rattle.open_file.proofs.RowLemmas.{AreSorted}
use Rattle.open_file.proofs.FirstLemmas.{kept}

-- x is not below y, which is above z
still_above : {X : Type 0} (R : X → X → Ordering) (o : IsTotalOrder R) (x y z : X) → is_lt (R x y) ≡ false → R y z ≡ Greater → R x z ≡ Greater
still_above R o x y z low above =
    by_not_lt (R x y) (R x z ≡ Greater) low
    (λ tied. o.congr x y z tied ∙ above)
    (λ higher.
    let back : R z y ≡ Less = o.antisymm z y ∙ ap ordering_reverse above in
    let next : R y x ≡ Less = o.antisymm y x ∙ ap ordering_reverse higher in
    o.antisymm x z ∙ ap ordering_reverse (o.trans z y x back next))

then_ge : (a b c : Ordering) → is_ge b ≡ is_ge c → is_ge (ordering_then a b) ≡ is_ge (ordering_then a c)
then_ge a b c h = grind (arith, common_steps)

-- what stands behind the first bytes does not make a value less
pub front_ge : (v w : List ℕ) → is_ge (value_cmp (take (length w) v) w) ≡ is_ge (value_cmp v w)
front_ge [] [] = refl
front_ge (x ∷ xs) [] = refl
front_ge [] (y ∷ ys) = refl
front_ge (x ∷ xs) (y ∷ ys) = then_ge (nat_cmp x y) (value_cmp (take (length ys) xs) ys) (value_cmp xs ys) (front_ge xs ys)

then_low : (a b c : Ordering) → (is_lt b ≡ false → is_lt c ≡ false) → is_lt (ordering_then a b) ≡ false → is_lt (ordering_then a c) ≡ false
then_low a b c f h = grind (arith, common_steps)

-- the first bytes of a value that is not less are not less
front_up : (n : ℕ) (x v : List ℕ) → is_lt (value_cmp x v) ≡ false → is_lt (value_cmp (take n x) (take n v)) ≡ false
front_up zero x v low = refl
front_up (suc n) [] [] low = refl
front_up (suc n) (x ∷ xs) [] low = refl
front_up (suc n) [] (y ∷ ys) low = low
front_up (suc n) (x ∷ xs) (y ∷ ys) low =
    then_low (nat_cmp x y) (value_cmp xs ys) (value_cmp (take n xs) (take n ys)) (front_up n xs ys) low

first_low : (a b : Ordering) → is_lt (ordering_then a b) ≡ false → is_lt a ≡ false
first_low a b h = grind (arith, common_steps)

-- where the first bytes of a row are above the operand, no row that is not below it begins with the operand
none_begins : (schema : Schema) (k : ℕ) (w : List ℕ) (row : Row) (rows : List Row) → value_cmp (take (length w) (value_of schema k row.bytes)) w ≡ Greater
    → Each (λ other. is_lt (row_cmp schema k other row) ≡ false) rows → find (satisfies schema k ForEqual w) rows ≡ None
none_begins schema k w row [] high low = refl
none_begins schema k w row (other ∷ rows) high low =
    let n = length w in
    let v = value_of schema k row.bytes in
    let x = value_of schema k other.bytes in
    let up = front_up n x v (first_low (value_cmp x v) (nat_cmp (stamp_of k other) (stamp_of k row)) low.0) in
    let higher = still_above value_cmp nat_list_cmp_total (take n x) (take n v) w up high in
    let miss : bytes_eq (take n x) w ≡ false = sym (is_eq-slice_cmp (take n x) w) ∙ ap is_eq higher in
    rw miss (none_begins schema k w row rows high low.1)

-- the first that begins with the operand is the first that is not below it, if that does
first_begins : (schema : Schema) (k : ℕ) (w : List ℕ) (rows : List Row) → AreSorted schema k rows
    → find (satisfies schema k ForEqual w) rows
    ≡ kept (satisfies schema k ForEqual w) (find (λ row. is_ge (value_cmp (value_of schema k row.bytes) w)) rows)
first_begins schema k w [] sorted = refl
first_begins schema k w (row ∷ rows) sorted =
    let v = value_of schema k row.bytes in
    let front = take (length w) v in
    let eq = is_eq-slice_cmp front w in
    either (is_ge (value_cmp v w)) _
    (λ ge. either (bytes_eq front w) _
    (λ same. rw (ge, same) refl)
    (λ other. rw (ge, other) (none_begins schema k w row rows (above (value_cmp front w) (front_ge v w ∙ ge) (eq ∙ other)) sorted.0)))
    (λ lt. either (bytes_eq front w) _
    (λ same. let ge = sym (front_ge v w) ∙ tied_ge (value_cmp front w) (eq ∙ same) in absurd (cc))
    (λ other. rw (lt, other) (first_begins schema k w rows sorted.1)))

pub find_alike : {X : Type 0} (p q : X → Bool) → ((x : X) → p x ≡ q x) → (xs : List X) → find p xs ≡ find q xs
find_alike p q same [] = refl
find_alike p q same (x ∷ xs) = grind (arith, common_steps, same x, find_alike p q same xs)

kept_all : (o : Option Row) → o ≡ kept (λ row. true) o
kept_all None = refl
kept_all (Some row) = refl

-- the first row that START asks for is the first that it begins with, if that one is wanted
pub first_wanted : (schema : Schema) (k : ℕ) (relation : Relation) (w : List ℕ) (rows : List Row) → AreSorted schema k rows
    → find (satisfies schema k relation w) rows
    ≡ kept (λ row. is_wanted_value relation w (value_of schema k row.bytes)) (find (λ row. leads_alt relation w (alt_entry schema k row)) rows)
first_wanted schema k ForEqual w rows sorted = first_begins schema k w rows sorted
first_wanted schema k ForGreater w rows sorted = kept_all (find (satisfies schema k ForGreater w) rows)
first_wanted schema k ForNotLess w rows sorted =
    find_alike (satisfies schema k ForNotLess w) (λ row. is_ge (value_cmp (value_of schema k row.bytes) w)) (λ row. front_ge (value_of schema k row.bytes) w) rows
    ∙ kept_all (find (λ row. is_ge (value_cmp (value_of schema k row.bytes) w)) rows)
