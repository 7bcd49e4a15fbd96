-- A page of a list, by number.
use Rattle.std.proofs.Common.{◌≡◌, ℕ, ◌<◌, ◌≤◌, Bool, true, false, List, [], length, slice_index_or, nat_lt, Some, None, Option, refl, ap, arith}
use Rattle.std.specs.Prelude.{unwrap_or}
use Rattle.std.proofs.lemmas.Bool.{ltb-true, ltb-false}
use Rattle.pages.specs.PageList.{pages_in}

-- what is there
pub there_is : (list : List (List ℕ)) (n : ℕ) (bytes : List ℕ) → pages_in list n ≡ Some bytes → (n < length list) × (slice_index_or list n [] ≡ bytes)
there_is list n bytes is = go (nat_lt n (length list)) refl
  where
    go : (b : Bool) → nat_lt n (length list) ≡ b → (n < length list) × (slice_index_or list n [] ≡ bytes)
    go true e = (ltb-true n (length list) e, (let at : Some (slice_index_or list n []) ≡ Some bytes = rw e at is in ap (λ (o : Option (List ℕ)). unwrap_or o []) at))
    go false e = absurd (let none : None ≡ Some bytes = rw e at is in cc)

-- where nothing is
pub none_is : (list : List (List ℕ)) (n : ℕ) → pages_in list n ≡ None → length list ≤ n
none_is list n is = go (nat_lt n (length list)) refl
  where
    go : (b : Bool) → nat_lt n (length list) ≡ b → length list ≤ n
    go true e = absurd (let none : Some (slice_index_or list n []) ≡ None = rw e at is in cc)
    go false e = ltb-false n (length list) e
