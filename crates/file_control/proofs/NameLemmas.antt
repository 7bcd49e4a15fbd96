-- Lists of names, and tests of what stands in a list.
use Rattle.std.proofs.Common.{◌≡◌, ℕ, Bool, ◌&&◌, List, [], ◌∷◌, ◌++◌, map, option_to_list, Option, Some, None, refl, ap, append_assoc}
use Rattle.std.specs.List.{list_all, cons_option}
use Rattle.std.proofs.lemmas.List.{append-nil}

-- a test of mapped values is a test of the values
pub all_of_map : {A B : Type 0} (p : B → Bool) (f : A → B) (xs : List A) → list_all p (map f xs) ≡ list_all (λ x. p (f x)) xs
all_of_map p f [] = refl
all_of_map p f (x ∷ xs) = ap (λ v. p (f x) && v) (all_of_map p f xs)

-- names with one more, if there is one, and then with the rest
pub with_more : (names : List (List ℕ)) (name : Option (List ℕ)) (rest : List (List ℕ)) → (names ++ option_to_list name) ++ rest ≡ names ++ cons_option name rest
with_more names None rest = ap (λ (ns : List (List ℕ)). ns ++ rest) (append-nil names)
with_more names (Some name) rest = append_assoc names (name ∷ []) rest
