-- What is one of some.
use Rattle.std.proofs.Common.{◌≡◌, ◌⊎◌, Bool, true, List, [], ◌∷◌, ◌++◌, inl, inr, sym, subst, IsTrue}
use Rattle.std.specs.List.{list_all}
use Rattle.std.proofs.lemmas.Bool.{and_parts}
use Rattle.indexed_file.specs.World.{Named}
use Rattle.indexed_file.specs.Images.{IsAmong}

-- one of some is one of more
pub among_more : (xs ys : List Named) (image : Named) → IsAmong xs image → IsAmong (xs ++ ys) image
among_more [] ys image is = absurd is
among_more (x ∷ xs) ys image (inl same) = inl same
among_more (x ∷ xs) ys image (inr later) = inr (among_more xs ys image later)

pub among_rest : (xs ys : List Named) (image : Named) → IsAmong ys image → IsAmong (xs ++ ys) image
among_rest [] ys image is = is
among_rest (x ∷ xs) ys image is = inr (among_rest xs ys image is)

-- where all of these pass a test, each of them does
pub among_passes : (test : Named → Bool) (xs : List Named) → IsTrue (list_all test xs) → (image : Named) → IsAmong xs image → IsTrue (test image)
among_passes test [] all image is = absurd is
among_passes test (x ∷ xs) all image (inl same) = subst (λ (n : Named). IsTrue (test n)) (sym same) (and_parts _ _ all).0
among_passes test (x ∷ xs) all image (inr later) = among_passes test xs (and_parts _ _ all).1 image later
