-- Pages that are reached by one walk after another.
use Rattle.std.proofs.Common.{◌≡◌, ◌≢◌, ℕ, Bool, true, false, List, [], ◌++◌, refl, ap, sym, ◌∙◌}
use Rattle.pages.specs.Each.{Each}
use Rattle.pages.specs.Owners.{IsOutside}
use Rattle.pages.specs.Marks.{Marks}
use Rattle.pages.proofs.EachLemmas.{each_weaker, each_both, each_join, each_left, each_right, apart_join}

pub marks_none : (f : ℕ → Bool) → Marks f f []
marks_none f = record { fresh = tt; apart = tt; set = tt; others = λ n out. refl }

-- a page that is not reached is none of those that are
pub outside_reached : (f : ℕ → Bool) (n : ℕ) (xs : List ℕ) → f n ≡ false → Each (λ m. f m ≡ true) xs → IsOutside xs n
outside_reached f n xs off on = each_weaker (λ m. f m ≡ true) (λ m. n ≢ m) (λ m yes same. let no : f n ≡ true = ap f same ∙ yes in cc (no, off)) xs on

-- two walks are one
pub marks_on : (a b c : ℕ → Bool) (xs ys : List ℕ) → Marks a b xs → Marks b c ys → Marks a c (xs ++ ys)
marks_on a b c xs ys one two =
    let off = each_weaker (λ n. b n ≡ false) (IsOutside xs) (λ n no. outside_reached b n xs no one.set) ys two.fresh in
    let across = each_weaker (λ m. b m ≡ true) (IsOutside ys)
    (λ m yes. each_weaker (λ n. b n ≡ false) (λ n. m ≢ n) (λ n no same. let no' : b n ≡ true = ap b (sym same) ∙ yes in cc (no', no)) ys two.fresh) xs one.set in
    record {
      fresh = each_join (λ n. a n ≡ false) xs ys one.fresh
          (each_both (λ n. b n ≡ false) (IsOutside xs) (λ n. a n ≡ false) (λ n no out. sym (one.others n out) ∙ no) ys two.fresh off);
      apart = apart_join xs ys one.apart two.apart across;
      set = each_join (λ n. c n ≡ true) xs ys (each_both (λ n. b n ≡ true) (IsOutside ys) (λ n. c n ≡ true) (λ n yes out. two.others n out ∙ yes) xs one.set across) two.set;
      others = λ n out. two.others n (each_right (λ m. n ≢ m) xs ys out) ∙ one.others n (each_left (λ m. n ≢ m) xs ys out);
    }
