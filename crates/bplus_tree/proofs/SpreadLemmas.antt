-- The pages of two neighbours, whose pages below them are shared anew or come under one of them.
use Rattle.std.proofs.Common.{◌≡◌, ◌≢◌, ℕ, List, [], ◌∷◌, ◌++◌, None, IsSome, ap, sym, subst, ◌∙◌, append_assoc}
use Rattle.pages.specs.Each.{Each}
use Rattle.pages.specs.PageMap.{PageMap}
use Rattle.pages.specs.Owners.{IsOutside, AreApart, ChangesPages}
use Rattle.bplus_tree.proofs.PageLemmas.{each_both}

pull_out : (xs : List ℕ) (q : ℕ) (ys : List ℕ) (n : ℕ) → IsOutside (xs ++ q ∷ ys) n → (n ≢ q) × IsOutside (xs ++ ys) n
pull_out [] q ys n out = out
pull_out (x ∷ xs) q ys n out = let r = pull_out xs q ys n out.1 in (r.0, (out.0, r.1))

push_out : (xs : List ℕ) (q : ℕ) (ys : List ℕ) (n : ℕ) → n ≢ q → IsOutside (xs ++ ys) n → IsOutside (xs ++ q ∷ ys) n
push_out [] q ys n ne out = (ne, out)
push_out (x ∷ xs) q ys n ne out = (out.0, push_out xs q ys n ne out.1)

pull_apart : (xs : List ℕ) (q : ℕ) (ys : List ℕ) → AreApart (xs ++ q ∷ ys) → IsOutside (xs ++ ys) q × AreApart (xs ++ ys)
pull_apart [] q ys apart = apart
pull_apart (x ∷ xs) q ys apart =
    let o = pull_out xs q ys x apart.0 in
    let r = pull_apart xs q ys apart.1 in
    (((λ e. o.0 (sym e)), r.0), (o.1, r.1))

push_apart : (xs : List ℕ) (q : ℕ) (ys : List ℕ) → IsOutside (xs ++ ys) q → AreApart (xs ++ ys) → AreApart (xs ++ q ∷ ys)
push_apart [] q ys out apart = (out, apart)
push_apart (x ∷ xs) q ys out apart = (push_out xs q ys x (λ e. out.0 (sym e)) apart.0, push_apart xs q ys out.1 apart.1)

-- `a`, then p with its pages `u`, then q with its pages `v`, then `b`
abbrev pub two : List ℕ → ℕ → List ℕ → ℕ → List ℕ → List ℕ → List ℕ
two a p u q v b = a ++ (p ∷ (u ++ (q ∷ (v ++ b))))

abbrev pub rest : List ℕ → List ℕ → List ℕ → List ℕ
rest a w b = a ++ (w ++ b)

rest_is : (a u v b : List ℕ) → (a ++ u) ++ (v ++ b) ≡ rest a (u ++ v) b
rest_is a u v b = append_assoc a u (v ++ b) ∙ ap (λ (l : List ℕ). a ++ l) (sym (append_assoc u v b))

module _ (a : List ℕ) (p : ℕ) (u : List ℕ) (q : ℕ) (v b : List ℕ) where
  pub two_out : (n : ℕ) → IsOutside (two a p u q v b) n → (n ≢ p) × (n ≢ q) × IsOutside (rest a (u ++ v) b) n
  two_out n out =
      let first = pull_out a p (u ++ (q ∷ (v ++ b))) n out in
      let second = pull_out (a ++ u) q (v ++ b) n (subst (λ (l : List ℕ). IsOutside l n) (sym (append_assoc a u (q ∷ (v ++ b)))) first.1) in
      (first.0, second.0, subst (λ (l : List ℕ). IsOutside l n) (rest_is a u v b) second.1)

  pub out_two : (n : ℕ) → n ≢ p → n ≢ q → IsOutside (rest a (u ++ v) b) n → IsOutside (two a p u q v b) n
  out_two n ne ne' out =
      push_out a p (u ++ (q ∷ (v ++ b))) n ne
      (subst (λ (l : List ℕ). IsOutside l n) (append_assoc a u (q ∷ (v ++ b)))
      (push_out (a ++ u) q (v ++ b) n ne' (subst (λ (l : List ℕ). IsOutside l n) (sym (rest_is a u v b)) out)))

  pub two_apart : AreApart (two a p u q v b) → (p ≢ q) × IsOutside (rest a (u ++ v) b) p × IsOutside (rest a (u ++ v) b) q × AreApart (rest a (u ++ v) b)
  two_apart apart =
      let first = pull_apart a p (u ++ (q ∷ (v ++ b))) apart in
      let same = sym (append_assoc a u (q ∷ (v ++ b))) in
      let second = pull_apart (a ++ u) q (v ++ b) (subst AreApart same first.1) in
      let off = pull_out (a ++ u) q (v ++ b) p (subst (λ (l : List ℕ). IsOutside l p) same first.0) in
      (off.0, subst (λ (l : List ℕ). IsOutside l p) (rest_is a u v b) off.1, subst (λ (l : List ℕ). IsOutside l q) (rest_is a u v b) second.0, subst AreApart (rest_is a u v b) second.1)

  pub apart_two : p ≢ q → IsOutside (rest a (u ++ v) b) p → IsOutside (rest a (u ++ v) b) q → AreApart (rest a (u ++ v) b) → AreApart (two a p u q v b)
  apart_two ne off off' apart =
      let back = sym (rest_is a u v b) in
      let same = append_assoc a u (q ∷ (v ++ b)) in
      push_apart a p (u ++ (q ∷ (v ++ b)))
      (subst (λ (l : List ℕ). IsOutside l p) same (push_out (a ++ u) q (v ++ b) p ne (subst (λ (l : List ℕ). IsOutside l p) back off)))
      (subst AreApart same (push_apart (a ++ u) q (v ++ b) (subst (λ (l : List ℕ). IsOutside l q) back off') (subst AreApart back apart)))

-- the parent, the two, and nothing else was written
module _ (before late : PageMap) (parent : ℕ) (a : List ℕ) (p : ℕ) (u : List ℕ) (q : ℕ) (v b : List ℕ)
    (apart : AreApart (parent ∷ two a p u q v b))
    (frame : (n : ℕ) → n ≢ parent → n ≢ p → n ≢ q → late n ≡ before n) where
  pub spread_still : Each (λ n. late n ≡ before n) (rest a (u ++ v) b)
  spread_still =
      let two_ = two_apart a p u q v b apart.1 in
      let off = (two_out a p u q v b parent apart.0).2 in
      each_both (λ n. parent ≢ n) (λ n. (p ≢ n) × (q ≢ n)) (λ n. late n ≡ before n) (λ n x y. frame n (λ e. x (sym e)) (λ e. y.0 (sym e)) (λ e. y.1 (sym e)))
      (rest a (u ++ v) b) off
      (each_both (λ n. p ≢ n) (λ n. q ≢ n) (λ n. (p ≢ n) × (q ≢ n)) (λ n x y. (x, y)) (rest a (u ++ v) b) two_.1 two_.2)

  pub spread_shared : (s t : List ℕ) → s ++ t ≡ u ++ v → ChangesPages before late (parent ∷ two a p u q v b) (parent ∷ two a p s q t b)
  spread_shared s t same =
      let there : rest a (u ++ v) b ≡ rest a (s ++ t) b = ap (λ (l : List ℕ). rest a l b) (sym same) in
      let two_ = two_apart a p u q v b apart.1 in
      let off = two_out a p u q v b parent apart.0 in
      record {
        others = λ n here out.
            let o = two_out a p u q v b n out.1 in
            (frame n out.0 o.0 o.1, (out.0, out_two a p s q t b n o.0 o.1 (subst (λ (l : List ℕ). IsOutside l n) there o.2)));
        no_stray = λ n here out.
            let o = two_out a p s q t b n out.1 in
            (rw (← frame n out.0 o.0 o.1) here, (out.0, out_two a p u q v b n o.0 o.1 (subst (λ (l : List ℕ). IsOutside l n) (sym there) o.2)));
        apart = (
          out_two a p s q t b parent off.0 off.1 (subst (λ (l : List ℕ). IsOutside l parent) there off.2),
          apart_two a p s q t b two_.0 (subst (λ (l : List ℕ). IsOutside l p) there two_.1) (subst (λ (l : List ℕ). IsOutside l q) there two_.2) (subst AreApart there two_.3),
        );
      }

  pub spread_joined : late q ≡ None → ChangesPages before late (parent ∷ two a p u q v b) (parent ∷ (a ++ (p ∷ ((u ++ v) ++ b))))
  spread_joined gone =
      let two_ = two_apart a p u q v b apart.1 in
      let off = two_out a p u q v b parent apart.0 in
      record {
        others = λ n here out.
            let o = two_out a p u q v b n out.1 in
            (frame n out.0 o.0 o.1, (out.0, push_out a p ((u ++ v) ++ b) n o.0 o.2));
        no_stray = λ n here out.
            let o = pull_out a p ((u ++ v) ++ b) n out.1 in
            let ne : n ≢ q = λ e. let no : IsSome (late q) = subst (λ m. IsSome (late m)) e here in cc (no, gone) in
            (rw (← frame n out.0 o.0 ne) here, (out.0, out_two a p u q v b n o.0 ne o.1));
        apart = (push_out a p ((u ++ v) ++ b) parent off.0 off.2, push_apart a p ((u ++ v) ++ b) two_.1 two_.3);
      }
