-- Pages of trees that stand side by side, and what a change of one leaves of the others.
use Rattle.std.proofs.Common.{◌≡◌, ◌≢◌, ℕ, zero, suc, List, [], ◌∷◌, ◌++◌, Some, None, IsSome, refl, ap, sym, subst, ◌∙◌, arith, flat_map}
use mathlib.Core.Path.{fun_ext}
use Rattle.tree_node.specs.declared.shape.NodeShape.{NodeShape}
use Rattle.pages.specs.Each.{Each}
use Rattle.tree_node.proofs.OrderLemmas.{Each-weaker}
use Rattle.tree_search.specs.Tree.{TreeOf, pages_of}
use Rattle.pages.specs.PageMap.{PageMap, Writes}
use Rattle.tree_search.specs.Stored.{Holds}
use Rattle.pages.specs.Owners.{IsOutside, AreApart, ChangesPages}
use Rattle.tree_search.proofs.RowLemmas.{Each-append, each_left, each_right}

same_or : (m n : ℕ) (Q : Type 0) → (m ≡ n → Q) → (m ≢ n → Q) → Q
same_or zero zero Q f g = f refl
same_or zero (suc n) Q f g = g (λ e. absurd (omega arith))
same_or (suc m) zero Q f g = g (λ e. absurd (omega arith))
same_or (suc m) (suc n) Q f g = same_or m n Q (λ e. f (ap suc e)) (λ ne. g (λ e. ne (omega arith)))

-- what was there is written again
pub written_same : (before after : PageMap) (page : ℕ) (bytes : List ℕ) → before page ≡ Some bytes → Writes before after page bytes → after ≡ before
written_same before after page bytes there writes =
    fun_ext (λ m. same_or m page (after m ≡ before m) (λ e. ap after e ∙ writes.page ∙ sym there ∙ ap before (sym e)) (writes.others m))

pub each_both : {X : Type 0} (P Q R : X → Type 0) → ((x : X) → P x → Q x → R x) → (xs : List X) → Each P xs → Each Q xs → Each R xs
each_both P Q R f [] h k = tt
each_both P Q R f (x ∷ xs) h k = (f x h.0 k.0, each_both P Q R f xs h.1 k.1)

pub outside_symm : (xs ys : List ℕ) → Each (IsOutside ys) xs → Each (IsOutside xs) ys
outside_symm xs [] h = tt
outside_symm xs (y ∷ ys) h = (
  Each-weaker (λ x. IsOutside (y ∷ ys) x) (λ x. y ≢ x) (λ x k e. k.0 (sym e)) xs h,
  outside_symm xs ys (Each-weaker (IsOutside (y ∷ ys)) (IsOutside ys) (λ x k. k.1) xs h),
)

pub apart_left : (xs ys : List ℕ) → AreApart (xs ++ ys) → AreApart xs
apart_left [] ys h = tt
apart_left (x ∷ xs) ys h = (each_left (λ m. x ≢ m) xs ys h.0, apart_left xs ys h.1)

pub apart_right : (xs ys : List ℕ) → AreApart (xs ++ ys) → AreApart ys
apart_right [] ys h = h
apart_right (x ∷ xs) ys h = apart_right xs ys h.1

pub apart_across : (xs ys : List ℕ) → AreApart (xs ++ ys) → Each (IsOutside ys) xs
apart_across [] ys h = tt
apart_across (x ∷ xs) ys h = (each_right (λ m. x ≢ m) xs ys h.0, apart_across xs ys h.1)

pub apart_join : (xs ys : List ℕ) → AreApart xs → AreApart ys → Each (IsOutside ys) xs → AreApart (xs ++ ys)
apart_join [] ys h k across = k
apart_join (x ∷ xs) ys h k across = (Each-append (λ m. x ≢ m) xs ys h.0 across.0, apart_join xs ys h.1 k across.1)

-- what holds of all pages of the trees of a list
pub each_pages : {X : Type 0} (P : ℕ → Type 0) (Q : X → Type 0) (pages : X → List ℕ) → ((x : X) → Q x → Each P (pages x)) → (xs : List X) → Each Q xs → Each P (flat_map pages xs)
each_pages P Q pages f [] h = tt
each_pages P Q pages f (x ∷ xs) h = Each-append P (pages x) (flat_map pages xs) (f x h.0) (each_pages P Q pages f xs h.1)

-- the pages of a standing tree are in use
pub pages_live : (shape : NodeShape) (pages : PageMap) (h : ℕ) (t : TreeOf h) → Holds shape pages h t → Each (λ n. IsSome (pages n)) (pages_of h t)
pages_live shape pages zero t holds = (rw holds.there refl, tt)
pages_live shape pages (suc h) t holds =
    (rw holds.0.there refl, each_pages (λ n. IsSome (pages n)) (Holds shape pages h) (pages_of h) (pages_live shape pages h) t.2 holds.1)

each_kept : {X : Type 0} (P : ℕ → Type 0) (Q R : X → Type 0) (pages : X → List ℕ) → ((x : X) → Q x → Each P (pages x) → R x) → (xs : List X) → Each Q xs → Each P (flat_map pages xs) → Each R xs
each_kept P Q R pages f [] h k = tt
each_kept P Q R pages f (x ∷ xs) h k =
    (f x h.0 (each_left P (pages x) (flat_map pages xs) k), each_kept P Q R pages f xs h.1 (each_right P (pages x) (flat_map pages xs) k))

-- a tree stands while its pages stay as they are
pub holds_still : (shape : NodeShape) (before after : PageMap) (h : ℕ) (t : TreeOf h) → Holds shape before h t → Each (λ n. after n ≡ before n) (pages_of h t) → Holds shape after h t
holds_still shape before after zero t holds same =
    record { bytes = holds.bytes; there = same.0 ∙ holds.there; leaf = holds.leaf; holds = holds.holds }
holds_still shape before after (suc h) t holds same = (
  record { bytes = holds.0.bytes; there = same.0 ∙ holds.0.there; inner = holds.0.inner; rises = holds.0.rises; leads = holds.0.leads },
  each_kept (λ n. after n ≡ before n) (Holds shape before h) (Holds shape after h) (pages_of h) (holds_still shape before after h) t.2 holds.1 same.1,
)

pub rows_still : (shape : NodeShape) (before after : PageMap) (h : ℕ) (ts : List (TreeOf h)) → Each (Holds shape before h) ts → Each (λ n. after n ≡ before n) (flat_map (pages_of h) ts) → Each (Holds shape after h) ts
rows_still shape before after h ts holds same =
    each_kept (λ n. after n ≡ before n) (Holds shape before h) (Holds shape after h) (pages_of h) (holds_still shape before after h) ts holds same

-- A change in the middle leaves both sides.
pub record Within (before after : PageMap) (front old new back : List ℕ) : Type 0 where
  pub changes : ChangesPages before after (front ++ (old ++ back)) (front ++ (new ++ back))
  pub same_front : Each (λ n. after n ≡ before n) front
  pub same_back : Each (λ n. after n ≡ before n) back

pub change_within : (before after : PageMap) (front old new back : List ℕ) → AreApart (front ++ (old ++ back))
    → Each (λ n. IsSome (before n)) front → Each (λ n. IsSome (before n)) back → ChangesPages before after old new → Within before after front old new back
change_within before after front old new back apart live live' change =
    let across = apart_across front (old ++ back) apart in
    let off_old = Each-weaker (IsOutside (old ++ back)) (IsOutside old) (λ n k. each_left (λ m. n ≢ m) old back k) front across in
    let off_back = Each-weaker (IsOutside (old ++ back)) (IsOutside back) (λ n k. each_right (λ m. n ≢ m) old back k) front across in
    let rest = apart_right front (old ++ back) apart in
    let back_off = outside_symm old back (apart_across old back rest) in
    let kept = each_both (λ n. IsSome (before n)) (IsOutside old) (λ n. (after n ≡ before n) × IsOutside new n) change.others front live off_old in
    let kept' = each_both (λ n. IsSome (before n)) (IsOutside old) (λ n. (after n ≡ before n) × IsOutside new n) change.others back live' back_off in
    let still = λ (n : ℕ) (k : (after n ≡ before n) × IsOutside new n). k.0 in
    let off = λ (n : ℕ) (k : (after n ≡ before n) × IsOutside new n). k.1 in
    let new_off = outside_symm back new (Each-weaker (λ n. (after n ≡ before n) × IsOutside new n) (IsOutside new) off back kept') in
    let front_off = Each-weaker (λ n. (after n ≡ before n) × IsOutside new n) (IsOutside new) off front kept in
    record {
      same_front = Each-weaker (λ n. (after n ≡ before n) × IsOutside new n) (λ n. after n ≡ before n) still front kept;
      same_back = Each-weaker (λ n. (after n ≡ before n) × IsOutside new n) (λ n. after n ≡ before n) still back kept';
      changes = record {
        others = λ n here out.
            let r = each_right (λ m. n ≢ m) front (old ++ back) out in
            let c = change.others n here (each_left (λ m. n ≢ m) old back r) in (
              c.0,
              Each-append (λ m. n ≢ m) front (new ++ back) (each_left (λ m. n ≢ m) front (old ++ back) out)
                  (Each-append (λ m. n ≢ m) new back c.1 (each_right (λ m. n ≢ m) old back r)),
            );
        no_stray = λ n here out.
            let r = each_right (λ m. n ≢ m) front (new ++ back) out in
            let c = change.no_stray n here (each_left (λ m. n ≢ m) new back r) in (
              c.0,
              Each-append (λ m. n ≢ m) front (old ++ back) (each_left (λ m. n ≢ m) front (new ++ back) out)
                  (Each-append (λ m. n ≢ m) old back c.1 (each_right (λ m. n ≢ m) new back r)),
            );
        apart = apart_join front (new ++ back) (apart_left front (old ++ back) apart)
            (apart_join new back change.apart (apart_right old back rest) new_off)
            (each_both (IsOutside new) (IsOutside back) (IsOutside (new ++ back)) (λ n a b. Each-append (λ m. n ≢ m) new back a b) front front_off off_back);
      };
    }

not_same : (p : ℕ) (ns : List ℕ) → IsOutside ns p → Each (λ n. n ≢ p) ns
not_same p ns h = Each-weaker (λ n. p ≢ n) (λ n. n ≢ p) (λ n k e. k (sym e)) ns h

-- one page, and no other, has changed
pub change_page : {before after : PageMap} {p q : ℕ} → p ≡ q → ((n : ℕ) → n ≢ q → after n ≡ before n)
    → ChangesPages before after (p ∷ []) (q ∷ [])
change_page {q} root frame = record {
  others = λ n here off. let ne : n ≢ q = λ e. off.0 (e ∙ sym root) in (frame n ne, (ne, tt));
  no_stray = λ n here off. (rw (← frame n off.0) here, ((λ e. off.0 (e ∙ root)), tt));
  apart = (tt, tt);
}

-- the bytes of the first page changed once more
pub change_inside : (before after late : PageMap) (p : ℕ) (old new : List ℕ) → ChangesPages before after (p ∷ old) (p ∷ new) → ((n : ℕ) → n ≢ p → late n ≡ after n)
    → ChangesPages before late (p ∷ old) (p ∷ new)
change_inside before after late p old new change frame = record {
  others = λ n here out. let c = change.others n here out in (frame n out.0 ∙ c.0, c.1);
  no_stray = λ n here out. change.no_stray n (rw (← frame n out.0) here) out;
  apart = change.apart;
}

-- the first page changed once more, and some pages behind it are headed by a page that was free
pub change_parted : (before after late : PageMap) (p q : ℕ) (old left right : List ℕ) → ChangesPages before after (p ∷ old) (p ∷ (left ++ right))
    → Each (λ n. IsSome (after n)) (p ∷ (left ++ right)) → after q ≡ None
    → ((n : ℕ) → n ≢ p → n ≢ q → late n ≡ after n) → ChangesPages before late (p ∷ old) ((p ∷ left) ++ (q ∷ right))
change_parted before after late p q old left right change live free frame =
    let fresh : (n : ℕ) → IsSome (after n) → n ≢ q = λ n here e. let no : IsSome (after q) = subst (λ m. IsSome (after m)) e here in cc (no, free) in
    let apart = change.apart in
    let off = Each-weaker (λ n. IsSome (after n)) (λ n. n ≢ q) fresh (p ∷ (left ++ right)) live in
    record {
      others = λ n here out.
          let c = change.others n here out in
          let alive : IsSome (after n) = rw c.0 here in
          let apart_q = fresh n alive in
          (frame n out.0 apart_q ∙ c.0, (c.1.0, Each-append (λ m. n ≢ m) left (q ∷ right) (each_left (λ m. n ≢ m) left right c.1.1) (apart_q, each_right (λ m. n ≢ m) left right c.1.1)));
      no_stray = λ n here out.
          let l = each_left (λ m. n ≢ m) left (q ∷ right) out.1 in
          let r = each_right (λ m. n ≢ m) left (q ∷ right) out.1 in
          change.no_stray n (rw (← frame n out.0 r.0) here) (out.0, Each-append (λ m. n ≢ m) left right l r.1);
      apart = (
        Each-append (λ m. p ≢ m) left (q ∷ right) (each_left (λ m. p ≢ m) left right apart.0) (off.0, each_right (λ m. p ≢ m) left right apart.0),
        apart_join left (q ∷ right) (apart_left left right apart.1)
            (Each-weaker (λ n. n ≢ q) (λ n. q ≢ n) (λ n k e. k (sym e)) right (each_right (λ n. n ≢ q) left right off.1), apart_right left right apart.1)
            (each_both (λ n. n ≢ q) (IsOutside right) (IsOutside (q ∷ right)) (λ n a b. (a, b)) left (each_left (λ n. n ≢ q) left right off.1) (apart_across left right apart.1)),
      );
    }
