-- A file whose pages were all reached.
use Rattle.std.proofs.Common.{◌≡◌, ◌≢◌, ◌⊎◌, ℕ, ◌<◌, ◌≤◌, Bool, true, false, ltb, nat_lt, ◌&&◌, not, nat_eq, List, [], ◌∷◌, length, Some, None, refl, ap, sym, subst, ◌∙◌, arith, inl, inr}
use Rattle.std.proofs.lemmas.Bool.{lt-ltb, le-ltb, eqb-false, or_parts}
use Rattle.std.proofs.lemmas.Bool.Decides.{eqb_tells}
use Rattle.std.proofs.Math.Dec.{eqb}
use Rattle.pages.specs.Each.{Each}
use Rattle.pages.specs.Owners.{IsOutside}
use Rattle.page_alloc.specs.Chain.{is_page, is_among, used}
use Rattle.bplus_tree.proofs.PageLemmas.{holds_still}
use Rattle.bplus_tree.specs.Fields.{tree_shape, tree_levels}
use Rattle.pages.specs.Marks.{Marks}
use Rattle.pages.specs.PageList.{pages_in}
use Rattle.pages.specs.Parted.{all_of}
use Rattle.pages.proofs.EachLemmas.{each_weaker}
use Rattle.pages.proofs.MarksLemmas.{outside_reached}
use Rattle.pages.proofs.PartLemmas.{each_part, low_or_not, parted}
use Rattle.page_walks.specs.FreeWalk.{page_in, FreeWalked}
use Rattle.page_walks.specs.WholeFile.{pages_used_in, WalksPartTheFile, TreesStay}
use Rattle.page_walks.proofs.FreeLemmas.{not_among}

pub trees_stay : TreesStay
trees_stay tree before after entries own same stands = record {
  value = stands.value;
  whole = record {
    stands = record {
      holds = holds_still (tree_shape tree) before after (tree_levels tree) stands.value stands.whole.stands.holds (subst (Each (λ n. after n ≡ before n)) (sym stands.pages_are) same);
      root = stands.whole.stands.root;
      ordered = stands.whole.stands.ordered;
    };
    apart = stands.whole.apart;
    filled = stands.whole.filled;
    rooted = stands.whole.rooted;
  };
  has = stands.has;
  pages_are = stands.pages_are;
  count = stands.count;
}

pub among_outside : (n : ℕ) (ns : List ℕ) → is_among n ns ≡ false → IsOutside ns n
among_outside n [] out = tt
among_outside n (m ∷ ms) out = let parts = or_parts (nat_eq n m) (is_among n ms) out in (eqb-false n m parts.0, among_outside n ms parts.1)

module _ (list : List (List ℕ)) (own : List ℕ) where
  not_used : (n : ℕ) → (is_page (length list) n && not (is_among n own)) ≡ false → used (page_in list) (length list) (Some own) n ≡ None
  not_used n out = rw out refl

  past_end : (n : ℕ) → length list ≤ n → used (page_in list) (length list) (Some own) n ≡ None
  past_end n past = not_used n (rw (le-ltb n (length list) past, and_no (ltb 0 n)) refl)
    where
      and_no : (b : Bool) → (b && false) ≡ false
      and_no true = refl
      and_no false = refl

  free_not_used : (n : ℕ) → is_among n own ≡ true → used (page_in list) (length list) (Some own) n ≡ None
  free_not_used n found = not_used n (rw found (and_no (is_page (length list) n)))
    where
      and_no : (b : Bool) → (b && false) ≡ false
      and_no true = refl
      and_no false = refl

  -- a page that is not page 0 and not free is in use, as it was read
  used_as_read : (n : ℕ) → 0 < n → is_among n own ≡ false → used (page_in list) (length list) (Some own) n ≡ pages_in list n
  used_as_read n some out = by_place (low_or_not n (length list))
    where
      by_place : (n < length list) ⊎ (length list ≤ n) → used (page_in list) (length list) (Some own) n ≡ pages_in list n
      by_place (inl inside) = rw (lt-ltb 0 n some, lt-ltb n (length list) inside, out) refl
      by_place (inr past) = let no : nat_lt n (length list) ≡ false = le-ltb n (length list) past in past_end n past ∙ rw no refl

module _ (list : List (List ℕ)) (first count : ℕ) (none header start : ℕ → Bool) (clear : (n : ℕ) → none n ≡ false) (zeroth : Marks none header (0 ∷ []))
    (free : FreeWalked list first count header start) where
  -- page 0 has its mark
  zero_marked : start 0 ≡ true
  zero_marked = free.marks.others 0 (each_weaker (λ n. header n ≡ false) (λ n. 0 ≢ n) (λ n no same. let yes : header n ≡ true = ap header (sym same) ∙ zeroth.set.0 in cc (yes, no)) free.own free.marks.fresh)
      ∙ zeroth.set.0

  unmarked_used : (n : ℕ) → start n ≡ false → pages_used_in list first count n ≡ pages_in list n
  unmarked_used n off =
      let some : n ≢ 0 = λ same. (let yes : start n ≡ true = ap start same ∙ zero_marked in cc (yes, off)) in
      let out = outside_reached start n free.own off free.marks.set in
      rw free.is (used_as_read list free.own n (omega (arith, some)) (not_among n free.own out))

  marked_unused : (n : ℕ) → start n ≡ true → pages_used_in list first count n ≡ None
  marked_unused n on = rw free.is (by_chain (is_among n free.own) refl)
    where
      by_zero : is_among n free.own ≡ false → ((eqb n 0 ≡ true) × (n ≡ 0)) ⊎ ((eqb n 0 ≡ false) × (n ≢ 0)) → used (page_in list) (length list) (Some free.own) n ≡ None
      by_zero out (inl same) = rw same.1 refl
      by_zero out (inr other) =
          let yes : header n ≡ true = sym (free.marks.others n (among_outside n free.own out)) ∙ on in
          let no : header n ≡ false = zeroth.others n (other.1, tt) ∙ clear n in
          cc (yes, no)

      by_chain : (b : Bool) → is_among n free.own ≡ b → used (page_in list) (length list) (Some free.own) n ≡ None
      by_chain true found = free_not_used list free.own n found
      by_chain false out = by_zero out (eqb_tells n 0)

pub walks_part_the_file : WalksPartTheFile
walks_part_the_file list first count none header start final owns clear zeroth free parts all = record {
  parted = parted (pages_used_in list first count) (length list) start final owns parts all (marked_unused list first count none header start clear zeroth free)
      (λ n past. rw free.is (past_end list free.own n past));
  as_read = λ i. each_part (λ n. pages_used_in list first count n ≡ pages_in list n) owns i
      (each_weaker (λ n. start n ≡ false) (λ n. pages_used_in list first count n ≡ pages_in list n) (unmarked_used list first count none header start clear zeroth free) (all_of owns) parts.fresh);
}
