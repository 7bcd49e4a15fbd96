-- Pages that are taken one by one, and the pages of the trees below them.
use Rattle.std.proofs.Common.{◌≡◌, ◌≢◌, ◌<◌, ◌≤◌, ℕ, arith, List, ◌∷◌, ◌++◌, None, IsSome, refl, ap, sym, subst, ◌∙◌}
use Rattle.pages.specs.Each.{Each}
use Rattle.pages.specs.PageMap.{PageMap, Takes}
use Rattle.pages.specs.Owners.{IsOutside, AreApart, ChangesPages}
use Rattle.tree_node.proofs.OrderLemmas.{Each-weaker}
use Rattle.tree_search.proofs.RowLemmas.{Each-append, each_left, each_right}
use Rattle.bplus_tree.proofs.PageLemmas.{each_both, outside_symm, apart_right, apart_across, apart_join}
use Rattle.std.specs.Prelude.{Result, Ok, Err, IfErr}
use Rattle.io_state.specs.declared.fault.Fault.{Fault}
use Rattle.io_state.specs.declared.fault.Fault.TheVariants.{Memory}
use Rattle.tree_building.specs.Fresh.{KeepsInUse, IsBuildCause}

pub keeps_on : {a b c : PageMap} → KeepsInUse a b → KeepsInUse b c → KeepsInUse a c
keeps_on f g = λ n some. let e = f n some in g n (rw e some) ∙ e

pub changes_same : (pages : PageMap) (own : List ℕ) → AreApart own → ChangesPages pages pages own own
changes_same pages own apart = record { others = λ n here out. (refl, out); no_stray = λ n here out. (here, out); apart = apart }

-- a page in use is none that was free
pub not_free : (pages : PageMap) (m n : ℕ) → pages n ≡ None → IsSome (pages m) → m ≢ n
not_free pages m n free some same = let there : IsSome (pages m) = some in let none : pages m ≡ None = ap pages same ∙ free in cc

-- where a page was taken, the others are as they were
pub taken_keeps : {before after : PageMap} {n : ℕ} {bytes : List ℕ} → Takes before after n bytes → KeepsInUse before after
taken_keeps {before} {n} takes = λ m some. takes.others m (not_free before m n takes.free some)

-- a page that was free heads the pages of some trees, beside those whose pages changed already
pub changes_more : (before mid after : PageMap) (done rest new : List ℕ) (n : ℕ) (bytes : List ℕ) → ChangesPages before mid done new
    → Takes mid after n bytes → AreApart (done ++ rest) → Each (λ m. IsSome (before m)) rest → Each (λ m. IsSome (mid m)) new
    → ChangesPages before after (done ++ rest) (new ++ (n ∷ rest))
changes_more before mid after done rest new n bytes changes takes apart live there =
    let kept : Each (λ m. (mid m ≡ before m) × IsOutside new m) rest =
    each_both (λ m. IsSome (before m)) (IsOutside done) (λ m. (mid m ≡ before m) × IsOutside new m) changes.others rest live
    (outside_symm done rest (apart_across done rest apart)) in
    let alive : Each (λ m. IsSome (mid m)) rest =
    each_both (λ m. IsSome (before m)) (λ m. (mid m ≡ before m) × IsOutside new m) (λ m. IsSome (mid m)) (λ m a k. subst IsSome (sym k.0) a) rest live kept in
    let off : Each (λ m. n ≢ m) rest = Each-weaker (λ m. IsSome (mid m)) (λ m. n ≢ m) (λ m a e. not_free mid m n takes.free a (sym e)) rest alive in
    record {
      others = λ m some out.
          let first = each_left (λ k. m ≢ k) done rest out in
          let c = changes.others m some first in
          let ne = not_free mid m n takes.free (subst IsSome (sym c.0) some) in
          (takes.others m ne ∙ c.0, Each-append (λ k. m ≢ k) new (n ∷ rest) c.1 (ne, each_right (λ k. m ≢ k) done rest out));
      no_stray = λ m some out.
          let r = each_right (λ k. m ≢ k) new (n ∷ rest) out in
          let c = changes.no_stray m (subst IsSome (takes.others m r.0) some) (each_left (λ k. m ≢ k) new (n ∷ rest) out) in
          (c.0, Each-append (λ k. m ≢ k) done rest c.1 r.1);
      apart = apart_join new (n ∷ rest) changes.apart (off, apart_right done rest apart)
          (each_both (λ p. IsSome (mid p)) (IsOutside rest) (IsOutside (n ∷ rest)) (λ p a b. (not_free mid p n takes.free a, b)) new there
          (outside_symm rest new (Each-weaker (λ m. (mid m ≡ before m) × IsOutside new m) (IsOutside new) (λ m k. k.1) rest kept)));
    }

-- what caused a fault since then has caused it since before
pub build_caused : {X : Type 0} (r : Result X Fault) (failed since lacks : Type 0) → (failed → since) → IfErr r (IsBuildCause failed lacks) → IfErr r (IsBuildCause since lacks)
build_caused (Ok x) failed since lacks f is = tt
build_caused (Err fault) failed since lacks f is = record { device = λ e. f (is.device e); full = is.full; not_broken = is.not_broken }

-- where memory lacked after a page was taken since then, one was taken since before
pub late_memory : {X : Type 0} (r : Result X Fault) (left mid now : ℕ) → mid ≤ left → IfErr r (λ fault. fault ≡ Memory → now < mid) → IfErr r (λ fault. fault ≡ Memory → now < left)
late_memory (Ok x) left mid now few is = tt
late_memory (Err fault) left mid now few is = λ e. let less = is e in omega arith
