use Rattle.std.proofs.Common.{◌≡◌, ◌<◌, ◌+◌, ℕ, true, false, suc, List, [], ◌∷◌, ◌++◌, length, take, get_or, ap, sym, subst, ◌∙◌, arith, refl}
use Rattle.std.proofs.Math.Seq.{take-suc}
use Rattle.std.proofs.lemmas.List.{take_all}
use Rattle.pages.specs.Marks.{marked_in}
use Rattle.record_heap.specs.Walk.{is_in_list}
use Rattle.file_checker.proofs.SlotLemmas.{all_marked_more, marked_more}
use Rattle.file_checker.proofs.prime_rows.mark_all.Goals as goal

pub loop-n-init : goal.loop-n-init
loop-n-init c = record {
  only = λ n on. (let off = c.requires n in absurd (cc (on, off)));
  all = λ n within one. (let bad : false ≡ true = one in absurd (cc));
  long = refl;
}

pub loop-n-preserved : goal.loop-n-preserved
loop-n-preserved c =
    let own = c.args.own.now in
    let k = c.loop-n.n-index in
    let up : suc k ≡ k + 1 = omega arith in
    let here : take k own ++ get_or own k 0 ∷ [] ≡ take (k + 1) own = sym (take-suc own k 0 c.loop-n-test.true) ∙ ap (λ (m : ℕ). take m own) up in
    record {
      only = subst (λ (ms : List ℕ). (n : ℕ) → marked_in c.mark_one.new.marks n ≡ true → is_in_list ms n ≡ true) here
          (marked_more (take k own) (get_or own k 0) (marked_in c.loop-n.marks) (marked_in c.mark_one.new.marks) c.loop-n.invariant.only c.mark_one.ensures.others);
      all = subst (λ (ms : List ℕ). (n : ℕ) → n < length c.args.marks.now → is_in_list ms n ≡ true → marked_in c.mark_one.new.marks n ≡ true) here
          (all_marked_more (length c.args.marks.now) (take k own) (get_or own k 0) (marked_in c.loop-n.marks) (marked_in c.mark_one.new.marks) c.loop-n.invariant.all
          (λ less. c.mark_one.ensures.one (let long = c.loop-n.invariant.long in omega (arith, less, long))) c.mark_one.ensures.others);
      long = c.mark_one.ensures.long ∙ c.loop-n.invariant.long;
    }

pub returns-clause-only : goal.returns-clause-only
returns-clause-only c = λ n on. subst (λ (ms : List ℕ). is_in_list ms n ≡ true) (take_all c.loop-n.n-index c.args.own.now c.loop-n-test.false) (c.loop-n.invariant.only n on)

pub returns-clause-all : goal.returns-clause-all
returns-clause-all c = λ n within one. c.loop-n.invariant.all n within (subst (λ (ms : List ℕ). is_in_list ms n ≡ true) (sym (take_all c.loop-n.n-index c.args.own.now c.loop-n-test.false)) one)
