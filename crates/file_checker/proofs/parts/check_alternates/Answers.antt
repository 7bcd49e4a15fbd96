use Rattle.std.proofs.Common.{◌≡◌, ℕ, List, [], ◌<◌, ◌∙◌, length, slice_index_or, inl, refl, ap, sym, subst, arith}
use Rattle.tree_node.specs.Order.{Ascends}
use Rattle.pages.specs.Marks.{marked_in}
use Rattle.pages.specs.PageList.{pages_in}
use Rattle.pages.proofs.MarksLemmas.{marks_none}
use Rattle.page_walks.specs.declared.leaf.Leaf.{Leaf}
use Rattle.page_walks.specs.Spots.{entries_at, spots_in}
use Rattle.key_index.specs.declared.alt_index.AltIndex.{AltIndex}
use Rattle.file_checker.specs.RowsAhead.{AlternateAhead}
use Rattle.file_checker.specs.Alternate.{AlternateStands}
use Rattle.bplus_tree.specs.Fields.{tree_shape}
use Rattle.file_checker.proofs.AlternateLemmas.{entries_rise, alternates_more, spots_many}
use Rattle.file_checker.specs.Parts.{AlternatesFound}
use Rattle.file_checker.proofs.AlternatesAheadLemmas.{alternate_ahead, alternates_next, tree_ahead}
use Rattle.pages.proofs.RefusedLemmas.{handed_on}
use Rattle.file_checker.specs.RowsAhead.{PrimesLead}
use Rattle.file_checker.specs.RowFaults.{IsAlternateFault, TellsOfRows}
use Rattle.file_checker.proofs.FaultLemmas.{reached_next, told_of_entries, told_of_tree}
use Rattle.file_checker.proofs.parts.check_alternates.Goals as goal
use Rattle.open_file.specs.Fields.{alternates_of}

pub check_alternate-requires-clause-rises : goal.check_alternate-requires-clause-rises
check_alternate-requires-clause-rises g c = λ list has.
    let index = c.index-item.result in
    subst (λ (leaves : List Leaf). Ascends (tree_shape index.tree).width (entries_at (tree_shape index.tree) list (spots_in leaves))) (sym c.deref.ensures.value)
    (entries_rise index.tree (pages_in list) (entries_at (tree_shape index.tree) list (spots_in c.in_ok-leaves.leaves.items)) _ (c.in_ok-leaves.ensures.walked list has).stands)

pub check_alternate-requires-clause-many : goal.check_alternate-requires-clause-many
check_alternate-requires-clause-many g c = λ list has.
    let index = c.index-item.result in
    let file = c.args.file.now in
    let same = c.alternates-index-items.ensures.value in
    let within : c.loop-index.index-index < length (alternates_of file) = (let test = c.loop-index-test.true in let long = ap length same in omega arith) in
    let is : index ≡ slice_index_or (alternates_of file) c.loop-index.index-index index = c.index-item.is ∙ ap (λ (l : List AltIndex). slice_index_or l c.loop-index.index-index index) same in
    let h_loop = c.walk_tree.ensures.before list has in
    let all = c.requires.many list (c.loop-index.invariant.before list h_loop) in
    ap (λ (leaves : List Leaf). length (spots_in leaves)) c.deref.ensures.value
    ∙ spots_many index.tree list (marked_in c.loop-index.reached) (marked_in c.walk_tree.new.reached) (spots_in c.in_ok-leaves.leaves.items) (c.in_ok-leaves.ensures.walked list has)
    ∙ all c.loop-index.index-index index within is

pub loop-index-init : goal.loop-index-init
loop-index-init g c = record {
  found = λ list has. record { owns = []; as_many = refl; marks = marks_none (marked_in c.args.reached.now); each = λ j index less is. absurd (omega (arith, less)) };
  reached = λ list has n on. inl on;
  before = λ list has. has;
  long = refl;
  ahead = λ list has ahead. ahead;
}

pub loop-index-preserved : goal.loop-index-preserved
loop-index-preserved g c =
    let index = c.index-item.result in
    let file = c.args.file.now in
    let primes = c.args.primes.now in
    let same = c.alternates-index-items.ensures.value in
    let within : c.loop-index.index-index < length (alternates_of file) = (let test = c.loop-index-test.true in let long = ap length same in omega arith) in
    let is : index ≡ slice_index_or (alternates_of file) c.loop-index.index-index index = c.index-item.is ∙ ap (λ (l : List AltIndex). slice_index_or l c.loop-index.index-index index) same in
    record {
      found = λ list has.
          let h_tree = c.check_alternate.ensures.before list has in
          let h_loop = c.walk_tree.ensures.before list h_tree in
          let walked = c.in_ok-leaves.ensures.walked list h_tree in
          alternates_more file list (spots_in primes) index c.loop-index.index-index walked.own (marked_in c.args.reached.now) (marked_in c.loop-index.reached) (marked_in c.walk_tree.new.reached)
          within is (c.loop-index.invariant.found list h_loop)
          (record {
            spots = spots_in c.in_ok-leaves.leaves.items;
            tree = walked.stands;
            rows = subst (λ (leaves : List Leaf). AlternateStands file list (spots_in primes) index (spots_in leaves)) c.deref.ensures.value (c.in_ok-check_alternate.ensures.compares list has).stands;
          })
          walked.marks;
      reached = λ list has.
          let h_tree = c.check_alternate.ensures.before list has in
          let h_loop = c.walk_tree.ensures.before list h_tree in
          reached_next file list primes c.args.reached.now c.loop-index.index-index index (record { within = within; is = is }) c.loop-index.reached c.walk_tree.new.reached c.walk_tree.auto.reached
          (c.loop-index.invariant.reached list h_loop) (c.in_ok-leaves.ensures.marks list h_tree);
      before = λ list has. c.loop-index.invariant.before list (c.walk_tree.ensures.before list (c.check_alternate.ensures.before list has));
      long = c.walk_tree.auto.reached ∙ c.loop-index.invariant.long;
      ahead = λ list has first.
          let h_tree = c.check_alternate.ensures.before list has in
          let h_loop = c.walk_tree.ensures.before list h_tree in
          let walked = c.in_ok-leaves.ensures.walked list h_tree in
          alternates_next file list primes c.loop-index.index-index index within is c.loop-index.reached c.walk_tree.new.reached c.in_ok-leaves.leaves.items walked (c.loop-index.invariant.ahead list h_loop first)
          (let long = c.walk_tree.auto.reached in omega (arith, long));
    }

pub returns-clause-found : goal.returns-clause-found
returns-clause-found g c = λ list has.
    let file = c.args.file.now in
    let end : c.loop-index.index-index ≡ length (alternates_of file) = (let test = c.loop-index-test.false in let over = c.loop-index.auto.index-index-end in let long = ap length c.alternates-index-items.ensures.value in omega (arith, test, over, long)) in
    subst (λ (k : ℕ). AlternatesFound file list (spots_in c.args.primes.now) k (marked_in c.args.reached.now) (marked_in c.loop-index.reached)) end (c.loop-index.invariant.found list has)

pub returns-in_err-leaves-clause-refused : goal.returns-in_err-leaves-clause-refused
returns-in_err-leaves-clause-refused g c = λ list has.
    let index = c.index-item.result in
    let file = c.args.file.now in
    let same = c.alternates-index-items.ensures.value in
    let within : c.loop-index.index-index < length (alternates_of file) = (let test = c.loop-index-test.true in let long = ap length same in omega arith) in
    let is : index ≡ slice_index_or (alternates_of file) c.loop-index.index-index index = c.index-item.is ∙ ap (λ (l : List AltIndex). slice_index_or l c.loop-index.index-index index) same in
    handed_on _ _ c.from_residual.result _ c.from_residual.ensures.1
    (λ first. tree_ahead file list c.args.primes.now c.loop-index.index-index index within is c.loop-index.reached (c.loop-index.invariant.ahead list (c.walk_tree.ensures.before list has) first))
    (c.in_err-leaves.ensures.refused list has)

pub returns-in_err-check_alternate-clause-refused : goal.returns-in_err-check_alternate-clause-refused
returns-in_err-check_alternate-clause-refused g c = λ list has.
    let index = c.index-item.result in
    let file = c.args.file.now in
    let primes = c.args.primes.now in
    let same = c.alternates-index-items.ensures.value in
    let within : c.loop-index.index-index < length (alternates_of file) = (let test = c.loop-index-test.true in let long = ap length same in omega arith) in
    let is : index ≡ slice_index_or (alternates_of file) c.loop-index.index-index index = c.index-item.is ∙ ap (λ (l : List AltIndex). slice_index_or l c.loop-index.index-index index) same in
    let h_tree = c.check_alternate.ensures.before list has in
    handed_on _ _ c.from_residual-in_err-check_alternate.result _ c.from_residual-in_err-check_alternate.ensures.1
    (λ first. subst (AlternateAhead file list primes index) (sym c.deref.ensures.value)
    (alternate_ahead file list primes c.loop-index.index-index index within is c.loop-index.reached c.walk_tree.new.reached c.in_ok-leaves.leaves.items (c.in_ok-leaves.ensures.walked list h_tree)
    (c.loop-index.invariant.ahead list (c.walk_tree.ensures.before list h_tree) first) (c.in_ok-leaves.ensures.there list h_tree))) (c.in_err-check_alternate.ensures.compares list has).refused

pub returns-in_err-leaves-clause-told : goal.returns-in_err-leaves-clause-told
returns-in_err-leaves-clause-told g c = λ list has.
    let index = c.index-item.result in
    let file = c.args.file.now in
    let same = c.alternates-index-items.ensures.value in
    let within : c.loop-index.index-index < length (alternates_of file) = (let test = c.loop-index-test.true in let long = ap length same in omega arith) in
    let is : index ≡ slice_index_or (alternates_of file) c.loop-index.index-index index = c.index-item.is ∙ ap (λ (l : List AltIndex). slice_index_or l c.loop-index.index-index index) same in
    told_of_tree file list c.args.primes.now c.args.reached.now c.loop-index.index-index index (record { within = within; is = is }) c.loop-index.reached c.loop-index.invariant.long
    (c.loop-index.invariant.reached list (c.walk_tree.ensures.before list has)) c.from_residual.result _ c.from_residual.ensures.1 (c.in_err-leaves.ensures.told list has)

pub returns-in_err-check_alternate-clause-told : goal.returns-in_err-check_alternate-clause-told
returns-in_err-check_alternate-clause-told g c = λ list has.
    let index = c.index-item.result in
    let file = c.args.file.now in
    let primes = c.args.primes.now in
    let leaves = c.in_ok-leaves.leaves.items in
    let h_tree = c.check_alternate.ensures.before list has in
    let walked = c.in_ok-leaves.ensures.walked list h_tree in
    let same = c.alternates-index-items.ensures.value in
    let within : c.loop-index.index-index < length (alternates_of file) = (let test = c.loop-index-test.true in let long = ap length same in omega arith) in
    let is : index ≡ slice_index_or (alternates_of file) c.loop-index.index-index index = c.index-item.is ∙ ap (λ (l : List AltIndex). slice_index_or l c.loop-index.index-index index) same in
    told_of_entries file list primes c.args.reached.now c.loop-index.index-index index (record { within = within; is = is }) leaves
    (record { own = walked.own; stands = walked.stands; there = c.in_ok-leaves.ensures.there list h_tree }) c.from_residual-in_err-check_alternate.result _ c.from_residual-in_err-check_alternate.ensures.1
    (subst (λ (ls : List Leaf). PrimesLead file list primes → TellsOfRows (IsAlternateFault file list primes index ls) c.in_err-check_alternate.field-0.0) c.deref.ensures.value
    (c.in_err-check_alternate.ensures.compares list has).told)
