use Rattle.std.proofs.Common.{◌≡◌, ℕ, ◌<◌, true, List, length, inl, inr, refl, sym, ap, subst, ◌∙◌, arith}
use Rattle.pages.specs.Each.{Each}
use Rattle.pages.specs.declared.fault_place.FaultPlace.TheVariants.{Page}
use Rattle.pages.specs.Marks.{IsUnmarked}
use Rattle.pages.proofs.ToldLemmas.{never_free}
use Rattle.page_walks.specs.FreeWalk.{IsFreeFault}
use Rattle.page_walks.specs.TreeFaults.{IsTreeFault}
use Rattle.page_walks.specs.TreeWalk.{TreeWalked}
use Rattle.record_heap.specs.Faults.{IsHeapFault}
use Rattle.record_heap.specs.Standing.{HeapStands}
use Rattle.file_checker.specs.RowFaults.{IsRowFault, TellsOfRows}
use Rattle.file_checker.specs.Search.{IsPrimeLeaf}
use Rattle.file_checker.specs.Later.{TellsOfAlternates}
use Rattle.file_checker.proofs.FaultLemmas.{all_are_marked, before_alternates, before_free, before_heap, before_prime, is_unmarked, tells_indexes, tells_rows, tells_walk}
use Rattle.pages.specs.Marks.{marked_in}
use Rattle.pages.specs.PageList.{pages_in}
use Rattle.page_walks.specs.declared.leaf.Leaf.{Leaf}
use Rattle.page_walks.specs.Spots.{spots_in}
use Rattle.file_checker.proofs.LawLemmas.{make_a_file}
use Rattle.file_checker.specs.RowsAhead.{RowsAhead}
use Rattle.file_checker.specs.Rows.{EntriesRise, RowsStand}
use Rattle.file_checker.proofs.PrimeAheadLemmas.{primes_lead}
use Rattle.record_heap.specs.Standing.{slot_shape}
use Rattle.record_heap.specs.Walk.{slots_of}
use Rattle.file_checker.specs.Ahead.{AlternatesAhead}
use Rattle.file_checker.specs.Parts.{AlternatesFound}
use Rattle.file_checker.proofs.AlternateLemmas.{prime_rise, spots_many}
use Rattle.file_checker.proofs.AheadLemmas.{alternates_ahead, free_ahead, heap_ahead, none_lost, prime_ahead, rows_ahead}
use Rattle.file_checker.proofs.AlternatesAheadLemmas.{checks_by_walk}
use Rattle.file_checker.proofs.StandLemmas.{Found, pages_stand, leaves_out}
use Rattle.file_checker.proofs.parts.check_parts.Goals as goal
use Rattle.open_file.specs.Fields.{alternates_of, heap_of, prime_index_of}

pub check_rows-requires-clause-rises : goal.check_rows-requires-clause-rises
check_rows-requires-clause-rises g c = λ list has.
    let h_own = c.walk_tree.ensures.before list has in
    let h_free = c.walk_heap.ensures.before list h_own in
    let h_first = c.walk_free.ensures.before list h_free in
    let may = c.requires.may list h_first in
    let file = c.from_header-file.result in
    subst (λ (leaves : List Leaf). EntriesRise file list (spots_in leaves)) (sym c.deref-2.ensures.value)
    (prime_rise file list (marked_in c.walk_heap.new.reached) (marked_in c.walk_tree.new.reached) (spots_in c.in_ok-primes.primes.items) (rw c.prime.ensures at (c.in_ok-primes.ensures.walked list has)))

pub check_alternates-requires-clause-many : goal.check_alternates-requires-clause-many
check_alternates-requires-clause-many g c = λ list has j index within is.
    let h_primes = c.check_rows.ensures.before list has in
    let opened = c.from_header-file.ensures in
    let tree = (prime_index_of c.from_header-file.result).tree in
    opened.counts j index within is ∙ sym opened.header_is.records
    ∙ sym (ap (λ (primes : List Leaf). length (spots_in primes)) c.deref-3.ensures.value ∙ spots_many tree list (marked_in c.walk_heap.new.reached) (marked_in c.walk_tree.new.reached) (spots_in c.in_ok-primes.primes.items)
    (rw c.prime.ensures at (c.in_ok-primes.ensures.walked list h_primes)))

pub returns-clause-checks : goal.returns-clause-checks
returns-clause-checks g c = λ list has.
    let h_rows = c.check_alternates.ensures.before list has in
    let h_primes = c.check_rows.ensures.before list h_rows in
    let h_own = c.walk_tree.ensures.before list h_primes in
    let h_free = c.walk_heap.ensures.before list h_own in
    let h_first = c.walk_free.ensures.before list h_free in
    let may = c.requires.may list h_first in
    let file = c.from_header-file.result in
    let rows : RowsStand file list c.in_ok-own.own.items (spots_in c.in_ok-primes.primes.items) =
    subst (λ (own : List ℕ). RowsStand file list own (spots_in c.in_ok-primes.primes.items)) c.deref.ensures.value
    (subst (λ (primes : List Leaf). RowsStand file list c.deref.result.now (spots_in primes)) c.deref-2.ensures.value (c.in_ok-check_rows.ensures.compares list h_rows).stand) in
    let alternates : AlternatesFound file list (spots_in c.in_ok-primes.primes.items) (length (alternates_of file)) (marked_in c.walk_tree.new.reached) (marked_in c.check_alternates.new.reached) =
    subst (λ (primes : List Leaf). AlternatesFound file list (spots_in primes) (length (alternates_of file)) (marked_in c.walk_tree.new.reached) (marked_in c.check_alternates.new.reached)) c.deref-3.ensures.value
    (c.in_ok-check_alternates.ensures.found list has) in
    let found : Found c.args.header.now list file c.in_ok-own.own.items (spots_in c.in_ok-primes.primes.items) (marked_in c.args.reached.now) (marked_in c.mark.new.reached) (marked_in c.walk_free.new.reached)
    (marked_in c.walk_heap.new.reached) (marked_in c.walk_tree.new.reached) (marked_in c.check_alternates.new.reached) =
    record {
      clear = may.clear;
      first = c.in_ok-mark.ensures.marked;
      free = (c.in_ok-walk_free.ensures.walked list h_free);
      heap = rw c.heap.ensures at (c.in_ok-own.ensures.walked list h_own).stands;
      heap_marks = (c.in_ok-own.ensures.walked list h_own).marks;
      prime = rw c.prime.ensures at (c.in_ok-primes.ensures.walked list h_primes);
      rows = rows;
      alternates = alternates;
    } in
    let all : (n : ℕ) → n < length list → marked_in c.check_alternates.new.reached n ≡ true = λ n within.
    all_are_marked c.check_alternates.new.reached (sym c.first_lost.ensures ∙ c.in-None.is) n (let a = c.mark.auto.reached in let b = c.walk_free.auto.reached in let d = c.walk_heap.auto.reached in let e = c.walk_tree.auto.reached in
    let f = c.check_alternates.auto.reached in let many = may.many in omega arith) in
    record {
      stand = pages_stand c.args.header.now list file c.in_ok-own.own.items (spots_in c.in_ok-primes.primes.items) (marked_in c.args.reached.now) (marked_in c.mark.new.reached) (marked_in c.walk_free.new.reached)
          (marked_in c.walk_heap.new.reached) (marked_in c.walk_tree.new.reached) (marked_in c.check_alternates.new.reached) c.requires.header c.from_header-file.ensures found all make_a_file;
      stop = tt;
      refused = tt;
    }

pub returns-in_err-mark-clause-checks : goal.returns-in_err-mark-clause-checks
returns-in_err-mark-clause-checks g c = λ list has.
    let may = c.requires.may list has in
    let many = may.many in
    let counted = may.counted in
    let some = c.requires.header.within.counted in
    checks_by_walk c.args.header.now list _ c.from_residual.result _ c.from_residual.ensures.1 (λ p. (omega (arith, many, counted, some), may.clear 0)) c.in_err-mark.ensures.refused
    (absurd (never_free (IsUnmarked c.args.reached.now 0) _ _ c.in_err-mark.ensures.told c.in_err-mark.ensures.refused (omega (arith, many, counted, some), may.clear 0)))

pub returns-in_err-walk_free-clause-checks : goal.returns-in_err-walk_free-clause-checks
returns-in_err-walk_free-clause-checks g c = λ list has.
    let h_first = c.walk_free.ensures.before list has in
    let may = c.requires.may list h_first in
    let header = c.args.header.now in
    let file = c.from_header-file.result in
    let many = may.many in
    let zero_long : length c.mark.new.reached ≡ length list = (let a = c.mark.auto.reached in omega (arith, a, many)) in
    checks_by_walk header list _ c.from_residual-in_err-walk_free.result _ c.from_residual-in_err-walk_free.ensures.1
    (λ p. free_ahead header list (marked_in c.args.reached.now) may.clear c.mark.new.reached zero_long c.in_ok-mark.ensures.marked p.sound) (c.in_err-walk_free.ensures.refused list has)
    (tells_walk header list (IsFreeFault list header.first_free header.free c.mark.new.reached) _ (λ what place h. record {
      opened = file;
      by_header = c.from_header-file.ensures;
      wrong = inl (record {
        marks = c.mark.new.reached;
        are = record { many = zero_long; each = before_free header list (marked_in c.args.reached.now) may.clear c.mark.new.reached c.in_ok-mark.ensures.marked };
        wrong = h;
      });
    }) (c.in_err-walk_free.ensures.told list has))

pub returns-in_err-own-clause-checks : goal.returns-in_err-own-clause-checks
returns-in_err-own-clause-checks g c = λ list has.
    let h_free = c.walk_heap.ensures.before list has in
    let h_first = c.walk_free.ensures.before list h_free in
    let may = c.requires.may list h_first in
    let header = c.args.header.now in
    let file = c.from_header-file.result in
    let many = may.many in
    let zero_long : length c.mark.new.reached ≡ length list = (let a = c.mark.auto.reached in omega (arith, a, many)) in
    let start_long : length c.walk_free.new.reached ≡ length list = (let b = c.walk_free.auto.reached in omega (arith, b, zero_long)) in
    checks_by_walk header list _ c.from_residual-in_err-own.result _ c.from_residual-in_err-own.ensures.1
    (λ p. heap_ahead header list (marked_in c.args.reached.now) may.clear c.mark.new.reached zero_long c.in_ok-mark.ensures.marked c.walk_free.new.reached start_long (c.in_ok-walk_free.ensures.walked list h_free) c.requires.header may.counted file c.from_header-file.ensures p) (rw c.heap.ensures at (c.in_err-own.ensures.refused list has))
    (tells_walk header list (IsHeapFault (heap_of file) list c.walk_free.new.reached) _ (λ what place h. record {
      opened = file;
      by_header = c.from_header-file.ensures;
      wrong = inr (inl (record {
        marks = c.walk_free.new.reached;
        are = record { many = start_long; each = before_heap header list (marked_in c.args.reached.now) may.clear c.mark.new.reached c.in_ok-mark.ensures.marked c.walk_free.new.reached (c.in_ok-walk_free.ensures.walked list h_free) };
        wrong = h;
      }));
    }) (rw c.heap.ensures at (c.in_err-own.ensures.told list has)))

pub returns-in_err-primes-clause-checks : goal.returns-in_err-primes-clause-checks
returns-in_err-primes-clause-checks g c = λ list has.
    let h_own = c.walk_tree.ensures.before list has in
    let h_free = c.walk_heap.ensures.before list h_own in
    let h_first = c.walk_free.ensures.before list h_free in
    let may = c.requires.may list h_first in
    let header = c.args.header.now in
    let file = c.from_header-file.result in
    let many = may.many in
    let zero_long : length c.mark.new.reached ≡ length list = (let a = c.mark.auto.reached in omega (arith, a, many)) in
    let start_long : length c.walk_free.new.reached ≡ length list = (let b = c.walk_free.auto.reached in omega (arith, b, zero_long)) in
    let heap_long : length c.walk_heap.new.reached ≡ length c.walk_free.new.reached = (let d = c.walk_heap.auto.reached in omega (arith, d)) in
    checks_by_walk header list _ c.from_residual-in_err-primes.result _ c.from_residual-in_err-primes.ensures.1
    (λ p. prime_ahead header list (marked_in c.args.reached.now) may.clear c.mark.new.reached zero_long c.in_ok-mark.ensures.marked c.walk_free.new.reached start_long (c.in_ok-walk_free.ensures.walked list h_free) c.requires.header may.counted file c.from_header-file.ensures p c.walk_heap.new.reached heap_long c.in_ok-own.own.items
    (slots_of (slot_shape (heap_of file)) (pages_in list) c.in_ok-own.own.items) (rw c.heap.ensures at (c.in_ok-own.ensures.walked list h_own).stands) (c.in_ok-own.ensures.walked list h_own).marks)
    (rw c.prime.ensures at (c.in_err-primes.ensures.refused list has))
    (tells_walk header list (IsTreeFault (prime_index_of file).tree list c.walk_heap.new.reached) _ (λ what place h. record {
      opened = file;
      by_header = c.from_header-file.ensures;
      wrong = inr (inr (inl (record {
        marks = c.walk_heap.new.reached;
        are = record {
          many = heap_long ∙ start_long;
          each = before_prime header list (marked_in c.args.reached.now) may.clear c.mark.new.reached c.in_ok-mark.ensures.marked c.walk_free.new.reached (c.in_ok-walk_free.ensures.walked list h_free) file c.walk_heap.new.reached c.in_ok-own.own.items
              (rw c.heap.ensures at (c.in_ok-own.ensures.walked list h_own).stands).chain (c.in_ok-own.ensures.walked list h_own).marks;
        };
        wrong = h;
      })));
    }) (rw c.prime.ensures at (c.in_err-primes.ensures.told list has)))

pub returns-in_err-check_rows-clause-checks : goal.returns-in_err-check_rows-clause-checks
returns-in_err-check_rows-clause-checks g c = λ list has.
    let h_primes = c.check_rows.ensures.before list has in
    let h_own = c.walk_tree.ensures.before list h_primes in
    let h_free = c.walk_heap.ensures.before list h_own in
    let h_first = c.walk_free.ensures.before list h_free in
    let may = c.requires.may list h_first in
    let header = c.args.header.now in
    let file = c.from_header-file.result in
    let many = may.many in
    let zero_long : length c.mark.new.reached ≡ length list = (let a = c.mark.auto.reached in omega (arith, a, many)) in
    let start_long : length c.walk_free.new.reached ≡ length list = (let b = c.walk_free.auto.reached in omega (arith, b, zero_long)) in
    let heap_long : length c.walk_heap.new.reached ≡ length c.walk_free.new.reached = (let d = c.walk_heap.auto.reached in omega (arith, d)) in
    let prime_long : length c.walk_tree.new.reached ≡ length c.walk_heap.new.reached = (let d = c.walk_tree.auto.reached in omega (arith, d)) in
    checks_by_walk header list _ c.from_residual-in_err-check_rows.result _ c.from_residual-in_err-check_rows.ensures.1
    (λ p. subst (λ (own : List ℕ). RowsAhead file list own c.deref-2.result.now) (sym c.deref.ensures.value)
    (subst (RowsAhead file list c.in_ok-own.own.items) (sym c.deref-2.ensures.value)
    (rows_ahead header list (marked_in c.args.reached.now) may.clear c.mark.new.reached zero_long c.in_ok-mark.ensures.marked c.walk_free.new.reached start_long (c.in_ok-walk_free.ensures.walked list h_free) c.requires.header may.counted file c.from_header-file.ensures p c.walk_heap.new.reached heap_long c.in_ok-own.own.items
    (slots_of (slot_shape (heap_of file)) (pages_in list) c.in_ok-own.own.items) (rw c.heap.ensures at (c.in_ok-own.ensures.walked list h_own).stands) (c.in_ok-own.ensures.walked list h_own).marks c.walk_tree.new.reached prime_long c.in_ok-primes.primes.items (rw c.prime.ensures at (c.in_ok-primes.ensures.walked list h_primes))
    refl (rw c.prime.ensures at (c.in_ok-primes.ensures.there list h_primes))))) (c.in_err-check_rows.ensures.compares list has).refused
    (let heap : HeapStands (heap_of file) (pages_in list) (slots_of (slot_shape (heap_of file)) (pages_in list) c.in_ok-own.own.items) c.in_ok-own.own.items = rw c.heap.ensures at (c.in_ok-own.ensures.walked list h_own).stands in
    let walked : TreeWalked (prime_index_of file).tree list (marked_in c.walk_heap.new.reached) (marked_in c.walk_tree.new.reached) (spots_in c.in_ok-primes.primes.items) = rw c.prime.ensures at (c.in_ok-primes.ensures.walked list h_primes) in
    let there : Each (IsPrimeLeaf file list) c.in_ok-primes.primes.items = rw c.prime.ensures at (c.in_ok-primes.ensures.there list h_primes) in
    tells_rows header list (IsRowFault file list c.in_ok-own.own.items c.in_ok-primes.primes.items) _ (λ place h. record {
      opened = file;
      by_header = c.from_header-file.ensures;
      wrong = inl (record {
        own = c.in_ok-own.own.items;
        chain_is = heap.chain;
        primes = c.in_ok-primes.primes.items;
        are = record { own = walked.own; stands = walked.stands; there = there };
        wrong = h;
      });
    }) (subst (λ (own : List ℕ). TellsOfRows (IsRowFault file list own c.in_ok-primes.primes.items) c.in_err-check_rows.field-0.0) c.deref.ensures.value
    (subst (λ (primes : List Leaf). Each (IsPrimeLeaf file list) primes → TellsOfRows (IsRowFault file list c.deref.result.now primes) c.in_err-check_rows.field-0.0) c.deref-2.ensures.value (c.in_err-check_rows.ensures.compares list has).told there)))

pub returns-in_err-check_alternates-clause-checks : goal.returns-in_err-check_alternates-clause-checks
returns-in_err-check_alternates-clause-checks g c = λ list has.
    let h_rows = c.check_alternates.ensures.before list has in
    let h_primes = c.check_rows.ensures.before list h_rows in
    let h_own = c.walk_tree.ensures.before list h_primes in
    let h_free = c.walk_heap.ensures.before list h_own in
    let h_first = c.walk_free.ensures.before list h_free in
    let may = c.requires.may list h_first in
    let header = c.args.header.now in
    let file = c.from_header-file.result in
    let many = may.many in
    let zero_long : length c.mark.new.reached ≡ length list = (let a = c.mark.auto.reached in omega (arith, a, many)) in
    let start_long : length c.walk_free.new.reached ≡ length list = (let b = c.walk_free.auto.reached in omega (arith, b, zero_long)) in
    let heap_long : length c.walk_heap.new.reached ≡ length c.walk_free.new.reached = (let d = c.walk_heap.auto.reached in omega (arith, d)) in
    let prime_long : length c.walk_tree.new.reached ≡ length c.walk_heap.new.reached = (let d = c.walk_tree.auto.reached in omega (arith, d)) in
    let rise = prime_rise file list (marked_in c.walk_heap.new.reached) (marked_in c.walk_tree.new.reached) (spots_in c.in_ok-primes.primes.items) (rw c.prime.ensures at (c.in_ok-primes.ensures.walked list h_primes)) in
    checks_by_walk header list _ c.from_residual-in_err-check_alternates.result _ c.from_residual-in_err-check_alternates.ensures.1
    (λ p. subst (λ (primes : List Leaf). AlternatesAhead file list primes 0 c.walk_tree.new.reached) (sym c.deref-3.ensures.value)
    (alternates_ahead header list (marked_in c.args.reached.now) may.clear c.mark.new.reached zero_long c.in_ok-mark.ensures.marked c.walk_free.new.reached start_long (c.in_ok-walk_free.ensures.walked list h_free) c.requires.header may.counted file c.from_header-file.ensures p c.walk_heap.new.reached heap_long c.in_ok-own.own.items
    (slots_of (slot_shape (heap_of file)) (pages_in list) c.in_ok-own.own.items) (rw c.heap.ensures at (c.in_ok-own.ensures.walked list h_own).stands) (c.in_ok-own.ensures.walked list h_own).marks c.walk_tree.new.reached prime_long c.in_ok-primes.primes.items (rw c.prime.ensures at (c.in_ok-primes.ensures.walked list h_primes))
    (primes_lead file list c.in_ok-own.own.items c.in_ok-primes.primes.items rise
    (rows_ahead header list (marked_in c.args.reached.now) may.clear c.mark.new.reached zero_long c.in_ok-mark.ensures.marked c.walk_free.new.reached start_long (c.in_ok-walk_free.ensures.walked list h_free) c.requires.header may.counted file c.from_header-file.ensures p c.walk_heap.new.reached heap_long c.in_ok-own.own.items
    (slots_of (slot_shape (heap_of file)) (pages_in list) c.in_ok-own.own.items) (rw c.heap.ensures at (c.in_ok-own.ensures.walked list h_own).stands) (c.in_ok-own.ensures.walked list h_own).marks c.walk_tree.new.reached prime_long c.in_ok-primes.primes.items (rw c.prime.ensures at (c.in_ok-primes.ensures.walked list h_primes))
    refl (rw c.prime.ensures at (c.in_ok-primes.ensures.there list h_primes)))))) (c.in_err-check_alternates.ensures.refused list has)
    (let heap : HeapStands (heap_of file) (pages_in list) (slots_of (slot_shape (heap_of file)) (pages_in list) c.in_ok-own.own.items) c.in_ok-own.own.items = rw c.heap.ensures at (c.in_ok-own.ensures.walked list h_own).stands in
    let walked : TreeWalked (prime_index_of file).tree list (marked_in c.walk_heap.new.reached) (marked_in c.walk_tree.new.reached) (spots_in c.in_ok-primes.primes.items) = rw c.prime.ensures at (c.in_ok-primes.ensures.walked list h_primes) in
    let there : Each (IsPrimeLeaf file list) c.in_ok-primes.primes.items = rw c.prime.ensures at (c.in_ok-primes.ensures.there list h_primes) in
    let stand : RowsStand file list c.in_ok-own.own.items (spots_in c.in_ok-primes.primes.items) =
    subst (λ (own : List ℕ). RowsStand file list own (spots_in c.in_ok-primes.primes.items)) c.deref.ensures.value
    (subst (λ (primes : List Leaf). RowsStand file list c.deref.result.now (spots_in primes)) c.deref-2.ensures.value (c.in_ok-check_rows.ensures.compares list h_rows).stand) in
    tells_indexes header list file c.from_header-file.ensures c.in_ok-primes.primes.items (record { own = walked.own; stands = walked.stands; there = there }) c.walk_tree.new.reached (prime_long ∙ heap_long ∙ start_long)
    (before_alternates header list (marked_in c.args.reached.now) may.clear c.mark.new.reached c.in_ok-mark.ensures.marked c.walk_free.new.reached (c.in_ok-walk_free.ensures.walked list h_free) file c.walk_heap.new.reached c.in_ok-own.own.items
    heap.chain (c.in_ok-own.ensures.walked list h_own).marks c.walk_tree.new.reached prime_long (rw c.prime.ensures at (c.in_ok-primes.ensures.marks list h_primes))) _
    (subst (λ (primes : List Leaf). TellsOfAlternates file list primes c.walk_tree.new.reached c.in_err-check_alternates.field-0.0) c.deref-3.ensures.value (c.in_err-check_alternates.ensures.told list has)
    (primes_lead file list c.in_ok-own.own.items c.in_ok-primes.primes.items rise (record { there = there; stand = stand }))))

pub returns-in-Some-clause-checks : goal.returns-in-Some-clause-checks
returns-in-Some-clause-checks g c = λ list has.
    let h_rows = c.check_alternates.ensures.before list has in
    let h_primes = c.check_rows.ensures.before list h_rows in
    let h_own = c.walk_tree.ensures.before list h_primes in
    let h_free = c.walk_heap.ensures.before list h_own in
    let h_first = c.walk_free.ensures.before list h_free in
    let may = c.requires.may list h_first in
    let file = c.from_header-file.result in
    let rows : RowsStand file list c.in_ok-own.own.items (spots_in c.in_ok-primes.primes.items) =
    subst (λ (own : List ℕ). RowsStand file list own (spots_in c.in_ok-primes.primes.items)) c.deref.ensures.value
    (subst (λ (primes : List Leaf). RowsStand file list c.deref.result.now (spots_in primes)) c.deref-2.ensures.value (c.in_ok-check_rows.ensures.compares list h_rows).stand) in
    let alternates : AlternatesFound file list (spots_in c.in_ok-primes.primes.items) (length (alternates_of file)) (marked_in c.walk_tree.new.reached) (marked_in c.check_alternates.new.reached) =
    subst (λ (primes : List Leaf). AlternatesFound file list (spots_in primes) (length (alternates_of file)) (marked_in c.walk_tree.new.reached) (marked_in c.check_alternates.new.reached)) c.deref-3.ensures.value
    (c.in_ok-check_alternates.ensures.found list has) in
    let found : Found c.args.header.now list file c.in_ok-own.own.items (spots_in c.in_ok-primes.primes.items) (marked_in c.args.reached.now) (marked_in c.mark.new.reached) (marked_in c.walk_free.new.reached)
    (marked_in c.walk_heap.new.reached) (marked_in c.walk_tree.new.reached) (marked_in c.check_alternates.new.reached) =
    record {
      clear = may.clear;
      first = c.in_ok-mark.ensures.marked;
      free = (c.in_ok-walk_free.ensures.walked list h_free);
      heap = rw c.heap.ensures at (c.in_ok-own.ensures.walked list h_own).stands;
      heap_marks = (c.in_ok-own.ensures.walked list h_own).marks;
      prime = rw c.prime.ensures at (c.in_ok-primes.ensures.walked list h_primes);
      rows = rows;
      alternates = alternates;
    } in
    let many = may.many in
    let zero_long : length c.mark.new.reached ≡ length list = (let a = c.mark.auto.reached in omega (arith, a, many)) in
    let start_long : length c.walk_free.new.reached ≡ length list = (let b = c.walk_free.auto.reached in omega (arith, b, zero_long)) in
    let heap_long : length c.walk_heap.new.reached ≡ length c.walk_free.new.reached = (let d = c.walk_heap.auto.reached in omega (arith, d)) in
    let prime_long : length c.walk_tree.new.reached ≡ length c.walk_heap.new.reached = (let d = c.walk_tree.auto.reached in omega (arith, d)) in
    let n = c.in-Some.n in
    let lost = is_unmarked c.check_alternates.new.reached n (sym c.first_lost.ensures ∙ c.in-Some.is) in
    let within : n < length list = (let some = lost.0 in let a = c.mark.auto.reached in let b = c.walk_free.auto.reached in let d = c.walk_heap.auto.reached in let e = c.walk_tree.auto.reached in
    let f = c.check_alternates.auto.reached in let many = may.many in omega arith) in
    record {
      stand = tt;
      stop = (
        n,
        leaves_out c.args.header.now list file c.in_ok-own.own.items (spots_in c.in_ok-primes.primes.items) (marked_in c.args.reached.now) (marked_in c.mark.new.reached) (marked_in c.walk_free.new.reached)
            (marked_in c.walk_heap.new.reached) (marked_in c.walk_tree.new.reached) (marked_in c.check_alternates.new.reached) c.requires.header c.from_header-file.ensures found n within lost.1,
        ap Page (let low = c.requires.header.room.pages in let counted = may.counted in omega arith),
      );
      refused = λ p. none_lost c.args.header.now list (marked_in c.args.reached.now) may.clear c.mark.new.reached zero_long c.in_ok-mark.ensures.marked c.walk_free.new.reached start_long (c.in_ok-walk_free.ensures.walked list h_free) c.requires.header may.counted file c.from_header-file.ensures p c.walk_heap.new.reached heap_long c.in_ok-own.own.items
          (slots_of (slot_shape (heap_of file)) (pages_in list) c.in_ok-own.own.items) (rw c.heap.ensures at (c.in_ok-own.ensures.walked list h_own).stands) (c.in_ok-own.ensures.walked list h_own).marks c.walk_tree.new.reached prime_long c.in_ok-primes.primes.items (rw c.prime.ensures at (c.in_ok-primes.ensures.walked list h_primes)) c.check_alternates.new.reached
          alternates n within lost.1;
    }
