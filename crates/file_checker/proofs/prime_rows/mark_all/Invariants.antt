use Rattle.std.proofs.Common.{◌≡◌, ◌<◌, ℕ, true, take, length}
use Rattle.pages.specs.Marks.{marked_in}
use Rattle.record_heap.specs.Walk.{is_in_list}
use Rattle.file_checker.proofs.prime_rows.mark_all.Given as goal

abbrev pub invariant-loop-n : goal.invariant-loop-n
invariant-loop-n l = record {
  only : (n : ℕ) → marked_in l.marks n ≡ true → is_in_list (take l.n-index l.own) n ≡ true;
  all : (n : ℕ) → n < length l.initial.marks → is_in_list (take l.n-index l.own) n ≡ true → marked_in l.marks n ≡ true;
  long : length l.marks ≡ length l.initial.marks;
}
