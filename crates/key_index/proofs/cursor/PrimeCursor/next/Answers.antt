use Rattle.std.proofs.Common.{map, None, Some, Ok, ap, sym, rules}
use Rattle.key_index.specs.Stored.{prime_bytes, IsPrimeEntry}
use Rattle.key_index.specs.declared.cursor.PrimeCursor.{PrimeCursor}
use Rattle.key_index.proofs.LookLemmas.{fails}
use Rattle.key_index.proofs.StoredLemmas.{told_none}
use Rattle.key_index.proofs.CursorLemmas.{prime_moved}
use Rattle.key_index.proofs.cursor.PrimeCursor.next.Goals as goal

pub returns-in_err-next : goal.returns-in_err-next
returns-in_err-next g c = search (rules, fails)

pub returns-then-not-branch : goal.returns-then-not-branch
returns-then-not-branch g c = record {
  moved = λ honest entries own stands belongs.
      let index = c.args.index.now in
      let new : PrimeCursor = record { cursor = c.next.new.self } in
      let moved = rw c.if-not-branch.true at
      (c.in_ok-next.ensures.moved honest (map prime_bytes entries) own stands.tree belongs) in
      let key = rw c.if-not-branch.true at c.in_ok-next.ensures.key in
      prime_moved c.args.self.now new index _ entries own (Ok None) None
      (λ e fits same. ap Ok (sym (told_none prime_bytes (IsPrimeEntry index.width) e same))) stands moved.answer key;
  reads = search rules;
}

pub returns : goal.returns
returns g c = record {
  moved = λ honest entries own stands belongs.
      let new : PrimeCursor = record { cursor = c.next.new.self } in
      let moved = rw c.if-not-branch.false at
      (c.in_ok-next.ensures.moved honest (map prime_bytes entries) own stands.tree belongs) in
      let key = rw c.if-not-branch.false at c.in_ok-next.ensures.key in
      prime_moved c.args.self.now new c.args.index.now _ entries own
      _ (Some c.next.new.entry) c.decode_into.ensures.told stands moved.answer key;
  reads = search rules;
}
