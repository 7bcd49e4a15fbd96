use Rattle.std.proofs.Common.{map, None, Some, Ok, ap, sym, rules}
use Rattle.key_index.specs.Stored.{alt_bytes, IsAltEntry}
use Rattle.key_index.specs.declared.cursor.AltCursor.{AltCursor}
use Rattle.key_index.proofs.LookLemmas.{fails}
use Rattle.key_index.proofs.StoredLemmas.{told_none}
use Rattle.key_index.proofs.CursorLemmas.{alt_moved}
use Rattle.key_index.proofs.cursor.AltCursor.next.Goals as goal

pub returns-in_err-next : goal.returns-in_err-next
returns-in_err-next g c = search (rules, fails)

pub returns-then-not-branch : goal.returns-then-not-branch
returns-then-not-branch g c = record {
  moved = λ honest value stamp entries own stands belongs long small behind.
      let index = c.args.index.now in
      let new : AltCursor = record { cursor = c.next.new.self } in
      let moved = rw c.if-not-branch.true at
      (c.in_ok-next.ensures.moved honest (map alt_bytes entries) own stands.tree belongs) in
      let key = rw c.if-not-branch.true at c.in_ok-next.ensures.key in
      alt_moved value stamp c.args.self.now new index _ entries own (Ok None) None
      (λ e fits same. ap Ok (sym (told_none alt_bytes (IsAltEntry index.width index.prime) e same)))
      stands moved.answer key long small behind;
  reads = search rules;
}

pub returns : goal.returns
returns g c = record {
  moved = λ honest value stamp entries own stands belongs long small behind.
      let new : AltCursor = record { cursor = c.next.new.self } in
      let moved = rw c.if-not-branch.false at
      (c.in_ok-next.ensures.moved honest (map alt_bytes entries) own stands.tree belongs) in
      let key = rw c.if-not-branch.false at c.in_ok-next.ensures.key in
      alt_moved value stamp c.args.self.now new c.args.index.now _ entries own
      _ (Some c.next.new.entry) c.decode_into.ensures.told stands moved.answer key long small behind;
  reads = search rules;
}
