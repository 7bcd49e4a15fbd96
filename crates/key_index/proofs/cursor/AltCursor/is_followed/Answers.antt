use Rattle.std.proofs.Common.{map, rules}
use Rattle.bplus_tree.specs.Fields.{cursor_key}
use Rattle.key_index.specs.Stored.{alt_bytes}
use Rattle.key_index.proofs.CursorLemmas.{alt_told, front_of_key}
use Rattle.key_index.proofs.cursor.AltCursor.is_followed.Goals as goal

pub returns : goal.returns
returns g c = record {
  told = λ honest value stamp entries own stands belongs long small behind.
      let index = c.args.index.now in
      let cursor = c.args.self.now in
      alt_told value stamp cursor index (g.P.Pages.shown.state c.args.pages.now).live entries own _ c.next_begins_with.result stands long small behind
      (rw (c.min.ensures, c.from.ensures, c.key-key.ensures) (front_of_key index.width (cursor_key cursor.cursor) value stamp long behind))
      (c.next_begins_with.ensures.told honest (map alt_bytes entries) own stands.tree belongs);
  reads = search rules;
}
