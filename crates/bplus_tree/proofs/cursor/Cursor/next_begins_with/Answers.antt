use Rattle.bplus_tree.proofs.CursorLemmas.{told_near}
use Rattle.bplus_tree.proofs.cursor.Cursor.next_begins_with.Goals as goal

pub returns-then-has_neighbour-clause-told : goal.returns-then-has_neighbour-clause-told
returns-then-has_neighbour-clause-told g c honest entries own stands belongs =
    told_near c.args.self.now c.args.tree.now (g.P.Pages.shown.state c.args.pages.now).live entries own stands belongs (c.has_neighbour.ensures.0 c.if-has_neighbour.true) c.args.start.now c.entry_begins_with.result
    (rw c.from.ensures at (c.entry_begins_with.ensures.found honest))
