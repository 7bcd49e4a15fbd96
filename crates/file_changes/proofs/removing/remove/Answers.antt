use Rattle.std.proofs.Common.{refl, sym, ◌∙◌, arith}
use Rattle.file_changes.proofs.EndingLemmas.{mark_is, changes_marked, breaks_marked, broken_changes, broken_breaks}
use Rattle.file_changes.proofs.removing.remove.Goals as goal

pub returns-then-is_broken : goal.returns-then-is_broken
returns-then-is_broken g c =
    let start = c.args.pages.now in
    record {
      removes = broken_changes _ _ _ (record { schema = refl; ready = c.requires; begins = g.met.P.Pages.writes_begins start start (g.met.P.Pages.writes_nothing start); asked = omega arith });
      breaks = broken_breaks _ _ (sym c.is_broken.ensures ∙ c.if-is_broken.true) _ (g.met.P.Pages.reads_nothing start);
    }

pub returns : goal.returns
returns g c =
    let whole = sym c.is_broken.ensures ∙ c.if-is_broken.false in
    rw c.end_change.ensures (record {
      removes = changes_marked _ _ c.try_remove-removed.new.opened _ _ whole _ _ (mark_is _ _ _ whole c.try_remove-removed.ensures.broken) (rw c.as_slice.ensures.value at c.try_remove-removed.ensures.removes);
      breaks = breaks_marked _ _ c.try_remove-removed.new.opened _ _ whole _ _ _ (λ none. absurd none) _ (mark_is _ _ _ whole c.try_remove-removed.ensures.broken) c.try_remove-removed.ensures.cause;
    })
