use Rattle.std.proofs.Common.{refl, sym, ◌∙◌, arith}
use Rattle.file_changes.proofs.EndingLemmas.{mark_is, changes_marked, breaks_marked, broken_changes, broken_breaks}
use Rattle.file_changes.proofs.adding.add.Goals as goal

pub returns-then-is_broken : goal.returns-then-is_broken
returns-then-is_broken g c =
    let start = c.args.pages.now in
    record {
      adds = broken_changes _ _ _ (record { schema = refl; ready = c.requires.ready; begins = g.met.P.Pages.writes_begins start start (g.met.P.Pages.writes_nothing start); asked = omega arith });
      breaks = broken_breaks _ _ (sym c.is_broken.ensures ∙ c.if-is_broken.true) _ (g.met.P.Pages.reads_nothing start);
    }

pub returns : goal.returns
returns g c =
    let whole = sym c.is_broken.ensures ∙ c.if-is_broken.false in
    rw c.end_change.ensures (record {
      adds = changes_marked _ _ c.try_add-added.new.opened _ _ whole _ _ (mark_is _ _ _ whole c.try_add-added.ensures.keeps.broken) c.try_add-added.ensures.adds;
      breaks = breaks_marked _ _ c.try_add-added.new.opened _ _ whole _ _ _ (λ lacks. refl) _ (mark_is _ _ _ whole c.try_add-added.ensures.keeps.broken) c.try_add-added.ensures.keeps.cause;
    })
