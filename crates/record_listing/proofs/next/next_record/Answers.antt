use Rattle.std.proofs.Common.{sym, ◌∙◌, refl, rules}
use Rattle.indexed_file.specs.World.{schema_at, file_at}
use Rattle.record_listing.proofs.ListedLemmas.{found_first, found_past, none_found, not_behind}
use Rattle.record_listing.proofs.next.next_record.Goals as goal

pub returns-then-not-is_behind-clause-fault : goal.returns-then-not-is_behind-clause-fault
returns-then-not-is_behind-clause-fault g c = (
  refl,
  λ honest truly.
      not_behind (schema_at (g.L.Library.shown.world c.args.lib.now) 0) (file_at (g.L.Library.shown.world c.args.lib.now) 0) c.args.k c.args.position.now c.in-Ok-Some.found (sym c.in-Ok-Some.field-0-is ∙ c.in-Ok-Some.ensures.found honest truly) (sym c.is_behind.ensures.behind ∙ (search rules)),
)

pub returns-then-is_past-clause-goes : goal.returns-then-is_past-clause-goes
returns-then-is_past-clause-goes g c honest truly =
    found_past _ _ _ _ _ c.args.area.now c.next.new.area c.in-Ok-Some.found (sym c.in-Ok-Some.field-0-is ∙ c.in-Ok-Some.ensures.found honest truly) (sym c.is_past.ensures ∙ c.if-is_past.true)

pub returns-else-is_past-clause-goes : goal.returns-else-is_past-clause-goes
returns-else-is_past-clause-goes g c honest truly =
    found_first _ _ _ _ _ c.args.area.now c.next.new.area c.in-Ok-Some.found (sym c.in-Ok-Some.field-0-is ∙ c.in-Ok-Some.ensures.found honest truly) (c.in-Ok-Some.ensures.area honest truly) (sym c.is_past.ensures ∙ c.if-is_past.false)

pub returns-in-Ok-None-clause-goes : goal.returns-in-Ok-None-clause-goes
returns-in-Ok-None-clause-goes g c honest truly = none_found _ _ _ _ _ (sym c.in-Ok-None.field-0-is ∙ c.in-Ok-None.ensures.found honest truly)
