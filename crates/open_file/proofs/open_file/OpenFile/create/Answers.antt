use Rattle.std.proofs.Common.{refl, ap, ◌∙◌}
use Rattle.record_layout.specs.declared.schema.KeyPart.{KeyPart}
use Rattle.record_heap.specs.declared.shape.SlotShape.{SlotShape}
use Rattle.key_index.proofs.LookLemmas.{fails}
use Rattle.open_file.proofs.CreatingLemmas.{first_parts, low_heights, new_stands}
use Rattle.open_file.proofs.open_file.OpenFile.create.Goals as goal

pub returns-in_err-alternates-clause-new : goal.returns-in_err-alternates-clause-new
returns-in_err-alternates-clause-new g c honest sound free =
    let start = c.args.pages.now in
    let now = c.empty.new.pages in
    let later = c.new_alternates.new.pages in
    let before = g.met.P.Pages.writes_honestly now later c.new_alternates.ensures.takes.writes.step honest in
    let made = (c.in_ok-prime.ensures.made before sound).answer in
    let parts = first_parts c.new-heap.result c.in_ok-prime.prime (g.P.Pages.shown.state start).live (g.P.Pages.shown.state now).live c.new-heap.ensures.empty free made.0 in
    fails c.from_residual-in_err-alternates.result _ _ c.from_residual-in_err-alternates.ensures.1 (c.in_err-alternates.ensures.made honest made.1 c.new-heap.result c.in_ok-prime.prime parts).no_damage

pub returns-clause-new : goal.returns-clause-new
returns-clause-new g c honest sound free =
    let start = c.args.pages.now in
    let now = c.empty.new.pages in
    let later = c.new_alternates.new.pages in
    let before = g.met.P.Pages.writes_honestly now later c.new_alternates.ensures.takes.writes.step honest in
    let made = (c.in_ok-prime.ensures.made before sound).answer in
    let parts = first_parts c.new-heap.result c.in_ok-prime.prime (g.P.Pages.shown.state start).live (g.P.Pages.shown.state now).live c.new-heap.ensures.empty free made.0 in
    let done = (c.in_ok-alternates.ensures.made honest made.1 c.new-heap.result c.in_ok-prime.prime parts).answer in
    record { answer = record { stands = new_stands _ (g.P.Pages.shown.state later).live refl refl done.0; sound = done.1 }; no_damage = tt }

pub returns-clause-made : goal.returns-clause-made
returns-clause-made g c =
    let each = c.in_ok-alternates.ensures.all.each in
    let many = c.in_ok-alternates.ensures.all.many in
    let width = c.in_ok-prime.ensures.width in
    record {
      schema_is = c.copy.ensures;
      shaped = rw c.copy.ensures (record {
        is_schema = c.heap_shape.ensures.schema;
        keys = many;
        prime_width = width.0 ∙ ap (λ (part : KeyPart). part.length) c.part.ensures.part;
        widths = λ j index within is. let one = each j index within is in (one.width, one.prime);
        numbers = λ j index within is. (each j index within is).number;
        stamps = ap (λ (s : SlotShape). s.stamps) c.new-heap.ensures.shape ∙ c.heap_shape.ensures.stamps;
        least = ap (λ (s : SlotShape). s.least) c.new-heap.ensures.shape ∙ c.heap_shape.ensures.least;
        greatest = ap (λ (s : SlotShape). s.greatest) c.new-heap.ensures.shape ∙ c.heap_shape.ensures.greatest;
      });
      unbroken = refl;
      heights = low_heights c.args.schema.now c.in_ok-prime.prime c.in_ok-alternates.alternates.items width.1 each many;
    }
