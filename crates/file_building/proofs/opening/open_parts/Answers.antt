use Rattle.std.proofs.Common.{sym, subst, ◌∙◌}
use Rattle.std.proofs.lemmas.Bool.{false≢true}
use Rattle.record_layout.specs.Schema.{IsSchema}
use Rattle.file_building.proofs.OpeningLemmas.{opens, opens_none}
use Rattle.file_building.proofs.opening.open_parts.Goals as goal

pub returns-then-are_links : goal.returns-then-are_links
returns-then-are_links c =
    opens c.args.schema.now c.args.next_stamp c.args.heap.now c.args.prime.now c.args.alternates.now.items c.header_of-header.result c.header_of-header.ensures (subst IsSchema c.header_of-header.ensures.schema_is c.are_links.ensures.schema) c.requires.many c.from_header.result c.from_header.ensures

pub returns-else-are_links : goal.returns-else-are_links
returns-else-are_links c =
    opens_none c.args.schema.now c.args.next_stamp c.args.heap.now c.args.prime.now c.args.alternates.now.items c.header_of-header.result c.header_of-header.ensures (subst IsSchema c.header_of-header.ensures.schema_is c.are_links.ensures.schema) c.requires.many
    (λ within. false≢true (sym c.if-are_links.false ∙ c.are_links.ensures.links.1 within))
