use Rattle.std.proofs.Common.{refl, inl}
use Rattle.salvaged_records.proofs.SalvageLemmas.{placed_by}
use Rattle.salvaged_records.proofs.salvaging.list_placed.Goals as goal

pub returns-in-Ok-clause-ends : goal.returns-in-Ok-clause-ends
returns-in-Ok-clause-ends g c =
    placed_by c.args.deck.now c.args.bytes.now _ c.args.asked.now.places _ c.args.records _ _ c.requires.sound.0 c.requires.places c.requires.sound.1
    (c.in-Some.header.schema, inl (c.in-Some.header, c.in-Some.ensures.some c.args.bytes.now c.pages_in-pages.ensures, refl), c.in-Ok.ensures.slots) c.salvage_of.result c.salvage_of.ensures
