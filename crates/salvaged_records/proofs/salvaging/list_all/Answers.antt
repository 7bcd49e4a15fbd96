use Rattle.salvaged_records.proofs.SalvageLemmas.{all_listed}
use Rattle.salvaged_records.proofs.salvaging.list_all.Goals as goal

pub returns-in-Ok-clause-ends : goal.returns-in-Ok-clause-ends
returns-in-Ok-clause-ends g c =
    all_listed c.args.deck.now c.args.bytes.items c.args.form.now c.all_records.result (g.W.Write.contents c.args.out.now) (g.W.Write.contents c.list_sound.new.out) (g.E.Write.contents c.args.told.now)
    c.args.records c.requires.sound.0 c.requires.sound.1 c.all_records.ensures c.in-Ok.field-0 c.in-Ok.ensures.ends
