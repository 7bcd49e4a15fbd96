use Rattle.unit_calls.proofs.UnitLemmas.{attached_on_ok}
use Rattle.unit_calls.proofs.libraries.attaches.Goals as goal

pub returns : goal.returns
returns g c =
    attached_on_ok (λ name. name.bytes) c.two_names.result c.attach.result (g.L.Library.shown.world c.args.library.now) (g.L.Library.shown.world c.attach.new.self) 2
    c.two_names.ensures.two c.attach.ensures.attached
