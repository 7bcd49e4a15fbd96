use Rattle.std.proofs.lemmas.List.{map-append}
use Rattle.file_control.proofs.InOrderLemmas.{with_one}
use Rattle.file_control.proofs.data_names.DataNames.push.Goals as goal

pub invariant_of-self-in-Ok : goal.invariant_of-self-in-Ok
invariant_of-self-in-Ok c =
    rw (c.in_ok-push.ensures.items, map-append)
    (with_one c.as_str-text.result c.self.inside.in_order c.insert.new.self _ c.in-Ok.ensures.updates c.self.invariant)
