use Rattle.std.proofs.Common.{List, sym, subst}
use Rattle.arrayvec.specs.ArrayString.{ArrayString}
use Rattle.serve.specs.Fields.{AreNamed}
use Rattle.serve.proofs.UnitLemmas.{named_at_start}
use Rattle.serve.proofs.session.Session.new.Goals as goal

pub invariant_of-result : goal.invariant_of-result
invariant_of-result g c =
    subst (λ (texts : List ArrayString). AreNamed g.L.Library.shown (record { library = c.args.library; table = record { places = c.args.places.files.items; opened = c.new-2.result } }) texts) (sym c.new.ensures.items)
    (named_at_start g.L.Library.shown c.args.library c.args.places.files.items c.new-2.result c.args.places.free c.new-2.ensures c.requires.units)
