use Rattle.std.proofs.Common.{refl}
use Rattle.io_state.specs.declared.statement.FileStatement.TheVariants.{Start}
use Rattle.verbs.specs.Held.{silent}
use Rattle.verbs.proofs.CountLemmas.{counted_then}
use Rattle.verbs.proofs.connector.Connector.start.Goals as goal

pub returns : goal.returns
returns g c n =
    counted_then g.L.Library.shown g.met.L.Library.joins g.met.L.Library.ends c.args.u (Start c.args.k c.args.length c.args.relation) n c.args.self.now c.answer_start.new.self c.args.lib.now c.begin_count.new.lib c.answer_start.new.lib
    c.args.area.now c.args.area.now (silent c.answer_start.result) (c.begin_count.ensures.count (Start c.args.k c.args.length c.args.relation) refl) (c.answer_start.ensures n)
