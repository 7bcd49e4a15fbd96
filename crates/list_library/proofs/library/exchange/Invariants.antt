use Rattle.list_library.proofs.NameLemmas.{IsExchanged}
use Rattle.list_library.proofs.library.exchange.Given as goal

abbrev pub invariant-loop-unit : goal.invariant-loop-unit
invariant-loop-unit l = IsExchanged l.fn.units l.fn.others l.units l.others l.unit-index
