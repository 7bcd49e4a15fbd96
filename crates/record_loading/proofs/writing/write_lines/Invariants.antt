use Rattle.std.proofs.Common.{length}
use Rattle.verbs.specs.Performed.{in_memory}
use Rattle.record_loading.proofs.PlaceLemmas.{ArePassedSoFar}
use Rattle.record_loading.proofs.writing.write_lines.Given as goal

-- the first lines were passed
abbrev pub invariant-more : goal.invariant-more
invariant-more g l =
    ArePassedSoFar g.L.Library.shown g.R.RejectLog.tells (record { form = l.fn.form; text = l.fn.text; options = l.fn.options }) (in_memory l.fn.connector l.fn.lib l.fn.area) (in_memory l.connector l.lib l.area)
    l.fn.rejects l.rejects l.records l.replaced l.rejected l.rest

abbrev pub decreases-more : goal.decreases-more
decreases-more g l = length l.rest
