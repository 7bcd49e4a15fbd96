use Rattle.std.proofs.Common.{rules, ◌<◌, ◌+◌, ℕ, List, [], length, Bor, ap, sym, subst}
use Rattle.verbs.specs.Performed.{in_memory}
use Rattle.record_loading.specs.declared.end.LinesEnd.{LinesEnd}
use Rattle.record_loading.specs.Told.{TellsRejected}
use Rattle.record_loading.specs.Passing.{LoadSource}
use Rattle.record_loading.specs.Loading.{listing_by}
use Rattle.record_loading.specs.Going.{WritesListing}
use Rattle.record_loading.proofs.PlaceLemmas.{begins, left_so, more_written, more_replaced, more_rejected, stops}
use Rattle.record_loading.proofs.writing.write_lines.Goals.{in-Written, in-Replaced, in-Rejected}
use Rattle.record_loading.proofs.writing.write_lines.Goals as goal

pub more-init : goal.more-init
more-init g c =
    begins g.L.Library.shown g.R.RejectLog.tells (record { form = c.args.form.now; text = c.args.text.now; options = c.args.options }) (in_memory c.args.connector.now c.args.lib.now c.args.area.now) c.args.rejects.now
    c.args.lines.now c.behind_lines-rest.result.now c.requires.lines c.behind_lines-rest.ensures c.requires.takes.fits

pub returns-in-Stopped : goal.returns-in-Stopped
returns-in-Stopped g c =
    let source : LoadSource = record { form = c.args.form.now; text = c.args.text.now; options = c.args.options } in
    let begun = in_memory c.args.connector.now c.args.lib.now c.args.area.now in
    let number = c.header_lines-before.result + c.args.options.skip + c.more.records + c.more.replaced + c.more.rejected + 1 in
    subst (λ (end : LinesEnd). TellsRejected g.R.RejectLog.tells c.args.rejects.now c.more.rejects (λ told. WritesListing g.L.Library.shown (listing_by c.args.form.now c.args.text.now c.args.options told) begun (in_memory c.pass_line.new.connector c.pass_line.new.lib []) end)) (sym c.stopped_at.ensures)
    (stops g.L.Library.shown g.R.RejectLog.tells source begun c.args.rejects.now (in_memory c.more.connector c.more.lib c.more.area) c.more.rejects c.more.records c.more.replaced c.more.rejected c.more.rest.now c.more.invariant
    g.met.L.Library.joins g.met.L.Library.ends c.requires.takes.fits (in_memory c.pass_line.new.connector c.pass_line.new.lib c.pass_line.new.area)
    c.in-Stopped.reason number (ap (λ (n : ℕ). n + c.args.options.skip + c.more.records + c.more.replaced + c.more.rejected + 1) c.header_lines-before.ensures) c.in-Stopped.ensures)

pub more-preserved : goal.more-preserved
more-preserved g c =
    let shown = g.L.Library.shown in
    let source : LoadSource = record { form = c.args.form.now; text = c.args.text.now; options = c.args.options } in
    let begun = in_memory c.args.connector.now c.args.lib.now c.args.area.now in
    let now = in_memory c.more.connector c.more.lib c.more.area in
    let after = in_memory c.pass_line.new.connector c.pass_line.new.lib c.pass_line.new.area in
    let number = c.header_lines-before.result + c.args.options.skip + c.more.records + c.more.replaced + c.more.rejected + 1 in
    let some : 0 < length c.more.rest.now = search rules in
    elim c.match-pass_line.branch [
      | in-Written w ↦
          left_so shown g.R.RejectLog.tells source begun c.args.rejects.now after c.more.rejects c.match-pass_line.rejects (c.more.records + 1) c.match-pass_line.records c.more.replaced c.match-pass_line.replaced c.more.rejected c.match-pass_line.rejected
          w.in-Written.behind.now c.match-pass_line.rest.now w.rejects-is w.records-is w.replaced-is w.rejected-is (ap (λ (l : Bor (List ℕ)). l.now) w.rest-is)
          (more_written shown g.R.RejectLog.tells source begun c.args.rejects.now now c.more.rejects c.more.records c.more.replaced c.more.rejected c.more.rest.now c.more.invariant
          g.met.L.Library.joins g.met.L.Library.ends c.requires.takes.fits after w.in-Written.behind some w.in-Written.ensures)
      | in-Replaced w ↦
          left_so shown g.R.RejectLog.tells source begun c.args.rejects.now after c.more.rejects c.match-pass_line.rejects c.more.records c.match-pass_line.records (c.more.replaced + 1) c.match-pass_line.replaced c.more.rejected c.match-pass_line.rejected
          w.in-Replaced.behind.now c.match-pass_line.rest.now w.rejects-is w.records-is w.replaced-is w.rejected-is (ap (λ (l : Bor (List ℕ)). l.now) w.rest-is)
          (more_replaced shown g.R.RejectLog.tells source begun c.args.rejects.now now c.more.rejects c.more.records c.more.replaced c.more.rejected c.more.rest.now c.more.invariant
          g.met.L.Library.joins g.met.L.Library.ends c.requires.takes.fits after w.in-Replaced.behind some w.in-Replaced.ensures)
      | in-Rejected w ↦
          left_so shown g.R.RejectLog.tells source begun c.args.rejects.now after w.tell.new.self c.match-pass_line.rejects c.more.records c.match-pass_line.records c.more.replaced c.match-pass_line.replaced (c.more.rejected + 1) c.match-pass_line.rejected
          w.in-Rejected.behind.now c.match-pass_line.rest.now w.rejects-is w.records-is w.replaced-is w.rejected-is (ap (λ (l : Bor (List ℕ)). l.now) w.rest-is)
          (more_rejected shown g.R.RejectLog.tells source begun c.args.rejects.now now c.more.rejects c.more.records c.more.replaced c.more.rejected c.more.rest.now c.more.invariant
          g.met.L.Library.joins g.met.L.Library.ends c.requires.takes.fits after w.in-Rejected.reason w.in-Rejected.behind w.front_of.result.now w.tell.new.self number
          (ap (λ (n : ℕ). n + c.args.options.skip + c.more.records + c.more.replaced + c.more.rejected + 1) c.header_lines-before.ensures) w.tell.ensures w.front_of.ensures some w.in-Rejected.ensures)
    ]
