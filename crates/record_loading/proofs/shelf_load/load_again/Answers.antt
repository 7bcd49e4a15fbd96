use Rattle.std.proofs.Common.{sym, subst}
use Rattle.record_loading.specs.BuiltLoad.{LoadsAgain, EndsAgain}
use Rattle.record_loading.specs.Told.{ToldLine}
use Rattle.record_loading.specs.Passing.{LoadSource}
use Rattle.record_loading.specs.Loaded.{TellsLoadEnd}
use Rattle.record_loading.specs.declared.shelf_end.ShelfEnd.{ShelfEnd}
use Rattle.record_loading.proofs.AgainLemmas.{again}
use Rattle.record_loading.proofs.shelf_load.load_again.Goals as goal

pub returns : goal.returns
returns g c =
    let then = g.S.Shelf.state c.args.shelf in
    let last = g.S.Shelf.state c.load_over-shelf.result.0 in
    let name = c.args.name.bytes in
    let schema = c.args.schema.now in
    let source : LoadSource = record { form = c.args.form.now; text = c.args.text.now; options = c.args.options } in
    record {
      ends = subst (λ (end : ShelfEnd). TellsLoadEnd g.R.RejectLog.tells c.args.rejects.now c.load_over-shelf.new.rejects (λ told. EndsAgain name schema (record { source = source; told = told })) then end last) (sym c.end_after_try.ensures)
          (again name schema then last (λ honest. c.load_over-shelf.ensures.loads.safe.sound honest name) g.R.RejectLog.tells source c.args.rejects.now c.load_over-shelf.new.rejects c.load_over-shelf.result.1
          c.load_over-shelf.ensures.loads.ends c.load_over-shelf.ensures.loads.nothing c.load_over-shelf.ensures.untold);
      others = c.load_over-shelf.ensures.loads.others;
      safe = c.load_over-shelf.ensures.loads.safe;
    }
