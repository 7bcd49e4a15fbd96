use Rattle.std.proofs.lemmas.Result.{IfOk-weaker}
use Rattle.record_loading.specs.Loading.{load_text}
use Rattle.record_loading.specs.Loaded.{TellsLoadEnd}
use Rattle.record_loading.specs.SortedLoad.{EndsTextLoad}
use Rattle.record_loading.specs.KeptLoad.{EndsKeeping}
use Rattle.record_loading.proofs.KeptLemmas.{told_kept}
use Rattle.record_loading.proofs.kept_load.load_keeping.Goals as goal

pub returns-clause-loads : goal.returns-clause-loads
returns-clause-loads g c =
    let old = g.S.Shelf.state c.args.shelf in
    let new = g.S.Shelf.state c.load_lines_on_shelf.result.0 in
    let kept = g.R.KeepsLines.kept in
    let before = c.args.rejects.now in
    let after = c.load_lines_on_shelf.new.rejects in
    let is = c.load_lines_on_shelf.ensures.loads in
    record {
      ends = IfOk-weaker c.load_lines_on_shelf.result.1
          (λ end. TellsLoadEnd g.R.RejectLog.tells before after (λ told. EndsTextLoad c.args.name.bytes c.args.schema.now c.args.load (load_text c.args.form.now c.args.text.now c.args.options) told) old end new)
          (λ end. EndsKeeping (kept before) (kept after) c.args.name.bytes c.args.schema.now c.args.load (load_text c.args.form.now c.args.text.now c.args.options) old end new)
          (λ end so. (so.0, told_kept g.R.RejectLog.tells kept c.keeps_told.ensures so.0 before after so.1, so.2)) is.ends;
      nothing = is.nothing;
      others = is.others;
      safe = is.safe;
    }
