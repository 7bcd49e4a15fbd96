use Rattle.std.proofs.lemmas.Result.{IfOk-weaker}
use Rattle.record_loading.specs.Loading.{listing}
use Rattle.record_loading.specs.Loaded.{EndsLoad}
use Rattle.record_loading.proofs.UsualLemmas.{ends_usual}
use Rattle.record_loading.proofs.shelf_load.load_on_shelf.Goals as goal

pub returns : goal.returns
returns g c =
    let old = g.S.Shelf.state c.args.shelf in
    let new = g.S.Shelf.state c.load_lines.result.0 in
    let is = c.load_lines.ensures.loads in
    record {
      ends = IfOk-weaker c.load_lines.result.1 _ (λ end. EndsLoad c.args.name.bytes c.args.schema.now c.args.load (listing c.args.form.now c.args.text.now) old end new)
          (λ end so. ends_usual c.args.name.bytes c.args.schema.now c.args.form.now c.args.text.now so.0 old new c.args.load end so.2) is.ends;
      nothing = is.nothing;
      others = is.others;
      safe = is.safe;
    }
