use Rattle.std.proofs.Common.{◌≡◌, [], None, IsTrue, refl}
use Rattle.shelf_run.specs.Files.{reads_of}
use Rattle.std.proofs.lemmas.Result.{IfOk-weaker}
use Rattle.record_loading.specs.Loading.{listing_by}
use Rattle.record_loading.specs.declared.end.Load.TheVariants.{New}
use Rattle.record_loading.specs.Loaded.{EndsLoad, EndsAnyhow, TellsLoadEnd}
use Rattle.record_loading.proofs.SameLemmas.{anew, nothing_from, others_from, safe_from}
use Rattle.record_loading.proofs.AgainLemmas.{others_then, safe_then}
use Rattle.record_loading.proofs.shelf_load.load_absent.Goals as goal

pub returns-in-Ended-clause-loads : goal.returns-in-Ended-clause-loads
returns-in-Ended-clause-loads g c =
    let first = g.S.Shelf.state c.args.shelf in
    let last = g.S.Shelf.state c.build_load.new.shelf in
    record {
      ends = (
        [],
        refl,
        λ honest.
            let absent = c.requires.absent (c.build_load.ensures.tries.safe.honest honest) in
            record { absent = absent; leaves = c.in-Ended.ensures.tries.ends honest absent },
      );
      nothing = tt;
      others = c.build_load.ensures.tries.others;
      safe = c.build_load.ensures.tries.safe;
    }

pub returns-in-Begun-clause-loads : goal.returns-in-Begun-clause-loads
returns-in-Begun-clause-loads g c =
    let first = g.S.Shelf.state c.args.shelf in
    let then = g.S.Shelf.state c.build_load.new.shelf in
    let last = g.S.Shelf.state c.load_again-shelf.result.0 in
    let ends = c.load_again-shelf.ensures.ends in
    let before : IsTrue last.is_honest → IsTrue then.is_honest = c.load_again-shelf.ensures.safe.honest in
    let absent : IsTrue last.is_honest → reads_of first c.args.name.bytes ≡ None = λ honest. c.requires.absent (c.build_load.ensures.tries.safe.honest (before honest)) in
    record {
      ends = (ends.0, ends.1, ends.2 first absent (λ honest. c.in-Begun.ensures.tries.ends (before honest) (absent honest)));
      nothing = tt;
      others = others_then c.args.name.bytes first then last c.build_load.ensures.tries.others c.load_again-shelf.ensures.others;
      safe = safe_then c.args.name.bytes first then last c.build_load.ensures.tries.safe c.load_again-shelf.ensures.safe;
    }

pub returns-in-Unmade-clause-loads : goal.returns-in-Unmade-clause-loads
returns-in-Unmade-clause-loads g c =
    let first = g.S.Shelf.state c.args.shelf in
    let then = g.S.Shelf.state c.build_load.new.shelf in
    let last = g.S.Shelf.state c.load_over.result.0 in
    let same = c.in-Unmade.ensures.tries.unmade in
    let before = c.build_load.ensures.tries.safe.honest in
    record {
      ends = IfOk-weaker c.load_over.result.1
          (λ end. TellsLoadEnd g.R.RejectLog.tells c.args.rejects.now c.load_over.new.rejects (λ told. EndsAnyhow c.args.name.bytes c.args.schema.now New (listing_by c.args.form.now c.args.text.now c.args.options told)) then end last)
          (λ end. TellsLoadEnd g.R.RejectLog.tells c.args.rejects.now c.load_over.new.rejects (λ told. EndsLoad c.args.name.bytes c.args.schema.now New (listing_by c.args.form.now c.args.text.now c.args.options told)) first end last)
          (λ end is. (
            is.0,
            is.1,
            anew first then last same c.args.name.bytes c.args.schema.now (listing_by c.args.form.now c.args.text.now c.args.options is.0)
                (λ honest. c.requires.absent (before (c.load_over.ensures.loads.safe.honest honest))) end is.2,
          ))
          c.load_over.ensures.loads.ends;
      nothing = nothing_from first then last same c.load_over.result.1 c.load_over.ensures.loads.nothing;
      others = others_from first then last same c.args.name.bytes c.load_over.ensures.loads.others;
      safe = safe_from first then last same before c.args.name.bytes c.load_over.ensures.loads.safe;
    }
