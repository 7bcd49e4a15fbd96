use Rattle.std.proofs.Common.{rules, [], refl}
use Rattle.std.proofs.lemmas.Result.{IfOk-weaker}
use Rattle.record_loading.specs.Loading.{listing_by}
use Rattle.record_loading.specs.declared.end.Load.TheVariants.{New}
use Rattle.record_loading.specs.Loaded.{EndsLoad, TellsLoadEnd}
use Rattle.record_loading.proofs.SameLemmas.{safe_same, safe_from, absent_then, ends_from, nothing_from, others_from, others_same, untouched}
use Rattle.record_loading.proofs.shelf_load.load_new.Goals as goal

pub returns-in-Ok-true-clause-loads : goal.returns-in-Ok-true-clause-loads
returns-in-Ok-true-clause-loads g c =
    let first = g.S.Shelf.state c.args.shelf in
    let last = g.S.Shelf.state c.is_there.new.shelf in
    record {
      ends = ([], refl, (refl, search rules));
      nothing = tt;
      others = others_same first last c.is_there.ensures.file c.args.name.bytes;
      safe = safe_same first last c.is_there.ensures.file c.is_there.ensures.honest c.args.name.bytes;
    }

pub load_absent-requires-clause-absent : goal.load_absent-requires-clause-absent
load_absent-requires-clause-absent g c =
    absent_then (g.S.Shelf.state c.args.shelf) (g.S.Shelf.state c.is_there.new.shelf) (g.S.Shelf.state c.is_there.new.shelf) c.is_there.ensures.file c.args.name.bytes c.in-Ok-false.field-0 c.in-Ok-false.field-0-test c.in-Ok-false.ensures.answer

pub returns-in-Ok-false-clause-loads : goal.returns-in-Ok-false-clause-loads
returns-in-Ok-false-clause-loads g c =
    let first = g.S.Shelf.state c.args.shelf in
    let then = g.S.Shelf.state c.is_there.new.shelf in
    let last = g.S.Shelf.state c.load_absent.result.0 in
    record {
      ends = IfOk-weaker c.load_absent.result.1
          (λ end. TellsLoadEnd g.R.RejectLog.tells c.args.rejects.now c.load_absent.new.rejects (λ told. EndsLoad c.args.name.bytes c.args.schema.now New (listing_by c.args.form.now c.args.text.now c.args.options told)) then end last)
          (λ end. TellsLoadEnd g.R.RejectLog.tells c.args.rejects.now c.load_absent.new.rejects (λ told. EndsLoad c.args.name.bytes c.args.schema.now New (listing_by c.args.form.now c.args.text.now c.args.options told)) first end last)
          (λ end is. (is.0, is.1, ends_from first then last c.is_there.ensures.file c.args.name.bytes c.args.schema.now (listing_by c.args.form.now c.args.text.now c.args.options is.0) end is.2))
          c.load_absent.ensures.loads.ends;
      nothing = nothing_from first then last c.is_there.ensures.file c.load_absent.result.1 c.load_absent.ensures.loads.nothing;
      others = others_from first then last c.is_there.ensures.file c.args.name.bytes c.load_absent.ensures.loads.others;
      safe = safe_from first then last c.is_there.ensures.file c.is_there.ensures.honest c.args.name.bytes c.load_absent.ensures.loads.safe;
    }

pub returns-in-Err-clause-loads : goal.returns-in-Err-clause-loads
returns-in-Err-clause-loads g c =
    let first = g.S.Shelf.state c.args.shelf in
    let last = g.S.Shelf.state c.is_there.new.shelf in
    record {
      ends = tt;
      nothing = untouched first last c.is_there.ensures.file;
      others = others_same first last c.is_there.ensures.file c.args.name.bytes;
      safe = safe_same first last c.is_there.ensures.file c.is_there.ensures.honest c.args.name.bytes;
    }
