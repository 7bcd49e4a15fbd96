use Rattle.std.proofs.Common.{◌≡◌, ℕ, Bool, true, false, List, refl, sym, subst}
use Rattle.record_loading.specs.Loading.{load_text}
use Rattle.record_loading.specs.Passing.{lines_form}
use Rattle.record_loading.specs.SortedLoad.{IsLoadedText}
use Rattle.record_loading.specs.SortedText.{IsSortedText}
use Rattle.record_loading.proofs.SameLemmas.{untouched, others_same, safe_same}
use Rattle.record_loading.proofs.SortedLoadLemmas.{is_unasked, is_asked, loads_text}
use Rattle.record_loading.proofs.shelf_load.load_lines_on_shelf.Goals as goal

-- the text itself
pub returns-then-not-options-clause-loads : goal.returns-then-not-options-clause-loads
returns-then-not-options-clause-loads g c =
    let source = load_text c.args.form.now c.args.text.now c.args.options in
    let unasked : c.args.options.sort ≡ false = is_unasked c.args.options.sort c.if-not-options.true in
    loads_text g.R.RejectLog.tells c.args.rejects.now c.load_lines.new.rejects c.args.name.bytes c.args.schema.now c.args.load source c.args.text.now (subst (λ (sort : Bool). IsLoadedText sort c.args.schema.now (lines_form source) c.args.text.now c.args.text.now) (sym unasked) refl) (g.S.Shelf.state c.args.shelf) (g.S.Shelf.state c.load_lines.result.0) c.load_lines.result.1 c.load_lines.ensures.loads

-- no memory for the sorted text
pub returns-in_default-clause-loads : goal.returns-in_default-clause-loads
returns-in_default-clause-loads g c =
    let first = g.S.Shelf.state c.args.shelf in
    record {
      ends = tt;
      nothing = untouched first first refl;
      others = others_same first first refl c.args.name.bytes;
      safe = safe_same first first refl (λ honest. honest) c.args.name.bytes;
    }

-- the sorted text
pub returns-clause-loads : goal.returns-clause-loads
returns-clause-loads g c =
    let source = load_text c.args.form.now c.args.text.now c.args.options in
    let asked : c.args.options.sort ≡ true = is_asked c.args.options.sort c.if-not-options.false in
    loads_text g.R.RejectLog.tells c.args.rejects.now c.load_lines-2.new.rejects c.args.name.bytes c.args.schema.now c.args.load source c.as_slice.result.now (subst (λ (sort : Bool). IsLoadedText sort c.args.schema.now (lines_form source) c.args.text.now c.as_slice.result.now) (sym asked) (subst (λ (loaded : List ℕ). IsSortedText c.args.schema.now (lines_form source) c.args.text.now loaded) (sym c.as_slice.ensures.value) c.in-Ok.ensures)) (g.S.Shelf.state c.args.shelf) (g.S.Shelf.state c.load_lines-2.result.0) c.load_lines-2.result.1 c.load_lines-2.ensures.loads
