use Rattle.std.proofs.Common.{List, [], ℕ, ◌++◌, inl, refl, sym, ap, ◌∙◌}
use Rattle.record_loading.proofs.GoingLemmas.{goes_self}
use Rattle.record_loading.proofs.writing.write_listing.Goals as goal

pub returns-in_default : goal.returns-in_default
returns-in_default g c = (
  [],
  refl,
  record {
    goes = goes_self g.L.Library.shown c.args.connector.now c.args.lib.now c.requires.takes.fits;
    lines = λ honest truly standing. (
      c.args.area.now,
      inl (record { line_is = refl; mistake_is = refl; lacks = λ rest is. c.in_default.ensures rest (is ∙ ap (λ (l : List ℕ). l ++ rest) (sym c.requires.header)); told = refl; file = refl }),
    );
  },
)
