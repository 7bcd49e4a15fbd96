use Rattle.std.proofs.Common.{◌≡◌, ℕ, List, [], ◌∷◌, ◌++◌, take, map, flat_map, string_bytes, All, ap, ◌∙◌}
use Rattle.std.proofs.lemmas.List.{map_more, flat_map_more}
use Rattle.std.proofs.lemmas.List.Elements.{All-push}
use Rattle.arrayvec.specs.declared.array_string.ArrayString.{ArrayString}
use Rattle.cobol_program.specs.declared.form.SourceForm.{SourceForm}
use Rattle.cobol_program.specs.Layout.{laid, FitsLine}
use Rattle.cobol_program.proofs.lines.laid_out.Goals as goal

-- one line more, which fits
with_line : (form : SourceForm) (lines : List (List ℕ)) (line before after : List ℕ) → before ≡ flat_map (laid form) lines → All FitsLine lines → after ≡ before ++ laid form line → FitsLine line
    → (after ≡ flat_map (laid form) (lines ++ line ∷ [])) × All FitsLine (lines ++ line ∷ [])
with_line form lines line before after told all is fits = (is ∙ ap (λ text. text ++ laid form line) told ∙ flat_map_more (laid form) [] lines line, All-push FitsLine lines line all fits)

pub loop-line-preserved : goal.loop-line-preserved
loop-line-preserved c =
    let lines = map (λ (line : ArrayString 65). line.bytes) (take c.loop-line.line-index c.args.lines.now) in
    rw (map_more (λ (line : ArrayString 65). line.bytes) c.args.lines.now c.loop-line.line-index c.line-item.result c.loop-line-test.true, ← c.line-item.is)
    (with_line c.args.form lines c.line-item.result.bytes (string_bytes c.loop-line.text) (string_bytes c.lay.new.text) c.loop-line.invariant.0 c.loop-line.invariant.1 c.in_ok-lay.ensures.text c.in_ok-lay.ensures.fits)

pub returns : goal.returns
returns c = (map (λ (line : ArrayString 65). line.bytes) (take c.loop-line.line-index c.args.lines.now), c.loop-line.invariant.1, c.loop-line.invariant.0)
