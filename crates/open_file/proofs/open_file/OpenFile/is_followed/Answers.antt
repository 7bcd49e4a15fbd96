use Rattle.std.proofs.Common.{◌≡◌, ℕ, ◌-◌, ◌<◌, false, length, Option, refl, ap, sym, subst, ◌∙◌, arith}
use Rattle.std.specs.Prelude.{find}
use Rattle.std.specs.Option.{option_map_or}
use Rattle.record_layout.specs.Schema.{key_at, has_duplicates}
use Rattle.pages.specs.Answer.{IsAnswer}
use Rattle.key_index.specs.Entries.{entry_has_value, after_rank}
use Rattle.open_file.specs.InOrder.{alt_entries}
use Rattle.open_file.specs.declared.path.Path.{Path}
use Rattle.open_file.proofs.AnswerLemmas.{index_at}
use Rattle.open_file.proofs.PathLemmas.{IsPathOf}
use Rattle.open_file.proofs.UniqueLemmas.{are_zero, never_followed}
use Rattle.open_file.proofs.open_file.OpenFile.is_followed.Goals as goal

pub returns-then-is_after-clause-told : goal.returns-then-is_after-clause-told
returns-then-is_after-clause-told g c honest file stands =
    let opened = c.args.self.now in
    let live = (g.P.Pages.shown.state c.args.pages.now).live in
    let k = c.args.k in
    let value = c.args.value.now in
    let at = index_at opened k c.requires.key.some c.requires.key.within in
    let belongs = subst (λ (path : Option Path). IsPathOf path opened live file stands) c.in-Some.ensures stands.on_path c.args.index at.0 c.requires.key.index_is in
    let standing = stands.parts.alternates_stand (k - 1) c.args.index at.0 c.requires.key.index_is in
    subst (λ (m : ℕ). IsAnswer c.is_followed.result (λ told. told ≡ option_map_or (entry_has_value value) (find (after_rank value c.args.stamp) (alt_entries opened.schema m file.rows)) false)) at.1
    (c.is_followed.ensures.told honest value c.args.stamp _ _ standing belongs (c.if-value-from.true ∙ c.from.ensures) c.ranges.stamp.fits (c.is_after.ensures.0 c.if-is_after.true))

pub returns-then-not-has_duplicates-clause-told : goal.returns-then-not-has_duplicates-clause-told
returns-then-not-has_duplicates-clause-told g c honest file stands =
    let opened = c.args.self.now in
    let keys = c.requires.lent.shaped.keys in
    let within : c.args.k < length opened.schema.keys = omega (arith, keys, c.requires.key.within) in
    let one : has_duplicates (key_at opened.schema c.args.k) ≡ false = sym (ap has_duplicates c.part.ensures.part) ∙ (sym c.has_duplicates.ensures ∙ c.if-not-has_duplicates.true) in
    record { answer = sym (never_followed c.args.value.now c.args.stamp _ (are_zero opened.schema c.args.k file stands.sound within one)); no_damage = tt }
