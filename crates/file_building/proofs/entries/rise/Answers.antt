use Rattle.std.proofs.Common.{◌≡◌, ◌<◌, ◌-◌, ℕ, List, true, length, ap, sym, ◌∙◌, arith}
use Rattle.std.specs.Prelude.{slice_index_or}
use Rattle.std.proofs.lemmas.Bool.{false≢true}
use Rattle.file_building.specs.declared.ranked.Ranked.{Ranked}
use Rattle.file_building.specs.Ranks.{is_lower}
use Rattle.file_building.specs.Entries.{entry_in}
use Rattle.file_building.proofs.EntryLemmas.{neighbours_low, rise_on}
use Rattle.file_building.proofs.entries.rise.Goals as goal

-- two entries as they are stored
as_stored : (xs : List Ranked) (i : ℕ) (a b : Ranked) → a ≡ slice_index_or xs (i - 1) a → b ≡ slice_index_or xs i b
    → is_lower (entry_in a) (entry_in b) ≡ is_lower (entry_in (slice_index_or xs (i - 1) a)) (entry_in (slice_index_or xs i b))
as_stored xs i a b is is' =
    ap (λ (x : Ranked). is_lower (entry_in x) (entry_in b)) is
    ∙ ap (λ (x : Ranked). is_lower (entry_in (slice_index_or xs (i - 1) a)) (entry_in x)) is'

pub returns-then-not-is_lower : goal.returns-then-not-is_lower
returns-then-not-is_lower c =
    let xs = c.args.entries.now in
    let a = c.index-entries-i.result in
    let b = c.index-entries-i-in-loop-i.result in
    let within : c.loop-i.i < length xs = omega (arith, c.loop-i-test.true, c.loop-i.auto.i-end) in (
      λ never. absurd (false≢true never),
      λ rise. (let low : c.is_lower.result ≡ true = c.is_lower.ensures ∙ as_stored xs c.loop-i.i a b c.index-entries-i.is c.index-entries-i-in-loop-i.is ∙ neighbours_low xs c.loop-i.i a b c.loop-i.invariant.0 within rise in cc (low, c.if-not-is_lower.true)),
    )

pub loop-i-preserved : goal.loop-i-preserved
loop-i-preserved c =
    let xs = c.args.entries.now in
    let a = c.index-entries-i.result in
    let b = c.index-entries-i-in-loop-i.result in
    let within : c.loop-i.i < length xs = omega (arith, c.loop-i-test.true, c.loop-i.auto.i-end) in
    let low : c.is_lower.result ≡ true = cc (c.if-not-is_lower.false) in
    (omega (arith, c.loop-i.invariant.0), rise_on xs c.loop-i.i a b c.loop-i.invariant.0 within c.loop-i.invariant.1 (sym (as_stored xs c.loop-i.i a b c.index-entries-i.is c.index-entries-i-in-loop-i.is) ∙ sym c.is_lower.ensures ∙ low))
