use Rattle.std.proofs.Common.{◌≡◌, ℕ, ◌+◌, ◌-◌, ◌<◌, false, length, ap, sym, subst, ◌∙◌, arith}
use Rattle.record_layout.specs.Schema.{key_at, has_duplicates}
use Rattle.pages.specs.Answer.{IsAnswer}
use Rattle.key_index.specs.Calls.{IsAltFirst, filled_with}
use Rattle.open_file.specs.InOrder.{alt_entries}
use Rattle.open_file.proofs.UniqueLemmas.{are_zero, first_alone, unique_first, same_fault}
use Rattle.open_file.proofs.HeightLemmas.{height_by_key}
use Rattle.open_file.proofs.AnswerLemmas.{index_at}
use Rattle.open_file.proofs.open_file.OpenFile.first_of.Goals as goal

pub returns : goal.returns
returns g c =
    let schema = c.args.self.now.schema in
    let v = c.args.value.now in
    let entry = c.find.new.entry in
    let h = height_by_key c.args.self.now.prime c.args.self.now.alternates.items c.args.k c.alternate-index.result c.requires.key.some c.requires.key.within c.alternate-index.ensures in
    record {
      found = λ honest file stands.
          let at = index_at c.args.self.now c.args.k c.requires.key.some c.requires.key.within in
          let keys = c.requires.lent.shaped.keys in
          let lt : c.args.k - 1 + 1 < length schema.keys = omega (arith, keys, at.0) in
          let one : has_duplicates (key_at schema (c.args.k - 1 + 1)) ≡ false = ap (λ (m : ℕ). has_duplicates (key_at schema m)) at.1 ∙ sym (ap has_duplicates c.part.ensures.part) ∙ (sym c.has_duplicates.ensures ∙ c.if-has_duplicates.false) in
          let told = c.find.ensures.found honest _ _ (stands.parts.alternates_stand (c.args.k - 1) c.alternate-index.result at.0 c.alternate-index.ensures) in
          let zero = are_zero schema (c.args.k - 1 + 1) file stands.sound lt one in
          subst (λ (m : ℕ). IsAnswer (filled_with (first_alone entry) c.find.result) (IsAltFirst v (alt_entries schema m file.rows))) at.1
          (unique_first v (alt_entries schema (c.args.k - 1 + 1) file.rows) zero entry c.find.result told);
      alone = λ one. rw h (c.find.ensures.reads.asked);
      reads = record { cause = same_fault entry (first_alone entry) _ c.find.result c.find.ensures.reads.cause; asked = rw h (omega (arith, c.find.ensures.reads.asked)); step = c.find.ensures.reads.step };
    }
