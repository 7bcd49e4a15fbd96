use Rattle.std.proofs.Common.{◌≡◌, ℕ, Some, Ok, ap, ◌∙◌}
use Rattle.key_index.specs.Stored.{IsAltEntry, alt_bytes, alt_entry_in}
use Rattle.key_index.proofs.StoredLemmas.{alt_back, told_some}
use Rattle.key_index.proofs.alt_index.AltIndex.decode_into.Goals as goal

pub returns : goal.returns
returns c = record {
  told = λ e fits same.
      let index = c.args.self.now in
      let is : c.fill.new.self ≡ alt_entry_in index.width c.args.bytes.now.items =
      c.fill.ensures ∙ ap (λ (n : ℕ). alt_entry_in n c.as_slice.result.now) c.from-width.ensures
      ∙ ap (alt_entry_in index.width) c.as_slice.ensures.value in
      ap (λ x. Ok (Some x)) is
      ∙ ap Ok (told_some alt_bytes (IsAltEntry index.width index.prime) (alt_entry_in index.width)
      (alt_back index.width index.prime) c.args.bytes.now.items e fits same);
  damage = tt;
}
