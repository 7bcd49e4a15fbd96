use Rattle.std.proofs.Common.{◌≡◌, ℕ, Some, Ok, ap, ◌∙◌}
use Rattle.key_index.specs.Stored.{IsPrimeEntry, prime_bytes, prime_entry_in}
use Rattle.key_index.proofs.StoredLemmas.{prime_back, told_some}
use Rattle.key_index.proofs.prime_index.PrimeIndex.decode_into.Goals as goal

pub returns : goal.returns
returns c = record {
  told = λ e fits same.
      let index = c.args.self.now in
      let bytes = c.args.bytes.now.items in
      let is : c.fill.new.self ≡ prime_entry_in index.width bytes =
      c.fill.ensures ∙ ap (λ (n : ℕ). prime_entry_in n c.as_slice.result.now) c.from-width.ensures
      ∙ ap (prime_entry_in index.width) c.as_slice.ensures.value in
      ap (λ x. Ok (Some x)) is
      ∙ ap Ok (told_some prime_bytes (IsPrimeEntry index.width) (prime_entry_in index.width) (prime_back index.width) bytes e fits same);
  damage = tt;
}
