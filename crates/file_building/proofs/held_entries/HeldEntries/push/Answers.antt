use Rattle.std.proofs.Common.{◌≡◌, ◌/◌, ◌++◌, List, ℕ, length, map, ap, ◌∙◌, arith}
use Rattle.std.specs.Prelude.{is_ok, if◌then◌else◌}
use Rattle.pages.specs.Chunks.{chunks}
use Rattle.key_index.specs.Stored.{alt_entry_in, alt_bytes}
use Rattle.key_index.proofs.StoredLemmas.{alt_back}
use Rattle.file_building.specs.Entries.{entry_in}
use Rattle.file_building.specs.Held.{held_size}
use Rattle.file_building.proofs.BuiltLemmas.{was_ok}
use Rattle.file_building.proofs.HeldLemmas.{whole_if, held_more, entry_long, each_small}
use Rattle.file_building.proofs.held_entries.HeldEntries.push.Goals as goal

pub invariant_of-self-clause-whole : goal.invariant_of-self-clause-whole
invariant_of-self-clause-whole c =
    let old = c.args.self.now in
    let item = c.as_slice.result.now in
    let one : length item ≡ held_size old = ap length (c.as_slice.ensures.value ∙ c.bytes-bytes.ensures) ∙ entry_long old.width old.prime (entry_in c.args.entry.now) c.requires.fits.value c.requires.fits.prime in
    whole_if (held_size old) old.bytes.items item c.extend_from_slice.new.self.items (is_ok c.extend_from_slice.result) (omega arith) old.whole one c.extend_from_slice.ensures.items

pub returns-clause-pushed : goal.returns-clause-pushed
returns-clause-pushed c =
    let old = c.args.self.now in
    let e = entry_in c.args.entry.now in
    let item = c.as_slice.result.now in
    let is_item : item ≡ alt_bytes e = c.as_slice.ensures.value ∙ c.bytes-bytes.ensures in
    let one : length item ≡ held_size old = ap length is_item ∙ entry_long old.width old.prime e c.requires.fits.value c.requires.fits.prime in
    let ok = was_ok (is_ok c.extend_from_slice.result) c.is_err.result c.is_err.ensures.negation c.if-is_err.false in
    let items = c.extend_from_slice.ensures.items ∙ ap (λ b. if b then old.bytes.items ++ item else old.bytes.items) ok in
    let back : alt_entry_in old.width item ≡ e = ap (alt_entry_in old.width) is_item ∙ alt_back old.width old.prime e (record {
      long = c.requires.fits.value;
      bytes = each_small c.args.entry.now.value.now c.args.entry.now.bytes;
      stamp = c.args.entry.now.counted;
      prime_long = c.requires.fits.prime;
    }) in
    ap (λ (l : List ℕ). map (alt_entry_in old.width) (chunks (held_size old) (length l / held_size old) l)) items
    ∙ held_more (held_size old) old.bytes.items item (omega arith) old.whole one old.width e back
