use Rattle.std.proofs.Common.{◌≡◌, ◌+◌, ◌*◌, ◌<◌, ◌∷◌, ◌++◌, [], Bool, true, false, not, length, map, ap, sym, ◌∙◌, arith}
use Rattle.std.specs.Prelude.{slice_range}
use Rattle.pages.specs.Chunks.{chunks}
use Rattle.key_index.specs.declared.entry.AltEntry.{AltEntry}
use Rattle.key_index.specs.Stored.{alt_entry_in}
use Rattle.file_building.specs.Entries.{entry_in}
use Rattle.file_building.specs.Ranks.{is_lower}
use Rattle.file_building.specs.declared.held_entries.HeldEntries.{HeldEntries}
use Rattle.file_building.specs.Held.{held_size, held_count, held_entries, entries_up_to}
use Rattle.file_building.proofs.EntryLemmas.{no_chunks}
use Rattle.file_building.proofs.HeldLemmas.{within_run, looked_more, cut_whole, value_long, prime_long, passes, fails_test}
use Rattle.file_building.proofs.held_entries.HeldEntries.up_to.Goals as goal
use Rattle.file_building.proofs.held_entries.HeldEntries.up_to.Goals.{then-not-is_lower+in_ok-push, else-not-is_lower}

pub loop-i-init : goal.loop-i-init
loop-i-init c = record {
  entries = c.new-held.ensures.none ∙ sym (ap (λ l. entries_up_to (entry_in c.args.top.now) (map (alt_entry_in c.args.self.now.width) l)) (no_chunks (held_size c.args.self.now) c.args.self.now.bytes.items));
  same = c.new-held.ensures.of;
}

pub push-requires : goal.push-requires
push-requires c =
    let self = c.args.self.now in
    let size = held_size self in
    let i = c.loop-i.i in
    let below : i < held_count self = omega (arith, c.loop-i-test.true, c.len-count.ensures) in
    let within = within_run size i (held_count self) (length self.bytes.items) below self.whole in
    let cut = slice_range self.bytes.items (i * size) ((i + 1) * size) in
    let long = cut_whole size i self.bytes.items within in
    record {
      fits = record {
        value = ap (λ (e : AltEntry). length e.value.items) c.at-entry.ensures ∙ value_long self.width self.prime cut long ∙ sym c.loop-i.invariant.same.width_is;
        prime = ap (λ (e : AltEntry). length e.prime.items) c.at-entry.ensures ∙ prime_long self.width self.prime cut long ∙ sym c.loop-i.invariant.same.prime_is;
      };
    }

pub loop-i-preserved : goal.loop-i-preserved
loop-i-preserved c =
    let self = c.args.self.now in
    let top = entry_in c.args.top.now in
    let size = held_size self in
    let i = c.loop-i.i in
    let e = entry_in c.at-entry.result in
    let below : i < held_count self = omega (arith, c.loop-i-test.true, c.len-count.ensures) in
    let within = within_run size i (held_count self) (length self.bytes.items) below self.whole in
    let test : AltEntry → Bool = λ x. not (is_lower top x) in
    let before = map (alt_entry_in self.width) (chunks size i self.bytes.items) in
    let more = looked_more self.width size i self.bytes.items e within c.at-entry.ensures in
    elim c.if-not-is_lower.branch [
      | then-not-is_lower+in_ok-push w ↦ (let low : is_lower top e ≡ false = sym c.is_lower.ensures ∙ cc (w.if-not-is_lower.true) in
          record {
            entries = ap held_entries w.held-is ∙ w.in_ok-push.ensures.pushed ∙ ap (λ l. l ++ e ∷ []) c.loop-i.invariant.entries
                ∙ sym (ap (entries_up_to top) more ∙ passes test before e (ap not low));
            same = record {
              width_is = ap (λ (h : HeldEntries). h.width) w.held-is ∙ w.push.ensures.same.width_is ∙ c.loop-i.invariant.same.width_is;
              prime_is = ap (λ (h : HeldEntries). h.prime) w.held-is ∙ w.push.ensures.same.prime_is ∙ c.loop-i.invariant.same.prime_is;
            };
          })
      | else-not-is_lower w ↦ (let low : is_lower top e ≡ true = sym c.is_lower.ensures ∙ cc (w.if-not-is_lower.false) in
          record {
            entries = ap held_entries w.held-is ∙ c.loop-i.invariant.entries
                ∙ sym (ap (entries_up_to top) more ∙ fails_test test before e (ap not low));
            same = record {
              width_is = ap (λ (h : HeldEntries). h.width) w.held-is ∙ c.loop-i.invariant.same.width_is;
              prime_is = ap (λ (h : HeldEntries). h.prime) w.held-is ∙ c.loop-i.invariant.same.prime_is;
            };
          })
    ]
