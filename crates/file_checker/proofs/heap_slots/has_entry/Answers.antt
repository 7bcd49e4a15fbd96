use Rattle.std.proofs.Common.{◌≡◌, sym, ◌∙◌, Some, None, List, ℕ}
use Rattle.record_layout.specs.Schema.{prime_of}
use Rattle.page_walks.specs.Spots.{spots_in}
use Rattle.pages.specs.PageList.{pages_in}
use Rattle.record_heap.specs.Standing.{slot_off}
use Rattle.open_file.specs.Fields.{file_schema, heap_of}
use Rattle.file_checker.specs.Leading.{stored_row}
use Rattle.file_checker.specs.Lent.{prime_value_off}
use Rattle.file_checker.proofs.LentLemmas.{made_of}
use Rattle.file_checker.specs.Rows.{place_at}
use Rattle.file_checker.proofs.PrimeAheadLemmas.{slot_found, slot_is}
use Rattle.file_checker.proofs.SlotLemmas.{found_one}
use Rattle.file_checker.proofs.heap_slots.has_entry.Goals as goal

pub returns-in-Some-entry_near-clause-entry : goal.returns-in-Some-entry_near-clause-entry
returns-in-Some-entry_near-clause-entry g c = λ list has yes used.
    found_one (place_at c.args.file.now list) (spots_in c.args.primes.now) c.in-Some-entry_near.spot c.args.place c.in-Some-entry_near.ensures.one (c.leads_to.ensures.leads list has yes)

pub returns-in-Some-entry_near-clause-refused : goal.returns-in-Some-entry_near-clause-refused
returns-in-Some-entry_near-clause-refused g c = λ list source lead has.
    let near = c.leads_to.ensures.before list source in
    let read = c.entry_near.ensures.before list near in
    let made : Some c.in-Some.value.items ≡ prime_value_off c.args.file.now list c.args.place =
    rw c.in-Some.is at (c.prime_value_at.ensures.value list read) in
    let used = made_of (λ (bytes : List ℕ). prime_of (file_schema c.args.file.now) (stored_row c.args.file.now bytes).bytes) (slot_off (heap_of c.args.file.now) (pages_in list) c.args.place) c.in-Some.value.items made in
    let found = slot_found c.args.file.now list c.args.primes.now c.args.place used.0 c.deref.result.now c.entry_near.result used.1 (c.deref.ensures.0 ∙ used.2) (c.entry_near.ensures.found list near) lead has in
    let at = slot_is c.args.file.now list c.entry_near.result c.args.place c.in-Some-entry_near.spot c.in-Some-entry_near.is found in
    c.leads_to.ensures.refused list source at.0 at.1

pub returns-in-None-clause-refused : goal.returns-in-None-clause-refused
returns-in-None-clause-refused g c = λ list source lead has.
    let near = source in
    let read = c.entry_near.ensures.before list near in
    let made : Some c.in-Some.value.items ≡ prime_value_off c.args.file.now list c.args.place =
    rw c.in-Some.is at (c.prime_value_at.ensures.value list read) in
    let used = made_of (λ (bytes : List ℕ). prime_of (file_schema c.args.file.now) (stored_row c.args.file.now bytes).bytes) (slot_off (heap_of c.args.file.now) (pages_in list) c.args.place) c.in-Some.value.items made in
    let found = slot_found c.args.file.now list c.args.primes.now c.args.place used.0 c.deref.result.now c.entry_near.result used.1 (c.deref.ensures.0 ∙ used.2) (c.entry_near.ensures.found list near) lead has in
    let bad : None ≡ Some found.0 = sym c.in-None.is ∙ found.1 in
    absurd (cc)
