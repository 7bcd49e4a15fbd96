use Rattle.std.proofs.Common.{◌≡◌, ◌≤◌, ◌^◌, sym, subst, slice_set, Ok, None, rules, arith}
use Rattle.std.proofs.lemmas.Grind.{common_steps}
use Rattle.record_layout.specs.Schema.{prime_of}
use Rattle.indexed_file.specs.declared.answer.Replaced.TheVariants.{Done, Clash}
use Rattle.indexed_file.specs.Change.{row_of}
use Rattle.indexed_file.specs.FileChange.{replacement}
use Rattle.indexed_file.specs.File.{File}
use Rattle.list_library.specs.Stored.{Stored, FitsSchema, ChangesStored}
use Rattle.list_library.proofs.StoredLemmas.{replaced_stored}
use Rattle.list_library.proofs.ReplacingLemmas.{found_there, gone_changes, clash_changes, done_changes, replaced_file, row_read}
use Rattle.list_library.proofs.list_file.ListFile.replace.Goals as goal

pub returns-in_default : goal.returns-in_default
returns-in_default c =
    let gone : row_of c.args.self.now.schema (prime_of c.args.self.now.schema c.args.bytes.now) c.args.self.now.file ≡ None = first_of (search rules, grind (arith, common_steps)) in
    gone_changes c.args.self.now c.args.bytes.now gone

pub returns-then-clashes_besides : goal.returns-then-clashes_besides
returns-then-clashes_besides c =
    let s : Stored = record { schema = c.self.inside.schema; file = record { rows = c.self.inside.rows.items; next_stamp = c.self.inside.next_stamp } } in
    let f = found_there s.schema c.args.bytes.now c.value-prime.result.now c.as_slice.result.now s.file.rows s.file.next_stamp c.in-Some.place
    c.as_slice.ensures.value c.value-prime.ensures c.in-Some.ensures.bound c.in-Some.ensures.lowest in
    let clash = rw c.as_slice-2.ensures.value at c.if-clashes_besides.ensures in
    subst (λ (old : Stored). ChangesStored (replacement old.schema c.args.bytes.now) old old (Ok Clash)) c.self.view_is (clash_changes s c.args.bytes.now f.0 f.2 (sym clash))

pub invariant_of-self : goal.invariant_of-self
invariant_of-self c =
    let s : Stored = record { schema = c.self.inside.schema; file = record { rows = c.self.inside.rows.items; next_stamp = c.self.inside.next_stamp } } in
    let f = found_there s.schema c.args.bytes.now c.value-prime.result.now c.as_slice.result.now s.file.rows s.file.next_stamp c.in-Some.place
    c.as_slice.ensures.value c.value-prime.ensures c.in-Some.ensures.bound c.in-Some.ensures.lowest in
    let within = rw c.as_slice.ensures.value at c.in-Some.ensures.bound in
    let clash = rw c.as_slice-2.ensures.value at c.if-clashes_besides.ensures in
    let takes = rw (c.bytes.ensures, row_read s.file.rows c.in-Some.place f.0 c.index.result.now within f.1 c.index.ensures) at c.takes_stamp-takes.ensures in
    let row = rw (row_read s.file.rows c.in-Some.place f.0 c.index-3.result.now within f.1 c.index-3.ensures) at c.in_ok-row.ensures.row in
    let file = replaced_file s.schema c.args.bytes.now s.file.rows s.file.next_stamp c.in-Some.place f.0 c.in_ok-row.row c.takes_stamp-takes.result c.stamp_after-self-inside.result
    c.self.invariant f.1 f.2 row takes c.stamp_after-self-inside.ensures.after in
    let fits = subst (λ (s : Stored). FitsSchema s.schema c.args.bytes.now) (sym c.self.view_is) c.requires in
    rw file (replaced_stored s.schema c.args.bytes.now f.0 s.file c.self.invariant fits f.2 (sym clash) (subst (λ (g : File). g.next_stamp ≤ 2 ^ 63) file c.stamp_after-self-inside.ensures.limit))

pub returns : goal.returns
returns c =
    let s : Stored = record { schema = c.self.inside.schema; file = record { rows = c.self.inside.rows.items; next_stamp = c.self.inside.next_stamp } } in
    let f = found_there s.schema c.args.bytes.now c.value-prime.result.now c.as_slice.result.now s.file.rows s.file.next_stamp c.in-Some.place
    c.as_slice.ensures.value c.value-prime.ensures c.in-Some.ensures.bound c.in-Some.ensures.lowest in
    let within = rw c.as_slice.ensures.value at c.in-Some.ensures.bound in
    let clash = rw c.as_slice-2.ensures.value at c.if-clashes_besides.ensures in
    let takes = rw (c.bytes.ensures, row_read s.file.rows c.in-Some.place f.0 c.index.result.now within f.1 c.index.ensures) at c.takes_stamp-takes.ensures in
    let repeated = rw (c.bytes-2.ensures, row_read s.file.rows c.in-Some.place f.0 c.index-2.result.now within f.1 c.index-2.ensures, c.as_slice-3.ensures.value) at c.repeats_changed-repeated.ensures in
    let row = rw (row_read s.file.rows c.in-Some.place f.0 c.index-3.result.now within f.1 c.index-3.ensures) at c.in_ok-row.ensures.row in
    let file = replaced_file s.schema c.args.bytes.now s.file.rows s.file.next_stamp c.in-Some.place f.0 c.in_ok-row.row c.takes_stamp-takes.result c.stamp_after-self-inside.result
    c.self.invariant f.1 f.2 row takes c.stamp_after-self-inside.ensures.after in
    let done = done_changes s c.args.bytes.now f.0 f.2 (sym clash) (rw takes at (sym c.if-lacks_stamp.ensures)) in
    subst (λ (old : Stored). ChangesStored (replacement old.schema c.args.bytes.now) old
    (record s { file = record { rows = slice_set s.file.rows c.in-Some.place c.in_ok-row.row; next_stamp = c.stamp_after-self-inside.result } }) (Ok (Done c.repeats_changed-repeated.result)))
    c.self.view_is (rw (repeated, file) done)
