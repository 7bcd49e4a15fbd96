use Rattle.std.proofs.Common.{◌≡◌, ◌+◌, ◌<◌, arith, length, subst, ap, ◌∙◌, slice_index_or, List, ℕ}
use Rattle.pages.proofs.RefusedLemmas.{handed_on}
use Rattle.key_index.specs.declared.alt_index.AltIndex.{AltIndex}
use Rattle.file_reports.specs.Statistics.{HasFileStanding, HasTreeStanding, KeysCounted}
use Rattle.file_reports.proofs.KeyLemmas.{keys_first, keys_more, prime_standing, alternate_standing}
use Rattle.file_reports.proofs.counting.count_keys.Goals as goal
use Rattle.open_file.specs.Fields.{alternates_of}

pub returns-in_err-prime-clause-refused : goal.returns-in_err-prime-clause-refused
returns-in_err-prime-clause-refused g c = λ list has.
    handed_on (HasTreeStanding c.prime.result.now.tree list) (HasFileStanding c.args.file.now list) c.from_residual.result _ c.from_residual.ensures.1
    (λ known. rw c.prime.ensures (prime_standing c.args.file.now list known))
    (c.in_err-prime.ensures.refused list has)

pub loop-index-init : goal.loop-index-init
loop-index-init g c = record {
  counted = λ list has known. keys_first c.args.file.now list c.in_ok-prime.prime c.new-keys.result.items c.push_key.new.keys.items c.new-keys.ensures.items c.in_ok-push_key.ensures.added
      ((rw (c.prime.ensures, c.prime-2.ensures) at (c.in_ok-prime.ensures.counted list has)) (prime_standing c.args.file.now list known));
  before = λ list has. has;
}

pub returns-in_err-key-clause-refused : goal.returns-in_err-key-clause-refused
returns-in_err-key-clause-refused g c = λ list has.
    let items = c.alternates-index-items.ensures.value in
    let inside = c.loop-index-test.true in
    handed_on (HasTreeStanding c.index-item.result.tree list) (HasFileStanding c.args.file.now list) c.from_residual-in_err-key.result _ c.from_residual-in_err-key.ensures.1
    (λ known. alternate_standing c.args.file.now list known c.loop-index.index-index c.index-item.result (let long = ap length items in omega (arith, inside, long))
    (c.index-item.is ∙ ap (λ (l : List AltIndex). slice_index_or l c.loop-index.index-index c.index-item.result) items))
    (c.in_err-key.ensures.refused list has)

pub loop-index-preserved : goal.loop-index-preserved
loop-index-preserved g c =
    let items = c.alternates-index-items.ensures.value in
    let inside = c.loop-index-test.true in
    let at = c.index-item.is ∙ ap (λ (l : List AltIndex). slice_index_or l c.loop-index.index-index c.index-item.result) items in
    record {
      counted = λ list has known.
          (let long = ap length items in
          let within : c.loop-index.index-index < length (alternates_of c.args.file.now) = omega (arith, inside, long) in
          keys_more c.args.file.now list c.loop-index.index-index (c.loop-index.index-index + 1) c.loop-index.keys.items c.push_key-in-loop-index.new.keys.items
          c.in_ok-key.key c.index-item.result (omega arith) (c.loop-index.invariant.counted list (c.count_key-in-loop-index.ensures.before list has) known) c.in_ok-push_key-2.ensures.added
          within at (c.in_ok-key.ensures.counted list has (alternate_standing c.args.file.now list known c.loop-index.index-index c.index-item.result within at)));
      before = λ list has. c.loop-index.invariant.before list (c.count_key-in-loop-index.ensures.before list has);
    }

pub returns-clause-counted : goal.returns-clause-counted
returns-clause-counted g c = λ list has known.
    let long = ap length c.alternates-index-items.ensures.value in
    let last : c.loop-index.index-index ≡ length (alternates_of c.args.file.now) = omega (arith, long, c.loop-index-test.false, c.loop-index.auto.index-index-end) in
    subst (λ (n : ℕ). KeysCounted c.args.file.now list n c.loop-index.keys.items) last (c.loop-index.invariant.counted list has known)
