use Rattle.std.proofs.Common.{◌+◌, ◌<◌, length, refl, ap, sym, ◌∙◌, arith}
use Rattle.record_layout.specs.Schema.{value_of}
use Rattle.key_index.specs.Entries.{with_alt, without_rank}
use Rattle.file_changes.specs.Adding.{entry_of_record}
use Rattle.open_file.specs.Fields.{alternates_of, heap_of, next_stamp_of, prime_index_of, file_schema, with_alternates_of}
use Rattle.open_file.specs.Parts.{but_at}
use Rattle.open_file.proofs.ExitLemmas.{fails, if_ok}
use Rattle.open_file.proofs.PartsLemmas.{said_so, found_at}
use Rattle.pages.proofs.CauseLemmas.{caused_since, fails_since}
use Rattle.file_changes.proofs.ChangingLemmas.{but_here, but_twice}
use Rattle.file_changes.proofs.replacing.change_alternate.Goals as goal

pub returns-in_err-remove_from_alternate-clause-put : goal.returns-in_err-remove_from_alternate-clause-put
returns-in_err-remove_from_alternate-clause-put g c honest sound slots primes entries p can =
    fails c.from_residual.result _ c.from_residual.ensures.1 (c.in_err-remove_from_alternate.ensures.removed honest sound slots primes entries p can.there).no_damage _

pub returns-clause-put : goal.returns-clause-put
returns-clause-put g c honest sound slots primes entries p can =
    let u = c.args.opened.now in
    let j = c.args.j in
    let now = c.remove_from_alternate.new.pages in
    let last = c.add_to_alternate.new.pages in
    let new = c.add_to_alternate.new.opened in
    let before = g.met.P.Pages.writes_honestly now last c.add_to_alternate.ensures.alternate.goes honest in
    let left = without_rank (value_of (file_schema u) (j + 1) c.args.old.now) c.args.stamp (entries j) in
    let entry = entry_of_record (file_schema u) (next_stamp_of u) c.args.bytes.now j in
    let out = (c.in_ok-remove_from_alternate.ensures.removed before sound slots primes entries p can.there).answer in
    let schema = ap file_schema c.remove_from_alternate.ensures.alternate.rest in
    let next = ap next_stamp_of c.remove_from_alternate.ensures.alternate.rest in
    let added = (rw (schema, next) at c.add_to_alternate.ensures.added) honest out.1 slots primes (but_at j left entries) out.0 (rw (but_here j left entries) can.freed) in
    record {
      answer = if_ok c.add_to_alternate.result _ _ (λ x done. (
        said_so (heap_of new) (prime_index_of new) (alternates_of new) (g.P.Pages.shown.state last).live slots primes _ done.0 primes (but_at j (with_alt entry left) entries) refl
            (λ i lt. but_twice j left (with_alt entry left) entries i ∙ ap (λ es. but_at j (with_alt entry es) (but_at j left entries) i) (sym (but_here j left entries))),
        done.1,
      )) added.answer;
      no_damage = added.no_damage;
    }

pub returns-in_err-remove_from_alternate-clause-alternate : goal.returns-in_err-remove_from_alternate-clause-alternate
returns-in_err-remove_from_alternate-clause-alternate g c =
    let out = c.remove_from_alternate.ensures.alternate in
    record {
      rest = out.rest;
      shaped = out.shaped;
      later = out.later;
      many = out.many;
      few = λ index is. omega (arith, out.few index is);
      cause = λ index is. fails_since c.from_residual.result _ _ _ _ _ c.from_residual.ensures.1 (λ failed. failed) (λ none. omega (arith, none)) (c.in_err-remove_from_alternate.ensures.alternate.cause index is);
      asked = λ index is. omega (arith, out.asked index is);
      goes = out.goes;
    }

pub returns-clause-alternate : goal.returns-clause-alternate
returns-clause-alternate g c =
    let start = c.args.pages.now in
    let now = c.remove_from_alternate.new.pages in
    let last = c.add_to_alternate.new.pages in
    let mid = c.remove_from_alternate.new.opened in
    let new = c.add_to_alternate.new.opened in
    let out = c.remove_from_alternate.ensures.alternate in
    let put = c.add_to_alternate.ensures.alternate in
    let lt : c.args.j < length (alternates_of mid) = omega (arith, c.requires.index, out.many) in
    let later = found_at (alternates_of mid) c.args.j lt in
    record {
      rest = put.rest ∙ ap (with_alternates_of new) out.rest;
      shaped = put.shaped;
      later = put.later ∙ out.later;
      many = put.many ∙ out.many;
      few = λ index is.
          let less = c.in_ok-remove_from_alternate.ensures.height index later.0 is later.1 in
          omega (arith, less, out.few index is, put.few later.0 later.1);
      cause = λ index is.
          let less = c.in_ok-remove_from_alternate.ensures.height index later.0 is later.1 in
          caused_since c.add_to_alternate.result _ _ _ _ (λ failed. g.met.P.Pages.failed_after start now last out.goes failed) (λ lacks. omega (arith, lacks, less, out.few index is)) (put.cause later.0 later.1);
      asked = λ index is.
          let less = c.in_ok-remove_from_alternate.ensures.height index later.0 is later.1 in
          omega (arith, less, out.asked index is, put.asked later.0 later.1);
      goes = g.met.P.Pages.writes_on start now last out.goes put.goes;
    }
