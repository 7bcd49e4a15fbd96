use Rattle.std.proofs.Common.{◌≡◌, ◌+◌, arith, ap, sym, ◌∙◌, rules}
use Rattle.std.specs.Prelude.{slice_index_or, if◌then◌else◌}
use Rattle.record_layout.specs.Schema.{has_duplicates}
use Rattle.open_file.specs.Fields.{alternates_of, heap_of, next_stamp_of, prime_index_of, file_schema}
use Rattle.file_changes.specs.Adding.{stamp_in}
use Rattle.open_file.proofs.PartsLemmas.{alternate_changed, same_default}
use Rattle.key_index.specs.declared.alt_index.AltIndex.{AltIndex}
use Rattle.std.proofs.lemmas.List.{drop-set-lt}
use Rattle.file_changes.proofs.LevelLemmas.{index_is}
use Rattle.file_changes.proofs.adding.add_to_alternate.Goals as goal
use Rattle.file_changes.proofs.adding.add_to_alternate.Goals.{then-has_duplicates, else-has_duplicates}

pub returns-then-added-clause-added : goal.returns-then-added-clause-added
returns-then-added-clause-added g c honest sound slots primes entries p none =
    let opened = c.args.opened.now in
    let at = index_is (alternates_of opened) c.args.j c.alternate-index.result (rw (c.from.ensures, c.number_of-k.ensures) at c.alternate-index.ensures) in
    let stamp : c.if-has_duplicates.stamp ≡ stamp_in (file_schema opened) (next_stamp_of opened) c.args.j =
    (elim c.if-has_duplicates.branch [
      | then-has_duplicates w ↦ w.stamp-is ∙ w.next_stamp-stamp.ensures ∙ ap (λ b. if b then next_stamp_of opened else 0) (sym (ap has_duplicates (sym (rw c.number_of-k.ensures at c.part-part.ensures.part)) ∙ (sym c.has_duplicates.ensures ∙ w.if-has_duplicates.true)))
      | else-has_duplicates w ↦ w.stamp-is ∙ ap (λ b. if b then next_stamp_of opened else 0) (sym (ap has_duplicates (sym (rw c.number_of-k.ensures at c.part-part.ensures.part)) ∙ (sym c.has_duplicates.ensures ∙ w.if-has_duplicates.false)))
    ]) in
    let added = ((rw (c.if-added.true, c.value-value.ensures.value, c.number_of-k.ensures, c.value-prime.ensures.value, stamp) at c.in_ok-added.ensures.added) honest sound (entries c.args.j) _ (p.alternates_stand c.args.j c.alternate-index.result c.requires.index at)).answer in
    let whole = alternate_changed (heap_of opened) (prime_index_of opened) (alternates_of opened) (g.P.Pages.shown.state c.args.pages.now).live slots primes entries p (g.P.Pages.shown.state c.add.new.pages).live c.args.j c.add.new.self _ c.requires.index added.0.1 in
    rw c.put_alternate.ensures (record { answer = (whole, added.1); no_damage = tt })

pub returns-else-added-clause-alternate : goal.returns-else-added-clause-alternate
returns-else-added-clause-alternate g c =
    let opened = c.args.opened.now in
    let at = index_is (alternates_of opened) c.args.j c.alternate-index.result (rw (c.from.ensures, c.number_of-k.ensures) at c.alternate-index.ensures) in
    let same : (index : AltIndex) → index ≡ slice_index_or (alternates_of opened) c.args.j index → c.alternate-index.result ≡ index =
    λ index is. at ∙ same_default (alternates_of opened) c.args.j c.alternate-index.result index c.requires.index ∙ sym is in
    record {
      rest = search rules;
      shaped = search rules;
      later = rw c.put_alternate.ensures (drop-set-lt (c.args.j + 1) (alternates_of opened) c.args.j _ (omega arith));
      many = search rules;
      few = λ index is. rw (same index is) at c.add.ensures.spends.few;
      cause = search rules;
      asked = λ index is. rw (same index is) at c.add.ensures.spends.asked;
      goes = search rules;
    }
