use Rattle.std.proofs.Common.{◌≡◌, Some, ap, sym, ◌∙◌, rules, arith}
use Rattle.std.specs.Prelude.{find}
use Rattle.std.proofs.lemmas.Grind.{common_steps}
use Rattle.key_index.specs.Calls.{filled_with}
use Rattle.key_index.specs.Entries.{after_prime}
use Rattle.open_file.specs.InOrder.{prime_entries}
use Rattle.open_file.specs.declared.path.Path.TheVariants.{Prime}
use Rattle.open_file.proofs.PathLemmas.{put_path, same_prime_index, in_prime, answered, no_fault, is_err_filled}
use Rattle.open_file.proofs.open_file.OpenFile.prime_after.Goals as goal

pub returns-then-value-from : goal.returns-then-value-from
returns-then-value-from g c = record {
  found = λ honest file stands. c.first_after_prime.ensures.found honest _ _ stands.parts.prime_stands;
  stands = search rules;
  rest = search rules;
  reads = search rules;
}

pub returns-else-is_err : goal.returns-else-is_err
returns-else-is_err g c =
    let led = c.lead_in_prime.new.self in
    let rest = c.lead_in_prime.ensures.rest in
    let is : led.path ≡ Some (Prime c.in-Some-Prime.cursor) = first_of (cc, search rules, grind (arith, common_steps)) in
    let behind = in_prime led.path c.in-Some-Prime.cursor _ is c.lead_in_prime.ensures.behind in
    let live = (g.P.Pages.shown.state c.args.pages.now).live in
    let same = same_prime_index c.args.self.now led rest in
    record {
      found = λ honest file stands.
          let belongs = behind.belongs live _ _ _ stands.on_path in
          let moved = (rw same at c.next-found.ensures.moved honest) _ _ stands.parts.prime_stands belongs in
          answered (filled_with c.next-found.new.entry c.next-found.result) _ _ (λ x h. h.found_is ∙ ap (λ v. find (after_prime v) (prime_entries c.args.self.now.schema stands.places file.rows)) behind.after) moved;
      stands = λ honest file stands.
          let belongs = behind.belongs live _ _ _ stands.on_path in
          let moved = (rw same at c.next-found.ensures.moved honest) _ _ stands.parts.prime_stands belongs in
          no_fault (filled_with c.next-found.new.entry c.next-found.result) _ _ (is_err_filled c.next-found.new.entry c.next-found.result ∙ sym c.if-is_err.ensures.value) (λ x h. put_path c.args.self.now led (Some (Prime c.next-found.new.self)) live file rest stands h.belongs) moved;
      rest = first_of (search rules, grind (arith, common_steps));
      reads = first_of (search rules, grind (arith, common_steps));
    }
