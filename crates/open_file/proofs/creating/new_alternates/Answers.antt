use Rattle.std.proofs.Common.{◌≡◌, ◌+◌, ◌-◌, ap, sym, ◌∙◌, arith}
use Rattle.key_index.proofs.LookLemmas.{fails}
use Rattle.open_file.specs.Creating.{IsIndexOf}
use Rattle.record_layout.specs.Schema.{key_at}
use Rattle.record_layout.specs.declared.schema.KeyPart.{KeyPart}
use Rattle.open_file.proofs.CreatingLemmas.{some_keys, alternate_more, indexes_more}
use Rattle.open_file.proofs.creating.new_alternates.Goals as goal

pub part-prime-requires : goal.part-prime-requires
part-prime-requires g c = some_keys c.args.schema.now c.key_count-keys.ensures.schema

pub returns-in_err-empty-clause-made : goal.returns-in_err-empty-clause-made
returns-in_err-empty-clause-made g c honest sound heap prime parts =
    let start = c.args.pages.now in
    let now = c.loop-k.pages in
    let later = c.empty.new.pages in
    let inv = c.loop-k.invariant in
    let before = g.met.P.Pages.writes_honestly now later c.empty.ensures.goes honest in
    let had = inv.made before sound heap prime parts in
    fails c.from_residual.result _ _ c.from_residual.ensures.1 (c.in_err-empty.ensures.made honest had.1).no_damage

pub loop-k-preserved : goal.loop-k-preserved
loop-k-preserved g c =
    let start = c.args.pages.now in
    let now = c.loop-k.pages in
    let later = c.empty.new.pages in
    let inv = c.loop-k.invariant in
    let new = c.in_ok-empty.field-0 in
    let is = c.in_ok-empty.ensures.width in
    let again : c.loop-k.k - 1 + 1 ≡ c.loop-k.k = omega (arith, inv.many) in
    let one : IsIndexOf c.args.schema.now (c.loop-k.k - 1) new = record {
      width = is.0 ∙ ap (λ (part : KeyPart). part.length) c.part-width.ensures.part ∙ ap (λ m. (key_at c.args.schema.now m).length) (sym again);
      prime = is.1 ∙ ap (λ (part : KeyPart). part.length) c.part-prime.ensures.part;
      number = is.3 ∙ sym again;
      low = is.2;
    } in
    record {
      goes = g.met.P.Pages.writes_on start now later inv.goes c.empty.ensures.goes;
      made = λ honest sound heap prime parts.
          let before = g.met.P.Pages.writes_honestly now later c.empty.ensures.goes honest in
          let had = inv.made before sound heap prime parts in
          let made = (c.in_ok-empty.ensures.made honest had.1).answer in
          (rw c.push.ensures.items (alternate_more heap prime c.loop-k.alternates.items (g.P.Pages.shown.state now).live had.0 (g.P.Pages.shown.state later).live new made.0), made.1);
      each = rw c.push.ensures.items (indexes_more c.args.schema.now c.loop-k.alternates.items new c.loop-k.k inv.many one inv.each);
      many = ap (λ n. n + 1) c.push.ensures.len ∙ ap (λ n. n + 1) inv.many;
      few = omega (arith, inv.few, c.empty.ensures.spends.few);
      spent = omega (arith, inv.spent, c.in_ok-empty.ensures.one);
      asked = omega (arith, inv.asked, c.empty.ensures.spends.asked);
    }

pub returns-clause-made : goal.returns-clause-made
returns-clause-made g c honest sound heap prime parts = record { answer = c.loop-k.invariant.made honest sound heap prime parts; no_damage = tt }
