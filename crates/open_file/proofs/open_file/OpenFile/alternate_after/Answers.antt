use Rattle.std.proofs.Common.{◌≡◌, ℕ, ◌-◌, None, Some, sym, subst, ◌∙◌, rules, arith}
use Rattle.std.specs.Prelude.{find}
use Rattle.std.proofs.lemmas.Grind.{common_steps}
use Rattle.key_index.specs.Calls.{filled_with}
use Rattle.key_index.specs.Entries.{after_rank}
use Rattle.open_file.specs.InOrder.{alt_entries}
use Rattle.open_file.specs.declared.path.Path.TheVariants.{Alternate}
use Rattle.open_file.proofs.AnswerLemmas.{index_at}
use Rattle.open_file.proofs.PathLemmas.{put_path, on_alternate, in_alternate, answered, no_fault, is_err_filled, IsPathOf}
use Rattle.open_file.proofs.open_file.OpenFile.alternate_after.Goals as goal

pub returns-then-is_err : goal.returns-then-is_err
returns-then-is_err g c =
    let live = (g.P.Pages.shown.state c.args.pages.now).live in
    let k = c.args.k in
    let key = c.requires.key in
    let at = index_at c.args.self.now k key.some key.within in
    let led = c.lead_in_alternate.new.self in
    let rest = c.lead_in_alternate.ensures.rest in
    let is : led.path ≡ Some (Alternate c.in-Some-Alternate.field-0-0 c.in-Some-Alternate.cursor) = first_of (cc, search rules, grind (arith, common_steps)) in
    let behind = in_alternate led.path c.in-Some-Alternate.field-0-0 c.in-Some-Alternate.cursor (k - 1) _ is c.lead_in_alternate.ensures.behind in
    record {
      found = λ honest file stands.
          let standing = stands.parts.alternates_stand (k - 1) c.args.index at.0 key.index_is in
          let belongs = behind.1.belongs live _ _ _ stands.on_path in
          let moved = c.next-found.ensures.moved honest c.args.value.now c.args.stamp _ _ standing belongs (c.if-value-from.false ∙ c.from.ensures) c.ranges.stamp.fits behind.1.after in
          answered (filled_with c.next-found.new.entry c.next-found.result) _ _ (λ x h. subst (λ (m : ℕ). x ≡ find (after_rank c.args.value.now c.args.stamp) (alt_entries c.args.self.now.schema m file.rows)) at.1 h.found_is) moved;
      stands = λ honest file stands. put_path c.args.self.now led None live file rest stands tt;
      rest = first_of (search rules, grind (arith, common_steps));
      reads = first_of (search rules, grind (arith, common_steps));
    }

pub returns-else-is_err : goal.returns-else-is_err
returns-else-is_err g c =
    let live = (g.P.Pages.shown.state c.args.pages.now).live in
    let k = c.args.k in
    let key = c.requires.key in
    let at = index_at c.args.self.now k key.some key.within in
    let led = c.lead_in_alternate.new.self in
    let rest = c.lead_in_alternate.ensures.rest in
    let is : led.path ≡ Some (Alternate c.in-Some-Alternate.field-0-0 c.in-Some-Alternate.cursor) = first_of (cc, search rules, grind (arith, common_steps)) in
    let behind = in_alternate led.path c.in-Some-Alternate.field-0-0 c.in-Some-Alternate.cursor (k - 1) _ is c.lead_in_alternate.ensures.behind in
    record {
      found = λ honest file stands.
          let standing = stands.parts.alternates_stand (k - 1) c.args.index at.0 key.index_is in
          let belongs = behind.1.belongs live _ _ _ stands.on_path in
          let moved = c.next-found.ensures.moved honest c.args.value.now c.args.stamp _ _ standing belongs (c.if-value-from.false ∙ c.from.ensures) c.ranges.stamp.fits behind.1.after in
          answered (filled_with c.next-found.new.entry c.next-found.result) _ _ (λ x h. subst (λ (m : ℕ). x ≡ find (after_rank c.args.value.now c.args.stamp) (alt_entries c.args.self.now.schema m file.rows)) at.1 h.found_is) moved;
      stands = λ honest file stands.
          let standing = stands.parts.alternates_stand (k - 1) c.args.index at.0 key.index_is in
          let belongs = behind.1.belongs live _ _ _ stands.on_path in
          let moved = c.next-found.ensures.moved honest c.args.value.now c.args.stamp _ _ standing belongs (c.if-value-from.false ∙ c.from.ensures) c.ranges.stamp.fits behind.1.after in
          no_fault (filled_with c.next-found.new.entry c.next-found.result) _ _ (is_err_filled c.next-found.new.entry c.next-found.result ∙ sym c.if-is_err.ensures.value)
          (λ x h. put_path c.args.self.now led (Some (Alternate c.in-Some-Alternate.field-0-0 c.next-found.new.self)) live file rest stands
          (subst (λ (m : ℕ). IsPathOf (Some (Alternate m c.next-found.new.self)) c.args.self.now live file stands) (sym behind.0)
          (on_alternate c.args.self.now live file stands (k - 1) c.args.index c.next-found.new.self key.index_is h.belongs))) moved;
      rest = first_of (search rules, grind (arith, common_steps));
      reads = first_of (search rules, grind (arith, common_steps));
    }
