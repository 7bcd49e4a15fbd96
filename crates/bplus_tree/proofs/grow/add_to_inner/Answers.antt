use Rattle.std.proofs.lemmas.Grind.{common_steps}
use Rattle.std.proofs.Common.{◌≡◌, IsTrue, IsSome, refl, sym, subst, ◌∙◌, arith}
use Rattle.pages.proofs.CauseLemmas.{caused_since}
use Rattle.bplus_tree.proofs.GrowLemmas.{inner_rebuilt}
use Rattle.bplus_tree.proofs.grow.add_to_inner.Goals as goal

pub returns-clause-alters : goal.returns-clause-alters
returns-clause-alters g c = record {
  leaves = λ honest sound seps below at within.
      let old = c.args.pages.now in
      let mid = c.copy.new.pages in
      let new = c.write_parts.new.pages in
      let reads = c.copy.ensures.reads.step in
      let h = g.met.P.Pages.writes_honestly mid new c.write_parts.ensures.alters.writes.step honest in
      let here : IsSome ((g.P.Pages.shown.state old).live c.args.page) = rw at.there refl in
      let sound' : IsTrue (g.P.Pages.shown.state mid).is_sound = subst IsTrue (sym (g.met.P.Pages.reads_sound old mid reads h)) sound in
      inner_rebuilt c.args.shape (g.P.Pages.shown.state old).live (g.P.Pages.shown.state mid).live (g.P.Pages.shown.state new).live (IsTrue (g.P.Pages.shown.state new).is_sound) c.args.page c.args.place
      c.copy.new.to c.put_in_inner-key.new.page c.put_in_inner-key.new.upper c.put_in_inner-key.result c.write_parts.result (g.met.P.Pages.reads_live old mid reads h) (c.in_ok-copy.ensures.copied h here)
      (c.write_parts.ensures.alters.leaves honest sound') c.write_parts.ensures.key c.args.separator.now seps below at c.put_in_inner-key.ensures;
  writes =
      record {
        few =
            let same = g.met.P.Pages.reads_available c.args.pages.now c.copy.new.pages c.copy.ensures.reads.step in
            let few = c.write_parts.ensures.alters.writes.few in
            omega arith;
        cause =
            let old = c.args.pages.now in
            let mid = c.copy.new.pages in
            let new = c.write_parts.new.pages in
            let reads = c.copy.ensures.reads.step in
            caused_since c.write_parts.result (g.P.Pages.shown.HasFailed mid new) (g.P.Pages.shown.HasFailed old new) ((g.P.Pages.shown.state mid).available ≡ 0) ((g.P.Pages.shown.state old).available ≡ 0)
            (g.met.P.Pages.failed_after old mid new (g.met.P.Pages.reads_writes old mid reads)) (λ none. sym (g.met.P.Pages.reads_available old mid reads) ∙ none) c.write_parts.ensures.alters.writes.cause;
        asked = grind (arith, common_steps);
        step = g.met.P.Pages.writes_on c.args.pages.now c.copy.new.pages c.write_parts.new.pages (g.met.P.Pages.reads_writes c.args.pages.now c.copy.new.pages c.copy.ensures.reads.step) c.write_parts.ensures.alters.writes.step;
      };
}
