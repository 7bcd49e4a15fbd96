use Rattle.std.proofs.Common.{◌∙◌, length, ap, refl, sym, List, ℕ, [], ◌∷◌, arith, slice_index_or, Option, Bor}
use Rattle.std.specs.Option.{option_copied}
use Rattle.tree_node.specs.Leaf.{leaf_entries}
use Rattle.page_walks.specs.declared.spot.LeafSpot.{LeafSpot}
use Rattle.pages.proofs.SourceLemmas.{there_is}
use Rattle.file_checker.proofs.EntryLemmas.{entry_long}
use Rattle.file_checker.proofs.entry.entry.Goals as goal

pub returns : goal.returns
returns g c =
    let lent = c.lend.follows.holds-at-none in
    let at : LeafSpot = record { page = 0; place = c.args.spot.place } in
    let there = c.in_ok-entry.ensures.there.0 refl in (
      (
        refl,
        λ _. tt,
        (
          λ list has.
              let copied = ap (λ (o : Option (Bor (List ℕ))). option_copied o) c.in_ok-page.was in
              let here = there_is list c.args.spot.page c.in_ok-page.page.now (sym (lent.0 list has) ∙ copied) in
              record {
                value = c.in_ok-entry.ensures.value ∙ ap (λ (b : List ℕ). slice_index_or (leaf_entries c.args.shape b) c.args.spot.place []) (sym here.1);
                there = λ _. refl;
              },
          lent.1,
        ),
      ),
      record {
        lends = tt;
        long = ap length c.in_ok-entry.ensures.value ∙ entry_long c.args.shape (c.in_ok-page.page.now ∷ []) at (record { page = omega arith; leaf = there.0; place = there.1 });
        bytes = c.bytes_fit.ensures;
      },
    )
