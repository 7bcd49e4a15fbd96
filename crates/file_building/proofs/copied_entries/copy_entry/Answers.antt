use Rattle.std.proofs.Common.{length, ap, ◌∙◌}
use Rattle.bplus_tree.specs.declared.tree.Tree.{Tree}
use Rattle.bplus_tree.specs.Fields.{tree_shape}
use Rattle.file_building.proofs.CopiedStepLemmas.{copy_ok}
use Rattle.file_building.proofs.CopiedEntryLemmas.{entry_left, entry_copied}
use Rattle.file_building.proofs.copied_entries.copy_entry.Goals as goal

pub put_entry-requires : goal.put_entry-requires
put_entry-requires g c = record {
  target = c.requires.target;
  builder_is = c.requires.fits.builder_is;
  long = ap length c.as_slice.ensures.value ∙ c.in-Ok.ensures.long ∙ ap (λ (t : Tree). (tree_shape t).entry) c.requires.fits.tree_is ∙ c.args.index.now.entries;
}

pub returns-in-Ok-clause-copies : goal.returns-in-Ok-clause-copies
returns-in-Ok-clause-copies g c =
    let index = c.args.index.now in
    let walk = c.args.walk.now in
    let now = c.next.new.self in
    let built = c.put_entry.new.builder in
    let live = (g.P.Pages.shown.state c.args.from.now).live in
    let pages = (g.Q.Pages.shown.state c.args.to.now).live in
    let after = (g.Q.Pages.shown.state c.put_entry.new.to).live in
    record {
      copied = λ hf ht sound start entries left h.
          let one = entry_left index walk c.args.builder.now live start pages entries left h in
          let given = (c.in-Ok.ensures.gives hf one.given _ _ one.own one.walked).answer in
          let put = c.put_entry.ensures.put ht sound start one.done one.next one.built one.fits (c.as_slice.ensures.value ∙ given.0) in
          copy_ok c.put_entry.result _ _ (λ done made. (entry_copied index walk now c.args.builder.now built live start pages after entries left one given.1 made.0, made.1)) put;
      fits = record { tree_is = c.next.ensures.tree_is ∙ c.requires.fits.tree_is; builder_is = c.put_entry.ensures.builder_is };
    }

pub returns-in-Err-clause-copies : goal.returns-in-Err-clause-copies
returns-in-Err-clause-copies g c =
    let index = c.args.index.now in
    let walk = c.args.walk.now in
    let live = (g.P.Pages.shown.state c.args.from.now).live in
    let pages = (g.Q.Pages.shown.state c.args.to.now).live in
    record {
      copied = λ hf ht sound start entries left h.
          let one = entry_left index walk c.args.builder.now live start pages entries left h in
          record { answer = tt; no_damage = (c.in-Err.ensures.gives hf one.given _ _ one.own one.walked).no_damage };
      fits = record { tree_is = c.next.ensures.tree_is ∙ c.requires.fits.tree_is; builder_is = c.requires.fits.builder_is };
    }
