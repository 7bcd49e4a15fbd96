use Rattle.std.proofs.Common.{length, ap, ◌∙◌}
use Rattle.bplus_tree.specs.declared.tree.Tree.{Tree}
use Rattle.bplus_tree.specs.Fields.{tree_shape}
use Rattle.file_building.proofs.CopiedStepLemmas.{copy_ok}
use Rattle.file_building.proofs.LeadLemmas.{lead_left, led_one, lead_cause}
use Rattle.file_building.proofs.leading.lead_next.Goals as goal

pub put_leading-requires : goal.put_leading-requires
put_leading-requires g c = record {
  target = c.requires.target;
  width_is = c.requires.fits.width_is;
  long = ap length c.as_slice.ensures.value ∙ c.in-Ok.ensures.long ∙ ap (λ (t : Tree). (tree_shape t).entry) c.requires.fits.tree_is ∙ c.args.index.now.entries;
}

pub returns-in-Ok-clause-leads : goal.returns-in-Ok-clause-leads
returns-in-Ok-clause-leads g c =
    let index = c.args.index.now in
    let places = c.args.places.now in
    let walk = c.args.walk.now in
    let now = c.next.new.self in
    let built = c.put_leading.new.builder in
    let live = (g.P.Pages.shown.state c.args.from.now).live in
    let pages = (g.Q.Pages.shown.state c.args.to.now).live in
    let after = (g.Q.Pages.shown.state c.put_leading.new.to).live in
    record {
      led = λ hf ht sound start entries left h.
          let one = lead_left index places walk c.args.builder.now live start pages entries left h in
          let given = (c.in-Ok.ensures.gives hf one.given _ _ one.own one.walked).answer in
          let put = c.put_leading.ensures.put ht sound start one.done one.next one.built one.fits one.is_known (c.as_slice.ensures.value ∙ given.0) in
          copy_ok c.put_leading.result _ _ (λ done made. (led_one index places walk now c.args.builder.now built live start pages after entries left one given.1 made.0, made.1)) put;
      fits = record { tree_is = c.next.ensures.tree_is ∙ c.requires.fits.tree_is; width_is = c.put_leading.ensures.width_is ∙ c.requires.fits.width_is };
    }

pub returns-in-Ok-clause-keeps : goal.returns-in-Ok-clause-keeps
returns-in-Ok-clause-keeps g c = record {
  cause = lead_cause _ _ _ c.put_leading.result c.put_leading.ensures.cause;
  reads = c.next.ensures.reads.step;
  writes = c.put_leading.ensures.step;
}

pub returns-in-Err-clause-leads : goal.returns-in-Err-clause-leads
returns-in-Err-clause-leads g c =
    let index = c.args.index.now in
    let places = c.args.places.now in
    let walk = c.args.walk.now in
    let live = (g.P.Pages.shown.state c.args.from.now).live in
    let pages = (g.Q.Pages.shown.state c.args.to.now).live in
    record {
      led = λ hf ht sound start entries left h.
          let one = lead_left index places walk c.args.builder.now live start pages entries left h in
          record { answer = tt; no_damage = (c.in-Err.ensures.gives hf one.given _ _ one.own one.walked).no_damage };
      fits = record { tree_is = c.next.ensures.tree_is ∙ c.requires.fits.tree_is; width_is = c.requires.fits.width_is };
    }
