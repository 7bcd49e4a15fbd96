use Rattle.std.proofs.Common.{ap, sym, ◌∙◌, take}
use Rattle.open_file.specs.Fields.{prime_index_of}
use Rattle.file_building.proofs.CopiedStepLemmas.{copy_ok}
use Rattle.file_building.proofs.CopiedLemmas.{one_left, copied_more}
use Rattle.file_building.proofs.rows.copy_row.Goals as goal

pub returns-in-Ok-clause-copies : goal.returns-in-Ok-clause-copies
returns-in-Ok-clause-copies g c =
    let source = c.args.source.now in
    let walk = c.args.walk.now in
    let now = c.read_row.new.walk in
    let built = c.put_row.new.rows in
    let live = (g.P.Pages.shown.state c.args.from.now).live in
    let pages = (g.Q.Pages.shown.state c.args.to.now).live in
    let after = (g.Q.Pages.shown.state c.put_row.new.to).live in
    record {
      copied = λ hf ht sound rows left h.
          let one = one_left source walk c.args.rows.now live pages rows left h in
          let read = (c.in-Ok.ensures.read hf one.row one.rest one.ahead).answer in
          let value = read.0.value ∙ ap (take (prime_index_of source).width) (sym c.as_slice.ensures.value) in
          let put = c.put_row.ensures.put ht sound one.done one.row one.holds value read.0.stored_is in
          copy_ok c.put_row.result _ _ (λ done made. (copied_more source walk now c.args.rows.now built live pages after rows left one read.1 made.0, made.1)) put;
      fits = record {
        tree_is = c.read_row.ensures.tree_is ∙ c.requires.fits.tree_is;
        slots_are = c.put_row.ensures.same.slots_are ∙ c.requires.fits.slots_are;
        width_is = c.put_row.ensures.same.width_is ∙ c.requires.fits.width_is;
      };
    }

pub returns-in-Err-clause-copies : goal.returns-in-Err-clause-copies
returns-in-Err-clause-copies g c =
    let source = c.args.source.now in
    let walk = c.args.walk.now in
    let live = (g.P.Pages.shown.state c.args.from.now).live in
    let pages = (g.Q.Pages.shown.state c.args.to.now).live in
    record {
      copied = λ hf ht sound rows left h.
          let one = one_left source walk c.args.rows.now live pages rows left h in
          record { answer = tt; no_damage = (c.in-Err.ensures.read hf one.row one.rest one.ahead).no_damage };
      fits = record {
        tree_is = c.read_row.ensures.tree_is ∙ c.requires.fits.tree_is;
        slots_are = c.requires.fits.slots_are;
        width_is = c.requires.fits.width_is;
      };
    }
