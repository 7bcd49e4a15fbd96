use Rattle.std.proofs.Common.{◌≢◌, length, IsTrue, OnErr, IfErr, Err, refl, inr, rules, arith, false}
use Rattle.std.proofs.lemmas.Grind.{common_steps}
use Rattle.std.specs.NonZero.{non_zero_usize_get}
use Rattle.io_state.specs.declared.fault.Fault.TheVariants.{Damage}
use Rattle.page_store.specs.Gate.{WasOrRefused}
use Rattle.page_store.specs.Moments.{Throughout}
use Rattle.page_store.specs.ShelfState.{unit_file, FileGoes}
use Rattle.page_alloc.specs.Joining.{FaultsRose}
use Rattle.page_alloc.specs.PagedFile.{IsKeptOrRefused}
use Rattle.shelf_library.specs.FileOpening.{MayFailToMake}
use Rattle.shelf_library.specs.Shelves.{IsMade}
use Rattle.shelf_library.specs.Standing.{HasLimits}
use Rattle.shelf_library.proofs.StepLemmas.{at_end, at_ends}
use Rattle.shelf_library.proofs.MadeLemmas.{made_images, made_refused, made_cause, made_limits, is_made, new_sound, new_free}
use Rattle.shelf_library.proofs.MadeLemmas.{handed_on, at_err, memory_first, never_memory}
use Rattle.shelf_library.proofs.shelf_file.ShelfFile.create.Goals as goal

pub returns-in_err-pages : goal.returns-in_err-pages
returns-in_err-pages g c = record {
  made = search rules;
  limits = search rules;
  images = search rules;
  failed = search rules;
  others = search rules;
  count = search rules;
  cause = search rules;
  memory = memory_first g.S.Shelf.state g.S.Shelf.fault_count _ _ (Err c.in_err-pages.field-0.0) c.from_residual.result c.in_err-pages.field-0.0
      refl c.from_residual.ensures.1 c.in_err-pages.ensures.opens.cause;
  damage = search rules;
}

pub returns-in_err-file : goal.returns-in_err-file
returns-in_err-file g c =
    let a = c.in_ok-pages.pages in
    let made = c.in_ok-pages.ensures.made in
    let ready = c.in_ok-pages.ensures.ready in
    let goes = c.create-2.ensures.takes.writes.step.2 in
    let unit = c.args.unit in
    let limit = c.args.limit in
    let old = unit_file (g.S.Shelf.state c.args.shelf.now) unit in
    let b = c.create-2.new.pages.file.now in
    let before = g.S.Shelf.state c.create.new.shelf in
    record {
      made = first_of (search rules, grind (arith, common_steps));
      limits = first_of (search rules, grind (arith, common_steps));
      images =
          at_end (λ s. IsTrue (g.S.Shelf.state s).is_honest → Throughout (WasOrRefused old) old (unit_file (g.S.Shelf.state s) unit))
          _ _ c.shelf-1.given.1 c.create-2.ensures.takes.writes.step.1
          (made_images unit limit a _ _ _ _ _ made ready goes old c.create.ensures.opens.images);
      failed =
          at_end (λ s. OnErr c.from_residual-in_err-file.result
          (IsTrue (g.S.Shelf.state s).is_honest → FileGoes unit (g.S.Shelf.state c.args.shelf.now) (g.S.Shelf.state s) IsKeptOrRefused))
          _ _ c.shelf-1.given.1 c.create-2.ensures.takes.writes.step.1
          (at_err c.from_residual-in_err-file.result _ (λ honest. inr (made_refused unit limit a _ _ _ _ _ made ready goes honest)));
      others = first_of (search rules, grind (arith, common_steps));
      count = first_of (search rules, grind (arith, common_steps));
      cause =
          at_end (λ s. IfErr c.from_residual-in_err-file.result
          (MayFailToMake (FaultsRose (g.S.Shelf.fault_count c.args.shelf.now) (g.S.Shelf.fault_count s))))
          _ _ c.shelf-1.given.1 c.create-2.ensures.takes.writes.step.1
          (handed_on c.from_residual-in_err-file.result c.in_err-file.field-0.0 _ c.from_residual-in_err-file.ensures.1
          (made_cause unit limit a _ _ _ _ _ made ready goes (g.S.Shelf.fault_count c.args.shelf.now) (length c.args.schema.now.keys)
          c.in_err-file.field-0.0 c.create.ensures.opens.no_fewer c.requires.limit c.key_count-keys.ensures.schema.few
          c.in_err-file.ensures.takes.writes.cause));
      memory = never_memory c.from_residual-in_err-file.result c.in_err-file.field-0.0 c.from_residual-in_err-file.ensures.1 c.in_err-file.ensures.takes.writes.cause.not_memory;
      damage =
          at_end (λ s. IsTrue (g.S.Shelf.state s).is_honest → IfErr c.from_residual-in_err-file.result (λ e. e ≢ Damage))
          _ _ c.shelf-1.given.1 c.create-2.ensures.takes.writes.step.1
          (λ honest. handed_on c.from_residual-in_err-file.result c.in_err-file.field-0.0 _ c.from_residual-in_err-file.ensures.1
          (c.in_err-file.ensures.new honest (new_sound unit limit a b before _ _ _ made ready goes)
          (new_free unit limit a b before _ _ _ made ready goes)).no_damage);
    }

pub returns : goal.returns
returns g c =
    let a = c.in_ok-pages.pages in
    let made = c.in_ok-pages.ensures.made in
    let ready = c.in_ok-pages.ensures.ready in
    let goes = c.create-2.ensures.takes.writes.step.2 in
    let unit = c.args.unit in
    let limit = c.args.limit in
    let frames = non_zero_usize_get c.args.frames in
    let old = unit_file (g.S.Shelf.state c.args.shelf.now) unit in
    let b = c.create-2.new.pages.file.now in
    let before = g.S.Shelf.state c.create.new.shelf in
    record {
      made =
          at_ends (λ p s. IsMade (record { file = c.in_ok-file.file; pages = p }) unit limit c.args.schema.now (g.S.Shelf.state s))
          _ _ _ _ c.pages-3-1.given.1 c.create-2.ensures.takes.writes.step.0 c.shelf-1.given.1 c.create-2.ensures.takes.writes.step.1
          (is_made unit limit a b before (g.S.Shelf.state c.create-2.new.pages.shelf.now) _ _ made ready goes
          c.in_ok-file.file c.args.schema.now c.in_ok-file.ensures.made c.in_ok-file.ensures.takes.spent
          (λ honest. (c.in_ok-file.ensures.new honest (new_sound unit limit a b before _ _ _ made ready goes)
          (new_free unit limit a b before _ _ _ made ready goes)).answer));
      limits =
          at_end (λ p. HasLimits limit frames (record { file = c.in_ok-file.file; pages = p }))
          _ _ c.pages-3-1.given.1 c.create-2.ensures.takes.writes.step.0
          (made_limits unit limit frames a b _ _ _ _ made c.in_ok-pages.ensures.frames goes c.in_ok-file.file);
      images =
          at_end (λ s. IsTrue (g.S.Shelf.state s).is_honest → Throughout (WasOrRefused old) old (unit_file (g.S.Shelf.state s) unit))
          _ _ c.shelf-1.given.1 c.create-2.ensures.takes.writes.step.1
          (made_images unit limit a _ _ _ _ _ made ready goes old c.create.ensures.opens.images);
      failed = tt;
      others = first_of (search rules, grind (arith, common_steps));
      count = first_of (search rules, grind (arith, common_steps));
      cause = tt;
      memory = λ is. absurd (cc);
      damage = λ honest. tt;
    }
