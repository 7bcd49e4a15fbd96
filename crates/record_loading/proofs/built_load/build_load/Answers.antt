use Rattle.std.proofs.Common.{refl}
use Rattle.record_loading.proofs.SameLemmas.{none_tried}
use Rattle.record_loading.proofs.built_load.build_load.Goals as goal

pub returns-then-not-may_be_built-clause-tries : goal.returns-then-not-may_be_built-clause-tries
returns-then-not-may_be_built-clause-tries g c = none_tried (g.S.Shelf.state c.args.shelf.now) (g.S.Shelf.state c.args.shelf.now) refl (λ honest. honest) c.args.name.bytes c.args.schema.now _

pub returns-in_default-clause-tries : goal.returns-in_default-clause-tries
returns-in_default-clause-tries g c = none_tried (g.S.Shelf.state c.args.shelf.now) (g.S.Shelf.state c.args.shelf.now) refl (λ honest. honest) c.args.name.bytes c.args.schema.now _

pub returns-in_default-blank_area-clause-tries : goal.returns-in_default-blank_area-clause-tries
returns-in_default-blank_area-clause-tries g c = none_tried (g.S.Shelf.state c.args.shelf.now) (g.S.Shelf.state c.args.shelf.now) refl (λ honest. honest) c.args.name.bytes c.args.schema.now _

pub returns-in_default-behind_header-clause-tries : goal.returns-in_default-behind_header-clause-tries
returns-in_default-behind_header-clause-tries g c = none_tried (g.S.Shelf.state c.args.shelf.now) (g.S.Shelf.state c.args.shelf.now) refl (λ honest. honest) c.args.name.bytes c.args.schema.now _
