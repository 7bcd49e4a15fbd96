use Rattle.std.proofs.Common.{◌≡◌, ◌<◌, length, arith, rules, subst, sym}
use Rattle.std.proofs.lemmas.Grind.{common_steps}
use Rattle.record_layout.proofs.PictureLemmas.{SoFar, step, finish, refused, empty_means_none}
use Rattle.record_layout.proofs.picture.total.Goals as goal

pub returns-then-is_empty-clause-none : goal.returns-then-is_empty-clause-none
returns-then-is_empty-clause-none c =
    let none : length c.args.text.now ≡ 0 = first_of (search rules, grind (arith, common_steps)) in
    empty_means_none c.args.numeric c.args.text.now none

pub returns-in_default-clause-none : goal.returns-in_default-clause-none
returns-in_default-clause-none c =
    let long : 0 < length c.groups.rest.now = first_of (search rules, grind (arith, common_steps)) in
    refused c.args.numeric c.args.text.now c.groups.total c.groups.rest.now c.groups.invariant.0 long c.in_default.ensures.group

pub groups-preserved : goal.groups-preserved
groups-preserved c =
    let long : 0 < length c.groups.rest.now = first_of (search rules, grind (arith, common_steps)) in
    let next = step c.args.numeric c.args.text.now c.groups.total c.groups.rest.now (c.in-Some.n, c.in-Some.left) c.groups.invariant.0 long c.in-Some.ensures.group in
    (subst (λ t. SoFar c.args.numeric c.args.text.now t c.in-Some.left.now) (sym c.min-total.ensures) next, first_of (search rules, grind (arith, common_steps)))

pub returns-clause-some : goal.returns-clause-some
returns-clause-some c =
    let none : length c.groups.rest.now ≡ 0 = first_of (search rules, grind (arith, common_steps)) in
    finish c.args.numeric c.args.text.now c.groups.total c.groups.rest.now c.groups.invariant.0 none
