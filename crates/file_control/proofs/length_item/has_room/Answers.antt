use Rattle.std.proofs.Common.{◌≡◌, ◌≤◌, arith}
use Rattle.std.proofs.lemmas.Bool.Decides.{nat_tests}
use Rattle.file_control.specs.Description.{digit_count}
use Rattle.file_control.proofs.LengthItemLemmas.{one_count}
use Rattle.file_control.proofs.length_item.has_room.Goals as goal

pub returns-in-Some-clause-no : goal.returns-in-Some-clause-no
returns-in-Some-clause-no c = λ less h.
    let same : h.0 ≡ c.in-Some.digits = one_count c.args.item.now.picture h.0 c.in-Some.digits h.1 c.in-Some.ensures.some in
    let enough : digit_count c.args.greatest ≤ h.0 = h.2 in
    let count : c.digit_count.result ≡ digit_count c.args.greatest = c.digit_count.ensures in
    grind (arith, nat_tests)

pub returns-in-None-clause-no : goal.returns-in-None-clause-no
returns-in-None-clause-no c = λ less h. c.in-None.ensures.none h.0 h.1
