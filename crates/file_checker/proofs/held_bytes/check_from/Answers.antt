use Rattle.std.proofs.Common.{◌<◌, ◌*◌, ℕ, length, inr, refl, sym, subst, arith}
use Rattle.std.proofs.lemmas.Result.{IfOk-weaker}
use Rattle.open_file.specs.FirstPage.{IsFirstPage}
use Rattle.file_checker.specs.Sound.{IsRight, IsRightOfPages, IsShort}
use Rattle.file_checker.proofs.SoundLemmas.{unsound_by_length, counted_is}
use Rattle.file_checker.proofs.HeldLemmas.{has_counted}
use Rattle.file_checker.proofs.held_bytes.check_from.Goals as goal

pub returns-in-Some-front_of : goal.returns-in-Some-front_of
returns-in-Some-front_of c =
    let bytes = c.args.bytes.now in
    let header = c.in-Some.header in
    let counted = c.in-Some-front_of.counted.now in
    let is = subst (IsFirstPage header) (sym c.requires.first) c.in-Some.ensures.accepted in
    IfOk-weaker c.check_counted.result (IsRightOfPages header counted) (IsRight bytes)
    (λ finding right. right bytes (has_counted bytes header c.args.pages.now counted is c.requires.pages c.in-Some-front_of.ensures.some)) c.check_counted.ensures

pub returns-in-None-front_of : goal.returns-in-None-front_of
returns-in-None-front_of c =
    let bytes = c.args.bytes.now in
    let header = c.in-Some.header in
    let few = c.in-None-front_of.ensures.none refl in
    let all = c.requires.pages.all in
    let short : IsShort bytes = inr (subst (λ (n : ℕ). length bytes < 4096 * n) (sym (counted_is bytes c.args.first.now header c.requires.first c.in-Some.ensures.accepted)) (omega (arith, few, all))) in
    ((refl, short), unsound_by_length bytes short)
