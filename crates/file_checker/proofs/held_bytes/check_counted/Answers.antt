use Rattle.std.proofs.Common.{refl, sym, subst}
use Rattle.page_store.specs.DeviceFile.{page_of_bytes}
use Rattle.pages.specs.Refused.{RefusesRightly}
use Rattle.pages.specs.Told.{TellsOfFault}
use Rattle.file_checker.specs.declared.verdict.Reason.{Reason}
use Rattle.file_checker.specs.Later.{IsMetIn}
use Rattle.file_checker.specs.Parts.{PagesStand}
use Rattle.file_checker.specs.Sound.{HoldsAt}
use Rattle.file_checker.proofs.SoundLemmas.{is_sound, shown, unsound_by_pages}
use Rattle.file_checker.proofs.held_bytes.check_counted.Goals as goal

pub returns-in-Ok : goal.returns-in-Ok
returns-in-Ok c bytes has = is_sound bytes (page_of_bytes bytes 0) c.args.header.now refl has.accepted.first c.args.pages.now has.pages has.many c.in-Ok.ensures.stand

pub returns-in-Err-At : goal.returns-in-Err-At
returns-in-Err-At c bytes has =
    let header = c.args.header.now in
    let pages = c.args.pages.now in
    let met = subst (TellsOfFault (IsMetIn header pages)) c.in-Err-At.field-0-is c.in-Err-At.ensures.stop in
    let never = subst (RefusesRightly (PagesStand header pages)) c.in-Err-At.field-0-is c.in-Err-At.ensures.refused in (
      subst (λ (r : Reason). HoldsAt bytes r c.in-Err-At.place) (sym c.of_damage.ensures) (shown bytes header pages c.in-Err-At.damage c.in-Err-At.place has met),
      unsound_by_pages bytes (page_of_bytes bytes 0) header refl has.accepted.first pages has.pages has.many never,
    )
