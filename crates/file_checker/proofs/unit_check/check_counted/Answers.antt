use Rattle.std.proofs.Common.{refl, sym, subst}
use Rattle.page_store.specs.DeviceFile.{page_of_bytes}
use Rattle.pages.specs.Refused.{RefusesRightly}
use Rattle.pages.specs.Told.{TellsOfFault}
use Rattle.file_checker.specs.declared.verdict.Reason.{Reason}
use Rattle.file_checker.specs.Later.{IsMetIn}
use Rattle.file_checker.specs.Parts.{PagesStand}
use Rattle.file_checker.specs.Sound.{HoldsAt}
use Rattle.file_checker.proofs.SoundLemmas.{is_sound, shown, unsound_by_pages}
use Rattle.file_checker.proofs.unit_check.check_counted.Goals as goal

pub returns-in-Ok : goal.returns-in-Ok
returns-in-Ok g c = λ list has bytes all.
    is_sound bytes (page_of_bytes bytes 0) c.args.header.now refl all.accepted.first list all.pages all.many (c.in-Ok.ensures.checks list has).stand

pub returns-in-Err-At : goal.returns-in-Err-At
returns-in-Err-At g c = λ list has bytes all.
    let header = c.args.header.now in
    let checks = c.in-Err-At.ensures.checks list has in
    let met = subst (TellsOfFault (IsMetIn header list)) c.in-Err-At.field-0-is checks.stop in
    let never = subst (RefusesRightly (PagesStand header list)) c.in-Err-At.field-0-is checks.refused in (
      subst (λ (r : Reason). HoldsAt bytes r c.in-Err-At.place) (sym c.of_damage.ensures) (shown bytes header list c.in-Err-At.damage c.in-Err-At.place all met),
      unsound_by_pages bytes (page_of_bytes bytes 0) header refl all.accepted.first list all.pages all.many never,
    )
