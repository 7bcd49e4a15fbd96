use Rattle.std.proofs.Common.{rules, ◌≡◌, [], ◌∷◌, Some, refl, sym, subst}
use Rattle.file_checker.specs.Bytes.{AreRead}
use Rattle.file_checker.specs.Parts.{PagesStand}
use Rattle.pages.specs.Refused.{RefusesRightly}
use Rattle.pages.specs.Told.{TellsOfFault}
use Rattle.file_checker.specs.declared.verdict.Reason.{Reason}
use Rattle.pages.specs.declared.fault_place.FaultPlace.TheVariants.{File as TheFile}
use Rattle.file_checker.specs.declared.verdict.Reason.TheVariants.{Short}
use Rattle.file_checker.specs.declared.verdict.Verdict.TheVariants.{Unsound}
use Rattle.file_checker.specs.Later.{IsMetIn}
use Rattle.file_checker.specs.Sound.{CheckGivesUp, HasPages, HoldsAt}
use Rattle.file_checker.specs.declared.verdict.CheckFault.TheVariants.{Memory}
use Rattle.file_checker.proofs.ReadLemmas.{first_pages}
use Rattle.file_checker.proofs.SoundLemmas.{no_verdict, first_is, first_read_alone, too_few, all_pages, is_sound, shown, not_short, gives_up, one_given, all_given, pages_read, unsound_by_pages}
use Rattle.file_checker.proofs.check.check_accepted.Goals as goal

pub returns-then-not-branch : goal.returns-then-not-branch
returns-then-not-branch g c = record {
  right = λ bytes came.
      let items : c.push_page.new.pages.items ≡ c.args.first.now ∷ [] = search rules in
      let alone = first_read_alone bytes c.args.first.now (g.R.Read.remaining c.args.reader.now) came c.told-first in
      too_few bytes c.args.first.now c.args.header.now (first_is bytes c.args.first.now (g.R.Read.remaining c.args.reader.now) came c.told-first) c.requires
      (c.in_ok-read_pages.ensures.short c.if-not-branch.true (Some bytes) (subst (AreRead (Some bytes) (g.R.Read.remaining c.args.reader.now)) (sym items) alone));
  read = λ bytes came. record { whole = λ other. absurd (other refl); short = λ is. c.in_ok-read_pages.ensures.end c.if-not-branch.true };
  fault = λ bytes came. tt;
}

pub returns-in-Ok : goal.returns-in-Ok
returns-in-Ok g c =
    let items : c.push_page.new.pages.items ≡ c.args.first.now ∷ [] = search rules in
    let many = c.in_ok-read_pages.ensures.many c.if-not-branch.false in
    record {
      right = λ bytes came.
          let alone = first_read_alone bytes c.args.first.now (g.R.Read.remaining c.args.reader.now) came c.told-first in
          let all = c.in_ok-read_pages.ensures.read c.if-not-branch.false (Some bytes) (subst (AreRead (Some bytes) (g.R.Read.remaining c.args.reader.now)) (sym items) alone) in
          is_sound bytes c.args.first.now c.args.header.now (first_is bytes c.args.first.now (g.R.Read.remaining c.args.reader.now) came c.told-first) c.requires c.read_pages.new.pages.items
          (first_pages bytes (g.R.Read.remaining c.read_pages.new.reader) c.read_pages.new.pages.items all) many
          (subst (PagesStand c.args.header.now) c.deref.ensures.value c.in-Ok.ensures.stand);
      read = λ bytes came.
          let alone = first_read_alone bytes c.args.first.now (g.R.Read.remaining c.args.reader.now) came c.told-first in
          let all = c.in_ok-read_pages.ensures.read c.if-not-branch.false (Some bytes) (subst (AreRead (Some bytes) (g.R.Read.remaining c.args.reader.now)) (sym items) alone) in
          record {
            whole = λ other. pages_read bytes c.args.first.now c.args.header.now (first_is bytes c.args.first.now (g.R.Read.remaining c.args.reader.now) came c.told-first) c.requires
                (g.R.Read.remaining c.read_pages.new.reader) c.read_pages.new.pages.items all many;
            short = λ is. cc is;
          };
      fault = λ bytes came. tt;
    }

pub returns-in-Err-At : goal.returns-in-Err-At
returns-in-Err-At g c =
    let items : c.push_page.new.pages.items ≡ c.args.first.now ∷ [] = search rules in
    let many = c.in_ok-read_pages.ensures.many c.if-not-branch.false in
    let met = subst (TellsOfFault (IsMetIn c.args.header.now c.deref.result.now)) c.in-Err-At.field-0-is c.in-Err-At.ensures.stop in
    let never = subst (RefusesRightly (PagesStand c.args.header.now c.deref.result.now)) c.in-Err-At.field-0-is c.in-Err-At.ensures.refused in
    record {
      right = λ bytes came.
          let alone = first_read_alone bytes c.args.first.now (g.R.Read.remaining c.args.reader.now) came c.told-first in
          let all = c.in_ok-read_pages.ensures.read c.if-not-branch.false (Some bytes) (subst (AreRead (Some bytes) (g.R.Read.remaining c.args.reader.now)) (sym items) alone) in
          let page = first_is bytes c.args.first.now (g.R.Read.remaining c.args.reader.now) came c.told-first in
          let pages = first_pages bytes (g.R.Read.remaining c.read_pages.new.reader) c.read_pages.new.pages.items all in (
            subst (λ (r : Reason). HoldsAt bytes r c.in-Err-At.place) (sym c.of_damage.ensures)
                (shown bytes c.args.header.now c.deref.result.now c.in-Err-At.damage c.in-Err-At.place
                (subst (HasPages bytes c.args.header.now) (sym c.deref.ensures.value)
                (all_pages bytes c.args.first.now c.args.header.now page c.requires c.read_pages.new.pages.items pages many)) met),
            unsound_by_pages bytes c.args.first.now c.args.header.now page c.requires c.read_pages.new.pages.items pages many
                (λ stand. never (subst (PagesStand c.args.header.now) (sym c.deref.ensures.value) stand)),
          );
      read = λ bytes came.
          let alone = first_read_alone bytes c.args.first.now (g.R.Read.remaining c.args.reader.now) came c.told-first in
          let all = c.in_ok-read_pages.ensures.read c.if-not-branch.false (Some bytes) (subst (AreRead (Some bytes) (g.R.Read.remaining c.args.reader.now)) (sym items) alone) in
          record {
            whole = λ other. pages_read bytes c.args.first.now c.args.header.now (first_is bytes c.args.first.now (g.R.Read.remaining c.args.reader.now) came c.told-first) c.requires
                (g.R.Read.remaining c.read_pages.new.reader) c.read_pages.new.pages.items all many;
            short = λ is. absurd (not_short c.in-Err-At.damage c.in-Err-At.place (subst (λ (r : Reason). Unsound r c.in-Err-At.place ≡ Unsound Short TheFile) c.of_damage.ensures is));
          };
      fault = λ bytes came. tt;
    }

pub returns-in_err-push_page : goal.returns-in_err-push_page
returns-in_err-push_page g c =
    let end = g.R.Read.remaining c.args.reader.now in
    no_verdict c.from_residual.result _ c.from_residual.ensures.1 (λ bytes came.
    let page = first_is bytes c.args.first.now end came c.told-first in
    subst (CheckGivesUp bytes end) (sym c.in_err-push_page.ensures.memory)
    (gives_up bytes c.args.first.now c.args.header.now page c.requires end Memory (one_given bytes c.args.first.now c.args.header.now page c.requires end came c.told-first)))

pub returns-in_err-read_pages : goal.returns-in_err-read_pages
returns-in_err-read_pages g c =
    let items : c.push_page.new.pages.items ≡ c.args.first.now ∷ [] = search rules in
    let end = g.R.Read.remaining c.read_pages.new.reader in
    no_verdict c.from_residual-in_err-read_pages.result _ c.from_residual-in_err-read_pages.ensures.1 (λ bytes came.
    let alone = first_read_alone bytes c.args.first.now (g.R.Read.remaining c.args.reader.now) came c.told-first in
    gives_up bytes c.args.first.now c.args.header.now (first_is bytes c.args.first.now (g.R.Read.remaining c.args.reader.now) came c.told-first) c.requires end _
    (c.in_err-read_pages.ensures.fault (Some bytes) (subst (AreRead (Some bytes) (g.R.Read.remaining c.args.reader.now)) (sym items) alone)))

pub returns : goal.returns
returns g c =
    let items : c.push_page.new.pages.items ≡ c.args.first.now ∷ [] = search rules in
    let many = c.in_ok-read_pages.ensures.many c.if-not-branch.false in
    let end = g.R.Read.remaining c.read_pages.new.reader in
    record {
      right = λ bytes came. tt;
      read = λ bytes came. tt;
      fault = λ bytes came.
          let page = first_is bytes c.args.first.now (g.R.Read.remaining c.args.reader.now) came c.told-first in
          let alone = first_read_alone bytes c.args.first.now (g.R.Read.remaining c.args.reader.now) came c.told-first in
          let all = c.in_ok-read_pages.ensures.read c.if-not-branch.false (Some bytes) (subst (AreRead (Some bytes) (g.R.Read.remaining c.args.reader.now)) (sym items) alone) in
          gives_up bytes c.args.first.now c.args.header.now page c.requires end Memory (all_given bytes c.args.first.now c.args.header.now page c.requires end c.read_pages.new.pages.items all many);
    }
