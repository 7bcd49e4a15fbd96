use Rattle.std.proofs.Common.{sym, subst, ◌∙◌, false, arith}
use Rattle.pages.specs.PageMap.{PageMap}
use Rattle.open_file.specs.Stands.{Stands}
use Rattle.open_file.specs.Fields.{has_broken}
use Rattle.file_building.specs.CopiedOpening.{ArePartsLike}
use Rattle.file_building.specs.Opening.{StandBehindHeader}
use Rattle.file_building.proofs.StepLemmas.{StepLaws}
use Rattle.file_building.proofs.CopiedStepLemmas.{copy_handed, copy_fails, copy_no_answer, copy_cause, nothing_true}
use Rattle.file_building.proofs.FaultLemmas.{damage_cause, whole}
use Rattle.file_building.proofs.copied_pages.copy_file.Goals as goal

pub returns-in_err-rows : goal.returns-in_err-rows
returns-in_err-rows g c =
    let keeps = c.in_err-rows.ensures.keeps in
    record {
      copied = λ hf ht sound file stands free no_header. copy_fails _ _ _ c.from_residual.ensures.1 (c.in_err-rows.ensures.copies.copied hf ht sound file stands free).no_damage;
      made = copy_no_answer _ _ _ c.from_residual.ensures.1;
      broken = whole _ (sym c.is_broken.ensures ∙ c.if-is_broken.false);
      keeps = record { cause = copy_handed _ _ _ c.from_residual.ensures.1 keeps.cause; reads = keeps.reads; writes = keeps.writes };
    }

pub returns-in_err-alternates : goal.returns-in_err-alternates
returns-in_err-alternates g c =
    let laws : StepLaws g.Q.Pages.shown = record { nothing = g.met.Q.Pages.writes_nothing; on = g.met.Q.Pages.writes_on; failed_before = g.met.Q.Pages.failed_before; failed_after = g.met.Q.Pages.failed_after } in
    let source = c.args.source.now in
    let start = c.args.from.now in
    let mid = c.copy_rows_by.new.from in
    let late = c.copy_alternates.new.from in
    let x = c.args.to.now in
    let y = c.copy_rows_by.new.to in
    let z = c.copy_alternates.new.to in
    let first = c.in_ok-rows.ensures.keeps in
    let second = c.in_err-alternates.ensures.keeps in
    record {
      copied = λ hf ht sound file stands free no_header.
          let hb = g.met.P.Pages.writes_honestly mid late (g.met.P.Pages.reads_writes mid late second.reads) hf in
          let tb = g.met.Q.Pages.writes_honestly y z second.writes ht in
          let made = (c.in_ok-rows.ensures.copies.copied hb tb sound file stands free).answer in
          let same = g.met.P.Pages.reads_live start mid first.reads hb in
          let there = subst (λ (m : PageMap). Stands source m file) (sym same) stands in
          copy_fails _ _ _ c.from_residual-in_err-alternates.ensures.1 (c.in_err-alternates.ensures.copies.copied hf ht made.2 file there c.in_ok-rows.rows.heap c.in_ok-rows.rows.prime made.0).no_damage;
      made = copy_no_answer _ _ _ c.from_residual-in_err-alternates.ensures.1;
      broken = whole _ (sym c.is_broken.ensures ∙ c.if-is_broken.false);
      keeps = record {
        cause = copy_handed _ _ _ c.from_residual-in_err-alternates.ensures.1
            (copy_cause g.P.Pages.shown g.Q.Pages.shown (λ a b d r f. g.met.P.Pages.failed_after a b d (g.met.P.Pages.reads_writes a b r) f) laws false (has_broken source) (nothing_true (has_broken source))
            start mid late x y z first.reads first.writes _ second.cause);
        reads = g.met.P.Pages.reads_on start mid late first.reads second.reads;
        writes = g.met.Q.Pages.writes_on x y z first.writes second.writes;
      };
    }

pub returns-in-Ok : goal.returns-in-Ok
returns-in-Ok g c =
    let source = c.args.source.now in
    let start = c.args.from.now in
    let mid = c.copy_rows_by.new.from in
    let late = c.copy_alternates.new.from in
    let x = c.args.to.now in
    let y = c.copy_rows_by.new.to in
    let z = c.copy_alternates.new.to in
    let first = c.in_ok-rows.ensures.keeps in
    let second = c.in_ok-alternates.ensures.keeps in
    let rows = c.in_ok-rows.rows in
    record {
      copied = λ hf ht sound file stands free no_header.
          let hb = g.met.P.Pages.writes_honestly mid late (g.met.P.Pages.reads_writes mid late second.reads) hf in
          let tb = g.met.Q.Pages.writes_honestly y z second.writes ht in
          let made = (c.in_ok-rows.ensures.copies.copied hb tb sound file stands free).answer in
          let same = g.met.P.Pages.reads_live start mid first.reads hb in
          let there = subst (λ (m : PageMap). Stands source m file) (sym same) stands in
          let rest = (c.in_ok-alternates.ensures.copies.copied hf ht made.2 file there rows.heap rows.prime made.0).answer in
          let like : ArePartsLike source rows.heap rows.prime c.in_ok-alternates.alternates.items = record { slots_are = made.1; width_is = c.in_ok-rows.ensures.copies.width; alike = c.in_ok-alternates.ensures.copies.alike } in
          let behind : StandBehindHeader (g.Q.Pages.shown.state z).live = record { within = λ n some. let low = c.count-pages.ensures.low n some in let top = c.count-pages.type_inv in omega (arith, low, top); no_header = no_header } in
          record { answer = ((c.in-Ok.ensures.stands (g.P.Pages.shown.state start).live (g.Q.Pages.shown.state z).live file stands rest.0 like behind).answer, rest.1); no_damage = tt };
      made = c.in-Ok.ensures.made;
      broken = whole _ (sym c.is_broken.ensures ∙ c.if-is_broken.false);
      keeps = record {
        cause = tt;
        reads = g.met.P.Pages.reads_on start mid late first.reads second.reads;
        writes = g.met.Q.Pages.writes_on x y z first.writes second.writes;
      };
    }

pub returns-in-Err : goal.returns-in-Err
returns-in-Err g c =
    let source = c.args.source.now in
    let start = c.args.from.now in
    let mid = c.copy_rows_by.new.from in
    let late = c.copy_alternates.new.from in
    let x = c.args.to.now in
    let y = c.copy_rows_by.new.to in
    let z = c.copy_alternates.new.to in
    let first = c.in_ok-rows.ensures.keeps in
    let second = c.in_ok-alternates.ensures.keeps in
    let rows = c.in_ok-rows.rows in
    record {
      copied = λ hf ht sound file stands free no_header.
          let hb = g.met.P.Pages.writes_honestly mid late (g.met.P.Pages.reads_writes mid late second.reads) hf in
          let tb = g.met.Q.Pages.writes_honestly y z second.writes ht in
          let made = (c.in_ok-rows.ensures.copies.copied hb tb sound file stands free).answer in
          let same = g.met.P.Pages.reads_live start mid first.reads hb in
          let there = subst (λ (m : PageMap). Stands source m file) (sym same) stands in
          let rest = (c.in_ok-alternates.ensures.copies.copied hf ht made.2 file there rows.heap rows.prime made.0).answer in
          let like : ArePartsLike source rows.heap rows.prime c.in_ok-alternates.alternates.items = record { slots_are = made.1; width_is = c.in_ok-rows.ensures.copies.width; alike = c.in_ok-alternates.ensures.copies.alike } in
          let behind : StandBehindHeader (g.Q.Pages.shown.state z).live = record { within = λ n some. let low = c.count-pages.ensures.low n some in let top = c.count-pages.type_inv in omega (arith, low, top); no_header = no_header } in
          record { answer = tt; no_damage = (c.in-Err.ensures.stands (g.P.Pages.shown.state start).live (g.Q.Pages.shown.state z).live file stands rest.0 like behind).no_damage };
      made = tt;
      broken = whole _ (sym c.is_broken.ensures ∙ c.if-is_broken.false);
      keeps = record {
        cause = damage_cause _ _ _ c.in-Err.ensures.damage;
        reads = g.met.P.Pages.reads_on start mid late first.reads second.reads;
        writes = g.met.Q.Pages.writes_on x y z first.writes second.writes;
      };
    }
