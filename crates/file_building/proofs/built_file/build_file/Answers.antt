use Rattle.std.proofs.Common.{IsTrue, sym, subst, ◌∙◌}
use Rattle.record_layout.specs.Schema.{Schema}
use Rattle.indexed_file.specs.File.{empty_file}
use Rattle.file_building.specs.Building.{IsBuildingFile, EndsBuilding, IsBuiltFor}
use Rattle.file_building.specs.BuiltFile.{EndsPushes, EndsBuiltFile}
use Rattle.file_building.specs.declared.built_file.BuiltFile.TheVariants.{File as AFile}
use Rattle.file_building.specs.Written.{AreAccepted}
use Rattle.file_building.proofs.StepLemmas.{StepLaws, cause_since}
use Rattle.file_building.proofs.built_file.build_file.Goals as goal

pub returns-in-Ok-File-clause-builds : goal.returns-in-Ok-File-clause-builds
returns-in-Ok-File-clause-builds g c =
    let given = g.R.RecordSource.given c.push_records.new.records in
    let start = c.args.pages.now in
    let mid = c.push_records.new.pages in
    let late = c.finish.new.pages in
    let builder = c.push_records.new.builder in
    let pushes = c.in-Ok-Done.ensures.pushes in
    let ends = c.in-Ok-File.ensures in
    let same = pushes.schema_is ∙ c.new-builder.ensures.schema_is in
    let late_live = (g.P.Pages.shown.state late).live in
    let is_sound = IsTrue (g.P.Pages.shown.state late).is_sound in
    let opened = subst (IsBuiltFor builder.schema _) c.in-Ok-File.field-0-is ends.made in
    record {
      built = λ honest sound none free.
          let hb = g.met.P.Pages.writes_honestly mid late ends.keeps.step honest in
          let live = (g.P.Pages.shown.state start).live in
          let begun = subst (IsBuildingFile c.new-builder.result live) (sym c.requires.begun) (c.new-builder.ensures.begun live none) in
          let put = subst (EndsPushes builder given (g.P.Pages.shown.state mid).live (IsTrue (g.P.Pages.shown.state mid).is_sound)) c.in-Ok-Done.field-0-is (pushes.pushed hb sound begun).answer in
          let made = subst (EndsBuilding builder.schema given late_live is_sound) c.in-Ok-File.field-0-is (ends.finished honest put.1 given put.0 free).answer in
          record {
            answer = subst (λ (schema : Schema). EndsBuiltFile schema given late_live is_sound (AFile c.in-Ok-File.file)) same (put.0.rising, made.0, made.1, made.2);
            no_damage = tt;
          };
      made = record { schema_is = opened.schema_is ∙ same; shaped = opened.shaped; unbroken = opened.unbroken };
      keeps = record { cause = tt; step = g.met.P.Pages.writes_on start mid late pushes.keeps.step ends.keeps.step };
    }

pub returns-in-Ok-Clash-clause-builds : goal.returns-in-Ok-Clash-clause-builds
returns-in-Ok-Clash-clause-builds g c =
    let given = g.R.RecordSource.given c.push_records.new.records in
    let start = c.args.pages.now in
    let mid = c.push_records.new.pages in
    let late = c.finish.new.pages in
    let builder = c.push_records.new.builder in
    let pushes = c.in-Ok-Done.ensures.pushes in
    let ends = c.in-Ok-Clash.ensures in
    let same = pushes.schema_is ∙ c.new-builder.ensures.schema_is in
    record {
      built = λ honest sound none free.
          let hb = g.met.P.Pages.writes_honestly mid late ends.keeps.step honest in
          let live = (g.P.Pages.shown.state start).live in
          let begun = subst (IsBuildingFile c.new-builder.result live) (sym c.requires.begun) (c.new-builder.ensures.begun live none) in
          let put = subst (EndsPushes builder given (g.P.Pages.shown.state mid).live (IsTrue (g.P.Pages.shown.state mid).is_sound)) c.in-Ok-Done.field-0-is (pushes.pushed hb sound begun).answer in
          let clashed = subst (EndsBuilding builder.schema given (g.P.Pages.shown.state late).live (IsTrue (g.P.Pages.shown.state late).is_sound)) c.in-Ok-Clash.field-0-is (ends.finished honest put.1 given put.0 free).answer in
          record {
            answer = subst (λ (schema : Schema). AreAccepted schema given empty_file → ⊥) same clashed;
            no_damage = tt;
          };
      made = tt;
      keeps = record { cause = tt; step = g.met.P.Pages.writes_on start mid late pushes.keeps.step ends.keeps.step };
    }

pub returns-in-Err-finish-clause-builds : goal.returns-in-Err-finish-clause-builds
returns-in-Err-finish-clause-builds g c =
    let laws : StepLaws g.P.Pages.shown = record { nothing = g.met.P.Pages.writes_nothing; on = g.met.P.Pages.writes_on; failed_before = g.met.P.Pages.failed_before; failed_after = g.met.P.Pages.failed_after } in
    let given = g.R.RecordSource.given c.push_records.new.records in
    let start = c.args.pages.now in
    let mid = c.push_records.new.pages in
    let late = c.finish.new.pages in
    let builder = c.push_records.new.builder in
    let pushes = c.in-Ok-Done.ensures.pushes in
    let ends = c.in-Err-finish.ensures in
    record {
      built = λ honest sound none free.
          let hb = g.met.P.Pages.writes_honestly mid late ends.keeps.step honest in
          let live = (g.P.Pages.shown.state start).live in
          let begun = subst (IsBuildingFile c.new-builder.result live) (sym c.requires.begun) (c.new-builder.ensures.begun live none) in
          let put = subst (EndsPushes builder given (g.P.Pages.shown.state mid).live (IsTrue (g.P.Pages.shown.state mid).is_sound)) c.in-Ok-Done.field-0-is (pushes.pushed hb sound begun).answer in
          record { answer = tt; no_damage = (ends.finished honest put.1 given put.0 free).no_damage };
      made = tt;
      keeps = record {
        cause = cause_since g.P.Pages.shown laws start mid late pushes.keeps.step c.in-Err-finish.fault ends.keeps.cause;
        step = g.met.P.Pages.writes_on start mid late pushes.keeps.step ends.keeps.step;
      };
    }
