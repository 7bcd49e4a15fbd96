use Rattle.std.proofs.Common.{◌≤◌, ℕ, List, length, sym, subst, ◌∙◌}
use Rattle.file_building.specs.Building.{IsBuildingFile, EndsPush}
use Rattle.file_building.specs.Written.{RecordsRise}
use Rattle.file_building.proofs.StepLemmas.{StepLaws, cause_since}
use Rattle.file_building.proofs.SourceGivenLemmas.{given_length, given_by}
use Rattle.file_building.proofs.built_file.push_records.Goals as goal

pub push-requires : goal.push-requires
push-requires g c =
    let inv = c.loop.invariant in
    let schema = c.loop.builder.schema in
    let bytes = c.latest_record.result.now in
    let schema_is = g.met.R.RecordSource.reads_for c.args.records.now c.loop.records inv.reads ∙ c.requires.schema ∙ sym inv.schema_is in
    let long = given_length schema (g.R.RecordSource.schema c.loop.records) (g.R.RecordSource.latest c.next.new.self) schema_is c.if-not-next.ensures.gives.is_long in
    record {
      target = record {
        ready = g.met.P.Pages.writes_ready c.args.pages.now c.loop.pages inv.writes c.requires.target.ready;
        «open» = g.met.P.Pages.writes_changing c.args.pages.now c.loop.pages inv.writes c.requires.target.open;
      };
      least = subst (λ (b : List ℕ). schema.least ≤ length b) (sym c.latest_record.ensures) long.0;
      greatest = subst (λ (b : List ℕ). length b ≤ schema.greatest) (sym c.latest_record.ensures) long.1;
    }

pub returns-in-Ok-OutOfOrder-clause-pushes : goal.returns-in-Ok-OutOfOrder-clause-pushes
returns-in-Ok-OutOfOrder-clause-pushes g c =
    let inv = c.loop.invariant in
    let keeps = c.in-Ok-OutOfOrder.ensures.keeps in
    let given = g.R.RecordSource.given c.loop.records in
    let bytes = c.latest_record.result.now in
    let all = given_by g.R.RecordSource.schema g.R.RecordSource.given g.R.RecordSource.latest g.R.RecordSource.has_ended c.loop.records c.next.new.self bytes c.if-not-next.ensures.gives c.latest_record.ensures in
    record {
      pushed = λ honest sound building.
          let hb = g.met.P.Pages.writes_honestly c.loop.pages c.push.new.pages keeps.step honest in
          let had = inv.pushed hb sound building in
          let ends = subst (EndsPush c.push.new.self given bytes (g.P.Pages.shown.state c.push.new.pages).live) c.in-Ok-OutOfOrder.field-0-is (c.in-Ok-OutOfOrder.ensures.pushed honest had.1 given had.0).answer.0 in
          record {
            answer = subst (λ (l : List (List ℕ)). RecordsRise c.push.new.self.schema l → ⊥) all ends.1;
            no_damage = tt;
          };
      schema_is = c.push.ensures.schema_is ∙ inv.schema_is;
      keeps = record { cause = tt; step = g.met.P.Pages.writes_on c.args.pages.now c.loop.pages c.push.new.pages inv.writes keeps.step };
    }

pub returns-in-Ok-OutOfOrder-clause-reads : goal.returns-in-Ok-OutOfOrder-clause-reads
returns-in-Ok-OutOfOrder-clause-reads g c =
    g.met.R.RecordSource.reads_further c.args.records.now c.loop.records c.next.new.self c.loop.invariant.reads c.next.ensures.goes

pub returns-in-Err-clause-pushes : goal.returns-in-Err-clause-pushes
returns-in-Err-clause-pushes g c =
    let laws : StepLaws g.P.Pages.shown = record { nothing = g.met.P.Pages.writes_nothing; on = g.met.P.Pages.writes_on; failed_before = g.met.P.Pages.failed_before; failed_after = g.met.P.Pages.failed_after } in
    let inv = c.loop.invariant in
    let keeps = c.in-Err.ensures.keeps in
    record {
      pushed = λ honest sound building.
          let hb = g.met.P.Pages.writes_honestly c.loop.pages c.push.new.pages keeps.step honest in
          let had = inv.pushed hb sound building in
          record { answer = tt; no_damage = (c.in-Err.ensures.pushed honest had.1 (g.R.RecordSource.given c.loop.records) had.0).no_damage };
      schema_is = c.push.ensures.schema_is ∙ inv.schema_is;
      keeps = record {
        cause = cause_since g.P.Pages.shown laws c.args.pages.now c.loop.pages c.push.new.pages inv.writes c.in-Err.fault keeps.cause;
        step = g.met.P.Pages.writes_on c.args.pages.now c.loop.pages c.push.new.pages inv.writes keeps.step;
      };
    }

pub returns-in-Err-clause-reads : goal.returns-in-Err-clause-reads
returns-in-Err-clause-reads g c =
    g.met.R.RecordSource.reads_further c.args.records.now c.loop.records c.next.new.self c.loop.invariant.reads c.next.ensures.goes

pub loop-preserved : goal.loop-preserved
loop-preserved g c =
    let inv = c.loop.invariant in
    let keeps = c.push.ensures.keeps in
    let given = g.R.RecordSource.given c.loop.records in
    let bytes = c.latest_record.result.now in
    let all = given_by g.R.RecordSource.schema g.R.RecordSource.given g.R.RecordSource.latest g.R.RecordSource.has_ended c.loop.records c.next.new.self bytes c.if-not-next.ensures.gives c.latest_record.ensures in
    record {
      writes = g.met.P.Pages.writes_on c.args.pages.now c.loop.pages c.push.new.pages inv.writes keeps.step;
      reads = g.met.R.RecordSource.reads_further c.args.records.now c.loop.records c.next.new.self inv.reads c.next.ensures.goes;
      schema_is = c.push.ensures.schema_is ∙ inv.schema_is;
      pushed = λ honest sound building.
          let hb = g.met.P.Pages.writes_honestly c.loop.pages c.push.new.pages keeps.step honest in
          let had = inv.pushed hb sound building in
          let ends = (c.in-Ok-Done.ensures.pushed honest had.1 given had.0).answer in
          let more = subst (EndsPush c.push.new.self given bytes (g.P.Pages.shown.state c.push.new.pages).live) c.in-Ok-Done.field-0-is ends.0 in
          (subst (IsBuildingFile c.push.new.self (g.P.Pages.shown.state c.push.new.pages).live) all more, ends.1);
    }
