use Rattle.std.proofs.Common.{◌≡◌, true, false, [], map, Option, IsTrue, refl, sym, subst, ◌∙◌, arith}
use Rattle.std.specs.Option.{IfSome}
use Rattle.pages.specs.PageMap.{PageMap}
use Rattle.tree_search.proofs.AnswerLemmas.{fails}
use Rattle.tree_building.specs.IndexBuilding.{AltBuildsOn, KeepsAlt}
use Rattle.open_file.specs.InOrder.{alt_entry}
use Rattle.file_building.specs.declared.batch.Batch.{Batch}
use Rattle.file_building.specs.Batches.{HasTakenEntries}
use Rattle.file_building.specs.Batching.{EndsPushingHeld}
use Rattle.file_building.specs.Held.{held_entries}
use Rattle.file_building.specs.Rereading.{EndsReading}
use Rattle.file_building.specs.Written.{rows_of}
use Rattle.file_building.proofs.BatchLemmas.{tied_seen}
use Rattle.file_building.proofs.BatchingLemmas.{stands_in, none_pushed, pushed_more, pushed_last, pushed_all, entries_many}
use Rattle.file_building.proofs.BuiltLemmas.{begun}
use Rattle.file_building.proofs.RankLemmas.{untied_entries}
use Rattle.file_building.proofs.RereadLemmas.{held_since}
use Rattle.file_building.proofs.StepLemmas.{StepLaws, cause_since, handed_on}
use Rattle.file_building.proofs.batching.push_batches.Goals as goal

pub loop-init : goal.loop-init
loop-init g c =
    let schema = c.args.schema.now in
    let start = c.args.pages.now in
    let live = (g.P.Pages.shown.state start).live in
    record {
      writes = g.met.P.Pages.writes_nothing start;
      same = record { key_is = refl; width_is = refl; prime_is = refl };
      pushed = λ honest sound records long stamps count alternates stand building. (
        none_pushed schema c.args.k records live live c.args.builder.now c.blank-above.result c.requires.schema c.requires.key long c.blank-above.ensures.value (begun live c.args.builder.now building),
        sound,
      );
    }

pub returns-in_err-batch-clause-pushes : goal.returns-in_err-batch-clause-pushes
returns-in_err-batch-clause-pushes g c =
    let schema = c.args.schema.now in
    let k = c.args.k in
    let parts = c.args.parts.now in
    let inv = c.loop.invariant in
    let start = c.args.pages.now in
    let mid = c.loop.pages in
    let early = c.read_batch.new.pages in
    let live = (g.P.Pages.shown.state start).live in
    let reads = g.met.P.Pages.reads_writes mid early c.read_batch.ensures.reads in
    record {
      pushed = λ honest sound records long stamps count alternates stand building.
          let hm = g.met.P.Pages.writes_honestly mid early reads honest in
          let had = inv.pushed hm sound records long stamps count alternates stand building in
          let standing = stands_in schema parts alternates live (g.P.Pages.shown.state mid).live (rows_of schema records) had.0.on.own_now stand had.0.on.changes in
          fails _ _ _ c.from_residual.ensures.1 (c.in_err-batch.ensures.read honest records long stamps count standing).no_damage;
      same = inv.same;
    }

pub returns-in_err-batch-clause-keeps : goal.returns-in_err-batch-clause-keeps
returns-in_err-batch-clause-keeps g c =
    let laws : StepLaws g.P.Pages.shown = record { nothing = g.met.P.Pages.writes_nothing; on = g.met.P.Pages.writes_on; failed_before = g.met.P.Pages.failed_before; failed_after = g.met.P.Pages.failed_after } in
    let schema = c.args.schema.now in
    let k = c.args.k in
    let parts = c.args.parts.now in
    let inv = c.loop.invariant in
    let start = c.args.pages.now in
    let mid = c.loop.pages in
    let early = c.read_batch.new.pages in
    let live = (g.P.Pages.shown.state start).live in
    let reads = g.met.P.Pages.reads_writes mid early c.read_batch.ensures.reads in
    record {
      cause = handed_on _ _ _ c.from_residual.ensures.1 (cause_since g.P.Pages.shown laws start mid early inv.writes _ (held_since _ _ _ _ _ (λ failed. failed) (λ never. absurd never) c.in_err-batch.ensures.cause));
      step = g.met.P.Pages.writes_on start mid early inv.writes reads;
    }

pub returns-in_default-clause-pushes : goal.returns-in_default-clause-pushes
returns-in_default-clause-pushes g c =
    let schema = c.args.schema.now in
    let k = c.args.k in
    let parts = c.args.parts.now in
    let inv = c.loop.invariant in
    let start = c.args.pages.now in
    let mid = c.loop.pages in
    let early = c.read_batch.new.pages in
    let live = (g.P.Pages.shown.state start).live in
    let reads = g.met.P.Pages.reads_writes mid early c.read_batch.ensures.reads in
    record {
      pushed = λ honest sound records long stamps count alternates stand building.
          let rows = rows_of schema records in
          let hm = g.met.P.Pages.writes_honestly mid early reads honest in
          let had = inv.pushed hm sound records long stamps count alternates stand building in
          let standing = stands_in schema parts alternates live (g.P.Pages.shown.state mid).live rows had.0.on.own_now stand had.0.on.changes in
          let tied = subst (EndsReading schema k rows) c.in_default.is (c.in_ok-batch.ensures.read honest records long stamps count standing).answer in
          record { answer = λ differ. tied (untied_entries schema k rows differ); no_damage = tt };
      same = inv.same;
    }

pub returns-in_err-push_held-clause-pushes : goal.returns-in_err-push_held-clause-pushes
returns-in_err-push_held-clause-pushes g c =
    let schema = c.args.schema.now in
    let k = c.args.k in
    let parts = c.args.parts.now in
    let inv = c.loop.invariant in
    let start = c.args.pages.now in
    let mid = c.loop.pages in
    let early = c.read_batch.new.pages in
    let live = (g.P.Pages.shown.state start).live in
    let reads = g.met.P.Pages.reads_writes mid early c.read_batch.ensures.reads in
    let late = c.push_held.new.pages in
    let batch = c.in-Some.batch in
    let keeps = c.push_held.ensures.keeps in
    let held_same = c.push_held.ensures.same in
    let same : KeepsAlt c.args.builder.now c.push_held.new.builder = record { key_is = held_same.key_is ∙ inv.same.key_is; width_is = held_same.width_is ∙ inv.same.width_is; prime_is = held_same.prime_is ∙ inv.same.prime_is } in
    let step = g.met.P.Pages.writes_on start mid late inv.writes (g.met.P.Pages.writes_on mid early late reads keeps.step) in
    record {
      pushed = λ honest sound records long stamps count alternates stand building.
          let rows = rows_of schema records in
          let entries = map (alt_entry schema k) rows in
          let he = g.met.P.Pages.writes_honestly early late keeps.step honest in
          let hm = g.met.P.Pages.writes_honestly mid early reads he in
          let had = inv.pushed hm sound records long stamps count alternates stand building in
          let standing = stands_in schema parts alternates live (g.P.Pages.shown.state mid).live rows had.0.on.own_now stand had.0.on.changes in
          let sound_early = subst (λ s. IsTrue s) (sym (g.met.P.Pages.reads_sound mid early c.read_batch.ensures.reads he)) had.1 in
          let on = subst (λ (m : PageMap). AltBuildsOn live m c.loop.builder [] had.0.done) (sym (g.met.P.Pages.reads_live mid early c.read_batch.ensures.reads he)) had.0.on in
          let taken : HasTakenEntries batch entries = subst (EndsReading schema k rows) c.in-Some.is (c.in_ok-batch.ensures.read he records long stamps count standing).answer in
          let above_is : batch.above ≡ c.loop.above = subst (λ (found : Option Batch). IfSome found (λ b. b.above ≡ c.loop.above)) c.in-Some.is c.in_ok-batch.ensures.above_is in
          fails _ _ _ c.from_residual-in_err-push_held.ensures.1 (c.in_err-push_held.ensures.pushes.pushed honest sound_early live had.0.done on).no_damage;
      same = same;
    }

pub returns-in_err-push_held-clause-keeps : goal.returns-in_err-push_held-clause-keeps
returns-in_err-push_held-clause-keeps g c =
    let laws : StepLaws g.P.Pages.shown = record { nothing = g.met.P.Pages.writes_nothing; on = g.met.P.Pages.writes_on; failed_before = g.met.P.Pages.failed_before; failed_after = g.met.P.Pages.failed_after } in
    let schema = c.args.schema.now in
    let k = c.args.k in
    let parts = c.args.parts.now in
    let inv = c.loop.invariant in
    let start = c.args.pages.now in
    let mid = c.loop.pages in
    let early = c.read_batch.new.pages in
    let live = (g.P.Pages.shown.state start).live in
    let reads = g.met.P.Pages.reads_writes mid early c.read_batch.ensures.reads in
    let late = c.push_held.new.pages in
    let batch = c.in-Some.batch in
    let keeps = c.push_held.ensures.keeps in
    let held_same = c.push_held.ensures.same in
    let same : KeepsAlt c.args.builder.now c.push_held.new.builder = record { key_is = held_same.key_is ∙ inv.same.key_is; width_is = held_same.width_is ∙ inv.same.width_is; prime_is = held_same.prime_is ∙ inv.same.prime_is } in
    let step = g.met.P.Pages.writes_on start mid late inv.writes (g.met.P.Pages.writes_on mid early late reads keeps.step) in
    record {
      cause = handed_on _ _ _ c.from_residual-in_err-push_held.ensures.1 (cause_since g.P.Pages.shown laws start early late (g.met.P.Pages.writes_on start mid early inv.writes reads) _ c.in_err-push_held.ensures.keeps.cause);
      step = step;
    }

pub returns-then-not-branch-clause-pushes : goal.returns-then-not-branch-clause-pushes
returns-then-not-branch-clause-pushes g c =
    let schema = c.args.schema.now in
    let k = c.args.k in
    let parts = c.args.parts.now in
    let inv = c.loop.invariant in
    let start = c.args.pages.now in
    let mid = c.loop.pages in
    let early = c.read_batch.new.pages in
    let live = (g.P.Pages.shown.state start).live in
    let reads = g.met.P.Pages.reads_writes mid early c.read_batch.ensures.reads in
    let late = c.push_held.new.pages in
    let batch = c.in-Some.batch in
    let keeps = c.push_held.ensures.keeps in
    let held_same = c.push_held.ensures.same in
    let same : KeepsAlt c.args.builder.now c.push_held.new.builder = record { key_is = held_same.key_is ∙ inv.same.key_is; width_is = held_same.width_is ∙ inv.same.width_is; prime_is = held_same.prime_is ∙ inv.same.prime_is } in
    let step = g.met.P.Pages.writes_on start mid late inv.writes (g.met.P.Pages.writes_on mid early late reads keeps.step) in
    let off : c.in_ok-push_held.field-0 ≡ false = cc (c.if-not-branch.true) in
    record {
      pushed = λ honest sound records long stamps count alternates stand building.
          let rows = rows_of schema records in
          let entries = map (alt_entry schema k) rows in
          let he = g.met.P.Pages.writes_honestly early late keeps.step honest in
          let hm = g.met.P.Pages.writes_honestly mid early reads he in
          let had = inv.pushed hm sound records long stamps count alternates stand building in
          let standing = stands_in schema parts alternates live (g.P.Pages.shown.state mid).live rows had.0.on.own_now stand had.0.on.changes in
          let sound_early = subst (λ s. IsTrue s) (sym (g.met.P.Pages.reads_sound mid early c.read_batch.ensures.reads he)) had.1 in
          let on = subst (λ (m : PageMap). AltBuildsOn live m c.loop.builder [] had.0.done) (sym (g.met.P.Pages.reads_live mid early c.read_batch.ensures.reads he)) had.0.on in
          let taken : HasTakenEntries batch entries = subst (EndsReading schema k rows) c.in-Some.is (c.in_ok-batch.ensures.read he records long stamps count standing).answer in
          let above_is : batch.above ≡ c.loop.above = subst (λ (found : Option Batch). IfSome found (λ b. b.above ≡ c.loop.above)) c.in-Some.is c.in_ok-batch.ensures.above_is in
          let tied = subst (EndsPushingHeld live (g.P.Pages.shown.state late).live c.push_held.new.builder had.0.done (held_entries batch.held) (IsTrue (g.P.Pages.shown.state late).is_sound)) off (c.in_ok-push_held.ensures.pushes.pushed honest sound_early live had.0.done on).answer in
          record { answer = λ differ. tied_seen batch entries taken tied (untied_entries schema k rows differ); no_damage = tt };
      same = same;
    }

pub returns-then-not-branch-clause-keeps : goal.returns-then-not-branch-clause-keeps
returns-then-not-branch-clause-keeps g c =
    let schema = c.args.schema.now in
    let k = c.args.k in
    let parts = c.args.parts.now in
    let inv = c.loop.invariant in
    let start = c.args.pages.now in
    let mid = c.loop.pages in
    let early = c.read_batch.new.pages in
    let live = (g.P.Pages.shown.state start).live in
    let reads = g.met.P.Pages.reads_writes mid early c.read_batch.ensures.reads in
    let late = c.push_held.new.pages in
    let batch = c.in-Some.batch in
    let keeps = c.push_held.ensures.keeps in
    let held_same = c.push_held.ensures.same in
    let same : KeepsAlt c.args.builder.now c.push_held.new.builder = record { key_is = held_same.key_is ∙ inv.same.key_is; width_is = held_same.width_is ∙ inv.same.width_is; prime_is = held_same.prime_is ∙ inv.same.prime_is } in
    let step = g.met.P.Pages.writes_on start mid late inv.writes (g.met.P.Pages.writes_on mid early late reads keeps.step) in
    record { cause = tt; step = step }

pub returns-in-None-clause-pushes : goal.returns-in-None-clause-pushes
returns-in-None-clause-pushes g c =
    let schema = c.args.schema.now in
    let k = c.args.k in
    let parts = c.args.parts.now in
    let inv = c.loop.invariant in
    let start = c.args.pages.now in
    let mid = c.loop.pages in
    let early = c.read_batch.new.pages in
    let live = (g.P.Pages.shown.state start).live in
    let reads = g.met.P.Pages.reads_writes mid early c.read_batch.ensures.reads in
    let late = c.push_held.new.pages in
    let batch = c.in-Some.batch in
    let keeps = c.push_held.ensures.keeps in
    let held_same = c.push_held.ensures.same in
    let same : KeepsAlt c.args.builder.now c.push_held.new.builder = record { key_is = held_same.key_is ∙ inv.same.key_is; width_is = held_same.width_is ∙ inv.same.width_is; prime_is = held_same.prime_is ∙ inv.same.prime_is } in
    let step = g.met.P.Pages.writes_on start mid late inv.writes (g.met.P.Pages.writes_on mid early late reads keeps.step) in
    let on_held : c.in_ok-push_held.field-0 ≡ true = cc (c.if-not-branch.false) in
    record {
      pushed = λ honest sound records long stamps count alternates stand building.
          let rows = rows_of schema records in
          let entries = map (alt_entry schema k) rows in
          let he = g.met.P.Pages.writes_honestly early late keeps.step honest in
          let hm = g.met.P.Pages.writes_honestly mid early reads he in
          let had = inv.pushed hm sound records long stamps count alternates stand building in
          let standing = stands_in schema parts alternates live (g.P.Pages.shown.state mid).live rows had.0.on.own_now stand had.0.on.changes in
          let sound_early = subst (λ s. IsTrue s) (sym (g.met.P.Pages.reads_sound mid early c.read_batch.ensures.reads he)) had.1 in
          let on = subst (λ (m : PageMap). AltBuildsOn live m c.loop.builder [] had.0.done) (sym (g.met.P.Pages.reads_live mid early c.read_batch.ensures.reads he)) had.0.on in
          let taken : HasTakenEntries batch entries = subst (EndsReading schema k rows) c.in-Some.is (c.in_ok-batch.ensures.read he records long stamps count standing).answer in
          let above_is : batch.above ≡ c.loop.above = subst (λ (found : Option Batch). IfSome found (λ b. b.above ≡ c.loop.above)) c.in-Some.is c.in_ok-batch.ensures.above_is in
          let made = subst (EndsPushingHeld live (g.P.Pages.shown.state late).live c.push_held.new.builder had.0.done (held_entries batch.held) (IsTrue (g.P.Pages.shown.state late).is_sound)) on_held (c.in_ok-push_held.ensures.pushes.pushed honest sound_early live had.0.done on).answer in
          record {
            answer = pushed_last schema k rows live (g.P.Pages.shown.state mid).live (g.P.Pages.shown.state late).live c.loop.builder c.push_held.new.builder c.loop.above batch c.loop.counter had.0 taken above_is made.0 _ made.1 c.in-None.is;
            no_damage = tt;
          };
      same = same;
    }

pub returns-in-None-clause-keeps : goal.returns-in-None-clause-keeps
returns-in-None-clause-keeps g c =
    let schema = c.args.schema.now in
    let k = c.args.k in
    let parts = c.args.parts.now in
    let inv = c.loop.invariant in
    let start = c.args.pages.now in
    let mid = c.loop.pages in
    let early = c.read_batch.new.pages in
    let live = (g.P.Pages.shown.state start).live in
    let reads = g.met.P.Pages.reads_writes mid early c.read_batch.ensures.reads in
    let late = c.push_held.new.pages in
    let batch = c.in-Some.batch in
    let keeps = c.push_held.ensures.keeps in
    let held_same = c.push_held.ensures.same in
    let same : KeepsAlt c.args.builder.now c.push_held.new.builder = record { key_is = held_same.key_is ∙ inv.same.key_is; width_is = held_same.width_is ∙ inv.same.width_is; prime_is = held_same.prime_is ∙ inv.same.prime_is } in
    let step = g.met.P.Pages.writes_on start mid late inv.writes (g.met.P.Pages.writes_on mid early late reads keeps.step) in
    record { cause = tt; step = step }

pub loop-preserved : goal.loop-preserved
loop-preserved g c =
    let schema = c.args.schema.now in
    let k = c.args.k in
    let parts = c.args.parts.now in
    let inv = c.loop.invariant in
    let start = c.args.pages.now in
    let mid = c.loop.pages in
    let early = c.read_batch.new.pages in
    let live = (g.P.Pages.shown.state start).live in
    let reads = g.met.P.Pages.reads_writes mid early c.read_batch.ensures.reads in
    let late = c.push_held.new.pages in
    let batch = c.in-Some.batch in
    let keeps = c.push_held.ensures.keeps in
    let held_same = c.push_held.ensures.same in
    let same : KeepsAlt c.args.builder.now c.push_held.new.builder = record { key_is = held_same.key_is ∙ inv.same.key_is; width_is = held_same.width_is ∙ inv.same.width_is; prime_is = held_same.prime_is ∙ inv.same.prime_is } in
    let step = g.met.P.Pages.writes_on start mid late inv.writes (g.met.P.Pages.writes_on mid early late reads keeps.step) in
    let on_held : c.in_ok-push_held.field-0 ≡ true = cc (c.if-not-branch.false) in
    record {
      writes = step;
      same = same;
      pushed = λ honest sound records long stamps count alternates stand building.
          let rows = rows_of schema records in
          let entries = map (alt_entry schema k) rows in
          let he = g.met.P.Pages.writes_honestly early late keeps.step honest in
          let hm = g.met.P.Pages.writes_honestly mid early reads he in
          let had = inv.pushed hm sound records long stamps count alternates stand building in
          let standing = stands_in schema parts alternates live (g.P.Pages.shown.state mid).live rows had.0.on.own_now stand had.0.on.changes in
          let sound_early = subst (λ s. IsTrue s) (sym (g.met.P.Pages.reads_sound mid early c.read_batch.ensures.reads he)) had.1 in
          let on = subst (λ (m : PageMap). AltBuildsOn live m c.loop.builder [] had.0.done) (sym (g.met.P.Pages.reads_live mid early c.read_batch.ensures.reads he)) had.0.on in
          let taken : HasTakenEntries batch entries = subst (EndsReading schema k rows) c.in-Some.is (c.in_ok-batch.ensures.read he records long stamps count standing).answer in
          let above_is : batch.above ≡ c.loop.above = subst (λ (found : Option Batch). IfSome found (λ b. b.above ≡ c.loop.above)) c.in-Some.is c.in_ok-batch.ensures.above_is in
          let made = subst (EndsPushingHeld live (g.P.Pages.shown.state late).live c.push_held.new.builder had.0.done (held_entries batch.held) (IsTrue (g.P.Pages.shown.state late).is_sound)) on_held (c.in_ok-push_held.ensures.pushes.pushed honest sound_early live had.0.done on).answer in
          (pushed_more schema k rows live (g.P.Pages.shown.state mid).live (g.P.Pages.shown.state late).live c.loop.builder c.push_held.new.builder c.loop.above batch c.loop.counter had.0 taken above_is made.0 c.in-Some-top.top c.in-Some-top.is, made.1);
    }

pub returns-clause-pushes : goal.returns-clause-pushes
returns-clause-pushes g c =
    let schema = c.args.schema.now in
    let k = c.args.k in
    let inv = c.loop.invariant in
    record {
      pushed = λ honest sound records long stamps count alternates stand building.
          let rows = rows_of schema records in
          let had = inv.pushed honest sound records long stamps count alternates stand building in
          let many = entries_many schema k records in
          record {
            answer = pushed_all schema k rows (g.P.Pages.shown.state c.args.pages.now).live (g.P.Pages.shown.state c.loop.pages).live c.loop.builder c.loop.above c.loop.counter _ had.1 had.0 (omega (arith, many, count, c.loop-test.false));
            no_damage = tt;
          };
      same = inv.same;
    }
