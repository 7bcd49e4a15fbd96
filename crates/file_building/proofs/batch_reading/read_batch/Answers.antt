use Rattle.std.proofs.Common.{◌≡◌, ◌+◌, true, false, [], ◌∷◌, ◌++◌, map, refl, ap, sym, subst, ◌∙◌, arith}
use Rattle.pages.specs.PageMap.{PageMap}
use Rattle.record_layout.specs.declared.schema.KeyPart.{KeyPart}
use Rattle.tree_search.proofs.AnswerLemmas.{fails}
use Rattle.open_file.specs.InOrder.{alt_entry}
use Rattle.file_building.specs.Written.{rows_of}
use Rattle.file_building.specs.Rereading.{EndsTaking, AreAhead, entry_with_stamp}
use Rattle.file_building.proofs.StepLemmas.{handed_on, no_answer}
use Rattle.file_building.proofs.RereadLemmas.{held_since, reads_begun, one_to_read, read_more, tied_all, all_read}
use Rattle.file_building.proofs.batch_reading.read_batch.Goals as goal

pub loop-i-init : goal.loop-i-init
loop-i-init g c =
    let schema = c.args.schema.now in
    record {
      reads = g.met.P.Pages.reads_nothing c.args.pages.now;
      tree_is = c.new-walk.ensures.tree_is;
      fits = record {
        width_is = c.new-batch.ensures.fits.width_is ∙ c.from-width.ensures ∙ ap (λ (part : KeyPart). part.length) c.part.ensures.part;
        prime_is = c.new-batch.ensures.fits.prime_is ∙ c.from-prime.ensures ∙ ap (λ (part : KeyPart). part.length) c.part-2.ensures.part;
      };
      above_is = c.new-batch.ensures.above_is;
      read = λ honest records long stamps count stands. record {
        done = [];
        rest = records;
        all = refl;
        many = refl;
        taken = c.new-batch.ensures.begun;
        ahead = record { long = long; stamps = stamps; rows = reads_begun schema c.args.parts.now c.new-walk.result _ (rows_of schema records) c.new-walk.ensures stands };
      };
    }

pub returns-in_err-take_next : goal.returns-in_err-take_next
returns-in_err-take_next g c =
    let schema = c.args.schema.now in
    let k = c.args.k in
    let parts = c.args.parts.now in
    let walk = c.loop-i.walk in
    let i = c.loop-i.i in
    let inv = c.loop-i.invariant in
    let start = c.args.pages.now in
    let mid = c.loop-i.pages in
    let late = c.take_next.new.pages in
    let live = (g.P.Pages.shown.state start).live in
    record {
      read = λ honest records long stamps count stands.
          let hb = g.met.P.Pages.writes_honestly mid late (g.met.P.Pages.reads_writes mid late c.take_next.ensures.reads) honest in
          let had = inv.read hb records long stamps count stands in
          let one = one_to_read schema k parts walk live c.loop-i.batch records i (omega (arith, count, c.loop-i-test.true)) had in
          let same = g.met.P.Pages.reads_live start mid inv.reads hb in
          let ahead = subst (λ (m : PageMap). AreAhead schema parts walk m (i + 1) (one.bytes ∷ one.rest)) (sym same) one.ahead in
          fails _ _ _ c.from_residual.ensures.1 (c.in_err-take_next.ensures.taken honest one.bytes one.rest _ ahead one.taken).no_damage;
      fits = no_answer _ _ _ c.from_residual.ensures.1;
      above_is = no_answer _ _ _ c.from_residual.ensures.1;
      cause = handed_on _ _ _ c.from_residual.ensures.1
          (held_since _ _ _ _ _ (λ failed. g.met.P.Pages.failed_after start mid late (g.met.P.Pages.reads_writes start mid inv.reads) failed) (λ never. never) c.in_err-take_next.ensures.cause);
      reads = g.met.P.Pages.reads_on start mid late inv.reads c.take_next.ensures.reads;
    }

pub returns-then-not-branch : goal.returns-then-not-branch
returns-then-not-branch g c =
    let schema = c.args.schema.now in
    let k = c.args.k in
    let parts = c.args.parts.now in
    let walk = c.loop-i.walk in
    let i = c.loop-i.i in
    let inv = c.loop-i.invariant in
    let start = c.args.pages.now in
    let mid = c.loop-i.pages in
    let late = c.take_next.new.pages in
    let live = (g.P.Pages.shown.state start).live in
    let off : c.in_ok-take_next.field-0 ≡ false = cc (c.if-not-branch.true) in
    record {
      read = λ honest records long stamps count stands.
          let hb = g.met.P.Pages.writes_honestly mid late (g.met.P.Pages.reads_writes mid late c.take_next.ensures.reads) honest in
          let had = inv.read hb records long stamps count stands in
          let one = one_to_read schema k parts walk live c.loop-i.batch records i (omega (arith, count, c.loop-i-test.true)) had in
          let same = g.met.P.Pages.reads_live start mid inv.reads hb in
          let ahead = subst (λ (m : PageMap). AreAhead schema parts walk m (i + 1) (one.bytes ∷ one.rest)) (sym same) one.ahead in
          let seen = map (alt_entry schema k) (rows_of schema one.done) ++ entry_with_stamp schema k (i + 1) one.bytes ∷ [] in
          let ends = (c.in_ok-take_next.ensures.taken honest one.bytes one.rest _ ahead one.taken).answer in
          let tied = subst (EndsTaking c.take_next.new.batch seen (AreAhead schema parts c.take_next.new.walk (g.P.Pages.shown.state mid).live (i + 1 + 1) one.rest)) off ends in
          record { answer = tied_all schema k parts walk live c.loop-i.batch records i one tied; no_damage = tt };
      fits = tt;
      above_is = tt;
      cause = tt;
      reads = g.met.P.Pages.reads_on start mid late inv.reads c.take_next.ensures.reads;
    }

pub loop-i-preserved : goal.loop-i-preserved
loop-i-preserved g c =
    let schema = c.args.schema.now in
    let k = c.args.k in
    let parts = c.args.parts.now in
    let walk = c.loop-i.walk in
    let i = c.loop-i.i in
    let inv = c.loop-i.invariant in
    let start = c.args.pages.now in
    let mid = c.loop-i.pages in
    let late = c.take_next.new.pages in
    let live = (g.P.Pages.shown.state start).live in
    let keeps = c.take_next.ensures.same in
    let on : c.in_ok-take_next.field-0 ≡ true = cc (c.if-not-branch.false) in
    record {
      reads = g.met.P.Pages.reads_on start mid late inv.reads c.take_next.ensures.reads;
      tree_is = c.take_next.ensures.tree_is ∙ inv.tree_is;
      fits = record { width_is = keeps.fits.width_is ∙ inv.fits.width_is; prime_is = keeps.fits.prime_is ∙ inv.fits.prime_is };
      above_is = keeps.above_is ∙ inv.above_is;
      read = λ honest records long stamps count stands.
          let hb = g.met.P.Pages.writes_honestly mid late (g.met.P.Pages.reads_writes mid late c.take_next.ensures.reads) honest in
          let had = inv.read hb records long stamps count stands in
          let one = one_to_read schema k parts walk live c.loop-i.batch records i (omega (arith, count, c.loop-i-test.true)) had in
          let same = g.met.P.Pages.reads_live start mid inv.reads hb in
          let ahead = subst (λ (m : PageMap). AreAhead schema parts walk m (i + 1) (one.bytes ∷ one.rest)) (sym same) one.ahead in
          let seen = map (alt_entry schema k) (rows_of schema one.done) ++ entry_with_stamp schema k (i + 1) one.bytes ∷ [] in
          let ends = (c.in_ok-take_next.ensures.taken honest one.bytes one.rest _ ahead one.taken).answer in
          let made = subst (EndsTaking c.take_next.new.batch seen (AreAhead schema parts c.take_next.new.walk (g.P.Pages.shown.state mid).live (i + 1 + 1) one.rest)) on ends in
          read_more schema k parts walk c.take_next.new.walk live c.loop-i.batch c.take_next.new.batch records i one made.0
          (subst (λ (m : PageMap). AreAhead schema parts c.take_next.new.walk m (i + 1 + 1) one.rest) same made.1);
    }

pub returns : goal.returns
returns g c =
    let schema = c.args.schema.now in
    let inv = c.loop-i.invariant in
    record {
      read = λ honest records long stamps count stands. record {
        answer = all_read schema c.args.k c.args.parts.now c.loop-i.walk (g.P.Pages.shown.state c.args.pages.now).live c.loop-i.batch records c.loop-i.i
            (omega (arith, count, c.loop-i-test.false)) (inv.read honest records long stamps count stands);
        no_damage = tt;
      };
      fits = inv.fits;
      above_is = inv.above_is;
      cause = tt;
      reads = inv.reads;
    }
