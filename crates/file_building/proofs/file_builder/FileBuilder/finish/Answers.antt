use Rattle.std.proofs.Common.{◌≡◌, ◌+◌, ◌≤◌, ◌^◌, ℕ, suc, true, length, Option, IsTrue, ap, sym, subst, ◌∙◌, arith}
use Rattle.std.specs.Prelude.{nat_le}
use Rattle.std.specs.Option.{IfSome}
use Rattle.std.proofs.lemmas.Bool.{and_from, and_parts, le-leb}
use Rattle.tree_search.proofs.AnswerLemmas.{fails}
use Rattle.arrayvec.specs.ArrayVec.{ArrayVec}
use Rattle.key_index.specs.declared.alt_index.AltIndex.{AltIndex}
use Rattle.indexed_file.specs.File.{File}
use Rattle.indexed_file.specs.Sound.{is_file, are_rows}
use Rattle.open_file.specs.Stands.{Stands}
use Rattle.file_building.specs.Written.{rows_of}
use Rattle.record_heap.specs.declared.shape.SlotShape.{SlotShape}
use Rattle.file_building.specs.Alternates.{EndsAlternates, AreAllIndexesFor, AreRecordsOf}
use Rattle.file_building.specs.Opening.{IsShapeFor, StandBehindHeader, ArePartsFor}
use Rattle.file_building.proofs.StepLemmas.{StepLaws, cause_since, handed_on, no_answer, damage_cause}
use Rattle.file_building.proofs.WrittenLemmas.{file_of, accepted_is_file, file_was_accepted, each_is_row}
use Rattle.file_building.proofs.FileLemmas.{rows_sound}
use Rattle.file_building.proofs.DifferLemmas.{differ_in}
use Rattle.file_building.proofs.RecordLemmas.{rows_rise_of}
use Rattle.file_building.proofs.file_builder.FileBuilder.finish.Goals as goal

pub returns-in_err-rows : goal.returns-in_err-rows
returns-in_err-rows g c =
    let schema = c.args.self.schema in
    record {
      finished = λ honest sound records h free.
          fails _ _ _ c.from_residual.ensures.1 (c.in_err-rows.ensures.finishes.finished honest sound schema (rows_of schema records) (rows_rise_of schema 1 records h.rising) h.rows).no_damage;
      made = no_answer _ _ _ c.from_residual.ensures.1;
      keeps = record { cause = handed_on _ _ _ c.from_residual.ensures.1 c.in_err-rows.ensures.keeps.cause; step = c.in_err-rows.ensures.keeps.step };
    }

pub build_alternates-requires : goal.build_alternates-requires
build_alternates-requires g c = record {
  target = record {
    ready = g.met.P.Pages.writes_ready c.args.pages.now c.finish.new.pages c.finish.ensures.keeps.step c.requires.ready;
    «open» = g.met.P.Pages.writes_changing c.args.pages.now c.finish.new.pages c.finish.ensures.keeps.step c.requires.changing;
  };
  few = c.args.self.few;
}

pub returns-in_err-alternates : goal.returns-in_err-alternates
returns-in_err-alternates g c =
    let laws : StepLaws g.P.Pages.shown = record { nothing = g.met.P.Pages.writes_nothing; on = g.met.P.Pages.writes_on; failed_before = g.met.P.Pages.failed_before; failed_after = g.met.P.Pages.failed_after } in
    let schema = c.args.self.schema in
    let start = c.args.pages.now in
    let mid = c.finish.new.pages in
    let late = c.build_alternates.new.pages in
    let first = c.finish.ensures.keeps.step in
    let keeps = c.in_err-alternates.ensures.keeps in
    record {
      finished = λ honest sound records h free.
          let hb = g.met.P.Pages.writes_honestly mid late keeps.step honest in
          let made = (c.in_ok-rows.ensures.finishes.finished hb sound schema (rows_of schema records) (rows_rise_of schema 1 records h.rising) h.rows).answer in
          let made_of : AreRecordsOf schema c.in_ok-rows.rows c.args.self.count c.args.self.fronts records = record { long = h.lengths; kept = h.fronts; stamps = ap (λ (s : SlotShape). s.stamps) made.1 ∙ c.args.self.slots.stamps; many = sym h.count } in
          fails _ _ _ c.from_residual-in_err-alternates.ensures.1
          (c.in_err-alternates.ensures.builds.built honest made.2 records made_of made.0).no_damage;
      made = no_answer _ _ _ c.from_residual-in_err-alternates.ensures.1;
      keeps = record {
        cause = handed_on _ _ _ c.from_residual-in_err-alternates.ensures.1 (cause_since g.P.Pages.shown laws start mid late first _ keeps.cause);
        step = g.met.P.Pages.writes_on start mid late first keeps.step;
      };
    }

pub returns-in-None : goal.returns-in-None
returns-in-None g c =
    let schema = c.args.self.schema in
    let start = c.args.pages.now in
    let mid = c.finish.new.pages in
    let late = c.build_alternates.new.pages in
    let keeps = c.in_ok-alternates.ensures.keeps in
    let heap = c.in_ok-rows.rows.heap in
    let prime = c.in_ok-rows.rows.prime in
    let live = (g.P.Pages.shown.state late).live in
    record {
      finished = λ honest sound records h free.
          let rows = rows_of schema records in
          let hb = g.met.P.Pages.writes_honestly mid late keeps.step honest in
          let made = (c.in_ok-rows.ensures.finishes.finished hb sound schema rows (rows_rise_of schema 1 records h.rising) h.rows).answer in
          let made_of : AreRecordsOf schema c.in_ok-rows.rows c.args.self.count c.args.self.fronts records = record { long = h.lengths; kept = h.fronts; stamps = ap (λ (s : SlotShape). s.stamps) made.1 ∙ c.args.self.slots.stamps; many = sym h.count } in
          let found = (c.in_ok-alternates.ensures.builds.built honest made.2 records made_of made.0).answer in
          let never = subst (EndsAlternates schema rows heap prime live (IsTrue (g.P.Pages.shown.state late).is_sound)) c.in-None.is found in
          record {
            answer = λ accepted.
                let file = subst (λ (f : File). is_file schema f ≡ true) (file_of schema records h.rising) (accepted_is_file schema records h.is_schema h.lengths accepted) in
                let all = (and_parts (nat_le 1 (length records + 1)) (are_rows schema (length records + 1) rows) file).1 in
                never (λ j within. differ_in schema (length records + 1) (suc j) rows within all);
            no_damage = tt;
          };
      made = tt;
      keeps = record { cause = tt; step = g.met.P.Pages.writes_on start mid late c.finish.ensures.keeps.step keeps.step };
    }

pub returns-in_err-opened : goal.returns-in_err-opened
returns-in_err-opened g c =
    let schema = c.args.self.schema in
    let next = c.args.self.count + 1 in
    let start = c.args.pages.now in
    let mid = c.finish.new.pages in
    let late = c.build_alternates.new.pages in
    let keeps = c.in_ok-alternates.ensures.keeps in
    let heap = c.in_ok-rows.rows.heap in
    let prime = c.in_ok-rows.rows.prime in
    let alternates = c.in-Some.alternates in
    let live = (g.P.Pages.shown.state late).live in
    let of : AreAllIndexesFor schema alternates.items = subst (λ (found : Option (ArrayVec AltIndex)). IfSome found (λ alternates. AreAllIndexesFor schema alternates.items)) c.in-Some.is c.in_ok-alternates.ensures.builds.of in
    record {
      finished = λ honest sound records h free.
          let rows = rows_of schema records in
          let hb = g.met.P.Pages.writes_honestly mid late keeps.step honest in
          let made = (c.in_ok-rows.ensures.finishes.finished hb sound schema rows (rows_rise_of schema 1 records h.rising) h.rows).answer in
          let made_of : AreRecordsOf schema c.in_ok-rows.rows c.args.self.count c.args.self.fronts records = record { long = h.lengths; kept = h.fronts; stamps = ap (λ (s : SlotShape). s.stamps) made.1 ∙ c.args.self.slots.stamps; many = sym h.count } in
          let found = (c.in_ok-alternates.ensures.builds.built honest made.2 records made_of made.0).answer in
          let stand = subst (EndsAlternates schema rows heap prime live (IsTrue (g.P.Pages.shown.state late).is_sound)) c.in-Some.is found in
          let number : next ≡ length records + 1 = ap (λ (n : ℕ). n + 1) h.count in
          let all : are_rows schema next rows ≡ true = rows_sound schema next rows (each_is_row schema 1 records next h.is_schema (omega arith) h.lengths (omega (arith, number))) (rows_rise_of schema 1 records h.rising) stand.1 in
          let is : is_file schema (record { rows = rows; next_stamp = next }) ≡ true = and_from (nat_le 1 next) (are_rows schema next rows) (le-leb 1 next (omega arith)) all in
          let for : ArePartsFor schema heap prime alternates.items = record { slots_are = subst (IsShapeFor schema) (sym made.1) c.args.self.slots; width_is = c.in_ok-rows.ensures.width ∙ c.args.self.width; indexes = of } in
          let behind : StandBehindHeader live = record { within = λ n some. let low = c.count-pages.ensures.low n some in let top = c.count-pages.type_inv in omega (arith, low, top); no_header = free } in
          let few : next ≤ 2 ^ 63 = omega (arith, c.args.self.few) in
          fails _ _ _ c.from_residual-in_err-opened.ensures.1 (c.in_err-opened.ensures.stands live rows is few stand.0 for behind).no_damage;
      made = no_answer _ _ _ c.from_residual-in_err-opened.ensures.1;
      keeps = record {
        cause = handed_on _ _ _ c.from_residual-in_err-opened.ensures.1 (damage_cause _ _ _ c.in_err-opened.ensures.damage);
        step = g.met.P.Pages.writes_on start mid late c.finish.ensures.keeps.step keeps.step;
      };
    }

pub returns : goal.returns
returns g c =
    let schema = c.args.self.schema in
    let next = c.args.self.count + 1 in
    let start = c.args.pages.now in
    let mid = c.finish.new.pages in
    let late = c.build_alternates.new.pages in
    let keeps = c.in_ok-alternates.ensures.keeps in
    let heap = c.in_ok-rows.rows.heap in
    let prime = c.in_ok-rows.rows.prime in
    let alternates = c.in-Some.alternates in
    let live = (g.P.Pages.shown.state late).live in
    let of : AreAllIndexesFor schema alternates.items = subst (λ (found : Option (ArrayVec AltIndex)). IfSome found (λ alternates. AreAllIndexesFor schema alternates.items)) c.in-Some.is c.in_ok-alternates.ensures.builds.of in
    record {
      finished = λ honest sound records h free.
          let rows = rows_of schema records in
          let hb = g.met.P.Pages.writes_honestly mid late keeps.step honest in
          let made = (c.in_ok-rows.ensures.finishes.finished hb sound schema rows (rows_rise_of schema 1 records h.rising) h.rows).answer in
          let made_of : AreRecordsOf schema c.in_ok-rows.rows c.args.self.count c.args.self.fronts records = record { long = h.lengths; kept = h.fronts; stamps = ap (λ (s : SlotShape). s.stamps) made.1 ∙ c.args.self.slots.stamps; many = sym h.count } in
          let found = (c.in_ok-alternates.ensures.builds.built honest made.2 records made_of made.0).answer in
          let stand = subst (EndsAlternates schema rows heap prime live (IsTrue (g.P.Pages.shown.state late).is_sound)) c.in-Some.is found in
          let number : next ≡ length records + 1 = ap (λ (n : ℕ). n + 1) h.count in
          let all : are_rows schema next rows ≡ true = rows_sound schema next rows (each_is_row schema 1 records next h.is_schema (omega arith) h.lengths (omega (arith, number))) (rows_rise_of schema 1 records h.rising) stand.1 in
          let is : is_file schema (record { rows = rows; next_stamp = next }) ≡ true = and_from (nat_le 1 next) (are_rows schema next rows) (le-leb 1 next (omega arith)) all in
          let for : ArePartsFor schema heap prime alternates.items = record { slots_are = subst (IsShapeFor schema) (sym made.1) c.args.self.slots; width_is = c.in_ok-rows.ensures.width ∙ c.args.self.width; indexes = of } in
          let behind : StandBehindHeader live = record { within = λ n some. let low = c.count-pages.ensures.low n some in let top = c.count-pages.type_inv in omega (arith, low, top); no_header = free } in
          let few : next ≤ 2 ^ 63 = omega (arith, c.args.self.few) in
          let stands = (c.in_ok-opened.ensures.stands live rows is few stand.0 for behind).answer in
          let file : File = record { rows = rows; next_stamp = next } in
          let same : record { rows = rows; next_stamp = next } ≡ record { rows = rows; next_stamp = length records + 1 } = ap (λ (n : ℕ). record { rows = rows; next_stamp = n }) number in
          record {
            answer = (
              file_was_accepted schema records next h.rising all,
              subst (Stands c.in_ok-opened.opened live) (same ∙ sym (file_of schema records h.rising)) stands,
              stand.2,
            );
            no_damage = tt;
          };
      made = c.in_ok-opened.ensures.made;
      keeps = record { cause = tt; step = g.met.P.Pages.writes_on start mid late c.finish.ensures.keeps.step keeps.step };
    }
