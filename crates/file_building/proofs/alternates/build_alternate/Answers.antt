use Rattle.std.proofs.Common.{◌≡◌, ℕ, suc, ◌+◌, ◌-◌, ◌/◌, true, false, List, [], length, map, ap, sym, subst, ◌∙◌, arith}
use Rattle.std.specs.List.Sorted.{IsPermutation}
use Rattle.std.proofs.lemmas.List.Sorted.{IsPermutation-map, IsPermutation-sym, length_permutation}
use Rattle.std.specs.Prelude.{slice_index_or}
use Rattle.std.specs.Ordering.{is_lt}
use Rattle.std.proofs.lemmas.Bool.{false≢true}
use Rattle.file_building.proofs.UntiedLemmas.{untied_in, sorted_rise, parts_cmp, lower_parts}
use Rattle.pages.specs.Chunks.{chunks}
use Rattle.pages.specs.Each.{Each}
use Rattle.record_layout.specs.declared.schema.KeyPart.{KeyPart}
use Rattle.record_layout.specs.Schema.{key_at}
use Rattle.record_heap.specs.Chain.{IsOneOf}
use Rattle.key_index.specs.declared.entry.AltEntry.{AltEntry}
use Rattle.key_index.specs.Standing.{AltChanged}
use Rattle.open_file.specs.InOrder.{alt_entry}
use Rattle.file_building.specs.declared.ranked.Ranked.{Ranked}
use Rattle.file_building.specs.Written.{rows_of}
use Rattle.file_building.specs.Ranks.{RanksRise, AreUntied, is_lower}
use Rattle.file_building.specs.Entries.{entry_in, ranked_entries, entries_from}
use Rattle.file_building.specs.Alternates.{FitIndex}
use Rattle.file_building.proofs.RankLemmas.{are_those_of, untied_entries}
use Rattle.file_building.proofs.EntryLemmas.{entries_fit, fronts_entries}
use Rattle.file_building.proofs.BuiltLemmas.{each_moved, each_is_one}
use Rattle.file_building.proofs.alternates.build_alternate.Goals as goal

pub returns-then-not-rise-clause-builds : goal.returns-then-not-rise-clause-builds
returns-then-not-rise-clause-builds g c =
    let schema = c.args.schema.now in
    let k = c.args.k in
    let fronts = c.args.fronts.now in
    let was = c.in_ok-entries.entries.items in
    let is = c.sort_unstable.new.self.items in
    let old = ranked_entries was in
    let new = ranked_entries is in
    let perm : IsPermutation old new = IsPermutation-map entry_in was is c.sort_unstable.ensures.permutation in
    let fails : c.rise.result ≡ false = cc (c.if-not-rise.true) in
    let same : suc (k - 1) ≡ k = omega (arith, c.requires.some) in
    record {
      built = λ honest sound records long f.
          let rows = rows_of schema records in
          let behind = fronts_entries schema (k - 1) records fronts c.requires.schema (omega (arith, c.requires.some, c.requires.key)) f in
          let entries : old ≡ map (alt_entry schema k) rows = c.in_ok-entries.ensures.entries
          ∙ subst (λ (n : ℕ). entries_from schema n 1 (chunks schema.least (length fronts / schema.least) fronts) ≡ map (alt_entry schema n) rows) same behind in
          record {
            answer = λ differ. (let untied_old = subst (AreUntied is_lower) (sym entries) (untied_entries schema k rows differ) in
                let all = each_moved (IsOneOf new) new old (IsPermutation-sym old new perm) (each_is_one new) in
                let untied = untied_in old new all (sym (length_permutation old new perm)) untied_old in
                let rise = sorted_rise parts_cmp lower_parts is
                (λ j d within. let next : j + 1 ≡ suc j = omega arith in
                subst (λ (n : ℕ). is_lt (parts_cmp (slice_index_or is n d) (slice_index_or is j d)) ≡ false) next (c.sort_unstable.ensures.sorted j d (omega arith) (omega (arith, within)))) untied in
                let here : RanksRise (ranked_entries c.as_slice.result.now) = subst (λ (xs : List Ranked). RanksRise (ranked_entries xs)) (sym c.as_slice.ensures.value) rise in
                let yes : c.rise.result ≡ true = c.rise.ensures.1 here in
                false≢true (sym fails ∙ yes));
            no_damage = tt;
          };
      of = tt;
    }

pub build_index-requires-clause-fit : goal.build_index-requires-clause-fit
build_index-requires-clause-fit g c =
    let schema = c.args.schema.now in
    let k = c.args.k in
    let old = ranked_entries c.in_ok-entries.entries.items in
    let new = ranked_entries c.sort_unstable.new.self.items in
    let w = (key_at schema k).length in
    let p = (key_at schema 0).length in
    let perm : IsPermutation old new = IsPermutation-map entry_in c.in_ok-entries.entries.items c.sort_unstable.new.self.items c.sort_unstable.ensures.permutation in
    let first : FitIndex w p old = subst (FitIndex w p) (sym c.in_ok-entries.ensures.entries) (entries_fit schema k c.args.fronts.now c.requires.schema c.requires.key) in
    let fit : FitIndex w p new = each_moved (λ (e : AltEntry). (length e.value.items ≡ w) × (length e.prime.items ≡ p)) old new perm first in
    let here : FitIndex w p (ranked_entries c.as_slice-2.result.now) = subst (λ (xs : List Ranked). FitIndex w p (ranked_entries xs)) (sym c.as_slice-2.ensures.value) fit in
    let width : FitIndex c.part-width.result.length p (ranked_entries c.as_slice-2.result.now) = subst (λ (part : KeyPart). FitIndex part.length p (ranked_entries c.as_slice-2.result.now)) (sym c.part-width.ensures.part) here in
    subst (λ (part : KeyPart). FitIndex c.part-width.result.length part.length (ranked_entries c.as_slice-2.result.now)) (sym c.part-prime.ensures.part) width

pub returns-clause-builds : goal.returns-clause-builds
returns-clause-builds g c =
    let schema = c.args.schema.now in
    let k = c.args.k in
    let fronts = c.args.fronts.now in
    let old = ranked_entries c.in_ok-entries.entries.items in
    let new = ranked_entries c.sort_unstable.new.self.items in
    let before = (g.P.Pages.shown.state c.args.pages.now).live in
    let after = (g.P.Pages.shown.state c.build_index.new.pages).live in
    let index = c.in_ok-index.index in
    let of = c.in_ok-index.ensures.of in
    let perm : IsPermutation old new = IsPermutation-map entry_in c.in_ok-entries.entries.items c.sort_unstable.new.self.items c.sort_unstable.ensures.permutation in
    let yes : c.rise.result ≡ true = cc (c.if-not-rise.false) in
    let rise : RanksRise (ranked_entries c.as_slice.result.now) = c.rise.ensures.0 yes in
    let rise_new : RanksRise new = subst (λ (xs : List Ranked). RanksRise (ranked_entries xs)) c.as_slice.ensures.value rise in
    let rise_here : RanksRise (ranked_entries c.as_slice-2.result.now) = subst (λ (xs : List Ranked). RanksRise (ranked_entries xs)) (sym c.as_slice-2.ensures.value) rise_new in
    let same : suc (k - 1) ≡ k = omega (arith, c.requires.some) in
    record {
      built = λ honest sound records long f.
          let rows = rows_of schema records in
          let behind = fronts_entries schema (k - 1) records fronts c.requires.schema (omega (arith, c.requires.some, c.requires.key)) f in
          let entries : old ≡ map (alt_entry schema k) rows = c.in_ok-entries.ensures.entries
          ∙ subst (λ (n : ℕ). entries_from schema n 1 (chunks schema.least (length fronts / schema.least) fronts) ≡ map (alt_entry schema n) rows) same behind in
          let one : Each (IsOneOf (map (alt_entry schema k) rows)) old = subst (λ (l : List AltEntry). Each (IsOneOf l) old) entries (each_is_one old) in
          let all = each_moved (IsOneOf (map (alt_entry schema k) rows)) old new perm one in
          let many : length new ≡ length (map (alt_entry schema k) rows) = length_permutation old new perm ∙ ap length entries in
          let those = are_those_of schema k rows new rise_new all many in
          let built = (c.in_ok-index.ensures.builds.built honest sound rise_here).answer in
          let stands = subst (AltChanged before after index []) (ap ranked_entries c.as_slice-2.ensures.value ∙ sym those.are) built.0 in
          record { answer = (stands, those.differ, built.1); no_damage = tt };
      of = record {
        key_is = of.key_is;
        width_is = of.width_is ∙ ap (λ (part : KeyPart). part.length) c.part-width.ensures.part;
        prime_is = of.prime_is ∙ ap (λ (part : KeyPart). part.length) c.part-prime.ensures.part;
      };
    }
