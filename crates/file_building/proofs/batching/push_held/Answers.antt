use Rattle.std.proofs.Common.{◌≡◌, ℕ, List, [], ◌++◌, length, sym, subst, arith}
use Rattle.std.specs.Option.{IfSome}
use Rattle.tree_search.proofs.AnswerLemmas.{fails}
use Rattle.key_index.specs.declared.entry.AltEntry.{AltEntry}
use Rattle.tree_building.specs.IndexBuilding.{AltBuildsOn}
use Rattle.file_building.specs.declared.ranked.Ranked.{Ranked}
use Rattle.file_building.specs.Alternates.{FitIndex}
use Rattle.file_building.specs.Entries.{ranked_entries}
use Rattle.file_building.specs.Held.{held_entries, held_count}
use Rattle.file_building.specs.Ranks.{IsSortedOf}
use Rattle.file_building.proofs.BuiltLemmas.{each_moved}
use Rattle.file_building.proofs.HeldLemmas.{held_fit}
use Rattle.file_building.proofs.batching.push_held.Goals as goal

pub push_all-requires : goal.push_all-requires
push_all-requires g c =
    let held = c.args.held.now in
    let w = c.args.builder.now.width in
    let so : IsSortedOf (held_entries held) (ranked_entries c.in-Some.sorted.items) = subst (λ found. IfSome found (λ s. IsSortedOf (held_entries held) (ranked_entries s.items))) c.in-Some.is c.in_ok-sorted.ensures.sorted in
    let first : FitIndex held.width held.prime (held_entries held) = held_fit held.width held.prime (held_count held) held.bytes.items (omega (arith, held.whole)) in
    let moved = each_moved (λ (e : AltEntry). (length e.value.items ≡ held.width) × (length e.prime.items ≡ held.prime)) (held_entries held) (ranked_entries c.in-Some.sorted.items) so.moved first in
    let here : FitIndex held.width held.prime (ranked_entries c.as_slice.result.now) = subst (λ (xs : List Ranked). FitIndex held.width held.prime (ranked_entries xs)) (sym c.as_slice.ensures.value) moved in
    record {
      target = record { ready = c.requires.target.ready; «open» = c.requires.target.open };
      fit = subst (λ (p : ℕ). FitIndex w p (ranked_entries c.as_slice.result.now)) c.requires.fits.prime_is (subst (λ (n : ℕ). FitIndex n held.prime (ranked_entries c.as_slice.result.now)) c.requires.fits.width_is here);
    }

pub returns-in_err-push_all-clause-pushes : goal.returns-in_err-push_all-clause-pushes
returns-in_err-push_all-clause-pushes g c = record {
  pushed = λ honest sound start done on.
      fails _ _ _ c.from_residual-in_err-push_all.ensures.1 (c.in_err-push_all.ensures.pushes.pushed honest sound start done on).no_damage;
}

pub returns-clause-pushes : goal.returns-clause-pushes
returns-clause-pushes g c =
    let held = c.args.held.now in
    let so : IsSortedOf (held_entries held) (ranked_entries c.in-Some.sorted.items) = subst (λ found. IfSome found (λ s. IsSortedOf (held_entries held) (ranked_entries s.items))) c.in-Some.is c.in_ok-sorted.ensures.sorted in
    record {
      pushed = λ honest sound start done on.
          let got = (c.in_ok-push_all.ensures.pushes.pushed honest sound start done on).answer in
          record {
            answer = (
              record {
                sorted = ranked_entries c.in-Some.sorted.items;
                order = so;
                on = subst (λ (xs : List Ranked). AltBuildsOn start (g.P.Pages.shown.state c.push_all.new.pages).live c.push_all.new.builder [] (done ++ ranked_entries xs)) c.as_slice.ensures.value got.0;
              },
              got.1,
            );
            no_damage = tt;
          };
    }
