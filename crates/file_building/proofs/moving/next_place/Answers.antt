use Rattle.std.proofs.Common.{◌≡◌, [], ◌∷◌, ◌++◌, map, ap, sym, ◌∙◌}
use Rattle.tree_search.proofs.AnswerLemmas.{fails}
use Rattle.key_index.specs.declared.entry.AltEntry.{AltEntry}
use Rattle.key_index.specs.Stored.{alt_bytes, alt_entry_in}
use Rattle.key_index.proofs.StoredLemmas.{alt_back}
use Rattle.file_building.proofs.StepLemmas.{handed_on}
use Rattle.file_building.proofs.SourceLemmas.{prime_there, place_leads, same_place, never_none, damage_caused}
use Rattle.file_building.proofs.moving.next_place.Goals as goal

pub returns-in_err-place : goal.returns-in_err-place
returns-in_err-place g c =
    let start = c.args.from.now in
    let mid = c.next.new.pages in
    let late = c.place_of.new.pages in
    let first = c.next.ensures.reads.step in
    let second = c.place_of.ensures.reads.step in
    let cause = c.in_err-place.ensures.reads.cause in
    record {
      found = λ honest slots primes stand next rest ahead leads.
          let honest_mid = g.met.P.Pages.writes_honestly mid late (g.met.P.Pages.reads_writes mid late second) honest in
          let same = g.met.P.Pages.reads_live start mid first honest_mid in
          fails _ _ _ c.from_residual-in_err-place.ensures.1
          (c.in_err-place.ensures.found honest primes stand.prime_own (prime_there c.args.source.now c.prime.result.now (g.P.Pages.shown.state start).live (g.P.Pages.shown.state mid).live slots primes stand c.prime.ensures same)).no_damage;
      tree_is = c.next.ensures.tree_is;
      cause = handed_on _ _ _ c.from_residual-in_err-place.ensures.1 (record {
        device = λ e. g.met.P.Pages.failed_after start mid late (g.met.P.Pages.reads_writes start mid first) (cause.device e);
        full = cause.full;
        not_memory = cause.not_memory;
        not_broken = cause.not_broken;
      });
      reads = g.met.P.Pages.reads_on start mid late first second;
    }

pub returns-in-Some : goal.returns-in-Some
returns-in-Some g c =
    let start = c.args.from.now in
    let mid = c.next.new.pages in
    let late = c.place_of.new.pages in
    let first = c.next.ensures.reads.step in
    let second = c.place_of.ensures.reads.step in
    let index = c.args.index.now in
    record {
      found = λ honest slots primes stand next rest ahead leads.
          let honest_mid = g.met.P.Pages.writes_honestly mid late (g.met.P.Pages.reads_writes mid late second) honest in
          let same = g.met.P.Pages.reads_live start mid first honest_mid in
          let given = (c.in_ok-next.ensures.gives honest_mid ahead.given (alt_bytes next) (map alt_bytes rest) ahead.own ahead.walked).answer in
          let is : c.read-entry.result ≡ next = c.read-entry.ensures ∙ (λ i. alt_entry_in (c.from.ensures i) (c.as_slice.ensures.value i)) ∙ ap (alt_entry_in index.width) given.0
          ∙ alt_back index.width index.prime next ahead.each.0 in
          let value : c.as_slice-2.result.now ≡ next.prime.items = c.as_slice-2.ensures.value ∙ ap (λ (e : AltEntry). e.prime.items) is in
          let told = (c.in_ok-place.ensures.found honest primes stand.prime_own (prime_there c.args.source.now c.prime.result.now (g.P.Pages.shown.state start).live (g.P.Pages.shown.state mid).live slots primes stand c.prime.ensures same)).answer in
          record {
            answer = (
              same_place c.in-Some.place leads.at.place (sym c.in-Some.is ∙ told ∙ place_leads slots primes next leads c.as_slice-2.result.now value),
              record { each = ahead.each.1; given = ahead.given ++ alt_bytes next ∷ []; own = ahead.own; walked = given.1 },
            );
            no_damage = tt;
          };
      tree_is = c.next.ensures.tree_is;
      cause = tt;
      reads = g.met.P.Pages.reads_on start mid late first second;
    }

pub returns-in-None : goal.returns-in-None
returns-in-None g c =
    let start = c.args.from.now in
    let mid = c.next.new.pages in
    let late = c.place_of.new.pages in
    let first = c.next.ensures.reads.step in
    let second = c.place_of.ensures.reads.step in
    let index = c.args.index.now in
    record {
      found = λ honest slots primes stand next rest ahead leads.
          let honest_mid = g.met.P.Pages.writes_honestly mid late (g.met.P.Pages.reads_writes mid late second) honest in
          let same = g.met.P.Pages.reads_live start mid first honest_mid in
          let given = (c.in_ok-next.ensures.gives honest_mid ahead.given (alt_bytes next) (map alt_bytes rest) ahead.own ahead.walked).answer in
          let is : c.read-entry.result ≡ next = c.read-entry.ensures ∙ (λ i. alt_entry_in (c.from.ensures i) (c.as_slice.ensures.value i)) ∙ ap (alt_entry_in index.width) given.0
          ∙ alt_back index.width index.prime next ahead.each.0 in
          let value : c.as_slice-2.result.now ≡ next.prime.items = c.as_slice-2.ensures.value ∙ ap (λ (e : AltEntry). e.prime.items) is in
          let told = (c.in_ok-place.ensures.found honest primes stand.prime_own (prime_there c.args.source.now c.prime.result.now (g.P.Pages.shown.state start).live (g.P.Pages.shown.state mid).live slots primes stand c.prime.ensures same)).answer in
          absurd (never_none leads.at.place (sym c.in-None.is ∙ told ∙ place_leads slots primes next leads c.as_slice-2.result.now value));
      tree_is = c.next.ensures.tree_is;
      cause = damage_caused _;
      reads = g.met.P.Pages.reads_on start mid late first second;
    }
