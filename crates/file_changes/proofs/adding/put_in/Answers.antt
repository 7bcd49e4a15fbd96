use Rattle.std.proofs.Common.{◌≡◌, ◌+◌, length, refl, ap, sym, subst, ◌∙◌, arith}
use Rattle.record_layout.specs.Schema.{Schema}
use Rattle.open_file.specs.Fields.{alternates_of, prime_index_of, file_schema, without_path}
use Rattle.open_file.specs.declared.open_file.OpenFile.{OpenFile}
use Rattle.key_index.specs.Standing.{prime_height}
use Rattle.open_file.specs.InOrder.{alt_entries}
use Rattle.file_changes.specs.Adding.{AreFree, index_levels}
use Rattle.pages.proofs.CauseLemmas.{fails_since}
use Rattle.open_file.proofs.ExitLemmas.{fails}
use Rattle.file_changes.proofs.LevelLemmas.{need_in}
use Rattle.file_changes.proofs.AddedLemmas.{added_stands, free_rank, free_prime, keeps_on, but_heap, but_prime, but_alternates}
use Rattle.file_changes.proofs.adding.put_in.Goals as goal

pub returns-in_err-place-clause-done : goal.returns-in_err-place-clause-done
returns-in_err-place-clause-done g c honest sound file stands clash =
    fails c.from_residual.result _ c.from_residual.ensures.1 ((rw c.forget_path.ensures at c.in_err-place.ensures.put) honest sound stands.slots _ _ stands.parts).no_damage _

pub returns-in_err-add_to_prime-clause-done : goal.returns-in_err-add_to_prime-clause-done
returns-in_err-add_to_prime-clause-done g c honest sound file stands clash =
    let before = g.met.P.Pages.writes_honestly c.store.new.pages c.add_to_prime.new.pages c.add_to_prime.ensures.pages.writes.step honest in
    let put = ((rw c.forget_path.ensures at c.in_ok-place.ensures.put) before sound stands.slots _ _ stands.parts).answer in
    let begun : OpenFile = without_path c.args.opened.now in
    let one = but_heap begun c.store.new.opened (rw c.forget_path.ensures at c.store.ensures.file.rest) in
    let free = free_prime c.args.opened.now (g.P.Pages.shown.state c.args.pages.now).live file c.args.bytes.now stands c.requires.can.shaped.is_schema clash in
    fails c.from_residual-in_err-add_to_prime.result _ c.from_residual-in_err-add_to_prime.ensures.1 ((rw one.0.schema at c.in_err-add_to_prime.ensures.added) honest put.1 _ _ _ put.0.parts free).no_damage _

pub returns-in_err-add_to_alternates-clause-done : goal.returns-in_err-add_to_alternates-clause-done
returns-in_err-add_to_alternates-clause-done g c honest sound file stands clash =
    let u = c.args.opened.now in
    let h2 = g.met.P.Pages.writes_honestly c.add_to_prime.new.pages c.add_to_alternates.new.pages c.add_to_alternates.ensures.writes.step honest in
    let h1 = g.met.P.Pages.writes_honestly c.store.new.pages c.add_to_prime.new.pages c.add_to_prime.ensures.pages.writes.step h2 in
    let put = ((rw c.forget_path.ensures at c.in_ok-place.ensures.put) h1 sound stands.slots _ _ stands.parts).answer in
    let begun : OpenFile = without_path u in
    let one = but_heap begun c.store.new.opened (rw c.forget_path.ensures at c.store.ensures.file.rest) in
    let two = but_prime c.store.new.opened c.add_to_prime.new.opened c.add_to_prime.ensures.file.rest in
    let keeps = keeps_on begun c.store.new.opened c.add_to_prime.new.opened one.0 two.0 in
    let alternates = two.1 ∙ one.2 in
    let free = free_prime u (g.P.Pages.shown.state c.args.pages.now).live file c.args.bytes.now stands c.requires.can.shaped.is_schema clash in
    let prime = ((rw one.0.schema at c.in_ok-add_to_prime.ensures.added) h2 put.1 _ _ _ put.0.parts free).answer in
    let rank = subst (λ s. AreFree (file_schema u) s c.args.bytes.now (length (alternates_of u)) (λ j. alt_entries (file_schema u) (j + 1) file.rows)) (sym stands.stamp)
    (free_rank (file_schema u) file c.args.bytes.now (length (alternates_of u)) c.requires.can.shaped.is_schema stands.sound clash c.requires.can.shaped.keys) in
    let failed = (rw (keeps.schema, keeps.stamp, alternates) at c.in_err-add_to_alternates.ensures.added) honest prime.1 _ _ _ (rw alternates at prime.0) rank in
    fails c.from_residual-in_err-add_to_alternates.result _ c.from_residual-in_err-add_to_alternates.ensures.1 failed.no_damage _

pub returns-clause-done : goal.returns-clause-done
returns-clause-done g c honest sound file stands clash =
    let u = c.args.opened.now in
    let h2 = g.met.P.Pages.writes_honestly c.add_to_prime.new.pages c.add_to_alternates.new.pages c.add_to_alternates.ensures.writes.step honest in
    let h1 = g.met.P.Pages.writes_honestly c.store.new.pages c.add_to_prime.new.pages c.add_to_prime.ensures.pages.writes.step h2 in
    let put = ((rw c.forget_path.ensures at c.in_ok-place.ensures.put) h1 sound stands.slots _ _ stands.parts).answer in
    let begun : OpenFile = without_path u in
    let one = but_heap begun c.store.new.opened (rw c.forget_path.ensures at c.store.ensures.file.rest) in
    let two = but_prime c.store.new.opened c.add_to_prime.new.opened c.add_to_prime.ensures.file.rest in
    let keeps = keeps_on begun c.store.new.opened c.add_to_prime.new.opened one.0 two.0 in
    let alternates = two.1 ∙ one.2 in
    let all = keeps_on begun c.add_to_prime.new.opened c.add_to_alternates.new.opened keeps (but_alternates c.add_to_prime.new.opened c.add_to_alternates.new.opened c.add_to_alternates.ensures.file.rest) in
    let free = free_prime u (g.P.Pages.shown.state c.args.pages.now).live file c.args.bytes.now stands c.requires.can.shaped.is_schema clash in
    let prime = ((rw one.0.schema at c.in_ok-add_to_prime.ensures.added) h2 put.1 _ _ _ put.0.parts free).answer in
    let rank = subst (λ s. AreFree (file_schema u) s c.args.bytes.now (length (alternates_of u)) (λ j. alt_entries (file_schema u) (j + 1) file.rows)) (sym stands.stamp)
    (free_rank (file_schema u) file c.args.bytes.now (length (alternates_of u)) c.requires.can.shaped.is_schema stands.sound clash c.requires.can.shaped.keys) in
    let last = ((rw (keeps.schema, keeps.stamp, alternates) at c.in_ok-add_to_alternates.ensures.added) honest prime.1 _ _ _ (rw alternates at prime.0) rank).answer in
    let many : length (alternates_of c.add_to_alternates.new.opened) ≡ length (alternates_of u) =
    (let l = ap (λ (s : Schema). length s.keys) all.schema in omega (arith, l, c.add_to_alternates.ensures.file.shaped.keys, c.requires.can.shaped.keys)) in
    rw c.take_stamp.ensures (record {
      answer = (
        added_stands u _ (g.P.Pages.shown.state c.args.pages.now).live (g.P.Pages.shown.state c.add_to_alternates.new.pages).live file c.args.bytes.now c.in_ok-place.place stands c.requires.can.shaped c.requires.can.least c.requires.can.greatest
            clash all.schema (ap (λ n. n + 1) all.stamp) (c.requires.room.stamps refl) all.path many put.0.free last.0,
        last.1,
      );
      no_damage = tt;
    })

pub returns-in_err-add_to_alternates-clause-writes : goal.returns-in_err-add_to_alternates-clause-writes
returns-in_err-add_to_alternates-clause-writes g c =
    record {
      cause =
          let since = g.met.P.Pages.writes_on c.args.pages.now c.store.new.pages c.add_to_prime.new.pages c.store.ensures.pages.writes.step c.add_to_prime.ensures.pages.writes.step in
          fails_since c.from_residual-in_err-add_to_alternates.result _ _ _ _ _ c.from_residual-in_err-add_to_alternates.ensures.1 (λ failed. g.met.P.Pages.failed_after c.args.pages.now c.add_to_prime.new.pages c.add_to_alternates.new.pages since failed) (λ none. none) c.in_err-add_to_alternates.ensures.writes.cause;
      asked =
          let begun : OpenFile = without_path c.args.opened.now in
          let one = but_heap begun c.store.new.opened (rw c.forget_path.ensures at c.store.ensures.file.rest) in
          let two = but_prime c.store.new.opened c.add_to_prime.new.opened c.add_to_prime.ensures.file.rest in
          let levels = ap index_levels (two.1 ∙ one.2) in
          let height = ap prime_height one.1 in
          omega (arith, need_in (prime_index_of c.args.opened.now) (alternates_of c.args.opened.now), levels, height, c.store.ensures.pages.writes.asked, c.add_to_prime.ensures.pages.writes.asked, c.add_to_alternates.ensures.writes.asked);
      step =
          let since = g.met.P.Pages.writes_on c.args.pages.now c.store.new.pages c.add_to_prime.new.pages c.store.ensures.pages.writes.step c.add_to_prime.ensures.pages.writes.step in
          g.met.P.Pages.writes_on c.args.pages.now c.add_to_prime.new.pages c.add_to_alternates.new.pages since c.add_to_alternates.ensures.writes.step;
    }

pub returns-clause-writes : goal.returns-clause-writes
returns-clause-writes g c =
    record {
      cause = tt;
      asked =
          let begun : OpenFile = without_path c.args.opened.now in
          let one = but_heap begun c.store.new.opened (rw c.forget_path.ensures at c.store.ensures.file.rest) in
          let two = but_prime c.store.new.opened c.add_to_prime.new.opened c.add_to_prime.ensures.file.rest in
          let levels = ap index_levels (two.1 ∙ one.2) in
          let height = ap prime_height one.1 in
          omega (arith, need_in (prime_index_of c.args.opened.now) (alternates_of c.args.opened.now), levels, height, c.store.ensures.pages.writes.asked, c.add_to_prime.ensures.pages.writes.asked, c.add_to_alternates.ensures.writes.asked);
      step =
          let since = g.met.P.Pages.writes_on c.args.pages.now c.store.new.pages c.add_to_prime.new.pages c.store.ensures.pages.writes.step c.add_to_prime.ensures.pages.writes.step in
          g.met.P.Pages.writes_on c.args.pages.now c.add_to_prime.new.pages c.add_to_alternates.new.pages since c.add_to_alternates.ensures.writes.step;
    }
