use Rattle.std.proofs.Common.{false, sym, subst, ◌∙◌}
use Rattle.pages.specs.PageMap.{PageMap}
use Rattle.file_building.specs.Moving.{RecordsStand}
use Rattle.file_building.proofs.StepLemmas.{StepLaws}
use Rattle.file_building.proofs.CopiedStepLemmas.{copy_ok, copy_if_err, copy_cause}
use Rattle.file_building.proofs.MovingLemmas.{move_left, moved_one}
use Rattle.file_building.proofs.moving.move_next.Goals as goal

pub move_from-requires : goal.move_from-requires
move_from-requires g c = record {
  ready = g.met.P.Pages.writes_ready c.args.from.now c.next_place.new.from (g.met.P.Pages.reads_writes c.args.from.now c.next_place.new.from c.next_place.ensures.reads) c.requires.ready;
  target = c.requires.target;
  is_mover = c.requires.fits.is_mover;
}

pub returns-in-Ok-clause-moves : goal.returns-in-Ok-clause-moves
returns-in-Ok-clause-moves g c =
    let source = c.args.source.now in
    let index = c.args.index.now in
    let walk = c.args.walk.now in
    let now = c.next_place.new.walk in
    let mover = c.args.mover.now in
    let built = c.move_from.new.mover in
    let start_from = c.args.from.now in
    let mid = c.next_place.new.from in
    let late = c.move_from.new.from in
    let live = (g.P.Pages.shown.state start_from).live in
    let pages = (g.Q.Pages.shown.state c.args.to.now).live in
    let after = (g.Q.Pages.shown.state c.move_from.new.to).live in
    let reads = c.move_from.ensures.keeps.reads in
    record {
      moved = λ hf ht sound slots primes entries start left stand h.
          let one = move_left index walk mover live start pages slots primes entries left h in
          let honest_mid = g.met.P.Pages.writes_honestly mid late (g.met.P.Pages.reads_writes mid late reads) hf in
          let found = (c.in-Ok.ensures.found honest_mid slots primes stand one.next one.rest one.ahead one.leads).answer in
          let same = g.met.P.Pages.reads_live start_from mid c.next_place.ensures.reads honest_mid in
          let there = subst (λ (m : PageMap). RecordsStand source m slots primes) (sym same) stand in
          let moved = c.move_from.ensures.moves.moved hf ht sound slots primes start there one.next one.leads found.0 one.holds in
          copy_ok c.move_from.result _ _
          (λ done made. (moved_one index walk now mover built live start pages after slots primes entries left one found.1 c.in-Ok.place found.0 made.0, made.1)) moved;
      fits = record { tree_is = c.next_place.ensures.tree_is ∙ c.requires.fits.tree_is; is_mover = c.move_from.ensures.moves.is_mover };
    }

pub returns-in-Ok-clause-keeps : goal.returns-in-Ok-clause-keeps
returns-in-Ok-clause-keeps g c =
    let laws : StepLaws g.Q.Pages.shown = record { nothing = g.met.Q.Pages.writes_nothing; on = g.met.Q.Pages.writes_on; failed_before = g.met.Q.Pages.failed_before; failed_after = g.met.Q.Pages.failed_after } in
    let start = c.args.from.now in
    let mid = c.next_place.new.from in
    let late = c.move_from.new.from in
    let x = c.args.to.now in
    let z = c.move_from.new.to in
    let keeps = c.move_from.ensures.keeps in
    let first = c.next_place.ensures.reads in
    record {
      cause = copy_if_err c.move_from.result _ _
          (copy_cause g.P.Pages.shown g.Q.Pages.shown (λ a b d r f. g.met.P.Pages.failed_after a b d (g.met.P.Pages.reads_writes a b r) f) laws false false (λ is. is)
          start mid late x x z first (g.met.Q.Pages.writes_nothing x)) keeps.cause;
      reads = g.met.P.Pages.reads_on start mid late first keeps.reads;
      writes = keeps.writes;
    }

pub returns-in-Err-clause-moves : goal.returns-in-Err-clause-moves
returns-in-Err-clause-moves g c =
    let index = c.args.index.now in
    let walk = c.args.walk.now in
    let mover = c.args.mover.now in
    let live = (g.P.Pages.shown.state c.args.from.now).live in
    let pages = (g.Q.Pages.shown.state c.args.to.now).live in
    record {
      moved = λ hf ht sound slots primes entries start left stand h.
          let one = move_left index walk mover live start pages slots primes entries left h in
          record { answer = tt; no_damage = (c.in-Err.ensures.found hf slots primes stand one.next one.rest one.ahead one.leads).no_damage };
      fits = record { tree_is = c.next_place.ensures.tree_is ∙ c.requires.fits.tree_is; is_mover = c.requires.fits.is_mover };
    }
