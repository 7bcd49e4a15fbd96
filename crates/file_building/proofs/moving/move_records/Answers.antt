use Rattle.std.proofs.Common.{◌≡◌, ◌+◌, ◌-◌, suc, false, ap, sym, subst, ◌∙◌, arith}
use Rattle.pages.specs.PageMap.{PageMap}
use Rattle.record_heap.specs.declared.shape.SlotShape.{SlotShape}
use Rattle.record_heap.specs.Slot.{room}
use Rattle.record_heap.specs.Standing.{slot_shape}
use Rattle.key_index.specs.declared.prime_index.PrimeIndex.{PrimeIndex}
use Rattle.key_index.specs.Standing.{CountsPrime}
use Rattle.open_file.specs.Fields.{file_schema, heap_of}
use Rattle.open_file.specs.InOrder.{prime_entries, alt_entries}
use Rattle.file_building.specs.Moving.{HasMovedEntries, HasMovedAll, RecordsStand}
use Rattle.file_building.proofs.StepLemmas.{StepLaws}
use Rattle.file_building.proofs.CopiedStepLemmas.{copy_handed, copy_fails, copy_if_err, copy_ok, copy_cause}
use Rattle.file_building.proofs.CopiedAlternateLemmas.{counted_alike}
use Rattle.file_building.proofs.SourceLemmas.{move_begun, records_stand}
use Rattle.file_building.proofs.moving.move_records.Goals as goal

pub loop-init : goal.loop-init
loop-init g c =
    let source = c.args.source.now in
    let live = (g.P.Pages.shown.state c.args.from.now).live in
    let pages = (g.Q.Pages.shown.state c.args.to.now).live in
    let new = c.new-mover.ensures in
    let shape : c.shape.result ≡ slot_shape (heap_of source) = c.shape.ensures ∙ ap slot_shape c.heap.ensures in
    let counts = subst (λ (i : PrimeIndex). CountsPrime i c.count-count.result) c.prime.ensures c.count-count.ensures in
    record {
      reads = g.met.P.Pages.reads_nothing c.args.from.now;
      writes = g.met.Q.Pages.writes_nothing c.args.to.now;
      fits = record {
        tree_is = c.new-walk.ensures.tree_is;
        is_mover = record { slots_are = new.slots_are ∙ shape; room_is = new.room_is ∙ ap room shape };
      };
      moved = λ hf ht sound file stands left many. (
        move_begun source live pages file stands c.args.key c.alternate-index.result c.new-walk.result c.new-mover.result left c.requires.key c.alternate-index.ensures c.new-walk.ensures (new.begun pages _ _)
            c.count-count.result (counted_alike source live file c.count-count.result c.args.key stands counts) (omega (arith, many)),
        sound,
      );
    }

pub move_next-requires : goal.move_next-requires
move_next-requires g c = record {
  ready = g.met.P.Pages.writes_ready c.args.from.now c.loop.from (g.met.P.Pages.reads_writes c.args.from.now c.loop.from c.loop.invariant.reads) c.requires.lent.ready;
  target = record {
    ready = g.met.Q.Pages.writes_ready c.args.to.now c.loop.to c.loop.invariant.writes c.requires.target.ready;
    «open» = g.met.Q.Pages.writes_changing c.args.to.now c.loop.to c.loop.invariant.writes c.requires.target.open;
  };
  fits = c.loop.invariant.fits;
}

pub returns-in_err-move_next-clause-moves : goal.returns-in_err-move_next-clause-moves
returns-in_err-move_next-clause-moves g c =
    let inv = c.loop.invariant in
    let keeps = c.in_err-move_next.ensures.keeps in
    let source = c.args.source.now in
    let start = (g.Q.Pages.shown.state c.args.to.now).live in
    let left = c.count-count.result - c.loop.counter - 1 in
    let one : suc left + c.loop.counter ≡ c.count-count.result = omega (arith, c.loop-test.true) in
    record {
      moved = λ hf ht sound file stands.
          let primes = prime_entries (file_schema source) stands.places file.rows in
          let entries = alt_entries (file_schema source) c.args.key file.rows in
          let hb = g.met.P.Pages.writes_honestly c.loop.from c.move_next.new.from (g.met.P.Pages.reads_writes c.loop.from c.move_next.new.from keeps.reads) hf in
          let tb = g.met.Q.Pages.writes_honestly c.loop.to c.move_next.new.to keeps.writes ht in
          let had = inv.moved hb tb sound file stands (suc left) one in
          let same = g.met.P.Pages.reads_live c.args.from.now c.loop.from inv.reads hb in
          let stand = subst (λ (m : PageMap). RecordsStand source m stands.slots primes) (sym same) (records_stand source (g.P.Pages.shown.state c.args.from.now).live file stands) in
          let here = subst (λ (m : PageMap). HasMovedEntries c.alternate-index.result c.loop.walk c.loop.mover m start (g.Q.Pages.shown.state c.loop.to).live stands.slots primes entries (suc left)) (sym same) had.0 in
          copy_fails _ _ _ c.from_residual.ensures.1 (c.in_err-move_next.ensures.moves.moved hf ht had.1 stands.slots primes entries start left stand here).no_damage;
    }

pub returns-in_err-move_next-clause-keeps : goal.returns-in_err-move_next-clause-keeps
returns-in_err-move_next-clause-keeps g c =
    let laws : StepLaws g.Q.Pages.shown = record { nothing = g.met.Q.Pages.writes_nothing; on = g.met.Q.Pages.writes_on; failed_before = g.met.Q.Pages.failed_before; failed_after = g.met.Q.Pages.failed_after } in
    let inv = c.loop.invariant in
    let keeps = c.in_err-move_next.ensures.keeps in
    record {
      cause = copy_handed _ _ _ c.from_residual.ensures.1
          (copy_cause g.P.Pages.shown g.Q.Pages.shown (λ a b d r f. g.met.P.Pages.failed_after a b d (g.met.P.Pages.reads_writes a b r) f) laws false false (λ is. is)
          c.args.from.now c.loop.from c.move_next.new.from c.args.to.now c.loop.to c.move_next.new.to inv.reads inv.writes _ keeps.cause);
      reads = g.met.P.Pages.reads_on c.args.from.now c.loop.from c.move_next.new.from inv.reads keeps.reads;
      writes = g.met.Q.Pages.writes_on c.args.to.now c.loop.to c.move_next.new.to inv.writes keeps.writes;
    }

pub loop-preserved : goal.loop-preserved
loop-preserved g c =
    let inv = c.loop.invariant in
    let keeps = c.in_ok-move_next.ensures.keeps in
    let source = c.args.source.now in
    let start = (g.Q.Pages.shown.state c.args.to.now).live in
    record {
      reads = g.met.P.Pages.reads_on c.args.from.now c.loop.from c.move_next.new.from inv.reads keeps.reads;
      writes = g.met.Q.Pages.writes_on c.args.to.now c.loop.to c.move_next.new.to inv.writes keeps.writes;
      fits = c.in_ok-move_next.ensures.moves.fits;
      moved = λ hf ht sound file stands left many.
          let primes = prime_entries (file_schema source) stands.places file.rows in
          let entries = alt_entries (file_schema source) c.args.key file.rows in
          let hb = g.met.P.Pages.writes_honestly c.loop.from c.move_next.new.from (g.met.P.Pages.reads_writes c.loop.from c.move_next.new.from keeps.reads) hf in
          let tb = g.met.Q.Pages.writes_honestly c.loop.to c.move_next.new.to keeps.writes ht in
          let one : suc left + c.loop.counter ≡ c.count-count.result = omega (arith, many) in
          let had = inv.moved hb tb sound file stands (suc left) one in
          let same = g.met.P.Pages.reads_live c.args.from.now c.loop.from inv.reads hb in
          let stand = subst (λ (m : PageMap). RecordsStand source m stands.slots primes) (sym same) (records_stand source (g.P.Pages.shown.state c.args.from.now).live file stands) in
          let here = subst (λ (m : PageMap). HasMovedEntries c.alternate-index.result c.loop.walk c.loop.mover m start (g.Q.Pages.shown.state c.loop.to).live stands.slots primes entries (suc left)) (sym same) had.0 in
          let more = (c.in_ok-move_next.ensures.moves.moved hf ht had.1 stands.slots primes entries start left stand here).answer in
          (subst (λ (m : PageMap). HasMovedEntries c.alternate-index.result c.move_next.new.walk c.move_next.new.mover m start (g.Q.Pages.shown.state c.move_next.new.to).live stands.slots primes entries left) same more.0, more.1);
    }

pub end_moving-requires-clause-ready : goal.end_moving-requires-clause-ready
end_moving-requires-clause-ready g c = g.met.P.Pages.writes_ready c.args.from.now c.loop.from (g.met.P.Pages.reads_writes c.args.from.now c.loop.from c.loop.invariant.reads) c.requires.lent.ready

pub end_moving-requires-clause-target : goal.end_moving-requires-clause-target
end_moving-requires-clause-target g c = record {
  ready = g.met.Q.Pages.writes_ready c.args.to.now c.loop.to c.loop.invariant.writes c.requires.target.ready;
  «open» = g.met.Q.Pages.writes_changing c.args.to.now c.loop.to c.loop.invariant.writes c.requires.target.open;
}

pub returns-clause-moves : goal.returns-clause-moves
returns-clause-moves g c =
    let inv = c.loop.invariant in
    let keeps = c.end_moving.ensures.keeps in
    let source = c.args.source.now in
    let start = (g.Q.Pages.shown.state c.args.to.now).live in
    let none : 0 + c.loop.counter ≡ c.count-count.result = omega (arith, c.loop-test.false, c.loop.auto.counter-end) in
    record {
      moved = λ hf ht sound file stands.
          let primes = prime_entries (file_schema source) stands.places file.rows in
          let entries = alt_entries (file_schema source) c.args.key file.rows in
          let hb = g.met.P.Pages.writes_honestly c.loop.from c.end_moving.new.from (g.met.P.Pages.reads_writes c.loop.from c.end_moving.new.from keeps.reads) hf in
          let tb = g.met.Q.Pages.writes_honestly c.loop.to c.end_moving.new.to keeps.writes ht in
          let had = inv.moved hb tb sound file stands 0 none in
          let same = g.met.P.Pages.reads_live c.args.from.now c.loop.from inv.reads hb in
          let here = subst (λ (m : PageMap). HasMovedEntries c.alternate-index.result c.loop.walk c.loop.mover m start (g.Q.Pages.shown.state c.loop.to).live stands.slots primes entries 0) (sym same) had.0 in
          let ended = c.end_moving.ensures.ends.ended hf ht had.1 c.alternate-index.result stands.slots primes entries start here in
          copy_ok c.end_moving.result _ _
          (λ records is. (subst (λ (s : SlotShape). HasMovedAll s stands.slots primes entries start (g.Q.Pages.shown.state c.end_moving.new.to).live records) inv.fits.is_mover.slots_are is.0, is.1)) ended;
    }

pub returns-clause-keeps : goal.returns-clause-keeps
returns-clause-keeps g c =
    let laws : StepLaws g.Q.Pages.shown = record { nothing = g.met.Q.Pages.writes_nothing; on = g.met.Q.Pages.writes_on; failed_before = g.met.Q.Pages.failed_before; failed_after = g.met.Q.Pages.failed_after } in
    let inv = c.loop.invariant in
    let keeps = c.end_moving.ensures.keeps in
    record {
      cause = copy_if_err c.end_moving.result _ _
          (copy_cause g.P.Pages.shown g.Q.Pages.shown (λ a b d r f. g.met.P.Pages.failed_after a b d (g.met.P.Pages.reads_writes a b r) f) laws false false (λ is. is)
          c.args.from.now c.loop.from c.end_moving.new.from c.args.to.now c.loop.to c.end_moving.new.to inv.reads inv.writes) keeps.cause;
      reads = g.met.P.Pages.reads_on c.args.from.now c.loop.from c.end_moving.new.from inv.reads keeps.reads;
      writes = g.met.Q.Pages.writes_on c.args.to.now c.loop.to c.end_moving.new.to inv.writes keeps.writes;
    }
