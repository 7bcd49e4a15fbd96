use Rattle.open_file.proofs.ExitLemmas.{if_ok}
use Rattle.shelf_library.specs.declared.shelf_file.ShelfFile.{ShelfFile}
use Rattle.shelf_library.specs.Calls.{ReplacesHeld}
use Rattle.shelf_library.proofs.StepLemmas.{reads_same, at_end}
use Rattle.shelf_library.proofs.shelf_file.ShelfFile.replace.Goals as goal

pub replace-requires : goal.replace-requires
replace-requires g c = record {
  ready = record { pages = c.requires.ready.over; shaped = c.requires.ready.shaped };
  least = c.requires.least;
  greatest = c.requires.greatest;
}

pub returns : goal.returns
returns g c =
    let old = c.args.self.now in
    let new : ShelfFile = record { file = c.replace.new.opened; pages = c.replace.new.pages.file.now } in
    let made = c.replace.ensures.replaces in
    let breaks = c.replace.ensures.breaks in
    at_end (λ s. ReplacesHeld g.S.Shelf.state g.S.Shelf.fault_count c.args.bytes.now old new c.args.shelf.now s c.replace.result)
    _ _ c.shelf-1.given.1 made.keeps.begins.1
    (record {
      changes = record {
        done = made.done;
        unmade = if_ok c.replace.result _ _ (λ x reads none. let r = reads none in reads_same old new _ _ _ _ r.0 r.1.2) made.unmade;
        begun = made.begun;
        room = made.room;
        full = λ is. let r = made.full is in reads_same old new _ _ _ _ r.0 r.1.2;
        lacks = made.lacks;
        keeps = record {
          schema = made.keeps.schema;
          ready = record { over = made.keeps.ready.pages; shaped = made.keeps.ready.shaped };
          begins = made.keeps.begins.2;
          asked = made.keeps.asked;
        };
      };
      breaks = record {
        broken = λ is. let b = breaks.broken is in (b.0, reads_same old new _ _ _ _ b.1.0 b.1.1.2);
        breaks = breaks.breaks;
        unbroken = breaks.unbroken;
        cause = breaks.cause;
      };
    })
