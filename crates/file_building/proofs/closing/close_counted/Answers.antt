use Rattle.shelf_library.specs.Standing.{live_of}
use Rattle.file_building.specs.Parts.{joined_file}
use Rattle.file_building.proofs.CopyLemmas.{many}
use Rattle.file_building.proofs.closing.close_counted.Goals as goal

pub returns-in-Ok : goal.returns-in-Ok
returns-in-Ok g c =
    let parts = c.args.parts in
    let close = c.in-Ok.ensures.closes in
    record {
      closes = λ honest file stands.
          let is = close.closes honest c.requires.unbroken c.requires.changed file stands in
          record {
            images = is.images;
            ends = (is.settled, is.closed, many parts.file (live_of (joined_file parts) (g.T.Shelf.state c.args.shelf.now)) file c.prime.result.now c.count-records.result c.prime.ensures c.count-records.ensures stands.stands);
          };
      others = close.others;
      count = close.count;
      cause = tt;
    }

pub returns : goal.returns
returns g c =
    let parts = c.args.parts in
    let close = c.in-Err.ensures.closes in
    record {
      closes = λ honest file stands.
          let is = close.closes honest c.requires.unbroken c.requires.changed file stands in
          record {
            images = is.images;
            ends = many parts.file (live_of (joined_file parts) (g.T.Shelf.state c.args.shelf.now)) file c.prime.result.now c.count-records.result c.prime.ensures c.count-records.ensures stands.stands;
          };
      others = close.others;
      count = close.count;
      cause = c.in-Err.ensures.cause c.requires.unbroken;
    }
