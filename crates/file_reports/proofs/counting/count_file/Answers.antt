use Rattle.std.proofs.Common.{rules, ◌<◌, ◌^◌, ◌∙◌, arith, ap, refl}
use Rattle.pages.proofs.RefusedLemmas.{handed_on}
use Rattle.file_reports.specs.Statistics.{HasFile, HasFileStanding, all_key_pages}
use Rattle.file_reports.proofs.WholeLemmas.{file_standing, known_whole, statistics_are}
use Rattle.file_reports.proofs.counting.count_file.Goals as goal

pub returns-in_err-keys-clause-refused : goal.returns-in_err-keys-clause-refused
returns-in_err-keys-clause-refused g c = λ list has.
    handed_on (HasFileStanding c.from_header-file.result list) (HasFile c.args.header.now list) c.from_residual.result _ c.from_residual.ensures.1
    (λ known. file_standing c.args.header.now list c.from_header-file.result c.requires.header c.from_header-file.ensures known)
    (c.in_err-keys.ensures.refused list has)

pub returns-clause-counted : goal.returns-clause-counted
returns-clause-counted g c = λ list has known page opened file standing shown.
    let header = c.args.header.now in
    let counted = c.in_ok-keys.ensures.counted list has (file_standing header list c.from_header-file.result c.requires.header c.from_header-file.ensures known) in
    let whole = known_whole header list c.from_header-file.result c.requires.header c.from_header-file.ensures c.in_ok-keys.keys.items counted known in
    let fits = c.requires.header.room.pages in
    let items = ap all_key_pages c.deref.ensures.value in
    let few : all_key_pages c.deref.result.now < 2 ^ 64 = omega (arith, whole, fits, items) in
    let trees = c.tree_pages-trees.ensures few ∙ items in
    statistics_are header list c.from_header-file.result c.requires.header c.from_header-file.ensures c.in_ok-keys.keys.items counted
    page opened file standing shown
    (record {
      pages = _;
      heap = _;
      trees = c.tree_pages-trees.result;
      free = _;
      slots = _;
      records = header.records;
      keys = c.in_ok-keys.keys;
    })
    (search rules) (search rules) refl refl trees (search rules) (search rules)
