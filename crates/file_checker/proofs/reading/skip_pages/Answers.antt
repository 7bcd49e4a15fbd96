use Rattle.std.proofs.Common.{◌*◌, arith, ◌+◌}
use Rattle.file_checker.proofs.ReadLemmas.{given_more, less_given, no_answer}
use Rattle.file_checker.proofs.reading.skip_pages.Goals as goal

pub loop-preserved : goal.loop-preserved
loop-preserved g c =
    given_more (g.R.Read.remaining c.args.reader.now) (g.R.Read.remaining c.loop.reader) (g.R.Read.remaining c.read_page.new.reader) c.read_page.new.page (4096 * c.loop.counter) (4096 * (c.loop.counter + 1))
    c.loop.invariant (c.in_ok-read_page.ensures.whole c.if-not-branch.false) c.type_inv.page (omega arith)

pub returns-in_err-read_page : goal.returns-in_err-read_page
returns-in_err-read_page g c =
    let old = g.R.Read.remaining c.args.reader.now in
    let new = g.R.Read.remaining c.read_page.new.reader in
    no_answer c.from_residual.result _ c.from_residual.ensures.1 c.in_err-read_page.ensures.input.0
    (less_given old (g.R.Read.remaining c.loop.reader) new c.loop.invariant.bytes 4096 (4096 * c.args.count) c.loop.invariant.given c.in_err-read_page.ensures.input.1
    (let many = c.loop.invariant.many in let test = c.loop-test.true in omega (arith, many, test)))
