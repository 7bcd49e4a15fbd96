use Rattle.std.proofs.Common.{rules, ◌≡◌, ◌<◌, ◌*◌, ℕ, List, Option, length, sym, subst, arith}
use Rattle.file_checker.specs.Bytes.{bytes_of_pages, AreRead, ReadingBreaksOff}
use Rattle.file_checker.specs.declared.verdict.CheckFault.{CheckFault}
use Rattle.file_checker.proofs.ReadLemmas.{less_on, pages_long, pages_more, less_given, on_fault}
use Rattle.file_checker.proofs.reading.read_pages.Goals as goal

pub returns-then-not-branch-clause-short : goal.returns-then-not-branch-clause-short
returns-then-not-branch-clause-short g c e known had =
    let so_far = c.more.invariant.0 known had in
    let long = pages_long c.more.pages.items so_far.whole in
    let more : length c.more.pages.items < c.args.count = (let len = c.len.ensures in let test = c.more-test.true in omega arith) in
    less_on known (g.R.Read.remaining c.more.reader) (bytes_of_pages c.more.pages.items) 4096 (4096 * c.args.count) so_far.given (c.in_ok-read_page.ensures.short c.if-not-branch.true) (omega arith)

pub returns-in_err-read_page-clause-fault : goal.returns-in_err-read_page-clause-fault
returns-in_err-read_page-clause-fault g c =
    let new = g.R.Read.remaining c.read_page.new.reader in
    on_fault c.from_residual.result _ (λ (fault : CheckFault). (known : Option (List ℕ)) → AreRead known (g.R.Read.remaining c.args.reader.now) c.args.pages.now.items → ReadingBreaksOff known new c.args.count fault) c.from_residual.ensures.1 (λ known had.
    let so_far = c.more.invariant.0 known had in
    let long = pages_long c.more.pages.items so_far.whole in
    let more : length c.more.pages.items < c.args.count = (let len = c.len.ensures in let test = c.more-test.true in omega arith) in
    subst (ReadingBreaksOff known new c.args.count) (sym c.in_err-read_page.ensures.input.0)
    (less_given known (g.R.Read.remaining c.more.reader) new (bytes_of_pages c.more.pages.items) 4096 (4096 * c.args.count) so_far.given c.in_err-read_page.ensures.input.1 (omega arith)))

pub returns-in_err-make_room-clause-fault : goal.returns-in_err-make_room-clause-fault
returns-in_err-make_room-clause-fault g c =
    let new = g.R.Read.remaining c.read_page.new.reader in
    let long : length c.read_page.new.page ≡ 4096 = search rules in
    on_fault c.from_residual-in_err-make_room.result _ (λ (fault : CheckFault). (known : Option (List ℕ)) → AreRead known (g.R.Read.remaining c.args.reader.now) c.args.pages.now.items → ReadingBreaksOff known new c.args.count fault) c.from_residual-in_err-make_room.ensures.1 (λ known had.
    let so_far = c.more.invariant.0 known had in
    let more : length c.more.pages.items < c.args.count = (let len = c.len.ensures in let test = c.more-test.true in omega arith) in
    subst (ReadingBreaksOff known new c.args.count) (sym c.in_err-make_room.ensures.memory)
    (pages_more known (g.R.Read.remaining c.more.reader) new c.more.pages.items c.read_page.new.page c.args.count so_far (c.in_ok-read_page.ensures.whole c.if-not-branch.false) long more))

pub returns-in_err-push_page-clause-fault : goal.returns-in_err-push_page-clause-fault
returns-in_err-push_page-clause-fault g c =
    let new = g.R.Read.remaining c.read_page.new.reader in
    let long : length c.read_page.new.page ≡ 4096 = search rules in
    on_fault c.from_residual-in_err-push_page.result _ (λ (fault : CheckFault). (known : Option (List ℕ)) → AreRead known (g.R.Read.remaining c.args.reader.now) c.args.pages.now.items → ReadingBreaksOff known new c.args.count fault) c.from_residual-in_err-push_page.ensures.1 (λ known had.
    let so_far = c.more.invariant.0 known had in
    let more : length c.more.pages.items < c.args.count = (let len = c.len.ensures in let test = c.more-test.true in omega arith) in
    subst (ReadingBreaksOff known new c.args.count) (sym c.in_err-push_page.ensures.memory)
    (pages_more known (g.R.Read.remaining c.more.reader) new c.more.pages.items c.read_page.new.page c.args.count so_far (c.in_ok-read_page.ensures.whole c.if-not-branch.false) long more))
