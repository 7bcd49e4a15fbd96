use Rattle.std.proofs.Common.{sym, arith}
use Rattle.std.proofs.lemmas.List.{take_all}
use Rattle.command_support.proofs.file_bytes.first_page.Goals as goal

pub returns-then-bytes-lt-PAGE_SIZE : goal.returns-then-bytes-lt-PAGE_SIZE
returns-then-bytes-lt-PAGE_SIZE c = sym (take_all 4096 c.args.bytes.now (let few = c.if-bytes-lt-PAGE_SIZE.true in omega (arith, few)))
