use Rattle.std.proofs.Common.{refl}
use Rattle.page_cache.proofs.TableLemmas.{table_put}
use Rattle.page_cache.proofs.table.Table.put.Goals as goal

pub returns-in-Some : goal.returns-in-Some
returns-in-Some c after put = table_put c.args.place c.args.n c.in-Some.cell c.args.numbers.now after c.args.self.now _ c.requires c.in-Some.ensures.0 c.in-Some.ensures.1 c.in-Some.ensures.2 refl refl refl put
