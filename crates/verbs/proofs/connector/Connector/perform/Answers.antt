use Rattle.verbs.proofs.connector.Connector.perform.Goals as goal

pub returns-in-Open : goal.returns-in-Open
returns-in-Open g c = rw (c.in-Open.is, c.silent.ensures) (c.open.ensures c.args.length c.args.area.now)

pub returns-in-Close : goal.returns-in-Close
returns-in-Close g c = rw (c.in-Close.is, c.silent-in-Close.ensures) (c.close.ensures.performed c.args.length c.args.area.now)

pub returns-in-ReadNext : goal.returns-in-ReadNext
returns-in-ReadNext g c = rw c.in-ReadNext.is (c.read_next.ensures c.args.length)

pub returns-in-Read : goal.returns-in-Read
returns-in-Read g c = rw c.in-Read.is (c.read.ensures c.args.length)

pub returns-in-Start : goal.returns-in-Start
returns-in-Start g c = rw (c.in-Start.is, c.silent-in-Start.ensures) (c.start.ensures c.args.length)

pub returns-in-Delete : goal.returns-in-Delete
returns-in-Delete g c = rw (c.in-Delete.is, c.silent-in-Delete.ensures) (c.delete.ensures c.args.length)

pub returns-in-Write : goal.returns-in-Write
returns-in-Write g c = rw (c.in-Write.is, c.silent-in-Write.ensures) c.write.ensures

pub returns-in-Rewrite : goal.returns-in-Rewrite
returns-in-Rewrite g c = rw (c.in-Rewrite.is, c.silent-in-Rewrite.ensures) c.rewrite.ensures
