use Rattle.std.proofs.Common.{rules, ◌≡◌, ◌-◌, length, take, subst, arith}
use Rattle.std.proofs.lemmas.List.{take_all}
use Rattle.std.specs.Io.KnownBytes.{Consumes}
use Rattle.file_checker.proofs.ReadLemmas.{consumes_on, page_more, page_whole}
use Rattle.file_checker.proofs.reading.read_page.Goals as goal

pub more-preserved : goal.more-preserved
more-preserved g c = (
  consumes_on _ _ _ _ _ _ c.more.invariant.0 (c.in_ok-n.ensures.bytes) (page_more c.more.page c.read_part.new.part c.more.at c.in_ok-n.n (let long = c.more.invariant.2 in omega arith) (c.in_ok-n.ensures.within)),
  (let few = c.in_ok-n.ensures.within in let long : length c.read_part.new.part ≡ 4096 - c.more.at = search rules in let at = c.more-test.true in omega arith),
  page_whole c.more.page c.read_part.new.part c.more.at (c.more.invariant.1) (c.more.invariant.2) (search rules),
)

pub returns : goal.returns
returns g c =
    let all : take c.more.at c.more.page ≡ c.more.page = take_all c.more.at c.more.page (let long = c.more.invariant.2 in omega arith) in
    record {
      whole = λ yes. subst (Consumes (g.R.Read.remaining c.args.reader.now) (g.R.Read.remaining c.more.reader)) all c.more.invariant.0;
      short = λ no. cc;
      end = λ no. cc;
      input = tt;
    }
