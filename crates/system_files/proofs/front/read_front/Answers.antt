use Rattle.std.proofs.Common.{rules, ◌≡◌, length}
use Rattle.system_files.proofs.FrontLemmas.{all_read, front_read, still_taken}
use Rattle.system_files.proofs.front.read_front.Goals as goal

pub returns-then-n-eq0 : goal.returns-then-n-eq0
returns-then-n-eq0 g c = record {
  bytes = all_read _ _ _ _ _ _ _ c.more.invariant.0 c.in_ok-n.ensures.bytes (search rules) (c.in_ok-n.ensures.end (search rules) (search rules)) c.more.invariant.1;
  taken = still_taken _ _ _ _ _ _ c.more.invariant.0 c.in_ok-n.ensures.bytes (search rules);
  within = c.more.invariant.1;
}

pub returns : goal.returns
returns g c =
    let whole : length c.more.bytes.items ≡ c.args.most = search rules in
    record { bytes = front_read _ _ _ _ c.more.invariant.0 whole; taken = c.more.invariant.0; within = c.more.invariant.1 }
