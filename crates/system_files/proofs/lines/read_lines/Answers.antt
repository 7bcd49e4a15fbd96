use Rattle.std.proofs.Common.{rules, ◌≡◌, ◌++◌, sym, subst}
use Rattle.std.specs.Io.KnownBytes.{Consumes}
use Rattle.system_files.specs.Front.{IsTextRead}
use Rattle.system_files.proofs.FrontLemmas.{both_taken, text_ends, text_cut}
use Rattle.system_files.proofs.lines.read_lines.Goals as goal

pub returns-then-len-longest-clause-text : goal.returns-then-len-longest-clause-text
returns-then-len-longest-clause-text g c =
    let whole : c.extend_from_slice.new.self.items ≡ c.loop.bytes.items ++ c.in_ok-part.part.items = search rules in
    subst (IsTextRead c.args.longest (g.R.Read.remaining c.args.reader.now)) (sym whole)
    (text_ends c.args.longest _ _ _ c.loop.bytes.items c.in_ok-part.part.items c.loop.invariant c.in_ok-part.ensures.bytes c.in_ok-part.ensures.taken (search rules))

pub returns-then-not-contains : goal.returns-then-not-contains
returns-then-not-contains g c =
    let whole : c.extend_from_slice.new.self.items ≡ c.loop.bytes.items ++ c.in_ok-part.part.items = search rules in
    record {
      text = subst (IsTextRead c.args.longest (g.R.Read.remaining c.args.reader.now)) (sym whole)
          (text_cut c.args.longest _ _ _ c.loop.bytes.items c.in_ok-part.part.items c.loop.invariant c.in_ok-part.ensures.taken (search rules) (search rules));
      long = λ cut. (c.loop.bytes.items, c.in_ok-part.part.items, whole, search rules, search rules);
    }

pub loop-preserved : goal.loop-preserved
loop-preserved g c =
    let whole : c.extend_from_slice.new.self.items ≡ c.loop.bytes.items ++ c.in_ok-part.part.items = search rules in
    subst (Consumes (g.R.Read.remaining c.args.reader.now) (g.R.Read.remaining c.read_front.new.reader)) (sym whole)
    (both_taken _ _ _ c.loop.bytes.items c.in_ok-part.part.items c.loop.invariant c.in_ok-part.ensures.taken)
