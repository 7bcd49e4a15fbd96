use Rattle.std.proofs.Common.{rules, sym, ap, ◌∙◌, subst, [], false, length}
use Rattle.io_state.specs.declared.statement.FileStatement.TheVariants.{Close}
use Rattle.verbs.specs.Held.{silent}
use Rattle.verbs.specs.Performed.{IsPerformed, in_memory}
use Rattle.serve.specs.Files.{NumberedFile, memory_of}
use Rattle.serve.specs.Fields.{numbered_file}
use Rattle.serve.specs.Steps.{with_bytes}
use Rattle.serve.proofs.described_file.DescribedFile.close.Goals as goal

pub returns-clause-closes : goal.returns-clause-closes
returns-clause-closes g c = record {
  performed = subst (λ (file : NumberedFile). IsPerformed g.L.Library.shown file.unit (Close false) 0 (with_bytes [] (memory_of c.args.library.now file)) (silent c.close.result)
      (in_memory c.close.new.self c.close.new.lib c.self.inside.area.items))
      {x = numbered_file c.self.inside} {y = c.args.self.now} (search rules) (c.close.ensures.performed 0 c.self.inside.area.items);
  name = search rules;
  unit = search rules;
}

pub invariant_of-self : goal.invariant_of-self
invariant_of-self g c =
    let performed = c.close.ensures.performed 0 c.self.inside.area.items in
    record {
      keys = c.self.invariant.keys ∙ ap (λ schema. length schema.keys) (sym performed.schema);
      area = c.self.invariant.area ∙ ap (λ schema. schema.greatest) (sym performed.schema);
      short = c.self.invariant.short;
    }
