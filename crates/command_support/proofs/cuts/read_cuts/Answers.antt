use Rattle.std.proofs.Common.{rules, ◌≡◌, [], Err, ap, ◌∙◌}
use Rattle.command_support.specs.declared.fault.CommandFault.TheVariants.{Form}
use Rattle.command_support.specs.declared.form_fault.FormFault.TheVariants.{Cuts}
use Rattle.command_support.specs.Cuts.{between_commas}
use Rattle.command_support.proofs.CutLemmas.{cut_off, not_cut, read_on, read_all, not_read}
use Rattle.command_support.proofs.cuts.read_cuts.Goals as goal

pub more-preserved : goal.more-preserved
more-preserved c =
    let read = c.more.invariant.read in
    let off = cut_off c.more.rest.now c.split_once.result c.in-Some.front c.in-Some.behind c.split_once.ensures.cases c.in-Some.is in
    record {
      text = search rules;
      read = read_on c.args.text.now c.more.rest.now read.0 c.more.cuts.items read.1 read.2 c.in-Some.front.now c.in-Some.behind.now c.push_cut.new.cuts.items off c.in-Ok.ensures.cuts;
    }

pub returns-in-Err : goal.returns-in-Err
returns-in-Err c = record {
  cuts = tt;
  none = λ is.
      let read = c.more.invariant.read in
      let off = cut_off c.more.rest.now c.split_once.result c.in-Some.front c.in-Some.behind c.split_once.ensures.cases c.in-Some.is in
      let same : c.in-Err.fault ≡ Form Cuts = cc in
      not_read c.args.text.now c.more.rest.now read.0 c.more.cuts.items read.1 read.2 c.in-Some.front.now (between_commas c.in-Some.behind.now) off (c.push_cut.ensures.none (c.in-Err.is ∙ ap Err same));
  fault = c.in-Err.ensures.fault;
}

pub returns-in-Ok-push_cut : goal.returns-in-Ok-push_cut
returns-in-Ok-push_cut c =
    let read = c.more.invariant.read in
    record {
      cuts = read_all c.args.text.now c.more.rest.now read.0 c.more.cuts.items read.1 read.2 c.push_cut-2.new.cuts.items
          (not_cut c.more.rest.now c.split_once.result c.split_once.ensures.cases c.in_default.is) c.in-Ok-push_cut.ensures.cuts;
      none = λ is. absurd (cc);
      fault = tt;
    }

pub returns-in-Err-push_cut : goal.returns-in-Err-push_cut
returns-in-Err-push_cut c = record {
  cuts = tt;
  none = λ is.
      let read = c.more.invariant.read in
      let same : c.in-Err-push_cut.fault ≡ Form Cuts = cc in
      not_read c.args.text.now c.more.rest.now read.0 c.more.cuts.items read.1 read.2 c.more.rest.now []
      (not_cut c.more.rest.now c.split_once.result c.split_once.ensures.cases c.in_default.is) (c.push_cut-2.ensures.none (c.in-Err-push_cut.is ∙ ap Err same));
  fault = c.in-Err-push_cut.ensures.fault;
}
