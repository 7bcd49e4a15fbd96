use Rattle.file_control.proofs.ItemLemmas.{refused_digits, all_digits}
use Rattle.file_control.proofs.files.items_of.Goals as goal

pub returns-in_default-digits_of_item : goal.returns-in_default-digits_of_item
returns-in_default-digits_of_item c = record {
  given = tt;
  none = λ f items h.
      refused_digits c.args.storage.now c.in-Some.item.now c.more.rest.now c.in-Some.after.now c.more.items c.more.invariant c.in-Some.ensures.cases.0
      c.in_default-digits_of_item.ensures.none items h;
}

pub returns : goal.returns
returns c = record { given = all_digits c.args.storage.now c.more.rest.now c.more.items c.more.invariant c.in_default.ensures.cases; none = tt }
