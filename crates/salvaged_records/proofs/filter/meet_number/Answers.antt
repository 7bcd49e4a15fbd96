use Rattle.std.proofs.Common.{ap, ◌∙◌, ◌&&◌, Bool}
use Rattle.salvaged_records.specs.Filter.{is_marked}
use Rattle.salvaged_records.proofs.FilterLemmas.{keeps_marks, three_met}
use Rattle.salvaged_records.proofs.filter.meet_number.Goals as goal

pub returns : goal.returns
returns c =
    let old = c.args.words.now in
    let one = c.mark_bit-first.new.words in
    let two = c.mark_bit-second.new.words in
    let new = c.mark_bit-third.new.words in
    let first = c.mark_bit-first.ensures in
    let second = c.mark_bit-second.ensures in
    let third = c.mark_bit-third.ensures in
    three_met old one two new c.args.number c.bit_by.result c.bit_by-2.result c.bit_by-3.result c.all_of.result c.bit_by.ensures.value c.bit_by-2.ensures.value c.bit_by-3.ensures.value
    first.here second.here third.here (keeps_marks old one c.bit_by.result first.here first.others) (keeps_marks one two c.bit_by-2.result second.here second.others)
    (keeps_marks two new c.bit_by-3.result third.here third.others) (third.long ∙ second.long ∙ first.long)
    (c.all_of.ensures ∙ ap (λ (b : Bool). b && (c.mark_bit-second.result && c.mark_bit-third.result)) first.before
    ∙ ap (λ (b : Bool). is_marked old c.bit_by.result && (b && c.mark_bit-third.result)) second.before
    ∙ ap (λ (b : Bool). is_marked old c.bit_by.result && (is_marked one c.bit_by-2.result && b)) third.before)
