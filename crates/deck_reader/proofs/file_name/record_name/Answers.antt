use Rattle.std.proofs.Common.{refl, sym, ap, ◌∙◌}
use Rattle.std.specs.Prelude.{position}
use Rattle.record_layout.specs.Layout.{is_named}
use Rattle.deck_reader.specs.Parts.{record_named}
use Rattle.deck_reader.proofs.JoinLemmas.{refused, told_there}
use Rattle.deck_reader.proofs.file_name.record_name.Goals as goal

pub returns-in-None : goal.returns-in-None
unfolding record_named
returns-in-None c =
    let named = ap (λ text. position (λ file. is_named text file.entry) c.args.names.now.files) c.as_str.ensures.value in
    let none = sym named ∙ (sym c.record.ensures ∙ c.in-None.is) in (
      refused _ _ (rw (c.in_ok-name.ensures.reads) (rw none refl)),
      rw (c.in_ok-name.ensures.reads) (told_there c.args.parser.now c.place-place.result _ c.fault.result c.fault.ensures.given c.place-place.ensures),
    )
