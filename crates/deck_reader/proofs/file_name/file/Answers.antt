use Rattle.std.proofs.Common.{refl, sym, ap, ◌∙◌}
use Rattle.std.specs.Prelude.{bytes_eq, position}
use Rattle.deck_reader.specs.StatementRules.{file}
use Rattle.deck_reader.proofs.JoinLemmas.{refused, told_there}
use Rattle.deck_reader.proofs.file_name.file.Goals as goal

pub returns-in-None : goal.returns-in-None
unfolding file
returns-in-None c =
    let named = ap (λ text. position (λ known. bytes_eq known.name text) c.args.names.now.files) c.as_str.ensures.value in
    let none = sym named ∙ (sym c.file.ensures ∙ c.in-None.is) in (
      refused _ _ (rw (c.in_ok-name.ensures.reads) (rw none refl)),
      rw (c.in_ok-name.ensures.reads) (told_there c.args.parser.now c.place-place.result _ c.fault.result c.fault.ensures.given c.place-place.ensures),
    )
