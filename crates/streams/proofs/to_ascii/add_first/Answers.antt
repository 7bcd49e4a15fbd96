use Rattle.streams.proofs.FirstLemmas.{kept_in_ascii}
use Rattle.streams.proofs.to_ascii.add_first.Goals as goal

pub returns-clause-added : goal.returns-clause-added
returns-clause-added c =
    rw (c.in_ok-extend_from_slice.ensures.items, c.split_at.ensures.front, c.split_at.ensures.back)
    (kept_in_ascii c.args.backslashes c.args.text.now c.args.list.now.items c.requires (c.first_character.ensures.none c.in_default.is))
