use Rattle.command_words.proofs.asked.run_or_list_of.Goals as goal

pub returns-clause-none : goal.returns-clause-none
returns-clause-none c =
    λ none. record {
      no_run = c.run_of.ensures.none c.in_default.is;
      no_serve = c.serve_of.ensures.none c.in_default-serve_of.is;
      no_schema = c.schema_of.ensures.none c.in_default-schema_of.is;
      no_explain = c.explain_of.ensures.none c.in_default-explain_of.is;
      no_deck = c.deck_of.ensures.none none;
    }
