use Rattle.command_words.proofs.asked.records_of.Goals as goal

pub returns-clause-none : goal.returns-clause-none
returns-clause-none c =
    λ none. record {
      no_cobol = c.cobol_of.ensures.none c.in_default.is;
      no_load = c.load_of.ensures.none c.in_default-load_of.is;
      no_stat = c.stat_of.ensures.none c.in_default-stat_of.is;
      no_salvage = c.salvage_of.ensures.none c.in_default-salvage_of.is;
      no_copy = c.copy_of.ensures.none none;
    }
