use Rattle.std.proofs.Common.{rules, ◌≡◌, [], List, Option, map, option_map, unwrap_or, sym, ap, ◌∙◌, Bor}
use Rattle.std.specs.Prelude.{codes}
use Rattle.clap.specs.Words.{Text, found_of}
use Rattle.command_words.proofs.MetLemmas.{all_read}
use Rattle.command_words.proofs.asked.conditions_of.Goals as goal

-- the texts of what was read, or none
abbrev texts : Option (Bor (List (Bor Text))) → List Text
texts read = unwrap_or (option_map (λ s. map (λ v. v.now) s.now) read) []

pub returns-in_ok-conditions-in-Some : goal.returns-in_ok-conditions-in-Some
returns-in_ok-conditions-in-Some c =
    let same : c.in_ok-conditions-in-Some.conditions.items ≡ c.in-Some.words.now = search rules in
    all_read (found_of c.args.list.now) (codes "where") c.get_strs.result c.get_strs.ensures ∙ ap texts c.in-Some.is ∙ ap (λ (l : List (Bor Text)). map (λ v. v.now) l) (sym same)

pub returns-in-None : goal.returns-in-None
returns-in-None c =
    all_read (found_of c.args.list.now) (codes "where") c.get_strs.result c.get_strs.ensures ∙ ap texts c.in-None.is ∙ ap (λ (l : List (Bor Text)). map (λ v. v.now) l) (sym c.new.ensures.items)
