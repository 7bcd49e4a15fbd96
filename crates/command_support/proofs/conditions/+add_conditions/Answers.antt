use Rattle.std.proofs.Common.{rules, ◌≡◌, ℕ, List, ◌∷◌, map, Bor, subst, sym}
use Rattle.record_layout.specs.Layout.{item_of}
use Rattle.command_support.specs.Conditions.{AddsConditions, AreWordsRefused, ComesOfWords, texts_of}
use Rattle.command_support.proofs.ConditionLemmas.{no_words, none_added, refused_first, with_first}
use Rattle.command_support.proofs.conditions.+add_conditions.Goals as goal

pub returns-in_default : goal.returns-in_default
returns-in_default t c =
    let none = no_words c.args.words.now c.in_default.ensures.cases in
    let layout = map item_of c.args.items.now in
    record {
      right = subst (λ (words : List (Bor (List ℕ))). AddsConditions layout (texts_of words) c.args.conditions.now.items c.args.conditions.now.items) (sym none) (none_added layout c.args.conditions.now.items);
      refused = tt;
    }

pub returns-in-Err : goal.returns-in-Err
returns-in-Err t c =
    let both : c.args.words.now ≡ c.in-Some.first.now ∷ c.in-Some.rest.now = search rules in
    let layout = map item_of c.args.items.now in
    record {
      right = tt;
      refused = subst (λ (words : List (Bor (List ℕ))). AreWordsRefused layout (texts_of words) c.in-Err.fault) (sym both) (refused_first layout c.in-Some.first.now.now (texts_of c.in-Some.rest.now) c.in-Err.fault c.in-Err.ensures.refused);
    }

pub returns : goal.returns
returns t c =
    let both : c.args.words.now ≡ c.in-Some.first.now ∷ c.in-Some.rest.now = search rules in
    let layout = map item_of c.args.items.now in
    subst (λ (words : List (Bor (List ℕ))). ComesOfWords (λ _. AddsConditions layout (texts_of words) c.args.conditions.now.items c.add_conditions.new.conditions.items) layout (texts_of words) c.add_conditions.result) (sym both)
    (with_first layout c.in-Some.first.now.now (texts_of c.in-Some.rest.now) c.in-Ok.condition c.args.conditions.now.items c.push.new.self.items c.add_conditions.new.conditions.items c.add_conditions.result c.in-Ok.ensures.right (search rules) c.add_conditions.ensures)
