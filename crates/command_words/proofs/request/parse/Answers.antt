use Rattle.std.proofs.Common.{◌≡◌, [], map, string_bytes, subst}
use Rattle.clap.specs.Words.{App, HasKind, fault_of, subcommand_of, subcommand_rows_of}
use Rattle.command_words.proofs.AskLemmas.{simple, simple_and_free, met_asked, none_asked, help_asked, nothing_asked}
use Rattle.command_words.proofs.request.parse.Goals as goal

pub returns-in-Ok-clause-asked : goal.returns-in-Ok-clause-asked
returns-in-Ok-clause-asked c =
    let words = map string_bytes c.args.words.now in
    let is = c.requires in
    let faultless = subst (λ (app : App). fault_of app words ≡ []) is (c.in-Ok.ensures.kinds (simple_and_free _ is)) in
    let met = subst (λ (app : App). subcommand_rows_of c.in-Ok.matches ≡ subcommand_of app words) is (c.in-Ok.ensures.ok.2 (simple _ is)).1 in
    met_asked words (subcommand_rows_of c.in-Ok.matches) c.with_matches.result faultless met c.with_matches.ensures.asked

pub returns-in-Ok-clause-nothing : goal.returns-in-Ok-clause-nothing
returns-in-Ok-clause-nothing c =
    let words = map string_bytes c.args.words.now in
    let is = c.requires in
    let faultless = subst (λ (app : App). fault_of app words ≡ []) is (c.in-Ok.ensures.kinds (simple_and_free _ is)) in
    let met = subst (λ (app : App). subcommand_rows_of c.in-Ok.matches ≡ subcommand_of app words) is (c.in-Ok.ensures.ok.2 (simple _ is)).1 in
    none_asked words (subcommand_rows_of c.in-Ok.matches) c.with_matches.result faultless met c.with_matches.ensures.nothing

pub returns-in-Err-clause-asked : goal.returns-in-Err-clause-asked
returns-in-Err-clause-asked c =
    let words = map string_bytes c.args.words.now in
    let is = c.requires in
    let kind = subst (λ (app : App). HasKind (fault_of app words) c.in-Err.error) is (c.in-Err.ensures.kinds (simple_and_free _ is)) in
    help_asked words c.without_matches.result c.in-Err.error kind c.without_matches.ensures.help

pub returns-in-Err-clause-nothing : goal.returns-in-Err-clause-nothing
returns-in-Err-clause-nothing c =
    let words = map string_bytes c.args.words.now in
    let is = c.requires in
    let kind = subst (λ (app : App). HasKind (fault_of app words) c.in-Err.error) is (c.in-Err.ensures.kinds (simple_and_free _ is)) in
    nothing_asked words c.without_matches.result c.in-Err.error kind c.without_matches.ensures.mistake
