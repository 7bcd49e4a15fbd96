use Rattle.std.proofs.Common.{List, ℕ, Option, Some, None, Bor, sym, subst}
use Rattle.folder_shelf.proofs.ReadingLemmas.{by_same}
use Rattle.file_commands.specs.Schema.{AnswersSchema}
use Rattle.file_commands.proofs.SchemaLemmas.{told_alone, compared_with}
use Rattle.file_commands.proofs.first_page.schema.Goals as goal

pub returns-in-None-None : goal.returns-in-None-None
returns-in-None-None g c =
    let input = g.I.Read.remaining c.args.input.now in
    let path = c.args.path.now in
    let contents = g.W.Write.contents in
    let old = c.args.out.now in
    let new = c.schema_path.new.out in
    by_same _ _ c.schema_path.ensures (λ calls told.
    subst (λ (deck : Option (Bor (List ℕ))). AnswersSchema input path deck c.args.name contents old new c.schema_path.result calls) (sym c.in-None-None.is-0)
    (subst (λ (name : Option (Bor (List ℕ))). AnswersSchema input path None name contents old new c.schema_path.result calls) (sym c.in-None-None.is-1)
    (told_alone input path contents old new calls c.schema_path.result told)))

pub returns-in-Some-Some : goal.returns-in-Some-Some
returns-in-Some-Some g c =
    let input = g.I.Read.remaining c.args.input.now in
    let path = c.args.path.now in
    let contents = g.W.Write.contents in
    let old = c.args.out.now in
    let new = c.compare_path.new.out in
    by_same _ _ c.compare_path.ensures (λ calls compared.
    subst (λ (deck : Option (Bor (List ℕ))). AnswersSchema input path deck c.args.name contents old new c.compare_path.result calls) (sym c.in-Some-Some.is-0)
    (subst (λ (name : Option (Bor (List ℕ))). AnswersSchema input path (Some c.in-Some-Some.deck) name contents old new c.compare_path.result calls) (sym c.in-Some-Some.is-1)
    (compared_with input path contents old new calls c.in-Some-Some.deck c.in-Some-Some.name c.compare_path.result compared)))
