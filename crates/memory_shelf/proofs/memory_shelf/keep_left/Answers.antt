use Rattle.std.proofs.Common.{rules, ◌≡◌, ◌∙◌, ◌++◌, ◌∷◌, [], option_map, ap, sym, true, bytes_eq}
use Rattle.memory_shelf.specs.MemFiles.{is_file_of_name}
use Rattle.memory_shelf.proofs.MemFilesLemmas.{file_push}
use Rattle.memory_shelf.proofs.MemLemmas.{crashed_some, push_other}
use Rattle.memory_shelf.proofs.memory_shelf.keep_left.Goals as goal

pub returns-in_ok-map_err-in-Some-clause-this : goal.returns-in_ok-map_err-in-Some-clause-this
returns-in_ok-map_err-in-Some-clause-this c name is none =
    let left = c.in_ok-left-in-Some.left in
    let named : is_file_of_name left name ≡ true = ap (λ (n : _). bytes_eq n.bytes name) c.in_ok-left-in-Some.ensures.named ∙ is in
    let pushed : c.push.new.self.items ≡ c.args.files.now.items ++ left ∷ [] = search rules in
    let image = sym (ap (option_map (λ (v : _). v.items)) c.in-Some.is) ∙ c.in_ok-bytes.ensures.left in
    let kept = crashed_some c.args.image c.args.file.now left c.in-Some.bytes.items image c.in_ok-left-in-Some.ensures.made in
    rw (pushed, file_push c.args.files.now.items left name none named) kept

pub returns-in_ok-map_err-in-Some-clause-others : goal.returns-in_ok-map_err-in-Some-clause-others
returns-in_ok-map_err-in-Some-clause-others c name isnt =
    let left = c.in_ok-left-in-Some.left in
    let pushed : c.push.new.self.items ≡ c.args.files.now.items ++ left ∷ [] = search rules in
    let other = ap (λ (n : _). bytes_eq n.bytes name) c.in_ok-left-in-Some.ensures.named ∙ isnt in
    rw pushed (push_other c.args.files.now.items left name other)
