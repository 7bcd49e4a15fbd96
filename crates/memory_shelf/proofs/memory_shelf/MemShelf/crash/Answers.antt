use Rattle.std.proofs.Common.{◌≡◌, ◌∙◌, ◌+◌, ◌++◌, ◌∷◌, [], List, take, ap, sym}
use Rattle.std.proofs.lemmas.List.{take_more}
use Rattle.memory_shelf.specs.MemFiles.{index_of}
use Rattle.memory_shelf.specs.declared.memory_file.MemFile.{MemFile}
use Rattle.memory_shelf.proofs.MemLemmas.{crash_step, crash_hidden, none_is, some_is}
use Rattle.memory_shelf.proofs.memory_shelf.MemShelf.crash.Goals as goal
use Rattle.memory_shelf.proofs.memory_shelf.MemShelf.crash.Goals.{then-is_none+in_ok-keep_left, else-is_none}

pub loop-place-preserved : goal.loop-place-preserved
loop-place-preserved c name =
    let items = c.deref-file-items.result.now in
    let f = c.file-item.result in
    let more : take (c.loop-place.place + 1) items ≡ take c.loop-place.place items ++ f ∷ [] = take_more items c.loop-place.place f c.loop-place-test.true ∙ ap (λ (x : MemFile). take c.loop-place.place items ++ x ∷ []) (sym c.file-item.is) in
    let same = c.deref.ensures.value ∙ sym c.deref-file-items.ensures.value in
    let placed = c.find.ensures.place ∙ ap (λ (l : List MemFile). index_of (take c.loop-place.place l) f.name.bytes) same in
    rw more (elim c.if-is_none.branch [
      | then-is_none+in_ok-keep_left w ↦
          let none = sym placed ∙ none_is c.find.result w.if-is_none.ensures in
          rw w.files-is (crash_step c.args.image (take c.loop-place.place items) f c.loop-place.files.items w.keep_left.new.files.items c.loop-place.invariant none w.in_ok-keep_left.ensures.this w.in_ok-keep_left.ensures.others name)
      | else-is_none w ↦
          let some = some_is c.find.result w.if-is_none.ensures in
          rw w.files-is (crash_hidden c.args.image (take c.loop-place.place items) f c.loop-place.files.items c.loop-place.invariant (λ none. some (placed ∙ none)) name)
    ])
