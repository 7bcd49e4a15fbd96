use Rattle.std.proofs.Common.{◌≡◌, ◌∙◌, ℕ, List, [], ◌∷◌, MatchOption, Option, Some, None, is_some, true, sym, ap, refl, zero, suc}
use Rattle.memory_shelf.specs.declared.memory_file.MemFile.{MemFile}
use Rattle.memory_shelf.specs.MemFiles.{file_by_name, IsFirstNamedAt, Found}
use Rattle.memory_shelf.proofs.memory_shelf.MemShelfShelf.exists.Goals as goal

both : (fs : List MemFile) (name : List ℕ) (r : Option ℕ) → MatchOption r ((file_by_name fs name).seen ≡ None) (λ i. Found fs name i) → is_some r ≡ is_some (file_by_name fs name).seen
both fs name None none = ap is_some (sym none)
both fs name (Some i) found = there fs i found.at
  where
    there : (fs : List MemFile) (i : ℕ) → IsFirstNamedAt fs name i → true ≡ is_some (file_by_name fs name).seen
    there [] i at = absurd at
    there (f ∷ fs) zero at = rw at refl
    there (f ∷ fs) (suc i) at = rw at.0 (there fs i at.1)

pub returns : goal.returns
returns c = record {
  never = refl;
  answer = c.is_some.ensures ∙ both c.args.self.now.files.items _ c.place.result c.place.ensures.found;
  stays = refl;
}
