use Rattle.std.proofs.Common.{◌∙◌, sym, ap}
use Rattle.deck_parser.specs.Fault.{told}
use Rattle.deck_parser.specs.declared.fault.DeckFault.{DeckFault}
use Rattle.deck_parser.proofs.CutLemmas.{words_are_one, words_have_no_fault, faults_are_one}
use Rattle.deck_parser.proofs.scanner.one_reading.Goals as goal

pub returns : goal.returns
returns c = record {
  words = λ bytes a b h k. words_are_one bytes a b h k;
  apart = λ bytes words fault h f. ap (λ (d : DeckFault). d.code) (f.1 ∙ ap told (words_have_no_fault bytes words f.0 h f.2));
  faults = λ bytes a b f g p q.
      let same = faults_are_one bytes f.0 g.0 f.2 g.2
      (λ e. p (ap (λ (d : DeckFault). d.code) (f.1 ∙ ap told e))) (λ e. q (ap (λ (d : DeckFault). d.code) (g.1 ∙ ap told e))) in
      f.1 ∙ (same ∙ sym g.1);
}
