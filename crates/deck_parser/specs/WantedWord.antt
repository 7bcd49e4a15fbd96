-- The class of what is wanted at a word.
use Rattle.deck_parser.specs.declared.wanted.WantedWord.{WantedWord}
use Rattle.deck_parser.specs.declared.wanted.WantedWord.TheVariants as wanted
use Rattle.deck_parser.specs.declared.wanted.WantedClass.{WantedClass}
use Rattle.deck_parser.specs.declared.wanted.WantedClass.TheVariants as class

-- the class of what is wanted
abbrev pub class_wanted : WantedWord → WantedClass
class_wanted (wanted.Word text) = class.Word
class_wanted (wanted.Sign text) = class.Sign
class_wanted (wanted.Name of) = class.Name
class_wanted wanted.Number = class.Number
class_wanted wanted.Level = class.Level
class_wanted wanted.Picture = class.Picture
class_wanted wanted.Literal = class.Literal
class_wanted wanted.Period = class.Period
