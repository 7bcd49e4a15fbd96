-- What a word says, as it is spelled in a deck.
use Rattle.std.specs.Prelude.{ℕ, List}
use Rattle.deck_parser.specs.declared.spelling.Spelled.{Spelled}
use Rattle.deck_parser.specs.declared.spelling.Spelled.TheVariants as says
use Rattle.deck_parser.specs.Word.{WordKind, Plain, Literal, Sign, sign_text}

abbrev pub spelled_kind : Spelled → WordKind
spelled_kind (says.Plain plain) = Plain
spelled_kind (says.Literal text) = Literal
spelled_kind (says.Sign sign) = Sign

abbrev pub spelled_text : Spelled → List ℕ
spelled_text (says.Plain plain) = plain
spelled_text (says.Literal text) = text
spelled_text (says.Sign sign) = sign_text sign
