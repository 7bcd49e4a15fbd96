-- What each call of a builder makes of the rule of an argument.
use Rattle.std.proofs.Common.{◌≡◌, ◌∙◌, true, [], ◌∷◌, Option, Some, sym, subst, ap, Bor}
use Rattle.clap.specs.Words.{Rule, Text}
use Rattle.clap.specs.declared.builder.action.ArgAction.{ArgAction}
use Rattle.clap.specs.declared.builder.arg.Arg.{Arg}
use Rattle.clap.specs.declared.builder.texts.Texts.TheVariants.{One}
use Rattle.clap.specs.declared.builder.value_parser.ValueParser.{ValueParser}
use Rattle.command_words.specs.Commands.{HasRule}

module _ (rule : Rule) (old new : Arg) (has : HasRule rule old) where
  pub with_value_name : (name : Bor Text) → new ≡ record old { val_names = One name } → HasRule (record rule { value_names = 1 }) new
  with_value_name name is =
      subst (HasRule (record rule { value_names = 1 })) (sym is)
      (ap (λ (r : Rule). record r { value_names = 1 }) has.0, has.1)

  pub with_required : new ≡ record old { required = true } → HasRule (record rule { required = true }) new
  with_required is =
      subst (HasRule (record rule { required = true })) (sym is)
      (ap (λ (r : Rule). record r { required = true }) has.0, has.1)

  pub with_help : (text : Bor Text) → new ≡ record old { help = Some text } → HasRule rule new
  with_help text is = subst (HasRule rule) (sym is) has

  pub with_long : (name : Bor Text) → new ≡ record old { long = Some name } → HasRule (record rule { long = Some name.now }) new
  with_long name is =
      subst (HasRule (record rule { long = Some name.now })) (sym is)
      (ap (λ (r : Rule). record r { long = Some name.now }) has.0, has.1)

  pub with_action : (action : ArgAction) → new ≡ record old { action = Some action }
      → HasRule (record rule { action = Some action }) new
  with_action action is =
      subst (HasRule (record rule { action = Some action })) (sym is)
      (ap (λ (r : Rule). record r { action = Some action }) has.0, has.1)

  pub with_default : (text : Bor Text) → new ≡ record old { default_vals = One text }
      → HasRule (record rule { defaults = text.now ∷ [] }) new
  with_default text is =
      subst (HasRule (record rule { defaults = text.now ∷ [] })) (sym is)
      (ap (λ (r : Rule). record r { defaults = text.now ∷ [] }) has.0, has.1)

  pub with_hidden_default : new ≡ record old { hide_default_value = true } → HasRule rule new
  with_hidden_default is = subst (HasRule rule) (sym is) has

  pub with_parser : (parser : ValueParser) → new ≡ record old { value_parser = new.value_parser } → new.value_parser ≡ Some parser
      → HasRule (record rule { parser = Some parser }) new
  with_parser parser is given =
      let set : new ≡ record old { value_parser = Some parser } =
      is ∙ ap (λ (p : Option ValueParser). record old { value_parser = p }) given in
      subst (HasRule (record rule { parser = Some parser })) (sym set)
      (ap (λ (r : Rule). record r { parser = Some parser }) has.0, has.1)
