use Rattle.std.proofs.Common.{◌++◌, encode_utf8, sym, ap, ◌∙◌}
use Rattle.std.proofs.lemmas.Str.{chars_past_char}
use Rattle.ci_props.proofs.pattern.first.Goals as goal

pub returns-clause-split : goal.returns-clause-split
returns-clause-split c =
    let character = c.in_ok-character.character in
    let split = sym c.chars-characters.ensures.rest ∙ c.in_ok-character.ensures.steps.0 ∙ ap (λ rest. encode_utf8 character ++ rest) (sym c.as_str.ensures) in
    chars_past_char c.args.text.now c.as_str.result.now character c.utf8.text split
