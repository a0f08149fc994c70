use Rattle.std.proofs.Common.{ap, sym, ◌∙◌}
use Rattle.zst_token.specs.Parser.{token_of}
use Rattle.zst_token.proofs.Texts.{printed, token_exact}
use Rattle.zst_token.proofs.token.Token.parse.Goals as goal

pub returns-clause-printed : goal.returns-clause-printed
returns-clause-printed c = printed c.args.text.now c.token_of.result (c.token_of.ensures ∙ ap token_of c.as_bytes.ensures.value)

pub returns-clause-read : goal.returns-clause-read
returns-clause-read c = λ token lawful is. c.token_of.ensures ∙ ap token_of (c.as_bytes.ensures.value ∙ sym is) ∙ token_exact token lawful
