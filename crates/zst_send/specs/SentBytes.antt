-- What is sent of a lawful pool is bytes.
use Rattle.std.specs.Prelude.{◌≡◌, None, Ok, Some}
use Rattle.zst_model.specs.declared.sends.ask.SendAsk.{SendAsk}
use Rattle.zst_model.specs.pools.Pool.{IsPool, Pool}
use Rattle.zst_model.specs.sends.Headers.{Sent}
use Rattle.zst_model.specs.sends.SendPlan.{send_plan, with_list}
use Rattle.zst_model.specs.states.State.{AreBytes}
use Rattle.zst_token.specs.declared.token.Token.{Token}
use Rattle.zst_send.specs.Openings.{rest_of}
use Rattle.zst_send.specs.Sends.{begun_text}

-- What was asked for is sent as bytes, from its beginning.
abbrev pub SentAreBytes : Type 0
SentAreBytes = (ask : SendAsk) (pool : Pool) (sent : Sent) → IsPool pool → with_list (send_plan ask pool) ≡ Ok sent → AreBytes (begun_text sent None)

-- What a token asks for is sent as bytes, from the token's point.
abbrev pub RestsAreBytes : Type 0
RestsAreBytes = (token : Token) (pool : Pool) (sent : Sent) → IsPool pool → with_list (rest_of token pool) ≡ Ok sent → AreBytes (begun_text sent (Some token.point))
