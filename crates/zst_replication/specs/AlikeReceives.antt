-- Receives of equal pieces, into pools that may differ in all else (zfs-receive(8), -s).
use Rattle.std.specs.Prelude.{◌≡◌, false, List, ℕ, Option, Some, None}
use Rattle.zst_model.specs.pools.KeptPool.{KeepsAll, kept_of}
use Rattle.zst_model.specs.pools.Pool.{Pool, Partial, partial_of}
use Rattle.zst_plan.specs.declared.receive.RecvAsk.{RecvAsk}
use Rattle.zst_recv.specs.Answers.{is_done}
use Rattle.zst_recv.specs.Feeds.{receives}
use Rattle.zst_recv.specs.ReceiveSteps.{Stage, Goes}
use Rattle.zst_recv.specs.Tokens.{token_told}

-- neither target has a partial state, or both have one, of one header and at one point
abbrev pub BeginAlike : Option Partial → Option Partial → Type 0
BeginAlike None None = Unit {0}
BeginAlike None (Some also) = ⊥
BeginAlike (Some partial) None = ⊥
BeginAlike (Some partial) (Some also) = (partial.header ≡ also.header) × (partial.point ≡ also.point)

-- Whatever is read: two receives that are asked alike and get equal pieces, of which neither comes to END, leave equal tokens of their targets, or none, where both
-- targets began alike, whatever else the pools hold: the bases, the dates and the bytes of what was received may differ.
abbrev pub EqualPiecesTellAlike : Type 0
EqualPiecesTellAlike =
    (ask : RecvAsk) (pool beside now later : Pool) (stage other : Stage) (pieces : List (List ℕ)) → KeepsAll pool → KeepsAll beside
    → BeginAlike (partial_of ask.target pool) (partial_of ask.target beside)
    → receives ask pool pieces ≡ Goes now stage → is_done stage ≡ false → receives ask beside pieces ≡ Goes later other → is_done other ≡ false
    → token_told ask.target (kept_of now) ≡ token_told ask.target (kept_of later)
