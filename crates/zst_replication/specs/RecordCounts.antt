-- How many records of a stream a receive has applied.
use Rattle.std.specs.Prelude.{ℕ, ◌+◌, ◌≡◌, false, List, [], ◌++◌, length}
use Rattle.zst_model.specs.pools.Pool.{Pool}
use Rattle.zst_model.specs.states.State.{AreBytes}
use Rattle.zst_plan.specs.declared.receive.RecvAsk.{RecvAsk}
use Rattle.zst_stream.specs.Reading.{reading}
use Rattle.zst_recv.specs.Answers.{applied_of, is_done}
use Rattle.zst_recv.specs.Feeds.{fed_piece}
use Rattle.zst_recv.specs.ReceiveSteps.{Stage, Waits, Lives, Ends, Goes}

-- so many records between BEGIN and END are covered by a text behind which a receive stands so
abbrev pub Counts : List ℕ → Stage → ℕ → Type 0
Counts text Waits n = ((reading text).covered ≡ []) × (n ≡ 0)
Counts text (Lives flags partial) n = length (reading text).covered ≡ n + 1
Counts text (Ends partial) n = length (reading text).covered ≡ n + 2

-- what a piece applies is added to them
abbrev pub RecordsAreCounted : Type 0
RecordsAreCounted =
    (ask : RecvAsk) (text piece : List ℕ) (stage after : Stage) (pool next : Pool) (n : ℕ) → AreBytes (text ++ piece) → is_done stage ≡ false
    → Counts text stage n → fed_piece ask text piece stage pool ≡ Goes next after → Counts (text ++ piece) after (n + applied_of ask text piece stage pool)
