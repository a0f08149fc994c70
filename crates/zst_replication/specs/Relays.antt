-- A redacted snapshot that was received is sent on as it is.
use Rattle.std.specs.Prelude.{ℕ, ◌≡◌, List, Option, None, Ok}
use Rattle.zst_model.specs.declared.sends.ask.SendAsk.{SendAsk}
use Rattle.zst_model.specs.pools.Pool.{Pool, Partial, IsPool, partial_of}
use Rattle.zst_model.specs.sends.Headers.{Sent, IsOf, header_of}
use Rattle.zst_model.specs.sends.SendPlan.{send_plan}
use Rattle.zst_laws.specs.RedactionLists.{HaveOwnGuids}
use Rattle.zst_plan.specs.RecvPlan.{Base, Begins, recv_plan}
use Rattle.zst_plan.specs.declared.receive.RecvAsk.{RecvAsk}
use Rattle.zst_recv.specs.Feeds.{receives}
use Rattle.zst_recv.specs.ReceiveSteps.{Ends, Goes}
use Rattle.zst_replication.specs.MatchingBases.{IsWithin}
use Rattle.zst_replication.specs.Outcomes.{HasOneMore, base_name}
use Rattle.zst_replication.specs.Replicas.{AreOfStream, MatchesBase, sent_state}

-- the stream of what is sent came to its end in a lawful pool, where the target had no partial state and the base matched
pub record Arrives (sent : Sent) (ask : RecvAsk) (pool after : Pool) (partial : Partial) (pieces : List (List ℕ)) : Type 0 where
  pub lawful : IsPool pool
  pub alone : partial_of ask.target pool ≡ None
  pub matches : MatchesBase sent ask pool
  pub of_stream : AreOfStream pieces sent None
  pub ends : receives ask pool pieces ≡ Goes after (Ends partial)

-- of a lawful pool without two snapshots of one guid, the snapshot that has the guid of what was sent is sent on as it is: from any source, and
-- without a redaction bookmark
pub record IsPassedOn (sent : Sent) (pool : Pool) (again : SendAsk) (also : Sent) : Type 0 where
  pub lawful : IsPool pool
  pub own_guids : HaveOwnGuids pool
  pub planned : send_plan again pool ≡ Ok also
  pub unmarked : also.redaction ≡ None
  pub same_guid : also.snapshot.guid ≡ (header_of sent).to

-- a send gives what another gave: the state, in which the same blocks are redacted, and the guid, the redaction guids and the time of its snapshot
pub record GivesAlike (sent also : Sent) : Type 0 where
  pub state : sent_state also ≡ sent_state sent
  pub guids : (header_of also).redact ≡ (header_of sent).redact
  pub to : (header_of also).to ≡ (header_of sent).to
  pub time : (header_of also).time ≡ (header_of sent).time

-- The snapshot that a receive made of a send, in one session or in many, can be sent on as it is, from any source, and that gives what the first send
-- gave.
abbrev pub LeftIsSentOn : Type 0
LeftIsSentOn =
    (from pool after : Pool) (target component : List ℕ) (base : Option (List ℕ)) (sent also : Sent)
    → IsOf from sent → IsWithin sent → (more : HasOneMore pool after target component base (header_of sent) (sent_state sent))
    → also.snapshot ≡ more.snapshot → also.redaction ≡ None → IsWithin also × GivesAlike sent also

-- So what can't be read after two hops is what can't be read after the first, and the guid, the redaction guids, the time and all that can be read are
-- equal: a snapshot that was sent, redacted as it was asked, and received, is sent on from there as it is and received once more, with the same state.
abbrev pub RelayedIsReceived : Type 0
RelayedIsReceived =
    (first again : SendAsk) (from pool after third last : Pool) (sent also : Sent) (ask asked : RecvAsk) (partial other : Partial) (pieces others : List (List ℕ))
    → IsPool from → send_plan first from ≡ Ok sent → IsWithin sent → Arrives sent ask pool after partial pieces
    → IsPassedOn sent after again also → Arrives also asked third last other others
    → GivesAlike sent also × (base : Base) × (recv_plan asked (header_of also) third ≡ Ok (Begins other.component base))
    × HasOneMore third last asked.target other.component (base_name base) (header_of also) (sent_state sent)
