-- The laws of a receive that is cut and goes on (zfs-receive(8), -s; zfs-send(8), -t).
use Rattle.std.specs.Prelude.{ℕ, ◌≡◌, true, List, ◌∷◌, Some, None, Ok}
use Rattle.std.specs.List.{concat}
use Rattle.zst_model.specs.declared.sends.header.Header.{Header}
use Rattle.zst_model.specs.declared.sends.header.Point.{Point}
use Rattle.zst_model.specs.declared.states.item.Item.{Item}
use Rattle.zst_model.specs.pools.KeptPool.{kept_of}
use Rattle.zst_model.specs.pools.Pool.{Pool, Partial, IsPool, partial_of}
use Rattle.zst_model.specs.sends.Headers.{Sent, header_of, choice_of, sent_view}
use Rattle.zst_model.specs.sends.PartialProgress.{IsPartWay}
use Rattle.zst_model.specs.sends.Points.{point_of}
use Rattle.zst_model.specs.sends.Target.{BaseOk, target}
use Rattle.zst_model.specs.states.AppliedItems.{apply_all}
use Rattle.zst_model.specs.states.State.{State, IsState}
use Rattle.zst_plan.specs.RecvPlan.{Base, RecvPlan, Begins, Resumes, component_for, recv_plan}
use Rattle.zst_plan.specs.declared.receive.RecvAsk.{RecvAsk}
use Rattle.zst_record.specs.Heads.{Covered}
use Rattle.zst_record.specs.declared.head.Head.TheVariants as heads
use Rattle.zst_stream.specs.Items.{items_of}
use Rattle.zst_stream.specs.Reading.{reading}
use Rattle.zst_send.specs.Sends.{begun}
use Rattle.zst_recv.specs.Feeds.{receives}
use Rattle.zst_recv.specs.ReceiveSteps.{Lives, Ends, Goes, opened, pool_of}
use Rattle.zst_recv.specs.Tokens.{token_told}
use Rattle.zst_token.specs.PartialToken.{token_for}
use Rattle.zst_replication.specs.Outcomes.{HasOneMore, Progress, base_name, base_objects, course_on}
use Rattle.zst_replication.specs.Replicas.{AreOfStream, IsSendable, MatchesBase, sent_state}

-- the target has a partial state that is kept, and that is part of the way to what is sent, from a base of this state
pub record IsUnderway (sent : Sent) (target : List ℕ) (state : State) (pool : Pool) (partial : Partial) : Type 0 where
  pub there : partial_of target pool ≡ Some partial
  pub kept : partial.keep ≡ true
  pub way : IsPartWay (sent_view sent) state partial.point partial

-- a send that gives the same view as another, and whose rest from this point a stream can state
pub record GivesRest (sent also : Sent) (point : Point) : Type 0 where
  pub same_view : sent_view also ≡ sent_view sent
  pub sendable : IsSendable also (Some point)

-- Every stop of a receive that goes on, wherever the rest of its stream is cut off and however it is cut into pieces: what the image keeps is in
-- its progress, from the partial state that it went on with. The rest may come of another send that gives the same view.
abbrev pub ResumedStopsAreProgress : Type 0
ResumedStopsAreProgress =
    (sent also : Sent) (state : State) (ask : RecvAsk) (pool : Pool) (partial : Partial) (pieces : List (List ℕ))
    → IsPool pool → IsUnderway sent ask.target state pool partial → GivesRest sent also partial.point → AreOfStream pieces also (Some partial.point)
    → Progress ask (sent_view sent) (course_on partial state) (kept_of pool) (kept_of (pool_of (receives ask pool pieces)))

-- However it is cut into pieces, the rest of a stream that is received to its end makes one snapshot more: what the view makes of the base, of
-- the partial state's component and over its base.
abbrev pub RestIsReceived : Type 0
RestIsReceived =
    (sent also : Sent) (state : State) (ask : RecvAsk) (pool after : Pool) (partial last : Partial) (pieces : List (List ℕ))
    → IsPool pool → IsUnderway sent ask.target state pool partial → GivesRest sent also partial.point → AreOfStream pieces also (Some partial.point)
    → receives ask pool pieces ≡ Goes after (Ends last)
    → (whole : State) × (target (sent_view sent) state ≡ Ok whole) × HasOneMore pool after ask.target partial.component partial.base (header_of sent) whole

-- So it makes the snapshot that was sent, redacted as it was asked, where the base was fit for it.
abbrev pub FitRestIsReceived : Type 0
FitRestIsReceived =
    (sent also : Sent) (state : State) (ask : RecvAsk) (pool after : Pool) (partial last : Partial) (pieces : List (List ℕ))
    → IsPool pool → IsUnderway sent ask.target state pool partial → GivesRest sent also partial.point → AreOfStream pieces also (Some partial.point)
    → IsSendable sent None → IsState state → BaseOk state sent.snapshot.objects (choice_of sent) → receives ask pool pieces ≡ Goes after (Ends last)
    → HasOneMore pool after ask.target partial.component partial.base (header_of sent) (sent_state sent)

-- a partial state is what these items make of that with which a plan begins, at the point to which they lead
pub record IsApplied (ask : RecvAsk) (pool : Pool) (flags : ℕ) (items : List Item) (partial : Partial) : Type 0 where
  pub header : Header
  pub plan : RecvPlan
  pub planned : recv_plan ask header pool ≡ Ok plan
  pub begun : Partial
  pub begins : (opened ask header plan).stage ≡ Lives flags begun
  pub objects : apply_all items begun.objects.state ≡ Ok partial.objects.state
  pub reached : partial.point ≡ point_of begun.point items
  pub stays : partial ≡ record begun { objects = partial.objects; point = partial.point }

-- behind these records a partial state is what they make of that with which it began, and the first of them is the BEGIN that was planned
pub record AppliedBehind (ask : RecvAsk) (start : Pool) (records : List Covered) (flags : ℕ) (partial : Partial) : Type 0 where
  pub is : IsApplied ask start flags (items_of flags records) partial
  pub first : Covered
  pub rest : List Covered
  pub len : ℕ
  pub records_are : records ≡ first ∷ rest
  pub head_is : first.head ≡ heads.Begin is.header len

-- a partial state that was begun has the header of the stream's BEGIN, and one that goes on the header that it had; both guids are BEGIN's
pub record IsHeaded (ask : RecvAsk) (pool : Pool) (header : Header) (partial : Partial) : Type 0 where
  pub fresh : partial_of ask.target pool ≡ None → partial.header ≡ header
  pub resumed : (old : Partial) → partial_of ask.target pool ≡ Some old → partial.header ≡ old.header
  pub to : partial.header.to ≡ header.to
  pub from : partial.header.from ≡ header.from

-- Whatever is read, and however it is cut into pieces: while a receive is under way, its partial state is what all records that the pieces cover
-- make of that with which it began, by the header of the BEGIN among them, and where it is one that is kept, the image has it.
abbrev pub PiecesAreApplied : Type 0
PiecesAreApplied =
    (ask : RecvAsk) (pool now : Pool) (flags : ℕ) (partial : Partial) (pieces : List (List ℕ))
    → receives ask pool pieces ≡ Goes now (Lives flags partial)
    → (behind : AppliedBehind ask pool (reading (concat pieces)).covered flags partial) × IsHeaded ask pool behind.is.header partial
    × (partial.keep ≡ true → partial_of ask.target (kept_of now) ≡ Some partial)

-- Whatever is read, from a send or not, and however it is cut into pieces: a receive into a lawful pool that comes to END makes one snapshot more,
-- with BEGIN's guid and the state that all covered records make of that with which it began; nothing else changes.
abbrev pub EndsAreApplied : Type 0
EndsAreApplied =
    (ask : RecvAsk) (pool after : Pool) (partial : Partial) (pieces : List (List ℕ))
    → IsPool pool → receives ask pool pieces ≡ Goes after (Ends partial)
    → (flags : ℕ) × (behind : AppliedBehind ask pool (reading (concat pieces)).covered flags partial) × IsHeaded ask pool behind.is.header partial
    × HasOneMore pool after ask.target partial.component partial.base partial.header partial.objects.state

-- The token of a partial state that is on its way names the point that stands there, and the stream that is sent by it goes on with that state.
abbrev pub TokensGoOn : Type 0
TokensGoOn =
    (sent : Sent) (state : State) (ask : RecvAsk) (pool : Pool) (partial : Partial) (component : List ℕ)
    → IsUnderway sent ask.target state pool partial → component_for ask (header_of sent) ≡ Ok component
    → (token_told ask.target pool ≡ Ok (token_for (header_of sent) partial.point))
    × (recv_plan ask (begun sent (Some partial.point)) pool ≡ Ok (Resumes partial))

-- A receive in sessions, of a snapshot of this component over this base: the first begins in a pool without a partial state of the target, and each
-- later one goes on from the point at which the partial state stands that the image keeps, with the rest of a send that gives the same view. Between
-- two of them anything may happen that leaves that partial state.
pub data Chain (sent : Sent) (target component : List ℕ) (base : Base) : Pool → Type 0 where
  Begun : (ask : RecvAsk) (pool : Pool) (pieces : List (List ℕ))
      → ask.target ≡ target → IsPool pool → partial_of target pool ≡ None → MatchesBase sent ask pool → recv_plan ask (header_of sent) pool ≡ Ok (Begins component base)
      → IsSendable sent None → AreOfStream pieces sent None
      → Chain sent target component base (kept_of (pool_of (receives ask pool pieces)))
  GoneOn : (also : Sent) (ask : RecvAsk) (pool : Pool) (partial : Partial) (pieces : List (List ℕ))
      → Chain sent target component base pool → ask.target ≡ target → IsPool pool → partial_of target pool ≡ Some partial
      → GivesRest sent also partial.point → AreOfStream pieces also (Some partial.point)
      → Chain sent target component base (kept_of (pool_of (receives ask pool pieces)))
  Between : (pool other : Pool) → Chain sent target component base pool → partial_of target other ≡ partial_of target pool → Chain sent target component base other

-- Whatever sessions a chain has, the partial state that they left is part of the way to what is sent, from the first one's base.
abbrev pub ChainsAreUnderway : Type 0
ChainsAreUnderway =
    (sent : Sent) (target component : List ℕ) (base : Base) (pool : Pool) (partial : Partial)
    → Chain sent target component base pool → partial_of target pool ≡ Some partial
    → IsUnderway sent target (base_objects base).state pool partial × (partial.component ≡ component) × (partial.base ≡ base_name base)

-- So a chain of cut and resumed sessions that comes to END makes one snapshot more: the one that was sent, with its guid, objects, contents and
-- holes, redacted as it was asked, of the first one's component and over its base.
abbrev pub ChainsComplete : Type 0
ChainsComplete =
    (sent also : Sent) (target component : List ℕ) (base : Base) (ask : RecvAsk) (pool after : Pool) (partial last : Partial) (pieces : List (List ℕ))
    → Chain sent target component base pool → ask.target ≡ target → IsPool pool → partial_of target pool ≡ Some partial
    → GivesRest sent also partial.point → AreOfStream pieces also (Some partial.point) → receives ask pool pieces ≡ Goes after (Ends last)
    → HasOneMore pool after target component (base_name base) (header_of sent) (sent_state sent)
