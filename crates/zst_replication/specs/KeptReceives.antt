-- What of a receive is kept, piece after piece (zfs-receive(8), -s), and the tokens that are told of it.
use Rattle.std.specs.Prelude.{ℕ, ◌≡◌, ◌++◌, Bool, true, false, List, take, Some, None, Ok, Err}
use Rattle.std.specs.List.{concat}
use Rattle.std.specs.Option.{option_map_or}
use Rattle.zst_model.specs.declared.refusals.plan_fault.PlanFault.TheVariants.{NoPartial}
use Rattle.zst_model.specs.pools.KeptPool.{kept_of}
use Rattle.zst_model.specs.pools.Pool.{Pool, Partial, partial_of}
use Rattle.zst_model.specs.sends.Headers.{Sent, sent_view}
use Rattle.zst_model.specs.sends.Points.{point_of}
use Rattle.zst_model.specs.states.AppliedItems.{apply_all}
use Rattle.zst_plan.specs.declared.receive.RecvAsk.{RecvAsk}
use Rattle.zst_record.specs.Heads.{Covered}
use Rattle.zst_stream.specs.Items.{items_of}
use Rattle.zst_stream.specs.Reading.{reading}
use Rattle.zst_send.specs.Sends.{begun_text}
use Rattle.zst_recv.specs.Feeds.{receives}
use Rattle.zst_recv.specs.ReceiveSteps.{Lives, Goes}
use Rattle.zst_recv.specs.Tokens.{token_told}
use Rattle.zst_token.specs.declared.token.Token.{Token}

-- whether a receive is one that is kept: as the target's partial state is, or as it was asked
abbrev pub keep_by : RecvAsk → Pool → Bool
keep_by ask start = option_map_or (λ old. old.keep) (partial_of ask.target start) ask.keep

-- Whatever is read: a partial state that a receive begins is kept where `-s` was asked, and one with which it goes on where it was kept before; so
-- it stays piece after piece, and the image has it.
abbrev pub KeptAsAsked : Type 0
KeptAsAsked =
    (ask : RecvAsk) (pool now : Pool) (flags : ℕ) (partial : Partial) (pieces : List (List ℕ))
    → receives ask pool pieces ≡ Goes now (Lives flags partial)
    → (partial_of ask.target pool ≡ None → partial.keep ≡ ask.keep)
    × ((old : Partial) → partial_of ask.target pool ≡ Some old → partial.keep ≡ old.keep)
    × (partial.keep ≡ true → partial_of ask.target (kept_of now) ≡ Some partial)

-- a partial state is what these records make of an earlier one of the same receive
pub record IsFurther (flags : ℕ) (others : List Covered) (partial next : Partial) : Type 0 where
  pub objects : apply_all (items_of flags others) partial.objects.state ≡ Ok next.objects.state
  pub reached : next.point ≡ point_of partial.point (items_of flags others)
  pub stays : next ≡ record partial { objects = next.objects; point = next.point }

-- No piece takes back what an earlier one left: the partial state that stands after more pieces is what the records that they cover beside make of
-- the one that stood before them.
abbrev pub PiecesGoFurther : Type 0
PiecesGoFurther =
    (ask : RecvAsk) (pool now later : Pool) (flags other : ℕ) (partial next : Partial) (pieces more : List (List ℕ))
    → receives ask pool pieces ≡ Goes now (Lives flags partial) → receives ask pool (pieces ++ more) ≡ Goes later (Lives other next)
    → (others : List Covered) × ((reading (concat (pieces ++ more))).covered ≡ (reading (concat pieces)).covered ++ others) × (other ≡ flags)
    × IsFurther flags others partial next

-- A token is told of a dataset's partial state that is kept, and of no other: E14 otherwise.
abbrev pub TokensAreOfKept : Type 0
TokensAreOfKept =
    (dataset : List ℕ) (pool : Pool)
    → ((token : Token) → token_told dataset pool ≡ Ok token → (partial : Partial) × (partial_of dataset pool ≡ Some partial) × (partial.keep ≡ true))
    × ((partial : Partial) → partial_of dataset pool ≡ Some partial → partial.keep ≡ true
    → (token : Token) × (token_told dataset pool ≡ Ok token) × (token.to ≡ partial.header.to) × (token.from ≡ partial.header.from) × (token.point ≡ partial.point))
    × ((partial : Partial) → partial_of dataset pool ≡ Some partial → partial.keep ≡ false → token_told dataset pool ≡ Err (NoPartial dataset))
    × (partial_of dataset pool ≡ None → token_told dataset pool ≡ Err (NoPartial dataset))

-- Partial states that are kept, with one header and one point, have one token, wherever they stand and whatever they hold.
abbrev pub TokensAgree : Type 0
TokensAgree =
    (dataset other : List ℕ) (pool beside : Pool) (partial also : Partial)
    → partial_of dataset pool ≡ Some partial → partial_of other beside ≡ Some also → partial.keep ≡ true → also.keep ≡ true
    → partial.header ≡ also.header → partial.point ≡ also.point → token_told dataset pool ≡ token_told other beside

-- Receives into targets without a partial state that have read the same bytes, in whatever pieces, and keep what they have, tell one token, whatever
-- their pools hold.
abbrev pub TextsHaveTokens : Type 0
TextsHaveTokens =
    (ask other : RecvAsk) (pool beside now later : Pool) (flags more : ℕ) (partial also : Partial) (pieces parts : List (List ℕ))
    → partial_of ask.target pool ≡ None → partial_of other.target beside ≡ None → concat pieces ≡ concat parts
    → receives ask pool pieces ≡ Goes now (Lives flags partial) → receives other beside parts ≡ Goes later (Lives more also) → partial.keep ≡ true → also.keep ≡ true
    → token_told ask.target (kept_of now) ≡ token_told other.target (kept_of later)

-- So do receives of two sends of one view that were cut at the same byte, whatever the redacted blocks of their snapshots held.
abbrev pub ViewsHaveTokens : Type 0
ViewsHaveTokens =
    (sent twin : Sent) (ask other : RecvAsk) (pool beside now later : Pool) (flags more count : ℕ) (partial also : Partial) (pieces parts : List (List ℕ))
    → sent_view sent ≡ sent_view twin → partial_of ask.target pool ≡ None → partial_of other.target beside ≡ None
    → concat pieces ≡ take count (begun_text sent None) → concat parts ≡ take count (begun_text twin None)
    → receives ask pool pieces ≡ Goes now (Lives flags partial) → receives other beside parts ≡ Goes later (Lives more also) → partial.keep ≡ true → also.keep ≡ true
    → token_told ask.target (kept_of now) ≡ token_told other.target (kept_of later)
