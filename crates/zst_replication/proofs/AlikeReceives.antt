-- Receives of equal pieces leave equal tokens.
use Rattle.std.proofs.Common.{◌≡◌, ℕ, Bool, true, false, List, [], ◌∷◌, Option, Some, None, Err, refl, sym, ap, ◌∙◌, subst, find}
use Rattle.std.specs.List.{concat}
use Rattle.std.specs.Prelude.{bytes_eq}
use Rattle.std.proofs.lemmas.Bool.{true≢false}
use Rattle.std.proofs.lemmas.List.Elements.{All-contains}
use Rattle.zst_laws.specs.KeptPools.{KeepingIsDone}
use Rattle.zst_laws.specs.ReceivedRecords.{ReceivedIsApplied}
use Rattle.zst_model.specs.declared.refusals.plan_fault.PlanFault.TheVariants.{NoPartial}
use Rattle.zst_model.specs.declared.sends.header.Header.{Header}
use Rattle.zst_model.specs.declared.sends.header.Point.{Point}
use Rattle.zst_model.specs.pools.KeptPool.{KeepsAll, kept_of}
use Rattle.zst_model.specs.pools.Pool.{Partial, Pool, partial_of}
use Rattle.zst_model.specs.sends.Items.{origin}
use Rattle.zst_model.specs.sends.Points.{point_of}
use Rattle.zst_model.proofs.FoundElements.{found_passes}
use Rattle.zst_plan.specs.RecvPlan.{Begins, RecvPlan, Resumes}
use Rattle.zst_plan.specs.declared.receive.RecvAsk.{RecvAsk}
use Rattle.zst_record.specs.Heads.{Covered}
use Rattle.zst_record.specs.declared.head.Head.TheVariants as heads
use Rattle.zst_recv.specs.Answers.{is_done}
use Rattle.zst_recv.specs.Feeds.{receives}
use Rattle.zst_recv.specs.ReceiveSteps.{Ends, Fed, Goes, Lives, Stage, Waits, begun, opened}
use Rattle.zst_recv.specs.Tokens.{token_of_partial, token_told}
use Rattle.zst_stream.specs.Items.{items_of}
use Rattle.zst_stream.specs.Laws.{FrontsAgree}
use Rattle.zst_stream.specs.Reading.{reading}
use Rattle.zst_replication.specs.AlikeReceives.{BeginAlike, EqualPiecesTellAlike}
use Rattle.zst_replication.specs.KeptReceives.{KeptAsAsked}
use Rattle.zst_replication.specs.Outcomes.{HasNothing}
use Rattle.zst_replication.specs.Replicas.{CutLeavesNothing}
use Rattle.zst_replication.specs.Resumption.{AppliedBehind}
use Rattle.zst_replication.proofs.EndedReceives.{lives_parts}
use Rattle.zst_replication.proofs.FeedSequences.{Way, receives_way}
use Rattle.zst_replication.proofs.KeptReceives.{tokens_agree}
use Rattle.zst_replication.proofs.ReceivePlans.{begins_anew, resumes}

-- ---- how one receive began

-- what it began with: this header, point and keeping, and the flags of the stream's BEGIN
record BeganBy (stated header : Header) (point : Point) (flags : ℕ) (first : Partial) : Type 0 where
  flags_are : flags ≡ stated.flags
  headed : first.header ≡ header
  at : first.point ≡ point

module _ (ask : RecvAsk) (pool : Pool) (flags : ℕ) (partial : Partial) (records : List Covered) (behind : AppliedBehind ask pool records flags partial) where
  abbrev stated : Header
  stated = behind.is.header

  opens_by : (plan : RecvPlan) → behind.is.plan ≡ plan → (opened ask stated plan).stage ≡ Lives flags behind.is.begun
  opens_by plan same = subst (λ (p : RecvPlan). (opened ask stated p).stage ≡ Lives flags behind.is.begun) same behind.is.begins

  began_anew : partial_of ask.target pool ≡ None → BeganBy stated stated origin flags behind.is.begun
  began_anew none =
      let fresh = begins_anew ask stated pool behind.is.plan none behind.is.planned in
      let parts = lives_parts stated.flags flags (begun ask stated fresh.component fresh.base) behind.is.begun (opens_by (Begins fresh.component fresh.base) fresh.plan_is) in
      record { flags_are = sym parts.0; headed = ap (λ (p : Partial). p.header) (sym parts.1); at = ap (λ (p : Partial). p.point) (sym parts.1) }

  began_on : (old : Partial) → partial_of ask.target pool ≡ Some old → BeganBy stated old.header old.point flags behind.is.begun
  began_on old there =
      let parts = lives_parts stated.flags flags old behind.is.begun (opens_by (Resumes old) (resumes ask stated pool old behind.is.plan there behind.is.planned)) in
      record { flags_are = sym parts.0; headed = ap (λ (p : Partial). p.header) (sym parts.1); at = ap (λ (p : Partial). p.point) (sym parts.1) }

  headed_by : (header : Header) (point : Point) → BeganBy stated header point flags behind.is.begun → partial.header ≡ header
  headed_by header point began = ap (λ (p : Partial). p.header) behind.is.stays ∙ began.headed

  reached_by : (header : Header) (point : Point) → BeganBy stated header point flags behind.is.begun → partial.point ≡ point_of point (items_of stated.flags records)
  reached_by header point began =
      behind.is.reached ∙ ap (λ (p : Point). point_of p (items_of flags records)) began.at ∙ ap (λ (f : ℕ). point_of point (items_of f records)) began.flags_are

-- ---- two of the same records

begin_is : (a b : Header) (n m : ℕ) → heads.Begin a n ≡ heads.Begin b m → a ≡ b
begin_is a b n m e = cc

module _ (ask : RecvAsk) (pool beside : Pool) (flags other : ℕ) (partial also : Partial) (records : List Covered)
    (one : AppliedBehind ask pool records flags partial) (two : AppliedBehind ask beside records other also) where
  same_stated : one.is.header ≡ two.is.header
  same_stated =
      let both : one.first ∷ one.rest ≡ two.first ∷ two.rest = sym one.records_are ∙ two.records_are in
      let same : one.first ≡ two.first = cc both in
      begin_is one.is.header two.is.header one.len two.len (sym one.head_is ∙ ap (λ (c : Covered). c.head) same ∙ two.head_is)

  record Alike : Type 0 where
    header : partial.header ≡ also.header
    point : partial.point ≡ also.point

  alike_by : (header headed : Header) (point pointed : Point) → BeganBy one.is.header header point flags one.is.begun → BeganBy two.is.header headed pointed other two.is.begun
      → header ≡ headed → point ≡ pointed → Alike
  alike_by header headed point pointed a b same_header same_point = record {
    header = headed_by ask pool flags partial records one header point a ∙ same_header ∙ sym (headed_by ask beside other also records two headed pointed b);
    point =
        reached_by ask pool flags partial records one header point a ∙ ap (λ (p : Point). point_of p (items_of one.is.header.flags records)) same_point
        ∙ ap (λ (h : Header). point_of pointed (items_of h.flags records)) same_stated ∙ sym (reached_by ask beside other also records two headed pointed b);
  }

  alike : (a b : Option Partial) → partial_of ask.target pool ≡ a → partial_of ask.target beside ≡ b → BeginAlike a b → Alike
  alike None None none none_too begins =
      alike_by one.is.header two.is.header origin origin (began_anew ask pool flags partial records one none) (began_anew ask beside other also records two none_too) same_stated refl
  alike None (Some old) none there begins = absurd begins
  alike (Some old) None there none begins = absurd begins
  alike (Some old) (Some older) there there_too begins =
      alike_by old.header older.header old.point older.point (began_on ask pool flags partial records one old there) (began_on ask beside other also records two older there_too)
      begins.0 begins.1

-- ---- what both tell

-- each partial state of an image is kept
kept_there : (pool : Pool) (target : List ℕ) (old : Partial) → KeepsAll pool → partial_of target pool ≡ Some old → old.keep ≡ true
kept_there pool target old all there =
    All-contains (λ (p : Partial). p.keep ≡ true) pool.partials old all (found_passes (λ (p : Partial). bytes_eq p.target target) pool.partials old there).0

-- equal tokens are told of what begins alike
token_alike : (target : List ℕ) (pool beside : Pool) (a b : Option Partial) → KeepsAll pool → KeepsAll beside → partial_of target pool ≡ a → partial_of target beside ≡ b → BeginAlike a b
    → token_told target pool ≡ token_told target beside
token_alike target pool beside None None all all_too none none_too begins = ap (token_of_partial target) none ∙ sym (ap (token_of_partial target) none_too)
token_alike target pool beside None (Some old) all all_too none there begins = absurd begins
token_alike target pool beside (Some old) None all all_too there none begins = absurd begins
token_alike target pool beside (Some old) (Some older) all all_too there there_too begins =
    tokens_agree target target pool beside old older there there_too (kept_there pool target old all there) (kept_there beside target older all_too there_too) begins.0 begins.1

module _ (fronts : FrontsAgree) (law : ReceivedIsApplied) (kept : KeptAsAsked) (done : KeepingIsDone) (cuts : CutLeavesNothing) (ask : RecvAsk) (pieces : List (List ℕ)) where
  abbrev read : List Covered
  read = (reading (concat pieces)).covered

  way : (pool now : Pool) (stage : Stage) → receives ask pool pieces ≡ Goes now stage → Way law ask pool read (Goes now stage)
  way pool now stage is = subst (λ (f : Fed). Way law ask pool read f) is (receives_way law ask pool fronts pieces)

  -- nothing was covered: the token is as it was
  waits_told : (pool now : Pool) → KeepsAll pool → receives ask pool pieces ≡ Goes now Waits → (token_told ask.target (kept_of now) ≡ token_told ask.target pool) × (read ≡ [])
  waits_told pool now all is =
      let on = (way pool now Waits is).1 in
      (ap (λ (p : Pool). token_told ask.target (kept_of p)) on.0 ∙ ap (token_told ask.target) (done.0 pool all), on.1)

  -- what isn't kept leaves no token
  fleeting_told : (pool now : Pool) (flags : ℕ) (partial : Partial) → KeepsAll pool → partial_of ask.target pool ≡ None → ask.keep ≡ false → receives ask pool pieces ≡ Goes now (Lives flags partial)
      → token_told ask.target (kept_of now) ≡ Err (NoPartial ask.target)
  fleeting_told pool now flags partial all none fleeting is =
      let left : HasNothing ask (kept_of pool) (kept_of now) = (cuts ask pool pieces none fleeting).0 now (Lives flags partial) is refl in
      ap (λ (ps : List Partial). token_of_partial ask.target (find (λ (p : Partial). bytes_eq p.target ask.target) ps)) left.partials
      ∙ ap (token_told ask.target) (done.0 pool all) ∙ ap (token_of_partial ask.target) none

  module _ (pool beside now later : Pool) (all : KeepsAll pool) (all_too : KeepsAll beside) where
    lives_told : (flags other : ℕ) (partial also : Partial) → receives ask pool pieces ≡ Goes now (Lives flags partial) → receives ask beside pieces ≡ Goes later (Lives other also)
        → (a b : Option Partial) → partial_of ask.target pool ≡ a → partial_of ask.target beside ≡ b → BeginAlike a b → token_told ask.target (kept_of now) ≡ token_told ask.target (kept_of later)
    lives_told flags other partial also is is_too a b was was_too begins = by a b was was_too begins
      where
        agree : partial.keep ≡ true → also.keep ≡ true → (x y : Option Partial) → partial_of ask.target pool ≡ x → partial_of ask.target beside ≡ y → BeginAlike x y
            → token_told ask.target (kept_of now) ≡ token_told ask.target (kept_of later)
        agree keeps keeps_too x y one two begins =
            let same = alike ask pool beside flags other partial also read (way pool now (Lives flags partial) is).1 (way beside later (Lives other also) is_too).1 x y one two begins in
            tokens_agree ask.target ask.target (kept_of now) (kept_of later) partial also ((kept ask pool now flags partial pieces is).2 keeps) ((kept ask beside later other also pieces is_too).2 keeps_too)
            keeps keeps_too same.header same.point

        anew : (t : Bool) → ask.keep ≡ t → partial_of ask.target pool ≡ None → partial_of ask.target beside ≡ None → token_told ask.target (kept_of now) ≡ token_told ask.target (kept_of later)
        anew true keeps none none_too =
            agree ((kept ask pool now flags partial pieces is).0 none ∙ keeps) ((kept ask beside later other also pieces is_too).0 none_too ∙ keeps) None None none none_too tt
        anew false fleeting none none_too =
            fleeting_told pool now flags partial all none fleeting is ∙ sym (fleeting_told beside later other also all_too none_too fleeting is_too)

        by : (x y : Option Partial) → partial_of ask.target pool ≡ x → partial_of ask.target beside ≡ y → BeginAlike x y → token_told ask.target (kept_of now) ≡ token_told ask.target (kept_of later)
        by None None none none_too begins = anew ask.keep refl none none_too
        by None (Some old) none there begins = absurd begins
        by (Some old) None there none begins = absurd begins
        by (Some old) (Some older) there there_too begins =
            agree ((kept ask pool now flags partial pieces is).1 old there ∙ kept_there pool ask.target old all there)
            ((kept ask beside later other also pieces is_too).1 older there_too ∙ kept_there beside ask.target older all_too there_too) (Some old) (Some older) there there_too begins

    told : (stage other : Stage) → BeginAlike (partial_of ask.target pool) (partial_of ask.target beside)
        → receives ask pool pieces ≡ Goes now stage → is_done stage ≡ false → receives ask beside pieces ≡ Goes later other → is_done other ≡ false
        → token_told ask.target (kept_of now) ≡ token_told ask.target (kept_of later)
    told (Ends partial) other begins is ended is_too more = absurd (true≢false ended)
    told Waits (Ends also) begins is more is_too ended = absurd (true≢false ended)
    told (Lives flags partial) (Ends also) begins is more is_too ended = absurd (true≢false ended)
    told Waits Waits begins is more is_too more_too =
        (waits_told pool now all is).0 ∙ token_alike ask.target pool beside (partial_of ask.target pool) (partial_of ask.target beside) all all_too refl refl begins
        ∙ sym (waits_told beside later all_too is_too).0
    told Waits (Lives other also) begins is more is_too more_too =
        absurd (let two = (way beside later (Lives other also) is_too).1 in let both : [] ≡ two.first ∷ two.rest = sym (waits_told pool now all is).1 ∙ two.records_are in cc both)
    told (Lives flags partial) Waits begins is more is_too more_too =
        absurd (let one = (way pool now (Lives flags partial) is).1 in let both : [] ≡ one.first ∷ one.rest = sym (waits_told beside later all_too is_too).1 ∙ one.records_are in cc both)
    told (Lives flags partial) (Lives other also) begins is more is_too more_too =
        lives_told flags other partial also is is_too (partial_of ask.target pool) (partial_of ask.target beside) refl refl begins

pub equal_pieces_tell : FrontsAgree → ReceivedIsApplied → KeptAsAsked → KeepingIsDone → CutLeavesNothing → EqualPiecesTellAlike
equal_pieces_tell fronts law kept done cuts ask pool beside now later stage other pieces all all_too begins is more is_too more_too =
    told fronts law kept done cuts ask pieces pool beside now later all all_too stage other begins is more is_too more_too
