-- The tokens of receives that have read the same bytes.
use Rattle.std.proofs.Common.{◌≡◌, ℕ, List, ◌∷◌, take, None, sym, ap, ◌∙◌, subst}
use Rattle.std.specs.List.{concat}
use Rattle.zst_model.specs.declared.sends.header.Header.{Header}
use Rattle.zst_model.specs.pools.KeptPool.{kept_of}
use Rattle.zst_model.specs.pools.Pool.{Partial, Pool, partial_of}
use Rattle.zst_model.specs.sends.Items.{origin}
use Rattle.zst_model.specs.sends.Points.{point_of}
use Rattle.zst_plan.specs.RecvPlan.{RecvPlan}
use Rattle.zst_plan.specs.declared.receive.RecvAsk.{RecvAsk}
use Rattle.zst_record.specs.declared.head.Head.TheVariants as heads
use Rattle.zst_record.specs.Heads.{Covered}
use Rattle.zst_recv.specs.ReceiveSteps.{Lives, begun, opened}
use Rattle.zst_send.specs.Sends.{SameViewsSameRest}
use Rattle.zst_stream.specs.Items.{items_of}
use Rattle.zst_stream.specs.Reading.{reading}
use Rattle.zst_replication.specs.KeptReceives.{TextsHaveTokens, TokensAgree, ViewsHaveTokens}
use Rattle.zst_replication.specs.Resumption.{AppliedBehind, PiecesAreApplied}
use Rattle.zst_replication.proofs.EndedReceives.{lives_parts}
use Rattle.zst_replication.proofs.ReceivePlans.{begins_anew}

-- a receive that began afresh stands where its items lead from the origin
begun_at : (ask : RecvAsk) (pool : Pool) (records : List Covered) (flags : ℕ) (partial : Partial) (behind : AppliedBehind ask pool records flags partial) → partial_of ask.target pool ≡ None
    → partial.point ≡ point_of origin (items_of behind.is.header.flags records)
begun_at ask pool records flags partial behind none =
    let header = behind.is.header in
    let fresh = begins_anew ask header pool behind.is.plan none behind.is.planned in
    let opens = subst (λ (p : RecvPlan). (opened ask header p).stage ≡ Lives flags behind.is.begun) fresh.plan_is behind.is.begins in
    let parts = lives_parts header.flags flags (begun ask header fresh.component fresh.base) behind.is.begun opens in
    behind.is.reached ∙ sym (ap (λ (p : Partial). point_of p.point (items_of flags records)) parts.1) ∙ sym (ap (λ (f : ℕ). point_of origin (items_of f records)) parts.0)

-- one text has one BEGIN
begin_headers : (first second : Covered) (rest more : List Covered) (a b : Header) (n m : ℕ) → first ∷ rest ≡ second ∷ more → first.head ≡ heads.Begin a n → second.head ≡ heads.Begin b m → a ≡ b
begin_headers first second rest more a b n m e one two =
    let same : first ≡ second = cc in
    same_header a b n m (sym one ∙ ap (λ (c : Covered). c.head) same ∙ two)
  where
    same_header : (a b : Header) (n m : ℕ) → heads.Begin a n ≡ heads.Begin b m → a ≡ b
    same_header a b n m e = cc

module _ (ask other : RecvAsk) (pool beside : Pool) (records others : List Covered) (flags more : ℕ) (partial also : Partial) (none : partial_of ask.target pool ≡ None)
    (too : partial_of other.target beside ≡ None) (same : records ≡ others) (one : AppliedBehind ask pool records flags partial) (two : AppliedBehind other beside others more also) where
  headers_are : one.is.header ≡ two.is.header
  headers_are = begin_headers one.first two.first one.rest two.rest one.is.header two.is.header one.len two.len (sym one.records_are ∙ same ∙ two.records_are) one.head_is two.head_is

  points_are : partial.point ≡ also.point
  points_are =
      begun_at ask pool records flags partial one none ∙ ap (λ (h : Header). point_of origin (items_of h.flags records)) headers_are
      ∙ ap (λ (cs : List Covered). point_of origin (items_of two.is.header.flags cs)) same ∙ sym (begun_at other beside others more also two too)

pub texts_have_tokens : PiecesAreApplied → TokensAgree → TextsHaveTokens
texts_have_tokens applied agree ask other pool beside now later flags more partial also pieces parts none too same e f kept keeps =
    let one = applied ask pool now flags partial pieces e in
    let two = applied other beside later more also parts f in
    let records = ap (λ (t : List ℕ). (reading t).covered) same in
    let headers =
    headers_are ask other pool beside (reading (concat pieces)).covered (reading (concat parts)).covered flags more partial also none too records one.0 two.0 in
    let points =
    points_are ask other pool beside (reading (concat pieces)).covered (reading (concat parts)).covered flags more partial also none too records one.0 two.0 in
    agree ask.target other.target (kept_of now) (kept_of later) partial also (one.2 kept) (two.2 keeps) kept keeps (one.1.fresh none ∙ headers ∙ sym (two.1.fresh too)) points

pub views_have_tokens : PiecesAreApplied → TokensAgree → SameViewsSameRest → ViewsHaveTokens
views_have_tokens applied agree rest sent twin ask other pool beside now later flags more count partial also pieces parts same none too read read_too e f kept keeps =
    texts_have_tokens applied agree ask other pool beside now later flags more partial also pieces parts none too
    (read ∙ ap (λ (t : List ℕ). take count t) (rest sent twin None same) ∙ sym read_too) e f kept keeps
