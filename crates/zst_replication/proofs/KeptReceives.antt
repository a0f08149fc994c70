-- What of a receive stays kept, and its tokens.
use Rattle.std.proofs.Common.{◌≡◌, ℕ, Bool, true, false, List, [], ◌∷◌, ◌++◌, Option, Some, None, Result, Ok, Err, refl, sym, ap, ◌∙◌, subst, append_assoc}
use Rattle.std.specs.List.{concat}
use Rattle.std.specs.Option.{option_map_or}
use Rattle.std.specs.Prelude.{if◌then◌else◌}
use Rattle.zst_laws.specs.ReceivedRecords.{ReceivedIsApplied}
use Rattle.zst_model.specs.declared.refusals.apply_fault.ApplyFault.{ApplyFault}
use Rattle.zst_model.specs.declared.refusals.plan_fault.PlanFault.{PlanFault}
use Rattle.zst_model.specs.declared.refusals.plan_fault.PlanFault.TheVariants.{NoPartial}
use Rattle.zst_model.specs.declared.sends.header.Header.{Header}
use Rattle.zst_model.specs.declared.sends.header.Point.{Point}
use Rattle.zst_model.specs.declared.states.item.Item.{Item}
use Rattle.zst_model.specs.pools.Pool.{Partial, Pool, partial_of}
use Rattle.zst_model.specs.sends.Points.{point_of}
use Rattle.zst_model.specs.states.AppliedItems.{apply, apply_all, ◌>>=◌}
use Rattle.zst_model.specs.states.State.{State}
use Rattle.zst_model.proofs.Points.{point_of-append}
use Rattle.zst_model.proofs.Results.{bind_ok, ok_parts}
use Rattle.zst_plan.specs.RecvPlan.{RecvPlan, recv_plan}
use Rattle.zst_plan.specs.declared.receive.RecvAsk.{RecvAsk}
use Rattle.zst_record.specs.declared.head.Head.TheVariants as heads
use Rattle.zst_record.specs.Heads.{Covered}
use Rattle.zst_recv.specs.ReceiveSteps.{Lives, Fed, opened}
use Rattle.zst_recv.specs.Tokens.{token_of_partial, token_told}
use Rattle.zst_stream.specs.Items.{items_of}
use Rattle.zst_stream.specs.Laws.{FrontsAgree}
use Rattle.zst_stream.specs.Reading.{reading}
use Rattle.zst_stream.proofs.ItemStreams.{say_append}
use Rattle.zst_token.specs.PartialToken.{token_for}
use Rattle.zst_token.specs.declared.token.Token.{Token}
use Rattle.zst_replication.specs.KeptReceives.{IsFurther, KeptAsAsked, PiecesGoFurther, TokensAgree, TokensAreOfKept}
use Rattle.zst_replication.specs.Resumption.{AppliedBehind}
use Rattle.zst_replication.proofs.EndedReceives.{lives_parts}
use Rattle.zst_replication.proofs.FeedSequences.{Way, receives_way}
use Rattle.zst_replication.proofs.StoppedReceives.{living_partial}

pub kept_as_asked : FrontsAgree → ReceivedIsApplied → KeptAsAsked
kept_as_asked fronts law ask pool now flags partial pieces e =
    let way = subst (λ (f : Fed). Way law ask pool (reading (concat pieces)).covered f) e (receives_way law ask pool fronts pieces) in
    let asked = way.0.asked in
    let by : (o : Option Partial) → partial_of ask.target pool ≡ o → partial.keep ≡ option_map_or (λ old. old.keep) o ask.keep =
    λ o is. asked.keep ∙ ap (λ (o : Option Partial). option_map_or (λ old. old.keep) o ask.keep) is in
    (λ none. by None none, λ old found. by (Some old) found, λ kept. (living_partial ask pool now partial asked way.0.runs kept).there)

-- ---- more pieces

pub concat_both : (xs ys : List (List ℕ)) → concat (xs ++ ys) ≡ concat xs ++ concat ys
concat_both [] ys = refl
concat_both (x ∷ xs) ys = ap (λ (t : List ℕ). x ++ t) (concat_both xs ys) ∙ sym (append_assoc x (concat xs) (concat ys))

-- items behind others
pub applied_rest : (done more : List Item) (s t : State) → apply_all done s ≡ Ok t → apply_all (done ++ more) s ≡ apply_all more t
applied_rest [] more s t e = ap (apply_all more) (ok_parts s t e)
applied_rest (x ∷ xs) more s t e =
    let found = bind_ok (apply x s) (apply_all xs) t e in
    ap (λ (r : Result State ApplyFault). r >>= apply_all (xs ++ more)) found.1 ∙ applied_rest xs more found.0 t found.2

-- one receive has one BEGIN
module _ (ask : RecvAsk) (pool : Pool) (records others all : List Covered) (flags other : ℕ) (partial next : Partial) (longer : all ≡ records ++ others)
    (one : AppliedBehind ask pool records flags partial) (two : AppliedBehind ask pool all other next) where
  same_begin : (a b : Header) (n m : ℕ) → heads.Begin a n ≡ heads.Begin b m → a ≡ b
  same_begin a b n m e = cc

  header_is : one.is.header ≡ two.is.header
  header_is =
      let both : one.first ∷ (one.rest ++ others) ≡ two.first ∷ two.rest = sym (ap (λ (cs : List Covered). cs ++ others) one.records_are) ∙ sym longer ∙ two.records_are in
      let same : one.first ≡ two.first = cc in
      same_begin one.is.header two.is.header one.len two.len (sym one.head_is ∙ ap (λ (c : Covered). c.head) same ∙ two.head_is)

  plan_is : one.is.plan ≡ two.is.plan
  plan_is = ok_parts _ _ (sym (subst (λ (h : Header). recv_plan ask h pool ≡ Ok one.is.plan) header_is one.is.planned) ∙ two.is.planned)

  begun_is : (flags ≡ other) × (one.is.begun ≡ two.is.begun)
  begun_is =
      lives_parts flags other one.is.begun two.is.begun
      (sym (subst (λ (p : RecvPlan). (opened ask two.is.header p).stage ≡ Lives flags one.is.begun) plan_is (subst (λ (h : Header). (opened ask h one.is.plan).stage ≡ Lives flags one.is.begun) header_is one.is.begins))
      ∙ two.is.begins)

  said : items_of other all ≡ items_of flags records ++ items_of flags others
  said = sym (ap (λ (f : ℕ). items_of f all) begun_is.0) ∙ ap (items_of flags) longer ∙ say_append flags records others

  further : IsFurther flags others partial next
  further = record {
    objects =
        sym (applied_rest (items_of flags records) (items_of flags others) one.is.begun.objects.state partial.objects.state one.is.objects)
        ∙ sym (ap (λ (is : List Item). apply_all is one.is.begun.objects.state) said) ∙ ap (λ (p : Partial). apply_all (items_of other all) p.objects.state) begun_is.1 ∙ two.is.objects;
    reached =
        two.is.reached ∙ sym (ap (λ (p : Partial). point_of p.point (items_of other all)) begun_is.1) ∙ ap (point_of one.is.begun.point) said
        ∙ point_of-append one.is.begun.point (items_of flags records) (items_of flags others)
        ∙ ap (λ (p : Point). point_of p (items_of flags others)) (sym one.is.reached);
    stays =
        two.is.stays ∙ sym (ap (λ (p : Partial). record p { objects = next.objects; point = next.point }) begun_is.1)
        ∙ sym (ap (λ (p : Partial). record p { objects = next.objects; point = next.point }) one.is.stays);
  }

pub pieces_go_further : FrontsAgree → ReceivedIsApplied → PiecesGoFurther
pieces_go_further fronts law ask pool now later flags other partial next pieces more e f =
    let one = subst (λ (f : Fed). Way law ask pool (reading (concat pieces)).covered f) e (receives_way law ask pool fronts pieces) in
    let two = subst (λ (f : Fed). Way law ask pool (reading (concat (pieces ++ more))).covered f) f (receives_way law ask pool fronts (pieces ++ more)) in
    let front = fronts (concat pieces) (concat more) in
    let longer = ap (λ (t : List ℕ). (reading t).covered) (concat_both pieces more) ∙ front.covered in
    let records = (reading (concat pieces)).covered in
    let all = (reading (concat (pieces ++ more))).covered in (
      front.others,
      longer,
      sym (begun_is ask pool records front.others all flags other partial next longer one.1 two.1).0,
      further ask pool records front.others all flags other partial next longer one.1 two.1,
    )

-- ---- tokens

abbrev token_by : List ℕ → Partial → Bool → Result Token PlanFault
token_by dataset partial keep = if keep then Ok (token_for partial.header partial.point) else Err (NoPartial dataset)

told_kept : (dataset : List ℕ) (pool : Pool) (partial : Partial) (keep : Bool) → partial_of dataset pool ≡ Some partial → partial.keep ≡ keep → token_told dataset pool ≡ token_by dataset partial keep
told_kept dataset pool partial keep found is = ap (token_of_partial dataset) found ∙ ap (token_by dataset partial) is

pub tokens_of_kept : TokensAreOfKept
unfolding token_for
tokens_of_kept dataset pool = (
  λ token e. told token (partial_of dataset pool) refl e,
  λ partial found kept. (token_for partial.header partial.point, told_kept dataset pool partial true found kept, refl, refl, refl),
  λ partial found fleeting. told_kept dataset pool partial false found fleeting,
  λ none. ap (token_of_partial dataset) none,
)
  where
    told : (token : Token) (o : Option Partial) → partial_of dataset pool ≡ o → token_told dataset pool ≡ Ok token → (partial : Partial) × (partial_of dataset pool ≡ Some partial) × (partial.keep ≡ true)
    told token None is e = absurd (let both = sym (ap (token_of_partial dataset) is) ∙ e in cc)
    told token (Some partial) is e = (partial, is, go partial.keep refl)
      where
        go : (t : Bool) → partial.keep ≡ t → partial.keep ≡ true
        go true k = k
        go false k = absurd (let both = sym (told_kept dataset pool partial false is k) ∙ e in cc)

pub tokens_agree : TokensAgree
tokens_agree dataset other pool beside partial also found there kept too header point =
    told_kept dataset pool partial true found kept ∙ ap (λ (h : Header). Ok (token_for h partial.point)) header
    ∙ ap (λ (p : Point). Ok (token_for also.header p)) point ∙ sym (told_kept other beside also true there too)
