-- What a plan is whose source's list is short enough, and that no plan by the directory alone is refused for a limit.
use Rattle.std.specs.Prelude.{bytes_eq, find, if◌then◌else◌, is_some, nat_lt}
use Rattle.std.specs.Option.{ok_or}
use Rattle.std.proofs.Common.{◌≡◌, ◌≢◌, ℕ, ◌==◌, ◌&&◌, not, Bool, true, false, List, Option, Some, None, option_map, Result, Ok, Err, length, refl, subst}
use Rattle.zst_model.specs.declared.refusals.faults.Lack.TheVariants as lacks
use Rattle.zst_model.specs.declared.refusals.faults.Quantity.{Quantity}
use Rattle.zst_model.specs.declared.refusals.faults.Quantity.TheVariants as quantities
use Rattle.zst_model.specs.declared.refusals.plan_fault.PlanFault.{PlanFault}
use Rattle.zst_model.specs.declared.refusals.plan_fault.PlanFault.TheVariants as plans
use Rattle.zst_model.specs.declared.refusals.subjects.Name.TheVariants as names
use Rattle.zst_model.specs.declared.sends.ask.FromName.{FromName}
use Rattle.zst_model.specs.declared.sends.ask.FromName.TheVariants.{Snap, Book}
use Rattle.zst_model.specs.declared.sends.ask.SendAsk.{SendAsk}
use Rattle.zst_model.specs.pools.Ancestry.{Source, OfBookmark, OfSnapshot}
use Rattle.zst_model.specs.pools.Limits.{most_runs}
use Rattle.zst_model.specs.pools.Pool.{Bookmark, Pool, Snapshot, bookmark_named, snapshot_named}
use Rattle.zst_model.specs.sends.Headers.{Sent, source_runs}
use Rattle.zst_model.specs.sends.SendPlan.{absent, comes_before, find_bookmark, find_redaction, find_snapshot, find_source, has_guids, if_before, if_no_relay, if_redaction, is_redacted, kind_of, name_of_source, redacts_snapshot, send_plan, sent_of, with_list}
use Rattle.zst_model.specs.states.AppliedItems.{unless, ◌>>=◌}
use Rattle.zst_plan.specs.ResumePlan.{find_from, find_marked, find_to, first_from, is_marked, no_guid, resumed_send}
use Rattle.zst_token.specs.declared.token.Token.{Token}
use Rattle.zst_run.specs.declared.send.SendRequest.{SendRequest}
use Rattle.zst_run.specs.declared.send.SendRequest.TheVariants.{Named, Rest}
use Rattle.zst_run.specs.Sends.{to_send}

-- what a test passes is what was tested
passed : (refuses : Bool) (fault : PlanFault) (answer : Result Sent PlanFault) (sent : Sent) → unless refuses fault answer ≡ Ok sent → answer ≡ Ok sent
passed true fault answer sent e = absurd (cc e)
passed false fault answer sent e = e

-- what is given is what was planned
pub planned_of : (planned : Result Sent PlanFault) (sent : Sent) → with_list planned ≡ Ok sent → planned ≡ Ok sent
planned_of (Ok other) sent is =
    passed (is_redacted other.source && nat_lt most_runs (length (source_runs other.source))) (plans.Limit quantities.Runs most_runs) (Ok other) sent is
planned_of (Err fault) sent is = absurd (cc is)

-- ---- no limit

-- whether a plan's fault is a limit
abbrev is_limit : PlanFault → Bool
is_limit (plans.Limit which number) = true
is_limit fault = false

-- an answer is refused for no limit
abbrev Unlimited : {A : Type 0} → Result A PlanFault → Type 0
Unlimited (Ok found) = Unit {0}
Unlimited (Err fault) = is_limit fault ≡ false

then_unlimited : {A B : Type 0} (answer : Result A PlanFault) (next : A → Result B PlanFault) → Unlimited answer → ((a : A) → Unlimited (next a)) → Unlimited (answer >>= next)
then_unlimited (Ok a) next first later = later a
then_unlimited (Err fault) next first later = first

unless_unlimited : {A : Type 0} (refuses : Bool) (fault : PlanFault) (rest : Result A PlanFault) → is_limit fault ≡ false → Unlimited rest → Unlimited (unless refuses fault rest)
unless_unlimited true fault rest other later = other
unless_unlimited false fault rest other later = later

found_unlimited : {A : Type 0} (found : Option A) (fault : PlanFault) → is_limit fault ≡ false → Unlimited (ok_or found fault)
found_unlimited None fault other = other
found_unlimited (Some a) fault other = tt

either_unlimited : {A : Type 0} (first : Bool) (one other : Result A PlanFault) → Unlimited one → Unlimited other → Unlimited (if first then one else other)
either_unlimited true one other a b = a
either_unlimited false one other a b = b

before_unlimited : (pool : Pool) (snapshot : Snapshot) (source : Option Source) (rest : Result Sent PlanFault) → Unlimited rest → Unlimited (if_before pool snapshot source rest)
before_unlimited pool snapshot None rest later = later
before_unlimited pool snapshot (Some source) rest later =
    unless_unlimited (not (comes_before pool source snapshot)) (plans.NotAncestor (names.Snapshot snapshot.name) (name_of_source source)) rest refl later

redaction_unlimited : (snapshot : Snapshot) (redaction : Option Bookmark) (rest : Result Sent PlanFault) → Unlimited rest → Unlimited (if_redaction snapshot redaction rest)
redaction_unlimited snapshot None rest later = later
redaction_unlimited snapshot (Some bookmark) rest later =
    unless_unlimited (not (redacts_snapshot bookmark snapshot)) (plans.NotRedactionOf bookmark.name snapshot.name) rest refl later

-- what was found is refused for none
sent_unlimited : (pool : Pool) (snapshot : Snapshot) (source : Option Source) (redaction : Option Bookmark) → Unlimited (sent_of pool snapshot source redaction)
sent_unlimited pool snapshot source redaction =
    let made : Result Sent PlanFault = Ok (record { snapshot = snapshot; kind = kind_of pool snapshot; source = source; redaction = redaction }) in
    before_unlimited pool snapshot source (if_redaction snapshot redaction (if_no_relay snapshot redaction made))
    (redaction_unlimited snapshot redaction (if_no_relay snapshot redaction made)
    (unless_unlimited (has_guids snapshot.redact && is_some redaction) (plans.Unsupported lacks.Relay) made refl tt))

source_unlimited : (from : Option FromName) (pool : Pool) → Unlimited (find_source from pool)
source_unlimited None pool = tt
source_unlimited (Some (Snap name)) pool =
    then_unlimited (find_snapshot name pool) (λ snapshot. Ok (Some (OfSnapshot snapshot))) (found_unlimited (snapshot_named name pool) (absent (names.Snapshot name)) refl) (λ snapshot. tt)
source_unlimited (Some (Book name)) pool =
    then_unlimited (find_bookmark name pool) (λ bookmark. Ok (Some (OfBookmark bookmark))) (found_unlimited (bookmark_named name pool) (absent (names.Bookmark name)) refl) (λ bookmark. tt)

bookmark_unlimited : (name : Option (List ℕ)) (pool : Pool) → Unlimited (find_redaction name pool)
bookmark_unlimited None pool = tt
bookmark_unlimited (Some name) pool =
    then_unlimited (find_bookmark name pool) (λ bookmark. Ok (Some bookmark)) (found_unlimited (bookmark_named name pool) (absent (names.Bookmark name)) refl) (λ bookmark. tt)

-- so is what is asked by names
named_unlimited : (ask : SendAsk) (pool : Pool) → Unlimited (send_plan ask pool)
unfolding send_plan
named_unlimited ask pool =
    then_unlimited (find_snapshot ask.snap pool) (λ snapshot. find_source ask.from pool >>= (λ source. find_redaction ask.redact pool >>= (λ redaction. sent_of pool snapshot source redaction)))
    (found_unlimited (snapshot_named ask.snap pool) (absent (names.Snapshot ask.snap)) refl)
    (λ snapshot. then_unlimited (find_source ask.from pool) (λ source. find_redaction ask.redact pool >>= (λ redaction. sent_of pool snapshot source redaction)) (source_unlimited ask.from pool)
    (λ source. then_unlimited (find_redaction ask.redact pool) (λ redaction. sent_of pool snapshot source redaction) (bookmark_unlimited ask.redact pool)
    (λ redaction. sent_unlimited pool snapshot source redaction)))

-- and what a token asks for
from_unlimited : (token : Token) (pool : Pool) (to : Snapshot) → Unlimited (find_from token pool to)
from_unlimited token pool to =
    either_unlimited (token.from == 0) (Ok None) (ok_or (option_map Some (first_from token pool to)) (no_guid token.from)) tt
    (found_unlimited (option_map Some (first_from token pool to)) (no_guid token.from) refl)

marked_unlimited : (token : Token) (pool : Pool) (to : Snapshot) → Unlimited (find_marked token pool to)
marked_unlimited token pool to =
    let found : Result (Option Bookmark) PlanFault = ok_or (option_map Some (find (is_marked token) pool.bookmarks)) (no_guid token.to) in
    either_unlimited (bytes_eq to.redact token.redact) (Ok None) (if has_guids token.redact then found else Err (no_guid token.to)) tt
    (either_unlimited (has_guids token.redact) found (Err (no_guid token.to))
    (found_unlimited (option_map Some (find (is_marked token) pool.bookmarks)) (no_guid token.to) refl) refl)

resumed_unlimited : (token : Token) (pool : Pool) → Unlimited (resumed_send token pool)
unfolding resumed_send
resumed_unlimited token pool =
    then_unlimited (find_to token pool) (λ snapshot. find_from token pool snapshot >>= (λ source. find_marked token pool snapshot >>= (λ redaction. sent_of pool snapshot source redaction)))
    (found_unlimited (find (λ snapshot. snapshot.guid == token.to) pool.snapshots) (no_guid token.to) refl)
    (λ snapshot. then_unlimited (find_from token pool snapshot) (λ source. find_marked token pool snapshot >>= (λ redaction. sent_of pool snapshot source redaction)) (from_unlimited token pool snapshot)
    (λ source. then_unlimited (find_marked token pool snapshot) (λ redaction. sent_of pool snapshot source redaction) (marked_unlimited token pool snapshot)
    (λ redaction. sent_unlimited pool snapshot source redaction)))

unlimited : (request : SendRequest) (pool : Pool) → Unlimited (to_send request pool)
unlimited (Named ask) pool = named_unlimited ask pool
unlimited (Rest token) pool = unless_unlimited token.large (plans.Unsupported lacks.LargeBlocks) (resumed_send token pool) refl (resumed_unlimited token pool)

-- no plan by the directory is refused for a limit
pub no_limit : (request : SendRequest) (pool : Pool) (which : Quantity) (number : ℕ) → to_send request pool ≢ Err (plans.Limit which number)
no_limit request pool which number is =
    let other : true ≡ false = subst (λ (planned : Result Sent PlanFault). Unlimited planned) is (unlimited request pool) in absurd (cc other)
