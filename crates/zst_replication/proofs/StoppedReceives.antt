-- What the image keeps of a receive on its way.
use Rattle.std.proofs.Common.{◌≡◌, ◌⊎◌, inl, inr, ℕ, suc, ◌<◌, true, false, not, List, [], ◌∷◌, ◌++◌, length, take, Option, Some, None, refl, sym, ap, ◌∙◌, subst, find, arith}
use Rattle.std.specs.Prelude.{bytes_eq, filter}
use Rattle.std.specs.Option.{option_map_or}
use Rattle.zst_model.proofs.OrderLaws.{bytes_same}
use Rattle.zst_model.specs.declared.refusals.refusal.Refusal.{Refusal}
use Rattle.zst_model.specs.pools.KeptPool.{kept_of}
use Rattle.zst_model.specs.pools.Pool.{Pool, Partial, inserted, partial_of}
use Rattle.zst_plan.specs.declared.receive.RecvAsk.{RecvAsk}
use Rattle.zst_pool.specs.Partials.{partials_of_others}
use Rattle.zst_record.specs.Heads.{Covered}
use Rattle.zst_stream.specs.Reading.{reading}
use Rattle.zst_recv.specs.Answers.{is_done}
use Rattle.zst_recv.specs.Feeds.{and_feed, fault_of, fed_piece, feeds, new_records}
use Rattle.zst_recv.specs.ReceiveSteps.{Stage, Waits, Lives, Ends, Fed, Goes, Stops, at_stage, batch_of, fed, is_kept}
use Rattle.zst_replication.specs.Outcomes.{HasNothing, HasPartial, IsRolled, IsUntouched}
use Rattle.zst_replication.specs.Replicas.{CutLeavesNothing, IsWaiting}
use Rattle.zst_replication.proofs.FeedSequences.{KeepsAtStop, Stands, ended_feed, fed_ended, fed_keeps, fed_stands, stands_first}
use Rattle.zst_replication.proofs.Rows.{filter_inserted, filter_twice, found_inserted, none_left, others_all, others_inserted}
use Rattle.zst_replication.proofs.RunningPools.{Heads, IsAsked, AddsPartial, row_before}

pub start_untouched : (ask : RecvAsk) (start pool : Pool) → pool ≡ start → HasNothing ask (kept_of start) (kept_of pool)
start_untouched ask start pool same =
    subst (λ (p : Pool). HasNothing ask (kept_of start) (kept_of p)) (sym same)
    (record { untouched = record { id = refl; guids = refl; later = omega arith; datasets = inl refl; snapshots = refl; bookmarks = refl }; partials = refl })

module _ (ask : RecvAsk) (start pool : Pool) (partial : Partial) (asked : IsAsked ask start partial) (under : AddsPartial ask start pool partial) where
  heads_kept : Heads ask start under.datasets → (pool.datasets ≡ start.datasets) ⊎ IsRolled ask start pool
  heads_kept (inl same) = inl (ap (λ (p : Pool). p.datasets) under.pool_is ∙ same)
  heads_kept (inr back) = inr (back.0.0, ap (λ (p : Pool). p.datasets) under.pool_is ∙ back.1)

  pub untouched : IsUntouched ask (kept_of start) (kept_of pool)
  untouched = record {
    id = ap (λ (p : Pool). p.id) under.pool_is;
    guids = ap (λ (p : Pool). p.guids) under.pool_is;
    later = let same : pool.number ≡ under.number = ap (λ (p : Pool). p.number) under.pool_is in let more = under.later in omega (arith, same, more);
    datasets = heads_kept under.heads;
    snapshots = ap (λ (p : Pool). p.snapshots) under.pool_is;
    bookmarks = ap (λ (p : Pool). p.bookmarks) under.pool_is;
  }

  partials_kept : (kept_of pool).partials ≡ filter (λ (p : Partial). p.keep) (inserted row_before partial (partials_of_others ask.target start))
  partials_kept = ap (λ (p : Pool). (kept_of p).partials) under.pool_is

  -- a partial state that isn't kept leaves nothing
  pub living_nothing : partial_of ask.target start ≡ None → partial.keep ≡ false → HasNothing ask (kept_of start) (kept_of pool)
  living_nothing none fleeting = record {
    untouched = untouched;
    partials =
        partials_kept ∙ filter_inserted (λ (p : Partial). p.keep) row_before partial (partials_of_others ask.target start) fleeting
        ∙ ap (λ (ps : List Partial). filter (λ p. p.keep) ps) (others_all (λ (p : Partial). bytes_eq p.target ask.target) start.partials none);
  }

  -- and one that is kept is there
  pub living_partial : partial.keep ≡ true → HasPartial ask (kept_of start) (kept_of pool) partial
  living_partial kept = record {
    untouched = untouched;
    there =
        ap (λ (ps : List Partial). find (λ p. bytes_eq p.target ask.target) ps) partials_kept
        ∙ found_inserted (λ (p : Partial). bytes_eq p.target ask.target) (λ (p : Partial). p.keep) row_before partial (partials_of_others ask.target start)
        (bytes_same partial.target ask.target asked.target) kept (none_left (λ (p : Partial). bytes_eq p.target ask.target) start.partials);
    others =
        ap (λ (ps : List Partial). filter (λ p. not (bytes_eq p.target ask.target)) ps) partials_kept
        ∙ filter_twice (λ (p : Partial). not (bytes_eq p.target ask.target)) (λ (p : Partial). p.keep) (inserted row_before partial (partials_of_others ask.target start))
        ∙ ap (λ (ps : List Partial). filter (λ p. p.keep) ps)
        (others_inserted (λ (p : Partial). bytes_eq p.target ask.target) row_before partial (partials_of_others ask.target start)
        (bytes_same partial.target ask.target asked.target) (none_left (λ (p : Partial). bytes_eq p.target ask.target) start.partials))
        ∙ sym (filter_twice (λ (p : Partial). not (bytes_eq p.target ask.target)) (λ (p : Partial). p.keep) start.partials);
  }

-- ---- without -s

module _ (ask : RecvAsk) (start : Pool) (none : partial_of ask.target start ≡ None) where
  as_asked : (partial : Partial) → ask.keep ≡ false → IsAsked ask start partial → partial.keep ≡ false
  as_asked partial fleeting asked = asked.keep ∙ ap (λ (o : Option Partial). option_map_or (λ old. old.keep) o ask.keep) none ∙ fleeting

  nothing_stands : (stage : Stage) (pool : Pool) → ask.keep ≡ false → is_done stage ≡ false → Stands ask start stage pool → HasNothing ask (kept_of start) (kept_of pool)
  nothing_stands Waits pool fleeting unended stands = start_untouched ask start pool stands.runs
  nothing_stands (Lives flags partial) pool fleeting unended stands = living_nothing ask start pool partial stands.asked stands.runs none (as_asked partial fleeting stands.asked)
  nothing_stands (Ends partial) pool fleeting unended stands = absurd cc

  none_is_kept : (stage : Stage) (pool : Pool) → ask.keep ≡ false → Stands ask start stage pool → is_kept stage ≡ true → ⊥
  none_is_kept Waits pool fleeting stands kept = cc
  none_is_kept (Lives flags partial) pool fleeting stands kept = let both = sym kept ∙ as_asked partial fleeting stands.asked in cc
  none_is_kept (Ends partial) pool fleeting stands kept = cc

  nothing_stops : (before : Stage) (pool next : Pool) (records : List Covered) (fault : Option Refusal) (refusal : Refusal) → ask.keep ≡ false → is_done before ≡ false → Stands ask start before pool
      → fed ask records fault before pool ≡ Stops next refusal → HasNothing ask (kept_of start) (kept_of next)
  nothing_stops before pool next records fault refusal fleeting unended stands e = go kept.which
    where
      kept : KeepsAtStop ask start before pool next records
      kept = fed_keeps ask start before pool next records fault refusal unended stands e

      go : ((kept.stage ≡ before) × (kept.standing ≡ pool)) ⊎ ((kept.stage ≡ (batch_of ask pool records (at_stage before)).batch.stage) × (is_kept kept.stage ≡ true)) → HasNothing ask (kept_of start) (kept_of next)
      go (inl same) =
          subst (λ (p : Pool). HasNothing ask (kept_of start) p) (sym kept.keeps)
          (nothing_stands kept.stage kept.standing fleeting (ap is_done same.0 ∙ unended) kept.stands)
      go (inr taken) = absurd (none_is_kept kept.stage kept.standing fleeting kept.stands taken.1)

  goes_same : (a b : Pool) (s t : Stage) → Goes a s ≡ Goes b t → s ≡ t
  goes_same a b s t e = cc

  step_stands : (before after : Stage) (pool next : Pool) (records : List Covered) (fault : Option Refusal) → (is_done before ≡ false → Stands ask start before pool)
      → fed ask records fault before pool ≡ Goes next after → is_done after ≡ false → Stands ask start after next
  step_stands Waits after pool next records fault stands e unended = fed_stands ask start Waits after pool next records fault refl (stands refl) e
  step_stands (Lives flags partial) after pool next records fault stands e unended = fed_stands ask start (Lives flags partial) after pool next records fault refl (stands refl) e
  step_stands (Ends partial) after pool next records fault stands e unended = absurd (go fault (sym (fed_ended ask records fault partial pool) ∙ e))
    where
      go : (f : Option Refusal) → ended_feed partial pool f ≡ Goes next after → ⊥
      go None e = let same = goes_same pool next (Ends partial) after e in let done = ap is_done same ∙ unended in cc
      go (Some refusal) e = cc

  abbrev Standing : Fed → Type 0
  Standing (Goes next after) = is_done after ≡ false → Stands ask start after next
  Standing (Stops next refusal) = Unit {0}

  feeds_stand : (text : List ℕ) (pieces : List (List ℕ)) (stage : Stage) (pool : Pool) → (is_done stage ≡ false → Stands ask start stage pool) → Standing (feeds ask text pieces stage pool)
  unfolding feeds
  feeds_stand text [] stage pool stands = stands
  feeds_stand text (piece ∷ rest) stage pool stands = go (fed_piece ask text piece stage pool) refl (λ next after more. feeds_stand (text ++ piece) rest after next more)
    where
      go : (f : Fed) → fed_piece ask text piece stage pool ≡ f → ((next : Pool) (after : Stage) → (is_done after ≡ false → Stands ask start after next) → Standing (feeds ask (text ++ piece) rest after next))
          → Standing (and_feed f (feeds ask (text ++ piece) rest))
      go (Goes next after) e on = on next after (step_stands stage after pool next (new_records text piece) (fault_of (reading (text ++ piece)).outcome) stands e)
      go (Stops next refusal) e on = tt

  from_start : (pieces : List (List ℕ)) (now : Pool) (stage : Stage) → feeds ask [] pieces Waits start ≡ Goes now stage → is_done stage ≡ false → Stands ask start stage now
  from_start pieces now stage e = subst (λ (f : Fed). Standing f) e (feeds_stand [] pieces Waits start (λ unended. stands_first ask start))

  pub cut : (pieces : List (List ℕ)) (now : Pool) (stage : Stage) → ask.keep ≡ false → feeds ask [] pieces Waits start ≡ Goes now stage → is_done stage ≡ false → HasNothing ask (kept_of start) (kept_of now)
  cut pieces now stage fleeting e unended = nothing_stands stage now fleeting unended (from_start pieces now stage e unended)

  -- a receive that waited for each piece and is refused
  waiting_first : (stage : Stage) (pool : Pool) → IsWaiting (Goes pool stage) → is_done stage ≡ false
  waiting_first stage pool waiting = ap is_done (goes_same pool waiting.0 stage waiting.1 waiting.2) ∙ waiting.3

  refused : (text : List ℕ) (pieces : List (List ℕ)) (stage : Stage) (pool next : Pool) (refusal : Refusal) → ask.keep ≡ false → (is_done stage ≡ false → Stands ask start stage pool)
      → ((n : ℕ) → n < length pieces → IsWaiting (feeds ask text (take n pieces) stage pool)) → feeds ask text pieces stage pool ≡ Stops next refusal → HasNothing ask (kept_of start) (kept_of next)
  unfolding feeds
  refused text [] stage pool next refusal fleeting stands waits e = absurd cc
  refused text (piece ∷ rest) stage pool next refusal fleeting stands waits e = go (fed_piece ask text piece stage pool) refl (λ n below. waits (suc n) (omega (arith, below))) e
      (λ now after more on. refused (text ++ piece) rest after now next refusal fleeting more on)
    where
      unended : is_done stage ≡ false
      unended = waiting_first stage pool (waits 0 (omega arith))

      same_stop : (a b : Pool) (r s : Refusal) → Stops a r ≡ Stops b s → a ≡ b
      same_stop a b r s e = cc

      go : (f : Fed) → fed_piece ask text piece stage pool ≡ f → ((n : ℕ) → n < length rest → IsWaiting (and_feed f (feeds ask (text ++ piece) (take n rest))))
          → and_feed f (feeds ask (text ++ piece) rest) ≡ Stops next refusal
          → ((now : Pool) (after : Stage) → (is_done after ≡ false → Stands ask start after now) → ((n : ℕ) → n < length rest → IsWaiting (feeds ask (text ++ piece) (take n rest) after now))
          → feeds ask (text ++ piece) rest after now ≡ Stops next refusal → HasNothing ask (kept_of start) (kept_of next))
          → HasNothing ask (kept_of start) (kept_of next)
      go (Goes now after) is waits e on = on now after (step_stands stage after pool now (new_records text piece) (fault_of (reading (text ++ piece)).outcome) stands is) waits e
      go (Stops other why) is waits e on =
          subst (λ (p : Pool). HasNothing ask (kept_of start) (kept_of p)) (same_stop other next why refusal e)
          (nothing_stops stage pool other (new_records text piece) (fault_of (reading (text ++ piece)).outcome) why fleeting unended (stands unended) is)

  pub stopped : (pieces : List (List ℕ)) (after : Pool) (refusal : Refusal) → ask.keep ≡ false → ((n : ℕ) → n < length pieces → IsWaiting (feeds ask [] (take n pieces) Waits start))
      → feeds ask [] pieces Waits start ≡ Stops after refusal → HasNothing ask (kept_of start) (kept_of after)
  stopped pieces after refusal fleeting waits e = refused [] pieces Waits start after refusal fleeting (λ unended. stands_first ask start) waits e

pub cut_nothing : CutLeavesNothing
cut_nothing ask pool pieces none fleeting = (
  λ now stage e unended. cut ask pool none pieces now stage fleeting e unended,
  λ after refusal waits e. stopped ask pool none pieces after refusal fleeting waits e,
)
