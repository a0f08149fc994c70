-- The look-ups of a send and its checks, one after another.
use Rattle.std.proofs.Common.{◌≡◌, ℕ, Option, Result, Ok, Err, refl, sym, ap, ◌∙◌, subst}
use Rattle.std.specs.Prelude.{IsErrAnd}
use Rattle.zst_model.specs.declared.refusals.plan_fault.PlanFault.{PlanFault}
use Rattle.zst_model.specs.declared.sends.ask.SendAsk.{SendAsk}
use Rattle.zst_model.specs.pools.Ancestry.{Source}
use Rattle.zst_model.specs.pools.Pool.{Pool, Bookmark, Snapshot}
use Rattle.zst_model.specs.sends.Headers.{Sent}
use Rattle.zst_model.specs.sends.SendPlan.{find_redaction, find_snapshot, find_source, if_no_relay, if_redaction, kind_of, send_plan, sent_of}
use Rattle.zst_model.specs.states.AppliedItems.{◌>>=◌}
use Rattle.zst_model.proofs.Results.{err_is}
use Rattle.zst_dir.specs.Rows.{Rows}
use Rattle.zst_plan.specs.Places.{AnswerAlike, FindAlike, StandsAt}
use Rattle.zst_plan.specs.Plans.{IsPlanOf}
use Rattle.zst_plan.specs.ResumePlan.{find_from, find_marked, find_to, resumed_send}
use Rattle.zst_plan.specs.Sources.{IsSource}
use Rattle.zst_plan.specs.declared.plan.SendPlan.{SendPlan}
use Rattle.zst_plan.specs.declared.source.Source as found
use Rattle.zst_plan.proofs.AlikeAnswers.{ok_alike, err_alike, both_refuse}
use Rattle.zst_token.specs.declared.token.Token.{Token}

-- what is sent where all checks pass, and what is left of them after each
abbrev pub the_sent : Pool → Snapshot → Option Source → Option Bookmark → Sent
the_sent pool snapshot source redaction = record { snapshot = snapshot; kind = kind_of pool snapshot; source = source; redaction = redaction }

abbrev pub after_redaction : Pool → Snapshot → Option Source → Option Bookmark → Result Sent PlanFault
after_redaction pool snapshot source redaction = if_no_relay snapshot redaction (Ok (the_sent pool snapshot source redaction))

abbrev pub after_before : Pool → Snapshot → Option Source → Option Bookmark → Result Sent PlanFault
after_before pool snapshot source redaction = if_redaction snapshot redaction (after_redaction pool snapshot source redaction)

-- the three look-ups of a send, and its checks
abbrev pub looked_up : Pool → Result Snapshot PlanFault → (Snapshot → Result (Option Source) PlanFault) → (Snapshot → Result (Option Bookmark) PlanFault) → Result Sent PlanFault
looked_up pool to from list = to >>= (λ snapshot. from snapshot >>= (λ source. list snapshot >>= (λ redaction. sent_of pool snapshot source redaction)))

-- so it is with a send of what is named, and with one from a token
pub named_send : (ask : SendAsk) (pool : Pool) → send_plan ask pool ≡ looked_up pool (find_snapshot ask.snap pool) (λ snapshot. find_source ask.from pool) (λ snapshot. find_redaction ask.redact pool)
unfolding send_plan
named_send ask pool = refl

pub token_send : (token : Token) (pool : Pool) → resumed_send token pool ≡ looked_up pool (find_to token pool) (find_from token pool) (find_marked token pool)
unfolding resumed_send
token_send token pool = refl

module _ (rows : Rows) (pool : Pool) (to : Result Snapshot PlanFault) (from : Snapshot → Result (Option Source) PlanFault) (list : Snapshot → Result (Option Bookmark) PlanFault) where
  -- the snapshot that was found, and the source and the bookmark that were found for it
  abbrev pub FoundTo : Result ℕ PlanFault → Type 0
  FoundTo answer = AnswerAlike (StandsAt rows.snapshots pool.snapshots) answer to

  abbrev pub FoundFrom : ℕ → Result (Option found.Source) PlanFault → Type 0
  FoundFrom snap answer = (snapshot : Snapshot) → StandsAt rows.snapshots pool.snapshots snap snapshot → AnswerAlike (FindAlike (IsSource rows pool)) answer (from snapshot)

  abbrev pub FoundList : ℕ → Result (Option ℕ) PlanFault → Type 0
  FoundList snap answer =
      (snapshot : Snapshot) → StandsAt rows.snapshots pool.snapshots snap snapshot → AnswerAlike (FindAlike (StandsAt rows.bookmarks pool.bookmarks)) answer (list snapshot)

  module _ (definition : Result Sent PlanFault) (is : definition ≡ looked_up pool to from list) (result : Result SendPlan PlanFault) where
    -- what each look-up refuses
    pub refuses_to : (fault : PlanFault) → IsErrAnd result (λ e. e ≡ fault) → FoundTo (Err fault) → AnswerAlike (IsPlanOf rows pool) result definition
    refuses_to fault refused no_to =
        both_refuse (IsPlanOf rows pool) result definition fault (err_is result fault refused)
        (is ∙ ap (λ t. looked_up pool t from list) (err_alike (StandsAt rows.snapshots pool.snapshots) fault to no_to))

    pub refuses_from : (snap : ℕ) (fault : PlanFault) → IsErrAnd result (λ e. e ≡ fault) → FoundTo (Ok snap) → FoundFrom snap (Err fault)
        → AnswerAlike (IsPlanOf rows pool) result definition
    refuses_from snap fault refused has_to no_from =
        let s = ok_alike (StandsAt rows.snapshots pool.snapshots) snap to has_to in
        both_refuse (IsPlanOf rows pool) result definition fault (err_is result fault refused)
        (is ∙ ap (λ t. looked_up pool t from list) s.1
        ∙ ap (λ f. f >>= (λ source. list s.0 >>= (λ redaction. sent_of pool s.0 source redaction))) (err_alike (FindAlike (IsSource rows pool)) fault (from s.0) (no_from s.0 s.2)))

    module _ (snap : ℕ) (has_to : FoundTo (Ok snap)) (source : Option found.Source) (has_from : FoundFrom snap (Ok source)) where
      pub refuses_list : (fault : PlanFault) → IsErrAnd result (λ e. e ≡ fault) → FoundList snap (Err fault) → AnswerAlike (IsPlanOf rows pool) result definition
      refuses_list fault refused no_list =
          let s = ok_alike (StandsAt rows.snapshots pool.snapshots) snap to has_to in
          let f = ok_alike (FindAlike (IsSource rows pool)) source (from s.0) (has_from s.0 s.2) in
          both_refuse (IsPlanOf rows pool) result definition fault (err_is result fault refused)
          (is ∙ ap (λ t. looked_up pool t from list) s.1
          ∙ ap (λ f. f >>= (λ source. list s.0 >>= (λ redaction. sent_of pool s.0 source redaction))) f.1
          ∙ ap (λ l. l >>= (λ redaction. sent_of pool s.0 f.0 redaction)) (err_alike (FindAlike (StandsAt rows.bookmarks pool.bookmarks)) fault (list s.0) (no_list s.0 s.2)))

      -- what is left once all is found
      pub checks_found : (book_t : Option ℕ) → FoundList snap (Ok book_t)
          → ((snapshot : Snapshot) (other : Option Source) (redaction : Option Bookmark) → StandsAt rows.snapshots pool.snapshots snap snapshot
          → FindAlike (IsSource rows pool) source other → FindAlike (StandsAt rows.bookmarks pool.bookmarks) book_t redaction
          → AnswerAlike (IsPlanOf rows pool) result (sent_of pool snapshot other redaction))
          → AnswerAlike (IsPlanOf rows pool) result definition
      checks_found book_t has_list checked =
          let s = ok_alike (StandsAt rows.snapshots pool.snapshots) snap to has_to in
          let f = ok_alike (FindAlike (IsSource rows pool)) source (from s.0) (has_from s.0 s.2) in
          let l = ok_alike (FindAlike (StandsAt rows.bookmarks pool.bookmarks)) book_t (list s.0) (has_list s.0 s.2) in
          subst (AnswerAlike (IsPlanOf rows pool) result)
          (sym (is ∙ ap (λ t. looked_up pool t from list) s.1
          ∙ ap (λ f. f >>= (λ source. list s.0 >>= (λ redaction. sent_of pool s.0 source redaction))) f.1
          ∙ ap (λ l. l >>= (λ redaction. sent_of pool s.0 f.0 redaction)) l.1))
          (checked s.0 f.0 l.0 s.2 f.2 l.2)
