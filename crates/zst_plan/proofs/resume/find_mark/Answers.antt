use Rattle.std.proofs.Common.{rules, ◌∙◌, ◌≡◌, ◌&&◌, ◌==◌, Bool, true, false, Option, Some, Err, bytes_eq, if◌then◌else◌, option_map, refl, sym, subst, Result}
use Rattle.std.specs.List.{find}
use Rattle.std.specs.Option.{ok_or}
use Rattle.zst_dir.specs.RowNames.{NamesBookmark}
use Rattle.zst_model.specs.declared.refusals.plan_fault.PlanFault.{PlanFault}
use Rattle.zst_model.specs.pools.Pool.{Bookmark}
use Rattle.zst_model.specs.sends.SendPlan.{has_guids}
use Rattle.zst_plan.specs.Places.{AnswerAlike, FindAlike, StandsAt}
use Rattle.zst_plan.specs.ResumePlan.{is_marked, no_guid}
use Rattle.zst_plan.proofs.LookupLemmas.{answers_by, both_find, wrapped}
use Rattle.zst_plan.proofs.resume.find_mark.Goals as goal

-- what is looked up where there are redaction guids, and what is refused where there are none
abbrev if_some : Bool → Option Bookmark → PlanFault → Result (Option Bookmark) PlanFault
if_some some found fault = if some then ok_or (option_map Some found) fault else Err fault

looks_up : (some : Bool) (found : Option Bookmark) (fault : PlanFault) → some ≡ true → if_some some found fault ≡ ok_or (option_map Some found) fault
looks_up true found fault is = refl
looks_up false found fault is = absurd (cc)

looks_not : (some : Bool) (found : Option Bookmark) (fault : PlanFault) → some ≡ false → if_some some found fault ≡ Err fault
looks_not true found fault is = absurd (cc)
looks_not false found fault is = refl

pub returns-then-not-has_guids : goal.returns-then-not-has_guids
returns-then-not-has_guids c = record {
  inside = search rules;
  found = λ pool are.
      let token = c.args.token.now in
      subst (λ (r : Result (Option Bookmark) PlanFault). AnswerAlike (FindAlike (StandsAt c.args.dir.now.bookmarks pool.bookmarks)) (Err c.no_guid-fault.result) r)
      (sym (looks_not (has_guids token.redact) (find (is_marked token) pool.bookmarks) (no_guid token.to) (sym c.has_guids.ensures ∙ c.if-not-has_guids.true)))
      c.no_guid-fault.ensures;
}

pub returns : goal.returns
returns c = record {
  inside = search rules;
  found = λ pool are.
      let rows = c.args.dir.now in
      let token = c.args.token.now in
      let found = find (is_marked token) pool.bookmarks in
      let alike = both_find NamesBookmark (λ bookmark. bookmark.guid == token.to && bytes_eq bookmark.redact token.redact) (is_marked token)
      (λ x y names. rw (names.guid, names.redact) refl) rows.bookmarks pool.bookmarks are.bookmarks c.first_marked.result c.first_marked.ensures in
      subst (λ (r : Result (Option Bookmark) PlanFault). AnswerAlike (FindAlike (StandsAt rows.bookmarks pool.bookmarks)) c.ok_or.result r)
      (sym (looks_up (has_guids token.redact) found (no_guid token.to) (sym c.has_guids.ensures ∙ c.if-not-has_guids.false)))
      (answers_by (FindAlike (StandsAt rows.bookmarks pool.bookmarks)) c.map.result (option_map Some found) c.no_guid-fault.result (no_guid token.to) c.ok_or.result c.ok_or.ensures.value c.no_guid-fault.ensures
      (wrapped (StandsAt rows.bookmarks pool.bookmarks) c.first_marked.result c.map.result found (λ x w made. search rules) c.map.ensures.cases alike));
}
