use Rattle.std.proofs.Common.{◌≡◌, ℕ, ◌+◌, List, [], ◌∷◌, ◌++◌, All, take, get_or, refl, sym, ◌∙◌, ap, subst, arith}
use Rattle.std.proofs.lemmas.Grind.{common_steps}
use Rattle.std.proofs.lemmas.List.{take_more}
use Rattle.std.proofs.lemmas.List.Elements.{All-nil, All-push}
use Rattle.zst_dir.specs.declared.rows.Snapshot.{Snapshot as Row}
use Rattle.zst_tree.specs.declared.tree.ObjSet.{ObjSet}
use Rattle.zst_check.specs.Redactions.{IsSetOfRow}
use Rattle.zst_check.proofs.RedactionSets.{HasSetsFor, are_redactions, has_more, has_none, no_redactions}
use Rattle.zst_check.proofs.redactions.redaction_sets.Goals as goal

pub loop-guid-init : goal.loop-guid-init
loop-guid-init c = record {
  rows = subst (All (IsSetOfRow c.args.dir.now.snapshots)) (sym c.new-sets.ensures.items) (All-nil (IsSetOfRow c.args.dir.now.snapshots));
  only = λ pool own are lawful sound there names. subst (λ (sets : List ObjSet). HasSetsFor c.args.dir.now.snapshots pool own [] sets) (sym c.new-sets.ensures.items) (has_none c.args.dir.now.snapshots pool own);
}

pub loop-guid-preserved : goal.loop-guid-preserved
loop-guid-preserved c =
    let all = c.args.dir.now.snapshots in
    let place = c.in-Some.place in
    let index = c.loop-guid.guid-index in
    let guid = get_or c.args.guids.now index 0 in
    let row = c.index-snapshots-place.result in
    let was = c.loop-guid.invariant in
    let stands : row ≡ get_or all place row = c.index-snapshots-place.is ∙ ap (λ (rows : List Row). get_or rows place row) c.snapshots.ensures in
    let pushed : c.push.new.self.items ≡ c.loop-guid.sets.items ++ row.objects ∷ [] =
    c.in_ok-push-in-Some.ensures.items ∙ ap (λ (other : Row). c.loop-guid.sets.items ++ other.objects ∷ []) (sym c.index-snapshots-place.is) in
    record {
      rows = subst (All (IsSetOfRow all)) (sym pushed) (All-push (IsSetOfRow all) c.loop-guid.sets.items row.objects was.rows (record { row = row; listed = (place, c.in-Some.ensures.inside, sym stands); is_set = refl }));
      only = λ pool own are lawful sound there names.
          let more = has_more all pool own (take index c.args.guids.now) c.loop-guid.sets.items (was.only pool own are lawful sound there names) guid place row are.snapshots c.in-Some.ensures.inside stands
          (λ snapshot at. (c.in-Some.ensures.only pool own snapshot are lawful sound there names).1 at) in
          subst (λ (sets : List ObjSet). HasSetsFor all pool own (take (index + 1) c.args.guids.now) sets) (sym pushed)
          (subst (λ (guids : List ℕ). HasSetsFor all pool own guids (c.loop-guid.sets.items ++ row.objects ∷ [])) (sym (take_more c.args.guids.now index 0 c.loop-guid-test.true)) more);
    }

pub returns-in-None-clause-only : goal.returns-in-None-clause-only
returns-in-None-clause-only c = λ pool own are lawful sound there names redactions is.
    no_redactions pool own c.args.guids.now c.requires c.loop-guid.guid-index 0 c.loop-guid-test.true (λ snapshot only. (c.in-None.ensures.only pool own snapshot are lawful sound there names).0 only) redactions is

pub returns-clause-only : goal.returns-clause-only
returns-clause-only c = λ pool own are lawful sound there names.
    let whole : take c.loop-guid.guid-index c.args.guids.now ≡ c.args.guids.now = grind (arith, common_steps) in
    let has = subst (λ (guids : List ℕ). HasSetsFor c.args.dir.now.snapshots pool own guids c.loop-guid.sets.items) whole (c.loop-guid.invariant.only pool own are lawful sound there names) in
    (has.redactions, are_redactions pool own c.args.guids.now has.redactions has.only, has.sets_are)
