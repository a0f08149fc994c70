use Rattle.std.proofs.Common.{◌≡◌, inl, inr, ⊎_elim, sym, ◌+◌, ◌-◌, ◌*◌, ◌<◌, ap, refl, ◌∙◌, arith}
use Rattle.std.proofs.lemmas.Result.{err_from_is_err_and}
use Rattle.zst_block.proofs.BlocksLaws.{FillsFree-then}
use Rattle.zst_block.proofs.IoCallLemmas.{Works-after, Works-then, Works-more, Works-looks, Looks-none}
use Rattle.zst_tree.specs.Damage.{NamesNode}
use Rattle.zst_tree.specs.Indices.{span}
use Rattle.zst_tree.proofs.IndicesLaws.{Subtree-grows}
use Rattle.zst_tree.proofs.SubtreeCases.{kept_looks, kept_works}
use Rattle.zst_tree.proofs.BuiltSubtrees.{child_stands}
use Rattle.zst_tree.proofs.WriteCounts.{one_level}
use Rattle.zst_tree.proofs.ChildChanges.{all_changed, one_changed, one_beside, low_changed, high_changed, two_beside, two_between}
use Rattle.zst_tree.proofs.LaterDamage.{fills_looks, below_now, same_now, fault_after, told_after}
use Rattle.std.proofs.lemmas.Result.{IfOk-weaker}
use Rattle.zst_tree.proofs.LaterDamage.{spares_before}
use Rattle.zst_tree.proofs.ChangedTrees.{IsWithin-fewer, IsWithin-size, IsWithin-stands, IsWithin-then, opened_within}
use Rattle.zst_tree.proofs.puts.+put_in.Goals as goal

pub returns-then-is_whole-clause-put : goal.returns-then-is_whole-clause-put
returns-then-is_whole-clause-put g t c = λ base map put honest s changed.
    let whole = c.is_whole.ensures.whole c.if-is_whole.true in
    all_changed _ map put _ base _ _ _ changed whole.0 whole.1 c.requires.lawful c.requires.leaf

pub returns-then-is_whole-clause-works : goal.returns-then-is_whole-clause-works
returns-then-is_whole-clause-works g t c = Works-looks (Looks-none _)

pub returns-in_err-open-clause-works : goal.returns-in_err-open-clause-works
returns-in_err-open-clause-works g t c =
    let p = err_from_is_err_and c.from_residual.result c.from_residual.ensures.1 in
    rw (p.1, p.2) (Works-looks c.in_err-open.ensures.looks)

pub returns-in_err-made-clause-put : goal.returns-in_err-made-clause-put
returns-in_err-made-clause-put g t c = λ base map put honest s changed.
    let h : 0 < c.args.level = (c.is_whole.ensures.part c.if-is_whole.false).0 in
    let ends = c.ends_of-ends.ensures in
    let eb : c.ends_of-ends.result.low * span (c.args.level - 1) + c.ends_of-ends.result.below ≡ c.args.below =
    ap (λ n. n * span (c.args.level - 1) + c.ends_of-ends.result.below) c.if-ends.true ∙ ends.below.0 in
    let lt : c.ends_of-ends.result.low < 128 = omega arith in
    let parts = c.in_ok-open.ensures.parts base map (c.in_err-made.ensures.works.fills.honest honest) s in
    let low = child_stands _ map _ _ _ _ c.child_at-low.ensures.child (Subtree-grows _ _ (kept_looks c.in_ok-open.ensures.looks) _ _ _ map (parts.below c.ends_of-ends.result.low lt)) in
    let p = err_from_is_err_and c.from_residual-in_err-made.result c.from_residual-in_err-made.ensures.1 in
    rw (p.1, p.2) (c.in_err-made.ensures.put _ map put honest low (one_changed map put _ base _ _ _ changed h c.ends_of-ends.result.low _ _ lt ends.first.0 eb))

pub returns-in_err-made-clause-works : goal.returns-in_err-made-clause-works
returns-in_err-made-clause-works g t c =
    let one = c.ends_of-ends.ensures.one c.if-ends.true in
    let p = err_from_is_err_and c.from_residual-in_err-made.result c.from_residual-in_err-made.ensures.1 in
    rw (p.1, p.2) (Works-more (omega (arith, one.1)) (Works-after c.in_ok-open.ensures.looks c.in_err-made.ensures.works))

pub returns-then-ends-clause-put : goal.returns-then-ends-clause-put
returns-then-ends-clause-put g t c = λ base map put honest s changed.
    let h : 0 < c.args.level = (c.is_whole.ensures.part c.if-is_whole.false).0 in
    let ends = c.ends_of-ends.ensures in
    let eb : c.ends_of-ends.result.low * span (c.args.level - 1) + c.ends_of-ends.result.below ≡ c.args.below =
    ap (λ n. n * span (c.args.level - 1) + c.ends_of-ends.result.below) c.if-ends.true ∙ ends.below.0 in
    let lt : c.ends_of-ends.result.low < 128 = omega arith in
    let told = c.mend_one.ensures.works.fills.honest honest in
    let looked = kept_looks c.in_ok-open.ensures.looks in
    let worked = kept_works c.in_ok-made.ensures.works in
    let parts = c.in_ok-open.ensures.parts base map (c.in_ok-made.ensures.works.fills.honest told) s in
    let low = child_stands _ map _ _ _ _ c.child_at-low.ensures.child (Subtree-grows _ _ looked _ _ _ map (parts.below c.ends_of-ends.result.low lt)) in
    c.mend_one.ensures.mended base map put honest (Subtree-grows _ _ worked _ _ _ map (Subtree-grows _ _ looked _ _ _ map s))
    (c.in_ok-made.ensures.put _ map put told low (one_changed map put _ base _ _ _ changed h c.ends_of-ends.result.low _ _ lt ends.first.0 eb))
    (one_beside map put _ base _ _ _ changed h c.ends_of-ends.result.low _ _ ends.first.0 eb ends.below.2)

pub returns-then-ends-clause-works : goal.returns-then-ends-clause-works
returns-then-ends-clause-works g t c =
    let one = c.ends_of-ends.ensures.one c.if-ends.true in
    Works-more (omega (arith, one.1)) (Works-after c.in_ok-open.ensures.looks (Works-then c.in_ok-made.ensures.works c.mend_one.ensures.works))

pub returns-in_err-new_low-clause-put : goal.returns-in_err-new_low-clause-put
returns-in_err-new_low-clause-put g t c = λ base map put honest s changed.
    let h : 0 < c.args.level = (c.is_whole.ensures.part c.if-is_whole.false).0 in
    let ends = c.ends_of-ends.ensures in
    let order : c.ends_of-ends.result.low < c.ends_of-ends.result.high = omega arith in
    let lt : c.ends_of-ends.result.high < 128 = omega arith in
    let parts = c.in_ok-open.ensures.parts base map (c.in_err-new_low.ensures.works.fills.honest honest) s in
    let low = child_stands _ map _ _ _ _ c.child_at-low.ensures.child (Subtree-grows _ _ (kept_looks c.in_ok-open.ensures.looks) _ _ _ map (parts.below c.ends_of-ends.result.low (omega arith))) in
    let p = err_from_is_err_and c.from_residual-in_err-new_low.result c.from_residual-in_err-new_low.ensures.1 in
    rw (p.1, p.2) (c.in_err-new_low.ensures.put _ map put honest low
    (rw c.span_of-part.ensures (low_changed map put _ base _ _ _ changed h c.ends_of-ends.result.low c.ends_of-ends.result.high _ _ order lt ends.first.0 ends.first.1 ends.below.0 ends.below.1 ends.below.2)))

pub returns-in_err-new_low-clause-works : goal.returns-in_err-new_low-clause-works
returns-in_err-new_low-clause-works g t c =
    let order : c.ends_of-ends.result.low < c.ends_of-ends.result.high = omega arith in
    let two = c.ends_of-ends.ensures.two order in
    let p = err_from_is_err_and c.from_residual-in_err-new_low.result c.from_residual-in_err-new_low.ensures.1 in
    rw (p.1, p.2) (Works-more (rw c.span_of-part.ensures (omega (arith, two))) (Works-after c.in_ok-open.ensures.looks c.in_err-new_low.ensures.works))

pub returns-in_err-new_high-clause-put : goal.returns-in_err-new_high-clause-put
returns-in_err-new_high-clause-put g t c = λ base map put honest s changed.
    let h : 0 < c.args.level = (c.is_whole.ensures.part c.if-is_whole.false).0 in
    let ends = c.ends_of-ends.ensures in
    let order : c.ends_of-ends.result.low < c.ends_of-ends.result.high = omega arith in
    let lt : c.ends_of-ends.result.high < 128 = omega arith in
    let parts = c.in_ok-open.ensures.parts base map (c.in_ok-new_low.ensures.works.fills.honest (c.in_err-new_high.ensures.works.fills.honest honest)) s in
    let looked = kept_looks c.in_ok-open.ensures.looks in
    let worked = kept_works c.in_ok-new_low.ensures.works in
    let high = child_stands _ map _ _ _ _ c.child_at-high.ensures.child (Subtree-grows _ _ worked _ _ _ map (Subtree-grows _ _ looked _ _ _ map (parts.below c.ends_of-ends.result.high lt))) in
    let p = err_from_is_err_and c.from_residual-in_err-new_high.result c.from_residual-in_err-new_high.ensures.1 in
    rw (p.1, p.2) (c.in_err-new_high.ensures.put _ map put honest high
    (high_changed map put _ base _ _ _ changed h c.ends_of-ends.result.low c.ends_of-ends.result.high _ _ order lt ends.first.0 ends.first.1 ends.below.0 ends.below.1 ends.below.2))

pub returns-in_err-new_high-clause-works : goal.returns-in_err-new_high-clause-works
returns-in_err-new_high-clause-works g t c =
    let order : c.ends_of-ends.result.low < c.ends_of-ends.result.high = omega arith in
    let two = c.ends_of-ends.ensures.two order in
    let p = err_from_is_err_and c.from_residual-in_err-new_high.result c.from_residual-in_err-new_high.ensures.1 in
    rw (p.1, p.2) (Works-more (rw c.span_of-part.ensures (omega (arith, two))) (Works-after c.in_ok-open.ensures.looks (Works-then c.in_ok-new_low.ensures.works c.in_err-new_high.ensures.works)))

pub returns-clause-put : goal.returns-clause-put
returns-clause-put g t c = λ base map put honest s changed.
    let h : 0 < c.args.level = (c.is_whole.ensures.part c.if-is_whole.false).0 in
    let ends = c.ends_of-ends.ensures in
    let order : c.ends_of-ends.result.low < c.ends_of-ends.result.high = omega arith in
    let lt : c.ends_of-ends.result.high < 128 = omega arith in
    let told_high = c.mend_two.ensures.works.fills.honest honest in
    let told_low = c.in_ok-new_high.ensures.works.fills.honest told_high in
    let looked = kept_looks c.in_ok-open.ensures.looks in
    let one = kept_works c.in_ok-new_low.ensures.works in
    let two = kept_works c.in_ok-new_high.ensures.works in
    let parts = c.in_ok-open.ensures.parts base map (c.in_ok-new_low.ensures.works.fills.honest told_low) s in
    let low = child_stands _ map _ _ _ _ c.child_at-low.ensures.child (Subtree-grows _ _ looked _ _ _ map (parts.below c.ends_of-ends.result.low (omega arith))) in
    let high = child_stands _ map _ _ _ _ c.child_at-high.ensures.child (Subtree-grows _ _ one _ _ _ map (Subtree-grows _ _ looked _ _ _ map (parts.below c.ends_of-ends.result.high lt))) in
    let made_low = c.in_ok-new_low.ensures.put _ map put told_low low
    (rw c.span_of-part.ensures (low_changed map put _ base _ _ _ changed h c.ends_of-ends.result.low c.ends_of-ends.result.high _ _ order lt ends.first.0 ends.first.1 ends.below.0 ends.below.1 ends.below.2)) in
    let made_high = c.in_ok-new_high.ensures.put _ map put told_high high
    (high_changed map put _ base _ _ _ changed h c.ends_of-ends.result.low c.ends_of-ends.result.high _ _ order lt ends.first.0 ends.first.1 ends.below.0 ends.below.1 ends.below.2) in
    c.mend_two.ensures.mended base map put honest
    (Subtree-grows _ _ two _ _ _ map (Subtree-grows _ _ one _ _ _ map (Subtree-grows _ _ looked _ _ _ map s)))
    (Subtree-grows _ _ two _ _ _ put made_low) made_high
    (two_beside map put _ base _ _ _ changed h c.ends_of-ends.result.low c.ends_of-ends.result.high _ _ order lt ends.first.0 ends.first.1 ends.below.0 ends.below.1 ends.below.2)
    (two_between map put _ base _ _ _ changed h c.ends_of-ends.result.low c.ends_of-ends.result.high _ _ order lt ends.first.0 ends.first.1 ends.below.0 ends.below.1 ends.below.2)

pub returns-clause-works : goal.returns-clause-works
returns-clause-works g t c =
    let order : c.ends_of-ends.result.low < c.ends_of-ends.result.high = omega arith in
    let two = c.ends_of-ends.ensures.two order in
    Works-more (rw c.span_of-part.ensures (omega (arith, two))) (Works-after c.in_ok-open.ensures.looks (Works-then (Works-then c.in_ok-new_low.ensures.works c.in_ok-new_high.ensures.works) c.mend_two.ensures.works))

pub returns-in_err-made-clause-damaged : goal.returns-in_err-made-clause-damaged
returns-in_err-made-clause-damaged g t c = λ honest.
    let lt : c.ends_of-ends.result.low < 128 = omega (arith, c.if-ends.true, c.ends_of-ends.ensures.order.1) in
    let below = c.in_ok-open.ensures.below (c.in_err-made.ensures.works.fills.honest honest) c.ends_of-ends.result.low lt in
    let p = err_from_is_err_and c.from_residual-in_err-made.result c.from_residual-in_err-made.ensures.1 in
    let opened = fills_looks c.in_ok-open.ensures.looks in
    rw (p.1, p.2) (fault_after _ _ _ _ opened NamesNode c.args.level c.args.ptr (c.args.level - 1) c.child_at-low.result (below_now _ _ _ _ opened NamesNode c.args.level c.args.ptr (c.args.level - 1) c.child_at-low.result (rw c.child_at-low.ensures.child below)) _ (c.in_err-made.ensures.damaged honest))

pub returns-then-ends-clause-damaged : goal.returns-then-ends-clause-damaged
returns-then-ends-clause-damaged g t c = λ honest.
    let opened = fills_looks c.in_ok-open.ensures.looks in
    let filled = FillsFree-then _ _ _ _ _ _ opened c.in_ok-made.ensures.works.fills in
    told_after _ _ _ _ filled NamesNode c.args.level c.args.ptr c.args.level c.args.ptr (same_now _ _ _ _ filled NamesNode c.args.level c.args.ptr) c.mend_one.result (c.mend_one.ensures.damaged honest)

pub returns-in_err-new_low-clause-damaged : goal.returns-in_err-new_low-clause-damaged
returns-in_err-new_low-clause-damaged g t c = λ honest.
    let order : c.ends_of-ends.result.low < c.ends_of-ends.result.high = omega arith in
    let below = c.in_ok-open.ensures.below (c.in_err-new_low.ensures.works.fills.honest honest) c.ends_of-ends.result.low (omega arith) in
    let p = err_from_is_err_and c.from_residual-in_err-new_low.result c.from_residual-in_err-new_low.ensures.1 in
    let opened = fills_looks c.in_ok-open.ensures.looks in
    rw (p.1, p.2) (fault_after _ _ _ _ opened NamesNode c.args.level c.args.ptr (c.args.level - 1) c.child_at-low.result (below_now _ _ _ _ opened NamesNode c.args.level c.args.ptr (c.args.level - 1) c.child_at-low.result (rw c.child_at-low.ensures.child below)) _ (c.in_err-new_low.ensures.damaged honest))

pub returns-in_err-new_high-clause-damaged : goal.returns-in_err-new_high-clause-damaged
returns-in_err-new_high-clause-damaged g t c = λ honest.
    let below = c.in_ok-open.ensures.below (c.in_ok-new_low.ensures.works.fills.honest (c.in_err-new_high.ensures.works.fills.honest honest)) c.ends_of-ends.result.high c.ends_of-ends.ensures.order.1 in
    let p = err_from_is_err_and c.from_residual-in_err-new_high.result c.from_residual-in_err-new_high.ensures.1 in
    let filled = FillsFree-then _ _ _ _ _ _ (fills_looks c.in_ok-open.ensures.looks) c.in_ok-new_low.ensures.works.fills in
    rw (p.1, p.2) (fault_after _ _ _ _ filled NamesNode c.args.level c.args.ptr (c.args.level - 1) c.child_at-high.result (below_now _ _ _ _ filled NamesNode c.args.level c.args.ptr (c.args.level - 1) c.child_at-high.result (rw c.child_at-high.ensures.child below)) _ (c.in_err-new_high.ensures.damaged honest))

pub returns-clause-damaged : goal.returns-clause-damaged
returns-clause-damaged g t c = λ honest.
    let opened = fills_looks c.in_ok-open.ensures.looks in
    let filled = FillsFree-then _ _ _ _ _ _ (FillsFree-then _ _ _ _ _ _ opened c.in_ok-new_low.ensures.works.fills) c.in_ok-new_high.ensures.works.fills in
    told_after _ _ _ _ filled NamesNode c.args.level c.args.ptr c.args.level c.args.ptr (same_now _ _ _ _ filled NamesNode c.args.level c.args.ptr) c.mend_two.result (c.mend_two.ensures.damaged honest)

pub returns-then-is_whole-clause-root : goal.returns-then-is_whole-clause-root
returns-then-is_whole-clause-root g t c =
    let whole = c.is_whole.ensures.whole c.if-is_whole.true in
    inl (refl, ⊎_elim (λ flat. inr flat) (λ one. inl (one_level c.args.level (omega arith))) c.requires.leaf)

pub returns-then-is_whole-clause-within : goal.returns-then-is_whole-clause-within
returns-then-is_whole-clause-within g t c = λ honest.
    let whole = c.is_whole.ensures.whole c.if-is_whole.true in
    IsWithin-stands _ _ _ _ _ _ c.args.level c.args.leaf (⊎_elim (λ flat. inr flat) (λ one. inl (one_level c.args.level (omega arith))) c.requires.leaf) (inl refl)

pub returns-then-ends-clause-within : goal.returns-then-ends-clause-within
returns-then-ends-clause-within g t c = λ honest.
    let told = c.mend_one.ensures.works.fills.honest honest in
    let read = c.in_ok-made.ensures.works.fills.honest told in
    let lt : c.ends_of-ends.result.low < 128 = omega (arith, c.if-ends.true, c.ends_of-ends.ensures.order.1) in
    let opened = fills_looks c.in_ok-open.ensures.looks in
    let filled = FillsFree-then _ _ _ _ _ _ opened c.in_ok-made.ensures.works.fills in
    let low = opened_within _ _ _ (λ image spares. spares) (spares_before _ _ _ _ opened) _ c.args.level c.args.ptr c.args.leaf (c.args.level - 1) c.child_at-low.result
    (rw c.child_at-low.ensures.child (c.in_ok-open.ensures.below read c.ends_of-ends.result.low lt)) (rw c.child_at-low.ensures.child (c.in_ok-open.ensures.hangs read c.ends_of-ends.result.low lt)) (rw c.child_at-low.ensures.child (c.in_ok-open.ensures.sums read c.ends_of-ends.result.low lt)) in
    let made = IsWithin-then _ _ _ _ _ _ _ _ low _ _ _ (IsWithin-size _ _ _ _ _ _ opened.size _ _ _ (c.in_ok-made.ensures.within told)) in
    IfOk-weaker c.mend_one.result _ _ (λ done within. IsWithin-size _ _ _ _ _ _ filled.size _ _ _ within)
    (c.mend_one.ensures.within c.args.leaf _ _ honest (spares_before _ _ _ _ filled) (IsWithin-size _ _ _ _ _ _ (sym filled.size) _ _ _ made))

pub returns-clause-within : goal.returns-clause-within
returns-clause-within g t c = λ honest.
    let order : c.ends_of-ends.result.low < c.ends_of-ends.result.high = omega arith in
    let told_high = c.mend_two.ensures.works.fills.honest honest in
    let told_low = c.in_ok-new_high.ensures.works.fills.honest told_high in
    let read = c.in_ok-new_low.ensures.works.fills.honest told_low in
    let opened = fills_looks c.in_ok-open.ensures.looks in
    let one = FillsFree-then _ _ _ _ _ _ opened c.in_ok-new_low.ensures.works.fills in
    let two = FillsFree-then _ _ _ _ _ _ one c.in_ok-new_high.ensures.works.fills in
    let low = opened_within _ _ _ (λ image spares. spares) (spares_before _ _ _ _ opened) _ c.args.level c.args.ptr c.args.leaf (c.args.level - 1) c.child_at-low.result
    (rw c.child_at-low.ensures.child (c.in_ok-open.ensures.below read c.ends_of-ends.result.low (omega arith))) (rw c.child_at-low.ensures.child (c.in_ok-open.ensures.hangs read c.ends_of-ends.result.low (omega arith))) (rw c.child_at-low.ensures.child (c.in_ok-open.ensures.sums read c.ends_of-ends.result.low (omega arith))) in
    let high = opened_within _ _ _ (λ image spares. spares) (spares_before _ _ _ _ one) _ c.args.level c.args.ptr c.args.leaf (c.args.level - 1) c.child_at-high.result
    (rw c.child_at-high.ensures.child (c.in_ok-open.ensures.below read c.ends_of-ends.result.high c.ends_of-ends.ensures.order.1)) (rw c.child_at-high.ensures.child (c.in_ok-open.ensures.hangs read c.ends_of-ends.result.high c.ends_of-ends.ensures.order.1)) (rw c.child_at-high.ensures.child (c.in_ok-open.ensures.sums read c.ends_of-ends.result.high c.ends_of-ends.ensures.order.1)) in
    let made_low = IsWithin-then _ _ _ _ _ _ _ _ low _ _ _ (IsWithin-size _ _ _ _ _ _ opened.size _ _ _ (c.in_ok-new_low.ensures.within told_low)) in
    let made_high = IsWithin-then _ _ _ _ _ _ _ _ high _ _ _ (IsWithin-size _ _ _ _ _ _ one.size _ _ _ (c.in_ok-new_high.ensures.within told_high)) in
    IfOk-weaker c.mend_two.result _ _ (λ done within. IsWithin-size _ _ _ _ _ _ two.size _ _ _ within)
    (c.mend_two.ensures.within _ _ honest (spares_before _ _ _ _ two)
    (IsWithin-size _ _ _ _ _ _ (sym two.size) _ _ _ (IsWithin-fewer _ _ _ _ _ _ _ (spares_before _ _ _ _ c.in_ok-new_high.ensures.works.fills) _ _ made_low))
    (IsWithin-size _ _ _ _ _ _ (sym two.size) _ _ _ made_high))

pub returns-then-is_whole-clause-damaged : goal.returns-then-is_whole-clause-damaged
returns-then-is_whole-clause-damaged g t c = λ honest. tt

pub returns-in_err-open-clause-damaged : goal.returns-in_err-open-clause-damaged
returns-in_err-open-clause-damaged g t c = λ honest.
    let p = err_from_is_err_and c.from_residual.result c.from_residual.ensures.1 in
    rw (p.1, p.2) (c.in_err-open.ensures.damaged honest)

pub returns-in_err-open-clause-root : goal.returns-in_err-open-clause-root
returns-in_err-open-clause-root g t c =
    let p = err_from_is_err_and c.from_residual.result c.from_residual.ensures.1 in
    rw p.1 tt

pub returns-in_err-open-clause-within : goal.returns-in_err-open-clause-within
returns-in_err-open-clause-within g t c = λ honest.
    let p = err_from_is_err_and c.from_residual.result c.from_residual.ensures.1 in
    rw p.1 tt

pub returns-in_err-made-clause-root : goal.returns-in_err-made-clause-root
returns-in_err-made-clause-root g t c =
    let p = err_from_is_err_and c.from_residual-in_err-made.result c.from_residual-in_err-made.ensures.1 in
    rw p.1 tt

pub returns-in_err-made-clause-within : goal.returns-in_err-made-clause-within
returns-in_err-made-clause-within g t c = λ honest.
    let p = err_from_is_err_and c.from_residual-in_err-made.result c.from_residual-in_err-made.ensures.1 in
    rw p.1 tt

pub returns-in_err-new_low-clause-root : goal.returns-in_err-new_low-clause-root
returns-in_err-new_low-clause-root g t c =
    let p = err_from_is_err_and c.from_residual-in_err-new_low.result c.from_residual-in_err-new_low.ensures.1 in
    rw p.1 tt

pub returns-in_err-new_low-clause-within : goal.returns-in_err-new_low-clause-within
returns-in_err-new_low-clause-within g t c = λ honest.
    let p = err_from_is_err_and c.from_residual-in_err-new_low.result c.from_residual-in_err-new_low.ensures.1 in
    rw p.1 tt

pub returns-in_err-new_high-clause-root : goal.returns-in_err-new_high-clause-root
returns-in_err-new_high-clause-root g t c =
    let p = err_from_is_err_and c.from_residual-in_err-new_high.result c.from_residual-in_err-new_high.ensures.1 in
    rw p.1 tt

pub returns-in_err-new_high-clause-within : goal.returns-in_err-new_high-clause-within
returns-in_err-new_high-clause-within g t c = λ honest.
    let p = err_from_is_err_and c.from_residual-in_err-new_high.result c.from_residual-in_err-new_high.ensures.1 in
    rw p.1 tt

pub mend_two-requires-clause-lawful : goal.mend_two-requires-clause-lawful
mend_two-requires-clause-lawful g t c = c.requires.lawful
