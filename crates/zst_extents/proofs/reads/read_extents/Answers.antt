use Rattle.std.specs.Prelude.{Vec}
use Rattle.std.specs.declared.alloc.Global.{Global}
use Rattle.std.proofs.Common.{◌≡◌, List, sym, ◌∙◌, subst, arith}
use Rattle.std.proofs.lemmas.Bool.{true≢false}
use Rattle.zst_space.specs.declared.space.Extent.{Extent}
use Rattle.zst_marks.specs.Marks.{Apart}
use Rattle.zst_extents.proofs.ApartExtents.{Apart-fits}
use Rattle.zst_extents.proofs.ReadRefusals.{passed_on, root_told}
use Rattle.zst_extents.proofs.reads.read_extents.Goals as goal

pub returns-in_err-extents-clause-there : goal.returns-in_err-extents-clause-there
returns-in_err-extents-clause-there g c = λ extents honest is apart.
    passed_on extents _ (Vec Extent Global) (λ read. read.items) _ c.from_residual.result c.in_err-extents.field-0.0 c.from_residual.ensures.1 (c.in_err-extents.ensures.there extents honest (Apart-fits extents c.args.end (omega arith) apart) is)

pub returns-then-not-are_apart-clause-there : goal.returns-then-not-are_apart-clause-there
returns-then-not-are_apart-clause-there g c = λ extents honest is apart.
    let same : c.deref.result.now ≡ extents = c.deref.ensures.value ∙ c.in_ok-extents.ensures.there extents honest (Apart-fits extents c.args.end (omega arith) apart) is in
    let are = c.are_apart.ensures.1 (subst (λ (l : List Extent). Apart 8 l c.args.end) (sym same) apart) in
    absurd (true≢false (sym are ∙ c.if-not-are_apart.true))

pub returns-then-not-are_apart-clause-damaged : goal.returns-then-not-are_apart-clause-damaged
returns-then-not-are_apart-clause-damaged g c = λ honest.
    root_told _ _ _ c.args.levels c.args.root c.args.count c.args.end c.in_ok-extents.extents.items (Vec Extent Global) c.no_extents.result (omega arith) c.in_ok-extents.ensures.fit
    (λ apart.
    true≢false (sym (c.are_apart.ensures.1 (subst (λ (l : List Extent). Apart 8 l c.args.end) (sym c.deref.ensures.value) apart)) ∙ c.if-not-are_apart.true)) (c.in_ok-extents.ensures.only honest) c.no_extents.ensures

pub returns-clause-there : goal.returns-clause-there
returns-clause-there g c = λ extents honest is apart. c.in_ok-extents.ensures.there extents honest (Apart-fits extents c.args.end (omega arith) apart) is
