use Rattle.std.proofs.Common.{ℕ, ◌^◌, ◌<◌, ◌≤◌, List, sym, subst, arith}
use Rattle.std.specs.Prelude.{Option, IfSome}
use Rattle.std.specs.List.{AllZip}
use Rattle.std.proofs.lemmas.Result.{err_from_is_err_and}
use Rattle.zst_space.specs.FreeSectors.{FreeSectors}
use Rattle.zst_block.specs.Blocks.{Has}
use Rattle.zst_block.specs.IoStates.{blocks_of, disk_of}
use Rattle.zst_block.proofs.IoCallLemmas.{Looks-none, Looks-then}
use Rattle.zst_tree.specs.Damage.{IsSeen}
use Rattle.zst_tree.specs.Indices.{IsNoDamage}
use Rattle.zst_tree.specs.declared.tree.ObjSet.{ObjSet}
use Rattle.zst_tree.proofs.Damage.{seen_before}
use Rattle.zst_objset.specs.Damage.{IfDamage, IfDamaged}
use Rattle.zst_objset.specs.Sets.{SetHolds}
use Rattle.zst_objset.proofs.LeafLaws.{look_on}
use Rattle.zst_redact.specs.Damage.{IsDamagedAmong}
use Rattle.zst_redact.specs.Passes.{PassesNumbers, is_late}
use Rattle.zst_redact.proofs.Damage.{first_told, rest_damaged}
use Rattle.zst_redact.proofs.LateNumbers.{first_none, first_some, none_passed}
use Rattle.zst_redact.proofs.Sets.{first_undamaged, range_on}
use Rattle.zst_redact.proofs.numbers.+number_from.Goals as goal

pub returns-in_default-clause-passes : goal.returns-in_default-clause-passes
returns-in_default-clause-passes g t c = λ kept honest each. none_passed c.args.number c.args.from kept

pub returns-in_default-clause-range : goal.returns-in_default-clause-range
returns-in_default-clause-range g t c = omega arith

pub returns-in_default-clause-damaged : goal.returns-in_default-clause-damaged
returns-in_default-clause-damaged g t c = λ honest. tt

pub returns-in_default-clause-looks : goal.returns-in_default-clause-looks
returns-in_default-clause-looks g t c = Looks-none _

pub returns-in_err-number_in-clause-passes : goal.returns-in_err-number_in-clause-passes
returns-in_err-number_in-clause-passes g t c = λ kept honest each.
    let p = err_from_is_err_and c.from_residual.result c.from_residual.ensures.1 in
    rw (p.1, p.2) (first_undamaged (blocks_of c.args.io.now) c.in-Some.set.now c.in-Some.rest.now (IsNoDamage c.in_err-number_in.field-0.0) kept
    (subst (λ (s : List ObjSet). AllZip (SetHolds (blocks_of c.args.io.now)) s kept) c.in-Some.ensures.cases.0 each) (λ first holds. c.in_err-number_in.ensures.passes first honest holds))

pub returns-in_err-number_in-clause-range : goal.returns-in_err-number_in-clause-range
returns-in_err-number_in-clause-range g t c =
    let p = err_from_is_err_and c.from_residual.result c.from_residual.ensures.1 in
    rw p.1 tt

pub returns-in_err-number_in-clause-damaged : goal.returns-in_err-number_in-clause-damaged
returns-in_err-number_in-clause-damaged g t c = λ honest.
    let p = err_from_is_err_and c.from_residual.result c.from_residual.ensures.1 in
    let disk = disk_of c.args.io.now in
    let fault = c.in_err-number_in.field-0.0 in
    rw (p.1, p.2) (subst (λ (s : List ObjSet). IfDamage fault (IsDamagedAmong (IsSeen disk.seen) disk.size s)) (sym c.in-Some.ensures.cases.0)
    (first_told (IsSeen disk.seen) disk.size c.in-Some.set.now c.in-Some.rest.now fault (c.in_err-number_in.ensures.damaged honest)))

pub returns-in_err-number_in-clause-looks : goal.returns-in_err-number_in-clause-looks
returns-in_err-number_in-clause-looks g t c =
    let p = err_from_is_err_and c.from_residual.result c.from_residual.ensures.1 in
    rw (p.1, p.2) c.in_err-number_in.ensures.looks

pub returns-in-None-clause-passes : goal.returns-in-None-clause-passes
returns-in-None-clause-passes g t c = λ kept honest each.
    let has = blocks_of c.args.io.now in
    first_none c.args.number has c.in-Some.set.now c.in-Some.rest.now c.args.from kept
    (subst (λ (s : List ObjSet). AllZip (SetHolds has) s kept) c.in-Some.ensures.cases.0 each)
    (λ first holds. subst (λ (found : Option ℕ). PassesNumbers (is_late c.args.number first) c.args.from found) c.in-None.is (c.in_ok-number_in.ensures.passes first honest holds))

pub returns-in-None-clause-range : goal.returns-in-None-clause-range
returns-in-None-clause-range g t c = tt

pub returns-in-None-clause-damaged : goal.returns-in-None-clause-damaged
returns-in-None-clause-damaged g t c = λ honest. tt

pub returns-in-None-clause-looks : goal.returns-in-None-clause-looks
returns-in-None-clause-looks g t c = c.in_ok-number_in.ensures.looks

pub returns-in-Some-2-clause-passes : goal.returns-in-Some-2-clause-passes
returns-in-Some-2-clause-passes g t c = λ kept honest each.
    let has = blocks_of c.args.io.now in
    let looks = c.in_ok-number_in.ensures.looks in
    let was = c.number_from.ensures.looks.reads.honest honest in
    let rest = c.in-Some.rest.now in
    first_some c.args.number has c.in-Some.set.now rest c.args.from c.in-Some-2.at c.number_from.result
    (λ others all. c.number_from.ensures.passes others honest (look_on (λ (seen : List ℕ) (space : FreeSectors). AllZip (SetHolds (Has seen space)) rest others) looks all))
    kept (subst (λ (s : List ObjSet). AllZip (SetHolds has) s kept) c.in-Some.ensures.cases.0 each)
    (λ first holds. subst (λ (found : Option ℕ). PassesNumbers (is_late c.args.number first) c.args.from found) c.in-Some-2.is (c.in_ok-number_in.ensures.passes first was holds))

pub returns-in-Some-2-clause-range : goal.returns-in-Some-2-clause-range
returns-in-Some-2-clause-range g t c =
    let on = subst (λ (found : Option ℕ). IfSome found (λ first. (c.args.from ≤ first) × (first < 2 ^ 48))) c.in-Some-2.is c.in_ok-number_in.ensures.range in
    range_on c.args.from c.in-Some-2.at on.0 c.number_from.result c.number_from.ensures.range

pub returns-in-Some-2-clause-damaged : goal.returns-in-Some-2-clause-damaged
returns-in-Some-2-clause-damaged g t c = λ honest.
    let disk = disk_of c.args.io.now in
    let rest = c.in-Some.rest.now in
    let told = seen_before c.in_ok-number_in.ensures.looks (λ (seen : List ℕ) (size : ℕ). IfDamaged c.number_from.result (IsDamagedAmong (IsSeen seen) size rest)) (c.number_from.ensures.damaged honest) in
    subst (λ (s : List ObjSet). IfDamaged c.number_from.result (IsDamagedAmong (IsSeen disk.seen) disk.size s)) (sym c.in-Some.ensures.cases.0)
    (rest_damaged (IsSeen disk.seen) disk.size c.in-Some.set.now rest c.number_from.result told)

pub returns-in-Some-2-clause-looks : goal.returns-in-Some-2-clause-looks
returns-in-Some-2-clause-looks g t c = Looks-then c.in_ok-number_in.ensures.looks c.number_from.ensures.looks
