use Rattle.std.proofs.Common.{◌≡◌, inl, inr, ℕ, ◌≤◌, List, length, take, sym, ◌∙◌, subst, arith, length-take}
use Rattle.std.proofs.lemmas.Result.{err_from_is_err_and}
use Rattle.std.proofs.lemmas.Slice.Eq.{bytes_eq-Decides}
use Rattle.zst_space.specs.FreeSectors.{FreeSectors}
use Rattle.zst_block.specs.Blocks.{Has}
use Rattle.zst_block.specs.IoStates.{disk_of}
use Rattle.zst_objset.specs.Damage.{IfDamage, IsDamagedData}
use Rattle.zst_tree.specs.Damage.{IsSeen}
use Rattle.zst_tree.proofs.Damage.{seen_before}
use Rattle.zst_tree.proofs.LoadedNodes.{there_after}
use Rattle.zst_objset.proofs.DamageLaws.{IfDamage-weaker}
use Rattle.zst_compare.specs.Damage.{OfEither}
use Rattle.zst_compare.proofs.blocks.same_data.Goals as goal

long_front : (size : ℕ) (from : List ℕ) → size ≤ length from → length (take size from) ≡ size
long_front size from less = omega (arith, length-take size from, less)

pub returns-in_err-read_data-clause-same : goal.returns-in_err-read_data-clause-same
returns-in_err-read_data-clause-same g c = λ now was honest kind other here there long short.
    let p = err_from_is_err_and c.from_residual.result c.from_residual.ensures.1 in
    rw (p.1, p.2) (c.in_err-read_data.ensures.there now honest kind here (long ∙ sym (long_front c.args.size _ (omega arith))))

pub returns-in_err-read_data-clause-damaged : goal.returns-in_err-read_data-clause-damaged
returns-in_err-read_data-clause-damaged g c = λ honest one two.
    let p = err_from_is_err_and c.from_residual.result c.from_residual.ensures.1 in
    let fault = c.in_err-read_data.field-0.0 in
    let seen = (disk_of c.args.io.now).seen in
    let size = (disk_of c.args.io.now).size in
    let told = subst (λ (n : ℕ). IfDamage fault (IsDamagedData (IsSeen seen) size n c.args.later.now)) (long_front c.args.size _ (omega arith)) (c.in_err-read_data.ensures.damaged honest one) in
    rw (p.1, p.2) (IfDamage-weaker _ (OfEither (IsDamagedData (IsSeen seen) size c.args.size c.args.later.now) (IsDamagedData (IsSeen seen) size c.args.size c.args.earlier.now)) (λ sector stated found is. inl is) fault told)

pub returns-in_err-read_data-2-clause-same : goal.returns-in_err-read_data-2-clause-same
returns-in_err-read_data-2-clause-same g c = λ now was honest kind other here there long short.
    let p = err_from_is_err_and c.from_residual-in_err-read_data-2.result c.from_residual-in_err-read_data-2.ensures.1 in
    let on = there_after c.in_ok-read_data.ensures.looks (λ (seen : List ℕ) (s : FreeSectors). Has seen s c.args.earlier.now was) there in
    rw (p.1, p.2) (c.in_err-read_data-2.ensures.there was honest other on (short ∙ sym (long_front c.args.size _ (omega arith))))

pub returns-in_err-read_data-2-clause-damaged : goal.returns-in_err-read_data-2-clause-damaged
returns-in_err-read_data-2-clause-damaged g c = λ honest one two.
    let p = err_from_is_err_and c.from_residual-in_err-read_data-2.result c.from_residual-in_err-read_data-2.ensures.1 in
    let fault = c.in_err-read_data-2.field-0.0 in
    let seen = (disk_of c.args.io.now).seen in
    let size = (disk_of c.args.io.now).size in
    let later_on = (disk_of c.read_data.new.io).seen in
    let told = subst (λ (n : ℕ). IfDamage fault (IsDamagedData (IsSeen later_on) (disk_of c.read_data.new.io).size n c.args.earlier.now)) (long_front c.args.size _ (omega arith)) (c.in_err-read_data-2.ensures.damaged honest two) in
    let before = seen_before c.in_ok-read_data.ensures.looks (λ (image : List ℕ) (count : ℕ). IfDamage fault (IsDamagedData (IsSeen image) count c.args.size c.args.earlier.now)) told in
    rw (p.1, p.2) (IfDamage-weaker _ (OfEither (IsDamagedData (IsSeen seen) size c.args.size c.args.later.now) (IsDamagedData (IsSeen seen) size c.args.size c.args.earlier.now)) (λ sector stated found is. inr is) fault before)

pub returns-clause-same : goal.returns-clause-same
returns-clause-same g c = λ now was honest kind other here there long short.
    let mid = c.in_ok-read_data-2.ensures.looks.reads.honest honest in
    let on = there_after c.in_ok-read_data.ensures.looks (λ (seen : List ℕ) (s : FreeSectors). Has seen s c.args.earlier.now was) there in
    let first : c.read_data.new.into ≡ now = c.in_ok-read_data.ensures.there now mid kind here (long ∙ sym (long_front c.args.size _ (omega arith))) in
    let second : c.read_data-2.new.into ≡ was = c.in_ok-read_data-2.ensures.there was honest other on (short ∙ sym (long_front c.args.size _ (omega arith))) in
    let equal = bytes_eq-Decides c.read_data-2.new.into c.read_data.new.into in
    (λ true_is. sym second ∙ (equal.0 (sym c.eq.ensures ∙ true_is) ∙ first), λ same. c.eq.ensures ∙ equal.1 (second ∙ (same ∙ sym first)))
