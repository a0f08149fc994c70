use Rattle.std.proofs.Common.{◌≡◌, ℕ, List, refl, sym, ◌∙◌, ap, subst, All}
use Rattle.std.specs.Prelude.{Option, None, Some}
use Rattle.std.proofs.lemmas.Result.{err_from_is_err_and}
use Rattle.std.proofs.lemmas.List.Elements.{AllWithin-more}
use Rattle.zst_space.specs.FreeSectors.{FreeSectors}
use Rattle.zst_block.specs.Blocks.{Has}
use Rattle.zst_block.proofs.IoCallLemmas.{Looks-then}
use Rattle.zst_block.specs.IoStates.{blocks_of, disk_of}
use Rattle.zst_image.specs.Reads.{RunsBy}
use Rattle.zst_model.specs.pools.Rows.{rows}
use Rattle.zst_traverse.specs.Damage.{IsDamagedCell}
use Rattle.zst_objset.specs.Damage.{IfDamage}
use Rattle.zst_objset.specs.Sets.{SetHolds}
use Rattle.zst_objset.proofs.LeafLaws.{look_on}
use Rattle.zst_tree.specs.Damage.{IsSeen}
use Rattle.zst_tree.specs.declared.tree.ObjSet.{ObjSet}
use Rattle.zst_tree.proofs.Damage.{seen_before}
use Rattle.zst_check.specs.Damage.{IsDamagedInStates}
use Rattle.zst_check.specs.FailingPlaces.{LateDate}
use Rattle.zst_check.specs.Findings.{Finds, FindsLate, name_of, number_of}
use Rattle.zst_check.specs.ReportNames.{FindsNamed, Twice}
use Rattle.zst_check.specs.declared.report.Report.{Report}
use Rattle.zst_check.specs.declared.report.Report.TheVariants.{Unsound}
use Rattle.zst_check.proofs.LateStates.{IsDated, all_dated, early_at, late_at, told_at}
use Rattle.zst_check.proofs.ReportNames.{state_named}
use Rattle.zst_check.proofs.StateDamage.{walk_told}
use Rattle.zst_check.proofs.dates.late_state.Goals as goal

pub returns-in_err-found-clause-found : goal.returns-in_err-found-clause-found
returns-in_err-found-clause-found g c = λ pool honest runs same.
    let p = err_from_is_err_and c.from_residual.result c.from_residual.ensures.1 in
    let io = c.loop-state.io in
    let on = look_on (λ (seen : List ℕ) (space : FreeSectors). RunsBy None (Has seen space) c.args.dir.now pool) c.loop-state.invariant.looks runs in
    let at = c.in-Some.ensures.at (disk_of io).seen io.space pool on in
    rw (p.1, p.2)
    (told_at (blocks_of io) pool c.args.number c.loop-state.place c.in-Some.state same at c.in_err-found.field-0.0
    (λ dated holds. c.in_err-found.ensures.late dated honest (subst (λ (set : ObjSet). SetHolds (blocks_of io) set dated) (sym c.set.ensures) holds)))

pub returns-in_err-found-clause-damaged : goal.returns-in_err-found-clause-damaged
returns-in_err-found-clause-damaged g c = λ honest.
    let p = err_from_is_err_and c.from_residual.result c.from_residual.ensures.1 in
    let fault = c.in_err-found.field-0.0 in
    let state = c.in-Some.state in
    let disk = disk_of c.loop-state.io in
    let dir = c.args.dir.now in
    rw (p.1, p.2)
    (seen_before c.loop-state.invariant.looks (λ (seen : List ℕ) (size : ℕ). IfDamage fault (IsDamagedInStates (IsSeen seen) size dir))
    (walk_told (IsSeen disk.seen) disk.size dir state fault c.in-Some.ensures.own
    (subst (λ (set : ObjSet). IfDamage fault (IsDamagedCell (IsSeen disk.seen) disk.size set)) c.set.ensures (c.in_err-found.ensures.damaged honest))))

pub returns-in-Some-found-clause-found : goal.returns-in-Some-found-clause-found
returns-in-Some-found-clause-found g c = λ pool honest runs same.
    let io = c.loop-state.io in
    let state = c.in-Some.state in
    let object = c.in-Some-found.object in
    let block = c.in-Some-found.block in
    let on = look_on (λ (seen : List ℕ) (space : FreeSectors). RunsBy None (Has seen space) c.args.dir.now pool) c.loop-state.invariant.looks runs in
    let at = c.in-Some.ensures.at (disk_of io).seen io.space pool on in
    let told : c.alone.result ≡ Unsound (name_of state) (name_of state) object block = c.alone.ensures ∙ ap (λ (name : List ℕ). Unsound name name object block) c.name.ensures in
    subst (λ (report : Report). Finds (All IsDated (rows pool)) (LateDate pool) (Some report)) (sym told)
    (late_at (blocks_of io) pool c.args.number c.loop-state.place state same at object block
    (λ dated holds.
    subst (λ (found : Option (ℕ × ℕ)). FindsLate (number_of c.args.number state) dated found) c.in-Some-found.is
    (subst (λ (n : ℕ). FindsLate n dated c.in_ok-found.found) c.number.ensures
    (c.in_ok-found.ensures.late dated honest (subst (λ (set : ObjSet). SetHolds (blocks_of io) set dated) (sym c.set.ensures) holds)))))

pub loop-state-preserved : goal.loop-state-preserved
loop-state-preserved g c = record {
  early = λ pool honest runs same.
      let io = c.loop-state.io in
      let state = c.in-Some.state in
      let was = c.in_ok-found.ensures.looks.reads.honest honest in
      let on = look_on (λ (seen : List ℕ) (space : FreeSectors). RunsBy None (Has seen space) c.args.dir.now pool) c.loop-state.invariant.looks runs in
      let at = c.in-Some.ensures.at (disk_of io).seen io.space pool on in
      AllWithin-more IsDated (rows pool) 0 c.loop-state.place (c.loop-state.invariant.early pool was runs same)
      (early_at (blocks_of io) pool c.args.number c.loop-state.place state same at
      (λ dated holds.
      subst (λ (found : Option (ℕ × ℕ)). FindsLate (number_of c.args.number state) dated found) c.in_default-found.is
      (subst (λ (n : ℕ). FindsLate n dated c.in_ok-found.found) c.number.ensures
      (c.in_ok-found.ensures.late dated honest (subst (λ (set : ObjSet). SetHolds (blocks_of io) set dated) (sym c.set.ensures) holds)))));
  looks = Looks-then c.loop-state.invariant.looks c.in_ok-found.ensures.looks;
}

pub returns-clause-found : goal.returns-clause-found
returns-clause-found g c = λ pool honest runs same.
    let io = c.loop-state.io in
    let on = look_on (λ (seen : List ℕ) (space : FreeSectors). RunsBy None (Has seen space) c.args.dir.now pool) c.loop-state.invariant.looks runs in
    all_dated pool c.loop-state.place (c.loop-state.invariant.early pool honest runs same) (c.in_default.ensures.at (disk_of io).seen io.space pool on)

pub returns-in-Some-found-clause-named : goal.returns-in-Some-found-clause-named
returns-in-Some-found-clause-named g c =
    let state = c.in-Some.state in
    let told : c.alone.result ≡ Unsound (name_of state) (name_of state) c.in-Some-found.object c.in-Some-found.block =
    c.alone.ensures ∙ ap (λ (name : List ℕ). Unsound name name c.in-Some-found.object c.in-Some-found.block) c.name.ensures in
    subst (λ (report : Report). FindsNamed c.args.dir.now (Some report)) (sym told) (Twice (state_named c.args.dir.now state c.in-Some.ensures.own) refl)
