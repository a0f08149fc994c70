use Rattle.std.proofs.Common.{◌≡◌, ℕ, List, ◌∷◌, sym, subst, arith}
use Rattle.std.specs.Prelude.{Option}
use Rattle.std.proofs.lemmas.Result.{err_from_is_err_and}
use Rattle.zst_space.specs.FreeSectors.{FreeSectors}
use Rattle.zst_block.specs.Blocks.{Has}
use Rattle.zst_block.specs.IoStates.{disk_of}
use Rattle.zst_block.proofs.IoCallLemmas.{Looks-then}
use Rattle.zst_tree.specs.Damage.{IsSeen}
use Rattle.zst_tree.proofs.Damage.{seen_before}
use Rattle.zst_objset.specs.Damage.{IfDamage, StandsIn}
use Rattle.zst_objset.specs.Dnodes.{ObjectIs}
use Rattle.zst_objset.proofs.LeafLaws.{look_on}
use Rattle.zst_redact.specs.Damage.{IsDamagedAmong}
use Rattle.zst_redact.specs.Passes.{AheadFits, PassesTo, StopsAt, TellsAhead, are_data, are_late}
use Rattle.zst_redact.proofs.Damage.{first_told, rest_told}
use Rattle.zst_redact.proofs.DataIndices.{alone_fits, data_ahead, later_data, none_data}
use Rattle.zst_redact.proofs.indices.unkept_from.Goals as goal

pub returns-in_err-late_from-clause-tells : goal.returns-in_err-late_from-clause-tells
returns-in_err-late_from-clause-tells g c = λ own date dates map kept honest lawful is each.
    let p = err_from_is_err_and c.from_residual.result c.from_residual.ensures.1 in
    rw (p.1, p.2) (c.in_err-late_from.ensures.passes kept honest each)

pub returns-in_err-late_from-clause-range : goal.returns-in_err-late_from-clause-range
returns-in_err-late_from-clause-range g c =
    let p = err_from_is_err_and c.from_residual.result c.from_residual.ensures.1 in
    rw p.1 tt

pub returns-in_err-late_from-clause-damaged : goal.returns-in_err-late_from-clause-damaged
returns-in_err-late_from-clause-damaged g c = λ snap honest stands.
    let p = err_from_is_err_and c.from_residual.result c.from_residual.ensures.1 in
    let disk = disk_of c.args.io.now in
    rw (p.1, p.2) (rest_told (IsSeen disk.seen) disk.size snap c.args.redactions.now c.in_err-late_from.field-0.0 (c.in_err-late_from.ensures.damaged honest))

pub returns-in_err-late_from-clause-looks : goal.returns-in_err-late_from-clause-looks
returns-in_err-late_from-clause-looks g c =
    let p = err_from_is_err_and c.from_residual.result c.from_residual.ensures.1 in
    rw (p.1, p.2) c.in_err-late_from.ensures.looks

pub returns-in-None-clause-tells : goal.returns-in-None-clause-tells
returns-in-None-clause-tells g c = λ own date dates map kept honest lawful is each.
    none_data own c.args.number kept c.args.object c.args.from
    (subst (λ (passed : Option ℕ). PassesTo (are_late c.args.number kept c.args.object) c.args.from passed) c.in-None.is (c.in_ok-late_from.ensures.passes kept honest each))

pub returns-in-None-clause-range : goal.returns-in-None-clause-range
returns-in-None-clause-range g c = tt

pub returns-in-None-clause-damaged : goal.returns-in-None-clause-damaged
returns-in-None-clause-damaged g c = λ snap honest stands. tt

pub returns-in-None-clause-looks : goal.returns-in-None-clause-looks
returns-in-None-clause-looks g c = c.in_ok-late_from.ensures.looks

pub returns-then-late-from-clause-tells : goal.returns-then-late-from-clause-tells
returns-then-late-from-clause-tells g c = λ own date dates map kept honest lawful is each.
    later_data own c.args.number kept c.args.object c.args.from c.in-Some.late
    (subst (λ (passed : Option ℕ). PassesTo (are_late c.args.number kept c.args.object) c.args.from passed) c.in-Some.is (c.in_ok-late_from.ensures.passes kept honest each))

pub returns-then-late-from-clause-range : goal.returns-then-late-from-clause-range
returns-then-late-from-clause-range g c = omega arith

pub returns-then-late-from-clause-damaged : goal.returns-then-late-from-clause-damaged
returns-then-late-from-clause-damaged g c = λ snap honest stands. tt

pub returns-then-late-from-clause-looks : goal.returns-then-late-from-clause-looks
returns-then-late-from-clause-looks g c = c.in_ok-late_from.ensures.looks

pub returns-in_err-ahead-in-Some-clause-tells : goal.returns-in_err-ahead-in-Some-clause-tells
returns-in_err-ahead-in-Some-clause-tells g c = λ own date dates map kept honest lawful is each.
    let p = err_from_is_err_and c.from_residual-in_err-ahead-in-Some.result c.from_residual-in_err-ahead-in-Some.ensures.1 in
    let on = look_on (λ (seen : List ℕ) (space : FreeSectors). ObjectIs (Has seen space) c.args.dnode.now own date dates map) c.in_ok-late_from.ensures.looks is in
    rw (p.1, p.2) (c.in_err-ahead-in-Some.ensures.tells own date dates map honest lawful on)

pub returns-in_err-ahead-in-Some-clause-range : goal.returns-in_err-ahead-in-Some-clause-range
returns-in_err-ahead-in-Some-clause-range g c =
    let p = err_from_is_err_and c.from_residual-in_err-ahead-in-Some.result c.from_residual-in_err-ahead-in-Some.ensures.1 in
    rw p.1 tt

pub returns-in_err-ahead-in-Some-clause-damaged : goal.returns-in_err-ahead-in-Some-clause-damaged
returns-in_err-ahead-in-Some-clause-damaged g c = λ snap honest stands.
    let p = err_from_is_err_and c.from_residual-in_err-ahead-in-Some.result c.from_residual-in_err-ahead-in-Some.ensures.1 in
    let looks = c.in_ok-late_from.ensures.looks in
    let disk = disk_of c.late_from.new.io in
    let fault = c.in_err-ahead-in-Some.field-0.0 in
    let on = look_on (λ (seen : List ℕ) (space : FreeSectors). StandsIn (IsSeen seen) snap c.args.dnode.now) looks stands in
    rw (p.1, p.2) (seen_before looks (λ (seen : List ℕ) (size : ℕ). IfDamage fault (IsDamagedAmong (IsSeen seen) size (snap ∷ c.args.redactions.now)))
    (first_told (IsSeen disk.seen) disk.size snap c.args.redactions.now fault (c.in_err-ahead-in-Some.ensures.damaged snap honest on)))

pub returns-in_err-ahead-in-Some-clause-looks : goal.returns-in_err-ahead-in-Some-clause-looks
returns-in_err-ahead-in-Some-clause-looks g c =
    let p = err_from_is_err_and c.from_residual-in_err-ahead-in-Some.result c.from_residual-in_err-ahead-in-Some.ensures.1 in
    rw (p.1, p.2) (Looks-then c.in_ok-late_from.ensures.looks c.in_err-ahead-in-Some.ensures.looks)

pub returns-in_ok-ahead-in-Some-clause-tells : goal.returns-in_ok-ahead-in-Some-clause-tells
returns-in_ok-ahead-in-Some-clause-tells g c = λ own date dates map kept honest lawful is each.
    let was = c.in_ok-ahead-in-Some.ensures.looks.reads.honest honest in
    let own_on = look_on (λ (seen : List ℕ) (space : FreeSectors). ObjectIs (Has seen space) c.args.dnode.now own date dates map) c.in_ok-late_from.ensures.looks is in
    let stops : StopsAt (are_late c.args.number kept c.args.object) c.args.from c.in-Some.late = subst (λ (passed : Option ℕ). PassesTo (are_late c.args.number kept c.args.object) c.args.from passed) c.in-Some.is (c.in_ok-late_from.ensures.passes kept was each) in
    let on = stops.from_on in
    let same : c.in-Some.late ≡ c.args.from = omega (arith, on) in
    subst (TellsAhead (are_data own c.args.number kept c.args.object) c.args.from) (sym c.first_alone.ensures)
    (data_ahead own c.args.number kept c.args.object c.args.from c.args.dnode.now.end (subst (λ (to : ℕ). StopsAt (are_late c.args.number kept c.args.object) c.args.from to) same stops)
    c.in_ok-ahead-in-Some.ahead c.in_ok-ahead-in-Some.ensures.range (c.in_ok-ahead-in-Some.ensures.tells own date dates map honest lawful own_on))

pub returns-in_ok-ahead-in-Some-clause-range : goal.returns-in_ok-ahead-in-Some-clause-range
returns-in_ok-ahead-in-Some-clause-range g c =
    subst (AheadFits c.args.from c.args.dnode.now.end) (sym c.first_alone.ensures) (alone_fits c.args.from c.args.dnode.now.end c.in_ok-ahead-in-Some.ahead c.in_ok-ahead-in-Some.ensures.range)

pub returns-in_ok-ahead-in-Some-clause-damaged : goal.returns-in_ok-ahead-in-Some-clause-damaged
returns-in_ok-ahead-in-Some-clause-damaged g c = λ snap honest stands. tt

pub returns-in_ok-ahead-in-Some-clause-looks : goal.returns-in_ok-ahead-in-Some-clause-looks
returns-in_ok-ahead-in-Some-clause-looks g c = Looks-then c.in_ok-late_from.ensures.looks c.in_ok-ahead-in-Some.ensures.looks
