use Rattle.std.proofs.lemmas.Result.{err_from_is_err_and}
use Rattle.std.proofs.Common.{refl, ◌≡◌, ◌+◌, ◌-◌, ◌∙◌, arith}
use Rattle.zst_tree.proofs.LaterDamage.{spares_before}
use Rattle.zst_tree.proofs.TreeMaps.{grown_parts, taller_stands}
use Rattle.zst_tree.proofs.ChangedTrees.{IsWithin-fewer, IsWithin-self, node_within, raised_within}
use Rattle.zst_tree.proofs.writes.raise.Goals as goal

pub returns-in_err-root-clause-raised : goal.returns-in_err-root-clause-raised
returns-in_err-root-clause-raised g c = λ whole stands.
    let p = err_from_is_err_and c.from_residual.result c.from_residual.ensures.1 in
    rw (p.1, p.2) (c.in_err-root.ensures.whole 0 whole (grown_parts _ c.args.tree whole _ _ _ _ c.hole.ensures c.fill.ensures.fills c.put_child.ensures.puts stands))

pub returns-clause-raised : goal.returns-clause-raised
returns-clause-raised g c = λ whole stands.
    taller_stands _ c.args.tree whole c.in_ok-root.root stands.past
    (c.in_ok-root.ensures.whole 0 whole (grown_parts _ c.args.tree whole _ _ _ _ c.hole.ensures c.fill.ensures.fills c.put_child.ensures.puts stands))

pub returns-clause-within : goal.returns-clause-within
returns-clause-within g c = λ leaf.
    let fills = c.in_ok-root.ensures.works.fills in
    let same : (c.args.tree.levels + 1) - 1 ≡ c.args.tree.levels = omega arith in
    let old = IsWithin-fewer _ _ _ _ _ _ _ (spares_before _ _ _ _ fills) _ _ (IsWithin-self _ _ c.args.tree.levels c.args.tree.root leaf) in
    node_within _ _ _ (g.met.D.Disk.seen_size c.close.new.io.disk.now ∙ fills.size) c.in_ok-root.root _ c.in_ok-root.ensures.wrote _ c.args.tree.levels c.args.tree.root leaf (c.args.tree.levels + 1) (omega arith) c.in_ok-root.ensures.sums
    (rw same (raised_within _ _ _ _ _ _ _ _ _ _ _ c.args.tree.past c.args.tree.root c.hole.ensures c.fill.ensures.fills c.put_child.ensures.puts old))

pub returns-in_err-root-clause-never_damaged : goal.returns-in_err-root-clause-never_damaged
returns-in_err-root-clause-never_damaged g c = λ sector stated found is.
    let p = err_from_is_err_and c.from_residual.result c.from_residual.ensures.1 in
    c.in_err-root.ensures.never_damaged sector stated found (cc)

pub returns-in_err-root-clause-taller : goal.returns-in_err-root-clause-taller
returns-in_err-root-clause-taller g c =
    let p = err_from_is_err_and c.from_residual.result c.from_residual.ensures.1 in
    rw p.1 tt

pub returns-in_err-root-clause-within : goal.returns-in_err-root-clause-within
returns-in_err-root-clause-within g c = λ leaf.
    let p = err_from_is_err_and c.from_residual.result c.from_residual.ensures.1 in
    rw p.1 tt

pub returns-in_err-root-clause-names : goal.returns-in_err-root-clause-names
returns-in_err-root-clause-names g c =
    let p = err_from_is_err_and c.from_residual.result c.from_residual.ensures.1 in
    rw p.1 tt

pub returns-clause-taller : goal.returns-clause-taller
returns-clause-taller g c = refl

pub returns-clause-never_damaged : goal.returns-clause-never_damaged
returns-clause-never_damaged g c = λ sector stated found is. absurd (cc)

pub returns-clause-works : goal.returns-clause-works
returns-clause-works g c = c.in_ok-root.ensures.works

pub returns-clause-names : goal.returns-clause-names
returns-clause-names g c = c.in_ok-root.ensures.names
