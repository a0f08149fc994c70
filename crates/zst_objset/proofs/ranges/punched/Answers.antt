use Rattle.std.proofs.Common.{ℕ, List, ap, sym, subst, if◌then◌else◌, Bool}
use Rattle.std.proofs.lemmas.Result.{err_from_is_err_and}
use Rattle.zst_block.specs.Blocks.{Has}
use Rattle.zst_block.specs.IoStates.{blocks_of}
use Rattle.zst_block.specs.Ptr.{hole_of}
use Rattle.zst_block.proofs.IoCallLemmas.{Works-looks, Works-after}
use Rattle.zst_dnode.specs.declared.dnode.Dnode.{Dnode}
use Rattle.zst_model.specs.states.State.{Hole}
use Rattle.zst_space.specs.FreeSectors.{FreeSectors}
use Rattle.zst_tree.specs.Indices.{TreeIs}
use Rattle.zst_objset.specs.SlotPuts.{MakesDnode}
use Rattle.zst_objset.specs.Ranges.{free_of, put_range}
use Rattle.zst_objset.proofs.AnswerLaws.{object_of}
use Rattle.zst_objset.proofs.LeafLaws.{keeps_on, look_on}
use Rattle.zst_objset.proofs.RangeLaws.{Fills-free, makes_range, tree_is}
use Rattle.zst_objset.proofs.SetGrowth.{ObjectIs-grows}
use Rattle.zst_objset.proofs.RangeIndices.{Puts-range}
use Rattle.std.proofs.Common.{arith}
use Rattle.zst_block.specs.Blocks.{SparesTaken}
use Rattle.zst_dnode.specs.Dnode.{DnodeFits}
use Rattle.zst_objset.specs.Dnodes.{tree_of}
use Rattle.zst_tree.specs.Damage.{NamesNode}
use Rattle.zst_tree.proofs.Damage.{TellsNode-sums}
use Rattle.zst_objset.proofs.DamageLaws.{told_before, sums_spared}
use Rattle.zst_objset.proofs.TreeFits.{dnode_root, hole_fits, root_fits, with_tree_fits}
use Rattle.std.proofs.Common.{⊎_elim, refl}
use Rattle.std.proofs.lemmas.Bool.{cases_lt}
use Rattle.zst_objset.specs.TightSets.{IsTightDnode}
use Rattle.zst_objset.proofs.TightLaws.{range_tight}
use Rattle.zst_objset.proofs.TreeFits.{with_tree}
use Rattle.zst_tree.proofs.LaterDamage.{fills_looks}
use Rattle.zst_objset.proofs.TreesWithin.{sums_before}
use Rattle.zst_objset.proofs.ranges.punched.Goals as goal

pub returns-in_err-end-clause-made : goal.returns-in_err-end-clause-made
returns-in_err-end-clause-made g c = λ k state honest number lawful there.
    let p = err_from_is_err_and c.from_residual.result c.from_residual.ensures.1 in
    rw (p.1, p.2) (c.in_err-end.ensures.end there.object (state.number_date k) (state.index_date k) there.map honest there.is)

pub returns-in_err-punch-clause-made : goal.returns-in_err-punch-clause-made
returns-in_err-punch-clause-made g c = λ k state honest number lawful there.
    let p = err_from_is_err_and c.from_residual-in_err-punch.result c.from_residual-in_err-punch.ensures.1 in
    let had : TreeIs (blocks_of c.args.io.now) c.tree_of-tree.result there.map = tree_is _ c.args.dnode _ there.map c.tree_of-tree.ensures there.is.tree in
    let tree = look_on (λ (seen : List ℕ) (space : FreeSectors). TreeIs (Has seen space) c.tree_of-tree.result there.map) c.in_ok-end.ensures.looks had in
    rw (p.1, p.2) (c.in_err-punch.ensures.changes.puts there.map _ honest tree (Puts-range c.args.first c.count_in_tree.result (hole_of c.args.number) there.map))

pub returns-in_err-punch-clause-works : goal.returns-in_err-punch-clause-works
returns-in_err-punch-clause-works g c =
    let p = err_from_is_err_and c.from_residual-in_err-punch.result c.from_residual-in_err-punch.ensures.1 in
    rw (p.1, p.2) (Works-after c.in_ok-end.ensures.looks c.in_err-punch.ensures.changes.works)

pub returns-clause-fits : goal.returns-clause-fits
returns-clause-fits g c =
    let fits = c.requires.dnode in
    let end = c.in_ok-end.ensures.range in
    let root = root_fits c.args.dnode.block_size (tree_of c.args.dnode) c.punch.new.self (hole_of c.args.number) (dnode_root c.args.dnode fits) (hole_fits c.args.dnode.block_size c.args.number) (rw c.tree_of-tree.ensures at c.in_ok-punch.ensures.changes.root) in
    subst (λ (dnode : Dnode). DnodeFits dnode) (sym c.with_tree.ensures.made)
    (with_tree_fits c.args.dnode c.punch.new.self c.in_ok-end.end fits c.in_ok-punch.ensures.changes.levels c.with_tree.ensures.root c.with_tree.ensures.past root
    (omega (arith, end, fits.end)) (λ odd. omega (arith, end, fits.odd odd)))

pub returns-clause-made : goal.returns-clause-made
returns-clause-made g c = λ k state honest number lawful there.
    let had : TreeIs (blocks_of c.args.io.now) c.tree_of-tree.result there.map = tree_is _ c.args.dnode _ there.map c.tree_of-tree.ensures there.is.tree in
    let tree = look_on (λ (seen : List ℕ) (space : FreeSectors). TreeIs (Has seen space) c.tree_of-tree.result there.map) c.in_ok-end.ensures.looks had in
    let has = blocks_of c.punch.new.io in
    let is = ObjectIs-grows (blocks_of c.args.io.now) has (keeps_on c.in_ok-end.ensures.looks c.in_ok-punch.ensures.changes.works.fills) c.args.dnode there.object (state.number_date k) (state.index_date k) there.map there.is in
    let object = object_of (state.state k) there.object there.there (lawful.objects k) in
    let put = put_range c.args.first c.count_in_tree.result (hole_of c.args.number) there.map in
    subst (λ (dnode : Dnode). MakesDnode has c.args.number k (free_of c.args.first c.args.count (state.state k)) state dnode) (sym c.with_tree.ensures.made)
    (makes_range has c.args.number k c.args.first c.args.count (free_of c.args.first c.args.count (state.state k)) Hole (hole_of c.args.number) state c.args.dnode c.punch.new.self c.in_ok-end.end put there.object there.map is
    (Fills-free has c.args.number k c.args.first c.args.count state there.object there.there object number)
    (record {
      holds = c.in_ok-punch.ensures.changes.puts there.map put honest tree (Puts-range c.args.first c.count_in_tree.result (hole_of c.args.number) there.map);
      puts = λ i less. ap (λ (b : Bool). if b then hole_of c.args.number else there.map i) (c.count_in_tree.ensures.same i less);
    })
    (c.in_ok-end.ensures.end there.object (state.number_date k) (state.index_date k) there.map (c.in_ok-punch.ensures.changes.works.fills.honest honest) there.is)
    (subst (λ (dnode : Dnode). DnodeFits dnode) c.with_tree.ensures.made (returns-clause-fits g c)))

pub returns-in_err-end-clause-damaged : goal.returns-in_err-end-clause-damaged
returns-in_err-end-clause-damaged g c = λ honest.
    let p = err_from_is_err_and c.from_residual.result c.from_residual.ensures.1 in
    rw (p.1, p.2) (sums_spared c.args.io.now.space _ _ _ _ _ (c.in_err-end.ensures.damaged honest))

pub returns-in_err-punch-clause-damaged : goal.returns-in_err-punch-clause-damaged
returns-in_err-punch-clause-damaged g c = λ honest.
    let p = err_from_is_err_and c.from_residual-in_err-punch.result c.from_residual-in_err-punch.ensures.1 in
    let old = g.D.Disk.state c.args.io.now.disk.now in
    rw (p.1, p.2) (TellsNode-sums (SparesTaken c.args.io.now.space old.seen) old.size c.args.dnode.levels c.args.dnode.root _
    (told_before (λ space seen. NamesNode) c.args.dnode.levels c.args.dnode.root c.in_ok-end.ensures.looks _
    (rw c.tree_of-tree.ensures at (c.in_err-punch.ensures.changes.damaged honest))))

pub returns-clause-tight : goal.returns-clause-tight
returns-clause-tight g c = λ k state honest number lawful there dated tight.
    let had : TreeIs (blocks_of c.args.io.now) c.tree_of-tree.result there.map = tree_is _ c.args.dnode _ there.map c.tree_of-tree.ensures there.is.tree in
    let tree = look_on (λ (seen : List ℕ) (space : FreeSectors). TreeIs (Has seen space) c.tree_of-tree.result there.map) c.in_ok-end.ensures.looks had in
    let object = object_of (state.state k) there.object there.there (lawful.objects k) in
    let fills = Fills-free (blocks_of c.args.io.now) c.args.number k c.args.first c.args.count state there.object there.there object number in
    subst (IsTightDnode c.args.number k (free_of c.args.first c.args.count (state.state k)) state) (sym c.with_tree.ensures.made)
    (range_tight c.args.number k (free_of c.args.first c.args.count (state.state k)) state c.args.dnode (with_tree c.args.dnode c.punch.new.self c.in_ok-end.end) dated tight c.args.first c.args.count refl fills.dates c.requires.range
    (λ bound early some. c.in_ok-punch.ensures.dated bound there.map honest tree (rw c.tree_of-tree.ensures early)
    (λ any. ⊎_elim some (λ none. absurd (omega (arith, any, c.count_in_tree.ensures.none (omega (arith, none))))) (cases_lt 0 c.args.count))))

pub returns-clause-trees : goal.returns-clause-trees
returns-clause-trees g c = λ honest.
    let within = rw c.tree_of-tree.ensures at (c.in_ok-punch.ensures.changes.within honest) in
    rw c.with_tree.ensures.made (sums_before _ _ _ _ (fills_looks c.in_ok-end.ensures.looks) c.args.dnode.levels c.args.dnode.root _ c.punch.new.self.levels c.punch.new.self.root within.sums)

pub returns-in_err-end-clause-trees : goal.returns-in_err-end-clause-trees
returns-in_err-end-clause-trees g c = λ honest.
    let p = err_from_is_err_and c.from_residual.result c.from_residual.ensures.1 in
    rw p.1 tt

pub returns-in_err-punch-clause-trees : goal.returns-in_err-punch-clause-trees
returns-in_err-punch-clause-trees g c = λ honest.
    let p = err_from_is_err_and c.from_residual-in_err-punch.result c.from_residual-in_err-punch.ensures.1 in
    rw p.1 tt

pub returns-clause-works : goal.returns-clause-works
returns-clause-works g c = Works-after c.in_ok-end.ensures.looks c.in_ok-punch.ensures.changes.works

pub end_punched-requires-clause-levels : goal.end_punched-requires-clause-levels
end_punched-requires-clause-levels g c = c.requires.dnode.levels

pub end_punched-requires-clause-range : goal.end_punched-requires-clause-range
end_punched-requires-clause-range g c = c.requires.range

pub returns-in_err-end-clause-tight : goal.returns-in_err-end-clause-tight
returns-in_err-end-clause-tight g c = λ k state honest number lawful there dated tight.
    let p = err_from_is_err_and c.from_residual.result c.from_residual.ensures.1 in
    rw p.1 tt

pub returns-in_err-end-clause-fits : goal.returns-in_err-end-clause-fits
returns-in_err-end-clause-fits g c =
    let p = err_from_is_err_and c.from_residual.result c.from_residual.ensures.1 in
    rw p.1 tt

pub returns-in_err-end-clause-works : goal.returns-in_err-end-clause-works
returns-in_err-end-clause-works g c =
    let p = err_from_is_err_and c.from_residual.result c.from_residual.ensures.1 in
    rw (p.1, p.2) (Works-looks c.in_err-end.ensures.looks)

pub returns-in_err-punch-clause-tight : goal.returns-in_err-punch-clause-tight
returns-in_err-punch-clause-tight g c = λ k state honest number lawful there dated tight.
    let p = err_from_is_err_and c.from_residual-in_err-punch.result c.from_residual-in_err-punch.ensures.1 in
    rw p.1 tt

pub returns-in_err-punch-clause-fits : goal.returns-in_err-punch-clause-fits
returns-in_err-punch-clause-fits g c =
    let p = err_from_is_err_and c.from_residual-in_err-punch.result c.from_residual-in_err-punch.ensures.1 in
    rw p.1 tt

pub returns-clause-damaged : goal.returns-clause-damaged
returns-clause-damaged g c = λ honest. tt
