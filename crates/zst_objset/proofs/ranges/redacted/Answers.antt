use Rattle.std.proofs.Common.{refl, sym, subst}
use Rattle.std.proofs.lemmas.Result.{err_from_is_err_and}
use Rattle.zst_block.specs.IoStates.{blocks_of}
use Rattle.zst_block.specs.Ptr.{redacted_of}
use Rattle.zst_block.proofs.BlocksLaws.{KeepsBlocks-fills}
use Rattle.zst_dnode.specs.declared.dnode.Dnode.{Dnode}
use Rattle.zst_model.specs.states.State.{Redacted, index_bound}
use Rattle.zst_tree.specs.Indices.{TreeIs}
use Rattle.zst_objset.specs.SlotPuts.{MakesDnode}
use Rattle.zst_objset.specs.Ranges.{put_range, redact_of}
use Rattle.zst_objset.proofs.AnswerLaws.{object_of}
use Rattle.zst_objset.proofs.RangeLaws.{Fills-redact, makes_range, redacted_odd, tree_is}
use Rattle.zst_objset.proofs.SetGrowth.{ObjectIs-grows}
use Rattle.zst_objset.proofs.RangeIndices.{Puts-range}
use Rattle.std.proofs.Common.{⊎_elim, arith}
use Rattle.zst_dnode.specs.Dnode.{DnodeFits}
use Rattle.zst_objset.specs.Dnodes.{tree_of}
use Rattle.zst_objset.proofs.TreeFits.{dnode_root, redacted_fits, root_fits, with_tree_fits}
use Rattle.zst_objset.specs.TightSets.{IsTightDnode}
use Rattle.zst_objset.proofs.TightLaws.{range_tight}
use Rattle.zst_objset.proofs.TreeFits.{with_tree}
use Rattle.zst_objset.proofs.ranges.redacted.Goals as goal

pub returns-in_err-redact-clause-made : goal.returns-in_err-redact-clause-made
returns-in_err-redact-clause-made g c = λ k state honest number lawful there.
    let p = err_from_is_err_and c.from_residual.result c.from_residual.ensures.1 in
    let tree : TreeIs (blocks_of c.args.io.now) c.tree_of-tree.result there.map = tree_is _ c.args.dnode _ there.map c.tree_of-tree.ensures there.is.tree in
    rw (p.1, p.2) (c.in_err-redact.ensures.changes.puts there.map _ honest tree (Puts-range c.args.first c.args.count (redacted_of c.args.number) there.map))

pub returns-clause-fits : goal.returns-clause-fits
unfolding index_bound
returns-clause-fits g c =
    let fits = c.requires.dnode in
    let root = root_fits c.args.dnode.block_size (tree_of c.args.dnode) c.redact.new.self (redacted_of c.args.number) (dnode_root c.args.dnode fits) (redacted_fits c.args.dnode.block_size c.args.number) (rw c.tree_of-tree.ensures at c.in_ok-redact.ensures.changes.root) in
    subst (λ (dnode : Dnode). DnodeFits dnode) (sym c.with_tree.ensures.made)
    (with_tree_fits c.args.dnode c.redact.new.self c.end_redacted.result fits c.in_ok-redact.ensures.changes.levels c.with_tree.ensures.root c.with_tree.ensures.past root
    (⊎_elim (λ same. omega (arith, same, fits.end)) (λ more. omega (arith, more.1, fits.end, c.requires.range)) c.end_redacted.ensures.range)
    (λ odd. ⊎_elim (λ same. omega (arith, same, fits.odd odd)) (λ more. omega (arith, more.1, fits.odd odd, redacted_odd c.args.dnode c.args.first c.args.count c.requires.checked odd more.0)) c.end_redacted.ensures.range))

pub returns-clause-made : goal.returns-clause-made
returns-clause-made g c = λ k state honest number lawful there.
    let old = g.D.Disk.state c.args.io.now.disk.now in
    let new = g.D.Disk.state c.redact.new.io.disk.now in
    let has = blocks_of c.redact.new.io in
    let tree : TreeIs (blocks_of c.args.io.now) c.tree_of-tree.result there.map = tree_is _ c.args.dnode _ there.map c.tree_of-tree.ensures there.is.tree in
    let is = ObjectIs-grows (blocks_of c.args.io.now) has (KeepsBlocks-fills old new c.args.io.now.space c.redact.new.io.space c.in_ok-redact.ensures.changes.works.fills) c.args.dnode there.object (state.number_date k) (state.index_date k) there.map there.is in
    let object = object_of (state.state k) there.object there.there (lawful.objects k) in
    let put = put_range c.args.first c.args.count (redacted_of c.args.number) there.map in
    subst (λ (dnode : Dnode). MakesDnode has c.args.number k (redact_of c.args.first c.args.count (state.state k)) state dnode) (sym c.with_tree.ensures.made)
    (makes_range has c.args.number k c.args.first c.args.count (redact_of c.args.first c.args.count (state.state k)) Redacted (redacted_of c.args.number) state c.args.dnode c.redact.new.self c.end_redacted.result put there.object there.map is
    (Fills-redact has c.args.number k c.args.first c.args.count state there.object there.there object number c.args.dnode there.is.type_is there.is.size_is c.requires.range c.requires.checked)
    (record {
      holds = c.in_ok-redact.ensures.changes.puts there.map put honest tree (Puts-range c.args.first c.args.count (redacted_of c.args.number) there.map);
      puts = λ i less. refl;
    })
    (c.end_redacted.ensures.end there.object there.is.end_is)
    (subst (λ (dnode : Dnode). DnodeFits dnode) c.with_tree.ensures.made (returns-clause-fits g c)))

pub returns-clause-tight : goal.returns-clause-tight
returns-clause-tight g c = λ k state honest number lawful there dated tight.
    let tree : TreeIs (blocks_of c.args.io.now) c.tree_of-tree.result there.map = tree_is _ c.args.dnode _ there.map c.tree_of-tree.ensures there.is.tree in
    let object = object_of (state.state k) there.object there.there (lawful.objects k) in
    let fills = Fills-redact (blocks_of c.args.io.now) c.args.number k c.args.first c.args.count state there.object there.there object number c.args.dnode there.is.type_is there.is.size_is c.requires.range c.requires.checked in
    subst (IsTightDnode c.args.number k (redact_of c.args.first c.args.count (state.state k)) state) (sym c.with_tree.ensures.made)
    (range_tight c.args.number k (redact_of c.args.first c.args.count (state.state k)) state c.args.dnode (with_tree c.args.dnode c.redact.new.self c.end_redacted.result) dated tight c.args.first c.args.count refl fills.dates c.requires.range
    (λ bound early some. c.in_ok-redact.ensures.dated bound there.map honest tree (rw c.tree_of-tree.ensures early) some))

pub returns-clause-trees : goal.returns-clause-trees
returns-clause-trees g c = λ honest.
    let within = rw c.tree_of-tree.ensures at (c.in_ok-redact.ensures.changes.within honest) in
    rw c.with_tree.ensures.made within.sums

pub returns-in_err-redact-clause-trees : goal.returns-in_err-redact-clause-trees
returns-in_err-redact-clause-trees g c = λ honest.
    let p = err_from_is_err_and c.from_residual.result c.from_residual.ensures.1 in
    rw p.1 tt
