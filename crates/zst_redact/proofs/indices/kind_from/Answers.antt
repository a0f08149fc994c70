use Rattle.std.proofs.Common.{sym, subst, arith}
use Rattle.std.proofs.lemmas.Result.{err_from_is_err_and}
use Rattle.zst_block.specs.IoStates.{blocks_of, disk_of}
use Rattle.zst_tree.specs.Damage.{IsSeen, NamesNode, TellsNode}
use Rattle.zst_tree.specs.Indices.{TreeIs}
use Rattle.zst_tree.specs.declared.tree.Tree.{Tree}
use Rattle.zst_redact.proofs.Damage.{node_told}
use Rattle.zst_redact.proofs.PointerKinds.{kind_here, kind_passed}
use Rattle.zst_redact.proofs.indices.kind_from.Goals as goal

pub returns-in_err-ptr-clause-tells : goal.returns-in_err-ptr-clause-tells
returns-in_err-ptr-clause-tells g c = λ own date dates map honest lawful is.
    let p = err_from_is_err_and c.from_residual.result c.from_residual.ensures.1 in
    rw (p.1, p.2) (c.in_err-ptr.ensures.shows map honest (subst (λ (t : Tree). TreeIs (blocks_of c.args.io.now) t map) (sym c.tree_of.ensures) is.tree))

pub returns-in_err-ptr-clause-range : goal.returns-in_err-ptr-clause-range
returns-in_err-ptr-clause-range g c =
    let p = err_from_is_err_and c.from_residual.result c.from_residual.ensures.1 in
    rw p.1 tt

pub returns-in_err-ptr-clause-damaged : goal.returns-in_err-ptr-clause-damaged
returns-in_err-ptr-clause-damaged g c = λ snap honest stands.
    let p = err_from_is_err_and c.from_residual.result c.from_residual.ensures.1 in
    let disk = disk_of c.args.io.now in
    let fault = c.in_err-ptr.field-0.0 in
    let told = subst (λ (t : Tree). TellsNode (IsSeen disk.seen) disk.size NamesNode t.levels t.root fault) c.tree_of.ensures (c.in_err-ptr.ensures.damaged honest) in
    rw (p.1, p.2) (node_told (IsSeen disk.seen) disk.size snap c.args.dnode.now stands fault told)

pub returns-in_err-ptr-clause-looks : goal.returns-in_err-ptr-clause-looks
returns-in_err-ptr-clause-looks g c =
    let p = err_from_is_err_and c.from_residual.result c.from_residual.ensures.1 in
    rw (p.1, p.2) c.in_err-ptr.ensures.looks.by_steps.looks

pub returns-then-ptr-kind-clause-tells : goal.returns-then-ptr-kind-clause-tells
returns-then-ptr-kind-clause-tells g c = λ own date dates map honest lawful is.
    let shows = c.in_ok-ptr.ensures.shows map honest (subst (λ (t : Tree). TreeIs (blocks_of c.args.io.now) t map) (sym c.tree_of.ensures) is.tree) in
    let end = c.requires.dnode.end in
    let under = c.requires.from in
    let least = c.min-count.ensures in
    kind_here own lawful (blocks_of c.args.io.now) c.args.dnode.now date dates map is c.args.kind c.args.from c.in_ok-ptr.ptr c.in_ok-ptr.alike shows c.min-count.result (omega (arith, least)) (omega (arith, least, end, under)) c.if-ptr-kind.true

pub returns-then-ptr-kind-clause-range : goal.returns-then-ptr-kind-clause-range
returns-then-ptr-kind-clause-range g c =
    let under = c.requires.from in
    let some = c.in_ok-ptr.ensures.range.0 in
    let least = c.min-count.ensures in
    (omega (arith, least, under, some), omega (arith, least, under))

pub returns-then-ptr-kind-clause-damaged : goal.returns-then-ptr-kind-clause-damaged
returns-then-ptr-kind-clause-damaged g c = λ snap honest stands. tt

pub returns-then-ptr-kind-clause-looks : goal.returns-then-ptr-kind-clause-looks
returns-then-ptr-kind-clause-looks g c = c.in_ok-ptr.ensures.looks.by_steps.looks

pub returns-else-ptr-kind-clause-tells : goal.returns-else-ptr-kind-clause-tells
returns-else-ptr-kind-clause-tells g c = λ own date dates map honest lawful is.
    let shows = c.in_ok-ptr.ensures.shows map honest (subst (λ (t : Tree). TreeIs (blocks_of c.args.io.now) t map) (sym c.tree_of.ensures) is.tree) in
    kind_passed own lawful (blocks_of c.args.io.now) c.args.dnode.now date dates map is c.args.kind c.args.from c.in_ok-ptr.ptr c.in_ok-ptr.alike shows c.requires.kind c.if-ptr-kind.false

pub returns-else-ptr-kind-clause-range : goal.returns-else-ptr-kind-clause-range
returns-else-ptr-kind-clause-range g c = let some = c.in_ok-ptr.ensures.range.0 in omega (arith, some)

pub returns-else-ptr-kind-clause-damaged : goal.returns-else-ptr-kind-clause-damaged
returns-else-ptr-kind-clause-damaged g c = λ snap honest stands. tt

pub returns-else-ptr-kind-clause-looks : goal.returns-else-ptr-kind-clause-looks
returns-else-ptr-kind-clause-looks g c = c.in_ok-ptr.ensures.looks.by_steps.looks
