use Rattle.std.proofs.Common.{◌≡◌, inl, inr, ⊎_elim, ℕ, List, ◌+◌, ◌-◌, ◌*◌, sym, refl, ap, subst, ◌∙◌, arith, rules}
use Rattle.std.proofs.lemmas.Bool.{false≢true}
use Rattle.std.proofs.lemmas.Result.{err_from_is_err_and}
use Rattle.zst_space.specs.FreeSectors.{FreeSectors}
use Rattle.zst_block.specs.Blocks.{Has, IsBlock}
use Rattle.zst_block.specs.IoStates.{disk_of}
use Rattle.zst_block.specs.declared.ptr.Ptr.{Ptr}
use Rattle.zst_block.proofs.IoCallLemmas.{Looks-then}
use Rattle.zst_marks.proofs.MoreMarks.{MarksMore-then}
use Rattle.zst_tree.specs.Indices.{child, span}
use Rattle.zst_tree.proofs.LoadedNodes.{there_after}
use Rattle.zst_reach.specs.ReachedSets.{AreMarkedInTree, ReachesInTree}
use Rattle.zst_reach.specs.StandingNodes.{SetStands}
use Rattle.zst_reach.proofs.SetFaults.{leaf_told, tree_fault}
use Rattle.zst_reach.proofs.SetWalks.{AllMarked-more, AreMarkedBeside-of, AreMarkedInTree-flat, AreMarkedInTree-leaf, AreMarkedInTree-past, beside_on, last_of, on_ok, over_tree, own_tree, same_ptr, tree_leaf, tree_on, up_tree}
use Rattle.zst_reach.proofs.StandingTrees.{SetStands-nodes, given_fault, leaf_in_set, node_in_set}
use Rattle.zst_reach.proofs.sets.+mark_leaves.Goals.{else-known-level-via-then-known-level+else-eq, else-known-level-via-else-known-level}
use Rattle.zst_reach.proofs.sets.+mark_leaves.Goals as goal

pub returns-then-first-ge-TREE_INDEX_BOUND-clause-all : goal.returns-then-first-ge-TREE_INDEX_BOUND-clause-all
returns-then-first-ge-TREE_INDEX_BOUND-clause-all g t c = λ honest are.
    on_ok (AreMarkedInTree-past _ c.args.end _ c.args.level c.args.ptr c.args.first (omega arith)) c.mark_below.result (c.mark_below.ensures.all honest (λ sector reached under. are sector (inl reached) under))

pub returns-then-first-ge-TREE_INDEX_BOUND-clause-stands : goal.returns-then-first-ge-TREE_INDEX_BOUND-clause-stands
returns-then-first-ge-TREE_INDEX_BOUND-clause-stands g t c = λ honest stands. c.mark_below.ensures.stands honest (SetStands-nodes _ c.args.level c.args.ptr c.args.first stands)

pub returns-then-is_flat-clause-all : goal.returns-then-is_flat-clause-all
returns-then-is_flat-clause-all g t c = λ honest are. AreMarkedInTree-flat _ c.args.end _ c.args.level c.args.ptr c.args.first (sym c.is_flat.ensures ∙ c.if-is_flat.true)

pub returns-then-eq-clause-all : goal.returns-then-eq-clause-all
returns-then-eq-clause-all g t c = λ honest are.
    let level_is : c.args.known.0 ≡ c.args.level = omega arith in
    let ptr_is : c.args.known.1 ≡ c.args.ptr = search rules in
    subst (λ (n : ℕ). AreMarkedInTree (disk_of c.args.io.now).seen c.args.end c.args.marks.now n c.args.ptr c.args.first) level_is
    (subst (λ (p : Ptr). AreMarkedInTree (disk_of c.args.io.now).seen c.args.end c.args.marks.now c.args.known.0 p c.args.first) ptr_is are)

pub returns-then-level-eq0-clause-all : goal.returns-then-level-eq0-clause-all
returns-then-level-eq0-clause-all g t c = λ honest are.
    let marked = c.mark_block.ensures.marked in
    let known = AreMarkedBeside-of _ c.args.end _ c.args.known.0 c.args.known.1 c.args.first (omega arith) are in
    on_ok (AreMarkedInTree-leaf _ c.args.end _ c.args.level c.args.ptr c.args.first (omega arith) (λ sector is under. c.mark_leaf.ensures.more.stay sector ((marked sector).1 (inl (is, under))))) c.mark_leaf.result
    (c.mark_leaf.ensures.all honest (beside_on _ _ c.args.end _ _ c.args.known.0 c.args.known.1 refl (λ sector before. (marked sector).1 (inr before)) known))

pub returns-then-level-eq0-clause-only : goal.returns-then-level-eq0-clause-only
returns-then-level-eq0-clause-only g t c = λ honest sector marked.
    let inner = sym c.is_flat.ensures ∙ c.if-is_flat.false in
    ⊎_elim (λ mine. own_tree _ c.args.end c.args.level c.args.ptr c.args.first sector _ inner ((c.mark_block.ensures.marked sector).0 mine))
    (λ inside. inr (tree_leaf _ c.args.level c.args.ptr c.args.first sector (omega arith) (omega arith) inner inside))
    (c.mark_leaf.ensures.only honest sector marked)

pub returns-then-level-eq0-clause-stands : goal.returns-then-level-eq0-clause-stands
returns-then-level-eq0-clause-stands g t c = λ honest stands.
    c.mark_leaf.ensures.stands honest (leaf_in_set _ c.args.level c.args.ptr c.args.first (omega arith) (omega arith) (sym c.is_flat.ensures ∙ c.if-is_flat.false) stands)

pub returns-then-level-eq0-clause-damaged : goal.returns-then-level-eq0-clause-damaged
returns-then-level-eq0-clause-damaged g t c = λ honest.
    let inner = sym c.is_flat.ensures ∙ c.if-is_flat.false in
    leaf_told _ _ c.args.level c.args.ptr c.mark_leaf.result (omega arith) inner (c.mark_leaf.ensures.damaged honest inner)

pub returns-in_err-load_named-clause-only : goal.returns-in_err-load_named-clause-only
returns-in_err-load_named-clause-only g t c = λ honest sector marked.
    own_tree _ c.args.end c.args.level c.args.ptr c.args.first sector _ (sym c.is_flat.ensures ∙ c.if-is_flat.false) ((c.mark_block.ensures.marked sector).0 marked)

pub returns-in_err-load_named-clause-stands : goal.returns-in_err-load_named-clause-stands
returns-in_err-load_named-clause-stands g t c = λ honest stands.
    let node = node_in_set _ c.args.level c.args.ptr c.args.first (omega arith) (sym c.is_flat.ensures ∙ c.if-is_flat.false) stands in
    let p = err_from_is_err_and c.from_residual.result c.from_residual.ensures.1 in
    rw (p.1, p.2) (given_fault node.bytes c.load_named.new.io.node c.in_err-load_named.field-0.0 (c.in_err-load_named.ensures.there node.bytes honest node.names node.there))

pub returns-in_err-beside-clause-only : goal.returns-in_err-beside-clause-only
returns-in_err-beside-clause-only g t c = λ honest sector marked.
    own_tree _ c.args.end c.args.level c.args.ptr c.args.first sector _ (sym c.is_flat.ensures ∙ c.if-is_flat.false) ((c.mark_block.ensures.marked sector).0 marked)

pub loop-k-preserved : goal.loop-k-preserved
loop-k-preserved g t c =
    let inv = c.loop-k.invariant in
    let step = c.in_ok-mark_leaves.ensures in
    let looked = c.in_ok-beside.ensures.looks.reads in
    let loaded = c.in_ok-load_named.ensures.looks.reads in
    let image = (disk_of c.load_beside.new.io).seen in
    let now = (disk_of c.loop-k.io).seen in
    let start_is : c.start_of-start.result ≡ c.args.first + c.loop-k.k * span (c.args.level - 1) = c.start_of-start.ensures.value in
    record {
      own = λ sector is under. step.more.stay sector (inv.own sector is under);
      all = λ honest are.
          let was = step.looks.reads.honest honest in
          let beside = rw (← looked.seen) at (c.in_ok-beside.ensures.beside (inv.looks.reads.honest was)) in
          let known = AllMarked-more image c.args.end _ _ (ReachesInTree (IsBlock image) c.args.known.0 c.args.known.1 c.args.first) inv.more.stay are in
          let under = c.child_beside-under.ensures.marked_in image c.loop-k.marks c.args.end c.args.first beside known in
          last_of (λ (j : ℕ). AreMarkedInTree image c.args.end c.mark_leaves.new.marks (c.args.level - 1) (child c.replace-node.result j) (c.args.first + j * span (c.args.level - 1))) c.loop-k.k
          (λ j earlier. AllMarked-more image c.args.end _ _ (ReachesInTree (IsBlock image) (c.args.level - 1) (child c.replace-node.result j) (c.args.first + j * span (c.args.level - 1))) step.more.stay (inv.all was are j earlier))
          (tree_on image now c.args.end _ (c.args.level - 1) c.child_at.result (child c.replace-node.result c.loop-k.k) c.start_of-start.result (c.args.first + c.loop-k.k * span (c.args.level - 1)) inv.looks.reads.seen c.child_at.ensures.child start_is
          (step.all honest (tree_on now image c.args.end _ c.child_beside-under.result.0 c.child_beside-under.result.1 c.child_beside-under.result.1 _ c.start_of-start.result (sym inv.looks.reads.seen) refl (sym start_is) under)));
      more = MarksMore-then _ _ _ inv.more step.more;
      room = omega (arith, inv.room, step.more.room);
      only = λ honest sector marked.
          let was = step.looks.reads.honest honest in
          let at_load = looked.honest (inv.looks.reads.honest was) in
          ⊎_elim (λ before. inv.only was sector before)
          (λ reached. inr (up_tree image now _ c.args.level c.args.ptr c.replace-node.result c.load_named.new.io.node c.loop-k.k c.args.first c.start_of-start.result sector c.child_at.result (looked.seen ∙ loaded.seen) inv.looks.reads.seen (omega arith) (sym c.is_flat.ensures ∙ c.if-is_flat.false)
          (c.in_ok-load_named.ensures.block at_load) c.replace-node.ensures.value (omega arith) c.child_at.ensures.child start_is reached))
          (step.only honest sector marked);
      looks = Looks-then inv.looks step.looks;
    }

pub returns-in_err-mark_leaves-clause-only : goal.returns-in_err-mark_leaves-clause-only
returns-in_err-mark_leaves-clause-only g t c = λ honest sector marked.
    let inv = c.loop-k.invariant in
    let step = c.in_err-mark_leaves.ensures in
    let looked = c.in_ok-beside.ensures.looks.reads in
    let loaded = c.in_ok-load_named.ensures.looks.reads in
    let was = step.looks.reads.honest honest in
    let at_load = looked.honest (inv.looks.reads.honest was) in
    let inner = sym c.is_flat.ensures ∙ c.if-is_flat.false in
    ⊎_elim (λ before. ⊎_elim (λ mine. own_tree _ c.args.end c.args.level c.args.ptr c.args.first sector _ inner ((c.mark_block.ensures.marked sector).0 mine))
    (λ reached. inr (rw (looked.seen ∙ loaded.seen) at reached)) (inv.only was sector before))
    (λ reached. inr (up_tree _ _ _ c.args.level c.args.ptr c.replace-node.result c.load_named.new.io.node c.loop-k.k c.args.first c.start_of-start.result sector c.child_at.result refl (inv.looks.reads.seen ∙ looked.seen ∙ loaded.seen) (omega arith) inner
    (c.in_ok-load_named.ensures.block at_load) c.replace-node.ensures.value (omega arith) c.child_at.ensures.child c.start_of-start.ensures.value reached))
    (step.only honest sector marked)

pub returns-in_err-mark_leaves-clause-stands : goal.returns-in_err-mark_leaves-clause-stands
returns-in_err-mark_leaves-clause-stands g t c = λ honest stands.
    let inv = c.loop-k.invariant in
    let step = c.in_err-mark_leaves.ensures in
    let looked = c.in_ok-beside.ensures.looks in
    let loaded = c.in_ok-load_named.ensures.looks in
    let at_load = looked.reads.honest (inv.looks.reads.honest (step.looks.reads.honest honest)) in
    let node = node_in_set _ c.args.level c.args.ptr c.args.first (omega arith) (sym c.is_flat.ensures ∙ c.if-is_flat.false) stands in
    let same : c.replace-node.result ≡ node.bytes = c.replace-node.ensures.value ∙ c.in_ok-load_named.ensures.there node.bytes at_load node.names node.there in
    let here : c.child_at.result ≡ child node.bytes c.loop-k.k = c.child_at.ensures.child ∙ ap (λ (bytes : List ℕ). child bytes c.loop-k.k) same in
    let under = there_after (Looks-then loaded (Looks-then looked inv.looks)) (λ (seen : List ℕ) (space : FreeSectors). SetStands (Has seen space) (c.args.level - 1) (child node.bytes c.loop-k.k) (c.args.first + c.loop-k.k * span (c.args.level - 1))) (node.below c.loop-k.k (omega arith)) in
    let p = err_from_is_err_and c.from_residual-in_err-mark_leaves.result c.from_residual-in_err-mark_leaves.ensures.1 in
    rw (p.1, p.2) (step.stands honest (rw (here, c.start_of-start.ensures.value) under))

pub returns-in_err-mark_leaves-clause-damaged : goal.returns-in_err-mark_leaves-clause-damaged
returns-in_err-mark_leaves-clause-damaged g t c = λ honest.
    let inv = c.loop-k.invariant in
    let step = c.in_err-mark_leaves.ensures in
    let looked = c.in_ok-beside.ensures.looks in
    let loaded = c.in_ok-load_named.ensures.looks in
    let at_load = looked.reads.honest (inv.looks.reads.honest (step.looks.reads.honest honest)) in
    let p = err_from_is_err_and c.from_residual-in_err-mark_leaves.result c.from_residual-in_err-mark_leaves.ensures.1 in
    rw (p.1, p.2) (tree_fault (Looks-then loaded (Looks-then looked inv.looks)) c.args.level c.args.ptr c.replace-node.result c.load_named.new.io.node c.loop-k.k c.child_at.result (omega arith) (sym c.is_flat.ensures ∙ c.if-is_flat.false)
    (c.in_ok-load_named.ensures.block at_load) c.replace-node.ensures.value (omega arith) c.child_at.ensures.child c.in_err-mark_leaves.field-0.0 (step.damaged honest))

pub returns-in_err-mark_leaves-clause-shared : goal.returns-in_err-mark_leaves-clause-shared
returns-in_err-mark_leaves-clause-shared g t c = λ level_is ptr_is.
    elim c.else-known-level.branch [
      | else-known-level-via-then-known-level+else-eq w ↦ absurd (false≢true (w.if-eq.ensures ∙ same_ptr c.args.known.1 c.args.ptr ptr_is))
      | else-known-level-via-else-known-level w ↦ absurd (omega (arith, level_is, w.if-known-level.false))
    ]

pub returns-in_err-mark_leaves-clause-looks : goal.returns-in_err-mark_leaves-clause-looks
returns-in_err-mark_leaves-clause-looks g t c =
    let p = err_from_is_err_and c.from_residual-in_err-mark_leaves.result c.from_residual-in_err-mark_leaves.ensures.1 in
    rw (p.1, p.2) (Looks-then c.in_ok-load_named.ensures.looks (Looks-then c.in_ok-beside.ensures.looks (Looks-then c.loop-k.invariant.looks c.in_err-mark_leaves.ensures.looks)))

pub returns-clause-all : goal.returns-clause-all
returns-clause-all g t c = λ honest are.
    let inv = c.loop-k.invariant in
    let looked = c.in_ok-beside.ensures.looks.reads in
    let loaded = c.in_ok-load_named.ensures.looks.reads in
    let at_load = looked.honest (inv.looks.reads.honest honest) in
    let before = (disk_of c.args.io.now).seen in
    let known = AllMarked-more before c.args.end _ _ (ReachesInTree (IsBlock before) c.args.known.0 c.args.known.1 c.args.first) (λ sector marked. (c.mark_block.ensures.marked sector).1 (inr marked)) are in
    let here = tree_on (disk_of c.load_beside.new.io).seen before c.args.end _ c.args.known.0 c.args.known.1 c.args.known.1 c.args.first c.args.first (sym (looked.seen ∙ loaded.seen)) refl refl known in
    over_tree _ _ c.args.end _ c.args.level c.args.ptr c.args.first c.replace-node.result c.load_named.new.io.node (omega arith) inv.own (c.in_ok-load_named.ensures.block at_load) c.replace-node.ensures.value (looked.seen ∙ loaded.seen)
    (λ k less. inv.all honest here k (omega arith))

pub returns-clause-only : goal.returns-clause-only
returns-clause-only g t c = λ honest sector marked.
    let looked = c.in_ok-beside.ensures.looks.reads in
    let loaded = c.in_ok-load_named.ensures.looks.reads in
    ⊎_elim (λ mine. own_tree _ c.args.end c.args.level c.args.ptr c.args.first sector _ (sym c.is_flat.ensures ∙ c.if-is_flat.false) ((c.mark_block.ensures.marked sector).0 mine))
    (λ reached. inr (rw (looked.seen ∙ loaded.seen) at reached)) (c.loop-k.invariant.only honest sector marked)
