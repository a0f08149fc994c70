use Rattle.std.proofs.Common.{◌≡◌, inl, inr, ⊎_elim, ℕ, List, ◌+◌, ◌-◌, ◌*◌, ◌≤◌, sym, refl, ap, subst, ◌∙◌, arith, rules}
use Rattle.std.proofs.lemmas.Result.{err_from_is_err_and}
use Rattle.zst_space.specs.FreeSectors.{FreeSectors}
use Rattle.zst_block.specs.Blocks.{Has, IsBlock}
use Rattle.zst_block.specs.IoStates.{disk_of}
use Rattle.zst_block.specs.declared.ptr.Ptr.{Ptr}
use Rattle.zst_block.proofs.IoCallLemmas.{Looks-then}
use Rattle.zst_tree.specs.Indices.{child, span}
use Rattle.zst_tree.proofs.LoadedNodes.{there_after}
use Rattle.zst_reach.proofs.SetWalks.{last_of, on_ok}
use Rattle.zst_reach.proofs.StandingTrees.{given_fault}
use Rattle.zst_count.specs.CountedSets.{AreMetInTree, AreReadInTree, DataStandInTree, IsFirstInTree}
use Rattle.zst_count.proofs.CountedSets.{AreMetBeside-of, AreMetInTree-flat, AreMetInTree-leaf, AreMetInTree-past, AreReadBeside-of, AreReadInTree-flat, AreReadInTree-leaf, AreReadInTree-past, beside_more, child_fits, over_tree, own_tree, read_in_place, read_on, read_over_tree, tree_leaf, tree_on, tree_within, up_tree}
use Rattle.zst_count.proofs.MetLaws.{AllMet-more, MetMore-meet, MetMore-then, OwnMet-meet, any_ok}
use Rattle.zst_count.proofs.SetFaults.{leaf_in_tree, tree_fault}
use Rattle.zst_count.proofs.StandingSets.{DataStandInTree-nodes, node_in_tree}
use Rattle.zst_count.proofs.StandingSets.{leaf_in_tree as leaf_stands}
use Rattle.zst_count.proofs.sets.+count_leaves.Goals as goal

pub returns-then-first-ge-TREE_INDEX_BOUND-clause-all : goal.returns-then-first-ge-TREE_INDEX_BOUND-clause-all
returns-then-first-ge-TREE_INDEX_BOUND-clause-all g t c = λ honest are.
    on_ok (AreMetInTree-past _ _ _ c.args.level c.args.ptr c.args.first (omega arith)) c.count_below.result (c.count_below.ensures.all honest (λ sector is under. are sector (inl is) under))

pub returns-then-first-ge-TREE_INDEX_BOUND-clause-read : goal.returns-then-first-ge-TREE_INDEX_BOUND-clause-read
returns-then-first-ge-TREE_INDEX_BOUND-clause-read g t c = λ honest are. any_ok _ c.count_below.result (AreReadInTree-past _ c.args.level c.args.ptr c.args.first (omega arith))

pub returns-then-first-ge-TREE_INDEX_BOUND-clause-stands : goal.returns-then-first-ge-TREE_INDEX_BOUND-clause-stands
returns-then-first-ge-TREE_INDEX_BOUND-clause-stands g t c = λ honest stands. c.count_below.ensures.stands honest (DataStandInTree-nodes _ c.args.level c.args.ptr c.args.first stands)

pub returns-then-is_flat-clause-all : goal.returns-then-is_flat-clause-all
returns-then-is_flat-clause-all g t c = λ honest are. AreMetInTree-flat _ c.args.met.now.end _ c.args.level c.args.ptr c.args.first (sym c.is_flat.ensures ∙ c.if-is_flat.true)

pub returns-then-is_flat-clause-read : goal.returns-then-is_flat-clause-read
returns-then-is_flat-clause-read g t c = λ honest are. AreReadInTree-flat _ c.args.level c.args.ptr c.args.first (sym c.is_flat.ensures ∙ c.if-is_flat.true)

pub returns-then-eq-clause-all : goal.returns-then-eq-clause-all
returns-then-eq-clause-all g t c = λ honest are.
    let level_is : c.args.known.0 ≡ c.args.level = omega arith in
    let ptr_is : c.args.known.1 ≡ c.args.ptr = search rules in
    subst (λ (n : ℕ). AreMetInTree (disk_of c.args.io.now).seen c.args.met.now.end c.args.met.now.marks n c.args.ptr c.args.first) level_is
    (subst (λ (p : Ptr). AreMetInTree (disk_of c.args.io.now).seen c.args.met.now.end c.args.met.now.marks c.args.known.0 p c.args.first) ptr_is are)

pub returns-then-level-eq0-clause-all : goal.returns-then-level-eq0-clause-all
returns-then-level-eq0-clause-all g t c = λ honest are.
    let old = c.args.met.now in
    let mid = c.meet.new.self in
    let own = OwnMet-meet old mid c.args.ptr c.meet.ensures.met c.meet.ensures.end in
    let known = AreMetBeside-of _ old.end old.marks c.args.known.0 c.args.known.1 c.args.first (omega arith) are in
    let more = c.count_leaf.ensures.more in
    on_ok (AreMetInTree-leaf _ _ _ c.args.level c.args.ptr c.args.first (omega arith) (λ under. more.stay c.args.ptr.sector (own (omega (arith, under, more.end_is))))) c.count_leaf.result
    (c.count_leaf.ensures.all honest (beside_more _ old mid c.args.known.0 c.args.known.1 (MetMore-meet old mid c.args.ptr c.meet.ensures.met c.meet.ensures.end) known))

pub returns-then-level-eq0-clause-only : goal.returns-then-level-eq0-clause-only
returns-then-level-eq0-clause-only g t c = λ honest sector marked.
    let inner = sym c.is_flat.ensures ∙ c.if-is_flat.false in
    ⊎_elim (λ mine. own_tree _ c.args.met.now.end c.args.level c.args.ptr c.args.first sector _ inner ((c.meet.ensures.met sector).0 mine))
    (λ inside. inr (tree_leaf _ c.args.level c.args.ptr c.args.first sector (omega arith) (omega arith) inner inside.0, omega (arith, inside.1, c.meet.ensures.end)))
    (c.count_leaf.ensures.only honest sector marked)

pub returns-then-level-eq0-clause-read : goal.returns-then-level-eq0-clause-read
returns-then-level-eq0-clause-read g t c = λ honest are.
    on_ok (AreReadInTree-leaf _ c.args.level c.args.ptr c.args.first (omega arith)) c.count_leaf.result
    (c.count_leaf.ensures.read honest (AreReadBeside-of _ c.args.known.0 c.args.known.1 c.args.first (omega arith) are))

pub returns-then-level-eq0-clause-stands : goal.returns-then-level-eq0-clause-stands
returns-then-level-eq0-clause-stands g t c = λ honest stands.
    c.count_leaf.ensures.stands honest (leaf_stands _ c.args.level c.args.ptr c.args.first (omega arith) (omega arith) (sym c.is_flat.ensures ∙ c.if-is_flat.false) stands)

pub returns-then-level-eq0-clause-damaged : goal.returns-then-level-eq0-clause-damaged
returns-then-level-eq0-clause-damaged g t c = λ honest.
    let inner = sym c.is_flat.ensures ∙ c.if-is_flat.false in
    leaf_in_tree _ _ c.args.level c.args.ptr c.count_leaf.result (omega arith) inner (c.count_leaf.ensures.damaged honest inner)

pub returns-in_err-load_named-clause-only : goal.returns-in_err-load_named-clause-only
returns-in_err-load_named-clause-only g t c = λ honest sector marked.
    own_tree _ c.args.met.now.end c.args.level c.args.ptr c.args.first sector _ (sym c.is_flat.ensures ∙ c.if-is_flat.false) ((c.meet.ensures.met sector).0 marked)

pub returns-in_err-load_named-clause-stands : goal.returns-in_err-load_named-clause-stands
returns-in_err-load_named-clause-stands g t c = λ honest stands.
    let node = node_in_tree _ c.args.level c.args.ptr c.args.first (omega arith) (sym c.is_flat.ensures ∙ c.if-is_flat.false) stands in
    let p = err_from_is_err_and c.from_residual.result c.from_residual.ensures.1 in
    rw (p.1, p.2) (given_fault node.bytes c.load_named.new.io.node c.in_err-load_named.field-0.0 (c.in_err-load_named.ensures.there node.bytes honest node.names node.there))

pub returns-in_err-beside-clause-only : goal.returns-in_err-beside-clause-only
returns-in_err-beside-clause-only g t c = λ honest sector marked.
    own_tree _ c.args.met.now.end c.args.level c.args.ptr c.args.first sector _ (sym c.is_flat.ensures ∙ c.if-is_flat.false) ((c.meet.ensures.met sector).0 marked)

pub overflow_mul-start : goal.overflow_mul-start
overflow_mul-start g t c = let most = child_fits c.args.level c.args.first c.loop-k.k (omega arith) (omega arith) in rw c.span_of.ensures (omega (arith, most, c.requires.first))

pub overflow_add-start : goal.overflow_add-start
overflow_add-start g t c = let most = child_fits c.args.level c.args.first c.loop-k.k (omega arith) (omega arith) in rw c.span_of.ensures (omega (arith, most, c.requires.first))

pub count_leaves-requires : goal.count_leaves-requires
count_leaves-requires g t c κs within =
    let most = child_fits c.args.level c.args.first c.loop-k.k (omega arith) (omega arith) in
    let fits : (c.args.first + c.loop-k.k * c.span_of.result) + span (c.args.level - 1) ≤ 562949953421312 = rw c.span_of.ensures (omega (arith, most, c.requires.first)) in
    (omega (arith, c.decreases), (within, (omega arith, fits)))

pub returns-in_err-count_leaves-clause-only : goal.returns-in_err-count_leaves-clause-only
returns-in_err-count_leaves-clause-only g t c = λ honest sector marked.
    let inv = c.loop-k.invariant in
    let step = c.in_err-count_leaves.ensures in
    let looked = c.in_ok-beside.ensures.looks.reads in
    let loaded = c.in_ok-load_named.ensures.looks.reads in
    let was = step.looks.reads.honest honest in
    let at_load = looked.honest (inv.looks.reads.honest was) in
    let inner = sym c.is_flat.ensures ∙ c.if-is_flat.false in
    let start_is = ap (λ (n : ℕ). c.args.first + c.loop-k.k * n) c.span_of.ensures in
    ⊎_elim (λ before. ⊎_elim (λ mine. own_tree _ c.args.met.now.end c.args.level c.args.ptr c.args.first sector _ inner ((c.meet.ensures.met sector).0 mine))
    (λ first. inr (rw (looked.seen ∙ loaded.seen) at first.0, rw c.meet.ensures.end at first.1)) (inv.only was sector before))
    (λ first. inr (
      up_tree _ _ _ c.args.level c.args.ptr c.replace-node.result c.load_named.new.io.node c.loop-k.k c.args.first (c.args.first + c.loop-k.k * c.span_of.result) sector c.child_at.result refl (inv.looks.reads.seen ∙ looked.seen ∙ loaded.seen) (omega arith) inner
          (c.in_ok-load_named.ensures.block at_load) c.replace-node.ensures.value (omega arith) c.child_at.ensures.child start_is first.0,
      rw (inv.more.end_is ∙ c.meet.ensures.end) at first.1,
    ))
    (step.only honest sector marked)

pub returns-in_err-count_leaves-clause-stands : goal.returns-in_err-count_leaves-clause-stands
returns-in_err-count_leaves-clause-stands g t c = λ honest stands.
    let inv = c.loop-k.invariant in
    let step = c.in_err-count_leaves.ensures in
    let looked = c.in_ok-beside.ensures.looks in
    let loaded = c.in_ok-load_named.ensures.looks in
    let at_load = looked.reads.honest (inv.looks.reads.honest (step.looks.reads.honest honest)) in
    let node = node_in_tree _ c.args.level c.args.ptr c.args.first (omega arith) (sym c.is_flat.ensures ∙ c.if-is_flat.false) stands in
    let same : c.replace-node.result ≡ node.bytes = c.replace-node.ensures.value ∙ c.in_ok-load_named.ensures.there node.bytes at_load node.names node.there in
    let here : c.child_at.result ≡ child node.bytes c.loop-k.k = c.child_at.ensures.child ∙ ap (λ (bytes : List ℕ). child bytes c.loop-k.k) same in
    let under = there_after (Looks-then loaded (Looks-then looked inv.looks)) (λ (seen : List ℕ) (space : FreeSectors). DataStandInTree (Has seen space) (c.args.level - 1) (child node.bytes c.loop-k.k) (c.args.first + c.loop-k.k * span (c.args.level - 1))) (node.below c.loop-k.k (omega arith)) in
    let p = err_from_is_err_and c.from_residual-in_err-count_leaves.result c.from_residual-in_err-count_leaves.ensures.1 in
    rw (p.1, p.2) (step.stands honest (rw (here, c.span_of.ensures) under))

pub returns-in_err-count_leaves-clause-damaged : goal.returns-in_err-count_leaves-clause-damaged
returns-in_err-count_leaves-clause-damaged g t c = λ honest.
    let inv = c.loop-k.invariant in
    let step = c.in_err-count_leaves.ensures in
    let looked = c.in_ok-beside.ensures.looks in
    let loaded = c.in_ok-load_named.ensures.looks in
    let at_load = looked.reads.honest (inv.looks.reads.honest (step.looks.reads.honest honest)) in
    let p = err_from_is_err_and c.from_residual-in_err-count_leaves.result c.from_residual-in_err-count_leaves.ensures.1 in
    rw (p.1, p.2) (tree_fault (Looks-then loaded (Looks-then looked inv.looks)) c.args.level c.args.ptr c.replace-node.result c.load_named.new.io.node c.loop-k.k c.child_at.result (omega arith) (sym c.is_flat.ensures ∙ c.if-is_flat.false)
    (c.in_ok-load_named.ensures.block at_load) c.replace-node.ensures.value (omega arith) c.child_at.ensures.child c.in_err-count_leaves.field-0.0 (step.damaged honest))

pub returns-in_err-count_leaves-clause-looks : goal.returns-in_err-count_leaves-clause-looks
returns-in_err-count_leaves-clause-looks g t c =
    let p = err_from_is_err_and c.from_residual-in_err-count_leaves.result c.from_residual-in_err-count_leaves.ensures.1 in
    rw (p.1, p.2) (Looks-then c.in_ok-load_named.ensures.looks (Looks-then c.in_ok-beside.ensures.looks (Looks-then c.loop-k.invariant.looks c.in_err-count_leaves.ensures.looks)))

pub loop-k-preserved : goal.loop-k-preserved
loop-k-preserved g t c =
    let inv = c.loop-k.invariant in
    let step = c.in_ok-count_leaves.ensures in
    let looked = c.in_ok-beside.ensures.looks.reads in
    let loaded = c.in_ok-load_named.ensures.looks.reads in
    let image = (disk_of c.load_beside.new.io).seen in
    let now = (disk_of c.loop-k.io).seen in
    let lower = c.child_beside-under.result.0 in
    let under = c.child_beside-under.result.1 in
    let start = c.args.first + c.loop-k.k * c.span_of.result in
    let first = c.args.first + c.loop-k.k * span (c.args.level - 1) in
    let start_is : start ≡ first = ap (λ (n : ℕ). c.args.first + c.loop-k.k * n) c.span_of.ensures in
    record {
      own = λ less. step.more.stay c.args.ptr.sector (inv.own (omega (arith, less, step.more.end_is)));
      all = λ honest are.
          let was = step.looks.reads.honest honest in
          let beside = rw (← looked.seen) at (c.in_ok-beside.ensures.beside (inv.looks.reads.honest was)) in
          let known = AllMet-more c.meet.new.self c.loop-k.met (IsFirstInTree (IsBlock image) c.args.known.0 c.args.known.1 c.args.first) inv.more are in
          let met = tree_within image c.loop-k.met.end c.loop-k.met.marks c.args.known.0 lower c.args.first first c.args.known.1 under (λ found. c.child_beside-under.ensures.below image found beside)
          (λ index leaf. c.child_beside-under.ensures.leaves image c.args.first index leaf beside) known in
          last_of (λ (j : ℕ). AreMetInTree image c.count_leaves.new.met.end c.count_leaves.new.met.marks (c.args.level - 1) (child c.replace-node.result j) (c.args.first + j * span (c.args.level - 1))) c.loop-k.k
          (λ j earlier. AllMet-more c.loop-k.met c.count_leaves.new.met (IsFirstInTree (IsBlock image) (c.args.level - 1) (child c.replace-node.result j) (c.args.first + j * span (c.args.level - 1))) step.more (inv.all was are j earlier))
          (tree_on image now c.count_leaves.new.met.end c.count_leaves.new.met.marks (c.args.level - 1) c.child_at.result (child c.replace-node.result c.loop-k.k) start first inv.looks.reads.seen c.child_at.ensures.child start_is
          (step.all honest (tree_on now image c.loop-k.met.end c.loop-k.met.marks lower under under first start (sym inv.looks.reads.seen) refl (sym start_is) met)));
      more = MetMore-then _ _ _ inv.more step.more;
      only = λ honest sector marked.
          let was = step.looks.reads.honest honest in
          let at_load = looked.honest (inv.looks.reads.honest was) in
          ⊎_elim (λ before. inv.only was sector before)
          (λ is. inr (
            up_tree image now _ c.args.level c.args.ptr c.replace-node.result c.load_named.new.io.node c.loop-k.k c.args.first start sector c.child_at.result (looked.seen ∙ loaded.seen) inv.looks.reads.seen (omega arith) (sym c.is_flat.ensures ∙ c.if-is_flat.false)
                (c.in_ok-load_named.ensures.block at_load) c.replace-node.ensures.value (omega arith) c.child_at.ensures.child start_is is.0,
            omega (arith, is.1, inv.more.end_is),
          ))
          (step.only honest sector marked);
      read = λ honest are.
          let was = step.looks.reads.honest honest in
          let beside = rw (← looked.seen) at (c.in_ok-beside.ensures.beside (inv.looks.reads.honest was)) in
          let read = read_in_place image c.args.level c.args.known.0 c.args.first c.loop-k.k lower c.args.known.1 under _ (omega arith) (omega arith) (omega arith) beside c.child_beside-under.ensures.place are in
          last_of (λ (j : ℕ). AreReadInTree image (c.args.level - 1) (child c.replace-node.result j) (c.args.first + j * span (c.args.level - 1))) c.loop-k.k (inv.read was are)
          (read_on image now (c.args.level - 1) c.child_at.result (child c.replace-node.result c.loop-k.k) start first inv.looks.reads.seen c.child_at.ensures.child start_is
          (step.read honest (read_on now image lower under under first start (sym inv.looks.reads.seen) refl (sym start_is) read)));
      looks = Looks-then inv.looks step.looks;
    }

pub returns-clause-all : goal.returns-clause-all
returns-clause-all g t c = λ honest are.
    let inv = c.loop-k.invariant in
    let looked = c.in_ok-beside.ensures.looks.reads in
    let loaded = c.in_ok-load_named.ensures.looks.reads in
    let at_load = looked.honest (inv.looks.reads.honest honest) in
    let before = (disk_of c.args.io.now).seen in
    let old = c.args.met.now in
    let mid = c.meet.new.self in
    let known = AllMet-more old mid (IsFirstInTree (IsBlock before) c.args.known.0 c.args.known.1 c.args.first) (MetMore-meet old mid c.args.ptr c.meet.ensures.met c.meet.ensures.end) are in
    let here = tree_on (disk_of c.load_beside.new.io).seen before mid.end mid.marks c.args.known.0 c.args.known.1 c.args.known.1 c.args.first c.args.first (sym (looked.seen ∙ loaded.seen)) refl refl known in
    over_tree _ _ c.loop-k.met.end c.loop-k.met.marks c.args.level c.args.ptr c.args.first c.replace-node.result c.load_named.new.io.node (omega arith) inv.own (c.in_ok-load_named.ensures.block at_load) c.replace-node.ensures.value (looked.seen ∙ loaded.seen)
    (λ k less. inv.all honest here k (omega arith))

pub returns-clause-only : goal.returns-clause-only
returns-clause-only g t c = λ honest sector marked.
    let looked = c.in_ok-beside.ensures.looks.reads in
    let loaded = c.in_ok-load_named.ensures.looks.reads in
    ⊎_elim (λ mine. own_tree _ c.args.met.now.end c.args.level c.args.ptr c.args.first sector _ (sym c.is_flat.ensures ∙ c.if-is_flat.false) ((c.meet.ensures.met sector).0 mine))
    (λ first. inr (rw (looked.seen ∙ loaded.seen) at first.0, rw c.meet.ensures.end at first.1)) (c.loop-k.invariant.only honest sector marked)

pub returns-clause-read : goal.returns-clause-read
returns-clause-read g t c = λ honest are.
    let inv = c.loop-k.invariant in
    let looked = c.in_ok-beside.ensures.looks.reads in
    let loaded = c.in_ok-load_named.ensures.looks.reads in
    let at_load = looked.honest (inv.looks.reads.honest honest) in
    let before = (disk_of c.args.io.now).seen in
    let here = read_on (disk_of c.load_beside.new.io).seen before c.args.known.0 c.args.known.1 c.args.known.1 c.args.first c.args.first (sym (looked.seen ∙ loaded.seen)) refl refl are in
    read_over_tree _ _ c.args.level c.args.ptr c.args.first c.replace-node.result c.load_named.new.io.node (omega arith) (c.in_ok-load_named.ensures.block at_load) c.replace-node.ensures.value (looked.seen ∙ loaded.seen)
    (λ k less. inv.read honest here k (omega arith))
