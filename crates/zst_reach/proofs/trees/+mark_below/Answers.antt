use Rattle.std.proofs.Common.{◌≡◌, inl, inr, ⊎_elim, ℕ, List, ◌-◌, sym, ap, ◌∙◌, arith}
use Rattle.std.proofs.lemmas.Bool.{cases_lt}
use Rattle.std.proofs.lemmas.Result.{err_from_is_err_and}
use Rattle.zst_block.proofs.IoCallLemmas.{Looks-none, Looks-then}
use Rattle.zst_space.specs.FreeSectors.{FreeSectors}
use Rattle.zst_block.specs.Blocks.{Has}
use Rattle.zst_tree.specs.Damage.{NamesNode}
use Rattle.zst_tree.specs.Indices.{child}
use Rattle.zst_tree.proofs.Damage.{fault_below}
use Rattle.zst_tree.proofs.LoadedNodes.{there_after}
use Rattle.zst_reach.specs.StandingNodes.{NodesStand}
use Rattle.zst_reach.proofs.StandingTrees.{Subtree-nodes, given_fault, node_stands}
use Rattle.zst_marks.proofs.MoreMarks.{MarksMore-none, MarksMore-then}
use Rattle.zst_reach.proofs.ReachedLaws.{AreMarked-flat, AreMarked-leaf, AreMarked-more, AreMarked-same, last_child, no_damage_told, over_all, own_only, up_child}
use Rattle.zst_reach.proofs.trees.+mark_below.Goals as goal

pub returns-then-is_flat-clause-all : goal.returns-then-is_flat-clause-all
returns-then-is_flat-clause-all g t c = λ honest are. AreMarked-flat _ c.args.end _ c.args.level c.args.ptr (sym c.is_flat.ensures ∙ c.if-is_flat.true)

pub returns-then-level-eq0-clause-all : goal.returns-then-level-eq0-clause-all
returns-then-level-eq0-clause-all g t c = λ honest are.
    rw c.if-level-eq0.true (AreMarked-leaf _ c.args.end _ c.args.ptr (λ sector is under. (c.mark_block.ensures.marked sector).1 (inl (is, under))))

pub returns-then-level-eq0-clause-only : goal.returns-then-level-eq0-clause-only
returns-then-level-eq0-clause-only g t c = λ honest sector marked.
    own_only _ c.args.end c.args.level c.args.ptr sector _ (sym c.is_flat.ensures ∙ c.if-is_flat.false) ((c.mark_block.ensures.marked sector).0 marked)

pub returns-in_err-load_named-clause-only : goal.returns-in_err-load_named-clause-only
returns-in_err-load_named-clause-only g t c = λ honest sector marked.
    own_only _ c.args.end c.args.level c.args.ptr sector _ (sym c.is_flat.ensures ∙ c.if-is_flat.false) ((c.mark_block.ensures.marked sector).0 marked)

pub returns-in_err-beside-clause-only : goal.returns-in_err-beside-clause-only
returns-in_err-beside-clause-only g t c = λ honest sector marked.
    own_only _ c.args.end c.args.level c.args.ptr sector _ (sym c.is_flat.ensures ∙ c.if-is_flat.false) ((c.mark_block.ensures.marked sector).0 marked)

pub loop-k-init : goal.loop-k-init
loop-k-init g t c = record {
  own = λ sector is under. (c.mark_block.ensures.marked sector).1 (inl (is, under));
  all = λ honest are j none. absurd (omega arith);
  more = MarksMore-none _;
  room = omega (arith, c.requires.room, c.mark_block.ensures.room);
  only = λ honest sector marked. inl marked;
  looks = Looks-none _;
}

pub loop-k-preserved : goal.loop-k-preserved
loop-k-preserved g t c =
    let inv = c.loop-k.invariant in
    let step = c.in_ok-mark_below.ensures in
    let looked = c.in_ok-beside.ensures.looks.reads in
    let loaded = c.in_ok-load_named.ensures.looks.reads in
    record {
      own = λ sector is under. step.more.stay sector (inv.own sector is under);
      all = λ honest are j less.
          let was = step.looks.reads.honest honest in
          elim (cases_lt j c.loop-k.k) [
            | inl earlier ↦ AreMarked-more _ c.args.end _ _ (c.args.level - 1) (child c.replace-node.result j) step.more.stay (inv.all was are j earlier)
            | inr on ↦
                let beside = rw (← looked.seen) at (c.in_ok-beside.ensures.beside (inv.looks.reads.honest was)) in
                let known = AreMarked-more _ c.args.end _ _ c.args.known_level c.args.known inv.more.stay are in
                let under = c.child_beside-lower.ensures.marked _ c.loop-k.marks c.args.end beside known in
                last_child _ _ c.args.end _ (c.args.level - 1) c.loop-k.k j c.replace-node.result c.child_at.result (omega (arith, on, less)) c.child_at.ensures.child inv.looks.reads.seen
                (step.all honest (AreMarked-same _ _ c.args.end _ _ _ inv.looks.reads.seen under))
          ];
      more = MarksMore-then _ _ _ inv.more step.more;
      room = omega (arith, inv.room, step.more.room);
      only = λ honest sector marked.
          let was = step.looks.reads.honest honest in
          let at_load = looked.honest (inv.looks.reads.honest was) in
          ⊎_elim (λ before. inv.only was sector before)
          (λ reached. inr (rw (looked.seen ∙ loaded.seen) (up_child _ _ c.args.level c.args.ptr c.replace-node.result c.load_named.new.io.node c.loop-k.k sector c.child_at.result (omega arith) (sym c.is_flat.ensures ∙ c.if-is_flat.false)
          (c.in_ok-load_named.ensures.block at_load) c.replace-node.ensures.value (omega arith) (inv.looks.reads.seen ∙ looked.seen ∙ loaded.seen) c.child_at.ensures.child reached)))
          (step.only honest sector marked);
      looks = Looks-then inv.looks step.looks;
    }

pub returns-in_err-mark_below-clause-only : goal.returns-in_err-mark_below-clause-only
returns-in_err-mark_below-clause-only g t c = λ honest sector marked.
    let inv = c.loop-k.invariant in
    let step = c.in_err-mark_below.ensures in
    let looked = c.in_ok-beside.ensures.looks.reads in
    let loaded = c.in_ok-load_named.ensures.looks.reads in
    let was = step.looks.reads.honest honest in
    let at_load = looked.honest (inv.looks.reads.honest was) in
    let inner = sym c.is_flat.ensures ∙ c.if-is_flat.false in
    ⊎_elim (λ before. ⊎_elim (λ mine. own_only _ c.args.end c.args.level c.args.ptr sector _ inner ((c.mark_block.ensures.marked sector).0 mine)) (λ reached. inr (rw (looked.seen ∙ loaded.seen) at reached)) (inv.only was sector before))
    (λ reached. inr (up_child _ _ c.args.level c.args.ptr c.replace-node.result c.load_named.new.io.node c.loop-k.k sector c.child_at.result (omega arith) inner
    (c.in_ok-load_named.ensures.block at_load) c.replace-node.ensures.value (omega arith) (inv.looks.reads.seen ∙ looked.seen ∙ loaded.seen) c.child_at.ensures.child reached))
    (step.only honest sector marked)

pub returns-clause-all : goal.returns-clause-all
returns-clause-all g t c = λ honest are.
    let inv = c.loop-k.invariant in
    let looked = c.in_ok-beside.ensures.looks.reads in
    let loaded = c.in_ok-load_named.ensures.looks.reads in
    let at_load = looked.honest (inv.looks.reads.honest honest) in
    let known = AreMarked-same _ _ c.args.end _ _ _ (looked.seen ∙ loaded.seen) (AreMarked-more _ c.args.end _ _ c.args.known_level c.args.known (λ sector before. (c.mark_block.ensures.marked sector).1 (inr before)) are) in
    over_all _ _ c.args.end _ c.args.level c.args.ptr c.replace-node.result c.load_named.new.io.node (omega arith) inv.own (c.in_ok-load_named.ensures.block at_load) c.replace-node.ensures.value (looked.seen ∙ loaded.seen)
    (λ k less. inv.all honest known k (omega arith))

pub returns-clause-only : goal.returns-clause-only
returns-clause-only g t c = λ honest sector marked.
    let looked = c.in_ok-beside.ensures.looks.reads in
    let loaded = c.in_ok-load_named.ensures.looks.reads in
    ⊎_elim (λ mine. own_only _ c.args.end c.args.level c.args.ptr sector _ (sym c.is_flat.ensures ∙ c.if-is_flat.false) ((c.mark_block.ensures.marked sector).0 mine)) (λ reached. inr (rw (looked.seen ∙ loaded.seen) at reached)) (c.loop-k.invariant.only honest sector marked)

pub returns-then-level-eq0-clause-more : goal.returns-then-level-eq0-clause-more
returns-then-level-eq0-clause-more g t c = record { stay = λ sector marked. (c.mark_block.ensures.marked sector).1 (inr marked); room = c.mark_block.ensures.room }

pub returns-in_err-load_named-clause-damaged : goal.returns-in_err-load_named-clause-damaged
returns-in_err-load_named-clause-damaged g t c = λ honest.
    let p = err_from_is_err_and c.from_residual.result c.from_residual.ensures.1 in
    rw (p.1, p.2) (c.in_err-load_named.ensures.names (omega arith) (sym c.is_flat.ensures ∙ c.if-is_flat.false) honest)

pub returns-in_err-beside-clause-damaged : goal.returns-in_err-beside-clause-damaged
returns-in_err-beside-clause-damaged g t c = λ honest.
    let p = err_from_is_err_and c.from_residual-in_err-beside.result c.from_residual-in_err-beside.ensures.1 in
    rw (p.1, p.2) (no_damage_told _ _ _ _ _ _ c.in_err-beside.ensures.there)

pub returns-in_err-mark_below-clause-damaged : goal.returns-in_err-mark_below-clause-damaged
returns-in_err-mark_below-clause-damaged g t c = λ honest.
    let inv = c.loop-k.invariant in
    let step = c.in_err-mark_below.ensures in
    let looked = c.in_ok-beside.ensures.looks in
    let loaded = c.in_ok-load_named.ensures.looks in
    let at_load = looked.reads.honest (inv.looks.reads.honest (step.looks.reads.honest honest)) in
    let p = err_from_is_err_and c.from_residual-in_err-mark_below.result c.from_residual-in_err-mark_below.ensures.1 in
    rw (p.1, p.2) (fault_below (Looks-then loaded (Looks-then looked inv.looks)) (λ seen. NamesNode) c.args.level c.args.ptr c.load_named.new.io.node c.loop-k.k (omega arith) (sym c.is_flat.ensures ∙ c.if-is_flat.false)
    (c.in_ok-load_named.ensures.block at_load) (omega arith) _ (rw (c.child_at.ensures.child, c.replace-node.ensures.value) at (step.damaged honest)))

pub returns-in_err-load_named-clause-stands : goal.returns-in_err-load_named-clause-stands
returns-in_err-load_named-clause-stands g t c = λ honest stands.
    let node = node_stands _ c.args.level c.args.ptr (omega arith) (sym c.is_flat.ensures ∙ c.if-is_flat.false) stands in
    let p = err_from_is_err_and c.from_residual.result c.from_residual.ensures.1 in
    rw (p.1, p.2) (given_fault node.bytes c.load_named.new.io.node c.in_err-load_named.field-0.0 (c.in_err-load_named.ensures.there node.bytes honest node.names node.there))

pub returns-in_err-beside-clause-stands : goal.returns-in_err-beside-clause-stands
returns-in_err-beside-clause-stands g t c = λ honest stands.
    let p = err_from_is_err_and c.from_residual-in_err-beside.result c.from_residual-in_err-beside.ensures.1 in
    rw (p.1, p.2) c.in_err-beside.ensures.there

pub returns-in_err-mark_below-clause-stands : goal.returns-in_err-mark_below-clause-stands
returns-in_err-mark_below-clause-stands g t c = λ honest stands.
    let inv = c.loop-k.invariant in
    let step = c.in_err-mark_below.ensures in
    let looked = c.in_ok-beside.ensures.looks in
    let loaded = c.in_ok-load_named.ensures.looks in
    let at_load = looked.reads.honest (inv.looks.reads.honest (step.looks.reads.honest honest)) in
    let node = node_stands _ c.args.level c.args.ptr (omega arith) (sym c.is_flat.ensures ∙ c.if-is_flat.false) stands in
    let same : c.replace-node.result ≡ node.bytes = c.replace-node.ensures.value ∙ c.in_ok-load_named.ensures.there node.bytes at_load node.names node.there in
    let here : c.child_at.result ≡ child node.bytes c.loop-k.k = c.child_at.ensures.child ∙ ap (λ (bytes : List ℕ). child bytes c.loop-k.k) same in
    let under = there_after (Looks-then loaded (Looks-then looked inv.looks)) (λ (seen : List ℕ) (space : FreeSectors). NodesStand (Has seen space) (c.args.level - 1) (child node.bytes c.loop-k.k)) (node.below c.loop-k.k (omega arith)) in
    let p = err_from_is_err_and c.from_residual-in_err-mark_below.result c.from_residual-in_err-mark_below.ensures.1 in
    rw (p.1, p.2) (step.stands honest (rw here under))

pub returns-in_err-load_named-clause-there : goal.returns-in_err-load_named-clause-there
returns-in_err-load_named-clause-there g t c = λ base map honest is. returns-in_err-load_named-clause-stands g t c honest (Subtree-nodes _ _ c.args.level c.args.ptr base map is)

pub returns-in_err-beside-clause-there : goal.returns-in_err-beside-clause-there
returns-in_err-beside-clause-there g t c = λ base map honest is. returns-in_err-beside-clause-stands g t c honest (Subtree-nodes _ _ c.args.level c.args.ptr base map is)

pub returns-in_err-mark_below-clause-there : goal.returns-in_err-mark_below-clause-there
returns-in_err-mark_below-clause-there g t c = λ base map honest is. returns-in_err-mark_below-clause-stands g t c honest (Subtree-nodes _ _ c.args.level c.args.ptr base map is)
