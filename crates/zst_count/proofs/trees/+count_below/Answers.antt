use Rattle.std.proofs.Common.{◌≡◌, inl, inr, ⊎_elim, ℕ, List, ◌-◌, sym, ap, ◌∙◌, arith}
use Rattle.std.specs.Prelude.{Some}
use Rattle.std.proofs.lemmas.Bool.{cases_lt}
use Rattle.std.proofs.lemmas.Result.{err_from_is_err_and}
use Rattle.zst_space.specs.FreeSectors.{FreeSectors}
use Rattle.zst_block.specs.Blocks.{Has, IsBlock}
use Rattle.zst_block.specs.IoStates.{disk_of}
use Rattle.zst_block.proofs.IoCallLemmas.{Looks-then}
use Rattle.zst_tree.specs.Indices.{child}
use Rattle.zst_tree.proofs.LoadedNodes.{there_after}
use Rattle.zst_reach.proofs.StandingTrees.{given_fault}
use Rattle.zst_reach.proofs.SetWalks.{on_ok}
use Rattle.zst_count.specs.FirstSectors.{IsFirstBelow}
use Rattle.zst_count.specs.MetBlocks.{AreMet}
use Rattle.zst_count.specs.PastLeaves.{told_below}
use Rattle.zst_count.specs.StandingData.{DataStand}
use Rattle.zst_count.proofs.DataFaults.{below_fault, leaf_told, node_told}
use Rattle.zst_count.proofs.MetLaws.{AllMet-more, any_ok, leaf_met, AreMet-flat, AreMet-same, AreRead-flat, AreRead-leaf, AreRead-same, AreRead-unread, MetMore-meet, MetMore-then, last_met, last_read, met_over_all, met_within, own_only, read_in_place, read_over_all, up_child}
use Rattle.zst_count.proofs.StandingData.{data_there, node_stands}
use Rattle.zst_count.proofs.trees.+count_below.Goals as goal

pub returns-then-is_flat-clause-all : goal.returns-then-is_flat-clause-all
returns-then-is_flat-clause-all g t c = λ honest are. AreMet-flat _ c.args.met.now.end _ c.args.level c.args.ptr (sym c.is_flat.ensures ∙ c.if-is_flat.true)

pub returns-then-is_flat-clause-read : goal.returns-then-is_flat-clause-read
returns-then-is_flat-clause-read g t c = λ honest are. AreRead-flat _ c.args.length c.args.level c.args.ptr (sym c.is_flat.ensures ∙ c.if-is_flat.true)

pub returns-in-Some-clause-all : goal.returns-in-Some-clause-all
returns-in-Some-clause-all g t c = λ honest are.
    any_ok (AreMet (disk_of c.args.io.now).seen c.read_data.new.self.end c.read_data.new.self.marks c.args.level c.args.ptr) c.read_data.result
    (rw (c.read_data.ensures.met.0, c.read_data.ensures.met.1) (leaf_met _ c.args.met.now c.meet.new.self c.args.level c.args.ptr c.if-level-eq0.true c.meet.ensures.met c.meet.ensures.end))

pub returns-in-Some-clause-only : goal.returns-in-Some-clause-only
returns-in-Some-clause-only g t c = λ honest sector marked.
    own_only _ c.args.met.now.end c.args.level c.args.ptr sector _ (sym c.is_flat.ensures ∙ c.if-is_flat.false) ((c.meet.ensures.met sector).0 (rw c.read_data.ensures.met.0 at marked))

pub returns-in-Some-clause-read : goal.returns-in-Some-clause-read
returns-in-Some-clause-read g t c = λ honest are.
    rw c.if-level-eq0.true (on_ok (AreRead-leaf _ c.args.length c.args.ptr) c.read_data.result (c.read_data.ensures.block honest))

pub returns-in-Some-clause-stands : goal.returns-in-Some-clause-stands
returns-in-Some-clause-stands g t c = λ honest stands.
    c.read_data.ensures.there honest (data_there _ c.args.length c.in-Some.length c.args.level c.args.ptr c.in-Some.is c.if-level-eq0.true (sym c.is_flat.ensures ∙ c.if-is_flat.false) stands)

pub returns-in-Some-clause-damaged : goal.returns-in-Some-clause-damaged
returns-in-Some-clause-damaged g t c = λ honest.
    leaf_told _ _ c.args.length c.in-Some.length c.args.level c.args.ptr c.read_data.result c.in-Some.is c.if-level-eq0.true (c.read_data.ensures.damaged honest (sym c.is_flat.ensures ∙ c.if-is_flat.false))

pub returns-in-None-clause-all : goal.returns-in-None-clause-all
returns-in-None-clause-all g t c = λ honest are. leaf_met _ c.args.met.now c.meet.new.self c.args.level c.args.ptr c.if-level-eq0.true c.meet.ensures.met c.meet.ensures.end

pub returns-in-None-clause-read : goal.returns-in-None-clause-read
returns-in-None-clause-read g t c = λ honest are. AreRead-unread _ c.args.length c.args.level c.args.ptr c.in-None.is c.if-level-eq0.true

pub returns-in-None-clause-only : goal.returns-in-None-clause-only
returns-in-None-clause-only g t c = λ honest sector marked.
    own_only _ c.args.met.now.end c.args.level c.args.ptr sector _ (sym c.is_flat.ensures ∙ c.if-is_flat.false) ((c.meet.ensures.met sector).0 marked)

pub returns-in_err-load_named-clause-only : goal.returns-in_err-load_named-clause-only
returns-in_err-load_named-clause-only g t c = λ honest sector marked.
    own_only _ c.args.met.now.end c.args.level c.args.ptr sector _ (sym c.is_flat.ensures ∙ c.if-is_flat.false) ((c.meet.ensures.met sector).0 marked)

pub returns-in_err-load_named-clause-stands : goal.returns-in_err-load_named-clause-stands
returns-in_err-load_named-clause-stands g t c = λ honest stands.
    let node = node_stands _ c.args.length c.args.level c.args.ptr (omega arith) (sym c.is_flat.ensures ∙ c.if-is_flat.false) stands in
    let p = err_from_is_err_and c.from_residual.result c.from_residual.ensures.1 in
    rw (p.1, p.2) (given_fault node.bytes c.load_named.new.io.node c.in_err-load_named.field-0.0 (c.in_err-load_named.ensures.there node.bytes honest node.names node.there))

pub returns-in_err-load_named-clause-damaged : goal.returns-in_err-load_named-clause-damaged
returns-in_err-load_named-clause-damaged g t c = λ honest.
    let p = err_from_is_err_and c.from_residual.result c.from_residual.ensures.1 in
    rw (p.1, p.2) (node_told _ _ c.args.length c.args.level c.args.ptr _ (c.in_err-load_named.ensures.names (omega arith) (sym c.is_flat.ensures ∙ c.if-is_flat.false) honest))

pub returns-in_err-beside-clause-only : goal.returns-in_err-beside-clause-only
returns-in_err-beside-clause-only g t c = λ honest sector marked.
    own_only _ c.args.met.now.end c.args.level c.args.ptr sector _ (sym c.is_flat.ensures ∙ c.if-is_flat.false) ((c.meet.ensures.met sector).0 marked)

pub returns-in_err-count_below-clause-only : goal.returns-in_err-count_below-clause-only
returns-in_err-count_below-clause-only g t c = λ honest sector marked.
    let inv = c.loop-k.invariant in
    let step = c.in_err-count_below.ensures in
    let looked = c.in_ok-beside.ensures.looks.reads in
    let loaded = c.in_ok-load_named.ensures.looks.reads in
    let was = step.looks.reads.honest honest in
    let at_load = looked.honest (inv.looks.reads.honest was) in
    let inner = sym c.is_flat.ensures ∙ c.if-is_flat.false in
    ⊎_elim (λ before. ⊎_elim (λ mine. own_only _ c.args.met.now.end c.args.level c.args.ptr sector _ inner ((c.meet.ensures.met sector).0 mine))
    (λ first. inr (rw (looked.seen ∙ loaded.seen) at first.0, rw c.meet.ensures.end at first.1)) (inv.only was sector before))
    (λ first. inr (
      up_child _ _ c.args.level c.args.ptr c.replace-node.result c.load_named.new.io.node c.loop-k.k sector c.child_at.result (omega arith) inner
          (c.in_ok-load_named.ensures.block at_load) c.replace-node.ensures.value (omega arith) (inv.looks.reads.seen ∙ looked.seen ∙ loaded.seen) c.child_at.ensures.child first.0,
      rw (inv.more.end_is ∙ c.meet.ensures.end) at first.1,
    ))
    (step.only honest sector marked)

pub returns-in_err-count_below-clause-stands : goal.returns-in_err-count_below-clause-stands
returns-in_err-count_below-clause-stands g t c = λ honest stands.
    let inv = c.loop-k.invariant in
    let step = c.in_err-count_below.ensures in
    let looked = c.in_ok-beside.ensures.looks in
    let loaded = c.in_ok-load_named.ensures.looks in
    let at_load = looked.reads.honest (inv.looks.reads.honest (step.looks.reads.honest honest)) in
    let node = node_stands _ c.args.length c.args.level c.args.ptr (omega arith) (sym c.is_flat.ensures ∙ c.if-is_flat.false) stands in
    let same : c.replace-node.result ≡ node.bytes = c.replace-node.ensures.value ∙ c.in_ok-load_named.ensures.there node.bytes at_load node.names node.there in
    let here : c.child_at.result ≡ child node.bytes c.loop-k.k = c.child_at.ensures.child ∙ ap (λ (bytes : List ℕ). child bytes c.loop-k.k) same in
    let told = told_below c.args.length c.args.level c.loop-k.k in
    let under = there_after (Looks-then loaded (Looks-then looked inv.looks)) (λ (seen : List ℕ) (space : FreeSectors). DataStand (Has seen space) told (c.args.level - 1) (child node.bytes c.loop-k.k)) (node.below c.loop-k.k (omega arith)) in
    let p = err_from_is_err_and c.from_residual-in_err-count_below.result c.from_residual-in_err-count_below.ensures.1 in
    rw (p.1, p.2) (step.stands honest (rw (here, c.length_below-told.ensures) under))

pub returns-in_err-count_below-clause-damaged : goal.returns-in_err-count_below-clause-damaged
returns-in_err-count_below-clause-damaged g t c = λ honest.
    let inv = c.loop-k.invariant in
    let step = c.in_err-count_below.ensures in
    let looked = c.in_ok-beside.ensures.looks in
    let loaded = c.in_ok-load_named.ensures.looks in
    let at_load = looked.reads.honest (inv.looks.reads.honest (step.looks.reads.honest honest)) in
    let p = err_from_is_err_and c.from_residual-in_err-count_below.result c.from_residual-in_err-count_below.ensures.1 in
    rw (p.1, p.2) (below_fault (Looks-then loaded (Looks-then looked inv.looks)) c.args.length c.length_below-told.result c.args.level c.args.ptr c.replace-node.result c.load_named.new.io.node c.loop-k.k c.child_at.result (omega arith)
    (sym c.is_flat.ensures ∙ c.if-is_flat.false) (c.in_ok-load_named.ensures.block at_load) c.replace-node.ensures.value (omega arith) c.child_at.ensures.child c.length_below-told.ensures _ (step.damaged honest))

pub returns-in_err-count_below-clause-looks : goal.returns-in_err-count_below-clause-looks
returns-in_err-count_below-clause-looks g t c =
    let p = err_from_is_err_and c.from_residual-in_err-count_below.result c.from_residual-in_err-count_below.ensures.1 in
    let stop = Some c.in_err-count_below.field-0.0 in
    rw (p.1, p.2) (Looks-then {stop = stop} c.in_ok-load_named.ensures.looks (Looks-then {stop = stop} c.in_ok-beside.ensures.looks (Looks-then {stop = stop} c.loop-k.invariant.looks c.in_err-count_below.ensures.looks)))

pub loop-k-preserved : goal.loop-k-preserved
loop-k-preserved g t c =
    let inv = c.loop-k.invariant in
    let step = c.in_ok-count_below.ensures in
    let looked = c.in_ok-beside.ensures.looks.reads in
    let loaded = c.in_ok-load_named.ensures.looks.reads in
    record {
      own = λ under. step.more.stay c.args.ptr.sector (inv.own (omega (arith, under, step.more.end_is)));
      all = λ honest are j less.
          let was = step.looks.reads.honest honest in
          elim (cases_lt j c.loop-k.k) [
            | inl earlier ↦ AllMet-more c.loop-k.met c.count_below.new.met _ step.more (inv.all was are j earlier)
            | inr on ↦
                let beside = rw (← looked.seen) at (c.in_ok-beside.ensures.beside (inv.looks.reads.honest was)) in
                let known = AllMet-more c.meet.new.self c.loop-k.met _ inv.more are in
                let under = met_within _ c.loop-k.met.end c.loop-k.met.marks c.args.known.0 _ c.args.known.1 _ (λ found. c.child_beside-under.ensures.below _ found beside) known in
                last_met _ _ c.count_below.new.met.end _ (c.args.level - 1) c.loop-k.k j c.replace-node.result c.child_at.result (omega (arith, on, less)) c.child_at.ensures.child inv.looks.reads.seen
                (step.all honest (AreMet-same _ _ _ _ _ _ inv.looks.reads.seen under))
          ];
      more = MetMore-then _ _ _ inv.more step.more;
      only = λ honest sector marked.
          let was = step.looks.reads.honest honest in
          let at_load = looked.honest (inv.looks.reads.honest was) in
          ⊎_elim (λ before. inv.only was sector before)
          (λ first. inr (
            rw (looked.seen ∙ loaded.seen) (up_child _ _ c.args.level c.args.ptr c.replace-node.result c.load_named.new.io.node c.loop-k.k sector c.child_at.result (omega arith) (sym c.is_flat.ensures ∙ c.if-is_flat.false)
                (c.in_ok-load_named.ensures.block at_load) c.replace-node.ensures.value (omega arith) (inv.looks.reads.seen ∙ looked.seen ∙ loaded.seen) c.child_at.ensures.child first.0),
            omega (arith, first.1, inv.more.end_is),
          ))
          (step.only honest sector marked);
      read = λ honest are j less.
          let was = step.looks.reads.honest honest in
          elim (cases_lt j c.loop-k.k) [
            | inl earlier ↦ inv.read was are j earlier
            | inr on ↦
                let beside = rw (← looked.seen) at (c.in_ok-beside.ensures.beside (inv.looks.reads.honest was)) in
                let under = read_in_place _ c.args.length c.args.level c.args.known.0 c.loop-k.k _ c.args.known.1 _ _ (omega arith) (omega arith) beside c.child_beside-under.ensures.place are in
                last_read _ _ c.args.length c.length_below-told.result c.args.level (c.args.level - 1) c.loop-k.k j c.replace-node.result c.child_at.result (omega (arith, on, less)) c.child_at.ensures.child c.length_below-told.ensures inv.looks.reads.seen
                (step.read honest (AreRead-same _ _ _ _ _ inv.looks.reads.seen (rw c.length_below-told.ensures under)))
          ];
      looks = Looks-then inv.looks step.looks;
    }

pub returns-clause-all : goal.returns-clause-all
returns-clause-all g t c = λ honest are.
    let inv = c.loop-k.invariant in
    let looked = c.in_ok-beside.ensures.looks.reads in
    let loaded = c.in_ok-load_named.ensures.looks.reads in
    let at_load = looked.honest (inv.looks.reads.honest honest) in
    let image = (disk_of c.args.io.now).seen in
    let more = MetMore-meet c.args.met.now c.meet.new.self c.args.ptr c.meet.ensures.met c.meet.ensures.end in
    let known = AreMet-same image (disk_of c.load_beside.new.io).seen c.meet.new.self.end c.meet.new.self.marks c.args.known.0 c.args.known.1 (looked.seen ∙ loaded.seen)
    (AllMet-more c.args.met.now c.meet.new.self (IsFirstBelow (IsBlock image) c.args.known.0 c.args.known.1) more are) in
    met_over_all _ _ c.loop-k.met.end _ c.args.level c.args.ptr c.replace-node.result c.load_named.new.io.node (omega arith) inv.own (c.in_ok-load_named.ensures.block at_load) c.replace-node.ensures.value (looked.seen ∙ loaded.seen)
    (λ k less. inv.all honest known k (omega arith))

pub returns-clause-only : goal.returns-clause-only
returns-clause-only g t c = λ honest sector marked.
    let looked = c.in_ok-beside.ensures.looks.reads in
    let loaded = c.in_ok-load_named.ensures.looks.reads in
    ⊎_elim (λ mine. own_only _ c.args.met.now.end c.args.level c.args.ptr sector _ (sym c.is_flat.ensures ∙ c.if-is_flat.false) ((c.meet.ensures.met sector).0 mine))
    (λ first. inr (rw (looked.seen ∙ loaded.seen) at first.0, rw c.meet.ensures.end at first.1)) (c.loop-k.invariant.only honest sector marked)

pub returns-clause-read : goal.returns-clause-read
returns-clause-read g t c = λ honest are.
    let inv = c.loop-k.invariant in
    let looked = c.in_ok-beside.ensures.looks.reads in
    let loaded = c.in_ok-load_named.ensures.looks.reads in
    let at_load = looked.honest (inv.looks.reads.honest honest) in
    read_over_all _ _ c.args.length c.args.level c.args.ptr c.replace-node.result c.load_named.new.io.node (omega arith) (c.in_ok-load_named.ensures.block at_load) c.replace-node.ensures.value (looked.seen ∙ loaded.seen)
    (λ k less. inv.read honest (AreRead-same _ _ _ _ _ (looked.seen ∙ loaded.seen) are) k (omega arith))
