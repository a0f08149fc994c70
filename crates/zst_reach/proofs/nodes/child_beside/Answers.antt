use Rattle.std.proofs.Common.{ℕ, refl, subst, arith}
use Rattle.std.specs.Prelude.{Some}
use Rattle.zst_block.specs.Blocks.{IsBlock}
use Rattle.zst_reach.specs.Reached.{AreMarked, IsBeside, ReachesBlock}
use Rattle.zst_reach.specs.ReachedSets.{AreMarkedInTree, StandsAt}
use Rattle.zst_reach.proofs.ReachedLaws.{AreMarked-child, AreMarked-flat, block_child, none_flat}
use Rattle.zst_reach.proofs.SetWalks.{AreMarkedInTree-child, AreMarkedInTree-flat, no_leaf, stands_child}
use Rattle.zst_reach.proofs.nodes.child_beside.Goals as goal

pub returns-in-Some-clause-marked : goal.returns-in-Some-clause-marked
returns-in-Some-clause-marked c = λ image marks end is are.
    let beside : IsBeside image c.args.level c.args.known_level c.args.known (Some c.in-Some.node) = rw c.in-Some.is at is in
    let known = subst (λ (l : ℕ). AreMarked image end marks l c.args.known) beside.0 are in
    rw c.child_at.ensures.child (AreMarked-child image end marks c.args.level c.args.known c.in-Some.node c.args.k (omega arith) beside.1 beside.2 (omega arith) known)

pub returns-in-Some-clause-marked_in : goal.returns-in-Some-clause-marked_in
returns-in-Some-clause-marked_in c = λ image marks end first is are.
    let beside : IsBeside image c.args.level c.args.known_level c.args.known (Some c.in-Some.node) = rw c.in-Some.is at is in
    let known = subst (λ (l : ℕ). AreMarkedInTree image end marks l c.args.known first) beside.0 are in
    rw c.child_at.ensures.child (AreMarkedInTree-child image end marks c.args.level c.args.known first c.in-Some.node c.args.k (omega arith) beside.1 beside.2 (omega arith) known)

pub returns-clause-marked : goal.returns-clause-marked
returns-clause-marked c = λ image marks end is are. AreMarked-flat image end marks 0 c.hole.result (rw c.hole.ensures refl)

pub returns-clause-marked_in : goal.returns-clause-marked_in
returns-clause-marked_in c = λ image marks end first is are. AreMarkedInTree-flat image end marks 0 c.hole.result _ (rw c.hole.ensures refl)

pub returns-in-Some-clause-below : goal.returns-in-Some-clause-below
returns-in-Some-clause-below c = λ image found is reached.
    let beside : IsBeside image c.args.level c.args.known_level c.args.known (Some c.in-Some.node) = rw c.in-Some.is at is in
    rw beside.0 (block_child (IsBlock image) c.args.level c.args.known c.in-Some.node c.args.k found (omega arith) beside.1 beside.2 (omega arith) (rw c.child_at.ensures.child at reached))

pub returns-in-Some-clause-leaves : goal.returns-in-Some-clause-leaves
returns-in-Some-clause-leaves c = λ image first index leaf is some stands.
    let beside : IsBeside image c.args.level c.args.known_level c.args.known (Some c.in-Some.node) = rw c.in-Some.is at is in
    rw beside.0 (stands_child image c.args.level c.args.known c.in-Some.node c.args.k first index leaf (omega arith) beside.1 beside.2 (omega arith) (rw c.child_at.ensures.child at stands))

pub returns-clause-below : goal.returns-clause-below
returns-clause-below c = λ image found is reached. absurd (none_flat (IsBlock image) 0 c.hole.result found (rw c.hole.ensures refl) reached)

pub returns-clause-leaves : goal.returns-clause-leaves
returns-clause-leaves c = λ image first index leaf is some stands. absurd (no_leaf image 0 c.hole.result _ index leaf (rw c.hole.ensures refl) some stands)
