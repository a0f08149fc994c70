use Rattle.std.proofs.Common.{◌≡◌, ℕ, true, false, sym, subst, arith}
use Rattle.zst_leaves.specs.Leaves.{StandsBefore}
use Rattle.zst_leaves.proofs.DamageLemmas.{alike_told, load_told}
use Rattle.zst_leaves.proofs.BlocksBeforeEnd.{Has-stands}
use Rattle.zst_leaves.proofs.reads.load_named.Goals as goal
use Rattle.zst_leaves.proofs.reads.load_named.Goals.{then-ptr-kind-via-then-ptr-kind, then-ptr-kind-via-else-ptr-kind+then-ptr-level, then-ptr-kind-via-else-ptr-kind+else-ptr-level+then-not-stands_before}

pub returns-then-ptr-kind-clause-there : goal.returns-then-ptr-kind-clause-there
returns-then-ptr-kind-clause-there g c = λ bytes honest kind level has long. elim c.then-ptr-kind.branch [
  | then-ptr-kind-via-then-ptr-kind w ↦ absurd (omega (arith, w.if-ptr-kind.true, kind))
  | then-ptr-kind-via-else-ptr-kind+then-ptr-level w ↦ absurd (omega (arith, w.if-ptr-level.true, level))
  | then-ptr-kind-via-else-ptr-kind+else-ptr-level+then-not-stands_before w ↦ (
      let stands = subst (λ (end : ℕ). StandsBefore end c.args.ptr) (sym w.end.ensures) (Has-stands _ c.args.io.now.space c.args.ptr bytes has long) in
      let holds : w.stands_before.result ≡ true = w.stands_before.ensures.1 stands in
      let fails : w.stands_before.result ≡ false = w.if-not-stands_before.true in
      absurd (cc))
]

pub returns-then-ptr-kind-clause-damaged : goal.returns-then-ptr-kind-clause-damaged
returns-then-ptr-kind-clause-damaged g c = λ honest. alike_told _ _ _ c.args.ptr c.of_layout.result c.of_layout.ensures (λ names. elim c.then-ptr-kind.branch [
  | then-ptr-kind-via-then-ptr-kind w ↦ absurd (omega (arith, w.if-ptr-kind.true, names.kind_is))
  | then-ptr-kind-via-else-ptr-kind+then-ptr-level w ↦ absurd (omega (arith, w.if-ptr-level.true, names.level_is))
  | then-ptr-kind-via-else-ptr-kind+else-ptr-level+then-not-stands_before w ↦ (
      let holds : w.stands_before.result ≡ true = w.stands_before.ensures.1 (subst (λ (end : ℕ). StandsBefore end c.args.ptr) (sym w.end.ensures) names.stands) in
      let fails : w.stands_before.result ≡ false = w.if-not-stands_before.true in
      absurd (cc))
])

pub returns-clause-damaged : goal.returns-clause-damaged
returns-clause-damaged g c = λ honest. load_told _ _ c.args.kind c.args.level c.args.io.now.space.end c.args.ptr _ c.load.result (c.load.ensures.damaged honest) (c.load.ensures.answer honest)
