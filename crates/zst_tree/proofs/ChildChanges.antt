-- A change of a range, seen by one child, and by what is beside the children that it reaches.
use Rattle.std.proofs.Common.{◌≡◌, ◌⊎◌, ⊎_elim, ℕ, ◌+◌, ◌-◌, ◌*◌, ◌<◌, ◌≤◌, true, arith}
use Rattle.std.proofs.Math.Nat.{mul-le-mul_right}
use Rattle.zst_block.specs.declared.ptr.Ptr.{Ptr}
use Rattle.zst_block.specs.Ptr.{is_flat, is_lawful}
use Rattle.zst_tree.specs.Indices.{Blocks, Map, span, Subtree, Same, SameBeside, Changed}
use Rattle.zst_tree.proofs.BuiltSubtrees.{child_in, whole_below, one_below}
use Rattle.zst_tree.proofs.WriteCounts.{one_level}

module _ (map put : Map) (level base first below : ℕ) (leaf : Ptr) (changed : Changed map put base (base + first) (base + below) (base + span level) leaf) (h : 0 < level) where
  pub one_changed : (child f b : ℕ) → child < 128 → child * span (level - 1) + f ≡ first → child * span (level - 1) + b ≡ below →
      Changed map put (base + child * span (level - 1)) ((base + child * span (level - 1)) + f) ((base + child * span (level - 1)) + b) ((base + child * span (level - 1)) + span (level - 1)) leaf
  one_changed child f b lt ef eb = record {
    inside = record { is = λ i u l. changed.inside.is i (omega arith) (omega arith) };
    beside = record {
      before = λ i u l. changed.beside.before i (omega arith) (omega arith);
      behind = λ i u l. changed.beside.behind i (omega arith) (child_in base level child i h lt l);
    };
  }

  pub one_beside : (child f b : ℕ) → child * span (level - 1) + f ≡ first → child * span (level - 1) + b ≡ below → b ≤ span (level - 1) →
      SameBeside map put base (base + child * span (level - 1)) ((base + child * span (level - 1)) + span (level - 1)) (base + span level)
  one_beside child f b ef eb le = record {
    before = λ i u l. changed.beside.before i u (omega arith);
    behind = λ i u l. changed.beside.behind i (omega arith) l;
  }

  module _ (low high f b : ℕ) (order : low < high) (lt : high < 128) (ef : low * span (level - 1) + f ≡ first) (under : f < span (level - 1)) (eb : high * span (level - 1) + b ≡ below) (some : 0 < b) (le : b ≤ span (level - 1)) where
    apart : low * span (level - 1) + span (level - 1) ≤ high * span (level - 1)
    apart = let m : (low + 1) * span (level - 1) ≤ high * span (level - 1) = mul-le-mul_right (span (level - 1)) (omega arith) in omega arith

    pub low_changed : Changed map put (base + low * span (level - 1)) ((base + low * span (level - 1)) + f) ((base + low * span (level - 1)) + span (level - 1)) ((base + low * span (level - 1)) + span (level - 1)) leaf
    low_changed = record {
      inside = record { is = λ i u l. changed.inside.is i (omega arith) (let m : low * span (level - 1) + span (level - 1) ≤ high * span (level - 1) = apart in omega arith) };
      beside = record {
        before = λ i u l. changed.beside.before i (omega arith) (omega arith);
        behind = λ i u l. absurd (omega arith);
      };
    }

    pub high_changed : Changed map put (base + high * span (level - 1)) ((base + high * span (level - 1)) + 0) ((base + high * span (level - 1)) + b) ((base + high * span (level - 1)) + span (level - 1)) leaf
    high_changed = record {
      inside = record { is = λ i u l. changed.inside.is i (let m : low * span (level - 1) + span (level - 1) ≤ high * span (level - 1) = apart in omega arith) (omega arith) };
      beside = record {
        before = λ i u l. absurd (omega arith);
        behind = λ i u l. changed.beside.behind i (omega arith) (child_in base level high i h lt l);
      };
    }

    pub two_beside : SameBeside map put base (base + low * span (level - 1)) ((base + high * span (level - 1)) + span (level - 1)) (base + span level)
    two_beside = record {
      before = λ i u l. changed.beside.before i u (omega arith);
      behind = λ i u l. changed.beside.behind i (omega arith) l;
    }

    pub two_between : Same put ((base + low * span (level - 1)) + span (level - 1)) (base + high * span (level - 1)) leaf
    two_between = record { is = λ i u l. changed.inside.is i (omega arith) (omega arith) }

pub all_changed : (has : Blocks) (map put : Map) (level base first below : ℕ) (leaf : Ptr) → Changed map put base (base + first) (base + below) (base + span level) leaf →
    first ≡ 0 → below ≡ span level → is_lawful leaf ≡ true → (is_flat leaf ≡ true) ⊎ (below ≡ first + 1) → Subtree has level leaf base put
all_changed has map put level base first below leaf changed f b lawful kind = ⊎_elim
    (λ flat. whole_below has put level leaf base lawful flat (record { is = λ i u l. changed.inside.is i (omega arith) (omega arith) }))
    (λ one. one_below has put level leaf base (one_level level (omega arith)) lawful (changed.inside.is base (omega arith) (omega arith))) kind
