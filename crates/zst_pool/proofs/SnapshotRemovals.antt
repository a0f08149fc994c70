-- A snapshot that goes is one whose name says that it may.
use Rattle.std.proofs.Common.{◌≡◌, Bool, true, false, ◌&&◌, ◌||◌, ℕ, List, [], ◌∷◌, refl, sym, ap, ◌∙◌}
use Rattle.std.specs.List.{list_any}
use Rattle.std.specs.Prelude.{nat_lt}
use Rattle.std.specs.Str.{bytes_eq}
use Rattle.zst_names.specs.Names.{dataset_of}
use Rattle.zst_model.proofs.OrderLaws.{same_bytes}
use Rattle.zst_dir.specs.Removal.{takes_snapshot}
use Rattle.zst_dir.specs.declared.removal.Removal.{Removal}
use Rattle.zst_dir.specs.declared.removal.Removal.TheVariants as goes
use Rattle.zst_dir.specs.declared.rows.Snapshot.{Snapshot}
use Rattle.zst_pool.specs.Lineage.{may_go}

-- a test and the same with more in front of it
twice : (a : Bool) → (a && true) ≡ (a && (true && a))
twice true = refl
twice false = refl

narrow : (a b : Bool) → ((a && b) && true) ≡ (a && (true && (a && b)))
narrow true true = refl
narrow true false = refl
narrow false b = refl

none_passes : (a : Bool) → (a && false) ≡ false
none_passes true = refl
none_passes false = refl

-- one row of a name goes only where the name says that it may
one_may_go : (going : Removal) (name : List ℕ) (row : Snapshot) → (may_go going name && (bytes_eq row.name name && takes_snapshot going row)) ≡ (takes_snapshot going row && bytes_eq row.name name)
one_may_go going name row = go (bytes_eq row.name name) refl
  where
    named : row.name ≡ name → (may_go going name && (true && takes_snapshot going row)) ≡ (takes_snapshot going row && true)
    named same = by_case going
      where
        by_case : (g : Removal) → (may_go g name && (true && takes_snapshot g row)) ≡ (takes_snapshot g row && true)
        by_case (goes.Dataset dataset) = rw same (sym (twice (bytes_eq (dataset_of 64 name) dataset)))
        by_case (goes.Snapshot snapshot) = rw same (sym (twice (bytes_eq name snapshot)))
        by_case (goes.Bookmark bookmark) = refl
        by_case (goes.Newer dataset number) = rw same (sym (narrow (bytes_eq (dataset_of 64 name) dataset) (nat_lt number row.number)))

    go : (b : Bool) → bytes_eq row.name name ≡ b → (may_go going name && (b && takes_snapshot going row)) ≡ (takes_snapshot going row && b)
    go true is = named (same_bytes row.name name is)
    go false is = none_passes (may_go going name) ∙ sym (none_passes (takes_snapshot going row))

-- what stands before a test of one is before the test of all
before_any : (a b rest : Bool) → (a && (b || rest)) ≡ ((a && b) || (a && rest))
before_any true b rest = refl
before_any false b rest = refl

-- a look at the rows of a name alone, where that may go, finds whether it goes
pub going_may_go : (going : Removal) (name : List ℕ) (rows : List Snapshot)
    → (may_go going name && list_any (λ row. bytes_eq row.name name && takes_snapshot going row) rows) ≡ list_any (λ row. takes_snapshot going row && bytes_eq row.name name) rows
going_may_go going name [] = none_passes (may_go going name)
going_may_go going name (row ∷ rows) =
    before_any (may_go going name) (bytes_eq row.name name && takes_snapshot going row) (list_any (λ other. bytes_eq other.name name && takes_snapshot going other) rows)
    ∙ ap (λ b. b || (may_go going name && list_any (λ other. bytes_eq other.name name && takes_snapshot going other) rows)) (one_may_go going name row)
    ∙ ap (λ b. (takes_snapshot going row && bytes_eq row.name name) || b) (going_may_go going name rows)

-- and where it may not, no row of the name goes
pub never_goes : (going : Removal) (name : List ℕ) (rows : List Snapshot) → may_go going name ≡ false → false ≡ list_any (λ row. takes_snapshot going row && bytes_eq row.name name) rows
never_goes going name rows never =
    sym (ap (λ b. b && list_any (λ row. bytes_eq row.name name && takes_snapshot going row) rows) never) ∙ going_may_go going name rows
