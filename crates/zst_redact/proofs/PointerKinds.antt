-- Which indices of an object are of a kind, by the pointers of its tree.
use Rattle.std.proofs.Common.{◌≡◌, ℕ, ◌+◌, ◌<◌, ◌≤◌, ◌==◌, refl, sym, ◌∙◌, subst, ap, ⊎_elim, arith}
use Rattle.std.proofs.lemmas.Bool.{cases_lt, eq-eqb, ne_eqb}
use Rattle.zst_block.specs.declared.ptr.Ptr.{Ptr}
use Rattle.zst_dnode.specs.declared.dnode.Dnode.{Dnode}
use Rattle.zst_model.specs.pools.RedSet.{is_data, is_redacted_block}
use Rattle.zst_model.specs.states.State.{Block, Hole, Redacted, Data, IsObject, Object, index_bound}
use Rattle.zst_tree.specs.Indices.{Blocks, Map}
use Rattle.zst_tree.specs.Lookups.{Shows}
use Rattle.zst_objset.specs.Dnodes.{BlockIs, ObjectIs}
use Rattle.zst_redact.specs.Passes.{TellsAhead}
use Rattle.zst_redact.specs.Wanted.{is_of_kind, kind_of_block}
use Rattle.zst_redact.specs.declared.ahead.Ahead.TheVariants.{Here, Later}

-- data and redacted blocks are told by their kinds
pub data_kind : (block : Block) → is_data block ≡ (kind_of_block block == 1)
data_kind Hole = refl
data_kind Redacted = refl
data_kind (Data bytes) = refl

pub redacted_kind : (block : Block) → is_redacted_block block ≡ (kind_of_block block == 2)
redacted_kind Hole = refl
redacted_kind Redacted = refl
redacted_kind (Data bytes) = refl

-- a block is of the kind of the pointer that stands for it
kind_is : (has : Blocks) (ptr : Ptr) (block : Block) → BlockIs has ptr block → kind_of_block block ≡ ptr.kind
kind_is has ptr Hole is = sym is
kind_is has ptr Redacted is = sym is
kind_is has ptr (Data bytes) is = sym is.0

module _ (own : Object) (lawful : IsObject own) (has : Blocks) (dnode : Dnode) (date : ℕ) (dates : ℕ → ℕ) (map : Map) (is : ObjectIs has dnode own date dates map)
    (kind from : ℕ) (ptr : Ptr) (count : ℕ) (shows : Shows map from (ptr, count)) where
  shown_kind : (i : ℕ) → from ≤ i → i < from + count → i < index_bound → kind_of_block (own.blocks i) ≡ ptr.kind
  unfolding index_bound
  shown_kind i on before under = kind_is has ptr (own.blocks i) (subst (λ (p : Ptr). BlockIs has p (own.blocks i)) (shows.same i on before (omega (arith, under))) (is.blocks i under))

  -- indices that are alike and of the kind are here
  pub kind_here : (most : ℕ) → most ≤ count → from + most ≤ index_bound → ptr.kind ≡ kind → TellsAhead (is_of_kind own kind) from (Here most)
  kind_here most within under same i on before = eq-eqb (kind_of_block (own.blocks i)) kind (shown_kind i on (omega (arith, within, before)) (omega (arith, under, before)) ∙ same)

  -- indices that are alike and of another kind are passed over
  pub kind_passed : 0 < kind → (ptr.kind ≡ kind → ⊥) → TellsAhead (is_of_kind own kind) from (Later (from + count))
  kind_passed above isnt i on before = ne_eqb (kind_of_block (own.blocks i)) kind (λ same. ⊎_elim
      (λ under. isnt (sym (shown_kind i on before under) ∙ same))
      (λ over. let hole : kind_of_block (own.blocks i) ≡ 0 = ap kind_of_block (lawful.bounded i over) in omega (arith, above, hole, same))
      (cases_lt i index_bound))
