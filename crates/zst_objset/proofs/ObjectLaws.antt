-- What an OBJECT makes of what stands at a number, and the dnode that it makes.
use Rattle.std.proofs.Common.{◌≡◌, ℕ, zero, suc, ◌-◌, ◌^◌, ◌<◌, ◌≤◌, max, ◌==◌, nat_lt, Bool, true, false, not, List, length, refl, sym, subst, arith, if◌then◌else◌, Option, Some, None, Result, Ok, Err, eqb-true}
use Rattle.std.specs.Prelude.{IfSome, IsTrue, replicate}
use Rattle.std.proofs.lemmas.Bool.Decides.{nat_tests}
use Rattle.std.proofs.lemmas.List.{drop_at, length-append, length-replicate, take_at}
use Rattle.std.proofs.lemmas.List.Elements.{All-replicate}
use Rattle.zst_block.specs.Ptr.{PtrFits, hole_of, is_lawful}
use Rattle.zst_block.specs.declared.ptr.Ptr.{Ptr}
use Rattle.zst_dnode.specs.Dnode.{DnodeFits, IsBonusField, is_root, is_spill}
use Rattle.zst_dnode.specs.declared.dnode.Dnode.{Dnode}
use Rattle.zst_dnode.specs.declared.slot.Slot.TheVariants.{There}
use Rattle.zst_model.specs.declared.refusals.faults.Quantity.TheVariants as quantities
use Rattle.zst_model.specs.declared.refusals.refusal.Refusal.{Refusal}
use Rattle.zst_model.specs.declared.refusals.refusal.Refusal.TheVariants as refusals
use Rattle.zst_model.specs.declared.states.attr.ObjectHead.{ObjectHead}
use Rattle.zst_model.specs.declared.states.item.Change.TheVariants.{Put}
use Rattle.zst_model.specs.pools.Step.{filled, in_numbers}
use Rattle.zst_model.specs.states.AppliedItems.{apply_change, attr_with}
use Rattle.zst_model.specs.states.DatedState.{DatedState, makes_anew}
use Rattle.zst_model.specs.states.State.{Block, Hole, Object, IsBonus, IsHead, index_bound, largest_bonus, is_number, is_odd_size, number_bound, past_last}
use Rattle.zst_tree.specs.Indices.{Blocks, Map, TreeIs}
use Rattle.zst_objset.specs.KeptBlocks.{kept_blocks, kept_spill, no_blocks}
use Rattle.zst_objset.specs.Dnodes.{BlockIs, DnodeAt, DnodeIs, ObjectIs, SpillIs, tree_of}
use Rattle.zst_objset.specs.SlotPuts.{MakesDnode}
use Rattle.zst_objset.specs.Sets.{date_in}
use Rattle.zst_objset.specs.declared.allocation.BlockTree.{BlockTree}
use Rattle.zst_objset.proofs.SetLaws.{TreeIs-hole}

-- a number below the bound is no limit, and E23 tells the bound of any other
pub in_numbers-within : {A : Type 0} (past : ℕ) (rest : Result A Refusal) → past ≤ 2 ^ 48 → in_numbers past rest ≡ rest
unfolding number_bound
in_numbers-within past rest le = let test : nat_lt 281474976710656 past ≡ false = grind (arith, nat_tests) in rw test refl

pub in_numbers-over : {A : Type 0} (past : ℕ) (rest : Result A Refusal) → 2 ^ 48 < past → in_numbers past rest ≡ Err (refusals.Limit quantities.Object 281474976710656)
unfolding number_bound
in_numbers-over past rest over = let test : nat_lt 281474976710656 past ≡ true = grind (arith, nat_tests) in rw test refl

-- the object that stands there then: its blocks, and its spill
abbrev blocks_put : ℕ → Option Object → ℕ → Block
blocks_put size None = λ i. Hole
blocks_put size (Some object) = if object.attr.block_size == size then object.blocks else λ i. Hole

abbrev spill_put : Bool → Option Object → Option (List ℕ)
spill_put keep_spill None = None
spill_put keep_spill (Some object) = if keep_spill then object.attr.spill else None

abbrev object_with : ObjectHead → List ℕ → Bool → Option Object → Object
object_with head bonus keep_spill was = record { attr = attr_with head bonus (spill_put keep_spill was); blocks = blocks_put head.block_size was }

put_makes : (head : ObjectHead) (bonus : List ℕ) (keep_spill : Bool) (was : Option Object) → apply_change (Put head bonus keep_spill 0) was ≡ Ok (Some (object_with head bonus keep_spill was))
unfolding apply_change
put_makes head bonus keep_spill None = refl
put_makes head bonus keep_spill (Some object) = refl

-- where each block is a hole the end is 0
past_last-holes : (n : ℕ) → past_last (λ i. Hole) n ≡ 0
unfolding past_last
past_last-holes zero = refl
past_last-holes (suc n) = past_last-holes n

-- a tree is that of these blocks with these dates, and an end theirs
record AreBlocks (has : Blocks) (kept : BlockTree) (blocks : ℕ → Block) (dates : ℕ → ℕ) : Type 0 where
  map : Map
  tree : TreeIs has kept.tree map
  end_is : kept.end ≡ past_last blocks index_bound
  blocks_are : (i : ℕ) → i < index_bound → BlockIs has (map i) (blocks i)
  dates_are : (i : ℕ) → i < index_bound → (map i).number ≡ dates i

module _ (has : Blocks) (size number date : ℕ) (dates : ℕ → ℕ) where
  are_holes : AreBlocks has (no_blocks number) (λ i. Hole) (λ i. number)
  are_holes = record { map = λ i. hole_of number; tree = TreeIs-hole has number; end_is = sym (past_last-holes index_bound); blocks_are = λ i less. refl; dates_are = λ i less. refl }

  -- with an equal block size or without
  by_size : (object : Object) (dnode : Dnode) (map : Map) → ObjectIs has dnode object date dates map → (equal : Bool)
      → AreBlocks has (if equal then record { tree = tree_of dnode; end = dnode.end } else no_blocks number) (if equal then object.blocks else λ i. Hole) (λ i. if not equal then number else dates i)
  by_size object dnode map is true = record { map = map; tree = is.tree; end_is = is.end_is; blocks_are = is.blocks; dates_are = is.index_dates }
  by_size object dnode map is false = are_holes

  are_kept : (head : ObjectHead) (was : Option Object) (found : Option Dnode) → head.block_size ≡ size → DnodeAt has was date dates found
      → AreBlocks has (kept_blocks size number found) (blocks_put size was) (λ i. if makes_anew head was then number else dates i)
  are_kept head None None same at = are_holes
  are_kept head None (Some dnode) same at = absurd at
  are_kept head (Some object) None same at = absurd at
  are_kept head (Some object) (Some dnode) same at = rw (same, at.1.size_is) (by_size object dnode at.0 at.1 (object.attr.block_size == size))

  spill_kept : (keep_spill : Bool) (was : Option Object) (found : Option Dnode) → DnodeAt has was date dates found → SpillIs has (kept_spill keep_spill number found) (spill_put keep_spill was)
  spill_kept keep_spill None None at = refl
  spill_kept keep_spill None (Some dnode) at = absurd at
  spill_kept keep_spill (Some object) None at = absurd at
  spill_kept true (Some object) (Some dnode) at = at.1.spill_is
  spill_kept false (Some object) (Some dnode) at = refl

-- a tree and an end that a dnode of this block size may have
record BlocksFit (size : ℕ) (kept : BlockTree) : Type 0 where
  levels : kept.tree.levels ≤ 7
  past : kept.tree.past < 2 ^ 64
  end : kept.end ≤ index_bound
  odd : is_odd_size size ≡ true → kept.end ≤ 1
  root_fits : PtrFits kept.tree.root
  root_lawful : IsTrue (is_lawful kept.tree.root)
  root : IsTrue (is_root kept.tree.levels size kept.tree.root)

-- a spill pointer that a dnode may have
record SpillFits (spill : Ptr) : Type 0 where
  fits : PtrFits spill
  lawful : IsTrue (is_lawful spill)
  kind : IsTrue (is_spill spill)

module _ (size number : ℕ) (small : number < 2 ^ 64) where
  hole_fits : PtrFits (hole_of number)
  hole_fits = record { kind = omega arith; level = omega arith; length = omega arith; sector = omega arith; number = small; sum = record { a = omega arith; b = omega arith; c = omega arith; d = omega arith } }

  holes_fit : BlocksFit size (no_blocks number)
  holes_fit = record { levels = omega arith; past = small; end = omega arith; odd = λ odd. omega arith; root_fits = hole_fits; root_lawful = refl; root = refl }

  fit_by_size : (dnode : Dnode) → DnodeFits dnode → (equal : Bool) → (dnode.block_size == size) ≡ equal → BlocksFit size (if equal then record { tree = tree_of dnode; end = dnode.end } else no_blocks number)
  fit_by_size dnode fits true test = subst (λ (n : ℕ). BlocksFit n (record { tree = tree_of dnode; end = dnode.end })) (eqb-true dnode.block_size size test)
      (record { levels = fits.levels; past = fits.past; end = fits.end; odd = fits.odd; root_fits = fits.root_fits; root_lawful = fits.root_lawful; root = fits.root })
  fit_by_size dnode fits false test = holes_fit

  blocks_fit : (found : Option Dnode) → IfSome found DnodeFits → BlocksFit size (kept_blocks size number found)
  blocks_fit None fits = holes_fit
  blocks_fit (Some dnode) fits = fit_by_size dnode fits (dnode.block_size == size) refl

  no_spill_fits : SpillFits (hole_of number)
  no_spill_fits = record { fits = hole_fits; lawful = refl; kind = refl }

  spill_fits : (keep_spill : Bool) (found : Option Dnode) → IfSome found DnodeFits → SpillFits (kept_spill keep_spill number found)
  spill_fits keep_spill None fits = no_spill_fits
  spill_fits true (Some dnode) fits = record { fits = fits.spill_fits; lawful = fits.spill_lawful; kind = fits.spill }
  spill_fits false (Some dnode) fits = no_spill_fits

-- a bonus and zeros behind it
bonus_fits : (bonus : List ℕ) → length bonus ≤ largest_bonus → IsBonusField (length bonus) (filled 320 bonus)
bonus_fits bonus few = record {
  size = omega (arith, length-append bonus (replicate (320 - length bonus) 0), length-replicate {A = ℕ} (320 - length bonus) 0);
  inside = few;
  behind = rw (drop_at bonus (replicate (320 - length bonus) 0) (length bonus) refl) (All-replicate (λ (byte : ℕ). byte ≡ 0) (320 - length bonus) 0 refl);
}

-- the dnode of this head and bonus
abbrev pub dnode_with : ObjectHead → List ℕ → BlockTree → Ptr → ℕ → Dnode
dnode_with head bonus kept spill number = record {
  type_ = head.type_;
  bonus_type = head.bonus_type;
  block_size = head.block_size;
  bonus_len = length bonus;
  date = number;
  levels = kept.tree.levels;
  past = kept.tree.past;
  end = kept.end;
  root = kept.tree.root;
  spill = spill;
  bonus = filled 320 bonus;
}

dnode_fits : (head : ObjectHead) (bonus : List ℕ) (kept : BlockTree) (spill : Ptr) (number : ℕ) → IsHead head → length bonus ≤ largest_bonus → number < 2 ^ 64 → BlocksFit head.block_size kept → SpillFits spill → DnodeFits (dnode_with head bonus kept spill number)
dnode_fits head bonus kept spill number is_head few small blocks fits = record {
  head = is_head;
  bonus = bonus_fits bonus few;
  date = small;
  levels = blocks.levels;
  past = blocks.past;
  end = blocks.end;
  odd = blocks.odd;
  root_fits = blocks.root_fits;
  root_lawful = blocks.root_lawful;
  root = blocks.root;
  spill_fits = fits.fits;
  spill_lawful = fits.lawful;
  spill = fits.kind;
}

pub put_fits : (number : ℕ) (head : ObjectHead) (bonus : List ℕ) (keep_spill : Bool) (found : Option Dnode) → IsHead head → length bonus ≤ largest_bonus → number < 2 ^ 64 → IfSome found DnodeFits
    → DnodeFits (dnode_with head bonus (kept_blocks head.block_size number found) (kept_spill keep_spill number found) number)
put_fits number head bonus keep_spill found is_head few small fits =
    dnode_fits head bonus _ _ number is_head few small (blocks_fit head.block_size number small found fits) (spill_fits head.block_size number small keep_spill found fits)

-- the change makes the object, and the dnode is that object's
pub put_makes_dnode : (has : Blocks) (number k : ℕ) (head : ObjectHead) (bonus : List ℕ) (keep_spill : Bool) (state : DatedState) (found : Option Dnode)
    → is_number k ≡ true → IsHead head → IsBonus bonus → number < 2 ^ 64 → IfSome found DnodeFits → DnodeIs has state k found
    → MakesDnode has number k (Put head bonus keep_spill 0) state (dnode_with head bonus (kept_blocks head.block_size number found) (kept_spill keep_spill number found) number)
put_makes_dnode has number k head bonus keep_spill state found is_one is_head few small fits at =
    let kept = are_kept has head.block_size number (state.number_date k) (state.index_date k) head (state.state k) found refl at in
    record {
      object = object_with head bonus keep_spill (state.state k);
      made = put_makes head bonus keep_spill (state.state k);
      lawful = (is_one, (is_head, few));
      fits = put_fits number head bonus keep_spill found is_head few.0 small fits;
      map = kept.map;
      is = record {
        type_is = refl;
        bonus_type_is = refl;
        size_is = refl;
        bonus_is = sym (take_at bonus (replicate (320 - length bonus) 0) (length bonus) refl);
        date_is = refl;
        end_is = kept.end_is;
        spill_is = spill_kept has head.block_size number (state.number_date k) (state.index_date k) keep_spill (state.state k) found at;
        tree = kept.tree;
        blocks = kept.blocks_are;
        index_dates = kept.dates_are;
      };
    }

-- it tells no date past the commit's number, where what was there tells none
kept_dated : (number : ℕ) (dnode : Dnode) (equal : Bool) (kept : BlockTree) → kept ≡ (if equal then record { tree = tree_of dnode; end = dnode.end } else no_blocks number) → date_in (There dnode) ≤ number → max kept.tree.past kept.tree.root.number ≤ number
kept_dated number dnode true kept is early = rw is (omega (arith, early))
kept_dated number dnode false kept is early = rw is (omega arith)

pub put_dated : (number : ℕ) (head : ObjectHead) (bonus : List ℕ) (keep_spill : Bool) (found : Option Dnode) → IfSome found (λ dnode. date_in (There dnode) ≤ number)
    → date_in (There (dnode_with head bonus (kept_blocks head.block_size number found) (kept_spill keep_spill number found) number)) ≤ number
put_dated number head bonus keep_spill None early = omega arith
put_dated number head bonus keep_spill (Some dnode) early = omega (arith, kept_dated number dnode (dnode.block_size == head.block_size) (kept_blocks head.block_size number (Some dnode)) refl early)
