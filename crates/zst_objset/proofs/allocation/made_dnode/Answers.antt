use Rattle.std.proofs.Common.{◌^◌, ◌<◌, arith}
use Rattle.std.proofs.lemmas.List.Elements.{All-from_get_or}
use Rattle.zst_block.specs.Blocks.{Has}
use Rattle.zst_objset.proofs.ObjectLaws.{put_fits, put_makes_dnode}
use Rattle.zst_objset.proofs.ObjectLaws.{put_dated}
use Rattle.std.proofs.Common.{◌≡◌, ◌==◌, inl, inr, ℕ, Bool, true, false, if◌then◌else◌, refl}
use Rattle.std.specs.Prelude.{Option, Some, None}
use Rattle.zst_dnode.specs.declared.dnode.Dnode.{Dnode}
use Rattle.zst_objset.specs.Dnodes.{tree_of}
use Rattle.zst_objset.specs.KeptBlocks.{KeepsTree, kept_blocks, no_blocks}
use Rattle.zst_objset.specs.declared.allocation.BlockTree.{BlockTree}
use Rattle.zst_objset.proofs.allocation.made_dnode.Goals as goal

-- the blocks of what was there, or none
abbrev kept_if : ℕ → Dnode → Bool → BlockTree
kept_if number dnode test = if test then record { tree = tree_of dnode; end = dnode.end } else no_blocks number

kept_by : (number : ℕ) (dnode made : Dnode) (test : Bool) → made.levels ≡ (kept_if number dnode test).tree.levels → made.root ≡ (kept_if number dnode test).tree.root → KeepsTree (Some dnode) made
kept_by number dnode made true levels root = inr (levels, root)
kept_by number dnode made false levels root = inl levels

-- they stand in the tree that was there, or in none
kept_tree : (size number : ℕ) (was : Option Dnode) (made : Dnode) → made.levels ≡ (kept_blocks size number was).tree.levels → made.root ≡ (kept_blocks size number was).tree.root → KeepsTree was made
kept_tree size number None made levels root = levels
kept_tree size number (Some dnode) made levels root = kept_by number dnode made (dnode.block_size == size) levels root

pub returns-clause-made : goal.returns-clause-made
returns-clause-made c = λ image space object state is_one is.
    rw (c.kept_blocks-blocks.ensures, c.kept_spill.ensures, c.bonus_field.ensures)
    (put_makes_dnode (Has image space) c.args.number object c.args.head c.args.bonus.now c.args.keep_spill state c.args.was.now is_one c.requires.head (c.requires.bonus, All-from_get_or (λ byte. byte < 2 ^ 8) c.args.bonus.now 0 (λ k within. (c.type_inv.bonus k).fits)) (omega arith) c.requires.ranges is)

pub returns-clause-fits : goal.returns-clause-fits
returns-clause-fits c =
    rw (c.kept_blocks-blocks.ensures, c.kept_spill.ensures, c.bonus_field.ensures)
    (put_fits c.args.number c.args.head c.args.bonus.now c.args.keep_spill c.args.was.now c.requires.head c.requires.bonus (omega arith) c.requires.ranges)

pub returns-clause-tree : goal.returns-clause-tree
returns-clause-tree c = rw c.kept_blocks-blocks.ensures (kept_tree c.args.head.block_size c.args.number c.args.was.now _ refl refl)

pub returns-clause-dated : goal.returns-clause-dated
returns-clause-dated c = λ was.
    rw c.kept_blocks-blocks.ensures
    (put_dated c.args.number c.args.head c.args.bonus.now c.args.keep_spill c.args.was.now was)
