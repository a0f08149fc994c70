-- What a list of the objects of a set answers.
use Rattle.std.specs.Prelude.{◌≡◌, ℕ, ◌==◌, if◌then◌else◌, List, [], ◌∷◌, codes, Result}
use Rattle.std.specs.List.{concat}
use Rattle.zst_block.specs.declared.ptr.Ptr.{Ptr}
use Rattle.zst_dnode.specs.declared.dnode.Dnode.{Dnode}
use Rattle.zst_model.specs.states.DatedState.{DatedState}
use Rattle.zst_model.specs.pools.AnswerLines.{object_lines, word}
use Rattle.zst_tree.specs.Faults.{GivesOrTells}
use Rattle.zst_tree.specs.declared.or_memory.OrMemory.{OrMemory}
use Rattle.zst_objset.specs.Answers.{IsDiskFault}
use Rattle.zst_objset.specs.declared.fault.ObjFault.{ObjFault}

-- the lines of a state's objects are told, or the disk or the memory fails
abbrev pub ListsObjects : DatedState → Result (List (List ℕ)) (OrMemory ObjFault) → Type 0
ListsObjects state result = GivesOrTells (λ lines. lines ≡ object_lines state) IsDiskFault result

-- the length of the block that a spill pointer names, or none
abbrev pub pointer_word : Ptr → List ℕ
pointer_word spill = if spill.kind == 0 then codes " none" else word spill.length

-- the line of an object, by its dnode
abbrev pub dnode_line : ℕ → Dnode → List ℕ
dnode_line k dnode = concat (
    codes "object" ∷ word k ∷ codes " type" ∷ word dnode.type_ ∷ codes " size" ∷ word dnode.block_size
    ∷ codes " bonustype" ∷ word dnode.bonus_type ∷ codes " bonus" ∷ word dnode.bonus_len
    ∷ codes " spill" ∷ pointer_word dnode.spill ∷ codes " end" ∷ word dnode.end ∷ [])
