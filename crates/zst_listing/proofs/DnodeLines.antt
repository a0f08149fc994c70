-- The line of an object is told by its dnode.
use Rattle.std.specs.Prelude.{Option, Some, None, Ok}
use Rattle.std.proofs.Common.{◌≡◌, ℕ, ◌+◌, ◌<◌, List, [], ◌∷◌, ◌++◌, length, refl, sym, ap, ◌∙◌, arith}
use Rattle.std.proofs.lemmas.List.{append-nil, length-take-le}
use Rattle.zst_space.specs.FreeSectors.{FreeSectors}
use Rattle.zst_block.specs.Blocks.{Has}
use Rattle.zst_block.specs.declared.ptr.Ptr.{Ptr}
use Rattle.zst_block.proofs.BlocksLaws.{IsBlock-length}
use Rattle.zst_dnode.specs.Dnode.{DnodeFits}
use Rattle.zst_dnode.specs.declared.dnode.Dnode.{Dnode}
use Rattle.zst_model.specs.pools.AnswerLines.{object_line, object_lines, spill_word, word}
use Rattle.zst_model.specs.states.DatedState.{DatedState}
use Rattle.zst_model.specs.states.State.{number_bound}
use Rattle.zst_objset.specs.Dnodes.{IsThere, SpillIs}
use Rattle.zst_objset.specs.Searches.{FindsNext}
use Rattle.zst_tree.specs.Indices.{Blocks}
use Rattle.zst_listing.specs.Listing.{dnode_line, pointer_word}
use Rattle.zst_listing.proofs.ObjectWalk.{lines_from, no_lines, one_more}

module _ (image : List ℕ) (space : FreeSectors) where
  -- the pointer of a spill tells its length
  spill_told : (ptr : Ptr) (spill : Option (List ℕ)) → SpillIs (Has image space) ptr spill → spill_word spill ≡ pointer_word ptr
  spill_told ptr None is = rw is refl
  spill_told ptr (Some bytes) is = rw is.0 (ap word (IsBlock-length image ptr bytes is.1.block))

  -- the dnode of an object tells its line
  pub line_told : (state : DatedState) (k : ℕ) (dnode : Dnode) (there : IsThere (Has image space) state k dnode) → DnodeFits dnode → object_line k there.object ≡ dnode_line k dnode
  line_told state k dnode there fits =
      let is = there.is in
      let bonus : length there.object.attr.bonus ≡ dnode.bonus_len = ap length is.bonus_is ∙ length-take-le dnode.bonus_len dnode.bonus (omega (arith, fits.bonus.size, fits.bonus.inside)) in
      let spill = spill_told dnode.spill there.object.attr.spill is.spill_is in
      rw (is.type_is, is.bonus_type_is, is.size_is, is.end_is, sym bonus, sym spill) refl

-- what a search finds from a number on has the next line
pub line_added : (image : List ℕ) (space : FreeSectors) (state : DatedState) (before : List (List ℕ)) (from number : ℕ) (dnode : Dnode) → FindsNext (Has image space) state from (Ok (Some (number, dnode))) → DnodeFits dnode → number < number_bound
    → before ++ lines_from state from ≡ object_lines state → (before ++ dnode_line number dnode ∷ []) ++ lines_from state (number + 1) ≡ object_lines state
line_added image space state before from number dnode found fits less all =
    ap (λ (line : List ℕ). (before ++ line ∷ []) ++ lines_from state (number + 1)) (sym (line_told image space state number dnode found.is fits))
    ∙ one_more state before from number found.is.object found.from_on less found.none_before found.is.there all

-- where it finds nothing, all lines are told
pub walk_ends : (has : Blocks) (state : DatedState) (before : List (List ℕ)) (from : ℕ) → FindsNext has state from (Ok None) → before ++ lines_from state from ≡ object_lines state → before ≡ object_lines state
walk_ends has state before from found all = sym (append-nil before) ∙ ap (λ (l : List (List ℕ)). before ++ l) (sym (no_lines state from found)) ∙ all
