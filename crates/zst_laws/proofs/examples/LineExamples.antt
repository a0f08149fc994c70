-- What `list` and `read` answer.
use Rattle.std.proofs.Common.{◌≡◌, ℕ, suc, pred, ◌<◌, ◌≤◌, List, [], ◌∷◌, flat_map, refl, ap, ◌∙◌, arith, codes, ◌==◌, ne_eqb}
use Rattle.std.specs.Fmt.{digits}
use Rattle.std.specs.List.{concat}
use Rattle.hex.specs.Hex.{encode_with}
use Rattle.std.proofs.lemmas.Bool.{cond-false}
use Rattle.zst_model.specs.states.State.{past_last, index_bound, number_bound}
use Rattle.zst_model.specs.sends.Items.{rising}
use Rattle.zst_model.specs.pools.AnswerLines.{pool_lines, object_lines, object_line, line_of, word}
use Rattle.zst_model.specs.pools.Pool.{inserted}
use Rattle.zst_model.specs.pools.Step.{stepped, answered}
use Rattle.zst_model.specs.refusals.Texts.{guid_text}
use Rattle.zst_laws.specs.LineExample.{whole_blocks, whole_object, redacted_fifth, two_objects, pool_of, PoolIsListed, ObjectsAreListed, BlocksAreRead}
use Rattle.zst_laws.specs.Meanings.{object_of}
use Rattle.zst_laws.proofs.examples.OneObject.{end_is}
use Rattle.zst_laws.proofs.examples.StepExamples.{none_given, rising_first}

pub pool_listed : PoolIsListed
unfolding stepped pool_lines inserted guid_text encode_with digits
pool_listed held now header = refl

pub blocks_read : BlocksAreRead
unfolding stepped encode_with index_bound
blocks_read held now = (refl, refl, refl)

index_far : 4 < index_bound
unfolding index_bound
index_far = omega arith

pub whole_end : past_last whole_blocks index_bound ≡ 2
whole_end = end_is whole_blocks 1 index_bound (omega (arith, index_far)) refl (λ i l. cond-false (i == 1) _ _ (ne_eqb i 1 (λ e. omega (arith, e))))

fifth_end : past_last redacted_fifth index_bound ≡ 5
fifth_end = end_is redacted_fifth 4 index_bound index_far refl (λ i l. cond-false (i == 4) _ _ (ne_eqb i 4 (λ e. omega (arith, e))))

all_but_three : pred number_bound ≡ suc (suc (suc 281474976710652))
unfolding number_bound
all_but_three = refl

line : ℕ → List (List ℕ)
line k = line_of (object_line k) (two_objects.state k)

none_behind : (k : ℕ) → 4 ≤ k → line k ≡ []
unfolding line
none_behind k l =
    ap (line_of (object_line k)) (cond-false (k == 1) _ _ (ne_eqb k 1 (λ e. omega (arith, e))) ∙ cond-false (k == 3) _ _ (ne_eqb k 3 (λ e. omega (arith, e))))

-- the lines of the two objects, with their ends
abbrev whole_line : ℕ → List ℕ
whole_line end = concat (
    codes "object" ∷ word 1 ∷ codes " type" ∷ word 20 ∷ codes " size" ∷ word 1024 ∷ codes " bonustype" ∷ word 44
    ∷ codes " bonus" ∷ word 3 ∷ codes " spill" ∷ word 512 ∷ codes " end" ∷ word end ∷ [])

abbrev fifth_line : ℕ → List ℕ
fifth_line end = concat (
    codes "object" ∷ word 3 ∷ codes " type" ∷ word 19 ∷ codes " size" ∷ word 512 ∷ codes " bonustype" ∷ word 0
    ∷ codes " bonus" ∷ word 0 ∷ codes " spill" ∷ codes " none" ∷ codes " end" ∷ word end ∷ [])

whole_text : whole_line 2 ≡ codes "object 1 type 20 size 1024 bonustype 44 bonus 3 spill 512 end 2"
unfolding digits
whole_text = refl

fifth_text : fifth_line 5 ≡ codes "object 3 type 19 size 512 bonustype 0 bonus 0 spill none end 5"
unfolding digits
fifth_text = refl

two_lines : object_lines two_objects ≡ object_line 1 whole_object ∷ object_line 3 (object_of 19 512 redacted_fifth) ∷ []
unfolding object_lines line
two_lines =
    ap (λ n. flat_map line (rising 1 n)) all_but_three
    ∙ rising_first line 1 (suc (suc 281474976710652))
    ∙ ap (λ l. object_line 1 whole_object ∷ l) (rising_first line 2 (suc 281474976710652) ∙ rising_first line 3 281474976710652
    ∙ ap (λ l. object_line 3 (object_of 19 512 redacted_fifth) ∷ l) (none_given line 4 281474976710652 none_behind))

pub objects_listed : ObjectsAreListed
unfolding stepped
objects_listed held now =
    ap (answered (pool_of two_objects)) (two_lines
    ∙ ap (λ end. whole_line end ∷ fifth_line (past_last redacted_fifth index_bound) ∷ []) whole_end
    ∙ ap (λ end. whole_line 2 ∷ fifth_line end ∷ []) fifth_end
    ∙ ap (λ text. text ∷ fifth_line 5 ∷ []) whole_text
    ∙ ap (λ text. codes "object 1 type 20 size 1024 bonustype 44 bonus 3 spill 512 end 2" ∷ text ∷ []) fifth_text)
