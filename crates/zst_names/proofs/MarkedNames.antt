-- Names that have a mark.
use Rattle.std.proofs.Common.{◌≡◌, ◌≢◌, sym, subst, ℕ, ◌+◌, ◌<◌, true, false, ◌==◌, List, [], ◌∷◌, ◌++◌, length, get_or, ap, ◌∙◌, inl, inr, arith, length-drop}
use Rattle.std.proofs.lemmas.Bool.{eqb-true, false≢true, and_parts}
use Rattle.std.proofs.lemmas.List.Sums.{split_at_first, passes_at_first}
use Rattle.std.proofs.lemmas.List.Elements.{recursion_from_All}
use Rattle.std.proofs.lemmas.Bool.Decides.{eqb_tells}
use Rattle.std.specs.List.{position_or_len, list_all, onto_first, AllByRecursion}
use Rattle.zst_names.specs.Marks.{IsMark}
use Rattle.zst_names.specs.Names.{is_component_byte, IsComponent, IsDataset, parts, dataset_of, component_of}
use Rattle.zst_names.proofs.NameEnds.{before_first-skip, after_first-skip}
use Rattle.zst_names.proofs.Front.{dataset_at_mark, component_at_mark}

-- a text with a component behind the mark is its parts, joined by the mark
pub joined : (mark : ℕ) (text : List ℕ) → IsComponent (component_of mark text) → text ≡ dataset_of mark text ++ mark ∷ component_of mark text
joined mark text h =
    let place = position_or_len (λ b. b == mark) text in
    let below : place < length text = omega (arith, h.some, length-drop (place + 1) text) in
    let is_there : get_or text place 0 ≡ mark = eqb-true (get_or text place 0) mark (passes_at_first (λ b. b == mark) text 0 below) in
    split_at_first (λ b. b == mark) text 0 below ∙ ap (λ b. dataset_of mark text ++ (b ∷ component_of mark text)) is_there

-- a mark isn't the digit 0
pub mark_is_no_digit : (mark : ℕ) → IsMark mark → mark ≢ 48
unfolding is_component_byte
mark_is_no_digit mark m same = false≢true (sym (subst (λ byte. is_component_byte byte ≡ false) same m.other))

-- parts of component bytes
abbrev pub IsPlain : List ℕ → Type 0
IsPlain part = list_all is_component_byte part ≡ true

pub plain_parts : (ps : List (List ℕ)) → AllByRecursion IsComponent ps → AllByRecursion IsPlain ps
plain_parts [] h = tt
plain_parts (p ∷ ps) h = (h.0.bytes, plain_parts ps h.1)

pub plain_onto : (byte : ℕ) (ps : List (List ℕ)) → AllByRecursion IsPlain (onto_first byte ps) → (is_component_byte byte ≡ true) × AllByRecursion IsPlain ps
plain_onto byte [] h = ((and_parts (is_component_byte byte) true h.0).0, tt)
plain_onto byte (p ∷ ps) h = let both = and_parts (is_component_byte byte) (list_all is_component_byte p) h.0 in (both.0, (both.1, h.1))

-- the first byte of such parts is no mark, and the others are such parts
plain_byte : (mark byte : ℕ) (text : List ℕ) → IsMark mark → AllByRecursion IsPlain (parts (byte ∷ text)) → ((byte == mark) ≡ false) × AllByRecursion IsPlain (parts text)
plain_byte mark byte text m h = elim (eqb_tells byte 47) [
  | inl e ↦ (rw e.1 m.slash, (rw e.0 at h).1)
  | inr e ↦
      let plain = plain_onto byte (parts text) (rw e.0 at h) in
      elim (eqb_tells byte mark) as (λ _. ((byte == mark) ≡ false) × AllByRecursion IsPlain (parts text)) [
        | inl k ↦ absurd (cc (plain.0, m.other, ap is_component_byte k.1))
        | inr k ↦ (k.0, plain.1)
      ]
]

pub dataset_of-join : (mark : ℕ) (dataset component : List ℕ) → IsMark mark → AllByRecursion IsPlain (parts dataset) → dataset_of mark (dataset ++ mark ∷ component) ≡ dataset
dataset_of-join mark [] component m h = dataset_at_mark mark component
dataset_of-join mark (byte ∷ dataset) component m h =
    let first = plain_byte mark byte dataset m h in
    before_first-skip (λ b. b == mark) byte (dataset ++ mark ∷ component) first.0 ∙ ap (λ bs. byte ∷ bs) (dataset_of-join mark dataset component m first.1)

pub component_of-join : (mark : ℕ) (dataset component : List ℕ) → IsMark mark → AllByRecursion IsPlain (parts dataset) → component_of mark (dataset ++ mark ∷ component) ≡ component
component_of-join mark [] component m h = component_at_mark mark component
component_of-join mark (byte ∷ dataset) component m h =
    let first = plain_byte mark byte dataset m h in
    after_first-skip (λ b. b == mark) byte (dataset ++ mark ∷ component) first.0 ∙ component_of-join mark dataset component m first.1

-- a dataset name, the mark and a component make a name of these parts
pub record IsJoined (mark : ℕ) (dataset component : List ℕ) : Type 0 where
  pub dataset_back : dataset_of mark (dataset ++ mark ∷ component) ≡ dataset
  pub component_back : component_of mark (dataset ++ mark ∷ component) ≡ component

pub join_is_name : (mark : ℕ) (dataset component : List ℕ) → IsMark mark → IsDataset dataset → IsJoined mark dataset component
join_is_name mark dataset component m h =
    let plain = plain_parts (parts dataset) (recursion_from_All IsComponent (parts dataset) h.components) in
    record { dataset_back = dataset_of-join mark dataset component m plain; component_back = component_of-join mark dataset component m plain }
