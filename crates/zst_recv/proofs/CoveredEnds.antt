-- That END was covered, whatever the image: then the reading of all that was fed is complete.
use Rattle.std.proofs.Common.{◌≡◌, ◌⊎◌, inl, inr, ℕ, Bool, true, false, List, [], ◌∷◌, ◌++◌, refl, sym, ◌∙◌, subst, append_assoc}
use Rattle.zst_reader.specs.StandsFor.{StandsFor}
use Rattle.zst_reader.specs.declared.reader.Reader.{Reader}
use Rattle.zst_record.specs.Heads.{Covered}
use Rattle.zst_stream.specs.Reading.{FrontOf, Outcome, complete, reading, waiting}
use Rattle.zst_stream.proofs.Growth.{front}
use Rattle.zst_recv.specs.Stages.{is_end, is_live}
use Rattle.zst_recv.specs.declared.stage.Stage as coded
use Rattle.zst_recv.proofs.HandedRecords.{covered_front}
use Rattle.zst_recv.proofs.RecordOrder.{EndsBy, ends_last}

-- what is complete stays so, however the text goes on
pub complete_still : (whole read rest : List ℕ) → whole ≡ read ++ rest → (reading read).outcome ≡ complete → (reading whole).outcome ≡ complete
complete_still whole read rest is told = subst (λ (t : List ℕ). (reading t).outcome ≡ complete) (sym is) (by f.outcome)
  where
    f : FrontOf (reading read) (reading (read ++ rest))
    f = front read rest

    by : ((reading read).outcome ≡ waiting) ⊎ (((reading read).outcome ≡ (reading (read ++ rest)).outcome) × (f.others ≡ [])) → (reading (read ++ rest)).outcome ≡ complete
    by (inl waits) = let e : waiting ≡ complete = sym waits ∙ told in absurd (cc e)
    by (inr same) = sym same.0 ∙ told

-- where END is among the records all is covered
with_end : (handed rest : List Covered) (c : Covered) (outcome : Outcome) → is_end c.head ≡ true → EndsBy (handed ++ (c ∷ rest)) outcome → outcome ≡ complete
with_end [] rest c outcome end (inl last) = last.2
with_end [] rest c outcome end (inr goes) = absurd (let both : true ≡ false = sym end ∙ goes.0 in cc)
with_end (first ∷ handed) rest c outcome end (inl last) = last.2
with_end (first ∷ handed) rest c outcome end (inr goes) = with_end handed rest c outcome end goes.1

-- END was handed out
handed_end : (reader : Reader) (text : List ℕ) (handed : List Covered) (c : Covered) → StandsFor reader text (handed ++ c ∷ []) → is_end c.head ≡ true → (reading text).outcome ≡ complete
handed_end reader text handed c stands end =
    let f = covered_front reader text (handed ++ c ∷ []) stands in
    let is : (reading text).covered ≡ handed ++ (c ∷ f.0) = f.1 ∙ append_assoc handed (c ∷ []) f.0 in
    with_end handed f.0 c (reading text).outcome end (subst (λ (cs : List Covered). EndsBy cs (reading text).outcome) is (ends_last text))

by_live : (stage : coded.Stage) (P : Type 0) → (is_live stage ≡ true → P) → (is_live stage ≡ false → P) → P
by_live stage P lives over = by (is_live stage) refl
  where
    by : (b : Bool) → is_live stage ≡ b → P
    by true is = lives is
    by false is = over is

-- one record more was taken, and END alone ends a receive
pub over_more : (reader : Reader) (text : List ℕ) (handed : List Covered) (c : Covered) (old new : coded.Stage) → StandsFor reader text (handed ++ c ∷ [])
    → (is_live old ≡ true → is_live new ≡ false → is_end c.head ≡ true) → (is_live old ≡ false → (reading text).outcome ≡ complete) → is_live new ≡ false → (reading text).outcome ≡ complete
over_more reader text handed c old new stands ends before over =
    by_live old ((reading text).outcome ≡ complete) (λ lives. handed_end reader text handed c stands (ends lives over)) before

-- more of a piece was read
pub over_piece : (text front got : List ℕ) (old : coded.Stage) → (is_live old ≡ false → (reading (text ++ front)).outcome ≡ complete)
    → (is_live old ≡ true → (reading ((text ++ front) ++ got)).outcome ≡ complete) → (reading ((text ++ front) ++ got)).outcome ≡ complete
over_piece text front got old before later =
    by_live old ((reading ((text ++ front) ++ got)).outcome ≡ complete) later (λ over. complete_still ((text ++ front) ++ got) (text ++ front) got refl (before over))
