-- The last words of a redaction are one to sixteen names of snapshots.
use Rattle.std.proofs.Common.{◌≡◌, ℕ, ◌+◌, ◌-◌, ◌<◌, ◌≤◌, min, max, List, [], ◌∷◌, length, drop, arith}
use Rattle.std.proofs.lemmas.List.{length-replicate}
use Rattle.std.proofs.lemmas.List.Elements.{All-weaker}
use Rattle.std.proofs.lemmas.Slice.Zip.{AllZip-long}
use Rattle.std.specs.List.{All, AllZip}
use Rattle.zst_names.specs.Names.{IsSnapshot}
use Rattle.zst_line.specs.declared.kind.Kind.TheVariants as kinds
use Rattle.zst_line.specs.declared.word_slot.WordSlot.TheVariants.{Name}
use Rattle.zst_line.specs.Grammar.{last_snapshots, named, snapshot}
use Rattle.zst_line.specs.WordFaults.{Takes}
use Rattle.zst_line.proofs.NamesAtPlaces.{is_snapshot}
use Rattle.zst_line.proofs.WordWalk.{snapshots_taken}

-- these words are one to sixteen names of snapshots
pub record AreSnapshots (words : List (List ℕ)) : Type 0 where
  pub names : All IsSnapshot words
  pub some : 0 < length words
  pub few : length words ≤ 16

-- as many words as one to sixteen places are one to sixteen
as_few : (count words : ℕ) → count ≡ max 1 (min 16 (words - 3)) → words ≡ count + 3 → (0 < count) × (count ≤ 16)
as_few count words is long = (omega (arith, is, long), omega (arith, is, long))

pub redactions_named : (words : List (List ℕ)) → AllZip Takes (named kinds.Redact (length words)) words → AreSnapshots (drop 3 words)
redactions_named [] fits = absurd fits
redactions_named (a ∷ []) fits = absurd fits.1
redactions_named (a ∷ b ∷ []) fits = absurd fits.1.1
redactions_named (a ∷ b ∷ c ∷ words) fits =
    let most = last_snapshots kinds.Redact (length (a ∷ b ∷ c ∷ words)) in
    let long = AllZip-long Takes (named kinds.Redact (length (a ∷ b ∷ c ∷ words))) (a ∷ b ∷ c ∷ words) fits in
    let places = length-replicate most (Name snapshot) in
    let count : length words ≡ most = omega (arith, long, places) in
    let between = as_few (length words) (length (a ∷ b ∷ c ∷ words)) count (omega arith) in
    record {
      names = All-weaker (Takes (Name snapshot)) IsSnapshot is_snapshot words (snapshots_taken (a ∷ b ∷ c ∷ words) fits);
      some = between.0;
      few = between.1;
    }
