use Rattle.std.proofs.Common.{◌≡◌, ℕ, ◌+◌, ◌-◌, ◌<◌, ◌≤◌, List, ◌++◌, length, take, drop, refl, ap, ◌∙◌, arith, append_assoc, length-append}
use Rattle.std.proofs.Math.Seq.{take-append-add}
use Rattle.std.proofs.lemmas.List.{length-drop, length-take, length-take-le, take-append-le}
use Rattle.std.proofs.lemmas.List.Elements.{All-from_get_or}
use borrow.Rule.Slice.PartMut.{put_mid, post_of}
use Rattle.zst_run.proofs.receive.read_piece.Goals as goal

-- the bytes ys were written from a place on, and the first of them are taken in
took : (xs ys : List ℕ) (count got k : ℕ) → count ≤ length xs → got ≤ length ys → take (count + got) (put_mid count k xs ys) ≡ take count xs ++ take got ys
took xs ys count got k within most =
    let long : length (take count xs) ≡ count = length-take-le count xs within in
    let at : count + got ≡ length (take count xs) + got = omega (arith, long) in
    ap (λ (j : ℕ). take j (take count xs ++ (ys ++ post_of count k xs))) at
    ∙ take-append-add (take count xs) (ys ++ post_of count k xs) got
    ∙ ap (λ (l : List ℕ). take count xs ++ l) (take-append-le got ys (post_of count k xs) most)

put_len : (xs ys : List ℕ) (count k : ℕ) → count ≤ length xs → k ≡ length xs - count → length ys ≡ k → length (put_mid count k xs ys) ≡ length xs
put_len xs ys count k within is size =
    omega (arith, is, size, length-take-le count xs within, length-append (take count xs) (ys ++ post_of count k xs), length-append ys (post_of count k xs), length-drop k (drop count xs), length-drop count xs)

gave_more : (first mid last front more : List ℕ) → mid ≡ first ++ front → last ≡ mid ++ more → last ≡ first ++ (front ++ more)
gave_more first mid last front more before after = after ∙ ap (λ (t : List ℕ). t ++ more) before ∙ append_assoc first front more

pub reads-preserved : goal.reads-preserved
reads-preserved g c =
    let i = c.reads.invariant in
    let e = c.in-Ok.ensures in
    let count = c.reads.count in
    let got = c.in-Ok.got in
    let room = c.reads.room in
    let new = c.read.new.into in
    let within = i.within in
    let bound : got ≤ length new = e.bound.0 in
    let size : length new ≡ length room - count = omega (arith, c.read.auto.into, length-take (length room - count) (drop count room), length-drop count room) in
    record {
      within = let same = put_len room new count (length room - count) within refl size in omega (arith, same, bound, size);
      gave = rw (took room new count got (length room - count) within bound) (gave_more _ _ _ (take count room) (take got new) i.gave e.bytes.0);
      none = e.count_stays ∙ i.none;
      bytes = All-from_get_or (λ (byte : ℕ). byte < 256) (put_mid count (length room - count) room new) 0 (λ i less. (c.type_inv.room i).fits);
      size = put_len room new count (length room - count) within refl size ∙ i.size;
    }
