use Rattle.std.proofs.Common.{length, refl, ap, [], ◌∷◌, arith, length-append}
use Rattle.std.proofs.lemmas.List.Elements.{All-append, All-cons, All-nil}
use Rattle.zst_bytes.specs.Words.{word}
use Rattle.zst_bytes.proofs.BytesLaws.{length-number_bytes}
use Rattle.zst_space.specs.declared.space.Extent.{Extent}
use Rattle.zst_extents.specs.ExtentReads.{FitsWords}
use Rattle.zst_extents.proofs.Spelled.{bytes_none, read_more}
use Rattle.zst_extents.proofs.spelling.decode.Goals as goal

pub loop-k-init : goal.loop-k-init
loop-k-init c = record { spelled = rw (c.new-extents.ensures.items, bytes_none) refl; long = omega (arith, c.requires); fit = rw c.new-extents.ensures.items (All-nil FitsWords) }

pub split_word-count-requires : goal.split_word-count-requires
split_word-count-requires c =
    let first = c.split_word-first.result in
    omega (arith, ap length c.split_word-first.ensures.found, length-append (word first.0) first.1.now, length-number_bytes 8 first.0, c.loop-k.invariant.long, c.loop-k-test.true)

pub loop-k-preserved : goal.loop-k-preserved
loop-k-preserved c =
    let inv = c.loop-k.invariant in
    let first = c.split_word-first in
    let count = c.split_word-count in
    let extent : Extent = record { first = first.result.0; count = count.result.0 } in
    record {
      spelled = rw c.in_ok-push.ensures.items (read_more c.args.bytes.now c.loop-k.rest.now first.result.1.now count.result.1.now c.loop-k.extents.items extent inv.spelled first.ensures.found count.ensures.found);
      long =
          omega (
            arith,
            ap length first.ensures.found,
            length-append (word first.result.0) first.result.1.now,
            length-number_bytes 8 first.result.0,
            ap length count.ensures.found,
            length-append (word count.result.0) count.result.1.now,
            length-number_bytes 8 count.result.0,
            inv.long,
          );
      fit = rw c.in_ok-push.ensures.items
          (All-append FitsWords c.loop-k.extents.items (extent ∷ []) inv.fit (All-cons FitsWords extent [] (record { first = first.ensures.small; count = count.ensures.small }) (All-nil FitsWords)));
    }
