use Rattle.std.proofs.Common.{rules, ◌≡◌, Some, ◌++◌, ◌∷◌, [], length, ◌<◌, ◌^◌, arith, ap, refl, ◌∙◌, length-append}
use Rattle.std.specs.List.{flat_map}
use Rattle.zst_bytes.specs.Words.{word}
use Rattle.zst_model.specs.fields.Guids.{IsGuidSet}
use Rattle.zst_dir.proofs.Guids.{words_parts, IsGuidSet-front}
use Rattle.zst_dir.proofs.ReadFronts.{stands_first, stands_next, stands_more, stands_last, fits_next}
use Rattle.zst_dir.proofs.fields.read_guids.Goals as goal

pub returns-in_err-count : goal.returns-in_err-count
returns-in_err-count c = record {
  fits = search rules;
  exact = λ value rest guids is.
      absurd (cc (c.in_err-count.ensures.exact (length value) (flat_map word value ++ rest) (omega (arith, guids.few)) (is ∙ words_parts value rest)).0);
}

pub loop-init : goal.loop-init
loop-init c = rw c.empty-guids.ensures (record {
  at = refl;
  guids = record { few = omega arith; rising = refl; fit = λ k d below. absurd (omega (arith, below)) };
  stands = λ value rest guids is.
      let count = c.in_ok-count.ensures.exact (length value) (flat_map word value ++ rest) (omega (arith, guids.few)) (is ∙ words_parts value rest) in
      (cc count.0, stands_first word value rest c.word.new.self count.1);
})

pub returns-in_err-guid : goal.returns-in_err-guid
returns-in_err-guid c = record {
  fits = search rules;
  exact = λ value rest guids is.
      let stood = c.loop.invariant.stands value rest guids is in
      let next = stands_next word value rest c.loop.guids c.loop.cursor stood.1 (omega (arith, stood.0)) in
      let fits : next.row < 2 ^ 64 = fits_next (λ guid. guid < 2 ^ 64) word value rest c.loop.guids c.loop.cursor guids.fit next in
      absurd (cc (c.in_err-guid.ensures.exact next.row (flat_map word next.left ++ rest) fits next.spelled).0);
}

pub returns-then-not-insert_last : goal.returns-then-not-insert_last
returns-then-not-insert_last c = record {
  fits = search rules;
  exact = λ value rest guids is.
      let stood = c.loop.invariant.stands value rest guids is in
      let next = stands_next word value rest c.loop.guids c.loop.cursor stood.1 (omega (arith, stood.0)) in
      let fits : next.row < 2 ^ 64 = fits_next (λ guid. guid < 2 ^ 64) word value rest c.loop.guids c.loop.cursor guids.fit next in
      let read = c.in_ok-guid.ensures.exact next.row (flat_map word next.left ++ rest) fits next.spelled in
      let same : c.in_ok-guid.guid ≡ next.row = cc read.0 in
      let set : IsGuidSet (c.loop.guids ++ c.in_ok-guid.guid ∷ []) = rw same (IsGuidSet-front value (c.loop.guids ++ next.row ∷ []) next.left guids next.split) in
      absurd (cc (c.insert_last.ensures.exact.1 set, c.if-not-insert_last.true));
}

pub loop-preserved : goal.loop-preserved
loop-preserved c =
    let added = c.insert_last.ensures.added c.if-not-insert_last.false in
    record {
      at = rw added (omega (arith, c.loop.invariant.at, length-append c.loop.guids (c.in_ok-guid.guid ∷ [])));
      guids = c.insert_last.ensures.set;
      stands = λ value rest guids is.
          let stood = c.loop.invariant.stands value rest guids is in
          let next = stands_next word value rest c.loop.guids c.loop.cursor stood.1 (omega (arith, stood.0)) in
          let fits : next.row < 2 ^ 64 = fits_next (λ guid. guid < 2 ^ 64) word value rest c.loop.guids c.loop.cursor guids.fit next in
          let read = c.in_ok-guid.ensures.exact next.row (flat_map word next.left ++ rest) fits next.spelled in
          let same : c.in_ok-guid.guid ≡ next.row = cc read.0 in
          (stood.0, rw (added, same) (stands_more word value rest c.loop.guids c.loop.cursor c.word-in-loop.new.self next read.1));
    }

pub returns : goal.returns
returns c = record {
  fits = search rules;
  exact = λ value rest guids is.
      let stood = c.loop.invariant.stands value rest guids is in
      let last = stands_last word value rest c.loop.guids c.loop.cursor stood.1 (omega (arith, stood.0)) in
      (ap Some last.0, last.1);
}
