use Rattle.std.proofs.Common.{◌≡◌, ap, refl}
use Rattle.std.proofs.Math.Nat.{add-mod-mod, mod-add-mod}
use Rattle.zst_fletcher.specs.Lanes.{lanes_of, lane_sums, pairs, triples}
use Rattle.zst_fletcher.proofs.LastWord.{sums_of-by}
use Rattle.zst_fletcher.proofs.JoinedLanes.{first_sum-joined, second_sum-joined, third_sum-joined, fourth_sum-joined}
use Rattle.zst_fletcher.proofs.lanes.Lanes.join.Goals as goal

pub returns : goal.returns
unfolding lanes_of
returns c = λ words whole is.
    let sa : c.args.self.a ≡ lane_sums (λ n. 1) words = ap (λ l. l.a) is in
    let sb : c.args.self.b ≡ lane_sums (λ n. n) words = ap (λ l. l.b) is in
    let sc : c.args.self.c ≡ lane_sums pairs words = ap (λ l. l.c) is in
    let sd : c.args.self.d ≡ lane_sums triples words = ap (λ l. l.d) is in
    rw (
      sums_of-by words,
      first_sum-joined words whole,
      second_sum-joined words whole,
      third_sum-joined words whole,
      fourth_sum-joined words whole,
      c.weigh.ensures _ _ _ _ sa,
      c.weigh-2.ensures _ _ _ _ sb,
      c.weigh-3.ensures _ _ _ _ sa,
      c.weigh-4.ensures _ _ _ _ sc,
      c.weigh-5.ensures _ _ _ _ sb,
      c.weigh-6.ensures _ _ _ _ sa,
      c.weigh-7.ensures _ _ _ _ sd,
      c.weigh-8.ensures _ _ _ _ sc,
      c.weigh-9.ensures _ _ _ _ sb,
      c.weigh-10.ensures _ _ _ _ sa,
    ) (simp (add-mod-mod, mod-add-mod) refl)
