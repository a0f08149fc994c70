-- What pieces make of a pool, one after the other.
use Rattle.std.specs.Prelude.{min, ◌-◌}
use Rattle.std.proofs.Common.{◌≡◌, ⊎_elim, Bool, ℕ, ◌<◌, ◌≤◌, false, List, [], ◌∷◌, ◌++◌, length, take, refl, sym, ap, ◌∙◌, subst, arith, append_assoc, length-append}
use Rattle.std.specs.List.{concat}
use Rattle.std.proofs.Math.Nat.{eq-or-lt_of_le}
use Rattle.std.proofs.Math.Seq.{take-append_seam, take-length}
use Rattle.std.proofs.lemmas.List.{append-nil, take-append-le, take_min}
use Rattle.zst_image.specs.Reads.{Reads}
use Rattle.zst_model.specs.pools.KeptPool.{kept_of}
use Rattle.zst_model.specs.pools.Pool.{Pool}
use Rattle.zst_plan.specs.declared.receive.RecvAsk.{RecvAsk}
use Rattle.zst_recv.specs.Answers.{is_done}
use Rattle.zst_recv.specs.Feeds.{and_feed, fed_piece, feeds, receives}
use Rattle.zst_recv.specs.ReceiveSteps.{Fed, Stage, Waits, Lives, Ends, Goes, Stops, pool_of}
use Rattle.zst_run.specs.Receives.{IsOpen}
use Rattle.zst_run.specs.ReceiveTurns.{ReadsAlong, Wanted, WentOn, with_piece}
use Rattle.zst_run.proofs.Pieces.{with_some}

pub open_live : (stage : Stage) → IsOpen stage → is_done stage ≡ false
open_live Waits more = refl
open_live (Lives flags partial) more = refl
open_live (Ends partial) more = absurd more

-- ---- the definition, from its end

and_then : (before : Fed) → and_feed before (λ stage pool. Goes pool stage) ≡ before
and_then (Goes pool stage) = refl
and_then (Stops pool refusal) = refl

and_again : (before : Fed) (next more whole : Stage → Pool → Fed) → ((stage : Stage) (pool : Pool) → whole stage pool ≡ and_feed (next stage pool) more)
    → and_feed before whole ≡ and_feed (and_feed before next) more
and_again (Goes pool stage) next more whole same = same stage pool
and_again (Stops pool refusal) next more whole same = refl

feeds_more : (ask : RecvAsk) (text : List ℕ) (pieces : List (List ℕ)) (piece : List ℕ) (stage : Stage) (pool : Pool)
    → feeds ask text (pieces ++ piece ∷ []) stage pool ≡ and_feed (feeds ask text pieces stage pool) (fed_piece ask (text ++ concat pieces) piece)
unfolding feeds
feeds_more ask text [] piece stage pool =
    and_then (fed_piece ask text piece stage pool) ∙ ap (λ (t : List ℕ). fed_piece ask t piece stage pool) (sym (append-nil text))
feeds_more ask text (first ∷ rest) piece stage pool =
    and_again (fed_piece ask text first stage pool) (feeds ask (text ++ first) rest) (fed_piece ask (text ++ (first ++ concat rest)) piece) (feeds ask (text ++ first) (rest ++ piece ∷ []))
    (λ s p. feeds_more ask (text ++ first) rest piece s p ∙ ap (λ (t : List ℕ). and_feed (feeds ask (text ++ first) rest s p) (fed_piece ask t piece)) (append_assoc text first (concat rest)))

pub none_fed : (ask : RecvAsk) (pool : Pool) → receives ask pool [] ≡ Goes pool Waits
unfolding feeds
none_fed ask pool = refl

-- ---- one piece more

module _ (ask : RecvAsk) (pool : Pool) (pieces : List (List ℕ)) (after : Pool) (stage : Stage) (is : receives ask pool pieces ≡ Goes after stage) (piece : List ℕ) where
  next_so : receives ask pool (pieces ++ piece ∷ []) ≡ fed_piece ask (concat pieces) piece stage after
  next_so = feeds_more ask [] pieces piece Waits pool ∙ ap (λ (f : Fed). and_feed f (fed_piece ask (concat pieces) piece)) is

  pub next_is : 0 < length piece → receives ask pool (with_piece pieces piece) ≡ fed_piece ask (concat pieces) piece stage after
  next_is some = ap (receives ask pool) (with_some pieces piece some) ∙ next_so

take_front : (n : ℕ) (pieces more : List (List ℕ)) → n ≤ length pieces → take n (pieces ++ more) ≡ take n pieces
take_front n pieces more le = take-append-le n pieces more le

-- all pieces but the last, where there is one more
pub before_last : (pieces : List (List ℕ)) (piece : List ℕ) → 0 < length piece → take (length (with_piece pieces piece) - 1) (with_piece pieces piece) ≡ pieces
before_last pieces piece some =
    let with_one = with_some pieces piece some in
    let long : length (with_piece pieces piece) - 1 ≡ length pieces = let both = ap (λ (l : List (List ℕ)). length l) with_one ∙ length-append pieces (piece ∷ []) in omega (arith, both) in
    ap (λ (n : ℕ). take n (with_piece pieces piece)) long ∙ ap (λ (l : List (List ℕ)). take (length pieces) l) with_one ∙ take-append_seam pieces (piece ∷ [])

took_before : (pieces more : List (List ℕ)) (n : ℕ) → take (min n (length pieces)) (pieces ++ more) ≡ take n pieces
took_before pieces more n = take-append-le (min n (length pieces)) pieces more (omega arith) ∙ take_min n pieces

-- what left it waiting before, and now
went_with : (ask : RecvAsk) (pool : Pool) (pieces : List (List ℕ)) (last : List (List ℕ)) → WentOn ask pool pieces → Wanted ask pool pieces → (n : ℕ) → n ≤ length pieces → WentOn ask pool (take n (pieces ++ last))
went_with ask pool pieces last went wanted n le =
    subst (λ (l : List (List ℕ)). WentOn ask pool l) (sym (take_front n pieces last le))
    (⊎_elim (λ same. subst (λ (l : List (List ℕ)). WentOn ask pool l) (sym (ap (λ (m : ℕ). take m pieces) same ∙ take-length pieces)) went) (λ less. wanted n less) (eq-or-lt_of_le le))

pub wanted_then : (ask : RecvAsk) (pool : Pool) (pieces : List (List ℕ)) (piece : List ℕ) → WentOn ask pool pieces → Wanted ask pool pieces → Wanted ask pool (with_piece pieces piece)
wanted_then ask pool pieces [] went wanted = wanted
wanted_then ask pool pieces (byte ∷ rest) went wanted =
    λ n less. went_with ask pool pieces ((byte ∷ rest) ∷ []) went wanted n (let long = length-append pieces ((byte ∷ rest) ∷ []) in omega arith)

-- ---- images

along_at : (tight : Bool) (ask : RecvAsk) (pool : Pool) (one other : List (List ℕ)) (image : List ℕ) (n m : ℕ) → take m other ≡ take n one → Reads tight (kept_of (pool_of (receives ask pool (take n one)))) image → ReadsAlong tight ask pool other image
along_at tight ask pool one other image n m same reads = (m, subst (λ (l : List (List ℕ)). Reads tight (kept_of (pool_of (receives ask pool l))) image) (sym same) reads)

pub along_then : (tight : Bool) (ask : RecvAsk) (pool : Pool) (pieces : List (List ℕ)) (piece : List ℕ) (image : List ℕ) → ReadsAlong tight ask pool pieces image → ReadsAlong tight ask pool (with_piece pieces piece) image
along_then tight ask pool pieces [] image along = along
along_then tight ask pool pieces (byte ∷ rest) image along =
    along_at tight ask pool pieces (pieces ++ (byte ∷ rest) ∷ []) image along.0 (min along.0 (length pieces)) (took_before pieces ((byte ∷ rest) ∷ []) along.0) along.1

-- an image that reads as what stands after all of the pieces
pub along_all : (tight : Bool) (ask : RecvAsk) (pool : Pool) (pieces : List (List ℕ)) (fed : Fed) (image : List ℕ) → receives ask pool pieces ≡ fed → Reads tight (kept_of (pool_of fed)) image → ReadsAlong tight ask pool pieces image
along_all tight ask pool pieces fed image is reads =
    (length pieces, subst (λ (f : Fed). Reads tight (kept_of (pool_of f)) image) (sym (ap (receives ask pool) (take-length pieces) ∙ is)) reads)
