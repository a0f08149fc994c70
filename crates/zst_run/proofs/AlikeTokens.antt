-- Receives of the same bytes leave equal tokens.
use Rattle.std.specs.Prelude.{Bool, Err}
use Rattle.std.proofs.Common.{◌≡◌, ℕ, ◌<◌, ◌≤◌, List, [], ◌∷◌, ◌++◌, length, take, refl, sym, ap, ◌∙◌, subst, arith}
use Rattle.std.specs.List.{concat}
use Rattle.std.proofs.lemmas.List.{append-nil, append_cancel_left, length-append, take_at}
use Rattle.zst_outside.specs.Images.{DiskState}
use Rattle.zst_outside.specs.States.{SourceState}
use Rattle.zst_model.specs.declared.refusals.refusal.Refusal.{Refusal}
use Rattle.zst_model.specs.declared.refusals.refusal.Refusal.TheVariants as refusals
use Rattle.zst_model.specs.declared.refusals.stream_fault.StreamFault.TheVariants.{Truncated}
use Rattle.zst_model.specs.pools.Pool.{Pool}
use Rattle.zst_plan.specs.declared.receive.RecvAsk.{RecvAsk}
use Rattle.zst_recv.specs.Feeds.{receives}
use Rattle.zst_recv.specs.ReceiveSteps.{Goes, left_by}
use Rattle.zst_recv.specs.Tokens.{token_told}
use Rattle.zst_replication.specs.AlikeReceives.{EqualPiecesTellAlike}
use Rattle.zst_replication.specs.Replicas.{LeftIsKept}
use Rattle.zst_run.specs.AlikeTokens.{CutsTellAlike, IsCut, WasCut}
use Rattle.zst_run.specs.Receives.{ArePieces, ReceiveEnds, Waited, piece_size}
use Rattle.zst_run.proofs.FedPieces.{open_live}
use Rattle.zst_run.proofs.PipedRuns.{ImagesKeep}

-- ---- a text is read in one way

-- each piece has some bytes, and no more than a piece has
first_some : (piece : List ℕ) (rest : List (List ℕ)) → ArePieces (piece ∷ rest) → (0 < length piece) × (length piece ≤ piece_size)
first_some piece [] are = are
first_some piece (next ∷ rest) are = let size = are.0 in (omega (arith, size), omega (arith, size))

one_front : (a b left right : List ℕ) → length a ≡ length b → a ++ left ≡ b ++ right → (a ≡ b) × (left ≡ right)
one_front a b left right long same =
    let front : a ≡ b = sym (take_at a left (length a) refl) ∙ ap (take (length a)) same ∙ take_at b right (length a) (sym long) in
    (front, append_cancel_left a left right (same ∙ ap (λ (front : List ℕ). front ++ right) (sym front)))

pub one_reading : (a b : List (List ℕ)) → ArePieces a → ArePieces b → concat a ≡ concat b → a ≡ b
one_reading [] [] are too same = refl
one_reading [] (piece ∷ rest) are too same =
    absurd (let some = (first_some piece rest too).0 in omega (arith, some, ap length same, length-append piece (concat rest)))
one_reading (piece ∷ rest) [] are too same =
    absurd (let some = (first_some piece rest are).0 in omega (arith, some, ap length same, length-append piece (concat rest)))
one_reading (piece ∷ []) (other ∷ []) are too same =
    ap (λ (only : List ℕ). only ∷ []) (sym (append-nil piece) ∙ same ∙ append-nil other)
one_reading (piece ∷ []) (other ∷ next ∷ rest) are too same =
    absurd (let some = (first_some next rest too.1).0 in
    omega (arith, are.1, too.0, some, ap length same, length-append piece [], length-append other (concat (next ∷ rest)), length-append next (concat rest)))
one_reading (piece ∷ next ∷ rest) (other ∷ []) are too same =
    absurd (let some = (first_some next rest are.1).0 in
    omega (arith, too.1, are.0, some, ap length same, length-append other [], length-append piece (concat (next ∷ rest)), length-append next (concat rest)))
one_reading (piece ∷ next ∷ rest) (other ∷ after ∷ more) are too same =
    let parts = one_front piece other (concat (next ∷ rest)) (concat (after ∷ more)) (are.0 ∙ sym too.0) same in
    let others = one_reading (next ∷ rest) (after ∷ more) are.1 too.1 parts.1 in
    ap (λ (first : List ℕ). first ∷ next ∷ rest) parts.0 ∙ ap (λ (pieces : List (List ℕ)). other ∷ pieces) others

-- ---- what a cut run leaves

waited_of : (tight : Bool) (ask : RecvAsk) (pool : Pool) (pieces : List (List ℕ)) (there' : DiskState) (input input' : SourceState) (refusal : Refusal) → IsCut refusal
    → ReceiveEnds tight ask pool pieces there' input input' (Err refusal) → Waited tight ask pool pieces there'
waited_of tight ask pool pieces there' input input' (refusals.Stream (Truncated at)) cut ends = ends.4
waited_of tight ask pool pieces there' input input' refusals.SourceFault cut ends = ends
waited_of tight ask pool pieces there' input input' refusal cut ends = absurd cut

module _ (tight : Bool) (ask : RecvAsk) (into : Pool) (text : List ℕ) (there there' : DiskState) (was : WasCut tight ask into text there there') where
  left : Waited tight ask into was.receives.pieces there'
  left =
      waited_of tight ask into was.receives.pieces there' was.input was.input_after was.refusal was.cut
      (was.receives.ends tight was.body was.rows into was.honest was.reads was.may)

  read_is : concat was.receives.pieces ≡ text
  read_is = append_cancel_left was.input.given (concat was.receives.pieces) text (sym was.receives.consumed ∙ was.gave)

pub cuts_tell : ImagesKeep → LeftIsKept → EqualPiecesTellAlike → (there there' far far' : DiskState) → CutsTellAlike there there' far far'
cuts_tell keeps left_kept law there there' far far' tight other ask into beside text one two begins =
    let a = left tight ask into text there there' one in
    let b = left other ask beside text far far' two in
    let pieces = one.receives.pieces in
    let same : two.receives.pieces ≡ pieces =
    one_reading two.receives.pieces pieces two.receives.are_pieces one.receives.are_pieces (read_is other ask beside text far far' two ∙ sym (read_is tight ask into text there there' one)) in
    let told = law ask into beside a.after b.after a.stage b.stage pieces (keeps tight one.body one.rows into there.seen one.reads) (keeps other two.body two.rows beside far.seen two.reads) begins
    a.is (open_live a.stage a.live) (subst (λ (ps : List (List ℕ)). receives ask beside ps ≡ Goes b.after b.stage) same b.is) (open_live b.stage b.live) in (
      left_by a.stage a.after,
      left_by b.stage b.after,
      a.keeps,
      b.keeps,
      ap (token_told ask.target) (left_kept a.stage a.after) ∙ told ∙ sym (ap (token_told ask.target) (left_kept b.stage b.after)),
    )
