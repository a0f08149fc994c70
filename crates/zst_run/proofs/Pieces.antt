-- Pieces of an input, one after the other.
use Rattle.std.proofs.Common.{◌≡◌, ℕ, ◌<◌, ◌≤◌, List, [], ◌∷◌, ◌++◌, length, sym, ap, ◌∙◌, arith, subst}
use Rattle.std.specs.List.{All, concat}
use Rattle.std.proofs.lemmas.List.{append-nil}
use Rattle.std.proofs.lemmas.List.Elements.{All-append, All-cons, All-head, All-nil, All-tail}
use Rattle.std.proofs.lemmas.List.Folds.{concat-append}
use Rattle.zst_model.specs.states.State.{AreBytes}
use Rattle.zst_run.specs.Receives.{ArePieces, piece_size}
use Rattle.zst_run.specs.ReceiveTurns.{with_piece}

abbrev pub AreWhole : List (List ℕ) → Type 0
AreWhole pieces = All (λ (piece : List ℕ). length piece ≡ piece_size) pieces

pub concat_one : (pieces : List (List ℕ)) (piece : List ℕ) → concat (pieces ++ piece ∷ []) ≡ concat pieces ++ piece
concat_one pieces piece = concat-append pieces (piece ∷ []) ∙ ap (λ (t : List ℕ). concat pieces ++ t) (append-nil piece)

pub concat_with : (pieces : List (List ℕ)) (piece : List ℕ) → concat (with_piece pieces piece) ≡ concat pieces ++ piece
concat_with pieces [] = sym (append-nil (concat pieces))
concat_with pieces (byte ∷ rest) = concat_one pieces (byte ∷ rest)

pub with_some : (pieces : List (List ℕ)) (piece : List ℕ) → 0 < length piece → with_piece pieces piece ≡ pieces ++ piece ∷ []
with_some pieces [] some = absurd (omega arith)
with_some pieces (byte ∷ rest) some = cc

whole_first : (piece : List ℕ) (rest : List (List ℕ)) → AreWhole (piece ∷ rest) → length piece ≡ piece_size
whole_first piece rest whole = All-head (λ (p : List ℕ). length p ≡ piece_size) piece rest whole

whole_rest : (piece : List ℕ) (rest : List (List ℕ)) → AreWhole (piece ∷ rest) → AreWhole rest
whole_rest piece rest whole = All-tail (λ (p : List ℕ). length p ≡ piece_size) piece rest whole

-- whole pieces, and a last one
pub whole_pieces : (pieces : List (List ℕ)) → AreWhole pieces → ArePieces pieces
whole_pieces [] whole = tt
whole_pieces (piece ∷ []) whole = let size = whole_first piece [] whole in (omega (arith, size), omega (arith, size))
whole_pieces (piece ∷ next ∷ rest) whole = (whole_first piece (next ∷ rest) whole, whole_pieces (next ∷ rest) (whole_rest piece (next ∷ rest) whole))

with_last : (pieces : List (List ℕ)) (last : List ℕ) → AreWhole pieces → 0 < length last → length last ≤ piece_size → ArePieces (pieces ++ last ∷ [])
with_last [] last whole some most = (some, most)
with_last (piece ∷ []) last whole some most = (whole_first piece [] whole, (some, most))
with_last (piece ∷ next ∷ rest) last whole some most = (whole_first piece (next ∷ rest) whole, with_last (next ∷ rest) last (whole_rest piece (next ∷ rest) whole) some most)

pub pieces_then : (pieces : List (List ℕ)) (piece : List ℕ) → AreWhole pieces → length piece ≤ piece_size → ArePieces (with_piece pieces piece)
pieces_then pieces [] whole most = whole_pieces pieces whole
pieces_then pieces (byte ∷ rest) whole most = with_last pieces (byte ∷ rest) whole (omega arith) most

pub whole_then : (pieces : List (List ℕ)) (piece : List ℕ) → AreWhole pieces → length piece ≡ piece_size → AreWhole (with_piece pieces piece)
whole_then pieces [] whole size = whole
whole_then pieces (byte ∷ rest) whole size = All-append (λ (piece : List ℕ). length piece ≡ piece_size) pieces ((byte ∷ rest) ∷ []) whole
    (All-cons (λ (piece : List ℕ). length piece ≡ piece_size) (byte ∷ rest) [] size (All-nil (λ (piece : List ℕ). length piece ≡ piece_size)))

pub bytes_then : (pieces : List (List ℕ)) (piece : List ℕ) → AreBytes (concat pieces) → AreBytes piece → AreBytes (concat (with_piece pieces piece))
bytes_then pieces piece before more =
    subst AreBytes (sym (concat_with pieces piece)) (All-append (λ (byte : ℕ). byte < 256) (concat pieces) piece before more)
