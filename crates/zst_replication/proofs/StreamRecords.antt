-- The records of a send's stream.
use Rattle.std.proofs.Common.{◌≡◌, ◌⊎◌, inl, inr, ℕ, List, [], ◌∷◌, ◌++◌, length, map, None, refl, sym, ap, ◌∙◌, subst, append-nil}
use Rattle.zst_model.specs.declared.sends.header.Header.{Header}
use Rattle.zst_model.specs.declared.sends.header.Point.{Point}
use Rattle.zst_model.specs.declared.states.item.Item.{Item}
use Rattle.zst_model.specs.sends.Inclusion.{Choice}
use Rattle.zst_model.specs.sends.Items.{items}
use Rattle.zst_model.specs.sends.View.{view_of}
use Rattle.zst_model.specs.states.DatedState.{DatedState}
use Rattle.zst_record.specs.declared.head.Head.{Head}
use Rattle.zst_record.specs.declared.head.Head.TheVariants as heads
use Rattle.zst_record.specs.RecordValues.{IsLater}
use Rattle.zst_record.specs.Heads.{Covered}
use Rattle.zst_record.specs.Payload.{begin_payload}
use Rattle.zst_stream.specs.Image.{Piece, PiecesFit, begin_head, covers}
use Rattle.zst_stream.specs.Items.{CanSend, ViewIsRead, ViewIsStream, items_by, items_of}
use Rattle.zst_stream.specs.Laws.{CoversArePieces, ImageIsRead, all_pieces, piece_of}
use Rattle.zst_stream.specs.Reading.{Reading, closing, reading}
use Rattle.zst_stream.specs.Records.{pieces_for, view_text}
use Rattle.zst_stream.proofs.ItemStreams.{say_append}

-- neither BEGIN nor END, and END
abbrev pub IsMiddle : Head → Type 0
IsMiddle head = IsLater head × (closing head ≡ None)

abbrev pub IsEnd : Head → Type 0
IsEnd (heads.End sums to) = Unit {0}
IsEnd head = ⊥

-- records behind BEGIN, up to END
abbrev pub IsTail : List Covered → Type 0
IsTail [] = ⊥
IsTail (c ∷ rest) = (IsMiddle c.head × IsTail rest) ⊎ (IsEnd c.head × (rest ≡ []))

-- BEGIN with this header and other records that say these items, with END as the last
pub record Stream (header : Header) (sent : List Item) (records : List Covered) : Type 0 where
  pub first : Covered
  pub rest : List Covered
  pub len : ℕ
  pub records_are : records ≡ first ∷ rest
  pub head_is : first.head ≡ heads.Begin header len
  pub said : items_of header.flags records ≡ sent
  pub tail : IsTail rest

pub first_is : {A : Type 0} (x y : A) (xs ys : List A) → x ∷ xs ≡ y ∷ ys → (x ≡ y) × (xs ≡ ys)
first_is x y xs ys e = (cc, cc)

middle_not_end : (head : Head) → IsMiddle head → IsEnd head → ⊥
middle_not_end (heads.End sums to) middle end = let open_still = middle.1 in cc
middle_not_end (heads.Begin header len) middle end = end
middle_not_end (heads.Object object kind bonus_kind block_size bonus_len max_block to) middle end = end
middle_not_end (heads.FreeObjects first count to) middle end = end
middle_not_end (heads.Write object kind offset size to) middle end = end
middle_not_end (heads.Free object offset size to) middle end = end
middle_not_end (heads.Spill object size to) middle end = end
middle_not_end (heads.Redact object offset size to) middle end = end

-- nothing stands behind END
ends_last : (front : List Covered) (c : Covered) (more : List Covered) → IsTail (front ++ c ∷ more) → IsEnd c.head → more ≡ []
ends_last [] c more (inl middle) end = absurd (middle_not_end c.head middle.0 end)
ends_last [] c more (inr last) end = last.1
ends_last (x ∷ front) c more (inl middle) end = ends_last front c more middle.1 end
ends_last (x ∷ front) c more (inr last) end = absurd (none_behind front c more last.1)
  where
    none_behind : (front : List Covered) (c : Covered) (more : List Covered) → front ++ c ∷ more ≡ [] → ⊥
    none_behind [] c more e = cc
    none_behind (x ∷ front) c more e = cc

end_says : (flags : ℕ) (payload : List ℕ) (head : Head) → IsEnd head → items_by flags payload head ≡ []
end_says flags payload (heads.End sums to) end = refl
end_says flags payload (heads.Begin header len) end = absurd end
end_says flags payload (heads.Object object kind bonus_kind block_size bonus_len max_block to) end = absurd end
end_says flags payload (heads.FreeObjects first count to) end = absurd end
end_says flags payload (heads.Write object kind offset size to) end = absurd end
end_says flags payload (heads.Free object offset size to) end = absurd end
end_says flags payload (heads.Spill object size to) end = absurd end
end_says flags payload (heads.Redact object offset size to) end = absurd end

-- a front of a stream's records that has BEGIN has the stream's, and with END behind it says all
module _ (header : Header) (sent : List Item) (records : List Covered) (stream : Stream header sent records) (begin : Covered) (rest left : List Covered) (is : begin ∷ (rest ++ left) ≡ records) where
  abbrev parts : (begin ≡ stream.first) × (rest ++ left ≡ stream.rest)
  parts = first_is begin stream.first (rest ++ left) stream.rest (is ∙ stream.records_are)

  pub begin_is : (other : Header) (len : ℕ) → begin.head ≡ heads.Begin other len → other ≡ header
  begin_is other len e = let same : heads.Begin other len ≡ heads.Begin header stream.len = sym e ∙ ap (λ (c : Covered). c.head) parts.0 ∙ stream.head_is in cc

  pub all_said : (last : Covered) (more : List Covered) → left ≡ last ∷ more → IsEnd last.head → items_of header.flags (begin ∷ rest) ≡ sent
  all_said last more e end =
      let none = ends_last rest last more (subst (λ (cs : List Covered). IsTail (rest ++ cs)) e (subst (λ (cs : List Covered). IsTail cs) (sym parts.1) stream.tail)) end in
      let says : items_of header.flags left ≡ [] =
      ap (items_of header.flags) e ∙ ap (λ (is : List Item). is ++ items_of header.flags more) (end_says header.flags last.payload last.head end) ∙ ap (items_of header.flags) none in
      sym (append-nil (items_of header.flags (begin ∷ rest))) ∙ ap (λ (is : List Item). items_of header.flags (begin ∷ rest) ++ is) (sym says)
      ∙ sym (say_append header.flags (begin ∷ rest) left) ∙ ap (items_of header.flags) is ∙ stream.said

none_mapped : (cs : List Covered) → map piece_of cs ≡ [] → cs ≡ []
none_mapped [] e = refl
none_mapped (c ∷ cs) e = absurd cc

tail_of : (features : ℕ) (pieces : List Piece) (cs : List Covered) (sums : List ℕ) (to : ℕ) → PiecesFit features pieces
    → map piece_of cs ≡ pieces ++ record { head = heads.End sums to; payload = [] } ∷ [] → IsTail cs
tail_of features [] [] sums to fit e = absurd cc
tail_of features [] (c ∷ cs) sums to fit e =
    let parts = first_is (piece_of c) (record { head = heads.End sums to; payload = [] }) (map piece_of cs) [] e in
    inr (subst (λ (head : Head). IsEnd head) (sym (ap (λ (p : Piece). p.head) parts.0)) tt, none_mapped cs parts.1)
tail_of features (p ∷ ps) [] sums to fit e = absurd cc
tail_of features (p ∷ ps) (c ∷ cs) sums to fit e =
    let parts = first_is (piece_of c) p (map piece_of cs) (ps ++ record { head = heads.End sums to; payload = [] } ∷ []) e in
    let head : c.head ≡ p.head = ap (λ (q : Piece). q.head) parts.0 in
    inl (subst (λ (h : Head). IsMiddle h) (sym head) (fit.0.later, fit.0.not_end), tail_of features ps cs sums to fit.1 parts.1)

streamed : (header : Header) (pieces : List Piece) (sent : List Item) (records : List Covered) (sums : List ℕ) → PiecesFit header.features pieces
    → map piece_of records ≡ all_pieces header pieces sums → items_of header.flags records ≡ sent → Stream header sent records
streamed header pieces sent [] sums fit are said = absurd cc
streamed header pieces sent (c ∷ cs) sums fit are said =
    let parts = first_is (piece_of c) (record { head = begin_head header; payload = begin_payload header }) (map piece_of cs) (pieces ++ record { head = heads.End sums header.to; payload = [] } ∷ []) are in
    let head : c.head ≡ begin_head header = ap (λ (p : Piece). p.head) parts.0 in
    record {
      first = c;
      rest = cs;
      len = length (begin_payload header);
      records_are = refl;
      head_is = head;
      said = said;
      tail = tail_of header.features pieces cs sums header.to fit parts.1;
    }

pub stream_of : ViewIsStream → ViewIsRead → ImageIsRead → CoversArePieces → (header : Header) (snap : DatedState) (choice : Choice) (point : Point) → CanSend header snap choice point
    → Stream header (items (view_of header snap choice) point) (reading (view_text header (view_of header snap choice) point)).covered
unfolding view_text
stream_of streams reads images covered header snap choice point can =
    let sent : List Item = items (view_of header snap choice) point in
    let pieces = pieces_for header.to sent in
    let is = (streams header snap choice point can).0 in
    let read : (reading (view_text header (view_of header snap choice) point)).covered ≡ covers header pieces = ap (λ (r : Reading). r.covered) (images header pieces is) in
    let are = covered header pieces in
    streamed header pieces sent (reading (view_text header (view_of header snap choice) point)).covered are.0 is.pieces_fit (ap (map piece_of) read ∙ are.1) (reads header snap choice point can).1
