-- What the sends of a pool hold of it.
use Rattle.std.proofs.Common.{◌≡◌, ◌+◌, ◌<◌, ℕ, Bool, true, false, cond, List, [], ◌∷◌, ◌++◌, filter, get_or, length, map, take, sym, ap, ◌∙◌}
use Rattle.std.specs.List.{All}
use Rattle.std.proofs.lemmas.List.{append-nil, map-append, take_more}
use Rattle.std.proofs.lemmas.List.Elements.{All-cons, All-nil, filter-append}
use Rattle.zst_block.specs.Blocks.{Has}
use Rattle.zst_dir.specs.RowNames.{Match}
use Rattle.zst_image.specs.Bodies.{free_by}
use Rattle.zst_pool.specs.Reclaims.{HeldStand}
use Rattle.zst_roots.specs.StandingRows.{HeldStands}
use Rattle.zst_roots.specs.declared.held.HeldBlocks.{HeldBlocks}
use Rattle.zst_script.specs.declared.event.Side.{Side}
use Rattle.zst_script.specs.declared.event.Side.TheVariants.{Here, There}
use Rattle.zst_send.specs.HeldPointers.{HeldSendsStand, held_of}
use Rattle.zst_send.specs.Sends.{begun_text}
use Rattle.zst_sessions.proofs.EndedSessions.{stay_match}
use Rattle.zst_sessions.specs.EngineSteps.{held_blocks}
use Rattle.zst_sessions.specs.Engines.{Kept, SendStandsOn, kept_at}
use Rattle.zst_sessions.specs.World.{OpenSend, is_side, left_of}
use Rattle.zst_sessions.specs.declared.open_sessions.OpenSend as kept_sends

-- ---- that it stands

-- what each match makes of its first holds of all that is made of those
all_made : {A B C : Type 0} (P : C → Type 0) (f : A → C) (xs : List A) (ys : List B) → Match (λ x y. P (f x)) xs ys → All P (map f xs)
all_made P f [] [] m = All-nil P
all_made P f [] (y ∷ ys) m = absurd m
all_made P f (x ∷ xs) [] m = absurd m
all_made P f (x ∷ xs) (y ∷ ys) m = All-cons P (f x) (map f xs) m.0 (all_made P f xs ys m.1)

-- a session of this side is of its pool
own_kept : (P : Kept → Type 0) (side at : Side) (here there : Kept) → is_side at side ≡ true → P (kept_at at here there) → P (kept_at side here there)
own_kept P Here Here here there own is = is
own_kept P Here There here there own is = absurd (cc)
own_kept P There Here here there own is = absurd (cc)
own_kept P There There here there own is = is

module _ (side : Side) (here there : Kept) where
  abbrev kept : Kept
  kept = kept_at side here there

  abbrev Stands : HeldBlocks → Type 0
  Stands = HeldStands (Has kept.disk.seen (free_by kept.state.body))

  -- where the disk works, all that the sends of its pool hold stands
  pub held_stand : HeldSendsStand → (coded : List kept_sends.OpenSend) (sends : List OpenSend) → Match (λ one send. SendStandsOn (kept_at send.side here there) one send) coded sends
      → kept.failed ≡ false → HeldStand kept.disk kept.state.body (held_blocks side coded)
  held_stand stand coded sends match works =
      all_made Stands (λ one. held_of one.send) (filter (λ one. is_side one.side side) coded) (filter (λ send. is_side send.side side) sends)
      (stay_match (λ one send. SendStandsOn (kept_at send.side here there) one send) (λ one send. Stands (held_of one.send)) (λ one. is_side one.side side) (λ send. is_side send.side side)
      (λ one send is. ap (λ (s : Side). is_side s side) is.side)
      (λ one send on is.
      let own = own_kept (λ k. SendStandsOn k one send) side send.side here there on is in
      stand kept.disk.seen (free_by kept.state.body) one.send send.sent send.start (take send.given (begun_text send.sent send.start)) (left_of send) (own.sends works))
      coded sends match)

-- ---- one by one

module _ (side : Side) (sends : List kept_sends.OpenSend) (place : ℕ) (one : kept_sends.OpenSend) (inside : place < length sends) (is : one ≡ get_or sends place one) where
  -- what the sends up to a place hold, and then that of one more
  abbrev held_so : Bool → List HeldBlocks
  held_so own = held_blocks side (take place sends) ++ map (λ (s : kept_sends.OpenSend). held_of s.send) (cond own (one ∷ []) [])

  one_more : held_blocks side (take (place + 1) sends) ≡ held_so (is_side one.side side)
  one_more =
      ap (λ (all : List kept_sends.OpenSend). held_blocks side all) (take_more sends place one inside ∙ ap (λ (s : kept_sends.OpenSend). take place sends ++ s ∷ []) (sym is))
      ∙ ap (λ (all : List kept_sends.OpenSend). map (λ (s : kept_sends.OpenSend). held_of s.send) all) (filter-append (λ (s : kept_sends.OpenSend). is_side s.side side) (take place sends) (one ∷ []))
      ∙ map-append (λ (s : kept_sends.OpenSend). held_of s.send) (filter (λ (s : kept_sends.OpenSend). is_side s.side side) (take place sends)) (filter (λ (s : kept_sends.OpenSend). is_side s.side side) (one ∷ []))

  pub held_more : (held : List HeldBlocks) → is_side one.side side ≡ true → held ≡ held_blocks side (take place sends) → held ++ held_of one.send ∷ [] ≡ held_blocks side (take (place + 1) sends)
  held_more held own so = ap (λ (all : List HeldBlocks). all ++ held_of one.send ∷ []) so ∙ sym (one_more ∙ ap held_so own)

  pub held_same : (held : List HeldBlocks) → is_side one.side side ≡ false → held ≡ held_blocks side (take place sends) → held ≡ held_blocks side (take (place + 1) sends)
  held_same held own so = so ∙ sym (one_more ∙ ap held_so own ∙ append-nil (held_blocks side (take place sends)))
