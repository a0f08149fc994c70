-- One event among those of a run.
use Rattle.std.proofs.Common.{◌≡◌, ◌⊎◌, inl, inr, ℕ, List, [], ◌∷◌, ◌++◌, refl, sym, ap, subst}
use Rattle.zst_script.specs.declared.event.Event.{Event}
use Rattle.zst_script.specs.declared.event.Event.TheVariants as events
use Rattle.zst_sessions.specs.Moves.{Answer, moved}
use Rattle.zst_sessions.specs.Replay.{AsDefined, AtStart, GoesOn, InEvent, Later, Moves, OnWay, Replay, Stays}
use Rattle.zst_sessions.specs.World.{World}
use Rattle.zst_interleaving.specs.FedReplays.{IsInEvent, ReplaysSplit, SplitsAt, WaysAreInEvents}

-- the first of some events, and the others
first_is : (one event : Event) (es rest : List Event) → one ∷ es ≡ event ∷ rest → (one ≡ event) × (es ≡ rest)
first_is one event es rest e =
    let first : one ≡ event = cc e in
    let others : es ≡ rest = cc e in (first, others)

splits_at : (now : ℕ) (front rest : List Event) (event : Event) (world last : World) (run : List Event) (answers : List Answer) → Replay now world run answers last → run ≡ front ++ event ∷ rest
    → SplitsAt now world front event rest answers last
splits_at now [] rest event _ _ _ _ (Stays world) e = absurd (cc e)
splits_at now [] rest event _ _ _ _ (GoesOn world next last one answer es told moves on) e =
    let same = first_is one event es rest e in
    record {
      told = [];
      answer = answer;
      more = told;
      before = world;
      after = next;
      answers_are = refl;
      leads = Stays world;
      moves = subst (λ (o : Event). Moves now world o answer next) same.0 moves;
      goes_on = subst (λ (os : List Event). Replay now next os told last) same.1 on;
    }
splits_at now (head ∷ front) rest event _ _ _ _ (Stays world) e = absurd (cc e)
splits_at now (head ∷ front) rest event _ _ _ _ (GoesOn world next last one answer es told moves on) e =
    let same = first_is one head es (front ++ event ∷ rest) e in
    let s = splits_at now front rest event next last es told on same.1 in
    record {
      told = answer ∷ s.told;
      answer = s.answer;
      more = s.more;
      before = s.before;
      after = s.after;
      answers_are = ap (λ (a : List Answer). answer ∷ a) s.answers_are;
      leads = GoesOn world next s.before head answer front s.told (subst (λ (o : Event). Moves now world o answer next) same.0 moves) s.leads;
      moves = s.moves;
      goes_on = s.goes_on;
    }

pub replays_split : ReplaysSplit
replays_split now world last front rest event answers run = splits_at now front rest event world last (front ++ event ∷ rest) answers run refl

pub ways_in_events : WaysAreInEvents
ways_in_events now world way run answers (AtStart here all said) = inl refl
ways_in_events now world way run answers (InEvent here event rest said) = inr (record {
  front = [];
  event = event;
  rest = rest;
  told = [];
  said = said;
  before = here;
  run_is = refl;
  answers_are = refl;
  leads = Stays here;
  on_way = InEvent here event [] said;
})
ways_in_events now world way run answers (Later here next end event answer rest said moves on) = go (ways_in_events now next end rest said on)
  where
    go : (end ≡ next) ⊎ IsInEvent now next rest said end → (end ≡ here) ⊎ IsInEvent now here (event ∷ rest) (answer ∷ said) end
    go (inl is) = inr (record {
      front = [];
      event = event;
      rest = rest;
      told = [];
      said = answer ∷ said;
      before = here;
      run_is = refl;
      answers_are = refl;
      leads = Stays here;
      on_way = Later here next end event answer [] said moves (subst (λ (w : World). OnWay now next [] said w) (sym is) (AtStart next [] said));
    })
    go (inr inside) = inr (record {
      front = event ∷ inside.front;
      event = inside.event;
      rest = inside.rest;
      told = answer ∷ inside.told;
      said = inside.said;
      before = inside.before;
      run_is = ap (λ (es : List Event). event ∷ es) inside.run_is;
      answers_are = ap (λ (a : List Answer). answer ∷ a) inside.answers_are;
      leads = GoesOn here next inside.before event answer inside.front inside.told moves inside.leads;
      on_way = inside.on_way;
    })

-- ---- one event alone

-- where no event is left, the way is where it stands
ends_there : (now : ℕ) (world way : World) (run : List Event) (answers : List Answer) → OnWay now world run answers way → run ≡ [] → world ≡ way
ends_there now world way run answers (AtStart here all said) e = refl
ends_there now world way run answers (InEvent here event rest said) e = absurd (cc e)
ends_there now world way run answers (Later here next end event answer rest said moves on) e = absurd (cc e)

-- what holds before an event and of where it leads holds of the world that it is to make: a check leaves the one that it finds
made_so : (P : World → Type 0) (now : ℕ) (event : Event) (world : World) → P world → ((answer : Answer) (next : World) → Moves now world event answer next → P next) → P (moved now event world).world
unfolding moved
made_so P now (events.Check side) world same leads = same
made_so P now event world same leads = leads (moved now event world).answer (moved now event world).world (AsDefined refl refl)

-- what holds before an event and of where it leads holds of what is on its way
pub on_its_way : (P : World → Type 0) (now : ℕ) (one : Event) (world way : World) (run : List Event) (answers : List Answer) → OnWay now world run answers way → run ≡ one ∷ []
    → P world → ((answer : Answer) (next : World) → Moves now world one answer next → P next) → P way
on_its_way P now one world way run answers (AtStart here all said) e same leads = same
on_its_way P now one world way run answers (InEvent here event rest said) e same leads =
    subst (λ (o : Event). P (moved now o here).world) (sym (first_is event one rest [] e).0) (made_so P now one here same leads)
on_its_way P now one world way run answers (Later here next end event answer rest said moves on) e same leads =
    let first = first_is event one rest [] e in
    subst P (ends_there now next end rest said on first.1) (leads answer next (subst (λ (o : Event). Moves now here o answer next) first.0 moves))
