-- A round and the rounds, as the code goes: what is left to do at each place is what the rules have left. Assumes nothing.
use Prim.Native.Nat.{ℕ, suc, ◌+◌, ◌-◌, ◌<◌, ◌≤◌}
use native.Mathlib.Omega.{arith}
use native.Mathlib.Numerals.{add-one}
use mathlib.Core.Path.{◌≡◌, refl, ◌∙◌, ap, sym, subst}
use mathlib.Core.Logic.{◌≢◌}
use mathlib.Core.Bool.{Bool, true, false, ◌||◌}
use mathlib.Core.List.{List, ◌∷◌}
use borrow.Author.Tests.{lt-ltb, le-ltb}
use lib.Dec.{ltb}
use lib.ListN.{length}
use lib.IntN.{ℤ}
use Rattle.std.specs.Prelude.{Ok, Err}
use Rattle.rules.specs.Bounds.{node_bound}
use Rattle.rules.specs.Paper.{cause_number}
use Rattle.rules.specs.Lists.{from}
use Rattle.rules.specs.State.{State, Step, went, in_live}
use Rattle.rules.specs.Rounds.{Finding, item_step, item_steps, round, after_round, rounds}
use Rattle.links.specs.declared.shape.Shape.{Shape}
use Rattle.links.specs.Head.{item_of, head}
use Rattle.links.specs.Plan.{Plan, Header}
use Rattle.links.specs.Ground.{Ground}
use Rattle.links.proofs.Plans.{header-before}
use Rattle.showing.specs.Showing.{state_of}
use Rattle.showing.proofs.Results.{live_test}
use Rattle.preproc.specs.declared.stop.Stop.{Stop}
use Rattle.preproc.specs.Standing.{Standing, Figured, Holding, Stepped, Ended}
use Rattle.preproc.proofs.Unrolling.{steps-over, steps-went, steps-emptied, steps-done, round-steps, rounds-after, rounds-done}

-- what a step goes on with, under another plan's name
goes-plan : {P Q : Plan} {x : Step} {more : Bool} {heads : List ℤ} {up down tints marks : List ℕ} → P ≡ Q
    → (s : State) × (x ≡ went s more) × Holding P s heads up down tints marks → (s : State) × (x ≡ went s more) × Holding Q s heads up down tints marks
goes-plan {x = x} {more = more} {heads} {up} {down} {tints} {marks} e t = subst (λ (X : Plan). (s : State) × (x ≡ went s more) × Holding X s heads up down tints marks) e t

-- A round is at item i: the lists hold the state, and the rest of the round is the rules' rest.
pub record RoundAt (P : Plan) (total : Step) (np n i : ℕ) (removed : Bool) (heads : List ℤ) (up down tints marks : List ℕ) : Type 0 where
  pub state : State
  pub holding : Holding P state heads up down tints marks
  pub rest : total ≡ item_steps np (from i (n - i)) state removed

pub round-begin : {g : Ground} (np n : ℕ) {heads : List ℤ} {up down tints marks : List ℕ} → Standing g heads up down tints marks
    → RoundAt g.plan (round np n (state_of g)) np n 0 false heads up down tints marks
round-begin {g} np n s = record {
  state = state_of g;
  holding = record { ground = g; plan = refl; shows = refl; standing = s };
  rest = round-steps np n (state_of g) ∙ (let e : n ≡ n - 0 = omega arith in ap (λ (k : ℕ). item_steps np (from 0 k) (state_of g) false) e);
}

module _ {P : Plan} {shape : Shape} (f : Figured P shape) where
  module _ {total : Step} {i : ℕ} {removed : Bool} {heads : List ℤ} {up down tints marks : List ℕ} (G : RoundAt P total shape.np shape.n i removed heads up down tints marks) where
    -- at the end nothing is left
    pub round-end : shape.n ≤ i → Stepped P total (Ok removed) heads up down tints marks
    round-end l = record {
      stops = tt;
      goes = (G.state, G.rest ∙ (let e : shape.n - i ≡ 0 = omega arith in ap (λ (k : ℕ). item_steps shape.np (from i k) G.state removed) e) ∙ steps-done shape.np G.state removed, G.holding);
    }

    module _ (l : i < shape.n) where
      pub round-figured : Figured G.holding.ground.plan shape
      round-figured = subst (λ (X : Plan). Figured X shape) (sym G.holding.plan) f

      pub round-header : Header G.holding.ground.plan (i + 1)
      round-header = subst (λ (X : Plan). Header X (i + 1)) (sym G.holding.plan) (record { above = omega arith; below = omega (arith, f.items) })

      pub round-standing : Standing G.holding.ground heads up down tints marks
      round-standing = G.holding.standing

      -- the column is within the list
      pub round-in : i + 1 < length heads
      round-in =
          let w = G.holding.standing in
          rw w.holds.heads-are (omega (arith, header-before G.holding.ground.plan w.ready.tidy.planned (i + 1) round-header, w.ready.tidy.planned.room, w.ready.tidy.heads-in))

      pub round-small : i + 1 < node_bound
      round-small = let w = G.holding.standing in
          omega (arith, header-before G.holding.ground.plan w.ready.tidy.planned (i + 1) round-header, w.ready.tidy.planned.room, w.ready.tidy.planned.small)

      one_more : total ≡ item_steps shape.np (i ∷ from (i + 1) (shape.n - (i + 1))) G.state removed
      one_more =
          let e : shape.n - i ≡ suc (shape.n - (i + 1)) = omega arith in
          G.rest ∙ ap (λ (k : ℕ). item_steps shape.np (from i k) G.state removed) e ∙ ap (λ (k : ℕ). item_steps shape.np (i ∷ from k (shape.n - (i + 1))) G.state removed) (sym (add-one i))

      live-is : in_live i G.state ≡ ltb 0 (item_of (head heads (i + 1)))
      live-is =
          let w = G.holding.standing in
          sym (ap (in_live i) G.holding.shows)
          ∙ live_test G.holding.ground w.ready i (omega (arith, round-header.below))
          ∙ ap (λ (x : List ℤ). ltb 0 (item_of (head x (i + 1)))) (sym w.holds.heads-are)

      -- an item in no option is passed over
      pub round-over : item_of (head heads (i + 1)) ≡ 0 → RoundAt P total shape.np shape.n (i + 1) removed heads up down tints marks
      round-over z = record {
        state = G.state;
        holding = G.holding;
        rest = one_more ∙ steps-over shape.np i (from (i + 1) (shape.n - (i + 1))) G.state removed (live-is ∙ le-ltb 0 (item_of (head heads (i + 1))) (omega arith));
      }

      -- any other takes its step
      module _ (z : item_of (head heads (i + 1)) ≢ 0) where
        live : in_live i G.state ≡ true
        live = live-is ∙ lt-ltb 0 (item_of (head heads (i + 1))) (omega arith)

        same_step : item_step shape.np i G.state ≡ item_step shape.np i (state_of G.holding.ground)
        same_step = ap (item_step shape.np i) (sym G.holding.shows)

        pub round-stop : {stop : Stop} {heads' : List ℤ} {up' down' tints' marks' : List ℕ}
            → Stepped G.holding.ground.plan (item_step shape.np i (state_of G.holding.ground)) (Err stop) heads' up' down' tints' marks'
            → Stepped P total (Err stop) heads' up' down' tints' marks'
        round-stop {stop} t = record {
          stops = one_more ∙ steps-emptied shape.np i (from (i + 1) (shape.n - (i + 1))) G.state removed stop.item.0 (cause_number stop.cause) live (same_step ∙ t.stops);
          goes = tt;
        }

        pub round-next : {more : Bool} {heads' : List ℤ} {up' down' tints' marks' : List ℕ}
            → Stepped G.holding.ground.plan (item_step shape.np i (state_of G.holding.ground)) (Ok more) heads' up' down' tints' marks'
            → RoundAt P total shape.np shape.n (i + 1) (removed || more) heads' up' down' tints' marks'
        round-next {more} t =
            let w = goes-plan G.holding.plan t.goes in
            record {
              state = w.0;
              holding = w.2;
              rest = one_more ∙ steps-went shape.np i (from (i + 1) (shape.n - (i + 1))) G.state w.0 removed more live (same_step ∙ w.1);
            }

-- The rounds are at round r: the lists hold the state, and the rest is the rules' rest.
pub record Turning (P : Plan) (total : Finding) (np n cap r : ℕ) (heads : List ℤ) (up down tints marks : List ℕ) : Type 0 where
  pub state : State
  pub holding : Holding P state heads up down tints marks
  pub rest : total ≡ rounds np n (cap - r) r state

pub rounds-begin : {g : Ground} (np n cap : ℕ) {heads : List ℤ} {up down tints marks : List ℕ} → Standing g heads up down tints marks
    → Turning g.plan (rounds np n cap 0 (state_of g)) np n cap 0 heads up down tints marks
rounds-begin {g} np n cap s = record {
  state = state_of g;
  holding = record { ground = g; plan = refl; shows = refl; standing = s };
  rest = let e : cap ≡ cap - 0 = omega arith in ap (λ (k : ℕ). rounds np n k 0 (state_of g)) e;
}

module _ {P : Plan} {shape : Shape} (f : Figured P shape) (cap : ℕ) where
  module _ {total : Finding} {r : ℕ} {heads : List ℤ} {up down tints marks : List ℕ} (G : Turning P total shape.np shape.n cap r heads up down tints marks) where
    -- the cap is reached
    pub rounds-end : {ran : ℕ} → cap ≤ r → ran ≡ r → Ended P total (Ok (record { rounds = ran; settled = false })) heads up down tints marks
    rounds-end l a = rw a (record {
      stops = tt;
      goes = (G.state, G.rest ∙ (let e : cap - r ≡ 0 = omega arith in ap (λ (k : ℕ). rounds shape.np shape.n k r G.state) e) ∙ rounds-done shape.np shape.n r G.state, G.holding);
    })

    pub rounds-figured : Figured G.holding.ground.plan shape
    rounds-figured = subst (λ (X : Plan). Figured X shape) (sym G.holding.plan) f

    module _ (l : r < cap) where
      turn_more : {x : Step} → round shape.np shape.n (state_of G.holding.ground) ≡ x → total ≡ after_round x (r + 1) (λ s'. rounds shape.np shape.n (cap - (r + 1)) (r + 1) s')
      turn_more {x} q =
          let e : cap - r ≡ suc (cap - (r + 1)) = omega arith in
          G.rest
          ∙ ap (λ (k : ℕ). rounds shape.np shape.n k r G.state) e
          ∙ rounds-after shape.np shape.n (cap - (r + 1)) r G.state (ap (round shape.np shape.n) (sym G.holding.shows) ∙ q)
          ∙ ap (λ (k : ℕ). after_round x k (λ s'. rounds shape.np shape.n (cap - (r + 1)) k s')) (sym (add-one r))

      pub rounds-stop : {stop : Stop} {heads' : List ℤ} {up' down' tints' marks' : List ℕ}
          → Stepped G.holding.ground.plan (round shape.np shape.n (state_of G.holding.ground)) (Err stop) heads' up' down' tints' marks'
          → Ended P total (Err (record { item = stop.item; cause = stop.cause; round = r + 1 })) heads' up' down' tints' marks'
      rounds-stop t = record { stops = turn_more t.stops; goes = tt }

      pub rounds-settled : {heads' : List ℤ} {up' down' tints' marks' : List ℕ}
          → Stepped G.holding.ground.plan (round shape.np shape.n (state_of G.holding.ground)) (Ok false) heads' up' down' tints' marks'
          → Ended P total (Ok (record { rounds = r + 1; settled = true })) heads' up' down' tints' marks'
      rounds-settled t = let w = goes-plan G.holding.plan t.goes in record { stops = tt; goes = (w.0, turn_more w.1, w.2) }

      pub rounds-next : {heads' : List ℤ} {up' down' tints' marks' : List ℕ}
          → Stepped G.holding.ground.plan (round shape.np shape.n (state_of G.holding.ground)) (Ok true) heads' up' down' tints' marks'
          → Turning P total shape.np shape.n cap (r + 1) heads' up' down' tints' marks'
      rounds-next t = let w = goes-plan G.holding.plan t.goes in record { state = w.0; holding = w.2; rest = turn_more w.1 }
