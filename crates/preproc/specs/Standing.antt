-- What the lists hold between an item's step and the next, and what a step, a round and the rounds come to, in the words of the rules.
-- Assumes nothing.
use Rattle.std.specs.Prelude.{ℕ, ◌≤◌, ◌≡◌, Bool, List, ℤ, Option as Optional, Some, None, Result, IfOk, IfErr}
use Rattle.std.proofs.Math.Option.{Option, none, some}
use Rattle.rules.specs.declared.number.Item.{Item}
use Rattle.rules.specs.Paper.{cause_number}
use Rattle.rules.specs.State.{State, Step, went, emptied}
use Rattle.rules.specs.Rounds.{Finding, reduced, infeasible}
use Rattle.links.specs.declared.shape.Shape.{Shape}
use Rattle.links.specs.Plan.{Plan, start}
use Rattle.links.specs.Ground.{Ground, Holds}
use Rattle.links.specs.Shown.{Ready, Tinted}
use Rattle.condemning.specs.Marks.{Known}
use Rattle.showing.specs.Showing.{state_of}
use Rattle.preproc.specs.declared.stop.Stop.{Stop}
use Rattle.preproc.specs.declared.rounds.Done.{Done}
use Rattle.preproc.specs.declared.rounds.Infeasible.{Infeasible}

-- The ground is ready, and the lists hold it.
pub record Standing (g : Ground) (heads : List ℤ) (up down tints marks : List ℕ) : Type 0 where
  pub ready : Ready g
  pub tinted : Tinted g.plan tints
  pub known : Known g g.on marks
  pub holds : Holds g heads up down

-- the shape that the nodes tell is the plan's
pub record Figured (P : Plan) (shape : Shape) : Type 0 where
  pub begins : shape.start ≡ start P
  pub few : shape.np ≤ P.n
  pub items : shape.n ≡ P.n

-- The lists hold a ground of the same plan, which shows the state s.
pub record Holding (P : Plan) (s : State) (heads : List ℤ) (up down tints marks : List ℕ) : Type 0 where
  pub ground : Ground
  pub plan : ground.plan ≡ P
  pub shows : state_of ground ≡ s
  pub standing : Standing ground heads up down tints marks

-- A step's answer: an error if a primary item is left in no option, else whether something was removed.
pub record Stepped (P : Plan) (step : Step) (answer : Result Bool Stop) (heads : List ℤ) (up down tints marks : List ℕ) : Type 0 where
  pub stops : IfErr answer (λ s. step ≡ emptied s.item.0 (cause_number s.cause))
  pub goes : IfOk answer (λ removed. (s : State) × (step ≡ went s removed) × Holding P s heads up down tints marks)

-- The rounds' answer.
pub record Ended (P : Plan) (finding : Finding) (answer : Result Done Infeasible) (heads : List ℤ) (up down tints marks : List ℕ) : Type 0 where
  pub stops : IfErr answer (λ f. finding ≡ infeasible f.item.0 (cause_number f.cause) f.round)
  pub goes : IfOk answer (λ d. (s : State) × (finding ≡ reduced s d.rounds d.settled) × Holding P s heads up down tints marks)

-- The heads are those of a ground that is ready: enough to see which items are in no option.
pub record Looking (g : Ground) (np : ℕ) (heads : List ℤ) : Type 0 where
  pub ready : Ready g
  pub few : np ≤ g.plan.n
  pub heads-are : heads ≡ g.heads

-- the item found by the rules, as the code tells it
abbrev pub item_told : Option ℕ → Optional Item
item_told none = None
item_told (some q) = Some (record { 0 = q })
