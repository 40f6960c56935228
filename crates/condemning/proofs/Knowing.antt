-- Marks stay known when nodes leave and entries are shortened, as long as the entries of an item that is still in some column keep their heads.
-- Assumes nothing.
use Prim.Native.Nat.{ℕ}
use mathlib.Core.Path.{◌≡◌, ◌∙◌, sym, subst}
use mathlib.Core.Bool.{Bool, true}
use mathlib.Core.List.{List}
use Rattle.links.specs.Head.{head}
use Rattle.links.specs.Column.{at}
use Rattle.links.specs.Plan.{Plan, EntryOf}
use Rattle.links.specs.Ground.{Ground}
use Rattle.condemning.specs.Marks.{HeldBy, Known}

-- the ground with its plan under another name
abbrev pub renamed : Ground → Plan → Ground
renamed h P = record { plan = P; on = h.on; heads = h.heads; up = h.up; down = h.down }

pub as-plan : (h : Ground) (P : Plan) → h.plan ≡ P → h ≡ renamed h P
as-plan h P e = λ i. record { plan = e i; on = h.on; heads = h.heads; up = h.up; down = h.down }

pub known-pass : (g h : Ground) (on on' : ℕ → Bool) (marks : List ℕ) → h.plan ≡ g.plan → ((y : ℕ) → on' y ≡ true → on y ≡ true)
    → ((y z : ℕ) → EntryOf g.plan y → on' y ≡ true → EntryOf g.plan z → g.plan.col z ≡ g.plan.col y → head h.heads z ≡ head g.heads z)
    → Known g on marks → Known h on' marks
known-pass g h on on' marks e less heads k = subst (λ (z : Ground). Known z on' marks) (sym (as-plan h g.plan e)) (record { room = k.room; names = names })
  where
    names : (y : ℕ) → EntryOf g.plan y → on' y ≡ true → (at marks (g.plan.col y) ≡ 0 → ⊥) → HeldBy (renamed h g.plan) (at marks (g.plan.col y)) y
    names y m o n =
        let w = k.names y m (less y o) n in
        record
        { entry = w.entry; mate = w.mate; mate-entry = w.mate-entry; row = w.row; full = heads y w.mate m o w.mate-entry w.item ∙ w.full; item = w.item }
