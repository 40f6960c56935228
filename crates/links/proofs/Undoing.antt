-- One node is taken out by `Nodes::fewer` and `Nodes::unlink`, and put back by `Nodes::more` and `Nodes::relink`: what they ask of lists that hold a ground
-- without the nodes xs, and what they leave. So nodes that are put back in the reverse of the order in which they went leave the very lists.
-- Assumes nothing.
use Prim.Native.Nat.{ℕ, ◌+◌, ◌-◌, ◌<◌}
use native.Mathlib.Omega.{arith}
use mathlib.Core.Path.{◌≡◌, refl, ◌∙◌, ap, sym, subst, fun_ext}
use Rattle.rules.specs.Bounds.{node_bound}
use mathlib.Core.Logic.{⊎_elim}
use mathlib.Core.Bool.{Bool, ◌||◌}
use mathlib.Core.List.{List, [], ◌∷◌, ◌++◌}
use borrow.Author.Tests.{eq-eqb, ne_eqb}
use lib.Dec.{eqb}
use lib.ListN.{length, set}
use lib.IntN.{ℤ, pos}
use Rattle.links.specs.Head.{item_of, head, Growing}
use Rattle.links.specs.Column.{at, cut_up, cut_down, tie_up, tie_down}
use Rattle.links.specs.Ground.{Ground, Tidy, Within, cut_one, taken, after, Fresh, Holds}
use Rattle.links.proofs.Stores.{same?}
use Rattle.links.proofs.Rings.{up-stays, down-stays}
use Rattle.links.proofs.Grounds.{node_in, col-in, length_some, length-small, cut-up-in, cut-down-in, cut-growing, back-up, back-down, back-heads, tidy-cut}
use Rattle.links.proofs.Taken.{taken-lengths, fresh-front, after_more, fresh-after, after-fresh, after-tidy}

-- Taking one node more.
module _ (g : Ground) (xs : List ℕ) (x : ℕ) (t : Tidy g) (f : Fresh g xs) (w : Within (after g xs) x) where
  now-tidy : Tidy (after g xs)
  now-tidy = after-tidy g xs t f

  pub fresh-one-more : Fresh g (xs ++ (x ∷ []))
  fresh-one-more = after-fresh g xs (x ∷ []) f (w, tt)

  module _ {heads : List ℤ} {up down : List ℕ} (l : Holds (taken g xs) heads up down) where
    pub take_out : Holds (taken g (xs ++ (x ∷ []))) (set heads (g.plan.col x) (pos (item_of (head heads (g.plan.col x)) - 1))) (cut_up up down x) (cut_down up down x)
    unfolding cut_one
    take_out =
        let e : cut_one (after g xs) x ≡ taken g (xs ++ (x ∷ [])) = after_more g xs (x ∷ []) in
        record {
          heads-are = rw l.heads-are (ap (λ (k : Ground). k.heads) e);
          up-are = rw (l.up-are, l.down-are) (ap (λ (k : Ground). k.up) e);
          down-are = rw (l.up-are, l.down-are) (ap (λ (k : Ground). k.down) e);
        }

    pub fewer-asks : (g.plan.col x < length heads) × (item_of (head heads (g.plan.col x)) < node_bound) × (0 < item_of (head heads (g.plan.col x)))
    fewer-asks =
        rw l.heads-are
        (col-in (after g xs) now-tidy x w, length-small (after g xs) now-tidy x w, length_some (after g xs) now-tidy x w)

    pub unlink-asks : (x < length up) × (x < length down) × (at up x < length down) × (at down x < length up)
    unlink-asks =
        let n = node_in (after g xs) now-tidy x w in
        rw (l.up-are, l.down-are)
        (omega (arith, n, now-tidy.ring.ups), omega (arith, n, now-tidy.ring.downs), cut-up-in (after g xs) now-tidy x w, cut-down-in (after g xs) now-tidy x w)

-- Putting the last node back gives the lists before it was taken.
module _ (g : Ground) (xs : List ℕ) (x : ℕ) (t : Tidy g) (f : Fresh g (xs ++ (x ∷ [])))
    {heads : List ℤ} {up down : List ℕ} (l : Holds (taken g (xs ++ (x ∷ []))) heads up down) where
  last_within : Within (after g xs) x
  last_within = (fresh-after g xs (x ∷ []) f).0

  before-tidy : Tidy (after g xs)
  before-tidy = after-tidy g xs t (fresh-front g xs (x ∷ []) f)

  last_one : taken g (xs ++ (x ∷ [])) ≡ cut_one (after g xs) x
  last_one = sym (after_more g xs (x ∷ []))

  heads-one : heads ≡ (cut_one (after g xs) x).heads
  heads-one = l.heads-are ∙ ap (λ (k : Ground). k.heads) last_one

  up_one : up ≡ (cut_one (after g xs) x).up
  up_one = l.up-are ∙ ap (λ (k : Ground). k.up) last_one

  down-one : down ≡ (cut_one (after g xs) x).down
  down-one = l.down-are ∙ ap (λ (k : Ground). k.down) last_one

  pub put_back : Holds (taken g xs) (set heads (g.plan.col x) (pos (item_of (head heads (g.plan.col x)) + 1))) (tie_up up down x) (tie_down up down x)
  put_back = record {
    heads-are = rw heads-one (back-heads (after g xs) before-tidy x last_within);
    up-are = rw (up_one, down-one) (back-up (after g xs) before-tidy x last_within);
    down-are = rw (up_one, down-one) (back-down (after g xs) before-tidy x last_within);
  }

  -- what the leaves ask for
  one-lengths : (length heads ≡ length (after g xs).heads) × (length up ≡ length (after g xs).up) × (length down ≡ length (after g xs).down)
  one-lengths = let r = taken-lengths (after g xs) (x ∷ []) in (ap length heads-one ∙ r.0, ap length up_one ∙ r.1, ap length down-one ∙ r.2)

  pub more-asks : Growing heads (g.plan.col x)
  more-asks = rw heads-one (cut-growing (after g xs) before-tidy x last_within)

  pub relink-asks : (x < node_bound) × (x < length up) × (x < length down) × (at up x < length down) × (at down x < length up)
  unfolding cut_one
  relink-asks =
      let G : Ground = after g xs in
      let u : at up x ≡ at G.up x = rw up_one (up-stays G.plan.N G.plan.col G.on G.up G.down before-tidy.ring x last_within.on) in
      let d : at down x ≡ at G.down x = rw down-one (down-stays G.plan.N G.plan.col G.on G.up G.down before-tidy.ring x last_within.on) in
      let n = node_in G before-tidy x last_within in (
        omega (arith, n, t.planned.small),
        omega (arith, n, one-lengths.1, before-tidy.ring.ups),
        omega (arith, n, one-lengths.2, before-tidy.ring.downs),
        omega (arith, u, one-lengths.2, cut-up-in G before-tidy x last_within),
        omega (arith, d, one-lengths.1, cut-down-in G before-tidy x last_within),
      )

-- All of them

-- x is put back between the neighbours that it has, and its column is one longer; and the nodes of a list are put back, the last of them first
abbrev pub tie_one : Ground → ℕ → Ground
tie_one g x = record {
  plan = g.plan;
  on = λ y. eqb y x || g.on y;
  heads = set g.heads (g.plan.col x) (pos (item_of (head g.heads (g.plan.col x)) + 1));
  up = tie_up g.up g.down x;
  down = tie_down g.up g.down x;
}

abbrev pub returned : Ground → List ℕ → Ground
returned g [] = g
returned g (x ∷ xs) = tie_one (returned g xs) x

tie-cut : (g : Ground) → Tidy g → (x : ℕ) → Within g x → tie_one (cut_one g x) x ≡ g
unfolding cut_one
tie-cut g t x w =
    ap (λ (on : ℕ → Bool).
    record { plan = g.plan; on = on; heads = (tie_one (cut_one g x) x).heads; up = (tie_one (cut_one g x) x).up; down = (tie_one (cut_one g x) x).down }) (fun_ext mask)
    ∙ rw (back-heads g t x w, back-up g t x w, back-down g t x w)
  where
    mask : (y : ℕ) → (eqb y x || (cut_one g x).on y) ≡ g.on y
    mask y = ⊎_elim (λ e. rw (eq-eqb y x e) (sym (ap g.on e ∙ w.on))) (λ n. rw (ne_eqb y x n)) (same? y x)

-- Nodes taken out and put back in the reverse order leave the ground as it was. A walk that undoes another need only meet the same nodes from the
-- last to the first: what was between, if it undid itself, does not matter.
pub returned-taken : (g : Ground) (xs : List ℕ) → Tidy g → Fresh g xs → returned (taken g xs) xs ≡ g
returned-taken g [] t f = refl
returned-taken g (x ∷ xs) t f = ap (λ (h : Ground). tie_one h x) (returned-taken (cut_one g x) xs (tidy-cut g t x f.0) f.1) ∙ tie-cut g t x f.0

-- the same, of the lists: they are the very ones of before
pub undone : (g : Ground) (xs : List ℕ) → Tidy g → Fresh g xs → {heads : List ℤ} {up down : List ℕ} → Holds (returned (taken g xs) xs) heads up down → Holds g heads up down
undone g xs t f {heads} {up} {down} = subst (λ (h : Ground). Holds h heads up down) (returned-taken g xs t f)
