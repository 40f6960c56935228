-- A column of which no entry is left comes back into sight, with its header alone: the lists are tidy. Assumes nothing.
use Prim.Native.Nat.{ℕ, ◌<◌, ◌≤◌}
use native.Mathlib.Omega.{arith}
use mathlib.Core.Path.{◌≡◌, ◌∙◌, ap, sym, subst}
use mathlib.Core.Logic.{◌⊎◌, inl, inr, ⊎_elim, ◌≢◌}
use mathlib.Core.Bool.{Bool, true}
use lib.ListN.{set, length-set}
use lib.Seq.{get_or-set_same}
use lib.IntN.{pos}
use Rattle.links.specs.Head.{head}
use Rattle.links.specs.Column.{at, Tied}
use Rattle.links.specs.Plan.{EntryOf, Header, Planned}
use Rattle.links.specs.Ground.{Ground, tally, Tidy}
use Rattle.links.proofs.Plans.{entry-no-header, header-before, past-no-header, before-no-header}
use Rattle.links.proofs.Tallies.{tally-has}
use Rattle.links.proofs.Stores.{same?, less?}
use Rattle.removing.proofs.OffColumn.{tally-alike}
use Rattle.removing.proofs.Shortening.{head-other, tied-other, row_other, edge_other}

module _ (g : Ground) (t : Tidy g) (c : ℕ) (h : Header g.plan c) (none : (y : ℕ) → g.on y ≡ true → g.plan.col y ≢ c)
    (on : ℕ → Bool) (own_on : on c ≡ true) (others-on : (y : ℕ) → y ≢ c → on y ≡ g.on y) where
  W : Planned g.plan
  W = t.planned

  before : c < g.plan.N
  before = omega (arith, header-before g.plan W c h, W.room)

  own-col : g.plan.col c ≡ c
  own-col = W.header c h

  -- the column's other nodes are out of sight
  was-other : (y : ℕ) → g.on y ≡ true → y ≢ c
  was-other y o e = none y o (ap g.plan.col e ∙ own-col)

  was : (y : ℕ) → y ≢ c → on y ≡ true → g.on y ≡ true
  was y n o = sym (others-on y n) ∙ o

  is : (y : ℕ) → g.on y ≡ true → on y ≡ true
  is y o = others-on y (was-other y o) ∙ o

  entry_other : (y : ℕ) → EntryOf g.plan y → y ≢ c
  entry_other y e q = entry-no-header g.plan W y e (subst (Header g.plan) (sym q) h)

  up-own : at (set g.up c c) c ≡ c
  up-own = get_or-set_same g.up c c 0 (omega (arith, before, t.ring.ups))

  down-own : at (set g.down c c) c ≡ c
  down-own = get_or-set_same g.down c c 0 (omega (arith, before, t.ring.downs))

  tied : (x : ℕ) → on x ≡ true → Tied g.plan.N g.plan.col on (set g.up c c) (set g.down c c) x
  tied x o = ⊎_elim own other (same? x c)
    where
      own : x ≡ c → Tied g.plan.N g.plan.col on (set g.up c c) (set g.down c c) x
      own e =
          rw e
          (record {
            inside = before;
            below_on = rw down-own own_on;
            above_on = rw up-own own_on;
            below-col = ap g.plan.col down-own;
            below_up = ap (at (set g.up c c)) down-own ∙ up-own;
            above_down = ap (at (set g.down c c)) up-own ∙ down-own;
            rises = inr (down-own ∙ sym own-col);
          })

      other : x ≢ c → Tied g.plan.N g.plan.col on (set g.up c c) (set g.down c c) x
      other n =
          let i = t.ring.tied x (was x n o) in
          tied-other g c c c on x i n (was-other (at g.down x) i.below_on) (was-other (at g.up x) i.above_on) (is (at g.down x) i.below_on) (is (at g.up x) i.above_on)

  none_left : tally g.plan on c ≡ 0
  none_left = go (less? 0 (tally g.plan on c))
    where
      go : (0 < tally g.plan on c) ⊎ (tally g.plan on c ≤ 0) → tally g.plan on c ≡ 0
      go (inl s) =
          let w = tally-has g.plan on c s in
          absurd (none w.0 (was w.0 (λ e. omega (arith, w.1, header-before g.plan W c h, e)) w.3) w.4)
      go (inr s) = omega arith

  counts : (i : ℕ) → Header g.plan i → on i ≡ true → head (set g.heads c (pos 0)) i ≡ pos (tally g.plan on i)
  counts i k o = ⊎_elim own other (same? i c)
    where
      own : i ≡ c → head (set g.heads c (pos 0)) i ≡ pos (tally g.plan on i)
      own e = rw e (get_or-set_same g.heads c (pos 0) (pos 0) (omega (arith, before, t.heads-in)) ∙ ap pos (sym none_left))

      other : i ≢ c → head (set g.heads c (pos 0)) i ≡ pos (tally g.plan on i)
      other n =
          head-other g c c c i n ∙ t.counts i k (was i n o)
          ∙ ap pos (tally-alike g.plan g.on on i (λ y e. sym (others-on y (λ q. n (sym e ∙ ap g.plan.col q ∙ own-col)))))

  pub tidy-empty : Tidy (record { plan = g.plan; on = on; heads = set g.heads c (pos 0); up = set g.up c c; down = set g.down c c })
  tidy-empty = record {
    planned = W;
    masked = λ y o. ⊎_elim (λ e. inl (subst (Header g.plan) (sym e) h)) (λ n. t.masked y (was y n o)) (same? y c);
    ring = record { ups = rw length-set t.ring.ups; downs = rw length-set t.ring.downs; tied = tied };
    heads-in = rw length-set t.heads-in;
    counts = counts;
    full = λ y e o. head-other g c c c y (entry_other y e) ∙ t.full y e (was y (entry_other y e) o);
    rows = λ y e. let n = entry_other y e in row_other g c c c on y n (others-on y n) (t.rows y e);
    edge = λ k l row.
        edge_other g c c c on k (λ q. past-no-header g.plan W k l row (subst (Header g.plan) (sym q) h))
        (λ q. before-no-header g.plan W k l row (subst (Header g.plan) (sym q) h)) (t.edge k l row);
  }
