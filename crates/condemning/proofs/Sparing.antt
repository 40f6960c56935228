-- Deleting the options of the chain one after another, a lemma for each step: the first primary column emptied, and what is left. Assumes nothing.
use Prim.Native.Nat.{ℕ, zero, suc, ◌+◌, ◌-◌, ◌<◌}
use native.Mathlib.Omega.{arith}
use mathlib.Core.Path.{◌≡◌, refl, ◌∙◌, ap, sym, subst}
use mathlib.Core.Logic.{◌⊎◌, inl, inr, ⊎_elim, ◌≢◌}
use mathlib.Core.Bool.{Bool, true, false, not, ◌&&◌, cond}
use mathlib.Core.List.Memᴰ.{append_left as In-append-l}
use mathlib.Core.List.Memᴰ.{append_right as In-append-r}
use mathlib.Core.List.Memᴰ.{head as here}
use mathlib.Core.List.{List, [], ◌∷◌, ◌++◌, append_assoc, append-nil, Memᴰ as In}
use lib.Dec.{T, eqb}
use lib.ListN.{length}
use lib.IntN.{ℤ}
use Rattle.theorems.proofs.Words.Tests.{T_true, T_and}
use Rattle.theorems.proofs.Words.Lists.{each_append}
use Rattle.links.specs.Column.{at}
use Rattle.links.specs.Plan.{lo, EntryOf, Planned}
use Rattle.links.specs.Ground.{Ground, Tidy, Within, Holds, Fresh, taken, after}
use Rattle.links.specs.Row.{others, first_live}
use Rattle.links.specs.Shown.{Ready}
use Rattle.links.specs.Taking.{in_column, hides, node_blocked, first_out}
use Rattle.links.proofs.Plans.{entry-from}
use Rattle.links.proofs.Rows.{after-others, after-first}
use Rattle.links.proofs.Taken.{after-tidy, holds-after, taken-append, fresh-within, fresh-front, fresh-rest, taken-after}
use Rattle.links.proofs.Descending.{column-entry}
use Rattle.showing.specs.Showing.{full_before, deletes, Condemns, condemned_at}
use Rattle.showing.proofs.Deleted.{deletes-fresh, condemned-apart}
use Rattle.removing.specs.Deleting.{Deleting, Deleted}
use Rattle.removing.proofs.Emptying.{first_some, first-none}
use Rattle.links.specs.Lead.{Led, Leads}
use Rattle.condemning.specs.Condemning.{down_to, Chain, Sparing, Spared}

-- the list falls: it is empty, or it has a first element, and behind it those below that
pub down-front : (f : ℕ → Bool) (k : ℕ) → (down_to f k ≡ []) ⊎ ((x : ℕ) × (x < k) × (f x ≡ true) × (down_to f k ≡ x ∷ down_to f x))
down-front f zero = inl refl
down-front f (suc k) = go (f k) refl (down-front f k)
  where
    go : (b : Bool) → f k ≡ b → (down_to f k ≡ []) ⊎ ((x : ℕ) × (x < k) × (f x ≡ true) × (down_to f k ≡ x ∷ down_to f x))
        → (cond b (k ∷ down_to f k) (down_to f k) ≡ []) ⊎ ((x : ℕ) × (x < suc k) × (f x ≡ true) × (cond b (k ∷ down_to f k) (down_to f k) ≡ x ∷ down_to f x))
    go true e r = inr (k, omega arith, e, refl)
    go false e (inl r) = inl r
    go false e (inr r) = inr (r.0, omega (arith, r.1), r.2, r.3)

-- The loop is at r: the options `done` are deleted, and nothing was emptied; the chain at r has the rest.
pub record Deletes (g : Ground) (i np : ℕ) (tints : List ℕ) (heads : List ℤ) (up down : List ℕ) (r : ℕ) : Type 0 where
  pub done : List ℕ
  pub bound : ℕ
  pub split : down_to (condemned_at np i g) g.plan.N ≡ done ++ down_to (condemned_at np i g) bound
  pub chain : Chain g.plan tints r (down_to (condemned_at np i g) bound)
  pub none : first_out g np (deletes g done) ≡ 0
  pub holds : Holds (taken g (deletes g done)) heads up down

module _ (g : Ground) (R : Ready g) (i np : ℕ) (C : Condemns np i g (down_to (condemned_at np i g) g.plan.N)) where
  W : Planned g.plan
  W = R.tidy.planned

  pub all-fresh : Fresh g (deletes g (down_to (condemned_at np i g) g.plan.N))
  all-fresh =
      deletes-fresh g R (down_to (condemned_at np i g) g.plan.N) C.entry C.on (condemned-apart np i g (down_to (condemned_at np i g) g.plan.N) C)

  -- a condemned node is the first live entry of its option, in its column
  first-is : (x : ℕ) → condemned_at np i g x ≡ true → first_live g x ≡ true
  first-is x e =
      let a = (T_and (in_column g (i + 1) x) (not (full_before g x) && eqb (g.plan.tint x) 0 && node_blocked (taken g (hides g (i + 1))) x np) (subst T (sym e) tt)).1 in
      let b = (T_and (not (full_before g x) && eqb (g.plan.tint x) 0) (node_blocked (taken g (hides g (i + 1))) x np) a).0 in
      T_true (first_live g x) (T_and (not (full_before g x)) (eqb (g.plan.tint x) 0) b).0

  column-is : (x : ℕ) → condemned_at np i g x ≡ true → in_column g (i + 1) x ≡ true
  column-is x e = T_true (in_column g (i + 1) x)
      (T_and (in_column g (i + 1) x) (not (full_before g x) && eqb (g.plan.tint x) 0 && node_blocked (taken g (hides g (i + 1))) x np) (subst T (sym e) tt)).0

  entry-is : (x : ℕ) → condemned_at np i g x ≡ true → EntryOf g.plan x
  entry-is x e = (column-entry g R.tidy (i + 1) x (column-is x e)).0

  -- the loop begins
  pub deletes-begin : {tints : List ℕ} {heads : List ℤ} {up down : List ℕ} {z : ℕ} → Sparing g i np z heads up down tints → Deletes g i np tints heads up down z
  deletes-begin s = record { done = []; bound = g.plan.N; split = refl; chain = s.chain; none = refl; holds = s.holds }

  module _ {tints : List ℕ} {heads : List ℤ} {up down : List ℕ} {r : ℕ} (d : Deletes g i np tints heads up down r) where
    -- at 0 it is done
    pub deletes-end : r ≡ 0 → Spared g i np heads up down 0
    deletes-end z = ⊎_elim empty (λ w. absurd (some w)) (down-front (condemned_at np i g) d.bound)
      where
        some : (x : ℕ) × (x < d.bound) × (condemned_at np i g x ≡ true) × (down_to (condemned_at np i g) d.bound ≡ x ∷ down_to (condemned_at np i g) x) → ⊥
        some w =
            let c = subst (Chain g.plan tints r) w.3 d.chain in
            omega (arith, entry-from g.plan W w.0 (entry-is w.0 w.2), c.0, z)

        empty : down_to (condemned_at np i g) d.bound ≡ [] → Spared g i np heads up down 0
        empty e = record {
          done = d.done;
          left = down_to (condemned_at np i g) d.bound;
          split = d.split;
          all = λ q. e;
          holds = d.holds;
          emptied = sym d.none;
          answer = sym (ap (λ (l : List ℕ). first_out g np (deletes g l)) (d.split ∙ ap (λ (l : List ℕ). d.done ++ l) e ∙ append-nil d.done) ∙ d.none);
        }

    module _ (n : r ≢ 0) where
      rest : (r < d.bound) × (condemned_at np i g r ≡ true) × (down_to (condemned_at np i g) d.bound ≡ r ∷ down_to (condemned_at np i g) r)
      rest = ⊎_elim (λ e. absurd (n (subst (Chain g.plan tints r) e d.chain))) some (down-front (condemned_at np i g) d.bound)
        where
          some : (x : ℕ) × (x < d.bound) × (condemned_at np i g x ≡ true) × (down_to (condemned_at np i g) d.bound ≡ x ∷ down_to (condemned_at np i g) x)
              → (r < d.bound) × (condemned_at np i g r ≡ true) × (down_to (condemned_at np i g) d.bound ≡ r ∷ down_to (condemned_at np i g) r)
          some w =
              let c = subst (Chain g.plan tints r) w.3 d.chain in
              subst (λ (x : ℕ). (x < d.bound) × (condemned_at np i g x ≡ true) × (down_to (condemned_at np i g) d.bound ≡ x ∷ down_to (condemned_at np i g) x)) (sym c.0) (w.1, w.2, w.3)

      pub at_entry : EntryOf g.plan r
      at_entry = entry-is r rest.1

      next-chain : Chain g.plan tints (at tints (lo g.plan r - 1)) (down_to (condemned_at np i g) r)
      next-chain = (subst (Chain g.plan tints r) rest.2 d.chain).1

      -- one more, and those behind it
      more : deletes g (d.done ++ (r ∷ [])) ≡ deletes g d.done ++ (others g r ++ (r ∷ []))
      more = each_append (λ r. others g r ++ (r ∷ [])) d.done (r ∷ []) ∙ ap (λ (l : List ℕ). deletes g d.done ++ l) (append-nil (others g r ++ (r ∷ [])))

      whole : deletes g (down_to (condemned_at np i g) g.plan.N) ≡ (deletes g d.done ++ (others g r ++ (r ∷ []))) ++ deletes g (down_to (condemned_at np i g) r)
      whole =
          ap (deletes g) (d.split ∙ ap (λ (l : List ℕ). d.done ++ l) rest.2)
          ∙ each_append (λ r. others g r ++ (r ∷ [])) d.done (r ∷ down_to (condemned_at np i g) r)
          ∙ sym (append_assoc (deletes g d.done) (others g r ++ (r ∷ [])) (deletes g (down_to (condemned_at np i g) r)))

      fresh : Fresh g ((deletes g d.done ++ (others g r ++ (r ∷ []))) ++ deletes g (down_to (condemned_at np i g) r))
      fresh = subst (Fresh g) whole all-fresh

      fresh-done : Fresh g (deletes g d.done)
      fresh-done = fresh-front g (deletes g d.done) (others g r ++ (r ∷ []))
          (fresh-front g (deletes g d.done ++ (others g r ++ (r ∷ []))) (deletes g (down_to (condemned_at np i g) r)) fresh)

      fresh-next : Fresh (taken g (deletes g d.done)) (others g r ++ (r ∷ []))
      fresh-next = fresh-rest g (deletes g d.done) (others g r ++ (r ∷ [])) (fresh-front g (deletes g d.done ++ (others g r ++ (r ∷ []))) (deletes g (down_to (condemned_at np i g) r)) fresh)

      -- the ground without those that are deleted, its plan in plain sight
      now-tidy : Tidy (after g (deletes g d.done))
      now-tidy = after-tidy g (deletes g d.done) R.tidy fresh-done

      now-others : others (after g (deletes g d.done)) r ≡ others g r
      now-others = after-others g (deletes g d.done) R.tidy fresh-done r at_entry

      -- what the deletion asks
      within-next : (y : ℕ) → In y (others g r ++ (r ∷ [])) → Within (after g (deletes g d.done)) y
      within-next y m = subst (λ (x : Ground). Within x y) (taken-after g (deletes g d.done)) (fresh-within (taken g (deletes g d.done)) (others g r ++ (r ∷ [])) fresh-next m)

      pub at-deleting : Deleting (after g (deletes g d.done)) r heads up down
      at-deleting = record {
        tidy = now-tidy;
        entry = at_entry;
        others-in = λ y m. within-next y (In-append-l (r ∷ []) (subst (In y) now-others m));
        holds = holds-after g (deletes g d.done) d.holds;
      }

      pub at-within : Within (after g (deletes g d.done)) r
      at-within = within-next r (In-append-r (others g r) (here refl))

      -- what it answers
      module _ {heads' : List ℤ} {up' down' : List ℕ} {z : ℕ} (a : Deleted (after g (deletes g d.done)) np (others (after g (deletes g d.done)) r ++ (r ∷ [])) heads' up' down' z) where
        same_first : z ≡ first_out g np (deletes g d.done ++ (others g r ++ (r ∷ [])))
        same_first =
            a.answer
            ∙ ap (λ (l : List ℕ). first_out (after g (deletes g d.done)) np (l ++ (r ∷ []))) now-others
            ∙ ap (λ (x : Ground). first_out x np (others g r ++ (r ∷ []))) (sym (taken-after g (deletes g d.done)))
            ∙ sym (first-none g np (deletes g d.done) (others g r ++ (r ∷ [])) R.tidy fresh-done d.none)

        -- r's option is one of those deleted then
        split_next : down_to (condemned_at np i g) g.plan.N ≡ (d.done ++ (r ∷ [])) ++ down_to (condemned_at np i g) r
        split_next = d.split ∙ ap (λ (l : List ℕ). d.done ++ l) rest.2 ∙ sym (append_assoc d.done (r ∷ []) (down_to (condemned_at np i g) r))

        next_holds : Holds (taken g (deletes g (d.done ++ (r ∷ [])))) heads' up' down'
        next_holds = subst (λ (x : Ground). Holds x heads' up' down') place a.holds
          where
            place : taken (after g (deletes g d.done)) (others (after g (deletes g d.done)) r ++ (r ∷ [])) ≡ taken g (deletes g (d.done ++ (r ∷ [])))
            place =
                ap (λ (l : List ℕ). taken (after g (deletes g d.done)) (l ++ (r ∷ []))) now-others
                ∙ ap (λ (x : Ground). taken x (others g r ++ (r ∷ []))) (sym (taken-after g (deletes g d.done)))
                ∙ sym (taken-append g (deletes g d.done) (others g r ++ (r ∷ [])))
                ∙ ap (taken g) (sym more)

        then-fresh : Fresh g (deletes g (d.done ++ (r ∷ [])))
        then-fresh = subst (Fresh g) (sym more) (fresh-front g (deletes g d.done ++ (others g r ++ (r ∷ []))) (deletes g (down_to (condemned_at np i g) r)) fresh)

        next_first : z ≡ first_out g np (deletes g (d.done ++ (r ∷ [])))
        next_first = same_first ∙ sym (ap (first_out g np) more)

        pub deletes-stop : z ≢ 0 → Spared g i np heads' up' down' z
        deletes-stop m = record {
          done = d.done ++ (r ∷ []);
          left = down_to (condemned_at np i g) r;
          split = split_next;
          all = λ q. absurd (m q);
          holds = next_holds;
          emptied = next_first;
          answer =
              same_first
              ∙ sym (first_some g np (deletes g d.done ++ (others g r ++ (r ∷ []))) (deletes g (down_to (condemned_at np i g) r)) (λ q. m (same_first ∙ q)))
              ∙ ap (first_out g np) (sym whole);
        }

        pub deletes-next : z ≡ 0 → Deletes g i np tints heads' up' down' (at tints (lo g.plan r - 1))
        deletes-next e = record {
          done = d.done ++ (r ∷ []);
          bound = r;
          split = split_next;
          chain = next-chain;
          none = sym next_first ∙ e;
          holds = next_holds;
        }

        -- the boundary before r's option is found from r
        pub deleted-led : Led (after g (deletes g (d.done ++ (r ∷ [])))) r heads' down'
        deleted-led = record {
          tidy = after-tidy g (deletes g (d.done ++ (r ∷ []))) R.tidy then-fresh;
          entry = at_entry;
          heads-are = next_holds.heads-are;
          down-are = next_holds.down-are;
        }

        pub deleted-lead : {q : ℕ} → Leads (after g (deletes g (d.done ++ (r ∷ [])))) r q → q ≡ lo g.plan r - 1
        deleted-lead l = l.before (after-first g (deletes g (d.done ++ (r ∷ []))) R.tidy then-fresh r at_entry ∙ first-is r rest.1)

      -- the next is lower
      pub next-lower : at tints (lo g.plan r - 1) < r
      next-lower = ⊎_elim (λ e. let c = subst (Chain g.plan tints (at tints (lo g.plan r - 1))) e next-chain in omega (arith, c, entry-from g.plan W r at_entry))
          (λ w. let c = subst (Chain g.plan tints (at tints (lo g.plan r - 1))) w.3 next-chain in omega (arith, c.0, w.1)) (down-front (condemned_at np i g) r)

-- Where no column was emptied, the lists are those without all that were found.
pub spared-all : {g : Ground} {i np z : ℕ} {heads : List ℤ} {up down : List ℕ} → Spared g i np heads up down z → z ≡ 0
    → Holds (taken g (deletes g (down_to (condemned_at np i g) g.plan.N))) heads up down
spared-all {g} {i} {np} {z} {heads} {up} {down} s e =
    subst (λ (l : List ℕ). Holds (taken g (deletes g l)) heads up down) (sym (s.split ∙ ap (λ (l : List ℕ). s.done ++ l) (s.all e) ∙ append-nil s.done)) s.holds

-- The option of r is deleted too, and nothing was emptied: a walk back from r finds the boundary before it, and there is the next of the chain.
pub record Onwards (g : Ground) (i np r : ℕ) (tints : List ℕ) (heads : List ℤ) (up down : List ℕ) : Type 0 where
  pub done : List ℕ
  pub led : Led (after g (deletes g done)) r heads down
  pub inside : (q : ℕ) → Leads (after g (deletes g done)) r q → q < length tints
  pub lower : (q : ℕ) → Leads (after g (deletes g done)) r q → at tints q < r
  pub next : (q : ℕ) → Leads (after g (deletes g done)) r q → Deletes g i np tints heads up down (at tints q)

-- The same, from what the call is given.
module _ {g : Ground} {i np z : ℕ} {heads₀ : List ℤ} {up₀ down₀ tints : List ℕ} (s : Sparing g i np z heads₀ up₀ down₀ tints) where
  pub spare-begin : Deletes g i np tints heads₀ up₀ down₀ z
  spare-begin = deletes-begin g s.ready i np s.condemns s

  pub spare-end : {heads : List ℤ} {up down : List ℕ} → Deletes g i np tints heads up down 0 → Spared g i np heads up down 0
  spare-end d = deletes-end g s.ready i np s.condemns d refl

  -- where a walk back from r ends, there is the next of the chain
  pub spare-next : {heads : List ℤ} {up down : List ℕ} {r : ℕ} (d : Deletes g i np tints heads up down r) → r ≢ 0
      → {heads' : List ℤ} {up' down' : List ℕ} {y : ℕ} → Deleted (after g (deletes g d.done)) np (others (after g (deletes g d.done)) r ++ (r ∷ [])) heads' up' down' y → y ≡ 0
      → {q : ℕ} → Leads (after g (deletes g (d.done ++ (r ∷ [])))) r q → Deletes g i np tints heads' up' down' (at tints q)
  spare-next d n a e l = rw (deleted-lead g s.ready i np s.condemns d n a l) (deletes-next g s.ready i np s.condemns d n a e)

  module _ {heads : List ℤ} {up down : List ℕ} {r : ℕ} (d : Deletes g i np tints heads up down r × (r ≢ 0)) where
    pub spare-deleting : Deleting (after g (deletes g d.0.done)) r heads up down
    spare-deleting = at-deleting g s.ready i np s.condemns d.0 d.1

    pub spare-within : Within (after g (deletes g d.0.done)) r
    spare-within = at-within g s.ready i np s.condemns d.0 d.1

    pub spare-stop : {heads' : List ℤ} {up' down' : List ℕ} {y : ℕ}
        → Deleted (after g (deletes g d.0.done)) np (others (after g (deletes g d.0.done)) r ++ (r ∷ [])) heads' up' down' y → y ≢ 0
        → Spared g i np heads' up' down' y
    spare-stop a m = deletes-stop g s.ready i np s.condemns d.0 d.1 a m

    pub spare-onwards : {heads' : List ℤ} {up' down' : List ℕ} → Deleted (after g (deletes g d.0.done)) np (others (after g (deletes g d.0.done)) r ++ (r ∷ [])) heads' up' down' 0
        → Onwards g i np r tints heads' up' down'
    spare-onwards {heads'} {up'} {down'} a = record {
      done = d.0.done ++ (r ∷ []);
      led = deleted-led g s.ready i np s.condemns d.0 d.1 a;
      inside = λ q l. omega (arith, l.inside, s.tinted.room);
      lower = λ q l. rw (deleted-lead g s.ready i np s.condemns d.0 d.1 a l) (next-lower g s.ready i np s.condemns d.0 d.1);
      next = λ q l. spare-next d.0 d.1 a refl l;
    }
