-- The walk down a column that puts the options of its uncoloured entries back: where it stands, and each of its steps. Assumes nothing.
use Prim.Native.Nat.{ℕ, ◌+◌, ◌<◌, ◌≤◌}
use native.Mathlib.Omega.{arith}
use mathlib.Core.Path.{◌≡◌, ◌∙◌, ap, sym, subst}
use mathlib.Core.Logic.{◌≢◌}
use mathlib.Core.List.Memᴰ.{append_right as In-append-r}
use mathlib.Core.List.{List, ◌++◌, Memᴰ as In}
use lib.ListN.{length}
use lib.IntN.{ℤ}
use Rattle.links.specs.Column.{at}
use Rattle.links.specs.Ground.{Ground, Tidy, taken, Holds}
use Rattle.links.specs.Row.{others}
use Rattle.links.specs.Taking.{gather_to, hidden, hides}
use Rattle.links.proofs.Gathering.{gather_none}
use Rattle.links.proofs.Descending.{reach, left, Stand, reach-past, reach-at, stand-next, step-far, step_less}
use Rattle.hiding.specs.Hiding.{Column}
use Rattle.hiding.specs.Away.{Rising, Away, Returning}
use Rattle.hiding.proofs.Rises.{rising-rest}
use Rattle.hiding.proofs.Aways.{all_back, away-room, away-taken}
use Rattle.hiding.proofs.Order.{gather_later, gather-split, later_same, later-one, later-none}
use Rattle.hiding.proofs.Gathered.{gathered-rising, gathered-off-column}
use Rattle.hiding.proofs.Columns.{head-stand, header-gathers, stand-inside, further, step-gathers, behind-headers, stand-entry, hidden-here, shown-here}

-- The walk stands at rr: the others of each hidden node from there on are away.
pub record DescentBack (g : Ground) (c : ℕ) (heads : List ℤ) (up down : List ℕ) (rr : ℕ) : Type 0 where
  pub stand : Stand g c rr
  pub away : Away g (gather_later (hidden g c) g (reach g.plan rr)) heads up down

module _ {g : Ground} {tints : List ℕ} {c from : ℕ} (w : Column g tints c from) where
  t : Tidy g
  t = w.ready.tidy

  -- the nodes that are away when the walk has passed those before k
  abbrev out : ℕ → List ℕ
  out k = gather_later (hidden g c) g k

  renamed : {heads : List ℤ} {up down : List ℕ} {xs ys : List ℕ} → xs ≡ ys → Away g xs heads up down → Away g ys heads up down
  renamed {heads} {up} {down} e k = subst (λ (l : List ℕ). Away g l heads up down) e k

  out-rising : (k : ℕ) → k ≤ g.plan.N → Rising g (out k)
  out-rising k l = rising-rest g (gather_to (hidden g c) g k) (out k) (subst (λ (xs : List ℕ). Rising g xs) (gather-split (hidden g c) g k l) (gathered-rising g w.ready c g.plan.N))

  -- in column c the links are those of the whole ground
  column-down : (k : ℕ) → k ≤ g.plan.N → {heads : List ℤ} {up down : List ℕ} → Away g (out k) heads up down → {x : ℕ} → Stand g c x → at down x ≡ at g.down x
  column-down k l a {x} s =
      a.down-kept x (λ m. gathered-off-column g w.ready c g.plan.N
      (subst (λ (xs : List ℕ). In (at g.down x) xs) (sym (gather-split (hidden g c) g k l)) (In-append-r (gather_to (hidden g c) g k) m)) (stand-next g t c w.header x s).col)

  -- where the walk begins, all are away
  module _ {heads : List ℤ} {up down : List ℕ} (k : Holds (taken g (hides g c)) heads up down) where
    all-away : Away g (out 0) heads up down
    unfolding hides
    all-away =
        renamed (gather-split (hidden g c) g 0 (omega arith))
        (rw (k.heads-are, k.up-are, k.down-are) (away-taken g (gather_to (hidden g c) g g.plan.N) t (gathered-rising g w.ready c g.plan.N)))

    pub room : g.plan.N ≤ length heads
    room = away-room g t all-away

    -- the place is within the lists
    pub within : {rr : ℕ} → Stand g c rr → (rr < length up) × (rr < length down)
    within s = (omega (arith, all-away.ups, stand-inside w s, t.ring.ups), omega (arith, all-away.downs, stand-inside w s, t.ring.downs))

    pub begin : DescentBack g c heads up down (at down c)
    begin =
        rw (column-down 0 (omega arith) all-away (head-stand w))
        (record {
          stand = stand-next g t c w.header c (head-stand w);
          away = renamed
              (later_same (hidden g c) g 0 (reach g.plan (at g.down c)) (omega arith) (step-far g t c w.header c (head-stand w)).1 (sym (step-gathers w (head-stand w) ∙ header-gathers w)))
              all-away;
        })

  pub finish : {heads : List ℤ} {up down : List ℕ} {rr : ℕ} → DescentBack g c heads up down rr → rr < from → Holds g heads up down
  finish {rr = rr} m l = all_back g (renamed (ap out (reach-past g.plan rr (omega (arith, w.begins))) ∙ later-none (hidden g c) g) m.away)

  module _ {rr : ℕ} (s : Stand g c rr) (l : from ≤ rr) {heads : List ℤ} {up down : List ℕ} where
    -- On to the node below, when rr is dealt with.
    module _ (k : Away g (out (rr + 1)) heads up down) where
      same-down : at down rr ≡ at g.down rr
      same-down = column-down (rr + 1) (further w s) k s

      -- q is what the code reads there
      module _ {q : ℕ} (e : q ≡ at down rr) where
        pub next : DescentBack g c heads up down q
        next =
            rw (e, same-down)
            (record {
              stand = stand-next g t c w.header rr s;
              away = renamed (later_same (hidden g c) g (rr + 1) (reach g.plan (at g.down rr)) (further w s) (step-far g t c w.header rr s).1 (sym (step-gathers w s))) k;
            })

        pub next-less : (n : ℕ) → g.plan.N ≤ n → left n from q < left n from rr
        next-less n h = rw (e, same-down, w.begins) (step_less g t c w.header rr s n h (behind-headers w s l))

    module _ (m : DescentBack g c heads up down rr) where
      here : Away g (out rr) heads up down
      here = renamed (ap out (reach-at g.plan rr (behind-headers w s l))) m.away

      -- coloured: nothing of its option is away
      pub spare : at tints rr ≢ 0 → Away g (out (rr + 1)) heads up down
      spare n = renamed (later_same (hidden g c) g rr (rr + 1) (omega (arith, further w s)) (further w s) (sym (gather_none (hidden g c) g rr (shown-here w s l n)))) here

      module _ (z : at tints rr ≡ 0) where
        one_more : out rr ≡ others g rr ++ out (rr + 1)
        one_more = later-one (hidden g c) g rr (stand-inside w s) (hidden-here w s l z)

        -- what putting the option back asks
        pub behind : Returning g rr (out (rr + 1))
        behind = record { tidy = t; entry = stand-entry w s l; rising = subst (λ (xs : List ℕ). Rising g xs) one_more (out-rising rr (omega (arith, further w s))) }

        pub behind-away : Away g (others g rr ++ out (rr + 1)) heads up down
        behind-away = renamed one_more here
