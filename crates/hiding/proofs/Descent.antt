-- The walk down a column that hides the options of its uncoloured entries: where it stands, and each of its steps. Assumes nothing.
use Prim.Native.Nat.{ℕ, ◌+◌, ◌<◌, ◌≤◌}
use native.Mathlib.Omega.{arith}
use mathlib.Core.Path.{◌≡◌, refl, ◌∙◌, ap, sym, subst}
use mathlib.Core.Logic.{⊎_elim, ◌≢◌}
use mathlib.Core.List.{List, ◌++◌, Memᴰ as In}
use lib.ListN.{length}
use lib.IntN.{ℤ}
use Rattle.std.proofs.Common.{Option, None}
use Rattle.links.specs.Column.{at}
use Rattle.links.specs.Plan.{Plan, EntryOf}
use Rattle.links.specs.Ground.{Ground, Tidy, taken, Fresh, Holds}
use Rattle.links.specs.Row.{others}
use Rattle.links.specs.Taking.{gather_to, hidden, hides, last_out}
use Rattle.links.specs.Nodes.{column}
use Rattle.links.proofs.Stores.{same?}
use Rattle.links.proofs.Taken.{taken-append, taken-plan, taken-tidy, within-taken}
use Rattle.links.proofs.Rows.{others-taken}
use Rattle.links.proofs.Gathering.{gather-one, gather_none}
use Rattle.links.proofs.Descending.{reach, left, Stand, reach-past, reach-at, stand-next, step_less}
use Rattle.hiding.specs.Hiding.{Around, Column, Taken}
use Rattle.hiding.specs.Away.{Rising}
use Rattle.hiding.proofs.LastOut.{last_out-append}
use Rattle.hiding.proofs.Rises.{rising-apart}
use Rattle.hiding.proofs.Aways.{away-taken}
use Rattle.hiding.proofs.Gathered.{hidden-within, gathered-rising, gathered-fresh, gathered-off-column}
use Rattle.hiding.proofs.Columns.{head-stand, header-gathers, stand-inside, step-gathers, behind-headers, stand-entry, hidden-here, shown-here}

-- The nodes xs are taken out, and the answer says which primary column was so emptied last.
abbrev pub Gone : Ground → List ℕ → ℕ → List ℤ → List ℕ → List ℕ → Option ℕ → Type 0
Gone g xs np heads up down stack = (z : ℕ) × (stack ≡ column z) × Taken g xs np 0 heads up down z

-- The walk stands at rr: the lists are without the others of each hidden node that it passed.
pub record Descent (g : Ground) (c np : ℕ) (heads : List ℤ) (up down : List ℕ) (rr : ℕ) (stack : Option ℕ) : Type 0 where
  pub stand : Stand g c rr
  pub so_far : Gone g (gather_to (hidden g c) g (reach g.plan rr)) np heads up down stack

module _ {g : Ground} {tints : List ℕ} {c from : ℕ} (w : Column g tints c from) where
  t : Tidy g
  t = w.ready.tidy

  -- the nodes that are out when the walk has passed those before k
  abbrev out : ℕ → List ℕ
  out k = gather_to (hidden g c) g k

  pub room : {heads : List ℤ} {up down : List ℕ} → Holds g heads up down → g.plan.N ≤ length heads
  room k = rw k.heads-are t.heads-in

  -- the same taken, by another name
  renamed : {np : ℕ} {heads : List ℤ} {up down : List ℕ} {stack : Option ℕ} {xs ys : List ℕ} → xs ≡ ys → Gone g xs np heads up down stack → Gone g ys np heads up down stack
  renamed {np} {heads} {up} {down} {stack} e k = subst (λ (l : List ℕ). Gone g l np heads up down stack) e k

  -- in column c the links are those of the whole ground
  column-down : (k : ℕ) {heads : List ℤ} {up down : List ℕ} → Holds (taken g (out k)) heads up down → {x : ℕ} → Stand g c x → at down x ≡ at g.down x
  column-down k h {x} s =
      ap (λ (l : List ℕ). at l x) h.down-are
      ∙ (away-taken g (out k) t (gathered-rising g w.ready c k)).down-kept x (λ m. gathered-off-column g w.ready c k m (stand-next g t c w.header x s).col)

  -- the place is within the lists
  pub within : {heads : List ℤ} {up down : List ℕ} → Holds g heads up down → {rr : ℕ} → Stand g c rr → (rr < length up) × (rr < length down)
  within k s = rw (k.up-are, k.down-are) (omega (arith, stand-inside w s, t.ring.ups), omega (arith, stand-inside w s, t.ring.downs))

  pub begin : {np : ℕ} {heads : List ℤ} {up down : List ℕ} → Holds g heads up down → Descent g c np heads up down (at down c) None
  begin k =
      rw (column-down 0 k (head-stand w))
      (record {
        stand = stand-next g t c w.header c (head-stand w);
        so_far = renamed (sym (step-gathers w (head-stand w) ∙ header-gathers w)) (0, refl, record { holds = k; last = refl });
      })

  pub finish : {np : ℕ} {heads : List ℤ} {up down : List ℕ} {rr : ℕ} {stack : Option ℕ} → Descent g c np heads up down rr stack → rr < from → Gone g (hides g c) np heads up down stack
  unfolding hides
  finish {rr = rr} m l = renamed (ap out (reach-past g.plan rr (omega (arith, w.begins)))) m.so_far

  module _ {rr : ℕ} (s : Stand g c rr) (l : from ≤ rr) {np : ℕ} {heads : List ℤ} {up down : List ℕ} {stack : Option ℕ} where
    -- On to the node below, when rr is dealt with.
    module _ (k : Gone g (out (rr + 1)) np heads up down stack) where
      same-down : at down rr ≡ at g.down rr
      same-down = column-down (rr + 1) k.2.holds s

      -- q is what the code reads there
      module _ {q : ℕ} (e : q ≡ at down rr) where
        pub next : Descent g c np heads up down q stack
        next = rw (e, same-down) (record { stand = stand-next g t c w.header rr s; so_far = renamed (sym (step-gathers w s)) k })

        pub next-less : (n : ℕ) → g.plan.N ≤ n → left n from q < left n from rr
        next-less n h = rw (e, same-down, w.begins) (step_less g t c w.header rr s n h (behind-headers w s l))

    module _ (m : Descent g c np heads up down rr stack) where
      here : Gone g (out rr) np heads up down stack
      here = renamed (ap out (reach-at g.plan rr (behind-headers w s l))) m.so_far

      -- coloured: nothing is hidden
      pub spare : at tints rr ≢ 0 → Gone g (out (rr + 1)) np heads up down stack
      spare n = renamed (sym (gather_none (hidden g c) g rr (shown-here w s l n))) here

      module _ (z : at tints rr ≡ 0) where
        f : Fresh g (out rr)
        f = gathered-fresh g w.ready c rr

        one_more : out (rr + 1) ≡ out rr ++ others g rr
        one_more = gather-one (hidden g c) g rr (hidden-here w s l z)

        same-others : others (taken g (out rr)) rr ≡ others g rr
        same-others = others-taken g t (out rr) f rr (stand-entry w s l)

        once : {y : ℕ} → In y (out rr) → In y (others g rr) → ⊥
        once = rising-apart g (out rr) (others g rr) (subst (λ (xs : List ℕ). Rising g xs) one_more (gathered-rising g w.ready c (rr + 1)))

        -- what hiding the option asks ..
        pub around : Around (taken g (out rr)) rr
        around = record {
          tidy = taken-tidy g (out rr) t f;
          entry = subst (λ (P : Plan). EntryOf P rr) (sym (taken-plan g (out rr))) (stand-entry w s l);
          within = λ y i. let j = subst (λ (xs : List ℕ). In y xs) same-others i in within-taken g (out rr) t f (hidden-within g w.ready c rr (hidden-here w s l z) y j) (λ n. once n j);
        }

        pub around-holds : Holds (taken g (out rr)) heads up down
        around-holds = here.2.holds

        -- .. and gives
        hide : {heads₁ : List ℤ} {up₁ down₁ : List ℕ} {stack₁ : Option ℕ}
            → ((z : ℕ) → stack ≡ column z → (z₁ : ℕ) × (stack₁ ≡ column z₁) × Taken (taken g (out rr)) (others (taken g (out rr)) rr) np z heads₁ up₁ down₁ z₁)
            → Gone g (out (rr + 1)) np heads₁ up₁ down₁ stack₁
        hide {heads₁} {up₁} {down₁} more =
            let (z, e, h) = here in
            let (z₁, e₁, k) = more z e in
            renamed (sym one_more) (
              z₁,
              e₁,
              record {
                holds = subst (λ (h : Ground). Holds h heads₁ up₁ down₁) (ap (taken (taken g (out rr))) same-others ∙ sym (taken-append g (out rr) (others g rr))) k.holds;
                last = k.last ∙ ap (λ (xs : List ℕ). last_out (taken g (out rr)) np xs z) same-others ∙ ap (last_out (taken g (out rr)) np (others g rr)) h.last
                    ∙ sym (last_out-append g np (out rr) (others g rr) 0);
              },
            )

      -- the node is dealt with, whatever the test is called: its option hidden if the colour is 0, else left alone
      pub dealt : {n : ℕ} → n ≡ np → {heads₁ : List ℤ} {up₁ down₁ : List ℕ} {stack₁ : Option ℕ}
          → (at tints rr ≡ 0 → (h : Ground) (z : ℕ) → stack ≡ column z → Around h rr → Holds h heads up down → (z₁ : ℕ) × (stack₁ ≡ column z₁)
          × Taken h (others h rr) n z heads₁ up₁ down₁ z₁)
          → (at tints rr ≢ 0 → Gone g (out (rr + 1)) np heads up down stack → Gone g (out (rr + 1)) np heads₁ up₁ down₁ stack₁)
          → Gone g (out (rr + 1)) np heads₁ up₁ down₁ stack₁
      dealt e hides spares =
          ⊎_elim (λ z. hide z (λ y q. rw e at (hides z (taken g (out rr)) y q (around z) (around-holds z)))) (λ n. spares n (spare n)) (same? (at tints rr) 0)
