-- Testing the options of a column while its item is hidden, a lemma for each step. Assumes nothing.
use Prim.Native.Nat.{ℕ, ◌+◌, ◌-◌, ◌<◌, ◌≤◌}
use native.Mathlib.Omega.{arith}
use mathlib.Core.Path.{◌≡◌, refl, ◌∙◌, ap, sym, subst}
use mathlib.Core.Logic.{⊎_elim, ◌≢◌}
use mathlib.Core.Bool.{Bool, true, false, not, ◌&&◌}
use mathlib.Core.List.{List, [], Memᴰ as In}
use borrow.Author.Tests.{eq-eqb, ne_eqb}
use lib.Dec.{T, leb, eqb}
use lib.ListN.{set}
use lib.IntN.{ℤ}
use Rattle.theorems.proofs.Words.Tests.{T_true, T_and}
use Rattle.links.specs.Head.{item_of, head}
use Rattle.links.specs.Column.{at}
use Rattle.links.specs.Plan.{start, lo, EntryOf, Header, Planned}
use Rattle.links.specs.Ground.{Ground, Holds, taken}
use Rattle.links.specs.Row.{first_live}
use Rattle.links.specs.Shown.{Ready}
use Rattle.links.specs.Taking.{in_column, hides, node_blocked, Tested}
use Rattle.links.proofs.Stores.{same?}
use Rattle.links.proofs.Taken.{on-taken, taken-entry-head}
use Rattle.links.proofs.Rows.{after-first}
use Rattle.links.proofs.Descending.{Stand, column→, column←, column-entry, reach, stand-header, stand-next, step-gap, step-far, header-gap}
use Rattle.showing.specs.Showing.{full_before, condemned_at}
use Rattle.showing.proofs.HiddenStates.{hiding, hiding-is, hides-fresh, hiding-tidy, hiding-own}
use Rattle.showing.proofs.TestedNode.{tested-hidden}
use Rattle.links.specs.Lead.{Led, Leads}
use Rattle.condemning.specs.Marks.{Known, Marking}
use Rattle.condemning.specs.Condemning.{down_to, Chain, Tried}
use Rattle.condemning.proofs.Chains.{down-yes, down-no, down-same, In-down, tinted-set, chain-push}
use Rattle.condemning.proofs.Knowing.{known-pass}

module _ (g : Ground) (R : Ready g) (i : ℕ) where
  h : Ground
  h = hiding g i

  W : Planned g.plan
  W = R.tidy.planned

  -- the column of the hidden item is as it was
  column-same : (k : ℕ) → in_column (hiding g i) (i + 1) k ≡ in_column g (i + 1) k
  column-same k = ⊎_elim own other (same? (g.plan.col k) (i + 1))
    where
      own : g.plan.col k ≡ i + 1 → in_column (hiding g i) (i + 1) k ≡ in_column g (i + 1) k
      own e = ap (λ (b : Bool). b && eqb (g.plan.col k) (i + 1) && leb (start g.plan) k) (hiding-own g R i k e)

      none : (b : Bool) → (b && false && leb (start g.plan) k) ≡ false
      none true = refl
      none false = refl

      off : (b : Bool) → g.plan.col k ≢ i + 1 → (b && eqb (g.plan.col k) (i + 1) && leb (start g.plan) k) ≡ false
      off b n = ap (λ (t : Bool). b && t && leb (start g.plan) k) (ne_eqb (g.plan.col k) (i + 1) n) ∙ none b

      other : g.plan.col k ≢ i + 1 → in_column (hiding g i) (i + 1) k ≡ in_column g (i + 1) k
      other n = off ((hiding g i).on k) n ∙ sym (off (g.on k) n)

  -- entries keep their heads, so the same entries are first
  head-same : (y : ℕ) → EntryOf g.plan y → head (hiding g i).heads y ≡ head g.heads y
  head-same = taken-entry-head g (hides g (i + 1)) R.tidy (hides-fresh g R i)

  first-same : (r : ℕ) → EntryOf g.plan r → first_live (hiding g i) r ≡ first_live g r
  first-same = after-first g (hides g (i + 1)) R.tidy (hides-fresh g R i)

  -- what is known of the marks is known while the item is hidden, and afterwards
  pub known-hidden : (marks : List ℕ) → Known g g.on marks → Known (hiding g i) g.on marks
  known-hidden marks k = known-pass g (hiding g i) g.on g.on marks refl (λ y o. o) (λ y z a o e q. head-same z e) k

  pub hidden-known : (marks : List ℕ) → Known (hiding g i) g.on marks → Known g g.on marks
  hidden-known marks k = known-pass (hiding g i) g g.on g.on marks refl (λ y o. o) (λ y z a o e q. sym (head-same z e)) k

  module _ (r : ℕ) (c : in_column g (i + 1) r ≡ true) where
    entry : EntryOf g.plan r
    entry = (column-entry g R.tidy (i + 1) r c).0

    -- what the walk back and the marking ask
    pub hidden-led : {heads : List ℤ} {up down : List ℕ} → Holds (taken g (hides g (i + 1))) heads up down → Led (hiding g i) r heads down
    hidden-led w = record { tidy = hiding-tidy g R i; entry = entry; heads-are = w.heads-are; down-are = w.down-are }

    pub hidden-marking : {heads : List ℤ} {up down : List ℕ} → Holds (taken g (hides g (i + 1))) heads up down → first_live g r ≡ true → (marks : List ℕ)
        → Known g g.on marks → Marking (hiding g i) g.on r heads marks
    hidden-marking w f marks k = record {
      tidy = hiding-tidy g R i;
      entry = entry;
      first = first-same r entry ∙ f;
      wider = λ y o. (on-taken g (hides g (i + 1)) y o).0;
      heads-are = w.heads-are;
      known = known-hidden marks k;
    }

    -- what the test asks
    pub hidden-tested : g.plan.tint r ≡ 0 → Tested (hiding g i) r
    hidden-tested z = subst (λ (x : Ground). Tested x r) (hiding-is g i) (tested-hidden g R i r entry (column→ g (i + 1) r c).0 (column→ g (i + 1) r c).1 z)

    -- r was the first live entry, or not
    pub led-first : {z : ℕ} → Leads (hiding g i) r z → eqb (item_of (head (hiding g i).heads z)) 0 ≡ first_live g r
    led-first l = l.first ∙ first-same r entry

    pub led-before : {z : ℕ} → Leads (hiding g i) r z → first_live g r ≡ true → z ≡ lo g.plan r - 1
    led-before l f = l.before (first-same r entry ∙ f)

    -- Whether r's option is condemned.
    module _ (np : ℕ) where
      condemned-is : (a b d : Bool) → first_live g r ≡ a → eqb (g.plan.tint r) 0 ≡ b → node_blocked (taken g (hides g (i + 1))) r np ≡ d → condemned_at np i g r ≡ (a && b && d)
      condemned-is a b d x y z = rw (c, x, y, z)

      pub coloured-not : g.plan.tint r ≢ 0 → condemned_at np i g r ≡ false
      coloured-not n = condemned-is (first_live g r) false (node_blocked (taken g (hides g (i + 1))) r np) refl (ne_eqb (g.plan.tint r) 0 n) refl ∙ none (first_live g r)
        where
          none : (a : Bool) → (a && false && node_blocked (taken g (hides g (i + 1))) r np) ≡ false
          none true = refl
          none false = refl

      pub later-not : first_live g r ≡ false → condemned_at np i g r ≡ false
      later-not f = condemned-is false (eqb (g.plan.tint r) 0) (node_blocked (taken g (hides g (i + 1))) r np) f refl refl

      pub tested-is : g.plan.tint r ≡ 0 → first_live g r ≡ true → condemned_at np i g r ≡ node_blocked (hiding g i) r np
      tested-is z f = condemned-is true true (node_blocked (taken g (hides g (i + 1))) r np) f (eq-eqb (g.plan.tint r) 0 z) refl ∙ ap (λ (x : Ground). node_blocked x r np) (hiding-is g i)

      -- The chain after r: as it was, or r at its front.
      others_apart : (x : ℕ) → In x (down_to (condemned_at np i g) r) → EntryOf g.plan x × (g.plan.number x ≢ g.plan.number r)
      others_apart x m =
          let w = In-down (condemned_at np i g) r m in
          let k = T_true (in_column g (i + 1) x)
          (T_and (in_column g (i + 1) x) (not (full_before g x) && eqb (g.plan.tint x) 0 && node_blocked (taken g (hides g (i + 1))) x np) (subst T (sym w.1) tt)).0 in
          let e = (column-entry g R.tidy (i + 1) x k).0 in
          (e, λ n. omega (arith, w.0, W.once x r e entry n ((column→ g (i + 1) x k).1 ∙ sym (column→ g (i + 1) r c).1)))

      pub tried-not : {z : ℕ} {tints marks : List ℕ} → condemned_at np i g r ≡ false → Tried g i np r z tints marks → Tried g i np (r + 1) z tints marks
      tried-not {z} {tints} n t = record { tinted = t.tinted; known = t.known; chain = subst (Chain g.plan tints z) (sym (down-no (condemned_at np i g) r n)) t.chain }

      pub tried-yes : {z : ℕ} {tints marks : List ℕ} → condemned_at np i g r ≡ true → Tried g i np r z tints marks → Tried g i np (r + 1) r (set tints (lo g.plan r - 1) z) marks
      tried-yes {z} {tints} y t = record {
        tinted = tinted-set g.plan W tints r z entry t.tinted;
        known = t.known;
        chain = subst (Chain g.plan (set tints (lo g.plan r - 1) z) r) (sym (down-yes (condemned_at np i g) r y))
            (chain-push g.plan W tints t.tinted z r (down_to (condemned_at np i g) r) entry others_apart t.chain);
      }

  -- Down the column

  module _ (hd : Header g.plan (i + 1)) (np : ℕ) where
    apart-same : (a b : ℕ) → a ≤ b → ((k : ℕ) → a ≤ k → k < b → in_column g (i + 1) k ≡ false) → down_to (condemned_at np i g) b ≡ down_to (condemned_at np i g) a
    apart-same a b l n = down-same (condemned_at np i g) a b l (λ k x y. rw (n k x y))

    pub hidden-stand : Stand (hiding g i) (i + 1) (at (hiding g i).down (i + 1))
    hidden-stand = stand-next (hiding g i) (hiding-tidy g R i) (i + 1) hd (i + 1)
        (stand-header (hiding g i) (hiding-tidy g R i) (i + 1) hd (hiding-own g R i (i + 1) (W.header (i + 1) hd) ∙ R.whole.headers (i + 1) hd))

    at_top : Stand (hiding g i) (i + 1) (i + 1)
    at_top = stand-header (hiding g i) (hiding-tidy g R i) (i + 1) hd (hiding-own g R i (i + 1) (W.header (i + 1) hd) ∙ R.whole.headers (i + 1) hd)

    -- nothing is found between a node and the next
    pub next-same : (p : ℕ) → Stand (hiding g i) (i + 1) p → down_to (condemned_at np i g) (reach g.plan (at (hiding g i).down p)) ≡ down_to (condemned_at np i g) (p + 1)
    next-same p s = apart-same (p + 1) (reach g.plan (at (hiding g i).down p)) (step-far (hiding g i) (hiding-tidy g R i) (i + 1) hd p s).0
        (λ k x y. sym (column-same k) ∙ step-gap (hiding g i) (hiding-tidy g R i) (i + 1) hd p s k x y)

    pub first-none : down_to (condemned_at np i g) (reach g.plan (at (hiding g i).down (i + 1))) ≡ []
    first-none = next-same (i + 1) at_top ∙ apart-same 0 (i + 1 + 1) (omega arith) (λ k x y. header-gap g R.tidy (i + 1) hd k y)

    pub stand-column : (p : ℕ) → Stand (hiding g i) (i + 1) p → start g.plan ≤ p → in_column g (i + 1) p ≡ true
    stand-column p s l = sym (column-same p) ∙ column← (hiding g i) (i + 1) p s.on s.col l
