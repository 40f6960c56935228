-- Removing an item, in the middle of the walk down its column: what the lists hold when the nodes below k are passed, and what passing one
-- more leaves. Assumes nothing.
use Prim.Native.Nat.{ℕ, ◌+◌, ◌-◌, ◌<◌, ◌≤◌}
use native.Mathlib.Omega.{arith}
use mathlib.Core.Path.{◌≡◌, refl, ◌∙◌, ap, sym, subst}
use mathlib.Core.Logic.{⊎_elim, ◌≢◌}
use mathlib.Core.Bool.{Bool, true, false, not, cond, false≢true, true≢false}
use mathlib.Core.List.{List, [], ◌++◌, Memᴰ as In}
use lib.Dec.{eqb}
use lib.Seq.{get_or-set_same, get_or-set_other}
use lib.IntN.{ℤ, pos}
use Rattle.rules.specs.Lists.{any}
use Rattle.links.specs.Head.{head}
use Rattle.links.specs.Column.{at}
use Rattle.links.specs.Plan.{Plan, EntryOf}
use Rattle.links.specs.Ground.{Ground, Tidy, Within, taken, Fresh, Holds}
use Rattle.links.specs.Row.{others}
use Rattle.links.specs.Shown.{Ready}
use Rattle.links.specs.Taking.{first_out, gather_to, in_column, holds_column, leaving, off_column}
use Rattle.links.proofs.Stores.{same?, less?}
use Rattle.links.proofs.Plans.{entry-from, entry-till, entry-no-header, row-mate}
use Rattle.links.proofs.Taken.{taken-append, taken-plan, taken-tidy, taken-on, taken-head, taken-down-off, off-taken, fresh-of, fresh-rest}
use Rattle.links.proofs.Rows.{In-others, others-alike}
use Rattle.links.proofs.Gathering.{others-distinct, gather-same, gather-one, gather_none}
use Rattle.links.proofs.Descending.{column←}
use Rattle.removing.specs.Deleting.{Deleting}
use Rattle.removing.specs.Removing.{holds_other, shortened, Dropped}
use Rattle.removing.proofs.Emptying.{first-none, first_by, first_out-by}
use Rattle.links.proofs.Determined.{masks-same, ground-is}
use Rattle.removing.proofs.Holding.{other-holds}
use Rattle.removing.proofs.OffColumn.{off-own, tidy-off}
use Rattle.removing.proofs.Shortening.{tidy-shorten}
use Rattle.removing.proofs.Leaving.{leaving-is, goes, in-sight, leaves-fresh}

-- the nodes that go of the options with an entry of column c below k; and the ground that the lists hold then, with column c out of sight
abbrev pub going : Ground → ℕ → ℕ → ℕ → List ℕ
going g c p k = gather_to (leaving g c p) g k

abbrev pub midst : Ground → ℕ → ℕ → ℕ → List ℤ → List ℕ → List ℕ → Ground
midst g c p k heads up down = record { plan = g.plan; on = (taken (off_column g c) (going g c p k)).on; heads = heads; up = up; down = down }

pub record RemovalAt (g : Ground) (c p np : ℕ) (heads : List ℤ) (up down : List ℕ) (k : ℕ) : Type 0 where
  pub tidy : Tidy (midst g c p k heads up down)
  -- only entries of column c are shortened: those passed whose option holds p
  pub same : (y : ℕ) → EntryOf g.plan y → (g.on y ≡ true → g.plan.col y ≢ c) → head heads y ≡ head g.heads y
  pub short : (y : ℕ) → EntryOf g.plan y → g.on y ≡ true → g.plan.col y ≡ c → y < k → holds_column g (g.plan.number y) p ≡ true → head heads y ≡ pos 0
  -- the rest of the column is linked downwards as it was
  pub ahead : (y : ℕ) → g.on y ≡ true → g.plan.col y ≡ c → k ≤ y → at down y ≡ at g.down y
  pub none : first_out (off_column g c) np (going g c p k) ≡ 0

module _ (g : Ground) (R : Ready g) (c p np : ℕ) where
  t : Tidy g
  t = R.tidy

  pub going-begin : RemovalAt g c p np g.heads g.up g.down 0
  unfolding off_column
  going-begin = record { tidy = tidy-off g c t; same = λ y e n. refl; short = λ y e o q l s. absurd (omega arith); ahead = λ y o q l. refl; none = refl }

  module _ (heads : List ℤ) (up down : List ℕ) where
    -- past nodes that are no entries of the column
    pub going-past : (k m : ℕ) → RemovalAt g c p np heads up down k → k ≤ m → ((j : ℕ) → k ≤ j → j < m → in_column g c j ≡ false) → RemovalAt g c p np heads up down m
    going-past k m G l free = record {
      tidy = subst (λ (xs : List ℕ). Tidy (record { plan = g.plan; on = (taken (off_column g c) xs).on; heads = heads; up = up; down = down })) (sym same-list) G.tidy;
      same = G.same;
      short = λ y e o q b s. ⊎_elim (λ a. G.short y e o q a s) (λ a. absurd (true≢false (sym (column← g c y o q (entry-from g.plan t.planned y e)) ∙ free y a b))) (less? y k);
      ahead = λ y o q b. G.ahead y o q (omega arith);
      none = ap (first_out (off_column g c) np) same-list ∙ G.none;
    }
      where
        same-list : going g c p m ≡ going g c p k
        same-list = gather-same (leaving g c p) g k m l (λ j a b. rw (free j a b))

    -- One entry of the column more: its option loses it, or is deleted.
    module _ (r : ℕ) (G : RemovalAt g c p np heads up down r) (e : EntryOf g.plan r) (o : g.on r ≡ true) (q : g.plan.col r ≡ c) (apart : c ≢ p) where
      -- an entry of column c is out of sight, and another entry of this option is in another column
      own-off : (y : ℕ) → g.plan.col y ≡ c → (midst g c p r heads up down).on y ≡ false
      own-off y s = off-taken (off_column g c) (going g c p r) y (off-own g c y s)

      mate-col : (y : ℕ) → EntryOf g.plan y → g.plan.number y ≡ g.plan.number r → y ≢ r → g.plan.col y ≢ c
      mate-col y b s n i = n (t.planned.once y r b e s (i ∙ sym q))

      same-others : others (midst g c p r heads up down) r ≡ others g r
      same-others =
          others-alike g (midst g c p r heads up down) refl r e
          (λ y a b n. let y-in = row-mate g.plan t.planned r y e a b in G.same y y-in (λ _. mate-col y y-in (t.planned.numbered (g.plan.number r) y e.option a b) n))

      others-within : (y : ℕ) → In y (others g r) → Within (midst g c p r heads up down) y
      unfolding off_column
      others-within y m =
          let u = In-others g t r e m in
          let w = in-sight g R c p y u.0 (R.whole.mates r y e u.0 (sym u.1) o u.3) (mate-col y u.0 u.1 u.2) in
          record {
            entry = u.0;
            on = taken-on (off_column g c) (going g c p r) y
                (λ i. let v = goes g R c p r i in omega (arith, v.before, t.planned.once v.j r v.entry e (sym v.one-option ∙ u.1) (v.col ∙ sym q))) ∙ w.on;
            header = taken-on (off_column g c) (going g c p r) (g.plan.col y)
                (λ i. entry-no-header g.plan t.planned (g.plan.col y) (goes g R c p r i).own-entry (t.planned.entry y u.0)) ∙ w.header;
          }

      pub going-deletes : Deleting (midst g c p r heads up down) r heads up down
      going-deletes = record {
        tidy = G.tidy;
        entry = e;
        others-in = λ y m. others-within y (subst (In y) same-others m);
        holds =
            record { heads-are = refl; up-are = refl; down-are = refl };
      }

      held : holds_other (midst g c p r heads up down) r p ≡ holds_column g (g.plan.number r) p
      held = ap (any (λ y. eqb (g.plan.col y) p)) same-others ∙ other-holds g R r p e o (λ s. apart (sym q ∙ s))

      fresh : Fresh (midst g c p r heads up down) (others g r)
      fresh = fresh-of (midst g c p r heads up down) (others g r) G.tidy others-within (others-distinct g r)

      module _ (heads' : List ℤ) (up' down' : List ℕ) where
        -- it holds p
        module _ (yes : holds_column g (g.plan.number r) p ≡ true) where
          as_before : going g c p (r + 1) ≡ going g c p r
          as_before = gather_none (leaving g c p) g r (leaving-is g R c p r e o q ∙ ap not yes)

          going-short : Holds (shortened (midst g c p r heads up down) r) heads' up' down' → RemovalAt g c p np heads' up' down' (r + 1)
          unfolding shortened
          going-short H = record {
            tidy = subst (λ (xs : List ℕ). Tidy (record { plan = g.plan; on = (taken (off_column g c) xs).on; heads = heads'; up = up'; down = down' })) (sym as_before)
                (rw (H.heads-are, H.up-are, H.down-are) (tidy-shorten (midst g c p r heads up down) G.tidy r e (own-off r q)));
            same = λ y b n. head-other y (λ s. n (ap g.on s ∙ o) (ap g.plan.col s ∙ q)) ∙ G.same y b n;
            short = λ y b i j l s. ⊎_elim (λ s. own y s) (λ n. head-other y n ∙ G.short y b i j (omega arith) s) (same? y r);
            ahead = λ y i j l. down-other y (λ s. omega (arith, l, s)) ∙ G.ahead y i j (omega arith);
            none = ap (first_out (off_column g c) np) as_before ∙ G.none;
          }
            where
              head-other : (y : ℕ) → y ≢ r → head heads' y ≡ head heads y
              head-other y n = rw H.heads-are (get_or-set_other heads r y (pos 0) (pos 0) n)

              down-other : (y : ℕ) → y ≢ r → at down' y ≡ at down y
              down-other y n = rw H.down-are (get_or-set_other down r y (r - 1) 0 n)

              own : (y : ℕ) → y ≡ r → head heads' y ≡ pos 0
              own y s = rw (H.heads-are, s) (get_or-set_same heads r (pos 0) (pos 0) (omega (arith, entry-till g.plan t.planned r e, G.tidy.heads-in)))

        -- it does not
        module _ (no : holds_column g (g.plan.number r) p ≡ false) where
          one_more : going g c p (r + 1) ≡ going g c p r ++ others g r
          one_more = gather-one (leaving g c p) g r (leaving-is g R c p r e o q ∙ ap not no)

          so_far : Fresh (off_column g c) (going g c p r)
          so_far = leaves-fresh g R c p r

          going-first : first_out (midst g c p r heads up down) np (others g r) ≡ first_out (off_column g c) np (going g c p (r + 1))
          unfolding off_column
          going-first =
              first_out-by (midst g c p r heads up down) np (others g r) G.tidy fresh
              ∙ ap (λ (P : Plan). first_by P (taken (off_column g c) (going g c p r)).on np (others g r)) (sym (taken-plan (off_column g c) (going g c p r)))
              ∙ sym (first_out-by (taken (off_column g c) (going g c p r)) np (others g r) (taken-tidy (off_column g c) (going g c p r) (tidy-off g c t) so_far)
              (fresh-rest (off_column g c) (going g c p r) (others g r) (subst (Fresh (off_column g c)) one_more (leaves-fresh g R c p (r + 1)))))
              ∙ sym (first-none (off_column g c) np (going g c p r) (others g r) (tidy-off g c t) so_far G.none)
              ∙ ap (first_out (off_column g c) np) (sym one_more)

          going-delete : first_out (midst g c p r heads up down) np (others g r) ≡ 0 → Holds (taken (midst g c p r heads up down) (others g r)) heads' up' down'
              → RemovalAt g c p np heads' up' down' (r + 1)
          going-delete z H = record {
            tidy = subst Tidy ground (taken-tidy (midst g c p r heads up down) (others g r) G.tidy fresh);
            same = λ y b n. head-kept y b ∙ G.same y b n;
            short = λ y b i j l s. head-kept y b
                ∙ ⊎_elim (λ w. absurd (false≢true (sym no ∙ ap (λ (k : ℕ). holds_column g (g.plan.number k) p) (sym w) ∙ s))) (λ n. G.short y b i j (omega arith) s) (same? y r);
            ahead = λ y i j l. ap (λ (d : List ℕ). at d y) H.down-are ∙ taken-down-off (midst g c p r heads up down) (others g r) G.tidy fresh y (own-off y j) ∙ G.ahead y i j (omega arith);
            none = sym going-first ∙ z;
          }
            where
              head-kept : (y : ℕ) → EntryOf g.plan y → head heads' y ≡ head heads y
              head-kept y b = ap (λ (l : List ℤ). head l y) H.heads-are ∙ taken-head (midst g c p r heads up down) (others g r) G.tidy fresh y (entry-no-header g.plan t.planned y b)

              mask : (taken (midst g c p r heads up down) (others g r)).on ≡ (taken (off_column g c) (going g c p (r + 1))).on
              mask =
                  masks-same (midst g c p r heads up down) (taken (off_column g c) (going g c p r)) refl (others g r)
                  ∙ ap (λ (k : Ground). k.on) (sym (taken-append (off_column g c) (going g c p r) (others g r)))
                  ∙ ap (λ (l : List ℕ). (taken (off_column g c) l).on) (sym one_more)

              ground : taken (midst g c p r heads up down) (others g r) ≡ midst g c p (r + 1) heads' up' down'
              ground =
                  ground-is (taken (midst g c p r heads up down) (others g r)) g.plan (taken (off_column g c) (going g c p (r + 1))).on heads' up' down'
                  (taken-plan (midst g c p r heads up down) (others g r)) mask H.heads-are H.up-are H.down-are

        -- what `delete_or_shorten` leaves is what is to be left when r is passed
        module _ (z : ℕ) (D : Dropped (midst g c p r heads up down) np r p heads' up' down' z) where
          went : z ≡ first_out (midst g c p r heads up down) np (cond (holds_column g (g.plan.number r) p) [] (others g r))
          went = rw (held, same-others) at D.answer

          left : Holds (cond (holds_column g (g.plan.number r) p) (shortened (midst g c p r heads up down) r) (taken (midst g c p r heads up down) (others g r))) heads' up' down'
          left = rw (held, same-others) at D.holds

          pub passed_first : z ≡ first_out (off_column g c) np (going g c p (r + 1))
          passed_first = go (holds_column g (g.plan.number r) p) refl went
            where
              go : (b : Bool) → holds_column g (g.plan.number r) p ≡ b → z ≡ first_out (midst g c p r heads up down) np (cond b [] (others g r))
                  → z ≡ first_out (off_column g c) np (going g c p (r + 1))
              go true y w = w ∙ sym G.none ∙ ap (first_out (off_column g c) np) (sym (as_before y))
              go false n w = w ∙ going-first n

          pub passed-going : z ≡ 0 → RemovalAt g c p np heads' up' down' (r + 1)
          passed-going e = go (holds_column g (g.plan.number r) p) refl went left
            where
              go : (b : Bool) → holds_column g (g.plan.number r) p ≡ b → z ≡ first_out (midst g c p r heads up down) np (cond b [] (others g r))
                  → Holds (cond b (shortened (midst g c p r heads up down) r) (taken (midst g c p r heads up down) (others g r))) heads' up' down'
                  → RemovalAt g c p np heads' up' down' (r + 1)
              go true y w H = going-short y H
              go false n w H = going-delete n (sym w ∙ e) H
