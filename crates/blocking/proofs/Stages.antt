-- Who is out at each item of the tested option: an option's nodes leave together, all but the one at which it was met; so a rival that is met
-- is wholly in its columns, and nothing is taken twice. Assumes nothing.
use Prim.Native.Nat.{ℕ, ◌≤◌}
use native.Mathlib.Omega.{arith}
use mathlib.Core.Path.{◌≡◌, refl, ◌∙◌, ap, sym, subst}
use mathlib.Core.Logic.{◌⊎◌, inl, inr, ⊎_elim, ◌≢◌}
use mathlib.Core.Bool.{Bool, true, false}
use mathlib.Core.List.Memᴰ.{append_cases as In-append}
use mathlib.Core.List.Memᴰ.{append_left as In-append-l}
use mathlib.Core.List.Memᴰ.{append_right as In-append-r}
use mathlib.Core.List.Memᴰ.{eq_of_singleton as In-one}
use mathlib.Core.List.Memᴰ.{head as here}
use mathlib.Core.List.Memᴰ.{not-nil}
use mathlib.Core.List.{List, [], ◌∷◌, ◌++◌, Memᴰ as In}
use lib.IntN.{pos}
use Rattle.rules.specs.Blocked.{agree}
use Rattle.links.specs.declared.shape.Shape.{Shape}
use Rattle.links.specs.Head.{head}
use Rattle.links.specs.Plan.{EntryOf, start}
use Rattle.links.specs.Ground.{Ground, Tidy, Within, taken, Fresh}
use Rattle.links.specs.Row.{walked, others}
use Rattle.links.specs.Taking.{rival_at, rivals}
use Rattle.links.proofs.Plans.{row-mate, entry-from, entry-till}
use Rattle.links.proofs.Rows.{In-walked, In-others, others-In, after-others}
use Rattle.links.proofs.Taken.{on-taken, after-tidy, after-within, after-fresh, gone-In}
use Rattle.links.proofs.Gathering.{In-gather, gather-In, gather-fresh}
use Rattle.blocking.specs.Forward.{Clash, Out, Stage, out_at, ground_at, AtItem, rivals_to}
use Rattle.links.proofs.Passing.{rival-inside, chosen-entry}
use Rattle.blocking.proofs.RivalTest.{rival→, rival←}

-- before the first item none is out
pub stage-none : (h : Ground) → Stage h [] []
stage-none h = record { fresh = tt; out = λ y m. absurd (not-nil m); met = λ rr c. absurd (not-nil c.among) }

-- more items, and more nodes
clash-more : {h : Ground} (qs rs : List ℕ) {rr : ℕ} → Clash h qs rr → Clash h (qs ++ rs) rr
clash-more qs rs c = record { item = c.item; among = In-append-l rs c.among; entry = c.entry; on = c.on; col = c.col; differ = c.differ }

out-more : {h : Ground} (qs rs xs ys : List ℕ) {y : ℕ} → Out h qs xs y → Out h (qs ++ rs) (xs ++ ys) y
out-more qs rs xs ys o = record { met = o.met; clash = clash-more qs rs o.clash; one = o.one; all = λ z m. In-append-l ys (o.all z m) }

-- An item q of r, and the ground when the walk came to it.
module _ {h : Ground} {tints marks : List ℕ} {r : ℕ} {shape : Shape} {q : ℕ} (m : AtItem h tints marks r shape q) where
  t : Tidy h
  t = m.test.tested.tidy

  e : EntryOf h.plan r
  e = m.test.tested.entry

  pub item-entry : EntryOf h.plan q
  item-entry = row-mate h.plan t.planned r q e m.from m.till

  pub item-number : h.plan.number q ≡ h.plan.number r
  item-number = t.planned.numbered (h.plan.number r) q e.option m.from m.till

  -- its column is not that of r
  pub item-apart : h.plan.col q ≢ h.plan.col r
  item-apart c = m.other (t.planned.once q r item-entry e item-number c)

  -- nor that of an item passed
  passed_apart : {x : ℕ} → In x (walked h r q) → h.plan.col x ≢ h.plan.col q
  passed_apart {x} i c = let w = In-walked h t r e q (record { from = m.from; till = omega (arith, m.till) }) i in w.3 (t.planned.once x q w.0 item-entry (w.1 ∙ sym item-number) c)

  pub ground-tidy : Tidy (ground_at h r q)
  ground-tidy = after-tidy h (out_at h r q) t m.stage.fresh

  -- A rival is an entry of the column.
  rival-entry : (k : ℕ) → rival_at (ground_at h r q) (h.plan.col q) (h.plan.tint q) k ≡ true → EntryOf h.plan k × (h.plan.col k ≡ h.plan.col q)
  rival-entry =
      chosen-entry ground-tidy (h.plan.col q) (rival_at (ground_at h r q) (h.plan.col q) (h.plan.tint q)) (λ k. rival-inside (ground_at h r q) (h.plan.col q) k (h.plan.tint q))

  -- A rival that is met.
  module _ (k : ℕ) (c : rival_at (ground_at h r q) (h.plan.col q) (h.plan.tint q) k ≡ true) where
    rival : ((taken h (out_at h r q)).on k ≡ true) × (h.plan.col k ≡ h.plan.col q) × (start h.plan ≤ k) × (agree (h.plan.tint q) (h.plan.tint k) ≡ false)
    rival = rival→ (ground_at h r q) (h.plan.col q) (h.plan.tint q) k c

    pub rival-row : EntryOf h.plan k
    rival-row = (rival-entry k c).0

    rival-on : h.on k ≡ true
    rival-on = (on-taken h (out_at h r q) k rival.0).0

    rival-in : In k (out_at h r q) → ⊥
    rival-in = (on-taken h (out_at h r q) k rival.0).1

    pub rival-others : others (ground_at h r q) k ≡ others h k
    rival-others = after-others h (out_at h r q) t m.stage.fresh k rival-row

    pub rival-clash : {qs : List ℕ} → In q qs → Clash h qs k
    rival-clash i = record { item = q; among = i; entry = rival-row; on = rival-on; col = rival.1; differ = rival.3 }

    -- Its others are all in their columns.
    pub rival-whole : (y : ℕ) → In y (others (ground_at h r q) k) → Within (ground_at h r q) y
    rival-whole y i = after-within h (out_at h r q) t m.stage.fresh there (λ n. still (m.stage.out y n))
      where
        w : EntryOf h.plan y × (h.plan.number y ≡ h.plan.number k) × (y ≢ k) × (head h.heads y ≡ pos (h.plan.col y))
        w = In-others h t k rival-row (subst (λ (l : List ℕ). In y l) rival-others i)

        there : Within h y
        there = record {
          entry = w.0;
          on = m.test.tested.mates k y rival-row w.0 (sym w.1) rival-on (λ a. item-apart (sym rival.1 ∙ a)) w.3;
          header = m.test.tested.headers (h.plan.col y) (t.planned.entry y w.0);
        }

        -- were y out, its option would have been met in an earlier column, and k be out too
        still : Out h (walked h r q) (out_at h r q) y → ⊥
        still o =
            let v = In-others h t o.met o.clash.entry o.one in
            rival-in (o.all k (others-In h t o.met o.clash.entry rival-row (sym w.1 ∙ v.1)
            (λ a. passed_apart o.clash.among (sym o.clash.col ∙ ap h.plan.col (sym a) ∙ rival.1)) (t.full k rival-row rival-on)))

  -- so nothing is taken twice
  pub rivals-fresh : (k : ℕ) → Fresh (ground_at h r q) (rivals_to h r q k)
  rivals-fresh = gather-fresh (rival_at (ground_at h r q) (h.plan.col q) (h.plan.tint q)) (ground_at h r q) ground-tidy (h.plan.col q) rival-entry rival-whole

  -- The item was tested.
  pub stage-more : Stage h (walked h r q ++ (q ∷ [])) (out_at h r q ++ rivals (ground_at h r q) q)
  stage-more = record {
    fresh = after-fresh h (out_at h r q) (rivals (ground_at h r q) q) m.stage.fresh (rivals-fresh h.plan.N);
    out = λ y i. ⊎_elim (λ a. out-more (walked h r q) (q ∷ []) (out_at h r q) (rivals (ground_at h r q) q) (m.stage.out y a)) (λ b. fresh-out y b) (In-append (out_at h r q) i);
    met = λ rr c. ⊎_elim (λ a. earlier rr (record { item = c.item; among = a; entry = c.entry; on = c.on; col = c.col; differ = c.differ }))
        (λ b. here-met rr c (In-one b)) (In-append (walked h r q) c.among);
  }
    where
      fresh-out : (y : ℕ) → In y (rivals (ground_at h r q) q) → Out h (walked h r q ++ (q ∷ [])) (out_at h r q ++ rivals (ground_at h r q) q) y
      fresh-out y i =
          let w = In-gather (rival_at (ground_at h r q) (h.plan.col q) (h.plan.tint q)) (ground_at h r q) h.plan.N i in
          record {
            met = w.0;
            clash = rival-clash w.0 w.2 (In-append-r (walked h r q) (here refl));
            one = subst (λ (l : List ℕ). In y l) (rival-others w.0 w.2) w.3;
            all = λ z n. In-append-r (out_at h r q)
                (gather-In (rival_at (ground_at h r q) (h.plan.col q) (h.plan.tint q)) (ground_at h r q) h.plan.N w.0 w.1 w.2
                (subst (λ (l : List ℕ). In z l) (sym (rival-others w.0 w.2)) n));
          }

      earlier : (rr : ℕ) → Clash h (walked h r q) rr → In rr (out_at h r q ++ rivals (ground_at h r q) q) ⊎ ((z : ℕ) → In z (others h rr) → In z (out_at h r q ++ rivals (ground_at h r q) q))
      earlier rr c = ⊎_elim (λ i. inl (In-append-l (rivals (ground_at h r q) q) i)) (λ f. inr (λ z n. In-append-l (rivals (ground_at h r q) q) (f z n))) (m.stage.met rr c)

      here-met : (rr : ℕ) → (c : Clash h (walked h r q ++ (q ∷ [])) rr) → c.item ≡ q → In rr (out_at h r q ++ rivals (ground_at h r q) q)
          ⊎ ((z : ℕ) → In z (others h rr) → In z (out_at h r q ++ rivals (ground_at h r q) q))
      here-met rr c a = go ((taken h (out_at h r q)).on rr) refl
        where
          go : (b : Bool) → (taken h (out_at h r q)).on rr ≡ b → In rr (out_at h r q ++ rivals (ground_at h r q) q)
              ⊎ ((z : ℕ) → In z (others h rr) → In z (out_at h r q ++ rivals (ground_at h r q) q))
          go false o = inl (In-append-l (rivals (ground_at h r q) q) (gone-In h (out_at h r q) rr c.on o))
          go true o =
              let k : rival_at (ground_at h r q) (h.plan.col q) (h.plan.tint q) rr ≡ true =
              rival← (ground_at h r q) (h.plan.col q) (h.plan.tint q) rr o (c.col ∙ ap h.plan.col a) (entry-from h.plan t.planned rr c.entry)
              (ap (λ (j : ℕ). agree (h.plan.tint j) (h.plan.tint rr)) (sym a) ∙ c.differ) in
              inr (λ z n. In-append-r (out_at h r q)
              (gather-In (rival_at (ground_at h r q) (h.plan.col q) (h.plan.tint q)) (ground_at h r q) h.plan.N rr (entry-till h.plan t.planned rr c.entry) k
              (subst (λ (l : List ℕ). In z l) (sym (rival-others rr k)) n)))
