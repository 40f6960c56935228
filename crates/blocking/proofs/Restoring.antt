-- From the place where the test ended, the undoing: what each of its functions finds. Assumes nothing.
use Prim.Native.Nat.{ℕ, ◌+◌, ◌-◌, ◌<◌, ◌≤◌}
use native.Mathlib.Omega.{arith}
use mathlib.Core.Path.{◌≡◌, sym, subst}
use mathlib.Core.List.{List}
use lib.ListN.{length}
use lib.IntN.{ℤ}
use Rattle.links.specs.declared.shape.Shape.{Shape}
use Rattle.links.specs.Column.{at}
use Rattle.links.specs.Plan.{lo, hi, EntryOf}
use Rattle.links.specs.Ground.{Ground, Tidy, taken, Fresh, Holds}
use Rattle.links.specs.Taking.{gather_to, rival_at}
use Rattle.blocking.specs.Undo.{Half, Below, Behind}
use Rattle.blocking.specs.Forward.{Test, out_at, ground_at, rivals_to, ground_to, Inner, Stopped}
use Rattle.links.proofs.Taken.{holds-taken}
use Rattle.blocking.proofs.RivalTest.{rival→}
use Rattle.blocking.proofs.Upwards.{Above, link-in, step-up}
use Rattle.blocking.proofs.Stages.{item-entry, ground-tidy, rivals-fresh}
use Rattle.blocking.proofs.Entries.{to-tidy, row}

-- The walk stopped at node q of r's option, or came round: `backup` from the node before.
module _ {h : Ground} {tints marks : List ℕ} {r : ℕ} {shape : Shape} (q : ℕ) (w : Test h tints marks r shape) (from : lo h.plan r ≤ q) (till : q ≤ hi h.plan r)
    (f : Fresh h (out_at h r q)) {heads : List ℤ} {up down : List ℕ}
    (l : Holds (taken h (out_at h r q)) heads up down) where
  pub place-some : 0 < q
  place-some = omega (arith, from, w.tested.tidy.planned.from (h.plan.number r) w.tested.entry.option)

  pub to-behind : Behind h tints (q - 1) r shape.start heads up down
  to-behind =
      let e : q - 1 + 1 ≡ q = omega (arith, place-some) in
      record {
        tidy = w.tested.tidy;
        headers = w.tested.headers;
        tinted = w.tinted;
        starts = w.starts;
        entry = w.tested.entry;
        from = rw e from;
        till = rw e till;
        fresh = rw e f;
        holds = rw e l;
      }

module _ {h : Ground} {tints marks : List ℕ} {r : ℕ} {shape : Shape} {heads : List ℤ} {up down : List ℕ} {q rr qq : ℕ} (m : Stopped h tints marks r shape q rr qq heads up down) where
  I : Inner h tints marks r shape q rr qq heads up down
  I = m.inner

  t : Tidy h
  t = I.item.test.tested.tidy

  p-row : EntryOf h.plan rr
  p-row = row I

  -- first the walk round rr, up to the node before qq
  pub stopped-some : 0 < qq
  stopped-some = omega (arith, I.from, t.planned.from (h.plan.number rr) p-row.option)

  pub stopped-half : Half (ground_to h r q rr) rr (qq - 1) heads up down
  stopped-half =
      let e : qq - 1 + 1 ≡ qq = omega (arith, stopped-some) in
      record { tidy = to-tidy I; entry = p-row; from = rw e I.from; till = rw e I.till; fresh = rw e I.fresh; holds = rw e I.holds }

  -- then the column, from the node above rr
  stopped-above : {heads' : List ℤ} {up' down' : List ℕ} → Holds (ground_to h r q rr) heads' up' down' → Above (ground_at h r q) tints rr (at tints q) shape.start heads' up' down'
  stopped-above {heads'} {up'} {down'} l =
      -- the rivals above rr, in rr's own column
      let rivals : ℕ → List ℕ = λ i. gather_to (rival_at (ground_at h r q) i (h.plan.tint q)) (ground_at h r q) rr in
      let rival = rival→ (ground_at h r q) (h.plan.col q) (h.plan.tint q) rr I.rival in
      rw (I.item.test.tinted.tint q (item-entry I.item)) (record {
        tidy = ground-tidy I.item;
        tinted = I.item.test.tinted;
        starts = I.item.test.starts;
        on = rival.0;
        entry = p-row;
        fresh = subst (λ (i : ℕ). Fresh (ground_at h r q) (rivals i)) (sym rival.1) (rivals-fresh I.item rr);
        holds = subst (λ (i : ℕ). Holds (taken (ground_at h r q) (rivals i)) heads' up' down') (sym rival.1) (holds-taken (ground_at h r q) (rivals_to h r q rr) l);
      })

  pub stopped-link : {heads' : List ℤ} {up' down' : List ℕ} → Holds (ground_to h r q rr) heads' up' down' → rr < length up'
  stopped-link l = link-in (stopped-above l)

  pub stopped-below : {heads' : List ℤ} {up' down' : List ℕ} {u : ℕ} → Holds (ground_to h r q rr) heads' up' down' → u ≡ at up' rr
      → Below (ground_at h r q) tints u (at tints q) shape.start heads' up' down'
  stopped-below l = step-up (stopped-above l)

  -- then the items before q
  pub stopped-behind : {heads' : List ℤ} {up' down' : List ℕ} → Holds (ground_at h r q) heads' up' down' → Behind h tints (q - 1) r shape.start heads' up' down'
  stopped-behind l = to-behind q I.item.test I.item.from (omega (arith, I.item.till)) I.item.stage.fresh (holds-taken h (out_at h r q) l)
