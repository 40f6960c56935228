-- What a walk round an option has still to pass: with what it has passed, all the others. Assumes nothing.
use Prim.Native.Nat.{ℕ, ◌+◌, ◌<◌, ◌≤◌}
use native.Mathlib.Omega.{arith}
use mathlib.Core.Path.{◌≡◌, ◌∙◌, ap, sym}
use mathlib.Core.Logic.{⊎_elim, ◌≢◌}
use mathlib.Core.Bool.{cond}
use mathlib.Core.List.{List, [], ◌∷◌, ◌++◌, append_assoc, append-nil, append_cancel_left}
use borrow.Author.Tests.{lt-ltb, le-ltb}
use lib.Dec.{ltb}
use lib.IntN.{ℤ}
use Rattle.rules.specs.Lists.{keep}
use Rattle.links.specs.Head.{item_of, head}
use Rattle.links.specs.Column.{at}
use Rattle.links.specs.Plan.{lo, hi, EntryOf}
use Rattle.links.specs.Ground.{Ground, Tidy}
use Rattle.links.specs.Row.{span, full, passed, walked, others}
use Rattle.links.proofs.Stores.{less?}
use Rattle.links.proofs.Spans.{keep_join}
use Rattle.links.proofs.Rows.{At, walk_begins, walked_none, full_at, full-walked, over-at, over-walked}

-- the full nodes ahead of a walk round r that stands at q, in order
abbrev coming : List ℤ → ℕ → ℕ → ℕ → ℕ → List ℕ
coming heads a b r q = cond (ltb r q) (keep (full heads) (span q b) ++ keep (full heads) (span a r)) (keep (full heads) (span q r))

passed-coming : (heads : List ℤ) (a b r q : ℕ) → a ≤ r → a ≤ q → q ≤ b → passed heads a b r r ≡ passed heads a b r q ++ coming heads a b r q
passed-coming heads a b r q h i j = rw (le-ltb r r (omega arith)) (⊎_elim onward round (less? r q))
  where
    onward : r < q → keep (full heads) (span (r + 1) b) ++ keep (full heads) (span a r) ≡ passed heads a b r q ++ coming heads a b r q
    onward l =
        rw (lt-ltb r q l)
        (ap (λ (z : List ℕ). z ++ keep (full heads) (span a r)) (keep_join (full heads) (r + 1) q b (omega arith) j)
        ∙ append_assoc (keep (full heads) (span (r + 1) q)) (keep (full heads) (span q b)) (keep (full heads) (span a r)))

    round : q ≤ r → keep (full heads) (span (r + 1) b) ++ keep (full heads) (span a r) ≡ passed heads a b r q ++ coming heads a b r q
    round l =
        rw (le-ltb r q l)
        (ap (λ (z : List ℕ). keep (full heads) (span (r + 1) b) ++ z) (keep_join (full heads) a q r i l)
        ∙ sym (append_assoc (keep (full heads) (span (r + 1) b)) (keep (full heads) (span a q)) (keep (full heads) (span q r))))

-- the same in a ground, round r's own option
abbrev pub ahead : Ground → ℕ → ℕ → List ℕ
ahead g r q = coming g.heads (lo g.plan r) (hi g.plan r) r q

module _ (g : Ground) (t : Tidy g) (r : ℕ) (e : EntryOf g.plan r) where
  pub walked-ahead : (q : ℕ) → At g r q → others g r ≡ walked g r q ++ ahead g r q
  unfolding others
  walked-ahead q a = passed-coming g.heads (lo g.plan r) (hi g.plan r) r q e.from a.from a.till

  pub ahead-all : ahead g r (r + 1) ≡ others g r
  ahead-all = sym (walked-ahead (r + 1) (walk_begins g t r e) ∙ ap (λ (l : List ℕ). l ++ ahead g r (r + 1)) (walked_none g t r e))

  pub ahead_none : ahead g r r ≡ []
  unfolding others
  ahead_none = append_cancel_left (walked g r r) _ _ (sym (walked-ahead r (record { from = e.from; till = omega (arith, e.till) })) ∙ sym (append-nil (walked g r r)))

  pub ahead-full : (q : ℕ) → At g r q → q ≢ r → item_of (head g.heads q) ≢ 0 → ahead g r q ≡ q ∷ ahead g r (q + 1)
  ahead-full q a d n =
      append_cancel_left (walked g r q) _ _
      (sym (walked-ahead q a)
      ∙ walked-ahead (q + 1) (full_at g t r e q a n)
      ∙ ap (λ (l : List ℕ). l ++ ahead g r (q + 1)) (full-walked g t r e q a d n)
      ∙ append_assoc (walked g r q) (q ∷ []) (ahead g r (q + 1)))

  pub ahead-over : (q : ℕ) → At g r q → q ≢ r → item_of (head g.heads q) ≡ 0 → ahead g r (at g.up q) ≡ ahead g r q
  ahead-over q a d z =
      append_cancel_left (walked g r q) _ _
      (ap (λ (l : List ℕ). l ++ ahead g r (at g.up q)) (sym (over-walked g t r e q a d z))
      ∙ sym (walked-ahead (at g.up q) (over-at g t r e q a d z))
      ∙ walked-ahead q a)
