-- Where the nodes of a plan lie: entries behind the headers, boundaries in no row. Assumes nothing.
use Prim.Native.Nat.{ℕ, ◌-◌, ◌<◌, ◌≤◌}
use native.Mathlib.Omega.{arith}
use mathlib.Core.Path.{ap, sym, subst}
use mathlib.Core.Logic.{⊎_elim, ◌≢◌}
use Rattle.links.specs.Plan.{Plan, start, lo, hi, EntryOf, Header, Planned}
use Rattle.links.proofs.Stores.{same?, less?}

module _ (P : Plan) (W : Planned P) where
  -- an entry lies behind the headers, before its boundary, and that within the nodes
  pub entry-from : (y : ℕ) → EntryOf P y → start P ≤ y
  entry-from y e = omega (arith, W.from (P.number y) e.option, e.from)

  pub entry_row : (y : ℕ) → EntryOf P y → lo P y < hi P y
  entry_row y e = omega (arith, e.from, e.till)

  pub row-till : (y : ℕ) → EntryOf P y → hi P y < P.N
  row-till y e = W.till (P.number y) e.option (entry_row y e)

  pub entry-till : (y : ℕ) → EntryOf P y → y < P.N
  entry-till y e = omega (arith, e.till, row-till y e)

  pub header-before : (i : ℕ) → Header P i → i < start P
  header-before i h = omega (arith, h.below)

  -- an entry is no header, and stands in a column with another number
  pub entry-no-header : (y : ℕ) → EntryOf P y → Header P y → ⊥
  entry-no-header y e h = omega (arith, entry-from y e, header-before y h)

  pub entry-not-col : (y : ℕ) → EntryOf P y → y ≢ P.col y
  entry-not-col y e q = omega (arith, entry-from y e, header-before (P.col y) (W.entry y e), q)

  -- a node between an option's first and its boundary is an entry of it
  pub row-entry : (k y : ℕ) → k < P.M → P.first k ≤ y → y < P.past k → EntryOf P y
  row-entry k y h f t =
      let e = W.numbered k y h f t in
      record {
        option = subst (λ (j : ℕ). j < P.M) (sym e) h;
        from = subst (λ (j : ℕ). P.first j ≤ y) (sym e) f;
        till = subst (λ (j : ℕ). y < P.past j) (sym e) t;
      }

  -- and so is every node of an entry's row
  pub row-mate : (y z : ℕ) → EntryOf P y → lo P y ≤ z → z < hi P y → EntryOf P z
  row-mate y z e f t = row-entry (P.number y) z e.option f t

  -- the boundaries of an option are no entries
  module _ (k : ℕ) (h : k < P.M) (row : P.first k < P.past k) where
    pub past-no-entry : EntryOf P (P.past k) → ⊥
    past-no-entry e = ⊎_elim (λ q. omega (arith, e.till, ap P.past q)) (λ n. other n) (same? l k)
      where
        l : ℕ
        l = P.number (P.past k)

        other : l ≢ k → ⊥
        other n =
            ⊎_elim (λ (q : l < k). omega (arith, W.apart l k q h (entry_row (P.past k) e) row, e.till))
            (λ (q : k ≤ l). omega (arith, W.apart k l (omega arith) e.option row (entry_row (P.past k) e), e.from)) (less? l k)

    pub before-no-entry : EntryOf P (P.first k - 1) → ⊥
    before-no-entry e = ⊎_elim (λ q. omega (arith, e.from, ap P.first q, W.from k h)) (λ n. other n) (same? l k)
      where
        l : ℕ
        l = P.number (P.first k - 1)

        other : l ≢ k → ⊥
        other n =
            ⊎_elim (λ (q : l < k). omega (arith, W.apart l k q h (entry_row (P.first k - 1) e) row, e.till))
            (λ (q : k ≤ l). omega (arith, W.apart k l (omega arith) e.option row (entry_row (P.first k - 1) e), e.from)) (less? l k)

    pub past-no-header : Header P (P.past k) → ⊥
    past-no-header i = omega (arith, header-before (P.past k) i, W.from k h)

    pub before-no-header : Header P (P.first k - 1) → ⊥
    before-no-header i = omega (arith, header-before (P.first k - 1) i, i.below, W.from k h)
