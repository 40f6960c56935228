-- The items whose columns are not empty are those in a live option: the kept items of the rules, primaries first. Assumes nothing.
use Prim.Native.Nat.{ℕ, ◌+◌, ◌-◌, ◌≤◌}
use native.Mathlib.Omega.{arith}
use mathlib.Core.Path.{◌≡◌, ◌∙◌, ap, sym}
use mathlib.Core.Bool.{not}
use mathlib.Core.List.{List, ◌++◌, Memᴰ as In}
use lib.Dec.{T, ltb, lt→ltb}
use lib.ListN.{length, take, drop, length-append}
use lib.IntN.{ℤ}
use Rattle.rules.specs.Lists.{keep, from, up_to, written}
use Rattle.rules.specs.Result.{kept_items, primaries_of, secondaries_of}
use Rattle.theorems.proofs.Words.Tests.{le→nltb}
use Rattle.theorems.proofs.Words.Lists.{any_none, keep→, keep_all}
use Rattle.theorems.proofs.Words.Counts.{count_none, count-append, count-split, count-keep}
use Rattle.links.specs.Ground.{Ground}
use Rattle.links.specs.Row.{span, full}
use Rattle.links.specs.Shown.{shown}
use Rattle.links.proofs.Spans.{In-span, keep_join}
use Rattle.showing.proofs.Results.{kept-items}
use Rattle.result.specs.Filled.{Filled}
use Rattle.result.specs.Kept.{kept_from}
use Rattle.result.specs.Reading.{HeadsRead}
use Rattle.result.proofs.Filling.{filled_then}

module _ (g : Ground) (n : ℕ) (heads : List ℤ) (s : HeadsRead g n heads) where
  pub columns-kept : kept_from heads 0 n ≡ kept_items n (shown g.plan g.on)
  columns-kept =
      let e : n - 0 ≡ g.plan.n = omega (arith, s.items-are) in
      ap (λ (k : ℕ). keep (λ c. full heads (c + 1)) (from 0 k)) e
      ∙ ap (λ (l : List ℤ). keep (λ c. full l (c + 1)) (up_to g.plan.n)) s.heads-are
      ∙ sym (kept-items g s.ready)
      ∙ ap (λ (k : ℕ). kept_items k (shown g.plan g.on)) (sym s.items-are)

  module _ (np : ℕ) (h : np ≤ n) where
    -- primaries, and secondaries behind them
    parts : kept_from heads 0 np ++ kept_from heads np n ≡ kept_items n (shown g.plan g.on)
    parts = sym (keep_join (λ c. full heads (c + 1)) 0 np n (omega arith) h) ∙ columns-kept

    below : (c : ℕ) → In c (kept_from heads 0 np) → T (ltb c np)
    below c m = lt→ltb c np (In-span 0 np (keep→ (λ c. full heads (c + 1)) (span 0 np) m).0).1

    above : (c : ℕ) → In c (kept_from heads np n) → T (not (ltb c np))
    above c m = le→nltb c np (In-span np n (keep→ (λ c. full heads (c + 1)) (span np n) m).0).0

    primaries : primaries_of np (kept_items n (shown g.plan g.on)) ≡ length (kept_from heads 0 np)
    primaries =
        ap (primaries_of np) (sym parts)
        ∙ (let a = count-append (λ c. ltb c np) (kept_from heads 0 np) (kept_from heads np n) in
        let b = sym (count-keep (λ c. ltb c np) (kept_from heads 0 np)) ∙ ap length (keep_all (λ c. ltb c np) (kept_from heads 0 np) below) in
        let d = count_none (λ c. ltb c np) (kept_from heads np n) (any_none (λ c. ltb c np) (kept_from heads np n) above) in
        omega arith)

    -- what the two walks over the columns come to
    pub kept_result : (old list rest : List ℕ) (p s : ℕ) → Filled old (kept_from heads 0 np) list p
        → Filled (take (length list - p) (drop p list)) (kept_from heads np n) rest s
        → (take p list ++ (rest ++ drop (length list - p) (drop p list)) ≡ written (kept_items n (shown g.plan g.on)) old)
        × (p ≡ primaries_of np (kept_items n (shown g.plan g.on))) × (s ≡ secondaries_of np (kept_items n (shown g.plan g.on)))
    kept_result old list rest p s a b =
        let split = count-split (λ c. ltb c np) (kept_items n (shown g.plan g.on)) in
        let whole = ap length parts in
        let both = length-append (kept_from heads 0 np) (kept_from heads np n) in (
          filled_then old a b ∙ ap (λ (xs : List ℕ). written xs old) parts,
          a.at-is ∙ sym primaries,
          omega (arith, a.at-is, b.at-is, primaries, split, whole, both),
        )
