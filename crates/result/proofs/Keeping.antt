-- The kept items, one column after another. Assumes nothing.
use Prim.Native.Nat.{ℕ, ◌+◌, ◌<◌, ◌≤◌}
use native.Mathlib.Omega.{arith}
use mathlib.Core.Path.{◌≡◌, sym}
use Rattle.std.proofs.Common.{true, false, eqb}
use Rattle.std.proofs.lemmas.Bool.{eqb-true, eqb-false}
use mathlib.Core.List.{List}
use borrow.Author.Tests.{lt-ltb, le-ltb}
use lib.ListN.{length, set}
use lib.IntN.{ℤ}
use Rattle.links.specs.Head.{item_of, head}
use Rattle.links.specs.Row.{full}
use Rattle.result.specs.Filled.{Filled}
use Rattle.result.specs.Kept.{kept_from}
use Rattle.result.proofs.Filling.{filled_more, filled-same}
use Rattle.links.proofs.Spans.{keep-end, keep-over}

module _ (heads : List ℤ) (old : List ℕ) (a : ℕ) {list : List ℕ} {at c : ℕ} (h : a ≤ c) (f : Filled old (kept_from heads a c) list at) where
  pub keeping-over : eqb (item_of (head heads (c + 1))) 0 ≡ true → Filled old (kept_from heads a (c + 1)) list at
  keeping-over z =
      filled-same old list at
      (sym (keep-over (λ c. full heads (c + 1)) a c h (le-ltb 0 (item_of (head heads (c + 1))) (omega (arith, eqb-true (item_of (head heads (c + 1))) 0 z))))) f

  pub keeping-one : eqb (item_of (head heads (c + 1))) 0 ≡ false → at < length list → Filled old (kept_from heads a (c + 1)) (set list at c) (at + 1)
  keeping-one n k =
      filled-same old (set list at c) (at + 1)
      (sym (keep-end (λ c. full heads (c + 1)) a c h (lt-ltb 0 (item_of (head heads (c + 1))) (omega (arith, eqb-false (item_of (head heads (c + 1))) 0 n)))))
      (filled_more old (kept_from heads a c) list at f c k)
