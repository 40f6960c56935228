-- A reduced problem's fields, one above another: what lies below a field's bit does not reach it, and no bit is lost. Assumes nothing.
use Prim.Native.Nat.{ℕ, ◌+◌, ◌-◌, ◌*◌, ◌%◌, ◌^◌, ◌≤◌, ◌<◌}
use native.Mathlib.Nat.{mod-eq_of_lt}
use native.Mathlib.Omega.{arith}
use mathlib.Core.Path.{◌≡◌, refl, sym, ap, ◌∙◌}
use mathlib.Core.Bool.{Bool, true, false, cond}
use mir.Val.{bool_byte}
use Rattle.std.proofs.Math.Pow.{pow_mono}
use Rattle.std.proofs.lemmas.Nat.{pow-add}
use Rattle.kapkyrem.specs.Packed.{packed_reduced, InOrder, ReducedFits}

-- one field more
field-below : (p s low x : ℕ) → p ≤ s → low < 2 ^ p → x < 2 ^ (s - p) → low + x * 2 ^ p < 2 ^ s
field-below p s low x h l k =
    let n : p + (s - p) ≡ s = omega arith in
    let e : 2 ^ s ≡ 2 ^ p * 2 ^ (s - p) = sym (ap (λ (j : ℕ). 2 ^ j) n) ∙ pow-add 2 p (s - p) in
    go (2 ^ p) (2 ^ (s - p)) (2 ^ s) e l k
  where
    go : (a b c : ℕ) → c ≡ a * b → low < a → x < b → low + x * a < c
    go a b c e l k = grind arith

module _ {p s o primaries secondaries options rounds settled : ℕ} (i : InOrder p s o) (fits : ReducedFits p s o primaries secondaries options rounds settled) where
  abbrev low : ℕ
  low = 256 * rounds + 16777216 * settled

  below-primaries : low < 2 ^ p
  below-primaries = let h = pow_mono i.0 in let r = fits.rounds-fit in let f = fits.settled-fits in omega arith

  below-secondaries : low + primaries * 2 ^ p < 2 ^ s
  below-secondaries = field-below p s low primaries i.1 below-primaries fits.primaries-fit

  below-options : low + primaries * 2 ^ p + secondaries * 2 ^ s < 2 ^ o
  below-options = field-below s o (low + primaries * 2 ^ p) secondaries i.2 below-secondaries fits.secondaries-fit

  below-all : low + primaries * 2 ^ p + secondaries * 2 ^ s + options * 2 ^ o < 2 ^ 64
  below-all = field-below o 64 (low + primaries * 2 ^ p + secondaries * 2 ^ s) options (omega (arith, i.3)) below-options fits.options-fit

  pub whole-primaries : primaries * 2 ^ p % 18446744073709551616 ≡ primaries * 2 ^ p
  whole-primaries = mod-eq_of_lt (omega (arith, below-all))

  pub whole-secondaries : secondaries * 2 ^ s % 18446744073709551616 ≡ secondaries * 2 ^ s
  whole-secondaries = mod-eq_of_lt (omega (arith, below-all))

  pub whole-options : options * 2 ^ o % 18446744073709551616 ≡ options * 2 ^ o
  whole-options = mod-eq_of_lt (omega (arith, below-all))

  pub sum-fits : 256 * rounds + 16777216 * settled + primaries * 2 ^ p % 18446744073709551616 + secondaries * 2 ^ s % 18446744073709551616 + options * 2 ^ o %
      18446744073709551616 < 18446744073709551616
  sum-fits = rw (whole-primaries, whole-secondaries, whole-options) below-all

  pub sum-packed : 256 * rounds + 16777216 * settled + primaries * 2 ^ p % 18446744073709551616 + secondaries * 2 ^ s % 18446744073709551616 + options * 2 ^ o % 18446744073709551616
      ≡ packed_reduced p s o primaries secondaries options rounds settled
  sum-packed = rw (whole-primaries, whole-secondaries, whole-options) (grind arith)

-- the flag as the code converts it
pub flag_is : (b : Bool) → bool_byte b ≡ cond b 1 0
flag_is true = refl
flag_is false = refl
