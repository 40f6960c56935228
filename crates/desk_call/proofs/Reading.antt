-- The desk's call over bytes: the problem that is made of its counts. Assumes nothing.
use Prim.Native.Nat.{ℕ}
use native.Mathlib.Omega.{arith}
use mathlib.Core.Path.{◌≡◌, refl, sym, ap, subst, ◌∙◌}
use mathlib.Core.Bool.{Bool, false, not, ◌||◌}
use mathlib.Core.List.{List}
use mathlib.Core.Option.{Option, none, some}
use lib.Dec.{eqb}
use lib.ListN.{length, take}
use Rattle.rules.specs.Lists.{written}
use Rattle.rules.specs.Problem.{Figures, desk_figures}
use Rattle.rules.specs.Rooms.{Results, Handed}
use Rattle.rules.specs.Checks.{Refusal}
use Rattle.rules.specs.Sizing.{sizing}
use Rattle.rules.specs.Paper.{said_refused}
use Rattle.rules.specs.declared.lent.Given.{Given}
use Rattle.rules.specs.declared.problem.Problem.{Problem}
use Rattle.checking.specs.Made.{Made}
use Rattle.checking.proofs.Table.{Sizes, size_refusal, sizes, at-sizes}
use Rattle.theorems.proofs.Words.Tests.{T_false}
use Rattle.words.specs.Bytes.{numbers_of}
use Rattle.desk_call.specs.Desk.{any_ragged, handed_bytes, Served, serving, served}
use Rattle.desk_call.proofs.Thinning.{refused-served, front}

-- what the problem's own type says of the counts is what it says of the lists
pub sized-lists : (f : Figures) (np ns : ℕ) (items colours ends : List ℕ) (ragged : Bool) {M E C : ℕ} {r : Bool} {k : Option Refusal} → r ≡ ragged → M ≡ length ends
    → E ≡ length items → C ≡ length colours → k ≡ sizing f np ns M E (r || not (eqb E C)) → size_refusal f ragged np ns items colours ends ≡ k
sized-lists f np ns items colours ends ragged r m e c k = rw (← r, ← m, ← e, ← c) (sym k)

-- the front of a list is what was read to it
pub read-back : (new old : List ℕ) {out : List ℕ} {k : ℕ} → out ≡ written new old → k ≡ length new → take k out ≡ new
read-back new old e m = rw e (front new old m)

-- the byte lists as they are handed in and lent
module _ (g : Given ℕ) (bytes : Results) where
  abbrev h : Handed
  h = handed_bytes g.np g.ns g.cap g.items.now g.colours.now g.ends.now bytes

  abbrev pub uneven : Bool
  uneven = any_ragged g.items.now g.colours.now g.ends.now bytes

  abbrev pub sized : Option Refusal
  sized = size_refusal desk_figures uneven g.np g.ns (numbers_of g.items.now) (numbers_of g.colours.now) (numbers_of g.ends.now)

  pub counts-refused : {r : Refusal} → sized ≡ some r → serving (said_refused r) bytes ≡ served uneven h bytes
  counts-refused {r} e = refused-served uneven h bytes _ (at-sizes desk_figures uneven h r e)

  -- the problem that its constructor makes of these counts
  module _ (e : sized ≡ none) {p : Problem} {M E : ℕ} (counts : p ≡ record { np = g.np; ns = g.ns; options = M; entries = E })
      (m : M ≡ length (numbers_of g.ends.now)) (k : E ≡ length (numbers_of g.items.now)) where
    S : Sizes desk_figures uneven g.np g.ns (length (numbers_of g.ends.now)) (length (numbers_of g.items.now)) (length (numbers_of g.colours.now))
    S = sizes desk_figures uneven g.np g.ns (numbers_of g.items.now) (numbers_of g.colours.now) (numbers_of g.ends.now) e

    even : uneven ≡ false
    even = T_false uneven S.even

    pub made : Made desk_figures p (numbers_of g.items.now) (numbers_of g.colours.now) (numbers_of g.ends.now)
    made = rw counts (record {
      options = m;
      entries = k;
      taken = subst (λ (b : Bool). size_refusal desk_figures b g.np g.ns (numbers_of g.items.now) (numbers_of g.colours.now) (numbers_of g.ends.now) ≡ none) even e;
      few-items = omega arith;
      few-options = omega arith;
      few-entries = omega arith;
      colour = refl;
    })

    pub counts-passed : {x : Served} → x ≡ served false (handed_bytes p.np p.ns g.cap g.items.now g.colours.now g.ends.now bytes) bytes → x ≡ served uneven h bytes
    counts-passed q = q ∙ rw counts (ap (λ (b : Bool). served b h bytes) (sym even))
