-- Which refusal a renumbering call gives, test by test, and what holds where it gives none. Assumes nothing.
use Prim.Native.Nat.{ℕ, ◌≤◌, ◌<◌}
use native.Mathlib.Omega.{arith}
use mathlib.Core.Path.{◌≡◌, refl, sym}
use mathlib.Core.Logic.{◌≢◌}
use mathlib.Core.Bool.{true, false, not, ◌||◌}
use mathlib.Core.List.{List}
use mathlib.Core.Option.{Option, none, some, some-ne-none}
use lib.Dec.{ltb, eqb, nltb→le}
use lib.ListN.{length}
use mir.Facts.{T_not-not}
use borrow.Author.Tests.{lt-ltb, le-ltb, eq-eqb, ne_eqb}
use Rattle.rules.specs.Lists.{rising}
use Rattle.rules.specs.Checks.{Refusal, refuse, refuse_at}
use Rattle.rules.specs.Renumber.{not_kept, renumber_refusal}
use Rattle.theorems.proofs.Words.Tests.{T_true, T-nor, neqb→ne}
use Rattle.theorems.proofs.Words.Choices.{or_else-none}
use Rattle.theorems.proofs.Checks.Accept.{refuse-none}
use Rattle.words.specs.Bytes.{numbers_of, ragged}
use Rattle.renumbering.specs.Bytes.{bytes_refusal}
use Rattle.renumbering.specs.Parts.{Renumberable, AllKept}
use Rattle.renumbering.proofs.Missing.{all-kept}

-- a refusal as the table has it
abbrev pub refused_at : ℕ → ℕ → Option Refusal
refused_at number place = some (record { number = number; place = place })

refuse-at-none : (n : ℕ) (x : Option ℕ) → refuse_at n x ≡ none → x ≡ none
refuse-at-none n none e = refl
refuse-at-none n (some k) e = absurd (some-ne-none _ e)

module _ (kept : List ℕ) (primaries : ℕ) (items out : List ℕ) where
  -- 24, three ways
  pub not-rising : rising kept ≡ false → refused_at 24 0 ≡ renumber_refusal kept primaries items out
  unfolding renumber_refusal
  not-rising e = rw e

  pub no-primary : rising kept ≡ true → primaries ≡ 0 → refused_at 24 0 ≡ renumber_refusal kept primaries items out
  unfolding renumber_refusal
  no-primary r e = rw (r, eq-eqb primaries 0 e)

  pub above-length : rising kept ≡ true → primaries ≢ 0 → length kept < primaries → refused_at 24 0 ≡ renumber_refusal kept primaries items out
  unfolding renumber_refusal
  above-length r n h = rw (r, ne_eqb primaries 0 n, lt-ltb (length kept) primaries h)

  pub sound-from : rising kept ≡ true → primaries ≢ 0 → primaries ≤ length kept → Renumberable kept primaries
  sound-from r n h = record { rises = r; some-primary = omega arith; within = h }

  -- 18, and 25 or none
  module _ (s : Renumberable kept primaries) where
    passes-24 : (not (rising kept) || eqb primaries 0 || ltb (length kept) primaries) ≡ false
    passes-24 = let z = s.some-primary in rw (s.rises, ne_eqb primaries 0 (λ e. absurd (omega arith)), le-ltb (length kept) primaries s.within)

    pub too_short : length out < length items → refused_at 18 0 ≡ renumber_refusal kept primaries items out
    unfolding renumber_refusal
    too_short h = rw (passes-24, lt-ltb (length out) (length items) h)

    module _ (room : length items ≤ length out) where
      pub missing_at : (k : ℕ) → some k ≡ not_kept kept 0 items → refused_at 25 k ≡ renumber_refusal kept primaries items out
      unfolding renumber_refusal
      missing_at k e = rw (passes-24, le-ltb (length out) (length items) room, sym e)

      pub nothing-wrong : none ≡ not_kept kept 0 items → none ≡ renumber_refusal kept primaries items out
      unfolding renumber_refusal
      nothing-wrong e = rw (passes-24, le-ltb (length out) (length items) room, sym e)

  -- what holds where there is no refusal
  pub accepted : renumber_refusal kept primaries items out ≡ none → Renumberable kept primaries × AllKept kept items × (length items ≤ length out)
  unfolding renumber_refusal
  accepted e =
      let a = or_else-none (refuse 24 0 (not (rising kept) || eqb primaries 0 || ltb (length kept) primaries)) _ e in
      let b = or_else-none (refuse 18 0 (ltb (length out) (length items))) _ a.1 in
      let d = or_else-none (refuse_at 25 (not_kept kept 0 items)) _ b.1 in
      let t = T-nor (not (rising kept) || eqb primaries 0) (ltb (length kept) primaries) (refuse-none 24 0 (not (rising kept) || eqb primaries 0 || ltb (length kept) primaries) a.0) in
      let u = T-nor (not (rising kept)) (eqb primaries 0) t.0 in
      let n = neqb→ne primaries 0 u.1 in (
        record {
          rises = T_true (rising kept) (T_not-not (rising kept) u.0);
          some-primary = omega arith;
          within = nltb→le (length kept) primaries t.1;
        },
        all-kept kept items 0 (refuse-at-none 25 (not_kept kept 0 items) d.0),
        nltb→le (length out) (length items) (refuse-none 18 0 (ltb (length out) (length items)) b.0),
      )

-- Over byte lists: 14, and else as over the numbers.
module _ (kept : List ℕ) (primaries : ℕ) (items out : List ℕ) where
  pub ragged-refused : (ragged kept || ragged items || ragged out) ≡ true → refused_at 14 0 ≡ bytes_refusal kept primaries items out
  unfolding bytes_refusal
  ragged-refused e = rw e

  pub whole-refused : (ragged kept || ragged items || ragged out) ≡ false
      → renumber_refusal (numbers_of kept) primaries (numbers_of items) (numbers_of out) ≡ bytes_refusal kept primaries items out
  unfolding bytes_refusal
  whole-refused e = rw e
