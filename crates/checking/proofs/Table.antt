-- The whole table: checks 10 to 15 as the problem's own type makes them, and behind them 16, 17, 18, and 19 to 22. Assumes nothing.
use Prim.Native.Nat.{ℕ, ◌+◌, ◌≤◌}
use mathlib.Core.Path.{◌≡◌, refl, ◌∙◌}
use mathlib.Core.Bool.{Bool, not, ◌||◌}
use mathlib.Core.List.{List, [], ◌∷◌, ◌++◌}
use mathlib.Core.Option.{Option, none, some}
use lib.Dec.{T, ltb, eqb, eqb→eq, nltb→le}
use lib.ListN.{length}
use mir.Facts.{T_not-not}
use Rattle.rules.specs.Lists.{or_else, first_of}
use Rattle.rules.specs.Problem.{Figures, entries_of, cut}
use Rattle.rules.specs.Rooms.{Handed}
use Rattle.rules.specs.Checks.{Refusal, refuse, check16, short_room, short_results, check_options, size_checks, refusal_of}
use Rattle.rules.specs.Sizing.{sizing}
use Rattle.theorems.proofs.Words.Tests.{T-nor}
use Rattle.theorems.proofs.Words.Choices.{or_else-assoc, or_else-nothing, or_else-none}
use Rattle.theorems.proofs.Checks.Accept.{refuse-none}

first-append : (xs ys : List (Option Refusal)) → first_of (xs ++ ys) ≡ or_else (first_of xs) (first_of ys)
first-append [] ys = refl
first-append (x ∷ xs) ys = rw (first-append xs ys) (or_else-assoc x (first_of xs) (first_of ys))

-- Counts that checks 10 to 15 leave.
pub record Sizes (f : Figures) (ragged : Bool) (np ns M E C : ℕ) : Type 0 where
  pub even : T (not ragged)
  pub items : np + ns ≤ f.items
  pub options : M ≤ f.options
  pub lengths : E ≡ C
  pub entries : E ≤ f.entries

-- checks 10 to 15, of lists that are handed in
abbrev pub size_refusal : Figures → Bool → ℕ → ℕ → List ℕ → List ℕ → List ℕ → Option Refusal
size_refusal f ragged np ns items colours ends = sizing f np ns (length ends) (length items) (ragged || not (eqb (length items) (length colours)))

module _ (f : Figures) (ragged : Bool) (np ns : ℕ) (items colours ends : List ℕ) where
  pub sizes : size_refusal f ragged np ns items colours ends ≡ none → Sizes f ragged np ns (length ends) (length items) (length colours)
  unfolding sizing
  sizes e =
      let alike = eqb (length items) (length colours) in
      let a = or_else-none (refuse 10 0 (eqb np 0)) _ e in
      let b = or_else-none (refuse 11 0 (ltb f.items (np + ns))) _ a.1 in
      let c = or_else-none (refuse 12 0 (eqb (length ends) 0)) _ b.1 in
      let d = or_else-none (refuse 13 0 (ltb f.options (length ends))) _ c.1 in
      let g = or_else-none (refuse 14 0 (ragged || not alike)) _ d.1 in
      let h = or_else-none (refuse 15 0 (ltb f.entries (length items))) _ g.1 in
      let whole = refuse-none 14 0 (ragged || not alike) g.0 in
      record {
        even = (T-nor ragged (not alike) whole).0;
        items = nltb→le f.items (np + ns) (refuse-none 11 0 (ltb f.items (np + ns)) b.0);
        options = nltb→le f.options (length ends) (refuse-none 13 0 (ltb f.options (length ends)) d.0);
        lengths = eqb→eq (length items) (length colours) (T_not-not alike (T-nor ragged (not alike) whole).1);
        entries = nltb→le f.entries (length items) (refuse-none 15 0 (ltb f.entries (length items)) h.0);
      }

module _ (f : Figures) (ragged : Bool) (h : Handed) where
  -- checks 16 to 22
  abbrev later : List (Option Refusal)
  later =
      check16 (length h.items) h.ends
      ∷ refuse 17 0 (short_room (h.np + h.ns) (length h.items) (length h.ends) h.room)
      ∷ refuse 18 0 (short_results (h.np + h.ns) (length h.items) (length h.ends) h.results)
      ∷ check_options h.np (h.np + h.ns) f.colour 0 (cut 0 h.ends (entries_of h.items h.colours))
      ∷ []

  table : refusal_of f ragged h ≡ or_else (size_refusal f ragged h.np h.ns h.items h.colours h.ends) (first_of later)
  unfolding refusal_of sizing
  table = first-append (size_checks f h.np h.ns (length h.ends) (length h.items) (ragged || not (eqb (length h.items) (length h.colours)))) later

  pub at-sizes : (r : Refusal) → size_refusal f ragged h.np h.ns h.items h.colours h.ends ≡ some r → refusal_of f ragged h ≡ some r
  at-sizes r e = table ∙ rw e

  module _ (s : size_refusal f ragged h.np h.ns h.items h.colours h.ends ≡ none) where
    fit : refusal_of f ragged h ≡ first_of later
    fit = table ∙ rw s

    pub at-ends : (r : Refusal) → check16 (length h.items) h.ends ≡ some r → refusal_of f ragged h ≡ some r
    at-ends r e = fit ∙ rw e

    module _ (e : check16 (length h.items) h.ends ≡ none) where
      pub at_room : (r : Refusal) → refuse 17 0 (short_room (h.np + h.ns) (length h.items) (length h.ends) h.room) ≡ some r → refusal_of f ragged h ≡ some r
      at_room r t = fit ∙ rw (e, t)

      module _ (t : refuse 17 0 (short_room (h.np + h.ns) (length h.items) (length h.ends) h.room) ≡ none) where
        pub at_results : (r : Refusal) → refuse 18 0 (short_results (h.np + h.ns) (length h.items) (length h.ends) h.results) ≡ some r → refusal_of f ragged h ≡ some r
        at_results r u = fit ∙ rw (e, t, u)

        pub at-entries : refuse 18 0 (short_results (h.np + h.ns) (length h.items) (length h.ends) h.results) ≡ none
            → refusal_of f ragged h ≡ check_options h.np (h.np + h.ns) f.colour 0 (cut 0 h.ends (entries_of h.items h.colours))
        at-entries u = fit ∙ rw (e, t, u) (or_else-nothing (check_options h.np (h.np + h.ns) f.colour 0 (cut 0 h.ends (entries_of h.items h.colours))))
