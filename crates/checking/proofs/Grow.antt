-- What is taken at some figures is taken at greater ones, with other room and other result lists, if these are large enough. Assumes nothing.
use Prim.Native.Nat.{ℕ, ◌+◌, ◌≤◌}
use native.Mathlib.Omega.{arith}
use mathlib.Core.Path.{◌≡◌}
use mathlib.Core.Bool.{Bool, false}
use mathlib.Core.List.{List}
use mathlib.Core.Option.{none}
use Rattle.rules.specs.Problem.{Entry, Figures, entries_of, cut}
use Rattle.rules.specs.Rooms.{Handed}
use Rattle.rules.specs.Checks.{check_options, refusal_of}
use Rattle.rules.specs.SecondRun.{Roomy}
use Rattle.theorems.proofs.Checks.Accept.{Passes, ChecksPassed, options→, options←, passed, not-refused}

-- Each figure is at most the other's.
pub record FiguresWithin (f g : Figures) : Type 0 where
  pub items : f.items ≤ g.items
  pub options : f.options ≤ g.options
  pub entries : f.entries ≤ g.entries
  pub colour : f.colour ≤ g.colour

-- The same problem is handed in.
pub record HandedAlike (h h' : Handed) : Type 0 where
  pub np : h.np ≡ h'.np
  pub ns : h.ns ≡ h'.ns
  pub items : h.items ≡ h'.items
  pub colours : h.colours ≡ h'.colours
  pub ends : h.ends ≡ h'.ends

-- entries that pass with colours up to c pass with colours up to d
more-colours : (np n c d : ℕ) → c ≤ d → (seen : List ℕ) (o : List Entry) → Passes np n c seen o → Passes np n d seen o
more-colours np n c d l seen o P =
    record {
      entry = λ e m. let A = P.entry e m in let k = A.colour-below in record { below = A.below; colour-below = omega arith; primary-plain = A.primary-plain };
      fresh = P.fresh;
      once = P.once;
    }

pub figures-grow : (f g : Figures) → FiguresWithin f g → (ragged : Bool) (h h' : Handed) → HandedAlike h h' → Roomy h' → refusal_of f ragged h ≡ none → refusal_of g false h' ≡ none
figures-grow f g W ragged h h' S R e = not-refused g h' (grown (passed f ragged h e))
  where
    grown : ChecksPassed f h → ChecksPassed g h'
    grown P =
        record {
          some-primary = rw (← S.np) P.some-primary;
          items = let a = P.items in let b = S.np in let c = S.ns in let d = W.items in omega arith;
          some-option = rw (← S.ends) P.some-option;
          options = let a = P.options in let d = W.options in rw (← S.ends) (omega arith);
          lengths = rw (← S.items, ← S.colours) P.lengths;
          entries = let a = P.entries in let d = W.entries in rw (← S.items) (omega arith);
          ends = rw (← S.items, ← S.ends) P.ends;
          room = R.room;
          results = R.results;
          checked = rw (← S.np, ← S.ns, ← S.items, ← S.colours, ← S.ends) checked;
        }
      where
        os : List (List Entry)
        os = cut 0 h.ends (entries_of h.items h.colours)

        checked : check_options h.np (h.np + h.ns) g.colour 0 os ≡ none
        checked =
            options← h.np (h.np + h.ns) g.colour 0 os
            (λ o m. more-colours _ _ f.colour g.colour W.colour _ o (options→ h.np (h.np + h.ns) f.colour 0 os P.checked o m))
