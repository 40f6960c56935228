-- What the calls of a step leave and answer, in the words of what was there before. Assumes nothing.
use Rattle.std.proofs.Common.{◌≡◌, ℕ, ℤ, List, Bool, Result}
use mathlib.Core.Path.{subst}
use Rattle.rules.specs.State.{Step}
use Rattle.links.specs.Plan.{Plan}
use Rattle.links.specs.Ground.{Ground}
use Rattle.removing.specs.Removing.{Removed}
use Rattle.condemning.specs.Condemning.{Tried, Spared}
use Rattle.preproc.specs.declared.stop.Stop.{Stop}
use Rattle.preproc.specs.Standing.{Stepped}

module _ {g : Ground} {a b : ℕ} (e : a ≡ b) where
  pub removed-np : {c p z : ℕ} {heads : List ℤ} {up down : List ℕ} → Removed g c p a heads up down z → Removed g c p b heads up down z
  removed-np {c} {p} {z} {heads} {up} {down} r = subst (λ (k : ℕ). Removed g c p k heads up down z) e r

  pub tried-np : {i k z : ℕ} {tints marks : List ℕ} → Tried g i a k z tints marks → Tried g i b k z tints marks
  tried-np {i} {k} {z} {tints} {marks} t = subst (λ (n : ℕ). Tried g i n k z tints marks) e t

  pub spared-np : {i z : ℕ} {heads : List ℤ} {up down : List ℕ} → Spared g i a heads up down z → Spared g i b heads up down z
  spared-np {i} {z} {heads} {up} {down} d = subst (λ (k : ℕ). Spared g i k heads up down z) e d

-- a step and its answer under other names
pub restep : {P : Plan} {x y : Step} {r q : Result Bool Stop} {heads : List ℤ} {up down tints marks : List ℕ} → x ≡ y → r ≡ q
    → Stepped P x r heads up down tints marks → Stepped P y q heads up down tints marks
restep {P} {x} {y} {r} {q} {heads} {up} {down} {tints} {marks} e a s =
    subst (λ (k : Result Bool Stop). Stepped P y k heads up down tints marks) a (subst (λ (k : Step). Stepped P k r heads up down tints marks) e s)
