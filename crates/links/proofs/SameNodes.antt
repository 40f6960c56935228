-- Nodes that are the same ones: as they are, and one call after another. Assumes nothing.
use Rattle.std.proofs.Common.{◌≡◌, refl, ◌∙◌, ap}
use Rattle.links.specs.declared.shape.Shape.{Shape}
use Rattle.links.specs.declared.nodes.Nodes.{Nodes}
use Rattle.links.specs.Nodes.{SameNodes}

pub same-refl : (a : Nodes) → SameNodes a a
same-refl a = record { heads = refl; up = refl; down = refl; heads-long = refl; up-long = refl; down-long = refl; shape = refl }

pub same-then : {a b c : Nodes} → SameNodes a b → SameNodes b c → SameNodes a c
same-then s t = record {
  heads = t.heads ∙ s.heads;
  up = t.up ∙ s.up;
  down = t.down ∙ s.down;
  heads-long = t.heads-long ∙ s.heads-long;
  up-long = t.up-long ∙ s.up-long;
  down-long = t.down-long ∙ s.down-long;
  shape = t.shape ∙ s.shape;
}

-- of their shape: the same count of primary items, the same count of items, the same first node
pub same-np : {a b : Nodes} → SameNodes a b → b.shape.np ≡ a.shape.np
same-np s = ap (λ (k : Shape). k.np) s.shape

pub same-n : {a b : Nodes} → SameNodes a b → b.shape.n ≡ a.shape.n
same-n s = ap (λ (k : Shape). k.n) s.shape

pub same-start : {a b : Nodes} → SameNodes a b → b.shape.start ≡ a.shape.start
same-start s = ap (λ (k : Shape). k.start) s.shape
