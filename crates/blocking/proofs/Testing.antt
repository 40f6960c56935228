-- What a test takes out, item by item. Assumes nothing.
use Prim.Native.Nat.{ℕ}
use mathlib.Core.Path.{◌≡◌, ◌∙◌, ap, sym}
use mathlib.Core.List.{List, [], ◌∷◌, ◌++◌, append_assoc, append-nil}
use Rattle.links.specs.Ground.{Ground, taken, after}
use Rattle.links.specs.Taking.{rivals, testing}
use Rattle.links.proofs.Taken.{taken-append, taken-after}

-- one item more
testing-end : (h : Ground) (qs : List ℕ) (q : ℕ) → testing h (qs ++ (q ∷ [])) ≡ testing h qs ++ rivals (taken h (testing h qs)) q
testing-end h [] q = append-nil (rivals h q)
testing-end h (x ∷ qs) q =
    ap (λ (l : List ℕ). rivals h x ++ l) (testing-end (taken h (rivals h x)) qs q)
    ∙ sym (append_assoc (rivals h x) (testing (taken h (rivals h x)) qs) (rivals (taken (taken h (rivals h x)) (testing (taken h (rivals h x)) qs)) q))
    ∙ ap (λ (G : Ground). (rivals h x ++ testing (taken h (rivals h x)) qs) ++ rivals G q) (sym (taken-append h (rivals h x) (testing (taken h (rivals h x)) qs)))

pub testing-more : (h : Ground) (qs : List ℕ) (q : ℕ) → testing h (qs ++ (q ∷ [])) ≡ testing h qs ++ rivals (after h (testing h qs)) q
testing-more h qs q = testing-end h qs q ∙ ap (λ (G : Ground). testing h qs ++ rivals G q) (taken-after h (testing h qs))
