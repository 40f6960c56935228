-- No second outcome of the call over lists, and what that makes of the samples. Document 01, "What the promises must nail down" and "Sample
-- problems". Assumes nothing.
use mathlib.Core.Path.{◌≡◌, sym, ap, ◌∙◌}
use mathlib.Core.List.Memᴰ.{head as here}
use mathlib.Core.List.Memᴰ.{not-nil}
use mathlib.Core.List.Memᴰ.{tail as next}
use mathlib.Core.List.{List, [], ◌∷◌, map, Memᴰ as In}
use Rattle.rules.specs.declared.answer.Answer.{Answer}
use Rattle.rules.specs.Rooms.{Room, Results}
use Rattle.rules.specs.Outcome.{Outcome, outcome_of}
use Rattle.rules.specs.Samples.{samples, handed, expected}
use Rattle.rules.proofs.AllSamples.{samples-hold}
use Rattle.theorems.proofs.Answers.OneOutcome.{answer-one}
use Rattle.calls.specs.Called.{Run, OneRun, SamplesCalled}

-- a run is its three parts
same : {x y : Answer} {a b : Room} {u v : Results} → x ≡ y → a ≡ b → u ≡ v
    → ◌≡◌ {A = Run} (record { answer = x; room = a; results = u }) (record { answer = y; room = b; results = v })
same e f g = cc

pub one-run : OneRun
one-run h r s e k =
    let both = e ∙ sym k in
    same
    (answer-one h r.answer s.answer (ap (λ (o : Outcome). o.said) e) (ap (λ (o : Outcome). o.said) k))
    (ap (λ (o : Outcome). o.room) both)
    (ap (λ (o : Outcome). o.results) both)

-- lists that two functions make of one list agree at each of its members
agree : {A B : Type 0} (f g : A → B) (l : List A) {x : A} → map f l ≡ map g l → In x l → f x ≡ g x
agree f g [] e m = absurd (not-nil m)
agree f g (y ∷ l) e (here h) = let first : f y ≡ g y = cc in rw h first
agree f g (y ∷ l) e (next m) = let rest : map f l ≡ map g l = cc in agree f g l rest m

pub samples-called : SamplesCalled
samples-called x m r e = e ∙ agree (λ y. outcome_of (handed y)) expected samples samples-hold.outcomes m
