-- No second outcome: what the `ensures` of a call from C says of one input fixes the number and every list. Assumes nothing.
use Prim.Native.Nat.{ℕ}
use mathlib.Core.Path.{◌≡◌, sym, ap, ◌∙◌}
use mathlib.Core.List.{List}
use Rattle.rules.specs.Rooms.{Room, Results}
use Rattle.kapkyrem.specs.Calls.{Called, called, CalledDesk, called_desk, CalledCompact, called_compact}

pub one-lists : (c : Called) (r r' : ℕ) (room room' : Room) (results results' : Results) → called r room results ≡ c → called r' room' results' ≡ c
    → (r ≡ r') × (room ≡ room') × (results ≡ results')
one-lists c r r' room room' results results' e k =
    let same = e ∙ sym k in
    (ap (λ (x : Called). x.answer) same, ap (λ (x : Called). x.room) same, ap (λ (x : Called). x.results) same)

pub one-bytes : (c : CalledDesk) (r r' : ℕ) (results results' : Results) → called_desk r results ≡ c → called_desk r' results' ≡ c → (r ≡ r') × (results ≡ results')
one-bytes c r r' results results' e k =
    let same = e ∙ sym k in
    (ap (λ (x : CalledDesk). x.answer) same, ap (λ (x : CalledDesk). x.results) same)

pub one-compact : (c : CalledCompact) (r r' : ℕ) (out out' : List ℕ) → called_compact r out ≡ c → called_compact r' out' ≡ c → (r ≡ r') × (out ≡ out')
one-compact c r r' out out' e k =
    let same = e ∙ sym k in
    (ap (λ (x : CalledCompact). x.answer) same, ap (λ (x : CalledCompact). x.out) same)
