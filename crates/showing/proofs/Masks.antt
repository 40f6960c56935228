-- What two masks show: masks that agree on the entries show the same, a mask without the entries of an option shows that option empty, and one
-- without the entries of a column shows the options without its item. Assumes nothing.
use Prim.Native.Nat.{ℕ, ◌+◌, ◌-◌, ◌<◌}
use mathlib.Core.Path.{◌≡◌, ◌∙◌, ap, sym}
use mathlib.Core.Bool.{Bool, false, ◌&&◌, not}
use mathlib.Core.List.{List, [], map, map-map}
use lib.Dec.{eqb, eqb→eq}
use Rattle.rules.specs.Lists.{keep, up_to}
use Rattle.rules.specs.Problem.{Entry}
use Rattle.rules.specs.State.{is}
use Rattle.rules.specs.Redundant.{without_item}
use Rattle.theorems.proofs.Words.Tests.{T-same, false-T, eq→eqb}
use Rattle.theorems.proofs.Words.Lists.{keep-cong, keep-none, map-cong, In-up_to}
use Rattle.links.specs.Plan.{Plan, EntryOf, Planned}
use Rattle.links.specs.Shown.{entry_at, shown_row, shown}
use Rattle.showing.proofs.Lists.{keep-both, keep-map}
use Rattle.showing.proofs.Shows.{item-col, col-item}
use Rattle.showing.proofs.InOrder.{nodes_in, In-nodes}

module _ (P : Plan) (W : Planned P) where
  -- an entry is one of item c if it is of column c + 1
  pub is-column : (c y : ℕ) → EntryOf P y → is c (entry_at P y) ≡ eqb (P.col y) (c + 1)
  is-column c y e =
      T-same (is c (entry_at P y)) (eqb (P.col y) (c + 1))
      (λ t. eq→eqb (P.col y) (c + 1) (item-col P W e c (eqb→eq (P.col y - 1) c t)))
      (λ t. eq→eqb (P.col y - 1) c (col-item P W y c (eqb→eq (P.col y) (c + 1) t)))

  module _ (on on' : ℕ → Bool) where
    module _ (k : ℕ) (h : k < P.M) where
      -- one option: the same, emptied, or without item c
      pub row_same : ((y : ℕ) → EntryOf P y → P.number y ≡ k → on' y ≡ on y) → shown_row P on' k ≡ shown_row P on k
      row_same a = ap (map (entry_at P)) (keep-cong on' on (nodes_in P k) (λ y m. let w = In-nodes P W k h m in a y w.0 w.1))

      pub row-emptied : ((y : ℕ) → EntryOf P y → P.number y ≡ k → on' y ≡ false) → shown_row P on' k ≡ []
      row-emptied a = ap (map (entry_at P)) (keep-none on' (nodes_in P k) (λ y m. let w = In-nodes P W k h m in false-T (a y w.0 w.1)))

      pub row-without : (c : ℕ) → ((y : ℕ) → EntryOf P y → P.number y ≡ k → on' y ≡ (on y && not (eqb (P.col y) (c + 1)))) → shown_row P on' k ≡ without_item c (shown_row P on k)
      row-without c a =
          ap (map (entry_at P))
          (keep-cong on' (λ y. on y && not (is c (entry_at P y))) (nodes_in P k)
          (λ y m. let w = In-nodes P W k h m in a y w.0 w.1 ∙ ap (λ (b : Bool). on y && not b) (sym (is-column c y w.0)))
          ∙ sym (keep-both (λ y. not (is c (entry_at P y))) on (nodes_in P k)))
          ∙ sym (keep-map (λ e. not (is c e)) (entry_at P) (keep on (nodes_in P k)))

    -- all options
    pub shown-same : ((y : ℕ) → EntryOf P y → on' y ≡ on y) → shown P on' ≡ shown P on
    unfolding shown
    shown-same a = map-cong (shown_row P on') (shown_row P on) (up_to P.M) (λ k m. row_same k (In-up_to P.M m) (λ y e n. a y e))

    pub shown-each : (f : List Entry → List Entry) → ((k : ℕ) → k < P.M → shown_row P on' k ≡ f (shown_row P on k)) → shown P on' ≡ map f (shown P on)
    unfolding shown
    shown-each f a = map-cong (shown_row P on') (λ k. f (shown_row P on k)) (up_to P.M) (λ k m. a k (In-up_to P.M m)) ∙ sym (map-map f (shown_row P on) (up_to P.M))
