-- Laying out the options of what was handed in, one after another: the plan of the problem is a plan, each option's turn comes where the
-- plan has it, and behind the last one the lists hold the problem. Assumes nothing.
use Rattle.std.proofs.Common.{◌≡◌, ℕ, ◌+◌, ◌-◌, ◌<◌, ◌≤◌, Bool, true, false, cond, T, List, [], ◌∷◌, map, length, get_or, ℤ, sym, refl, ap, ◌∙◌, subst, add-one, arith, length-append}
use Rattle.rules.specs.Bounds.{node_bound}
use mathlib.Core.List.Memᴰ.{not-nil}
use mathlib.Core.List.{Memᴰ as In}
use lib.ListN.{length-map}
use lib.Seq.{slice, length-slice}
use Rattle.rules.specs.Lists.{each}
use Rattle.rules.specs.Problem.{Entry, Problem, Figures, entries_of, cut, problem_of}
use Rattle.rules.specs.State.{option_at, holds_primary, items_of}
use Rattle.rules.specs.Rounds.{start as starting}
use Rattle.rules.specs.Promises.{distinct}
use Rattle.theorems.proofs.Words.Lists.{In-map}
use Rattle.theorems.proofs.Checks.Cutting.{length-entries_of, length_cut, check16→, cut-whole}
use Rattle.theorems.proofs.Steps.Start.{start_of, start-at}
use Rattle.links.specs.Column.{at}
use Rattle.links.specs.Plan.{Plan, start, EntryOf, Planned}
use Rattle.building.specs.Layout.{size_of, first_node, plan_for, plan_of}
use Rattle.building.specs.Laid.{Laid, Open, closing}
use Rattle.building.specs.Build.{primary_in, Cleared, Spelled, Turn, behind, Buildable, Built}
use Rattle.building.proofs.Layouts.{size-live, first-zero, first_more, planned-for, spelled-col, spelled-tint, spelled-entry, shows-state}
use Rattle.building.proofs.Laying.{laid-begin, ready-all, tinted-all}
use Rattle.building.proofs.Opening.{open-laid, last-in, open-end}
use Rattle.building.proofs.Parts.{end_before, cut_at, ends_at, get_or-slice, part, part-is, entries_at, primary-same, primary-some}

-- An option takes at most one node more than it has entries, so there are at most as many as all entries and options.
size-start : (np : ℕ) (o : List Entry) → size_of (start_of np o) ≤ length o + 1
size-start np o = go (holds_primary np o)
  where
    own : (o : List Entry) → size_of o ≤ length o + 1
    own [] = omega arith
    own (e ∷ o) = omega arith

    go : (b : Bool) → size_of (cond b o []) ≤ length o + 1
    go true = own o
    go false = omega arith

nodes-few : (np b : ℕ) (os : List (List Entry)) → first_node b (map (start_of np) os) (length (map (start_of np) os)) ≤ b + length (each (λ o. o) os) + length os
nodes-few np b [] = omega arith
nodes-few np b (o ∷ os) =
    let r = nodes-few np (b + size_of (start_of np o)) os in
    let z = size-start np o in
    omega (arith, length-append o (each (λ o. o) os))

-- the live options at the start are among those handed in
start_has : (a : Problem) (Q : List Entry → Type 0) → Q [] → ((o : List Entry) → In o a.options → Q o) → (o : List Entry) → In o (starting a) → Q o
unfolding starting
start_has a Q nil h o m = let w = In-map (start_of a.np) a.options m in subst Q (sym w.2) (go w.0 w.1 (holds_primary a.np w.0))
  where
    go : (x : List Entry) → In x a.options → (b : Bool) → Q (cond b x [])
    go x i true = h x i
    go x i false = nil

-- Where the loop over the options stands: option k is next, its entries begin where those before it end, and the plan has it behind boundary p.
pub record AtOption (np ns : ℕ) (items colours ends : List ℕ) (heads : List ℤ) (up down tints : List ℕ) (p begin k : ℕ) : Type 0 where
  pub within : k ≤ length ends
  pub from : begin ≡ end_before 0 ends k
  pub first : (plan_of (problem_of np ns items colours ends)).first k ≡ p + 1
  pub so_far : Open (plan_of (problem_of np ns items colours ends)) 0 (p + 1) heads up down tints

module _ {f : Figures} {np ns n : ℕ} {items colours ends : List ℕ} {heads₀ : List ℤ} {up₀ down₀ tints₀ marks₀ : List ℕ}
    (B : Buildable f np ns n items colours ends heads₀ up₀ down₀ tints₀ marks₀) where
  abbrev a : Problem
  a = problem_of np ns items colours ends

  many : length (entries_of items colours) ≡ length items
  many = length-entries_of items colours B.lengths

  a-n : a.n ≡ n
  unfolding problem_of
  a-n = sym B.total

  n-is : (plan_of a).n ≡ n
  unfolding plan_for
  n-is = a-n

  length-s : length (starting a) ≡ length ends
  unfolding starting problem_of
  length-s = length-map (cut 0 ends (entries_of items colours)) (start_of np) ∙ length_cut 0 ends (entries_of items colours)

  nodes : (plan_of a).N ≤ n + 2 + length items + length ends
  unfolding plan_for starting problem_of
  nodes =
      let c = cut 0 ends (entries_of items colours) in
      let r = nodes-few np (np + ns + 2) c in
      let w : length (each (λ o. o) c) ≡ length items = ap length (cut-whole ends (entries_of items colours) (rw many B.ends-rise)) ∙ many in
      omega (arith, r, w, length_cut 0 ends (entries_of items colours), B.total)

  few-nodes : first_node (a.n + 2) (starting a) (length (starting a)) < node_bound
  unfolding plan_for
  few-nodes = omega (arith, nodes, B.small)

  few-options : length (starting a) < node_bound
  few-options = omega (arith, length-s, B.small)

  items-below : (o : List Entry) → In o (starting a) → (e : Entry) → In e o → e.item < a.n
  items-below = start_has a (λ v. (e : Entry) → In e v → e.item < a.n) (λ e m. absurd (not-nil m)) (λ o m e i. (B.accepted.entry o m e i).below)

  once : (o : List Entry) → In o (starting a) → T (distinct (items_of o))
  once = start_has a (λ v. T (distinct (items_of v))) tt (λ o m. B.accepted.once o m)

  pub planned : Planned (plan_of a)
  planned = planned-for a.n (starting a) few-nodes few-options items-below once

  zero-first : (plan_of a).first 0 ≡ n + 1 + 1
  unfolding plan_for
  zero-first = first-zero (a.n + 2) (starting a) ∙ omega (arith, a-n)

  -- The headers are cleared: option 0 is next.
  pub place-begin : {heads : List ℤ} {up down marks : List ℕ} → length heads ≡ length heads₀ → length up ≡ length up₀ → length down ≡ length down₀
      → Cleared n heads up down marks → AtOption np ns items colours ends heads up down tints₀ (n + 1) 0 0
  place-begin {heads} {up} {down} {marks} h u d c = record { within = omega arith; from = refl; first = zero-first; so_far = open-laid (plan_of a) 0 (n + 1 + 1) (rw (sym e) all-clear) }
    where
      e : start (plan_of a) ≡ n + 1 + 1
      e = omega (arith, n-is)

      all-clear : Laid (plan_of a) (start (plan_of a)) heads up down tints₀
      all-clear =
          laid-begin (plan_of a) planned heads up down tints₀ marks (rw n-is c)
          (omega (arith, nodes, B.heads-room, h)) (omega (arith, nodes, B.up_room, u)) (omega (arith, nodes, B.down-room, d)) (omega (arith, nodes, B.tints-room))

  -- Option k, where it is next.
  module _ {heads : List ℤ} {up down tints : List ℕ} {p begin k : ℕ} (here : AtOption np ns items colours ends heads up down tints p begin k) (more : k < length ends) where
    rising : (begin ≤ at ends k) × (at ends k ≤ length items)
    rising = rw here.from (ends_at (check16→ (length items) ends B.ends-rise).0 k more)

    k-in : k < length (starting a)
    k-in = rw length-s more

    -- where it lies in the lists, and its items and colours
    pub part-in : (begin ≤ at ends k) × (at ends k ≤ length items) × (at ends k ≤ length colours)
    part-in = (rising.0, rising.1, omega (arith, rising.1, B.lengths))

    abbrev its : List ℕ
    its = part begin (at ends k) items

    abbrev shades : List ℕ
    shades = part begin (at ends k) colours

    its-are : its ≡ slice begin (at ends k) items
    its-are = part-is begin (at ends k) items rising.0

    shades-are : shades ≡ slice begin (at ends k) colours
    shades-are = part-is begin (at ends k) colours rising.0

    its-long : length its ≡ at ends k - begin
    its-long = ap length its-are ∙ length-slice begin (at ends k) items rising.1

    primary-is : holds_primary np (slice begin (at ends k) (entries_of items colours)) ≡ primary_in np its
    primary-is = primary-same np begin (at ends k) items colours B.lengths ∙ ap (primary_in np) (sym its-are)

    -- what the plan has of it
    option_is : option_at (starting a) k ≡ start_of np (slice begin (at ends k) (entries_of items colours))
    unfolding problem_of
    option_is = start-at a k ∙ ap (start_of np) (cut_at 0 ends (entries_of items colours) k more ∙ ap (λ (z : ℕ). slice z (at ends k) (entries_of items colours)) (sym here.from))

    live-is : primary_in np its ≡ true → option_at (starting a) k ≡ slice begin (at ends k) (entries_of items colours)
    live-is t = option_is ∙ ap (λ (b : Bool). cond b (slice begin (at ends k) (entries_of items colours)) []) (primary-is ∙ t)

    skipped-is : primary_in np its ≡ false → option_at (starting a) k ≡ []
    skipped-is t = option_is ∙ ap (λ (b : Bool). cond b (slice begin (at ends k) (entries_of items colours)) []) (primary-is ∙ t)

    live-length : primary_in np its ≡ true → length (option_at (starting a) k) ≡ length its
    live-length t = ap length (live-is t) ∙ length-slice begin (at ends k) (entries_of items colours) (rw many rising.1) ∙ sym its-long

    -- its entries, place by place
    entry-is : primary_in np its ≡ true → (j : ℕ) → j < length its
        → get_or (option_at (starting a) k) j (record { item = 0; colour = 0 }) ≡ record { item = at its j; colour = at shades j }
    entry-is t j m =
        let l : begin + j < at ends k = omega (arith, m, its-long) in
        ap (λ (o : List Entry). get_or o j (record { item = 0; colour = 0 })) (live-is t)
        ∙ get_or-slice begin (at ends k) (entries_of items colours) j (record { item = 0; colour = 0 }) l
        ∙ entries_at items colours B.lengths (begin + j) (omega (arith, l, rising.1))
        ∙ rw (its-are, shades-are, get_or-slice begin (at ends k) items j 0 l, get_or-slice begin (at ends k) colours j 0 l) refl

    spelled_at : primary_in np its ≡ true → (j : ℕ) → j < length its → Spelled (plan_of a) (p + 1 + j) j its shades
    unfolding plan_for
    spelled_at t j m =
        let i : j < length (option_at (starting a) k) = omega (arith, live-length t, m) in
        let e : first_node (a.n + 2) (starting a) k + j ≡ p + 1 + j = ap (λ (z : ℕ). z + j) here.first in
        record {
          entry = subst (λ (x : ℕ). EntryOf (plan_of a) x) e (spelled-entry a.n (starting a) few-nodes few-options items-below once k j k-in i);
          col = ap (plan_of a).col (sym e) ∙ spelled-col a.n (starting a) few-nodes few-options items-below once k j k-in i ∙ ap (λ (d : Entry). d.item + 1) (entry-is t j m);
          tint = ap (plan_of a).tint (sym e) ∙ spelled-tint a.n (starting a) few-nodes few-options items-below once k j k-in i ∙ ap (λ (d : Entry). d.colour) (entry-is t j m);
        }

    past-at : primary_in np its ≡ true → (plan_of a).past k ≡ p + 1 + length its
    unfolding plan_for
    past-at t = omega (arith, here.first, live-length t)

    turn : Turn (plan_of a) np k p its shades heads up down tints
    unfolding plan_for
    turn = record { planned = planned; option = k-in; first = here.first; past = past-at; spelled = spelled_at; so_far = here.so_far }

    -- what laying it out asks for
    pub turn-asks : {m l : ℕ} → m ≡ np → l ≡ k → (P : Plan) × Turn P m l p its shades heads up down tints
    turn-asks e f = rw (e, f) ((plan_of a, turn))

    -- the option behind it
    next-step : (plan_of a).first (k + 1) ≡ (plan_of a).first k + size_of (option_at (starting a) k)
    unfolding plan_for
    next-step = ap (first_node (a.n + 2) (starting a)) (add-one k) ∙ first_more (a.n + 2) (starting a) k k-in

    next-first : (plan_of a).first (k + 1) ≡ behind np p its + 1
    next-first = go (primary_in np its) refl
      where
        go : (b : Bool) → primary_in np its ≡ b → (plan_of a).first (k + 1) ≡ cond b (p + 1 + length its) p + 1
        go true t = omega (arith, next-step, here.first, size-live (option_at (starting a) k) (omega (arith, live-length t, primary-some np its t)), live-length t)
        go false t = omega (arith, next-step, here.first, ap size_of (skipped-is t))

    pub place-next : {m l r : ℕ} → m ≡ np → l ≡ k → r ≡ behind m p its → {heads' : List ℤ} {up' down' tints' : List ℕ}
        → ((P : Plan) → Turn P m l p its shades heads up down tints → Open P 0 (r + 1) heads' up' down' tints')
        → AtOption np ns items colours ends heads' up' down' tints' r (at ends k) (k + 1)
    place-next e f q L = record {
      within = omega arith;
      from = sym (ap (end_before 0 ends) (add-one k));
      first = next-first ∙ ap (λ (z : ℕ). z + 1) (sym (q ∙ ap (λ (z : ℕ). behind z p its) e));
      so_far = L (plan_of a) (rw (e, f) turn);
    }

  -- Behind the last option the lists hold the problem.
  module _ {heads : List ℤ} {up down tints : List ℕ} {p begin k : ℕ} (here : AtOption np ns items colours ends heads up down tints p begin k) (stop : length ends ≤ k) where
    all_there : p + 1 ≡ (plan_of a).N
    unfolding plan_for
    all_there = let e : k ≡ length (starting a) = omega (arith, here.within, length-s) in sym here.first ∙ ap (first_node (a.n + 2) (starting a)) e

    all-open : Open (plan_of a) 0 (plan_of a).N heads up down tints
    all-open = rw all_there at here.so_far

    -- what closing the columns asks for
    pub place-closes : (n < node_bound) × (n < length up) × ((i : ℕ) → i < n → at up (i + 1) < length down)
    place-closes = (
      omega (arith, B.small),
      omega (arith, all-open.laid.ring.ups, planned.room, n-is),
      λ i l. last-in (plan_of a) planned 0 (plan_of a).N heads up down tints all-open (i + 1) (record { above = omega arith; below = omega (arith, l, n-is) }) planned.room,
    )

    all_laid : Laid (plan_of a) (plan_of a).N heads up (closing n up down) tints
    all_laid = subst (λ (i : ℕ). Laid (plan_of a) (plan_of a).N heads up (closing i up down) tints) n-is
        (open-end (plan_of a) planned (plan_of a).N planned.room heads up tints down all-open)

    pub place_end : {down' marks : List ℕ} → down' ≡ closing n up down → ((i : ℕ) → i ≤ n → at marks i ≡ 0) → Built a n (length ends) heads up down' tints marks
    unfolding plan_for
    place_end e zeros = rw e (record {
      ready = ready-all (plan_of a) planned heads up (closing n up down) tints all_laid;
      tinted = tinted-all (plan_of a) planned heads up (closing n up down) tints all_laid;
      unmarked = zeros;
      items = a-n;
      options = length-s;
      shows = shows-state a.n (starting a) few-nodes few-options items-below once;
    })
