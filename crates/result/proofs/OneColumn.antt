-- Reading the options of one column: a lemma for each step of the walk down it. Assumes nothing.
use Prim.Native.Nat.{ℕ, ◌+◌, ◌<◌, ◌≤◌}
use native.Mathlib.Omega.{arith}
use mathlib.Core.Path.{◌≡◌, ◌∙◌, ap, sym, subst}
use mathlib.Core.Logic.{◌≢◌}
use mathlib.Core.Bool.{true, false}
use mathlib.Core.List.{List, [], ◌∷◌, ◌++◌, map, map-append, append-nil, append_assoc}
use borrow.Author.Tests.{eq-eqb, ne_eqb}
use lib.ListN.{length}
use lib.IntN.{ℤ}
use Rattle.std.specs.Option.{is_some}
use Rattle.rules.specs.Lists.{keep}
use Rattle.rules.specs.Result.{Numbered}
use Rattle.theorems.proofs.Words.Tests.{false-T}
use Rattle.theorems.proofs.Words.Lists.{keep-none}
use Rattle.links.specs.Head.{item_of, head}
use Rattle.links.specs.Column.{at}
use Rattle.links.specs.Plan.{start, EntryOf, Header}
use Rattle.links.specs.Ground.{Ground, Tidy}
use Rattle.links.specs.Row.{span, first_live}
use Rattle.links.specs.Shown.{Ready}
use Rattle.links.specs.declared.nodes.Nodes.{Nodes}
use Rattle.links.specs.Nodes.{column_in}
use Rattle.links.specs.Lead.{Led, Leads}
use Rattle.links.proofs.Endings.{no-item, some-item}
use Rattle.links.proofs.Plans.{header-before}
use Rattle.links.proofs.Spans.{In-span, keep_join, keep-end, keep-over, keep_same}
use Rattle.links.proofs.Descending.{Stand, on-entry, reach, reach-past, reach-at, left, stand-header, stand-in, stand-column, stand-next, step-gap, step-far, step_less}
use Rattle.result.specs.Left.{lead_at, option_from, column_to, column_options}
use Rattle.result.specs.Writing.{FourLists, Written, Suffices}
use Rattle.result.specs.Reading.{OptionAt, ColumnAt}
use Rattle.result.proofs.Lists.{room-front}

-- The walk is at r: the options met before r are written behind the options xs.
pub record AtEntry (g : Ground) (old lists : FourLists) (xs : List Numbered) (c option entry r : ℕ) : Type 0 where
  pub stand : Stand g c r
  pub written : Written old lists (xs ++ column_to g c (reach g.plan r)) option entry

-- other lists of options, the same ones
written_same : (old lists : FourLists) {xs ys : List Numbered} (option entry : ℕ) → xs ≡ ys → Written old lists xs option entry → Written old lists ys option entry
written_same old lists option entry e w = subst (λ (l : List Numbered). Written old lists l option entry) e w

module _ (g : Ground) (t : Tidy g) (c : ℕ) (hd : Header g.plan c) where
  -- nothing is met between a node and the one below it
  between : (x : ℕ) → Stand g c x → (y : ℕ) → x + 1 ≤ y → y < reach g.plan (at g.down x) → lead_at g c y ≡ false
  between x s y h l = rw (step-gap g t c hd x s y h l)

  -- from the header down to the first node; and from a node on
  column-none : Stand g c c → column_to g c (reach g.plan (at g.down c)) ≡ []
  unfolding column_to
  column-none s =
      ap (map (option_from g)) (keep-none (lead_at g c) (span (start g.plan) (reach g.plan (at g.down c))) (λ y m.
      let w = In-span (start g.plan) (reach g.plan (at g.down c)) m in
      false-T (between c s y (omega (arith, header-before g.plan t.planned c hd, w.0)) w.1)))

  module _ (x : ℕ) (s : Stand g c x) (h : start g.plan ≤ x) where
    column-next : column_to g c (reach g.plan (at g.down x)) ≡ column_to g c (x + 1)
    unfolding column_to
    column-next = ap (map (option_from g)) (keep_same (lead_at g c) (start g.plan) (x + 1) (omega arith) (reach g.plan (at g.down x)) (step-far g t c hd x s).0 (between x s))

    lead_is : lead_at g c x ≡ first_live g x
    lead_is = rw (stand-column g t c hd x s h)

    column-one : first_live g x ≡ true → column_to g c (x + 1) ≡ column_to g c x ++ (option_from g x ∷ [])
    unfolding column_to
    column-one f = ap (map (option_from g)) (keep-end (lead_at g c) (start g.plan) x h (lead_is ∙ f)) ∙ map-append (option_from g) (keep (lead_at g c) (span (start g.plan) x)) (x ∷ [])

    column-over : first_live g x ≡ false → column_to g c (x + 1) ≡ column_to g c x
    unfolding column_to
    column-over f = ap (map (option_from g)) (keep-over (lead_at g c) (start g.plan) x h (lead_is ∙ f))

    -- what is still to come
    rest : List Numbered
    rest = map (option_from g) (keep (lead_at g c) (span (x + 1) g.plan.N))

    column-rest : column_options g c ≡ column_to g c (x + 1) ++ rest
    unfolding column_to rest
    column-rest =
        ap (map (option_from g)) (keep_join (lead_at g c) (start g.plan) (x + 1) g.plan.N (omega arith) (omega (arith, stand-in g t c hd x s)))
        ∙ map-append (option_from g) (keep (lead_at g c) (span (start g.plan) (x + 1))) (keep (lead_at g c) (span (x + 1) g.plan.N))

-- The same, of lists that are the ground's.
module _ {g : Ground} {old lists : FourLists} {xs : List Numbered} {nodes : Nodes} {tints : List ℕ} {c option entry : ℕ} (a : ColumnAt g old lists xs nodes tints c option entry) where
  ready : Ready g
  ready = a.laid.standing.ready

  below : (x : ℕ) → at nodes.down.now x ≡ at g.down x
  below x = ap (λ (l : List ℕ). at l x) a.laid.down-are

  starts : nodes.shape.start ≡ start g.plan
  starts = omega (arith, nodes.shape.begins, a.laid.standing.items-are)

  top : Stand g c c
  top = stand-header g ready.tidy c a.column (ready.whole.headers c a.column)

  downs : g.plan.N ≤ length nodes.down.now
  downs = rw a.laid.down-are ready.tidy.ring.downs

  pub column-begins : AtEntry g old lists xs c option entry (at nodes.down.now c)
  column-begins = subst (λ (r : ℕ). AtEntry g old lists xs c option entry r) (sym (below c)) (record {
    stand = stand-next g ready.tidy c a.column c top;
    written = written_same old lists option entry (sym (ap (λ (l : List Numbered). xs ++ l) (column-none g ready.tidy c a.column top) ∙ append-nil xs)) a.written;
  })

  module _ {lists' : FourLists} {o e r : ℕ} (b : AtEntry g old lists' xs c o e r) where
    pub place_in : r < length nodes.down.now
    place_in = omega (arith, downs, stand-in g ready.tidy c a.column r b.stand)

    pub column-done : r < nodes.shape.start → Written old lists' (xs ++ column_options g c) o e
    column-done h = written_same old lists' o e (ap (λ (k : ℕ). xs ++ column_to g c k) (reach-past g.plan r (omega (arith, h, starts)))) b.written

    module _ (h : nodes.shape.start ≤ r) where
      behind : start g.plan ≤ r
      behind = omega (arith, h, starts)

      entry_at : EntryOf g.plan r
      entry_at = on-entry g ready.tidy r b.stand.on behind

      here : reach g.plan r ≡ r
      here = reach-at g.plan r behind

      pub place-led : Led g r nodes.heads.now nodes.down.now
      place-led = record { tidy = ready.tidy; entry = entry_at; heads-are = a.laid.standing.heads-are; down-are = a.laid.down-are }

      pub place-less : (m : ℕ) → m ≡ length nodes.heads.now → left m nodes.shape.start (at nodes.down.now r) < left m nodes.shape.start r
      place-less m q =
          rw (below r, starts)
          (step_less g ready.tidy c a.column r b.stand m (omega (arith, q, ap length a.laid.standing.heads-are, ready.tidy.heads-in)) behind)

      module _ {z : ℕ} (f : Leads g r z) where
        pub lead-in : z < length nodes.heads.now
        lead-in = omega (arith, f.inside, ap length a.laid.standing.heads-are, ready.tidy.heads-in)

        -- the node that leads has no item where r is the first live entry
        is-first : item_of (head nodes.heads.now z) ≡ 0 → first_live g r ≡ true
        is-first i = sym f.first ∙ eq-eqb (item_of (head g.heads z)) 0 (ap (λ (l : List ℤ). item_of (head l z)) (sym a.laid.standing.heads-are) ∙ i)

        not_first : item_of (head nodes.heads.now z) ≢ 0 → first_live g r ≡ false
        not_first i = sym f.first ∙ ne_eqb (item_of (head g.heads z)) 0 (λ q. i (ap (λ (l : List ℤ). item_of (head l z)) a.laid.standing.heads-are ∙ q))

        -- it is not: on to the next
        pub place-over : is_some (column_in (head nodes.heads.now z)) ≡ true → AtEntry g old lists' xs c o e (at nodes.down.now r)
        place-over i = subst (λ (k : ℕ). AtEntry g old lists' xs c o e k) (sym (below r)) (record {
          stand = stand-next g ready.tidy c a.column r b.stand;
          written =
              written_same old lists' o e
              (ap (λ (k : ℕ). xs ++ column_to g c k) here
              ∙ ap (λ (l : List Numbered). xs ++ l)
              (sym (column-over g ready.tidy c a.column r b.stand behind (not_first (some-item (head nodes.heads.now z) i)))
              ∙ sym (column-next g ready.tidy c a.column r b.stand behind)))
              b.written;
        })

        -- it is: its option is written
        module _ (i : is_some (column_in (head nodes.heads.now z)) ≡ false) where
          one_more : (xs ++ column_to g c (reach g.plan r)) ++ (option_from g r ∷ []) ≡ xs ++ column_to g c (r + 1)
          one_more =
              ap (λ (k : ℕ). (xs ++ column_to g c k) ++ (option_from g r ∷ [])) here
              ∙ append_assoc xs (column_to g c r) (option_from g r ∷ [])
              ∙ ap (λ (l : List Numbered). xs ++ l) (sym (column-one g ready.tidy c a.column r b.stand behind (is-first (no-item (head nodes.heads.now z) i))))

          pub place-option : OptionAt g old lists' (xs ++ column_to g c (reach g.plan r)) nodes.heads.now tints r o e
          place-option = record {
            tidy = ready.tidy;
            tinted = a.laid.tinted;
            heads-are = a.laid.standing.heads-are;
            node = entry_at;
            room =
                room-front old ((xs ++ column_to g c (reach g.plan r)) ++ (option_from g r ∷ [])) (rest g ready.tidy c a.column r b.stand behind)
                (subst (λ (l : List Numbered). Suffices old l)
                (ap (λ (l : List Numbered). xs ++ l) (column-rest g ready.tidy c a.column r b.stand behind)
                ∙ sym (append_assoc xs (column_to g c (r + 1)) (rest g ready.tidy c a.column r b.stand behind))
                ∙ ap (λ (l : List Numbered). l ++ rest g ready.tidy c a.column r b.stand behind) (sym one_more))
                a.room);
            written = b.written;
          }

          pub place-one : (lists'' : FourLists) (o' e' : ℕ) → Written old lists'' ((xs ++ column_to g c (reach g.plan r)) ++ (option_from g r ∷ [])) o' e'
              → AtEntry g old lists'' xs c o' e' (at nodes.down.now r)
          place-one lists'' o' e' w = subst (λ (k : ℕ). AtEntry g old lists'' xs c o' e' k) (sym (below r)) (record {
            stand = stand-next g ready.tidy c a.column r b.stand;
            written = written_same old lists'' o' e' (one_more ∙ ap (λ (l : List Numbered). xs ++ l) (sym (column-next g ready.tidy c a.column r b.stand behind))) w;
          })
