-- Reading the options of all columns: a lemma for each step of the walk over the items; at the end the result of the rules is written. Assumes nothing.
use Prim.Native.Nat.{ℕ, ◌+◌, ◌-◌, ◌<◌}
use native.Mathlib.Omega.{arith}
use mathlib.Core.Path.{◌≡◌, ◌∙◌, ap, sym, subst}
use mathlib.Core.List.{List, [], ◌++◌, map, append-nil}
use mathlib.Core.Bool.{true}
use Rattle.std.proofs.lemmas.Bool.{eqb-true}
use lib.Dec.{T, eqb, not_T}
use lib.ListN.{length}
use lib.IntN.{ℤ}
use Rattle.rules.specs.Lists.{each, from, up_to}
use Rattle.rules.specs.Result.{Numbered, kept_options, results_of}
use Rattle.theorems.proofs.Words.Tests.{T_and}
use Rattle.theorems.proofs.Words.Lists.{keep-none, each_append, from-split}
use Rattle.links.specs.Head.{item_of, head}
use Rattle.links.specs.Plan.{start, Header}
use Rattle.links.specs.Ground.{Ground, tally}
use Rattle.links.specs.Row.{span, first_live}
use Rattle.links.specs.Shown.{shown, Ready}
use Rattle.links.specs.Taking.{in_column}
use Rattle.links.specs.declared.nodes.Nodes.{Nodes}
use Rattle.links.proofs.Plans.{entry-from, entry-till}
use Rattle.links.proofs.Tallies.{tally-some}
use Rattle.showing.proofs.Columns.{column→}
use Rattle.result.specs.Left.{lead_at, option_from, column_to, column_options, options_to}
use Rattle.result.specs.Writing.{FourLists, Written, Suffices}
use Rattle.result.specs.Reading.{NodesRead, ColumnAt, LongEnough, Returned}
use Rattle.result.proofs.Filling.{filled_none}
use Rattle.theorems.proofs.Answers.Joining.{length-ends}
use Rattle.result.proofs.Lists.{length-numbers, length-colours, room-front}
use Rattle.result.proofs.LeftOptions.{options-kept, kept-most}

-- the columns of some items, and one more; and those still to come
options-more : (g : Ground) (c m : ℕ) → options_to g (c + m) ≡ options_to g c ++ each (λ i. column_options g (i + 1)) (from c m)
unfolding options_to
options-more g c m =
    let e : 0 + c ≡ c = omega arith in
    ap (each (λ i. column_options g (i + 1))) (from-split c 0 m ∙ ap (λ (k : ℕ). up_to c ++ from k m) e)
    ∙ each_append (λ i. column_options g (i + 1)) (up_to c) (from c m)

pub options-one : (g : Ground) (c : ℕ) → options_to g (c + 1) ≡ options_to g c ++ column_options g (c + 1)
options-one g c = options-more g c 1 ∙ ap (λ (l : List Numbered). options_to g c ++ l) (append-nil (column_options g (c + 1)))

module _ {g : Ground} {nodes : Nodes} {tints : List ℕ} (a : NodesRead g nodes tints) where
  ready : Ready g
  ready = a.standing.ready

  header : (c : ℕ) → c < nodes.shape.n → Header g.plan (c + 1)
  header c h = record { above = omega arith; below = omega (arith, a.standing.items-are) }

  -- in an empty column no option is met
  column-empty : (c : ℕ) → c < nodes.shape.n → item_of (head nodes.heads.now (c + 1)) ≡ 0 → column_options g (c + 1) ≡ []
  unfolding column_to
  column-empty c h z =
      ap (map (option_from g)) (keep-none (lead_at g (c + 1)) (span (start g.plan) g.plan.N) (λ y m. not_T (lead_at g (c + 1) y) (none y)))
    where
      empty : tally g.plan g.on (c + 1) ≡ 0
      empty =
          sym (ap item_of (ready.tidy.counts (c + 1) (header c h) (ready.whole.headers (c + 1) (header c h))))
          ∙ ap (λ (l : List ℤ). item_of (head l (c + 1))) (sym a.standing.heads-are) ∙ z

      none : (y : ℕ) → T (lead_at g (c + 1) y) → ⊥
      none y u =
          let w = column→ g ready.tidy (c + 1) y (T_and (in_column g (c + 1) y) (first_live g y) u).0 in
          let s = tally-some g.plan g.on y (entry-from g.plan ready.tidy.planned y w.0) (entry-till g.plan ready.tidy.planned y w.0) w.1 in
          omega (arith, s, ap (tally g.plan g.on) w.2, empty)

  module _ {old : FourLists} (k : LongEnough (results_of nodes.shape.n (shown g.plan g.on)) old) where
    -- there is room for all
    room : Suffices old (options_to g nodes.shape.n)
    unfolding results_of
    room =
        subst (λ (l : List Numbered). Suffices old l) (sym (options-kept g ready nodes.shape.n)) (record {
          ends = omega (arith, k.ends, length-ends 0 (kept_options nodes.shape.n (shown g.plan g.on)));
          numbers = omega (arith, k.numbers, length-numbers (kept_options nodes.shape.n (shown g.plan g.on)));
          items = k.items;
          colours = omega (arith, k.colours, length-colours (kept_options nodes.shape.n (shown g.plan g.on)));
          small = omega (arith, kept-most g ready nodes.shape.n, ready.tidy.planned.small);
        })

    pub all-begins : Written old old (options_to g 0) 0 0
    unfolding options_to
    all-begins = record { ends = filled_none old.ends; numbers = filled_none old.numbers; items = filled_none old.items; colours = filled_none old.colours }

    module _ {lists : FourLists} {o e c : ℕ} (w : Written old lists (options_to g c) o e) where
      -- an empty column
      pub all-over : c < nodes.shape.n → eqb (item_of (head nodes.heads.now (c + 1))) 0 ≡ true → Written old lists (options_to g (c + 1)) o e
      all-over h z =
          subst (λ (l : List Numbered). Written old lists l o e)
          (sym (options-one g c ∙ ap (λ (l : List Numbered). options_to g c ++ l) (column-empty c h (eqb-true (item_of (head nodes.heads.now (c + 1))) 0 z)) ∙ append-nil (options_to g c))) w

      -- another
      pub all-column : c < nodes.shape.n → ColumnAt g old lists (options_to g c) nodes tints (c + 1) o e
      all-column h = record {
        laid = a;
        column = header c h;
        room =
            room-front old (options_to g c ++ column_options g (c + 1)) (each (λ i. column_options g (i + 1)) (from (c + 1) (nodes.shape.n - (c + 1))))
            (subst (λ (l : List Numbered). Suffices old l)
            (ap (options_to g) total
            ∙ options-more g (c + 1) (nodes.shape.n - (c + 1))
            ∙ ap (λ (l : List Numbered). l ++ each (λ i. column_options g (i + 1)) (from (c + 1) (nodes.shape.n - (c + 1)))) (options-one g c)) room);
        written = w;
      }
        where
          total : nodes.shape.n ≡ c + 1 + (nodes.shape.n - (c + 1))
          total = omega arith

      -- after the last column the result is written
      pub all_done : c ≡ nodes.shape.n → Returned (results_of nodes.shape.n (shown g.plan g.on)) old lists × (o ≡ length (kept_options nodes.shape.n (shown g.plan g.on)))
          × (e ≡ length (results_of nodes.shape.n (shown g.plan g.on)).items)
      unfolding results_of
      all_done q =
          let same : options_to g c ≡ kept_options nodes.shape.n (shown g.plan g.on) = ap (options_to g) q ∙ options-kept g ready nodes.shape.n in
          let v = subst (λ (l : List Numbered). Written old lists l o e) same w in (
            record { ends = v.ends.list-is; numbers = v.numbers.list-is; items = v.items.list-is; colours = v.colours.list-is },
            v.ends.at-is ∙ length-ends 0 (kept_options nodes.shape.n (shown g.plan g.on)),
            v.items.at-is,
          )

    pub all_one : (lists : FourLists) (o e c : ℕ) → Written old lists (options_to g c ++ column_options g (c + 1)) o e → Written old lists (options_to g (c + 1)) o e
    all_one lists o e c w = subst (λ (l : List Numbered). Written old lists l o e) (sym (options-one g c)) w
