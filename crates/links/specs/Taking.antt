-- Which nodes the walks take out, as lists in the order of the taking, and what that empties. Assumes nothing.
use Rattle.std.specs.Prelude.{ℕ, zero, suc, ◌+◌, ◌-◌, ◌≤◌, ◌≡◌, Bool, true, false, not, ◌&&◌, ◌||◌, cond, List, [], ◌∷◌, ◌++◌, leb, ltb, eqb, length, pos}
use Rattle.rules.specs.Lists.{any, all, from}
use Rattle.rules.specs.Blocked.{agree}
use Rattle.links.specs.Head.{item_of, head}
use Rattle.links.specs.Column.{at}
use Rattle.links.specs.Plan.{start, lo, hi, EntryOf, Header}
use Rattle.links.specs.Ground.{Ground, Tidy, cut_one, taken}
use Rattle.links.specs.Row.{span, full, others}

-- the length of column i
abbrev pub length_of : Ground → ℕ → ℕ
length_of g i = item_of (head g.heads i)

-- taking x out empties its column, which is that of a primary item
abbrev pub empties_at : Ground → ℕ → ℕ → Bool
empties_at g np x = eqb (length_of g (g.plan.col x) - 1) 0 && leb (g.plan.col x) np

-- the last primary column emptied when the nodes are taken one after another, z if there is none; and the first, 0 if there is none
abbrev pub last_out : Ground → ℕ → List ℕ → ℕ → ℕ
last_out g np [] z = z
last_out g np (x ∷ xs) z = last_out (cut_one g x) np xs (cond (empties_at g np x) (g.plan.col x) z)

abbrev pub first_out : Ground → ℕ → List ℕ → ℕ
first_out g np [] = 0
first_out g np (x ∷ xs) = let r = first_out (cut_one g x) np xs in cond (empties_at g np x) (g.plan.col x) r

-- The others of every chosen node below k, node by node: what a walk down a column takes out.
abbrev pub gather_to : (ℕ → Bool) → Ground → ℕ → List ℕ
gather_to chosen g zero = []
gather_to chosen g (suc k) = gather_to chosen g k ++ cond (chosen k) (others g k) []

-- an entry of column c
abbrev pub in_column : Ground → ℕ → ℕ → Bool
in_column g c k = g.on k && eqb (g.plan.col k) c && leb (start g.plan) k

-- Hiding item c (its column's number): every option that holds c uncoloured loses its other entries.
abbrev pub hidden : Ground → ℕ → ℕ → Bool
hidden g c k = in_column g c k && eqb (g.plan.tint k) 0

unfoldable pub hides : Ground → ℕ → List ℕ
hides g c = gather_to (hidden g c) g g.plan.N

-- Testing option r, while c is hidden: for each of its other items, in cyclic order, the rivals that are still in its column lose their other entries.
abbrev pub rival_at : Ground → ℕ → ℕ → ℕ → Bool
rival_at h i x k = in_column h i k && not (agree x (h.plan.tint k))

abbrev pub rivals : Ground → ℕ → List ℕ
rivals h q = gather_to (rival_at h (h.plan.col q) (h.plan.tint q)) h h.plan.N

abbrev pub testing : Ground → List ℕ → List ℕ
testing h [] = []
testing h (q ∷ qs) = rivals h q ++ testing (taken h (rivals h q)) qs

-- What the test finds, whatever its order: an option y is in the way of r if it clashes with r at another item of r ..
abbrev pub clashes_at : Ground → ℕ → ℕ → Bool
clashes_at h r y = any (λ q. any (λ p. h.on p && eqb (h.plan.col p) (h.plan.col q) && not (agree (h.plan.tint q) (h.plan.tint p))) (span (lo h.plan y) (hi h.plan y))) (others h r)

-- .. and r is blocked by a primary column i that r does not hold, that is not empty, and of which all entries are of such options.
abbrev pub nodes_of : Ground → List ℕ
nodes_of h = span (start h.plan) h.plan.N

abbrev pub shut_at : Ground → ℕ → ℕ → Bool
shut_at h r i =
    not (any (λ z. full h.heads z && eqb (h.plan.col z) i) (span (lo h.plan r) (hi h.plan r)))
    && any (in_column h i) (nodes_of h)
    && all (λ y. not (in_column h i y) || clashes_at h r y) (nodes_of h)

unfoldable pub node_blocked : Ground → ℕ → ℕ → Bool
node_blocked h r np = any (shut_at h r) (from 1 np)

-- The ground in which r is tested: its own other entries are hidden, and an option of which an entry outside r's column is linked is wholly so.
pub record Tested (h : Ground) (r : ℕ) : Type 0 where
  pub tidy : Tidy h
  pub headers : (i : ℕ) → Header h.plan i → h.on i ≡ true
  pub entry : EntryOf h.plan r
  pub on : h.on r ≡ true
  pub alone : (y : ℕ) → EntryOf h.plan y → h.plan.number y ≡ h.plan.number r → (y ≡ r → ⊥) → h.on y ≡ false
  pub mates : (y z : ℕ) → EntryOf h.plan y → EntryOf h.plan z → h.plan.number y ≡ h.plan.number z → h.on y ≡ true → (h.plan.col y ≡ h.plan.col r → ⊥)
      → head h.heads z ≡ pos (h.plan.col z) → h.on z ≡ true

-- The marks tell which items r holds: those of its other entries carry r, and a column that is not empty carries r only if r holds its item.
pub record Marked (h : Ground) (r : ℕ) (marks : List ℕ) : Type 0 where
  pub room : h.plan.n + 1 ≤ length marks
  pub own : (q : ℕ) → EntryOf h.plan q → h.plan.number q ≡ h.plan.number r → (q ≡ r → ⊥) → head h.heads q ≡ pos (h.plan.col q) → at marks (h.plan.col q) ≡ r
  pub theirs : (y : ℕ) → EntryOf h.plan y → h.on y ≡ true → at marks (h.plan.col y) ≡ r
      → (q : ℕ) × EntryOf h.plan q × (h.plan.number q ≡ h.plan.number r) × (head h.heads q ≡ pos (h.plan.col q)) × (h.plan.col q ≡ h.plan.col y)

-- Removing item c where it is redundant for p (columns): options that hold c and not p lose their other entries, the rest lose c.
abbrev pub holds_column : Ground → ℕ → ℕ → Bool
holds_column g k i = any (λ z. g.on z && eqb (g.plan.col z) i) (span (g.plan.first k) (g.plan.past k))

abbrev pub leaving : Ground → ℕ → ℕ → ℕ → Bool
leaving g c p k = in_column g c k && not (holds_column g (g.plan.number k) p)

unfoldable pub leaves : Ground → ℕ → ℕ → List ℕ
leaves g c p = gather_to (leaving g c p) g g.plan.N

-- the ground with column c, header and all, out of sight; the lists are the same
unfoldable pub off_column : Ground → ℕ → Ground
off_column g c =
    record { plan = g.plan; on = λ y. g.on y && not (eqb (g.plan.col y) c); heads = g.heads; up = g.up; down = g.down }

-- which nodes are in their columns afterwards: the headers, and the entries other than c's of the options that did not hold c or that hold p
unfoldable pub mask_without : Ground → ℕ → ℕ → ℕ → Bool
mask_without g c p y =
    g.on y && (ltb y (start g.plan) || (not (eqb (g.plan.col y) c) && (not (holds_column g (g.plan.number y) c) || holds_column g (g.plan.number y) p)))
