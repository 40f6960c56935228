-- Numbers stored one by one in a list, each as the cells that it takes there. Assumes nothing.
use Prim.Native.Nat.{ℕ, zero, suc, ◌+◌, ◌*◌, ◌≤◌, ◌<◌}
use native.Mathlib.Omega.{arith}
use mathlib.Core.Path.{◌≡◌, refl, sym, ap, ◌∙◌}
use mathlib.Core.List.{List, [], ◌∷◌, ◌++◌}
use lib.ListN.{length, get_or, take, drop, set, length-append}
use lib.Seq.{sets, take-suc, length-take-le}
use borrow.Rule.Slice.PartMut.{put_mid}
use Rattle.std.proofs.lemmas.List.{append_assoc, append-nil}
use Rattle.std.proofs.lemmas.List.Edits.{paste_all, sets-eq}
use Rattle.std.proofs.lemmas.Slice.{put_mid-paste}
use Rattle.rules.specs.Bounds.{word_bound}
use Rattle.rules.specs.Lists.{each, written}
use Rattle.theorems.proofs.Words.Lists.{each_append}
use Rattle.theorems.proofs.Words.Written.{written_behind}
use Rattle.words.specs.Bytes.{number_of, numbers_of, bytes_of}
use Rattle.words.proofs.Numbers.{number-back}

-- a part written over is stored element by element
pub part-stores : (l part new : List ℕ) (at n : ℕ) → part ≡ new → n ≡ length new → at + length new ≤ length l → put_mid at n l part ≡ sets l at new
part-stores l part new at n e k h =
    put_mid-paste at n l part new n e refl k
    ∙ paste_all l at new n k
    ∙ ap (λ (m : ℕ). take at l ++ (new ++ drop (at + m) l)) k
    ∙ sym (append_assoc (take at l) new (drop (at + length new) l))
    ∙ sym (sets-eq new l at h)

module _ {A : Type 0} (width : ℕ) (cells : ℕ → List A) (fills : (n : ℕ) → length (cells n) ≡ width) where
  length-each : (ns : List ℕ) → length (each cells ns) ≡ width * length ns
  length-each [] = omega arith
  length-each (n ∷ ns) = let a = length-append (cells n) (each cells ns) in let e = length-each ns in let f = fills n in omega arith

  -- one number more of a list
  pub cells_next : (ns : List ℕ) (old : List A) (k : ℕ) → k < length ns → width * k + width ≤ length old
      → sets (written (each cells (take k ns)) old) (width * k) (cells (get_or ns k 0)) ≡ written (each cells (take (k + 1) ns)) old
  cells_next ns old k h w =
      let n = length-take-le k ns (omega arith) in
      let at : width * k ≡ length (each cells (take k ns)) = ap (λ (j : ℕ). width * j) (sym n) ∙ sym (length-each (take k ns)) in
      let f = fills (get_or ns k 0) in
      let e : suc k ≡ k + 1 = omega arith in
      ap (λ (j : ℕ). sets (written (each cells (take k ns)) old) j (cells (get_or ns k 0))) at
      ∙ written_behind (each cells (take k ns)) (cells (get_or ns k 0)) old (omega arith)
      ∙ ap (λ (l : List A). written (each cells (take k ns) ++ l) old) (sym (append-nil (cells (get_or ns k 0))))
      ∙ ap (λ (l : List A). written l old) (sym (each_append cells (take k ns) (get_or ns k 0 ∷ [])))
      ∙ ap (λ (l : List ℕ). written (each cells l) old) (sym (take-suc ns k 0 h) ∙ ap (λ (j : ℕ). take j ns) e)

-- numbers are their own cells, and bytes are cells of which a number takes four
pub each_number : (ns : List ℕ) → each (λ n. n ∷ []) ns ≡ ns
each_number [] = refl
each_number (n ∷ ns) = ap (λ (l : List ℕ). n ∷ l) (each_number ns)

pub each_bytes : (ns : List ℕ) → each (λ n. bytes_of (n ∷ [])) ns ≡ bytes_of ns
each_bytes [] = refl
each_bytes (n ∷ ns) = rw (each_bytes ns)

pub bytes_next : (words old : List ℕ) (k : ℕ) → k < length words → 4 * k + 4 ≤ length old
    → sets (written (bytes_of (take k words)) old) (4 * k) (bytes_of (get_or words k 0 ∷ [])) ≡ written (bytes_of (take (k + 1) words)) old
bytes_next words old k h w =
    ap (λ (l : List ℕ). sets (written l old) (4 * k) (bytes_of (get_or words k 0 ∷ []))) (sym (each_bytes (take k words)))
    ∙ cells_next 4 (λ n. bytes_of (n ∷ [])) (λ n. refl) words old k h w
    ∙ ap (λ (l : List ℕ). written l old) (each_bytes (take (k + 1) words))

-- a number stored is that number of the list
pub numbers-put : (l : List ℕ) (k v : ℕ) → k < length (numbers_of l) → v < word_bound → numbers_of (sets l (4 * k) (bytes_of (v ∷ []))) ≡ set (numbers_of l) k v
numbers-put [] k v h w = absurd (omega arith)
numbers-put (a ∷ []) k v h w = absurd (omega arith)
numbers-put (a ∷ b ∷ []) k v h w = absurd (omega arith)
numbers-put (a ∷ b ∷ c ∷ []) k v h w = absurd (omega arith)
numbers-put (a ∷ b ∷ c ∷ d ∷ l) zero v h w = rw (number-back v w)
numbers-put (a ∷ b ∷ c ∷ d ∷ l) (suc k) v h w =
    let e : 4 * suc k ≡ suc (suc (suc (suc (4 * k)))) = omega arith in
    rw e (ap (λ (r : List ℕ). number_of a b c d ∷ r) (numbers-put l k v (omega arith) w))
