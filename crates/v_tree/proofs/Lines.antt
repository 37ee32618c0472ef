-- The code's lines, whose texts the contracts see as lists of bytes behind references.
use Rattle.std.proofs.Common.{◌≡◌, ◌≤◌, ◌-◌, ℕ, Bool, Bor, List, [], ◌∷◌, length, get_or, take, drop, map, codes, refl, ap, ◌∙◌, arith}
use Rattle.std.proofs.Math.Seq.{take-length}
use Rattle.std.specs.Str.{bytes_eq}
use Rattle.ll_engine.specs.declared.table.Part.{Part}
use Rattle.ll_engine.specs.declared.table.Row.{Row}
use Rattle.v_tree.specs.Rows.{head_number, part_of, row_from}

pub each-now : {A : Type 0} (f : List ℕ → A) (xs : List (Bor (List ℕ))) → map (λ x. f x.now) xs ≡ map f (map (λ x. x.now) xs)
each-now f [] = refl
each-now f (x ∷ xs) = ap (λ ys. f x.now ∷ ys) (each-now f xs)

abbrev pub a_row : ℕ → List Part → Bool → Row
a_row head parts deep = record { head = head; parts = parts; deep = deep }

row-of-words : (words : List (Bor (List ℕ))) (d : Bor (List ℕ)) (parts : List Part) → 2 ≤ length words
    → parts ≡ map (λ word. part_of word.now) (take (length words - 2) (drop 2 words))
    → a_row (head_number (get_or words 0 d).now) parts (bytes_eq (get_or words 1 d).now (codes ">")) ≡ row_from (map (λ word. word.now) words)
row-of-words [] d parts l e = absurd (omega arith)
row-of-words (x ∷ []) d parts l e = absurd (omega arith)
row-of-words (x ∷ y ∷ rest) d parts l e =
    let count : length (x ∷ y ∷ rest) - 2 ≡ length rest = omega arith in
    ap (λ ps. a_row (head_number x.now) ps (bytes_eq y.now (codes ">")))
    (e ∙ ap (λ n. map (λ word. part_of word.now) (take n rest)) count ∙ ap (map (λ word. part_of word.now)) (take-length rest) ∙ each-now part_of rest)

pub row-is : (words : List (Bor (List ℕ))) (d : Bor (List ℕ)) (head : ℕ) (parts : List Part) (deep : Bool) (name sign mark : List ℕ) → 2 ≤ length words
    → name ≡ (get_or words 0 d).now → head ≡ head_number name
    → parts ≡ map (λ word. part_of word.now) (take (length words - 2) (drop 2 words))
    → sign ≡ (get_or words 1 d).now → mark ≡ codes ">" → deep ≡ bytes_eq sign mark
    → a_row head parts deep ≡ row_from (map (λ word. word.now) words)
row-is words d head parts deep name sign mark l n h p s m e =
    (λ i. a_row ((h ∙ ap head_number n) i) parts ((e ∙ (λ j. bytes_eq (s j) (m j))) i))
    ∙ row-of-words words d parts l p
