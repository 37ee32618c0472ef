-- Laws of sheets.
use Rattle.std.proofs.Common.{◌≡◌, ℕ, zero, suc, ◌+◌, ◌-◌, ◌<◌, ◌≤◌, ◌^◌, min, Bool, true, false, List, [], ◌∷◌, ◌++◌, map, drop, take, length, slice_index_or, refl, sym, ap, subst, ◌∙◌, append_assoc, arith, length-append}
use Rattle.std.proofs.lemmas.List.{append-nil, length-take}
use Rattle.v_writer.specs.Layout.{Piece, Placed, placed, line, piece_bytes, leaves_escaped, bytes_from, comma, listed, further, in_turn, lines}
use Rattle.v_writer.specs.Sheets.{Sheet, count, upto, appended, step, set}
use Rattle.v_writer.proofs.Layouts.{drop-item, set-append}

take-both : (n : ℕ) (b c : List ℕ) → take n (b ++ c) ≡ take n b ++ take (n - length b) c
take-both zero [] c = refl
take-both (suc n) [] c = let e : suc n - length {A = ℕ} [] ≡ suc n = omega arith in ap (λ k. take k c) (sym e)
take-both zero (x ∷ b) c = let e : zero - length (x ∷ b) ≡ zero = omega arith in ap (λ k. take k c) (sym e)
take-both (suc n) (x ∷ b) c =
    let e : suc n - length (x ∷ b) ≡ n - length b = omega arith in
    ap (λ w. x ∷ w) (take-both n b c) ∙ ap (λ k. x ∷ (take n b ++ take k c)) (sym e)

pub upto-upto : (limit : ℕ) (a b c : List ℕ) → upto limit (upto limit a b) c ≡ upto limit a (b ++ c)
unfolding upto
upto-upto limit a b c =
    let n = limit - length a in
    let l = length-append a (take n b) in
    let t = length-take n b in
    let e : limit - length (a ++ take n b) ≡ n - length b = omega (arith, l, t) in
    append_assoc a (take n b) (take (limit - length (a ++ take n b)) c)
    ∙ ap (λ k. a ++ (take n b ++ take k c)) e
    ∙ ap (λ w. a ++ w) (sym (take-both n b c))

pub count-count : (n a b : ℕ) → count (count n a) b ≡ count n (a + b)
unfolding count
count-count n a b = omega arith

pub appended-appended : (s : Sheet) (a b : List ℕ) → appended (appended s a) b ≡ appended s (a ++ b)
unfolding appended
appended-appended s a b =
    (λ i. record s {
      length_so_far = (count-count s.length_so_far (length a) (length b) ∙ ap (count s.length_so_far) (sym (length-append a b))) i;
      bytes = upto-upto s.limit s.bytes a b i;
    })

-- what the pieces come to
pub set-is : (ps : List Piece) (p : Piece) (s : Sheet)
    → (set s (p ∷ ps)).bytes ≡ upto s.limit s.bytes (bytes_from s.escaped (p ∷ ps))
unfolding step appended
set-is [] p s = ap (upto s.limit s.bytes) (sym (append-nil (piece_bytes s.escaped p)))
set-is (q ∷ ps) p s =
    set-is ps q (step s p) ∙ upto-upto s.limit s.bytes (piece_bytes s.escaped p) (bytes_from (leaves_escaped p) (q ∷ ps))

pub set-counts : (ps : List Piece) (p : Piece) (s : Sheet)
    → (set s (p ∷ ps)).length_so_far ≡ count s.length_so_far (length (bytes_from s.escaped (p ∷ ps)))
unfolding step appended
set-counts [] p s = ap (λ w. count s.length_so_far (length w)) (sym (append-nil (piece_bytes s.escaped p)))
set-counts (q ∷ ps) p s =
    set-counts ps q (step s p)
    ∙ count-count s.length_so_far (length (piece_bytes s.escaped p)) (length (bytes_from (leaves_escaped p) (q ∷ ps)))
    ∙ ap (count s.length_so_far) (sym (length-append (piece_bytes s.escaped p) (bytes_from (leaves_escaped p) (q ∷ ps))))

-- a sheet that nothing was written on
abbrev pub clean : List ℕ → ℕ → Sheet
clean bytes limit = record { length_so_far = 0; bytes = bytes; limit = limit; escaped = false }

pub text-length : (ps : List Piece) → (set (clean [] 0) ps).length_so_far ≡ min (length (bytes_from false ps)) (2 ^ 64 - 1)
unfolding count
text-length [] = let none = length {A = ℕ} [] in let zero_length : none ≡ 0 = omega arith in omega (arith, zero_length)
text-length (p ∷ ps) = let e = set-counts ps p (clean [] 0) in omega (arith, e)

within : (n : ℕ) (text : List ℕ) → length text ≤ n → take n text ≡ text
within zero [] h = refl
within (suc n) [] h = refl
within zero (c ∷ text) h = absurd (omega arith)
within (suc n) (c ∷ text) h = let less : length text ≤ n = omega arith in ap (λ w. c ∷ w) (within n text less)

pub text-bytes : (before : List ℕ) (limit : ℕ) (ps : List Piece) → length before + length (bytes_from false ps) ≤ limit
    → (set (clean before limit) ps).bytes ≡ before ++ bytes_from false ps
unfolding upto
text-bytes before limit [] h = sym (append-nil before)
text-bytes before limit (p ∷ ps) h =
    let text = bytes_from false (p ∷ ps) in
    set-is ps p (clean before limit) ∙ ap (λ w. before ++ w) (within (limit - length before) text (omega (arith, h)))

pub ruleset sheets = (appended-appended, append_assoc, append-nil)

-- a turn of a loop
abbrev pub separated : Bool → List (List Piece) → List Piece
separated true ls = listed ls
separated false ls = further ls

separate : (first : Bool) (l : List Piece) (ls : List (List Piece)) → separated first (l ∷ ls) ≡ comma first ++ (l ++ further ls)
separate true l ls = refl
separate false l ls = refl

pub list-turn : {A : Type 0} (f : A → List Piece) (xs : List A) (i : ℕ) (x : A) (first : Bool) (s a b end : Sheet) → i < length xs → x ≡ slice_index_or xs i x
    → a ≡ set s (comma first) → b ≡ set a (f x) → set s (separated first (map f (drop i xs))) ≡ end
    → set b (further (map f (drop (i + 1) xs))) ≡ end
list-turn f xs i x first s a b end h e one two before =
    let rest = further (map f (drop (i + 1) xs)) in
    ap (λ t. set t rest) (two ∙ ap (λ t. set t (f x)) one)
    ∙ sym (set-append (set s (comma first)) (f x) rest)
    ∙ sym (set-append s (comma first) (f x ++ rest))
    ∙ ap (set s) (sym (separate first (f x) (map f (drop (i + 1) xs))))
    ∙ ap (λ ys. set s (separated first (map f ys))) (sym (drop-item xs i x h e))
    ∙ before

pub in-turn : {A : Type 0} (f : A → List Piece) (xs : List A) (i : ℕ) (x : A) (s a end : Sheet) → i < length xs → x ≡ slice_index_or xs i x
    → a ≡ set s (f x) → set s (in_turn (map f (drop i xs))) ≡ end → set a (in_turn (map f (drop (i + 1) xs))) ≡ end
in-turn f xs i x s a end h e one before =
    let rest = in_turn (map f (drop (i + 1) xs)) in
    ap (λ t. set t rest) one ∙ sym (set-append s (f x) rest) ∙ ap (λ ys. set s (in_turn (map f ys))) (sym (drop-item xs i x h e)) ∙ before

pub line-turn : {A : Type 0} (f : A → List Piece) (depth : ℕ) (xs : List A) (i : ℕ) (x : A) (s a b end : Sheet) → i < length xs → x ≡ slice_index_or xs i x
    → a ≡ step s (line depth) → b ≡ set a (f x) → set s (lines depth (map f (drop i xs))) ≡ end
    → set b (lines depth (map f (drop (i + 1) xs))) ≡ end
line-turn f depth xs i x s a b end h e one two before =
    let rest = lines depth (map f (drop (i + 1) xs)) in
    ap (λ t. set t rest) (two ∙ ap (λ t. set t (f x)) one)
    ∙ sym (set-append (step s (line depth)) (f x) rest)
    ∙ ap (λ ys. set s (lines depth (map f ys))) (sym (drop-item xs i x h e))
    ∙ before

pub placed-map : {A : Type 0} (f : A → Placed) (depth : ℕ) (xs : List A) → placed depth (map f xs) ≡ map (λ x. f x depth) xs
placed-map f depth [] = refl
placed-map f depth (x ∷ xs) = ap (λ ls. f x depth ∷ ls) (placed-map f depth xs)

pub placed-turn : {A : Type 0} (f : A → Placed) (depth : ℕ) (xs : List A) (i : ℕ) (x : A) (s a b end : Sheet) → i < length xs → x ≡ slice_index_or xs i x
    → a ≡ step s (line depth) → b ≡ set a (f x depth) → set s (lines depth (placed depth (map f (drop i xs)))) ≡ end
    → set b (lines depth (placed depth (map f (drop (i + 1) xs)))) ≡ end
placed-turn f depth xs i x s a b end h e one two before =
    ap (λ ls. set b (lines depth ls)) (placed-map f depth (drop (i + 1) xs))
    ∙ line-turn (λ y. f y depth) depth xs i x s a b end h e one two
    (ap (λ ls. set s (lines depth ls)) (sym (placed-map f depth (drop i xs))) ∙ before)

-- a head, and a body between two lines
pub body-written : (page a b c d e : Sheet) (head body : List Piece) (m n : ℕ) (end : Piece) → a ≡ set page head → b ≡ step a (line m) → c ≡ set b body
    → d ≡ step c (line n) → e ≡ step d end → e ≡ set page (head ++ line m ∷ (body ++ line n ∷ end ∷ []))
body-written page a b c d e head body m n end one two three four five =
    five ∙ ap (λ s. step s end) (four ∙ ap (λ s. step s (line n)) (three ∙ ap (λ s. set s body) (two ∙ ap (λ s. step s (line m)) one)))
    ∙ sym (set-append (step (set page head) (line m)) body (line n ∷ end ∷ []))
    ∙ sym (set-append page head (line m ∷ (body ++ line n ∷ end ∷ [])))
