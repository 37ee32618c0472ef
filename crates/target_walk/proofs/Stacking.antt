-- A part-select is written element by element.
use Rattle.std.proofs.Common.{◌≡◌, ℕ, suc, ◌+◌, ◌-◌, ◌*◌, ◌<◌, ◌≤◌, ◌^◌, min, true, ◌&&◌, cond, ℤ, pos, ◌-ℤ◌, length, List, [], ◌∷◌, ◌++◌, Option, Some, None, Result, Ok, Err, OnOk, refl, arith, ap, sym, ◌∙◌, subst}
use Rattle.std.specs.Prelude.{int_le, int_lt, unsigned_abs}
use Rattle.std.proofs.lemmas.Nat.{mul-le}
use Rattle.std.proofs.lemmas.Bool.Decides.{nat_tests}
use Rattle.std.specs.declared.alloc.AllocError.{AllocError}
use Rattle.row_machine.specs.Valuation.{Valuation}
use Rattle.sv_types.specs.declared.expression.Expr.{Expr}
use Rattle.sv_types.specs.Layouts.{Layout, layout, count_of}
use Rattle.sv_types.specs.Windows.{rank, element_of}
use Rattle.sv_types.specs.Surroundings.{Around}
use Rattle.sv_types.specs.Meanings as S
use Rattle.sv_types.specs.Expressions.{meaning}
use Rattle.sv_types.proofs.Heads.{heads}
use Rattle.v_meaning.specs.Scopes.{Scope, Named}
use Rattle.eval_parts.specs.declared.layouts.Bounds.{Bounds}
use Rattle.lowering_laws.specs.Reached.{Piece, IsWritten}
use Rattle.lowering_laws.proofs.Changes.{raised}
use Rattle.lowering_laws.proofs.WriteAt.{IsTight}
use Rattle.path_flatten.proofs.Sees.{stays-of}
use Rattle.target_laws.specs.Vectors.{IsVector}
use Rattle.target_laws.proofs.Cells.{lowest_bits, no-cells, next-cell, all-cells}
use Rattle.target_laws.proofs.Clipping.{none-clipped}
use Rattle.target_laws.proofs.Filling.{element-stays}
use Rattle.target_flatten.specs.declared.aims.Aim.{Aim}
use Rattle.target_flatten.specs.declared.spots.Spot.{Spot}
use Rattle.target_flatten.specs.declared.writes.Image.{Image}
use Rattle.target_flatten.specs.declared.writes.Write.{Write}
use Rattle.target_flatten.specs.Naming.{SpotNames, EachNames, NamesAimAt}
use Rattle.target_flatten.specs.Spots.{IsSpot}
use Rattle.target_flatten.specs.Owning.{writes_made}
use Rattle.target_flatten.specs.Writing.{piece, piece_in, pieces, pieces_in, aimed, aimed_in, IsAimed, AimsAt}
use Rattle.target_walk.specs.declared.given.Given.{Given}
use Rattle.target_walk.specs.declared.given.Given.TheVariants as G
use Rattle.target_walk.specs.Giving.{all_names}
use Rattle.target_walk.specs.Walking.{Indexed, StandsAt, WritesAs}
use Rattle.target_walk.specs.Cells.{counts_at_most, HasRankIn, AddsCell, AddsElement, LowestWritten, WritesLowest}
use Rattle.target_walk.proofs.Taking.{Steady, steady, whole-of}
use Rattle.target_walk.proofs.Arms.{element-path}

-- the target of an element, and what is added to others
abbrev pub cell_pieces : Option Aim → ℕ → ℕ → List Piece
cell_pieces None low n = []
cell_pieces (Some x) low n = record (aimed x n) { low = low } ∷ []

abbrev pub cell_in : Named → Option Aim → ℕ → ℕ → List Piece
cell_in vec None low n = []
cell_in vec (Some x) low n = record (aimed_in vec x n) { low = low } ∷ []

added : (xs : List Write) (x : Option Aim) (low n : ℕ) → pieces (xs ++ writes_made x low n) ≡ pieces xs ++ cell_pieces x low n
added [] None low n = refl
added [] (Some x) low n = refl
added (y ∷ xs) x low n = ap (λ ps. piece y ∷ ps) (added xs x low n)

added-in : (vec : Named) (xs : List Write) (x : Option Aim) (low n : ℕ) → pieces_in vec (xs ++ writes_made x low n) ≡ pieces_in vec xs ++ cell_in vec x low n
added-in vec [] None low n = refl
added-in vec [] (Some x) low n = refl
added-in vec (y ∷ xs) x low n = ap (λ ps. piece_in vec y ∷ ps) (added-in vec xs x low n)

-- lists of targets
pub each-append : (ns : List ℕ) (ps qs : List Piece) (sc : Scope) → EachNames ns ps sc → EachNames ns qs sc → EachNames ns (ps ++ qs) sc
each-append ns [] qs sc h g = g
each-append ns (p ∷ ps) qs sc h g = (h.0, each-append ns ps qs sc h.1 g)

-- all elements of a path
all-elements : (e : Expr) (a : Around) → Steady (meaning e) a → count_of (layout e.of).left (layout e.of).right * length (layout e.of).element.two_state ≡ S.wide (meaning e)
all-elements e a own =
    subst (λ (l : Layout). count_of l.left l.right * length l.element.two_state ≡ S.wide (meaning e)) (heads e).kind (whole-of e own.some).elements

there : (t n : ℕ) → t < n → (int_le (pos 0) (pos t) && int_lt (pos t) (pos n)) ≡ true
there t n h = grind (arith, nat_tests)

rank-is : (of : Layout) (b : Bounds) (t : ℕ) (k : ℤ) → b.left ≡ of.left → b.right ≡ of.right → HasRankIn b t k → rank of k ≡ pos t
rank-is of b t k left right h = sym (λ i. cond (int_le (right i) (left i)) (k -ℤ right i) (right i -ℤ k)) ∙ h

-- no elements
pub lowest-none : (im : Image) (e : Expr) (gs : List Given) → WritesLowest im e gs 0 []
lowest-none im e gs vec a sc v vector small one room typed path few =
    record { path = no-cells (length (layout e.of).element.two_state) ((meaning e).window a) vec.number sc v; names = tt }

-- one more
module _ (im : Image) (e : Expr) (gs : List Given) (t low item : ℕ) (k : ℤ) (b : Bounds) (s : Spot) (xs ys : List Write) (left : b.left ≡ (layout e.of).left) (right : b.right ≡ (layout e.of).right)
    (size : item ≡ length (layout e.of).element.two_state) (ranked : HasRankIn b t k) (first : low ≡ min (t * length (layout e.of).element.two_state) (2 ^ 32 - 1)) (narrow : S.wide (meaning e) ≤ 4194304)
    (stands : StandsAt e gs (Some (G.Known (Some k))) im.room s) (adds : AddsCell im s low item xs ys) (before : WritesLowest im e gs t xs) where
  abbrev w : ℕ
  w = length (layout e.of).element.two_state

  module _ (vec : Named) (a : Around) (sc : Scope) (v : Valuation) (vector : IsVector vec im.bits) (small : im.bits < 2 ^ 32) (one : 1 ≤ im.room) (room : im.bits < 2 ^ im.room) (typed : (meaning e).misfits ≡ 0)
      (path : Indexed im.room im.bits a sc v e gs true) (few : suc t ≤ count_of (layout e.of).left (layout e.of).right) where
    abbrev image : ℕ
    image = vec.number

    abbrev d : S.Meaning
    d = element-path (meaning e) (Some k)

    own : Steady (meaning e) a
    own = steady im.room im.bits a sc v e gs true path typed

    kind-wide : S.wide d ≡ w
    kind-wide = ap (λ (l : Layout). length l.element.two_state) (heads e).kind

    spot : IsSpot s d a im.room im.bits sc v × SpotNames (all_names gs sc) s sc
    spot = stands d a sc v im.bits true (Some k) small room typed path tt refl (record { wide = refl; picks = λ j less. refl })

    fits : t * w + w ≤ S.wide (meaning e)
    fits =
        let all = all-elements e a own in
        let more = mul-le (suc t) w (count_of (layout e.of).left (layout e.of).right) w few (omega arith) in
        let next : suc t * w ≡ t * w + w = grind arith in
        omega arith

    some : 1 ≤ w
    some = by w refl
      where
        by : (n : ℕ) → n ≡ w → 1 ≤ w
        by Prim.Native.Nat.zero is =
            let all = all-elements e a own in
            let none : count_of (layout e.of).left (layout e.of).right * w ≡ 0 = ap (λ n. count_of (layout e.of).left (layout e.of).right * n) (sym is) ∙ omega arith in
            let bits = own.some in
            absurd (omega arith)
        by (suc n) is = omega arith

    here : (x : Option Aim) → AimsAt im.bits s item im.room x → IsWritten (d.window a) w image (cell_in vec x 0 item) sc v
    here None aims =
        none-clipped (d.window a) w image sc v (subst (λ (l : Layout). IsTight (element_of l (Some k) ((meaning e).window a)) w) (sym (heads e).kind) (element-stays (layout e.of) (Some k) ((meaning e).window a)))
        (λ j less. aims d a sc v spot.0 j (let same = kind-wide in omega arith))
    here (Some x) aims =
        let tight : IsTight (d.window a) w = subst (λ (l : Layout). IsTight (element_of l (Some k) ((meaning e).window a)) w) (sym (heads e).kind) (element-stays (layout e.of) (Some k) ((meaning e).window a)) in
        let aim : IsAimed vec im.bits item d a = record {
          wide = kind-wide ∙ sym size;
          some = (let more = some in omega arith);
          stays = stays-of (d.window a) item (subst (IsTight (d.window a)) (sym size) tight);
          vector = vector;
          small = small;
        } in
        subst (λ n. IsWritten (d.window a) n image (aimed_in vec x item ∷ []) sc v) kind-wide (aims vec d a sc v aim one room spot.0)

    low-is : t * w + 0 ≡ low
    low-is = (let less = fits in omega arith)

    raised-is : (x : Option Aim) → raised (t * w) (cell_in vec x 0 item) ≡ cell_in vec x low item
    raised-is None = refl
    raised-is (Some x) = ap (λ n. record (aimed_in vec x item) { low = n } ∷ []) low-is

    names-of : (x : Option Aim) → NamesAimAt s x → EachNames (all_names gs sc) (cell_pieces x low item) sc
    names-of None h = tt
    names-of (Some x) h = (h (all_names gs sc) sc spot.1, tt)

    pub next-written : LowestWritten im e gs (suc t) ys vec a sc v
    next-written =
        let old = before vec a sc v vector small one room typed path (omega arith) in
        let at = rank-is (layout e.of) b t k left right ranked in
        let inside : (int_le (pos 0) (rank (layout e.of) k) && int_lt (rank (layout e.of) k) (pos (count_of (layout e.of).left (layout e.of).right))) ≡ true =
        ap (λ r. int_le (pos 0) r && int_lt r (pos (count_of (layout e.of).left (layout e.of).right))) at ∙ there t (count_of (layout e.of).left (layout e.of).right) (omega arith) in
        let cell : IsWritten (element_of (layout e.of) (Some k) ((meaning e).window a)) w image (cell_in vec adds.aim 0 item) sc v =
        subst (λ (l : Layout). IsWritten (element_of l (Some k) ((meaning e).window a)) w image (cell_in vec adds.aim 0 item) sc v) (heads e).kind (here adds.aim adds.aims) in
        let all = next-cell (layout e.of) t k ((meaning e).window a) image (pieces_in vec xs) (cell_in vec adds.aim 0 item) sc v at inside old.path cell in
        let same : pieces_in vec xs ++ raised (t * w) (cell_in vec adds.aim 0 item) ≡ pieces_in vec ys = ap (λ qs. pieces_in vec xs ++ qs) (raised-is adds.aim) ∙ sym (ap (pieces_in vec) adds.is ∙ added-in vec xs adds.aim low item) in
        let also : pieces xs ++ cell_pieces adds.aim low item ≡ pieces ys = sym (ap pieces adds.is ∙ added xs adds.aim low item) in
        record {
          path = subst (λ ps. IsWritten (lowest_bits (suc t * w) ((meaning e).window a)) (suc t * w) image ps sc v) same all;
          names = subst (λ ps. EachNames (all_names gs sc) ps sc) also (each-append (all_names gs sc) (pieces xs) (cell_pieces adds.aim low item) sc old.names (names-of adds.aim adds.names));
        }

  pub lowest-next : WritesLowest im e gs (suc t) ys
  lowest-next vec a sc v vector small one room typed path few = next-written vec a sc v vector small one room typed path few

-- all of them
pub lowest-all : (im : Image) (e : Expr) (gs : List Given) (n : ℕ) (l r : ℤ) (xs : List Write) → l ≡ (layout e.of).left → r ≡ (layout e.of).right → n ≡ counts_at_most l r → S.wide (meaning e) ≤ 4194304
    → WritesLowest im e gs n xs → WritesAs im e gs true xs
lowest-all im e gs n l r xs left right count narrow lowest vec a sc v vector small one room typed path =
    let own = steady im.room im.bits a sc v e gs true path typed in
    let w = length (layout e.of).element.two_state in
    let c = count_of (layout e.of).left (layout e.of).right in
    let all = all-elements e a own in
    let few = counts (count_of (layout e.of).left (layout e.of).right) (length (layout e.of).element.two_state) (S.wide (meaning e)) all own.some in
    let far : unsigned_abs (l -ℤ r) + 1 ≡ count_of (layout e.of).left (layout e.of).right = λ i. count_of (left i) (right i) in
    let same : n ≡ count_of (layout e.of).left (layout e.of).right = omega arith in
    let h = lowest vec a sc v vector small one room typed path (omega arith) in
    let full : n * length (layout e.of).element.two_state ≡ S.wide (meaning e) = ap (λ k. k * length (layout e.of).element.two_state) same ∙ all in
    record {
      path = all-cells (S.wide (meaning e)) ((meaning e).window a) vec.number (pieces_in vec xs) sc v own.tight
          (subst (λ k. IsWritten (lowest_bits k ((meaning e).window a)) k vec.number (pieces_in vec xs) sc v) full h.path);
      names = h.names;
    }
  where
    counts : (c w n : ℕ) → c * w ≡ n → 1 ≤ n → c ≤ n
    counts c Prim.Native.Nat.zero n is some = (let none : c * 0 ≡ 0 = omega arith in absurd (omega arith))
    counts c (suc w) n is some = (let more = mul-le c 1 c (suc w) (omega arith) (omega arith) in omega arith)

-- where the next element begins
pub low-next : (t low next item n : ℕ) → low ≡ min (t * n) (2 ^ 32 - 1) → item ≡ n → next ≡ min (low + item) (2 ^ 32 - 1) → next ≡ min ((t + 1) * n) (2 ^ 32 - 1)
low-next t low next item n first size is = (let more : (t + 1) * n ≡ t * n + n = grind arith in omega arith)

pub low-first : (n : ℕ) → 0 ≡ min (0 * n) (2 ^ 32 - 1)
low-first n = (let none : 0 * n ≡ 0 = grind arith in omega arith)

-- the same with numbers as loops count
pub lowest-after : (im : Image) (e : Expr) (gs : List Given) (t : ℕ) (xs : List Write) → WritesLowest im e gs (suc t) xs → WritesLowest im e gs (t + 1) xs
lowest-after im e gs t xs h = let same : suc t ≡ t + 1 = omega arith in subst (λ n. WritesLowest im e gs n xs) same h

-- the target of an element, wherever that stands
pub adds-element : {A : Type 0} (im : Image) (e : Expr) (gs : List Given) (k : ℤ) (low n : ℕ) (s : Spot) (xs ys : List Write) (r : Result A AllocError) → StandsAt e gs (Some (G.Known (Some k))) im.room s → OnOk r (AddsCell im s low n xs ys)
    → OnOk r (AddsElement im e gs k low n xs ys)
adds-element im e gs k low n s xs ys (Ok u) stands adds = record { spot = s; stands = stands; adds = adds }
adds-element im e gs k low n s xs ys (Err x) stands adds = tt
