-- How many bits the indices of a path need.
use Rattle.std.proofs.Common.{◌≡◌, ℕ, zero, suc, ◌+◌, ◌-◌, ◌*◌, ◌<◌, ◌≤◌, ◌^◌, max, Bool, true, false, ◌&&◌, ℤ, pos, negsuc, neg_ℤ, ◌-ℤ◌, ◌+ℤ◌, ◌≤ℤ◌, List, [], ◌∷◌, Option, arith, sym, subst}
use Rattle.std.specs.Prelude.{int_le, int_lt, unsigned_abs}
use Rattle.std.proofs.lemmas.Int.{ints}
use Rattle.std.proofs.lemmas.Bool.Decides.{nat_tests}
use Rattle.sv_types.specs.declared.expression.Expr.{Expr}
use Rattle.sv_types.specs.declared.expression.Form.{out-Form}
use Rattle.sv_types.specs.declared.expression.Form.TheVariants as V
use Rattle.sv_types.specs.Layouts.{Layout, layout}
use Rattle.sv_types.specs.Windows.{falls}
use Rattle.sv_types.specs.Paths as P
use Rattle.sv_types.specs.Expressions.{meaning}
use Rattle.eval_parts.specs.declared.layouts.Bounds.{Bounds}
use Rattle.eval_parts.specs.Steps.{is_path}
use Rattle.lowering_laws.specs.Signed.{FitsSigned}
use Rattle.path_flatten.specs.declared.offsets.Index.{Index}
use Rattle.target_laws.specs.Elements.{far_from}
use Rattle.target_walk.specs.declared.given.Given.{Given}
use Rattle.target_walk.specs.declared.given.Given.TheVariants as G
use Rattle.target_walk.specs.Giving.{IsGiven, FitsAt, moved_given}
use Rattle.target_walk.specs.Rooms.{IsKnownIn, Followed, GivesRoom, MakesRoom}
use Rattle.target_walk.specs.Walking.{Indexed, of_signal, of_local, of_member, of_index, of_part, of_slide}
use Rattle.target_walk.proofs.Inverting.{of-Signal, of-Local, of-Member, of-Index, of-Part, of-Slide}
use Rattle.target_walk.proofs.Arms.{first-same}
use Rattle.target_walk.proofs.Telling.{no-path}

-- powers
pub pow-suc : (n : ℕ) → 2 ^ suc n ≡ 2 * 2 ^ n
pow-suc n = grind arith

pow-grows : (k n : ℕ) → 2 ^ n ≤ 2 ^ (k + n)
pow-grows zero n = let f : n ≡ 0 + n = omega arith in let g : 2 ^ n ≤ 2 ^ n = omega arith in subst (λ m. 2 ^ n ≤ 2 ^ m) f g
pow-grows (suc k) n =
    let h = pow-grows k n in
    let f : suc (k + n) ≡ suc k + n = omega arith in
    let e = pow-suc (k + n) in
    let g : 2 ^ n ≤ 2 ^ suc (k + n) = omega arith in
    subst (λ m. 2 ^ n ≤ 2 ^ m) f g

pub pow-more : (m n : ℕ) → m ≤ n → 2 ^ m ≤ 2 ^ n
pow-more m n h = let e : (n - m) + m ≡ n = omega arith in subst (λ k. 2 ^ m ≤ 2 ^ k) e (pow-grows (n - m) m)

-- numbers by how far they lie from 0
abs-low : (x : ℤ) (m : ℕ) → unsigned_abs x ≤ m → neg_ℤ (pos m) ≤ℤ x
abs-low (pos n) m h = omega (arith, ints)
abs-low (negsuc n) m h = omega (arith, ints)

abs-high : (x : ℤ) (m : ℕ) → unsigned_abs x ≤ m → x ≤ℤ pos m
abs-high (pos n) m h = omega (arith, ints)
abs-high (negsuc n) m h = omega (arith, ints)

abs-of : (x : ℤ) (m : ℕ) → neg_ℤ (pos m) ≤ℤ x → x ≤ℤ pos m → unsigned_abs x ≤ m
abs-of (pos n) m l h = omega (arith, ints)
abs-of (negsuc n) m l h = omega (arith, ints)

pub abs-sum : (x y : ℤ) (m n : ℕ) → unsigned_abs x ≤ m → unsigned_abs y ≤ n → unsigned_abs (x -ℤ y) ≤ m + n
abs-sum x y m n h g =
    let a = abs-low x m h in
    let b = abs-high x m h in
    let c = abs-low y n g in
    let d = abs-high y n g in
    abs-of (x -ℤ y) (m + n) (omega (arith, ints)) (omega (arith, ints))

pub abs-plus : (x y : ℤ) (m n : ℕ) → unsigned_abs x ≤ m → unsigned_abs y ≤ n → unsigned_abs (x +ℤ y) ≤ m + n
abs-plus x y m n h g =
    let a = abs-low x m h in
    let b = abs-high x m h in
    let c = abs-low y n g in
    let d = abs-high y n g in
    abs-of (x +ℤ y) (m + n) (omega (arith, ints)) (omega (arith, ints))

signed-by : (x : ℤ) (m w : ℕ) → unsigned_abs x ≤ m → m < 2 ^ w → FitsSigned w x
signed-by x m w h less =
    let a = abs-low x m h in
    let b = abs-high x m h in
    record { above = omega (arith, ints); below = omega (arith, ints) }

-- an index
pub gives-known : (b : Bounds) (k : Option ℤ) (n r : ℕ) → GivesRoom b (G.Known k) n r
gives-known b k n r = tt

pub gives-lowered : (b : Bounds) (x : Index) (d : ℤ) (n r k far : ℕ) → r ≡ max (x.width + 1) (k + 1) → far ≡ max (unsigned_abs b.left) (unsigned_abs b.right) + unsigned_abs d + n + 1 → far < 2 ^ k
    → GivesRoom b (G.Lowered x d) n r
gives-lowered b x d n r k far room size less of w f left right few near =
    let top = max (unsigned_abs b.left) (unsigned_abs b.right) in
    let l : unsigned_abs of.left ≤ max (unsigned_abs b.left) (unsigned_abs b.right) = subst (λ (y : ℤ). unsigned_abs y ≤ max (unsigned_abs b.left) (unsigned_abs b.right)) left (omega arith) in
    let u : unsigned_abs of.right ≤ max (unsigned_abs b.left) (unsigned_abs b.right) = subst (λ (y : ℤ). unsigned_abs y ≤ max (unsigned_abs b.left) (unsigned_abs b.right)) right (omega arith) in
    let more = pow-more k (w - 1) (omega arith) in
    let all = pow-more (suc k) w (omega arith) in
    let twice = pow-suc k in
    let whole = abs-sum of.left of.right (max (unsigned_abs b.left) (unsigned_abs b.right)) (max (unsigned_abs b.left) (unsigned_abs b.right)) l u in
    record {
      index = omega arith;
      left = signed-by (of.left -ℤ f) (max (unsigned_abs b.left) (unsigned_abs b.right) + (unsigned_abs d + n)) (w - 1) (abs-sum of.left f (max (unsigned_abs b.left) (unsigned_abs b.right)) (unsigned_abs d + n) l near) (omega arith);
      right = signed-by (of.right -ℤ f) (max (unsigned_abs b.left) (unsigned_abs b.right) + (unsigned_abs d + n)) (w - 1) (abs-sum of.right f (max (unsigned_abs b.left) (unsigned_abs b.right)) (unsigned_abs d + n) u near) (omega arith);
      count = omega arith;
    }

fits-at : (b : Bounds) (g : Given) (n r w : ℕ) (part : Bool) (f : ℤ) (of : Layout) → GivesRoom b g n r → b.left ≡ of.left → b.right ≡ of.right → r ≤ w → unsigned_abs f ≤ n → IsKnownIn part g
    → FitsAt w part (moved_given g f) of
fits-at b (G.Known k) n r w part f of gives left right few near known = tt
fits-at b (G.Lowered x d) n r w true f of gives left right few near known = absurd known
fits-at b (G.Lowered x d) n r w false f of gives left right few near known =
    gives of w (d +ℤ f) left right few (abs-plus d f (unsigned_abs d) n (omega arith) near)

fits-here : (b : Bounds) (g : Given) (r w : ℕ) (part : Bool) (of : Layout) → GivesRoom b g 0 r → b.left ≡ of.left → b.right ≡ of.right → r ≤ w → IsKnownIn part g → FitsAt w part g of
fits-here b (G.Known k) r w part of gives left right few known = tt
fits-here b (G.Lowered x d) r w true of gives left right few known = absurd known
fits-here b (G.Lowered x d) r w false of gives left right few known = gives of w d left right few (omega arith)

-- paths
pub room-more : (e : Expr) (gs : List Given) (r s : ℕ) → r ≤ s → MakesRoom e gs r → MakesRoom e gs s
room-more e gs r s more makes w bits a sc v part few path = makes w bits a sc v part (omega arith) path

pub room-Signal : (e : Expr) (n : ℕ) (gs : List Given) (r : ℕ) → e.form ≡ V.Signal n → MakesRoom e gs r
room-Signal e n gs r is w bits a sc v part few path =
    let h = of-Signal (λ b g of. IsKnownIn b g) bits a sc v e n gs part is path in
    subst (λ l. Indexed w bits a sc v e l part) (sym h.none) (subst (λ b. Indexed w bits a sc v e [] b) (sym h.whole) (of_signal e n is h.width))

pub room-Local : (e : Expr) (n : ℕ) (gs : List Given) (r : ℕ) → e.form ≡ V.Local n → MakesRoom e gs r
room-Local e n gs r is w bits a sc v part few path =
    let h = of-Local (λ b g of. IsKnownIn b g) bits a sc v e n gs part is path in
    subst (λ l. Indexed w bits a sc v e l part) (sym h.none) (subst (λ b. Indexed w bits a sc v e [] b) (sym h.whole) (of_local e n is h.width))

pub room-Member : (e from : Expr) (k : ℕ) (gs : List Given) (r : ℕ) → e.form ≡ V.Member from k → MakesRoom from gs r → MakesRoom e gs r
room-Member e from k gs r is makes w bits a sc v part few path =
    let h = of-Member (λ b g of. IsKnownIn b g) bits a sc v e from k gs part is path in
    subst (λ b. Indexed w bits a sc v e gs b) (sym h.whole) (of_member e from k gs is (makes w bits a sc v false few h.rest))

pub room-Part : (e from : Expr) (left right : ℤ) (gs : List Given) (r : ℕ) → e.form ≡ V.Part from left right → MakesRoom from gs r → MakesRoom e gs r
room-Part e from left right gs r is makes w bits a sc v part few path =
    let h = of-Part (λ b g of. IsKnownIn b g) bits a sc v e from left right gs part is path in
    subst (λ b. Indexed w bits a sc v e gs b) (sym h.is_part) (of_part e from left right gs h.inner is h.typed (makes w bits a sc v h.inner few h.rest))

pub room-Index : (e from i : Expr) (g : Given) (gs : List Given) (b : Bounds) (own r s : ℕ) → e.form ≡ V.Index from i → b.left ≡ (layout from.of).left → b.right ≡ (layout from.of).right → GivesRoom b g 0 own
    → s ≡ max own r → MakesRoom from gs r → MakesRoom e (g ∷ gs) s
room-Index e from i g gs b own r s is left right gives sum makes w bits a sc v part few path =
    let h = of-Index (λ c x of. IsKnownIn c x) bits a sc v e from i (g ∷ gs) part is path in
    let same = first-same g h.given gs h.others h.all in
    subst (λ c. Indexed w bits a sc v e (g ∷ gs) c) (sym h.whole)
    (of_index e from i g gs h.inner is (subst (λ (x : Given). IsGiven x (P.index_of (meaning i) a) sc v) (sym same.0) h.number)
    (fits-here b g own w h.inner (layout from.of) gives left right (omega arith) (subst (IsKnownIn h.inner) (sym same.0) h.fits))
    (makes w bits a sc v h.inner (omega arith) (subst (λ (l : List Given). Followed bits a sc v from l h.inner) (sym same.1) h.rest)))

pub far-small : (b up : Bool) (n : ℕ) (j : ℤ) → (int_le (pos 0) j && int_lt j (pos n)) ≡ true → unsigned_abs (far_from b up n j) ≤ n
far-small b up n (negsuc m) h = absurd (cc)
far-small b up n (pos m) h = by b up (below m n h)
  where
    below : (x y : ℕ) → (int_le (pos 0) (pos x) && int_lt (pos x) (pos y)) ≡ true → x < y
    below x y g = grind (arith, nat_tests)

    by : (c d : Bool) → m < n → unsigned_abs (far_from c d n (pos m)) ≤ n
    by true true less = omega (arith, ints)
    by true false less = abs-of (pos m -ℤ pos (n - 1)) n (omega (arith, ints)) (omega (arith, ints))
    by false true less = abs-of (pos (n - 1) -ℤ pos m) n (omega (arith, ints)) (omega (arith, ints))
    by false false less = abs-of (pos 0 -ℤ pos m) n (omega (arith, ints)) (omega (arith, ints))

known-moved : (part : Bool) (g : Given) (f : ℤ) → IsKnownIn part (moved_given g f) → IsKnownIn part g
known-moved part (G.Known k) f h = tt
known-moved true (G.Lowered x d) f h = h
known-moved false (G.Lowered x d) f h = tt

pub room-Slide : (e from i : Expr) (n : ℕ) (up : Bool) (g : Given) (gs : List Given) (b : Bounds) (own r s : ℕ) → e.form ≡ V.Slide from i n up → b.left ≡ (layout from.of).left → b.right ≡ (layout from.of).right
    → GivesRoom b g n own → s ≡ max own r → MakesRoom from gs r → MakesRoom e (g ∷ gs) s
room-Slide e from i n up g gs b own r s is left right gives sum makes w bits a sc v part few path =
    let h = of-Slide (λ c x of. IsKnownIn c x) bits a sc v e from i n up (g ∷ gs) part is path in
    let same = first-same g h.given gs h.others h.all in
    subst (λ c. Indexed w bits a sc v e (g ∷ gs) c) (sym h.is_part)
    (of_slide e from i n up g gs h.inner is (subst (λ (x : Given). IsGiven x (P.index_of (meaning i) a) sc v) (sym same.0) h.number) h.typed
    (λ j test. fits-at b g n own w h.inner (far_from (falls (layout from.of)) up n j) (layout from.of) gives left right (omega arith) (far-small (falls (layout from.of)) up n j test)
    (known-moved h.inner g (far_from (falls (layout from.of)) up n j) (subst (λ (x : Given). IsKnownIn h.inner (moved_given x (far_from (falls (layout from.of)) up n j))) (sym same.0) (h.fits j test))))
    (makes w bits a sc v h.inner (omega arith) (subst (λ (l : List Given). Followed bits a sc v from l h.inner) (sym same.1) h.rest)))

-- what is no path, or lacks an index
pub room-plain : (e : Expr) (gs : List Given) (r : ℕ) → is_path (out-Form e.form) ≡ false → MakesRoom e gs r
room-plain e gs r plain w bits a sc v part few path = absurd (no-path (λ b g of. IsKnownIn b g) bits a sc v e gs part plain path)

none-first : (x : Given) (xs : List Given) → [] ≡ x ∷ xs → ⊥
none-first x xs f = cc

pub room-no-index : (e from i : Expr) (r : ℕ) → e.form ≡ V.Index from i → MakesRoom e [] r
room-no-index e from i r is w bits a sc v part few path =
    let h = of-Index (λ b g of. IsKnownIn b g) bits a sc v e from i [] part is path in
    absurd (none-first h.given h.others h.all)

pub room-no-slide : (e from i : Expr) (n : ℕ) (up : Bool) (r : ℕ) → e.form ≡ V.Slide from i n up → MakesRoom e [] r
room-no-slide e from i n up r is w bits a sc v part few path =
    let h = of-Slide (λ b g of. IsKnownIn b g) bits a sc v e from i n up [] part is path in
    absurd (none-first h.given h.others h.all)
