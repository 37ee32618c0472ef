-- Where a path stands, by what each arm of the walk gives.
use Rattle.std.proofs.Common.{◌≡◌, ℕ, Bool, ℤ, length, List, [], ◌∷◌, Option, Some, None, Result, Ok, Err, IfOk, refl, arith, ap, sym, ◌∙◌, subst}
use Rattle.std.specs.declared.alloc.AllocError.{AllocError}
use Rattle.sv_types.specs.declared.expression.Expr.{Expr}
use Rattle.sv_types.specs.declared.expression.Form.TheVariants as V
use Rattle.sv_types.specs.Layouts.{layout}
use Rattle.sv_types.specs.Windows.{falls}
use Rattle.target_flatten.specs.declared.spots.Spot.{Spot}
use Rattle.target_flatten.specs.Naming.{NamesNothing, NamesOn, NamesAdded}
use Rattle.target_flatten.specs.Spots.{StandsWhole, SpotsElement, SpotsIndex}
use Rattle.target_walk.specs.declared.given.Given.{Given}
use Rattle.target_walk.specs.Giving.{kept_given, given_on}
use Rattle.target_walk.specs.declared.given.Given.TheVariants as G
use Rattle.sv_types.specs.declared.types.SvType.{SvType}
use Rattle.path_flatten.specs.declared.offsets.Index.{Index}
use Rattle.target_walk.specs.Walking.{StandsAt, Chooses, ChoosesFrom, IsMemberFrom}
use Rattle.target_walk.proofs.Arms.{chooses-known, chooses-lowered, signal-stands, local-stands, member-base, index-base, stands-from, spot-map, part-some, part-none, slide-some, slide-none, empty-index, empty-slide}

module _ (e : Expr) (gs : List Given) (g : Option Given) (w : ℕ) (r : Result Spot AllocError) where
  pub signal-arm : (n : ℕ) (s : Spot) → e.form ≡ V.Signal n → StandsWhole s → NamesNothing s → IfOk r (ChoosesFrom (Ok s) e.of g w) → IfOk r (StandsAt e gs g w)
  signal-arm n s is stands names chosen =
      spot-map r (ChoosesFrom (Ok s) e.of g w) (StandsAt e gs g w) (λ x h. stands-from e gs g w (Ok s) x (signal-stands e n gs w s is stands names) h) chosen

  pub local-arm : (n : ℕ) (s : Spot) → e.form ≡ V.Local n → StandsWhole s → NamesNothing s → IfOk r (ChoosesFrom (Ok s) e.of g w) → IfOk r (StandsAt e gs g w)
  local-arm n s is stands names chosen =
      spot-map r (ChoosesFrom (Ok s) e.of g w) (StandsAt e gs g w) (λ x h. stands-from e gs g w (Ok s) x (local-stands e n gs w s is stands names) h) chosen

  pub member-arm : (from : Expr) (k : ℕ) (p q : Result Spot AllocError) → e.form ≡ V.Member from k → IfOk p (StandsAt from gs None w) → IfOk q (IsMemberFrom p from.of k) → IfOk r (ChoosesFrom q e.of g w)
      → IfOk r (StandsAt e gs g w)
  member-arm from k p q is stands made chosen =
      spot-map r (ChoosesFrom q e.of g w) (StandsAt e gs g w) (λ x h. stands-from e gs g w q x (member-base e from k gs w p q is stands made) h) chosen

  pub index-arm : (from i : Expr) (last given : Given) (rest : List Given) (p : Result Spot AllocError) → e.form ≡ V.Index from i → gs ≡ last ∷ rest → given ≡ last → IfOk p (StandsAt from rest (Some given) w)
      → IfOk r (ChoosesFrom p e.of g w) → IfOk r (StandsAt e gs g w)
  index-arm from i last given rest p is all same stands chosen =
      subst (λ (l : List Given). IfOk r (StandsAt e l g w)) (ap (λ x. x ∷ rest) same ∙ sym all)
      (spot-map r (ChoosesFrom p e.of g w) (StandsAt e (given ∷ rest) g w) (λ x h. stands-from e (given ∷ rest) g w p x (index-base e from i given rest w p is stands) h) chosen)

module _ (e from : Expr) (gs : List Given) (w : ℕ) (r : Result Spot AllocError) where
  pub part-arm : (left right : ℤ) (g inner : Given) → e.form ≡ V.Part from left right → inner ≡ kept_given left right g → IfOk r (StandsAt from gs (Some inner) w) → IfOk r (StandsAt e gs (Some g) w)
  part-arm left right g inner is same stands =
      spot-map r (StandsAt from gs (Some inner) w) (StandsAt e gs (Some g) w) (λ s h. part-some e from left right gs g w s is (subst (λ x. StandsAt from gs (Some x) w s) same h)) stands

  pub slide-arm : (i : Expr) (n : ℕ) (up : Bool) (base g inner : Given) (rest : List Given) → e.form ≡ V.Slide from i n up → gs ≡ base ∷ rest → inner ≡ given_on (falls (layout from.of)) up n base g
      → IfOk r (StandsAt from rest (Some inner) w) → IfOk r (StandsAt e gs (Some g) w)
  slide-arm i n up base g inner rest is all same stands =
      subst (λ (l : List Given). IfOk r (StandsAt e l (Some g) w)) (sym all)
      (spot-map r (StandsAt from rest (Some inner) w) (StandsAt e (base ∷ rest) (Some g) w)
      (λ s h. slide-some e from i n up base rest w s is g (subst (λ x. StandsAt from rest (Some x) w s) same h)) stands)

-- no index
pub no-given : (gs : List Given) → length gs ≡ 0 → gs ≡ []
no-given [] h = refl
no-given (g ∷ gs) h = absurd (omega arith)

-- where an index lacks, or nothing is asked of a part-select
pub index-lacks : (e from i : Expr) (gs : List Given) (g : Option Given) (w : ℕ) (s : Spot) → e.form ≡ V.Index from i → gs ≡ [] → StandsAt e gs g w s
index-lacks e from i gs g w s is none = subst (λ (l : List Given). StandsAt e l g w s) (sym none) (empty-index e from i g w s is)

pub slide-lacks : (e from i : Expr) (n : ℕ) (up : Bool) (gs : List Given) (g : Option Given) (w : ℕ) (s : Spot) → e.form ≡ V.Slide from i n up → gs ≡ [] → StandsAt e gs g w s
slide-lacks e from i n up gs g w s is none = subst (λ (l : List Given). StandsAt e l g w s) (sym none) (empty-slide e from i n up g w s is)

pub part-unasked : (e from : Expr) (left right : ℤ) (gs : List Given) (g : Option Given) (w : ℕ) (s : Spot) → e.form ≡ V.Part from left right → g ≡ None → StandsAt e gs g w s
part-unasked e from left right gs g w s is none = subst (λ (x : Option Given). StandsAt e gs x w s) (sym none) (part-none e from left right gs w s is)

pub slide-unasked : (e from i : Expr) (n : ℕ) (up : Bool) (gs : List Given) (g : Option Given) (w : ℕ) (s : Spot) → e.form ≡ V.Slide from i n up → g ≡ None → StandsAt e gs g w s
slide-unasked e from i n up gs g w s is none = subst (λ (x : Option Given). StandsAt e gs x w s) (sym none) (slide-none e from i n up gs w s is)

-- an element by a known index, and by a lowered one
pub known-way : (old s : Spot) (t : SvType) (k : ℤ) (w : ℕ) → SpotsElement old t (Some k) s → NamesOn old s → Chooses old t (Some (G.Known (Some k))) w s
known-way old s t k w stands on = chooses-known old s t k w stands on

pub lowered-way : (old : Spot) (t : SvType) (x : Index) (d : ℤ) (w : ℕ) (r : Result Spot AllocError) → IfOk r (SpotsIndex old x t d w) → IfOk r (NamesAdded old x) → IfOk r (Chooses old t (Some (G.Lowered x d)) w)
lowered-way old t x d w (Ok s) stands added = chooses-lowered old s t x d w stands added
lowered-way old t x d w (Err y) stands added = tt
