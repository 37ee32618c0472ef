-- Where a path stands, by its last step.
use Rattle.std.proofs.Common.{◌≡◌, ℕ, ◌*◌, ◌<◌, ◌^◌, Bool, true, false, ◌&&◌, cond, ℤ, pos, ◌+ℤ◌, length, List, [], ◌∷◌, ◌++◌, append-nil, Option, Some, None, Result, Ok, Err, IfOk, refl, arith, ap, sym, ◌∙◌, subst, true≢false}
use Rattle.std.specs.Prelude.{int_le, int_lt}
use Rattle.std.proofs.lemmas.Int.{ints}
use Rattle.std.specs.declared.alloc.AllocError.{AllocError}
use Rattle.row_machine.specs.Valuation.{Valuation}
use Rattle.picks.specs.Windows.{Window, picked}
use Rattle.sv_types.specs.declared.expression.Expr.{Expr}
use Rattle.sv_types.specs.declared.expression.Form.TheVariants as V
use Rattle.sv_types.specs.declared.types.SvType.{SvType}
use Rattle.sv_types.specs.Layouts.{Layout, layout, width_of, count_of}
use Rattle.sv_types.specs.Windows.{falls, element_of, between, slide}
use Rattle.sv_types.specs.Surroundings.{Around}
use Rattle.sv_types.specs.Meanings as S
use Rattle.sv_types.specs.Paths as P
use Rattle.sv_types.specs.Expressions.{meaning}
use Rattle.sv_types.proofs.Heads.{heads}
use Rattle.sv_types.proofs.Picks.{nothing-there}
use Rattle.v_meaning.specs.Scopes.{Scope}
use Rattle.lowering_laws.specs.Images.{Names}
use Rattle.lowering_laws.proofs.WriteAt.{IsTight}
use Rattle.path_flatten.specs.declared.offsets.Index.{Index}
use Rattle.path_flatten.specs.Sliding.{IsIndexOf, HasNumber}
use Rattle.path_flatten.specs.Stepping.{IsStep}
use Rattle.path_flatten.proofs.Sees.{stays-of}
use Rattle.target_laws.specs.Distances.{moved_by}
use Rattle.target_laws.specs.Elements.{IsElementOf, IsPartOf, IsSlideOf, kept, far_from, gone_on}
use Rattle.target_laws.proofs.Elements.{through-part, through-slide}
use Rattle.target_flatten.specs.declared.spots.Spot.{Spot}
use Rattle.target_flatten.specs.declared.spots.Spot.TheVariants as W
use Rattle.target_flatten.specs.Naming.{SpotNames, NamesOn, NamesNothing, NamesAdded}
use Rattle.target_flatten.specs.Spots.{IsSpot, StandsWhole, SpotsMember, SpotsElement, SpotsIndex}
use Rattle.target_walk.specs.declared.given.Given.{Given}
use Rattle.target_walk.specs.declared.given.Given.TheVariants as G
use Rattle.target_walk.specs.Giving.{IsGiven, all_names, given_names, moved_given, kept_given, given_on, FitsAt}
use Rattle.target_walk.specs.Walking.{Indexed, NamesChosen, StandsAt, Chooses, ChoosesFrom, IsMemberFrom}
use Rattle.target_walk.proofs.Inverting.{of-Signal, of-Local, of-Member, of-Index, of-Part, of-Slide}
use Rattle.target_walk.proofs.Taking.{TakesAll, Steady, takes-Signal, takes-Local, takes-Member, takes-Index, takes-Part, takes-Slide, steady, whole-of}

-- paths that name the same bits stand at one place
pub spot-same : (s : Spot) (e f : S.Meaning) (a : Around) (w bits : ℕ) (sc : Scope) (v : Valuation) → S.wide e ≡ S.wide f
    → ((j : ℕ) → j < S.wide e → picked (e.window a) j ≡ picked (f.window a) j) → IsSpot s f a w bits sc v → IsSpot s e a w bits sc v
spot-same W.Nowhere e f a w bits sc v wide same h = λ j less. same j less ∙ h j (omega arith)
spot-same (W.Known below) e f a w bits sc v wide same h = (let fits = h.fits in record { names = λ j less. same j less ∙ h.names j (omega arith); fits = omega arith })
spot-same (W.Moved place below) e f a w bits sc v wide same h =
    let fits = h.inside.fits in
    record {
      anchor = h.anchor;
      placed = h.placed;
      inside = record { picks = λ j less. same j less ∙ h.inside.picks j (omega arith); fits = omega arith };
      few = h.few;
    }

-- the element with an index as a path
abbrev pub element-path : S.Meaning → Option ℤ → S.Meaning
element-path e z = record e { of = record e.of { two_state = e.of.element.two_state }; window = λ (b : Around). element_of e.of z (e.window b) }

element-step : (e : S.Meaning) (a : Around) (z : Option ℤ) → IsStep (element-path e z) e a (element_of e.of z)
element-step e a z = record { base = refl; window = refl }

-- what is chosen
pub lost-stands : (e : Expr) (gs : List Given) (w : ℕ) → StandsAt e gs (Some (G.Known None)) w W.Nowhere
lost-stands e gs w d a sc v bits part z small room typed path fits given is =
    (λ j less. is.picks j less ∙ ap (λ y. picked (element_of (meaning e).of y ((meaning e).window a)) j) (sym given) ∙ nothing-there (pos j +ℤ pos 0), λ ms. tt)

pub chooses-known : (old s : Spot) (t : SvType) (k : ℤ) (w : ℕ) → SpotsElement old t (Some k) s → NamesOn old s → Chooses old t (Some (G.Known (Some k))) w s
chooses-known old s t k w stands on d e a sc v bits z ns small room of some stays fits given is spot names =
    let h = stands (element-path e (Some k)) e a w bits sc v small of (element-step e a (Some k)) refl some stays spot in (
      spot-same s d (element-path e (Some k)) a w bits sc v is.wide (λ j less. is.picks j less ∙ ap (λ y. picked (element_of e.of y (e.window a)) j) (sym given)) h,
      on ns sc names,
    )

-- an index that doesn't hang on where it is valued
fixed : (x : Index) (y : Option ℤ) (sc : Scope) (v : Valuation) (n : HasNumber x y sc v) → S.Meaning
fixed x y sc v n = record n.index { value = λ (w : ℕ) (s : Bool) (b : Around). n.index.value w s n.around }

fixed-is : (x : Index) (y : Option ℤ) (a : Around) (sc : Scope) (v : Valuation) (n : HasNumber x y sc v) → IsIndexOf x (fixed x y sc v n) a sc v × (P.index_of (fixed x y sc v n) a ≡ y)
unfolding fixed
fixed-is x y a sc v n =
    let h = n.is in
    let same = h.same in
    (record { width = h.width; sign = h.sign; some = h.some; long = h.long; same = record { least = same.least; most = same.most; sign = same.sign; value = same.value } }, n.number)

pub chooses-lowered : (old s : Spot) (t : SvType) (x : Index) (d : ℤ) (w : ℕ) → SpotsIndex old x t d w s → NamesAdded old x s → Chooses old t (Some (G.Lowered x d)) w s
chooses-lowered old s t x d w stands added p e a sc v bits z ns small room of some stays fits (y, number, moved) is spot names =
    let i = fixed x y sc v number in
    let at = fixed-is x y a sc v number in
    let to = moved_by (P.index_of (fixed x y sc v number) a) d in
    let h = stands (element-path e (moved_by (P.index_of (fixed x y sc v number) a) d)) e (fixed x y sc v number) a bits sc v room fits of
    (element-step e a (moved_by (P.index_of (fixed x y sc v number) a) d)) refl some at.0 spot in (
      spot-same s p (element-path e (moved_by (P.index_of (fixed x y sc v number) a) d)) a w bits sc v is.wide
          (λ j less. is.picks j less ∙ ap (λ k. picked (element_of e.of k (e.window a)) j) (sym (ap (λ k. moved_by k d) at.1 ∙ moved))) h,
      added ns sc names,
    )

-- what is chosen from what may want memory
pub chosen-none : (r : Result Spot AllocError) (t : SvType) (w : ℕ) → IfOk r (ChoosesFrom r t None w)
chosen-none (Ok s) t w = refl
chosen-none (Err x) t w = tt

pub chosen-from : (r : Result Spot AllocError) (old : Spot) (t : SvType) (g : Option Given) (w : ℕ) (s : Spot) → r ≡ Ok old → Chooses old t g w s → ChoosesFrom r t g w s
chosen-from r old t g w s is h = subst (λ q. ChoosesFrom q t g w s) (sym is) h

pub member-from : (r : Result Spot AllocError) (old : Spot) (t : SvType) (k : ℕ) (s : Spot) → r ≡ Ok old → SpotsMember old t k s → NamesOn old s → IsMemberFrom r t k s
member-from r old t k s is spots on = subst (λ q. IsMemberFrom q t k s) (sym is) (spots, on)

-- what stands somewhere by its last step, which is no part-select
abbrev pub BaseStands : Expr → List Given → ℕ → Spot → Type 0
BaseStands e gs w old = (a : Around) (sc : Scope) (v : Valuation) (bits : ℕ) (part : Bool) → bits < 2 ^ 32 → bits < 2 ^ w → (meaning e).misfits ≡ 0 → Indexed w bits a sc v e gs part
    → (part ≡ false) × IsSpot old (meaning e) a w bits sc v × SpotNames (all_names gs sc) old sc

pub from-base : (e : Expr) (gs : List Given) (g : Option Given) (w : ℕ) (old s : Spot) → BaseStands e gs w old → Chooses old e.of g w s → StandsAt e gs g w s
from-base e gs None w old s base is = λ a sc v bits small room typed path.
    let h = base a sc v bits false small room typed path in
    subst (λ (x : Spot). IsSpot x (meaning e) a w bits sc v × SpotNames (all_names gs sc) x sc) (sym is) (h.1, h.2)
from-base e gs (Some g) w old s base chooses = λ d a sc v bits part z small room typed path fits given is.
    let h = base a sc v bits part small room typed path in
    let own = steady w bits a sc v e gs part path typed in
    chooses d (meaning e) a sc v bits z (all_names gs sc) small room (heads e).kind own.some (stays-of ((meaning e).window a) (S.wide (meaning e)) own.tight)
    (subst (λ b. FitsAt w b g (layout e.of)) h.0 fits) given is h.1 h.2

-- signals and locals
root-stands : (e : Expr) (w : ℕ) (s : Spot) (a : Around) (sc : Scope) (v : Valuation) (bits : ℕ) → StandsWhole s → NamesNothing s → TakesAll (meaning e) a (width_of e.of) → width_of e.of ≡ bits
    → IsSpot s (meaning e) a w bits sc v × SpotNames [] s sc
root-stands e w s a sc v bits stands names all wide = (stands (meaning e) a w bits sc v (subst (Names (meaning e) a 0) wide all.names) (all.wide ∙ wide), names sc)

pub signal-stands : (e : Expr) (n : ℕ) (gs : List Given) (w : ℕ) (s : Spot) → e.form ≡ V.Signal n → StandsWhole s → NamesNothing s → BaseStands e gs w s
signal-stands e n gs w s is stands names a sc v bits part small room typed path =
    let h = of-Signal (FitsAt w) bits a sc v e n gs part is path in
    let r = root-stands e w s a sc v bits stands names (takes-Signal e n a is) h.width in
    (h.whole, r.0, subst (λ (hs : List Given). SpotNames (all_names hs sc) s sc) (sym h.none) r.1)

pub local-stands : (e : Expr) (n : ℕ) (gs : List Given) (w : ℕ) (s : Spot) → e.form ≡ V.Local n → StandsWhole s → NamesNothing s → BaseStands e gs w s
local-stands e n gs w s is stands names a sc v bits part small room typed path =
    let h = of-Local (FitsAt w) bits a sc v e n gs part is path in
    let r = root-stands e w s a sc v bits stands names (takes-Local e n a is) h.width in
    (h.whole, r.0, subst (λ (hs : List Given). SpotNames (all_names hs sc) s sc) (sym h.none) r.1)

-- members
pub member-stands : (e from : Expr) (k : ℕ) (gs : List Given) (w : ℕ) (old s : Spot) → e.form ≡ V.Member from k → StandsAt from gs None w old → SpotsMember old from.of k s → NamesOn old s → BaseStands e gs w s
member-stands e from k gs w old s is stands spots on a sc v bits part small room typed path =
    let h = of-Member (FitsAt w) bits a sc v e from k gs part is path in
    let t = takes-Member e from k a is typed in
    let own = steady w bits a sc v from gs false h.rest t.typed in
    let r = stands a sc v bits small room t.typed h.rest in (
      h.whole,
      spots (meaning e) (meaning from) a w bits sc v small (heads from).kind t.step t.part own.some (stays-of ((meaning from).window a) (S.wide (meaning from)) own.tight) r.0,
      on (all_names gs sc) sc r.1,
    )

-- elements
chosen-names : (ns : List ℕ) (g : Given) (s : Spot) (sc : Scope) → NamesChosen ns g s sc → SpotNames (ns ++ given_names g sc) s sc
chosen-names ns (G.Known None) s sc h = h (ns ++ [])
chosen-names ns (G.Known (Some k)) s sc h = subst (λ (l : List ℕ). SpotNames l s sc) (sym (append-nil ns)) h
chosen-names ns (G.Lowered x d) s sc h = h

pub first-same : (g h : Given) (gs hs : List Given) → g ∷ gs ≡ h ∷ hs → (g ≡ h) × (gs ≡ hs)
first-same g h gs hs e = (cc, cc)

pub index-stands : (e from i : Expr) (g : Given) (gs : List Given) (w : ℕ) (s : Spot) → e.form ≡ V.Index from i → StandsAt from gs (Some g) w s → BaseStands e (g ∷ gs) w s
index-stands e from i g gs w s is stands a sc v bits part small room typed path =
    let h = of-Index (FitsAt w) bits a sc v e from i (g ∷ gs) part is path in
    let t = takes-Index e from i a is typed in
    let same = first-same g h.given gs h.others h.all in
    let r = stands (meaning e) a sc v bits h.inner (P.index_of (meaning i) a) small room t.typed
    (subst (λ (l : List Given). Indexed w bits a sc v from l h.inner) (sym same.1) h.rest)
    (subst (λ (x : Given). FitsAt w h.inner x (layout from.of)) (sym same.0) h.fits)
    (subst (λ (x : Given). IsGiven x (P.index_of (meaning i) a) sc v) (sym same.0) h.number)
    (record { wide = t.wide; picks = λ j less. ap (λ (p : Window). picked p j) t.step.window }) in
    (h.whole, r.0, chosen-names (all_names gs sc) g s sc r.1)

-- and from what stands somewhere if it does
pub stands-from : (e : Expr) (gs : List Given) (g : Option Given) (w : ℕ) (r : Result Spot AllocError) (s : Spot) → IfOk r (BaseStands e gs w) → ChoosesFrom r e.of g w s → StandsAt e gs g w s
stands-from e gs g w (Ok old) s base chooses = from-base e gs g w old s base chooses
stands-from e gs g w (Err x) s base chooses = absurd chooses

pub member-base : (e from : Expr) (k : ℕ) (gs : List Given) (w : ℕ) (r q : Result Spot AllocError) → e.form ≡ V.Member from k → IfOk r (StandsAt from gs None w) → IfOk q (IsMemberFrom r from.of k) → IfOk q (BaseStands e gs w)
member-base e from k gs w r (Err x) is stands made = tt
member-base e from k gs w (Err y) (Ok s) is stands made = absurd made
member-base e from k gs w (Ok old) (Ok s) is stands made = member-stands e from k gs w old s is stands made.0 made.1

pub index-base : (e from i : Expr) (g : Given) (gs : List Given) (w : ℕ) (r : Result Spot AllocError) → e.form ≡ V.Index from i → IfOk r (StandsAt from gs (Some g) w) → IfOk r (BaseStands e (g ∷ gs) w)
index-base e from i g gs w (Ok s) is stands = index-stands e from i g gs w s is stands
index-base e from i g gs w (Err x) is stands = tt

-- part-selects with known bounds
step-tight : (e from : Expr) (a : Around) → (own : Steady (meaning from) a) → IsTight ((meaning from).window a) (count_of (layout from.of).left (layout from.of).right * length (layout from.of).element.two_state)
step-tight e from a own =
    let kind = (heads from).kind in
    let all = (whole-of from own.some).elements in
    subst (λ (l : Layout). IsTight ((meaning from).window a) (count_of l.left l.right * length l.element.two_state)) kind (subst (IsTight ((meaning from).window a)) (sym all) own.tight)

module _ (e from : Expr) (a : Around) (d : S.Meaning) (left right : ℤ) (of : IsPartOf (layout e.of) (layout from.of) left right) (t : IsStep (meaning e) (meaning from) a (between (meaning from).of left right))
    (own : Steady (meaning from) a) (z : Option ℤ) (is : IsElementOf d (meaning e) a z) where
  part-wide : S.wide d ≡ length (meaning from).of.element.two_state
  part-wide =
      is.wide ∙ ap (λ (l : Layout). length l.element.two_state) (heads e).kind ∙ of.element ∙ sym (ap (λ (l : Layout). length l.element.two_state) (heads from).kind)

  pub part-element : IsElementOf d (meaning from) a (kept left right z)
  part-element = record {
    wide = part-wide;
    picks = λ j less.
        is.picks j less
        ∙ ap (λ (p : Window). picked (element_of (meaning e).of z p) j) t.window
        ∙ (λ i. picked (element_of ((heads e).kind i) z (between ((heads from).kind i) left right ((meaning from).window a))) j)
        ∙ through-part (layout from.of) (layout e.of) ((meaning from).window a) (step-tight e from a own) left right of z j (let wide = is.wide ∙ ap (λ (l : Layout). length l.element.two_state) (heads e).kind ∙ of.element in omega arith)
        ∙ sym (ap (λ (l : Layout). picked (element_of l (kept left right z) ((meaning from).window a)) j) (heads from).kind);
  }

pub part-some : (e from : Expr) (left right : ℤ) (gs : List Given) (g : Given) (w : ℕ) (s : Spot) → e.form ≡ V.Part from left right → StandsAt from gs (Some (kept_given left right g)) w s → StandsAt e gs (Some g) w s
part-some e from left right gs (G.Lowered x n) w s is stands d a sc v bits part z small room typed path fits given of =
    let h = of-Part (FitsAt w) bits a sc v e from left right gs part is path in
    absurd (subst (λ b. FitsAt w b (G.Lowered x n) (layout e.of)) h.is_part fits)
part-some e from left right gs (G.Known k) w s is stands d a sc v bits part z small room typed path fits given of =
    let h = of-Part (FitsAt w) bits a sc v e from left right gs part is path in
    let t = takes-Part e from left right a is typed in
    let own = steady w bits a sc v from gs h.inner h.rest t.typed in
    let r = stands d a sc v bits h.inner (kept left right z) small room t.typed h.rest tt (ap (kept left right) given) (part-element e from a d left right h.typed t.step own z of) in
    (r.0, by k r.1)
  where
    by : (y : Option ℤ) → NamesChosen (all_names gs sc) (G.Known (kept left right y)) s sc → NamesChosen (all_names gs sc) (G.Known y) s sc
    by None n = n
    by (Some k) n = within (kept left right (Some k)) n
      where
        within : (x : Option ℤ) → NamesChosen (all_names gs sc) (G.Known x) s sc → SpotNames (all_names gs sc) s sc
        within None m = m (all_names gs sc)
        within (Some l) m = m

-- of a part-select itself nothing is said
pub part-none : (e from : Expr) (left right : ℤ) (gs : List Given) (w : ℕ) (s : Spot) → e.form ≡ V.Part from left right → StandsAt e gs None w s
part-none e from left right gs w s is a sc v bits small room typed path =
    let h = of-Part (FitsAt w) bits a sc v e from left right gs false is path in
    absurd (true≢false (sym h.is_part))

-- and by an index
module _ (e from i : Expr) (a : Around) (d : S.Meaning) (n : ℕ) (up : Bool) (of : IsSlideOf (layout e.of) (layout from.of) n)
    (t : IsStep (meaning e) (meaning from) a (slide (meaning from).of up n (P.index_of (meaning i) a))) (own : Steady (meaning from) a) (z : Option ℤ) (is : IsElementOf d (meaning e) a z) where
  pub slide-element : IsElementOf d (meaning from) a (gone_on (falls (layout from.of)) up n (P.index_of (meaning i) a) z)
  slide-element = record {
    wide = is.wide ∙ ap (λ (l : Layout). length l.element.two_state) (heads e).kind ∙ of.element ∙ sym (ap (λ (l : Layout). length l.element.two_state) (heads from).kind);
    picks = λ j less.
        is.picks j less
        ∙ ap (λ (p : Window). picked (element_of (meaning e).of z p) j) t.window
        ∙ (λ k. picked (element_of ((heads e).kind k) z (slide ((heads from).kind k) up n (P.index_of (meaning i) a) ((meaning from).window a))) j)
        ∙ through-slide (layout from.of) (layout e.of) ((meaning from).window a) (step-tight e from a own) up n of (P.index_of (meaning i) a) z j
        (let wide = is.wide ∙ ap (λ (l : Layout). length l.element.two_state) (heads e).kind ∙ of.element in omega arith)
        ∙ sym (ap (λ (l : Layout). picked (element_of l (gone_on (falls (layout from.of)) up n (P.index_of (meaning i) a) z) ((meaning from).window a)) j) (heads from).kind);
  }

-- an index that is moved
moved-twice : (y : Option ℤ) (d f : ℤ) → moved_by (moved_by y d) f ≡ moved_by y (d +ℤ f)
moved-twice None d f = refl
moved-twice (Some k) d f = ap Some (sums k d f)
  where
    sums : (x y z : ℤ) → (x +ℤ y) +ℤ z ≡ x +ℤ (y +ℤ z)
    sums x y z = omega (arith, ints)

pub moved-given : (g : Given) (f : ℤ) (z : Option ℤ) (sc : Scope) (v : Valuation) → IsGiven g z sc v → IsGiven (moved_given g f) (moved_by z f) sc v
moved-given (G.Known k) f z sc v h = ap (λ y. moved_by y f) h
moved-given (G.Lowered x d) f z sc v (y, number, moved) = (y, number, sym (moved-twice y d f) ∙ ap (λ k. moved_by k f) moved)

moved-names : (ns : List ℕ) (g : Given) (f : ℤ) (s : Spot) (sc : Scope) → NamesChosen ns (moved_given g f) s sc → SpotNames (ns ++ given_names g sc) s sc
moved-names ns (G.Known None) f s sc h = h (ns ++ [])
moved-names ns (G.Known (Some k)) f s sc h = subst (λ (l : List ℕ). SpotNames l s sc) (sym (append-nil ns)) h
moved-names ns (G.Lowered x d) f s sc h = h

module _ (e from i : Expr) (n : ℕ) (up : Bool) (base : Given) (gs : List Given) (w : ℕ) (s : Spot) (is : e.form ≡ V.Slide from i n up) where
  abbrev down : Bool
  down = falls (layout from.of)

  element-on : (b : Bool) (k : ℤ) → (int_le (pos 0) k && int_lt k (pos n)) ≡ b → StandsAt from gs (Some (cond b (moved_given base (far_from down up n k)) (G.Known None))) w s
      → StandsAt e (base ∷ gs) (Some (G.Known (Some k))) w s
  element-on true k test stands d a sc v bits part z small room typed path fits given of =
      let h = of-Slide (FitsAt w) bits a sc v e from i n up (base ∷ gs) part is path in
      let t = takes-Slide e from i n up a is typed in
      let same = first-same base h.given gs h.others h.all in
      let rest = subst (λ (l : List Given). Indexed w bits a sc v from l h.inner) (sym same.1) h.rest in
      let own = steady w bits a sc v from gs h.inner rest t.typed in
      let number = subst (λ (x : Given). IsGiven x (P.index_of (meaning i) a) sc v) (sym same.0) h.number in
      let to = slide-element e from i a d n up h.typed t.step own z of in
      let at = gone down (P.index_of (meaning i) a) z given in
      let r = stands d a sc v bits h.inner (moved_by (P.index_of (meaning i) a) (far_from down up n k)) small room t.typed rest
      (subst (λ (x : Given). FitsAt w h.inner (moved_given x (far_from down up n k)) (layout from.of)) (sym same.0) (h.fits k test))
      (moved-given base (far_from down up n k) (P.index_of (meaning i) a) sc v number)
      (subst (IsElementOf d (meaning from) a) at to) in
      (r.0, moved-names (all_names gs sc) base (far_from down up n k) s sc r.1)
    where
      gone : (f : Bool) (y x : Option ℤ) → Some k ≡ x → gone_on f up n y x ≡ moved_by y (far_from f up n k)
      gone f None x same = ap (gone_on f up n None) (sym same)
      gone f (Some y) x same = ap (gone_on f up n (Some y)) (sym same) ∙ ap (λ b. cond b (Some (y +ℤ far_from f up n k)) None) test
  element-on false k test stands d a sc v bits part z small room typed path fits given of =
      let h = of-Slide (FitsAt w) bits a sc v e from i n up (base ∷ gs) part is path in
      let t = takes-Slide e from i n up a is typed in
      let same = first-same base h.given gs h.others h.all in
      let rest = subst (λ (l : List Given). Indexed w bits a sc v from l h.inner) (sym same.1) h.rest in
      let own = steady w bits a sc v from gs h.inner rest t.typed in
      let to = slide-element e from i a d n up h.typed t.step own z of in
      let r = stands d a sc v bits h.inner None small room t.typed rest tt refl (subst (IsElementOf d (meaning from) a) (gone down (P.index_of (meaning i) a) z given) to) in
      (r.0, r.1 (all_names (base ∷ gs) sc))
    where
      gone : (f : Bool) (y x : Option ℤ) → Some k ≡ x → gone_on f up n y x ≡ None
      gone f None x same = ap (gone_on f up n None) (sym same)
      gone f (Some y) x same = ap (gone_on f up n (Some y)) (sym same) ∙ ap (λ b. cond b (Some (y +ℤ far_from f up n k)) None) test

  pub slide-some : (g : Given) → StandsAt from gs (Some (given_on down up n base g)) w s → StandsAt e (base ∷ gs) (Some g) w s
  slide-some (G.Lowered x m) stands = λ d a sc v bits part z small room typed path fits given of.
      let h = of-Slide (FitsAt w) bits a sc v e from i n up (base ∷ gs) part is path in
      absurd (subst (λ b. FitsAt w b (G.Lowered x m) (layout e.of)) h.is_part fits)
  slide-some (G.Known (Some k)) stands = element-on (int_le (pos 0) k && int_lt k (pos n)) k refl stands
  slide-some (G.Known None) stands = λ d a sc v bits part z small room typed path fits given of.
      let h = of-Slide (FitsAt w) bits a sc v e from i n up (base ∷ gs) part is path in
      let t = takes-Slide e from i n up a is typed in
      let same = first-same base h.given gs h.others h.all in
      let rest = subst (λ (l : List Given). Indexed w bits a sc v from l h.inner) (sym same.1) h.rest in
      let own = steady w bits a sc v from gs h.inner rest t.typed in
      let to = slide-element e from i a d n up h.typed t.step own z of in
      let r = stands d a sc v bits h.inner None small room t.typed rest tt refl (subst (λ y. IsElementOf d (meaning from) a (gone_on down up n (P.index_of (meaning i) a) y)) (sym given) to) in
      (r.0, r.1)

pub slide-none : (e from i : Expr) (n : ℕ) (up : Bool) (gs : List Given) (w : ℕ) (s : Spot) → e.form ≡ V.Slide from i n up → StandsAt e gs None w s
slide-none e from i n up gs w s is a sc v bits small room typed path =
    let h = of-Slide (FitsAt w) bits a sc v e from i n up gs false is path in
    absurd (true≢false (sym h.is_part))

-- what is no path, or lacks an index
pub empty-index : (e from i : Expr) (g : Option Given) (w : ℕ) (s : Spot) → e.form ≡ V.Index from i → StandsAt e [] g w s
empty-index e from i None w s is = λ a sc v bits small room typed path.
    let h = of-Index (FitsAt w) bits a sc v e from i [] false is path in
    absurd (none h.given h.others h.all)
  where
    none : (x : Given) (xs : List Given) → [] ≡ x ∷ xs → ⊥
    none x xs f = cc
empty-index e from i (Some g) w s is = λ d a sc v bits part z small room typed path fits given of.
    let h = of-Index (FitsAt w) bits a sc v e from i [] part is path in
    absurd (none h.given h.others h.all)
  where
    none : (x : Given) (xs : List Given) → [] ≡ x ∷ xs → ⊥
    none x xs f = cc

pub empty-slide : (e from i : Expr) (n : ℕ) (up : Bool) (g : Option Given) (w : ℕ) (s : Spot) → e.form ≡ V.Slide from i n up → StandsAt e [] g w s
empty-slide e from i n up None w s is = λ a sc v bits small room typed path.
    let h = of-Slide (FitsAt w) bits a sc v e from i n up [] false is path in
    absurd (none h.given h.others h.all)
  where
    none : (x : Given) (xs : List Given) → [] ≡ x ∷ xs → ⊥
    none x xs f = cc
empty-slide e from i n up (Some g) w s is = λ d a sc v bits part z small room typed path fits given of.
    let h = of-Slide (FitsAt w) bits a sc v e from i n up [] part is path in
    absurd (none h.given h.others h.all)
  where
    none : (x : Given) (xs : List Given) → [] ≡ x ∷ xs → ⊥
    none x xs f = cc

-- what may want memory
pub spot-map : (r : Result Spot AllocError) (P Q : Spot → Type 0) → ((s : Spot) → P s → Q s) → IfOk r P → IfOk r Q
spot-map (Ok s) P Q f h = f s h
spot-map (Err x) P Q f h = tt
