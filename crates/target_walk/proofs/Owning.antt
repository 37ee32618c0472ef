-- What the targets of a path are made of, step by step.
use Rattle.std.proofs.Common.{◌≡◌, ℕ, Bool, true, false, ◌&&◌, cond, ℤ, List, [], ◌∷◌, ◌++◌, Option, Some, None, Result, Ok, Err, IfOk, OnOk, sym, subst}
use Rattle.std.specs.Prelude.{int_le, int_lt, pos}
use Rattle.std.specs.declared.alloc.AllocError.{AllocError}
use Rattle.v_tree.specs.Names.{Name}
use Rattle.path_flatten.specs.declared.offsets.Index.{Index}
use Rattle.target_laws.specs.Elements.{far_from}
use Rattle.target_flatten.specs.declared.aims.Aim.{Aim}
use Rattle.target_flatten.specs.declared.spots.Spot.{Spot}
use Rattle.target_flatten.specs.declared.writes.Image.{Image}
use Rattle.target_flatten.specs.declared.writes.Write.{Write}
use Rattle.target_flatten.specs.Owning.{IsOwn, IsPlain, IsSteady, StaysSteady, OwnAim, PlainAim, AllOwn, AllPlain, PlainWrites, writes_made}
use Rattle.target_walk.specs.declared.given.Given.{Given}
use Rattle.target_walk.specs.declared.given.Given.TheVariants as G
use Rattle.target_walk.specs.Giving.{moved_given, kept_given, given_on}
use Rattle.target_walk.specs.declared.never.Targets.{Targets}
use Rattle.target_walk.specs.Naming.{has_lowered, NamesFrom}
use Rattle.target_walk.specs.Owning.{IsFixed, IsFixedIf, AllFixed, SteadyElement, SteadyChosen, SteadyMember, SteadyAt, KeepsOwn, KeepsPlain, KeepsPlainOf, PlainOf, BareOf}

-- known indices
pub fixed-kept : (left right : ℤ) (g : Given) → IsFixed (kept_given left right g)
fixed-kept left right (G.Known k) = tt
fixed-kept left right (G.Lowered x d) = tt

fixed-moved : (g : Given) (d : ℤ) → IsFixed g → IsFixed (moved_given g d)
fixed-moved (G.Known k) d h = tt
fixed-moved (G.Lowered x e) d h = h

pub fixed-on : (falls up : Bool) (n : ℕ) (base g : Given) → IsFixed base → IsFixed (given_on falls up n base g)
fixed-on falls up n base (G.Known None) h = tt
fixed-on falls up n base (G.Known (Some j)) h = by (int_le (pos 0) j && int_lt j (pos n))
  where
    by : (b : Bool) → IsFixed (cond b (moved_given base (far_from falls up n j)) (G.Known None))
    by true = fixed-moved base (far_from falls up n j) h
    by false = tt
fixed-on falls up n base (G.Lowered x d) h = tt

pub none-lowered : (gs : List Given) → AllFixed gs → has_lowered gs ≡ false
none-lowered [] h = λ i. false
none-lowered (G.Known k ∷ gs) h = none-lowered gs h.1
none-lowered (G.Lowered x d ∷ gs) h = absurd h.0

-- what stands somewhere, by what each arm of the walk gives
pub moved-element : (old : Spot) (x : Index) (d : ℤ) (r : Result Spot AllocError) → IfOk r (SteadyElement old (G.Lowered x d))
moved-element old x d (Ok s) = λ h. absurd h
moved-element old x d (Err y) = tt

pub chosen-known : (r : Result Spot AllocError) (old : Spot) (g : Option Given) (s : Spot) → r ≡ Ok old → (IsFixedIf g → StaysSteady old s) → SteadyChosen r g s
chosen-known r old g s is h = subst (λ q. SteadyChosen q g s) (sym is) h

pub chosen-all : (r : Result Spot AllocError) → IfOk r (SteadyChosen r None)
chosen-all (Ok s) = λ h k. k
chosen-all (Err x) = tt

pub member-known : (r : Result Spot AllocError) (old s : Spot) → r ≡ Ok old → StaysSteady old s → SteadyMember r s
member-known r old s is h = subst (λ q. SteadyMember q s) (sym is) h

steady-map : (r : Result Spot AllocError) (P Q : Spot → Type 0) → ((s : Spot) → P s → Q s) → IfOk r P → IfOk r Q
steady-map (Ok s) P Q f h = f s h
steady-map (Err x) P Q f h = tt

module _ (gs : List Given) (g : Option Given) (r : Result Spot AllocError) where
  pub root-steady : (s : Spot) → IsSteady s → IfOk r (SteadyChosen (Ok s) g) → IfOk r (SteadyAt gs g)
  root-steady s root chosen = steady-map r (SteadyChosen (Ok s) g) (SteadyAt gs g) (λ x h all one. h one root) chosen

  chosen-at : (p : Result Spot AllocError) (x : Spot) → IfOk p (λ s. AllFixed gs → IsSteady s) → SteadyChosen p g x → SteadyAt gs g x
  chosen-at (Ok old) x stands chosen all one = chosen one (stands all)
  chosen-at (Err y) x stands chosen all one = absurd chosen

  chosen-steady : (p : Result Spot AllocError) → IfOk p (λ s. AllFixed gs → IsSteady s) → IfOk r (SteadyChosen p g) → IfOk r (SteadyAt gs g)
  chosen-steady p stands chosen = steady-map r (SteadyChosen p g) (SteadyAt gs g) (λ x h. chosen-at p x stands h) chosen

  member-at : (p : Result Spot AllocError) (x : Spot) → IfOk p (SteadyAt gs None) → SteadyMember p x → AllFixed gs → IsSteady x
  member-at (Ok old) x stands made all = made (stands all tt)
  member-at (Err y) x stands made all = absurd made

  pub member-steady : (p q : Result Spot AllocError) → IfOk p (SteadyAt gs None) → IfOk q (SteadyMember p) → IfOk r (SteadyChosen q g) → IfOk r (SteadyAt gs g)
  member-steady p q stands made chosen = chosen-steady q (steady-map q (SteadyMember p) (λ s. AllFixed gs → IsSteady s) (λ x h. member-at p x stands h) made) chosen

  pub index-steady : (last given : Given) (rest : List Given) (p : Result Spot AllocError) → gs ≡ last ∷ rest → given ≡ last → IfOk p (SteadyAt rest (Some given)) → IfOk r (SteadyChosen p g)
      → IfOk r (SteadyAt gs g)
  index-steady last given rest p all same stands chosen =
      chosen-steady p
      (steady-map p (SteadyAt rest (Some given)) (λ s. AllFixed gs → IsSteady s)
      (λ s h fixed. let parts = subst AllFixed all fixed in h parts.1 (subst IsFixed (sym same) parts.0)) stands) chosen

  pub part-steady : (left right : ℤ) (asked inner : Given) → inner ≡ kept_given left right asked → IfOk r (SteadyAt gs (Some inner)) → IfOk r (SteadyAt gs g)
  part-steady left right asked inner same stands =
      steady-map r (SteadyAt gs (Some inner)) (SteadyAt gs g) (λ s h fixed one. h fixed (subst IsFixed (sym same) (fixed-kept left right asked))) stands

  pub slide-steady : (falls up : Bool) (n : ℕ) (base asked inner : Given) (rest : List Given) → gs ≡ base ∷ rest → inner ≡ given_on falls up n base asked → IfOk r (SteadyAt rest (Some inner))
      → IfOk r (SteadyAt gs g)
  slide-steady falls up n base asked inner rest all same stands =
      steady-map r (SteadyAt rest (Some inner)) (SteadyAt gs g)
      (λ s h fixed one. let parts = subst AllFixed all fixed in h parts.1 (subst IsFixed (sym same) (fixed-on falls up n base asked parts.0))) stands

pub own-more : (name : Name) (bits : ℕ) (xs : List Write) (x : Write) → IsOwn name bits x.to → AllOwn name bits xs → AllOwn name bits (xs ++ x ∷ [])
own-more name bits [] x own h = (own, tt)
own-more name bits (y ∷ xs) x own h = (h.0, own-more name bits xs x own h.1)

pub plain-more : (name : Name) (xs : List Write) (x : Write) → IsPlain name x.guard x.to → AllPlain name xs → AllPlain name (xs ++ x ∷ [])
plain-more name [] x plain h = (plain, tt)
plain-more name (y ∷ xs) x plain h = (h.0, plain-more name xs x plain h.1)

-- one target more, and what begins with none
pub keeps-own : (im : Image) (old new : List Write) (low n : ℕ) (x : Aim) → new ≡ old ++ writes_made (Some x) low n → OwnAim im.name im.bits (Some x) → KeepsOwn im old new
keeps-own im old new low n x is own h =
    subst (AllOwn im.name im.bits) (sym is) (own-more im.name im.bits old (record { guard = x.guard; to = x.to; low = low; width = n }) own h)

pub keeps-plain : (im : Image) (s : Spot) (old new : List Write) (low n : ℕ) (x : Aim) → new ≡ old ++ writes_made (Some x) low n → PlainAim im.name s (Some x) → KeepsPlain im s old new
keeps-plain im s old new low n x is plain steady h =
    subst (AllPlain im.name) (sym is) (plain-more im.name old (record { guard = x.guard; to = x.to; low = low; width = n }) (plain steady) h)

pub plain-element : (im : Image) (gs : List Given) (k : Option ℤ) (s : Spot) (old new : List Write) (r : Result Unit AllocError) → SteadyAt gs (Some (G.Known k)) s → OnOk r (KeepsPlain im s old new)
    → OnOk r (KeepsPlainOf im gs old new)
plain-element im gs k s old new (Ok u) stands keeps = λ fixed. keeps (stands fixed tt)
plain-element im gs k s old new (Err x) stands keeps = tt

-- what is written where a path stands
pub plain-at : (im : Image) (gs : List Given) (s : Spot) (r : Result (List Write) AllocError) → SteadyAt gs None s → IfOk r (PlainWrites im.name s) → IfOk r (PlainOf im gs)
plain-at im gs s (Ok xs) stands plain = λ fixed. plain (stands fixed tt)
plain-at im gs s (Err x) stands plain = tt

-- and what is named besides
pub bare-of : (im : Image) (gs : List Given) (old : Result (List Write) AllocError) (r : Result Targets AllocError) → IfOk old (PlainOf im gs) → IfOk r (NamesFrom gs old) → IfOk r (λ x. AllFixed gs → x.named ≡ None)
    → IfOk r (BareOf im gs)
bare-of im gs (Ok xs) (Ok r) plain names named = λ fixed. record { plain = subst (AllPlain im.name) (sym names.0) (plain fixed); named = named fixed }
bare-of im gs (Err x) (Ok r) plain names named = absurd names
bare-of im gs old (Err x) plain names named = tt

pub own-of : (im : Image) (gs : List Given) (old : Result (List Write) AllocError) (r : Result Targets AllocError) → IfOk old (AllOwn im.name im.bits) → IfOk r (NamesFrom gs old)
    → IfOk r (λ x. AllOwn im.name im.bits x.writes)
own-of im gs (Ok xs) (Ok r) own names = subst (AllOwn im.name im.bits) (sym names.0) own
own-of im gs (Err x) (Ok r) own names = absurd names
own-of im gs old (Err x) own names = tt
