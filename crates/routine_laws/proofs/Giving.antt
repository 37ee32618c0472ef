-- What is said of whole typings that are put together, whatever functions are known.
use Rattle.std.proofs.Common.{◌≡◌, List, [], ◌∷◌, refl, subst}
use Rattle.std.specs.Prelude.{Ok, Err}
use Rattle.sv_types.specs.declared.statement.Function.{Function}
use Rattle.expr_type.specs.Breaks.{Breaks}
use Rattle.expr_type.specs.Typings.{Checked, Typing, whole, broken, rule, applied, checked, beside, both, all}
use Rattle.typing_fits.proofs.Contexts.{joined-both}

-- what is whole has a property
abbrev pub Gives : {A : Type 0} → (A → Type 0) → Typing A → Type 0
Gives {A = A} P x = (fs : List Function) (a : A) → (x fs).result ≡ Ok a → P a

abbrev ok : {A : Type 0} → A → Checked A
ok a = Ok a

abbrev none_whole : {A : Type 0} → Breaks → Checked A
none_whole b = Err b

pub one-whole : {A : Type 0} (P : A → Type 0) (a b : A) → ok a ≡ Ok b → P a → P b
one-whole P a b h p = let e : a ≡ b = cc in subst P e p

pub none-given : {A : Type 0} (P : A → Type 0) (b : Breaks) (a : A) → none_whole {A = A} b ≡ Ok a → P a
none-given P b a h = absurd (cc)

pub whole-gives : {A : Type 0} (P : A → Type 0) (a : A) → P a → Gives P (whole a)
whole-gives P a p fs b h = one-whole P a b h p

pub broken-gives : {A : Type 0} (P : A → Type 0) (b : Breaks) → Gives P (broken b)
broken-gives P b fs a h = none-given P b a h

pub rule-gives : {A : Type 0} (P : A → Type 0) (r : Checked A) → ((a : A) → r ≡ Ok a → P a) → Gives P (rule r)
rule-gives P r p fs a h = p a h

applied-gives : {A B : Type 0} (P : A → Type 0) (R : B → Type 0) (r : Checked A) (f : A → Typing B) (gs : List Function) → ((a : A) → r ≡ Ok a → P a) → ((a : A) → P a → Gives R (f a))
    → (b : B) → (applied r f gs).result ≡ Ok b → R b
applied-gives P R (Ok a) f gs p g b h = g a (p a refl) gs b h
applied-gives P R (Err x) f gs p g b h = none-given R x b h

pub checked-gives : {A B : Type 0} (P : A → Type 0) (R : B → Type 0) (x : Typing A) (f : A → Typing B) → Gives P x → ((a : A) → P a → Gives R (f a)) → Gives R (checked x f)
checked-gives P R x f p g fs b h = applied-gives P R (x fs).result f (x fs).functions (p fs) g b h

pub both-gives : {A B C : Type 0} (P : A → Type 0) (Q : B → Type 0) (R : C → Type 0) (x : Typing A) (y : Typing B) (f : A → B → Typing C) → Gives P x → Gives Q y
    → ((a : A) (b : B) → P a → Q b → Gives R (f a b)) → Gives R (both x y f)
both-gives {A = A} {B = B} P Q R x y f p q g =
    checked-gives (λ (c : A × B). P c.0 × Q c.1) R (beside x y) (λ c. f c.0 c.1) sides (λ c s. g c.0 c.1 s.0 s.1)
  where
    sides : Gives (λ (c : A × B). P c.0 × Q c.1) (beside x y)
    sides fs c h = (let j = joined-both (x fs).result (y (x fs).functions).result c h in (p fs c.0 j.left, q (x fs).functions c.1 j.right))

-- nothing is said
abbrev pub Anything : {A : Type 0} → A → Type 0
Anything a = Unit {0}

pub anything : {A : Type 0} (x : Typing A) → Gives Anything x
anything x fs a h = tt

-- lists of parts
abbrev pub AllGive : {A : Type 0} → (A → Type 0) → List (Typing A) → Type 0
AllGive P [] = Unit {0}
AllGive P (x ∷ xs) = Gives P x × AllGive P xs

abbrev pub Each : {A : Type 0} → (A → Type 0) → List A → Type 0
Each P [] = Unit {0}
Each P (a ∷ as') = P a × Each P as'

pub all-gives : {A : Type 0} (P : A → Type 0) (xs : List (Typing A)) → AllGive P xs → Gives (Each P) (all xs)
all-gives P [] p = whole-gives (Each P) [] tt
all-gives P (x ∷ xs) p = both-gives P (Each P) (Each P) x (all xs) (λ a as'. whole (a ∷ as')) p.0 (all-gives P xs p.1) (λ a as' q r. whole-gives (Each P) (a ∷ as') (q, r))
