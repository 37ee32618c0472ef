-- Lists of what repeated parts mean.
use Rattle.std.proofs.Common.{◌≡◌, ◌≤◌, ◌-◌, ℕ, max, Bool, true, false, not, ◌&&◌, if◌then◌else◌, List, [], ◌∷◌, ◌++◌, map, append-nil, Option, Some, None, refl, ap, ◌∙◌, arith}
use Rattle.std.specs.List.{list_all}
use Rattle.v_tree.specs.declared.parts.VPart.{VPart}
use Rattle.v_tree.specs.declared.statements.VCaseItem.{VCaseItem}
use Rattle.v_tree.specs.Grammatical.{Fit, all_fit, deepest, Form, all_of_form, deepest_form, no_default, one_default}
use Rattle.v_tree.specs.Parts.{with_first, or_else, all_of, first_of}
use Rattle.v_tree.specs.Reading.{nesting_limit}
use Rattle.v_tree.proofs.Fits.{form_of_case}
use Rattle.v_tree.proofs.Induction.{Each}
use Rattle.v_grammar.proofs.Meant.{FitsAt, AllAt, CaseAt, CasesAt}

pub both : (a b : Bool) → a ≡ true → b ≡ true → (a && b) ≡ true
both true b f g = g
both false b f g = f

pub three : (a b c : Bool) → a ≡ true → b ≡ true → c ≡ true → (a && b && c) ≡ true
three a b c f g h = both (a && b) c (both a b f g) h

pub at-most-both : (a b n : ℕ) → a ≤ n → b ≤ n → max a b ≤ n
at-most-both a b n f g = grind arith

-- parts of another kind in front
pub past-first : {A B : Type 0} (kind : VPart → Option B) (mk : A → VPart) → ((x : A) → kind (mk x) ≡ None) → (xs : List A) (us : List VPart)
    → first_of kind (map mk xs ++ us) ≡ first_of kind us
past-first kind mk f [] us = refl
past-first kind mk f (x ∷ xs) us = ap (λ o. or_else o (first_of kind (map mk xs ++ us))) (f x) ∙ past-first kind mk f xs us

pub past-all : {A B : Type 0} (kind : VPart → Option B) (mk : A → VPart) → ((x : A) → kind (mk x) ≡ None) → (xs : List A) (us : List VPart)
    → all_of kind (map mk xs ++ us) ≡ all_of kind us
past-all kind mk f [] us = refl
past-all kind mk f (x ∷ xs) us = ap (λ o. with_first o (all_of kind (map mk xs ++ us))) (f x) ∙ past-all kind mk f xs us

-- parts of the kind itself
pub all-made : {A : Type 0} (kind : VPart → Option A) (mk : A → VPart) → ((x : A) → kind (mk x) ≡ Some x) → (xs : List A) (us : List VPart)
    → all_of kind (map mk xs ++ us) ≡ xs ++ all_of kind us
all-made kind mk f [] us = refl
all-made kind mk f (x ∷ xs) us = ap (λ o. with_first o (all_of kind (map mk xs ++ us))) (f x) ∙ ap (λ ys. x ∷ ys) (all-made kind mk f xs us)

pub made-alone : {A : Type 0} (kind : VPart → Option A) (mk : A → VPart) → ((x : A) → kind (mk x) ≡ Some x) → (xs : List A) (us : List VPart)
    → all_of kind us ≡ [] → all_of kind (map mk xs ++ us) ≡ xs
made-alone kind mk f xs us e = all-made kind mk f xs us ∙ ap (λ ys. xs ++ ys) e ∙ append-nil xs

pub each-test : {A : Type 0} (test : A → Bool) (Q : A → Type 0) → ((x : A) → Q x → test x ≡ true) → (xs : List A) → Each Q xs → list_all test xs ≡ true
each-test test Q f [] h = refl
each-test test Q f (x ∷ xs) h = both (test x) (list_all test xs) (f x h.0) (each-test test Q f xs h.1)

pub all-at : {A : Type 0} (e : ℕ) (g : A → Fit) (Q : A → Type 0) → ((x : A) → Q x → FitsAt e (g x)) → (xs : List A) → Each Q xs → AllAt e (map g xs)
all-at e g Q f [] h = record { fits = refl; depth = omega arith }
all-at e g Q f (x ∷ xs) h =
    let this = f x h.0 in
    let rest = all-at e g Q f xs h.1 in
    record {
      fits = both (g x).fits (all_fit (map g xs)) this.fits rest.fits;
      depth = at-most-both (g x).depth (deepest (map g xs)) (nesting_limit - e) this.depth rest.depth;
    }

pub more-at : (e : ℕ) (f : Fit) (fs : List Fit) → FitsAt e f → AllAt e fs → AllAt e (f ∷ fs)
more-at e f fs this rest = record {
  fits = both f.fits (all_fit fs) this.fits rest.fits;
  depth = at-most-both f.depth (deepest fs) (nesting_limit - e) this.depth rest.depth;
}

-- statements of a block
pub record FormsAt (e : ℕ) (fs : List Form) : Type 0 where
  pub fits : all_of_form fs ≡ true
  pub depth : deepest_form fs ≤ nesting_limit - e

pub more-forms : (e : ℕ) (f : Form) (fs : List Form) → f.fits ≡ true → f.depth ≤ nesting_limit - e → FormsAt e fs → FormsAt e (f ∷ fs)
more-forms e f fs this low rest = record {
  fits = both f.fits (all_of_form fs) this rest.fits;
  depth = at-most-both f.depth (deepest_form fs) (nesting_limit - e) low rest.depth;
}

pub no-forms : (e : ℕ) → FormsAt e []
no-forms e = record { fits = refl; depth = omega arith }

-- items of a `case`, of which at most one is a `default`
pub record ItemsAt (e : ℕ) (fs : List Form) : Type 0 where
  pub one : one_default fs ≡ true
  pub forms : FormsAt e fs

pub no-items : (e : ℕ) → ItemsAt e []
no-items e = record { one = refl; forms = no-forms e }

pub item-more : (e : ℕ) (f : Form) (fs : List Form) → CaseAt e false f → ItemsAt e fs → ItemsAt e (f ∷ fs)
item-more e f fs this rest = record {
  one = ap (λ b. if b then no_default fs else one_default fs) this.which ∙ rest.one;
  forms = more-forms e f fs this.fits this.depth rest.forms;
}

pub items-more : (e : ℕ) (Q : VCaseItem → Type 0) → ((c : VCaseItem) → Q c → CaseAt e false (form_of_case c)) → (cs ds : List VCaseItem) → Each Q cs
    → ItemsAt e (map form_of_case ds) → ItemsAt e (map form_of_case (cs ++ ds))
items-more e Q f [] ds h k = k
items-more e Q f (c ∷ cs) ds h k = item-more e (form_of_case c) (map form_of_case (cs ++ ds)) (f c h.0) (items-more e Q f cs ds h.1 k)

-- a `default` and items behind it
pub record PlainAt (e : ℕ) (fs : List Form) : Type 0 where
  pub none : no_default fs ≡ true
  pub forms : FormsAt e fs

pub plain-items : (e : ℕ) (Q : VCaseItem → Type 0) → ((c : VCaseItem) → Q c → CaseAt e false (form_of_case c)) → (cs : List VCaseItem) → Each Q cs
    → PlainAt e (map form_of_case cs)
plain-items e Q f [] h = record { none = refl; forms = no-forms e }
plain-items e Q f (c ∷ cs) h =
    let this = f c h.0 in
    let rest = plain-items e Q f cs h.1 in
    record {
      none = both (not (form_of_case c).default) (no_default (map form_of_case cs)) (ap (λ b. not b) this.which) rest.none;
      forms = more-forms e (form_of_case c) (map form_of_case cs) this.fits this.depth rest.forms;
    }

pub default-first : (e : ℕ) (f : Form) (fs : List Form) → CaseAt e true f → PlainAt e fs → CasesAt e (f ∷ fs)
default-first e f fs this rest =
    let forms = more-forms e f fs this.fits this.depth rest.forms in
    record { some = refl; one = ap (λ b. if b then no_default fs else one_default fs) this.which ∙ rest.none; fits = forms.fits; depth = forms.depth }

pub items-first : (e : ℕ) (f : Form) (fs : List Form) → CaseAt e false f → ItemsAt e fs → CasesAt e (f ∷ fs)
items-first e f fs this rest =
    let items = item-more e f fs this rest in
    record { some = refl; one = items.one; fits = items.forms.fits; depth = items.forms.depth }

pub items-of : (e : ℕ) (fs : List Form) → CasesAt e fs → ItemsAt e fs
items-of e fs h = record { one = h.one; forms = record { fits = h.fits; depth = h.depth } }
