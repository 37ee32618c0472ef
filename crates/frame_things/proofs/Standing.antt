-- What stands at the place of a declaration is what the declaration stands for.
use Rattle.std.proofs.Common.{◌≡◌, ℕ, zero, suc, ◌+◌, Bool, true, false, ◌&&◌, nat_eq, if◌then◌else◌, cond, List, [], ◌∷◌, Option, Some, None, refl, sym, ap, ◌∙◌, arith}
use Rattle.std.specs.Prelude.{slice_get}
use Rattle.std.specs.Option.{option_map}
use Rattle.std.specs.Str.{bytes_eq}
use Rattle.sv_types.specs.declared.frame.ParamType.{ParamType}
use Rattle.sv_types.specs.declared.frame.ParamValue.{ParamValue}
use Rattle.sv_types.specs.declared.frame.SignalId.{SignalId}
use Rattle.expr_type.specs.Names.{Thing, Signal, Constant, TypeName, value_in, type_in, signal_in, member_in, is_whole}
use Rattle.frame_things.specs.Places.{place_by, first_by, place_from}
use Rattle.frame_things.specs.Members.{is_member, member_from}
use Rattle.frame_things.specs.Finding.{value_number, type_number, IsValue, IsType, IsSignal, IsMember}

-- the place of the first thing that passes a test
nowhere_by : {T : Type 0} (x : T) (k : ℕ) (b : Bool) (o : Option ℕ) (r : Option T) → (o ≡ None → r ≡ None) → (if b then Some k else o) ≡ None → (if b then Some x else r) ≡ None
nowhere_by x k true o r rest e = let no : Some k ≡ None = e in absurd cc
nowhere_by x k false o r rest e = rest e

pub nowhere : {T : Type 0} (test : T → Bool) (k : ℕ) (xs : List T) → place_by test k xs ≡ None → first_by test xs ≡ None
nowhere test k [] e = refl
nowhere test k (x ∷ xs) e = nowhere_by x k (test x) (place_by test (suc k) xs) (first_by test xs) (nowhere test (suc k) xs) e

record Behind {T : Type 0} (ys : List T) (r : Option T) (k p : ℕ) : Type 0 where
  behind : ℕ
  place : p ≡ k + behind
  found : slice_get ys behind ≡ r

behind_by : {T : Type 0} (x : T) (xs : List T) (k p : ℕ) (b : Bool) (o : Option ℕ) (r : Option T) → (o ≡ Some p → Behind xs r (suc k) p)
    → (if b then Some k else o) ≡ Some p → Behind (x ∷ xs) (if b then Some x else r) k p
behind_by x xs k p true o r rest e =
    let is : Some k ≡ Some p = e in
    let same : k ≡ p = cc in
    record { behind = zero; place = omega arith; found = refl }
behind_by x xs k p false o r rest e =
    let later = rest e in
    record { behind = suc later.behind; place = omega (arith, later.place); found = later.found }

behind : {T : Type 0} (test : T → Bool) (k p : ℕ) (xs : List T) → place_by test k xs ≡ Some p → Behind xs (first_by test xs) k p
behind test k p [] e = absurd cc
behind test k p (x ∷ xs) e = behind_by x xs k p (test x) (place_by test (suc k) xs) (first_by test xs) (behind test (suc k) p xs) e

pub at-place : {T : Type 0} (test : T → Bool) (p : ℕ) (xs : List T) → place_by test 0 xs ≡ Some p → slice_get xs p ≡ first_by test xs
at-place test p xs e =
    let there = behind test 0 p xs e in
    let same : p ≡ there.behind = omega (arith, there.place) in
    ap (λ i. slice_get xs i) same ∙ there.found

-- the first ones with a number
first-value : (n : ℕ) (vs : List ParamValue) → value_in n vs ≡ option_map (λ (v : ParamValue). Constant v.of v.value) (first_by (λ (v : ParamValue). nat_eq (value_number v) n) vs)
first-value n [] = refl
first-value n (v ∷ vs) = by_test (nat_eq v.decl n) (value_in n vs) (first_by (λ (v : ParamValue). nat_eq (value_number v) n) vs) (first-value n vs)
  where
    by_test : (b : Bool) (t : Option Thing) (r : Option ParamValue) → t ≡ option_map (λ (v : ParamValue). Constant v.of v.value) r
        → cond b (Some (Constant v.of v.value)) t ≡ option_map (λ (v : ParamValue). Constant v.of v.value) (if b then Some v else r)
    by_test true t r e = refl
    by_test false t r e = e

first-type : (n : ℕ) (ts : List ParamType) → type_in n ts ≡ option_map (λ (t : ParamType). TypeName t.of) (first_by (λ (t : ParamType). nat_eq (type_number t) n) ts)
first-type n [] = refl
first-type n (v ∷ vs) = by_test (nat_eq v.decl n) (type_in n vs) (first_by (λ (t : ParamType). nat_eq (type_number t) n) vs) (first-type n vs)
  where
    by_test : (b : Bool) (t : Option Thing) (r : Option ParamType) → t ≡ option_map (λ (t : ParamType). TypeName t.of) r
        → cond b (Some (TypeName v.of)) t ≡ option_map (λ (t : ParamType). TypeName t.of) (if b then Some v else r)
    by_test true t r e = refl
    by_test false t r e = e

first-member : (n : ℕ) (name : List ℕ) (ss : List SignalId) → member_in n name ss ≡ first_by (is_member n name) ss
first-member n name [] = refl
first-member n name (s ∷ ss) = by_test (is_member n name s) (member_in n name ss) (first_by (is_member n name) ss) (first-member n name ss)
  where
    by_test : (b : Bool) (t r : Option SignalId) → t ≡ r → cond b (Some s) t ≡ (if b then Some s else r)
    by_test true t r e = refl
    by_test false t r e = e

whole : (m : List ℕ) → is_whole m ≡ bytes_eq m []
whole [] = refl
whole (c ∷ cs) = refl

first-signal : (n : ℕ) (ss : List SignalId) → signal_in n ss ≡ option_map (λ (s : SignalId). Signal s.signal s.of) (first_by (is_member n []) ss)
first-signal n [] = refl
first-signal n (s ∷ ss) =
    ap (λ b. cond (nat_eq s.decl n && b) (Some (Signal s.signal s.of)) (signal_in n ss)) (whole s.member)
    ∙ by_test (is_member n [] s) (signal_in n ss) (first_by (is_member n []) ss) (first-signal n ss)
  where
    by_test : (b : Bool) (t : Option Thing) (r : Option SignalId) → t ≡ option_map (λ (s : SignalId). Signal s.signal s.of) r
        → cond b (Some (Signal s.signal s.of)) t ≡ option_map (λ (s : SignalId). Signal s.signal s.of) (if b then Some s else r)
    by_test true t r e = refl
    by_test false t r e = e

-- what isn't at any place stands for nothing
pub no-value : (n : ℕ) (vs : List ParamValue) → place_from value_number 0 n vs ≡ None → value_in n vs ≡ None
no-value n vs e = first-value n vs ∙ ap (λ o. option_map (λ (v : ParamValue). Constant v.of v.value) o) (nowhere (λ (v : ParamValue). nat_eq (value_number v) n) 0 vs e)

pub no-type : (n : ℕ) (ts : List ParamType) → place_from type_number 0 n ts ≡ None → type_in n ts ≡ None
no-type n ts e = first-type n ts ∙ ap (λ o. option_map (λ (t : ParamType). TypeName t.of) o) (nowhere (λ (t : ParamType). nat_eq (type_number t) n) 0 ts e)

pub no-member : (n : ℕ) (name : List ℕ) (ss : List SignalId) → member_from 0 n name ss ≡ None → member_in n name ss ≡ None
no-member n name ss e = first-member n name ss ∙ nowhere (is_member n name) 0 ss e

pub no-signal : (n : ℕ) (ss : List SignalId) → member_from 0 n [] ss ≡ None → signal_in n ss ≡ None
no-signal n ss e = first-signal n ss ∙ ap (λ o. option_map (λ (s : SignalId). Signal s.signal s.of) o) (nowhere (is_member n []) 0 ss e)

-- what was read at the place is what the declaration stands for
value-is : {R : Type 0} (of : R → ParamValue) (r : Option R) (t : Option Thing) → t ≡ option_map (λ (v : ParamValue). Constant v.of v.value) (option_map of r) → IsValue of r t
value-is of None t e = e
value-is of (Some r) t e = e

type-is : {R : Type 0} (of : R → ParamType) (r : Option R) (t : Option Thing) → t ≡ option_map (λ (t : ParamType). TypeName t.of) (option_map of r) → IsType of r t
type-is of None t e = e
type-is of (Some r) t e = e

signal-is : {R : Type 0} (of : R → SignalId) (r : Option R) (t : Option Thing) → t ≡ option_map (λ (s : SignalId). Signal s.signal s.of) (option_map of r) → IsSignal of r t
signal-is of None t e = e
signal-is of (Some r) t e = e

member-is : {R : Type 0} (of : R → SignalId) (r : Option R) (m : Option SignalId) → m ≡ option_map of r → IsMember of r m
member-is of None m e = e
member-is of (Some r) m e = e

pub value-at : {R : Type 0} (of : R → ParamValue) (r : Option R) (n p : ℕ) (vs : List ParamValue) → option_map of r ≡ slice_get vs p → place_from value_number 0 n vs ≡ Some p → IsValue of r (value_in n vs)
value-at of r n p vs read e =
    value-is of r _ (first-value n vs ∙ ap (λ o. option_map (λ (v : ParamValue). Constant v.of v.value) o) (sym (read ∙ at-place (λ (v : ParamValue). nat_eq (value_number v) n) p vs e)))

pub type-at : {R : Type 0} (of : R → ParamType) (r : Option R) (n p : ℕ) (ts : List ParamType) → option_map of r ≡ slice_get ts p → place_from type_number 0 n ts ≡ Some p → IsType of r (type_in n ts)
type-at of r n p ts read e =
    type-is of r _ (first-type n ts ∙ ap (λ o. option_map (λ (t : ParamType). TypeName t.of) o) (sym (read ∙ at-place (λ (t : ParamType). nat_eq (type_number t) n) p ts e)))

pub member-at : {R : Type 0} (of : R → SignalId) (r : Option R) (n p : ℕ) (name : List ℕ) (ss : List SignalId) → option_map of r ≡ slice_get ss p → member_from 0 n name ss ≡ Some p
    → IsMember of r (member_in n name ss)
member-at of r n p name ss read e = member-is of r _ (first-member n name ss ∙ sym (read ∙ at-place (is_member n name) p ss e))

pub signal-at : {R : Type 0} (of : R → SignalId) (r : Option R) (n p : ℕ) (ss : List SignalId) → option_map of r ≡ slice_get ss p → member_from 0 n [] ss ≡ Some p → IsSignal of r (signal_in n ss)
signal-at of r n p ss read e =
    signal-is of r _ (first-signal n ss ∙ ap (λ o. option_map (λ (s : SignalId). Signal s.signal s.of) o) (sym (read ∙ at-place (is_member n []) p ss e)))
