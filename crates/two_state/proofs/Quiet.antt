-- Helpers read no signal of the module in which they are called.
use Rattle.std.proofs.Common.{◌≡◌, ℕ, zero, suc, ◌<◌, true, false, drop, replicate, List, [], ◌∷◌, ◌++◌, Some, None, Result, Ok, Err, IfOk, refl, ◌∙◌, ap, arith}
use Rattle.std.specs.Prelude.{filter}
use Rattle.std.proofs.lemmas.List.Elements.{filter-append}
use Rattle.b4_core.specs.declared.bit.Bit4.{Bit4}
use Rattle.b4_core.specs.declared.bit.Bit4.TheVariants.{One, X}
use Rattle.b4_core.specs.declared.operators.BinOp.TheVariants as B
use Rattle.b4_core.specs.declared.operators.EqOp.TheVariants.{Case}
use Rattle.b4_core.specs.declared.operators.RedOp.TheVariants as R
use Rattle.b4_core.specs.declared.operators.UnOp.TheVariants as U
use Rattle.row_machine.specs.Valuation.{Valuation}
use Rattle.v_tree.specs.Names.{Name}
use Rattle.v_tree.specs.Printing.{helper_text}
use Rattle.v_tree.specs.declared.expressions.VExtent.TheVariants.{Up}
use Rattle.v_tree.specs.declared.items.VFunction.{VFunction}
use Rattle.v_tree.specs.declared.items.VLocal.{VLocal}
use Rattle.v_tree.specs.declared.names.HelperKind.{HelperKind}
use Rattle.v_tree.specs.declared.names.HelperKind.TheVariants.{Cast, TwoState, Select, WildEq}
use Rattle.v_meaning.specs.Functions.{callee_of, scope_in}
use Rattle.v_meaning.specs.Scopes.{Scope, Named, Use, named, is_signal}
use Rattle.v_meaning.specs.Selects.{SelMeaning}
use Rattle.v_meaning.specs.Statements.{Doing, assignment, name_target}
use Rattle.v_meaning.specs.Values as T
use Rattle.v_meaning.specs.Values.{Meaning, decimal_base, expression_base, unseen}
use Rattle.two_state.specs.Kinds.{HasBits, Gives, vector, other, bit, each, is_set, matching, value_of, result_width, inputs_for}
use Rattle.two_state.proofs.Calls.{one-bound, first-bound, second-bound}
use Rattle.two_state.proofs.Helping.{no-vector, no-other, starts, length-x}

abbrev of_signals : List Use → List Use
of_signals us = filter (λ (u : Use). is_signal u.number) us

abbrev IsQuiet : Meaning → Scope → Type 0
IsQuiet m sc = of_signals (m.reads sc) ≡ []

both-quiet : (xs ys : List Use) → of_signals xs ≡ [] → of_signals ys ≡ [] → of_signals (xs ++ ys) ≡ []
both-quiet xs ys h g = filter-append (λ (u : Use). is_signal u.number) xs ys ∙ (λ i. h i ++ g i)

-- a name of an input
local-quiet : (name own : Name) (k w : ℕ) (sels : List SelMeaning) (sc : Scope) → named sc.names name ≡ record { name = own; number = k; width = w; words = None } → is_signal k ≡ false
    → of_signals (T.sel_reads sels sc) ≡ [] → IsQuiet (T.reference name sels) sc
unfolding T.reference
local-quiet name own k w sels sc is apart rest =
    ap (λ (n : Named). of_signals (T.use_of n sels sc ∷ T.sel_reads sels sc)) is
    ∙ dropped (T.use_of (record { name = own; number = k; width = w; words = None }) sels sc) (T.sel_reads sels sc) apart ∙ rest
  where
    dropped : (u : Use) (us : List Use) → is_signal u.number ≡ false → of_signals (u ∷ us) ≡ of_signals us
    dropped u us h = grind arith

-- operations of quiet operands
one-quiet : (m : Meaning) (sc : Scope) → IsQuiet m sc → of_signals (T.all_reads (m ∷ []) sc) ≡ []
one-quiet m sc h = both-quiet (m.reads sc) [] h refl

two-quiet : (m n : Meaning) (sc : Scope) → IsQuiet m sc → IsQuiet n sc → of_signals (T.all_reads (m ∷ n ∷ []) sc) ≡ []
two-quiet m n sc h g = both-quiet (m.reads sc) (n.reads sc ++ []) h (both-quiet (n.reads sc) [] g refl)

literal-quiet : (b : Bit4) (sc : Scope) → IsQuiet (T.literal (b ∷ [])) sc
unfolding T.literal
literal-quiet b sc = refl

equal-quiet : (m n : Meaning) (sc : Scope) → IsQuiet m sc → IsQuiet n sc → IsQuiet (T.equal Case m n) sc
unfolding T.equal
equal-quiet m n sc h g = two-quiet m n sc h g

or-quiet : (m n : Meaning) (sc : Scope) → IsQuiet m sc → IsQuiet n sc → IsQuiet (T.binary B.Or m n) sc
unfolding T.binary
or-quiet m n sc h g = two-quiet m n sc h g

xnor-quiet : (m n : Meaning) (sc : Scope) → IsQuiet m sc → IsQuiet n sc → IsQuiet (T.binary B.Xnor m n) sc
unfolding T.binary
xnor-quiet m n sc h g = two-quiet m n sc h g

not-quiet : (m : Meaning) (sc : Scope) → IsQuiet m sc → IsQuiet (T.unary U.Not m) sc
unfolding T.unary
not-quiet m sc h = one-quiet m sc h

signing-quiet : (m : Meaning) (sc : Scope) → IsQuiet m sc → IsQuiet (T.signing true m) sc
unfolding T.signing
signing-quiet m sc h = one-quiet m sc h

each-quiet : (f : ℕ → Meaning) (n : ℕ) (sc : Scope) → ((i : ℕ) → IsQuiet (f i) sc) → of_signals (T.all_reads (each f n) sc) ≡ []
each-quiet f zero sc h = refl
each-quiet f (suc n) sc h = both-quiet ((f n).reads sc) (T.all_reads (each f n) sc) (h n) (each-quiet f n sc h)

joined-quiet : (f : ℕ → Meaning) (n : ℕ) (sc : Scope) → ((i : ℕ) → IsQuiet (f i) sc) → IsQuiet (T.concatenation (each f n)) sc
unfolding T.concatenation
joined-quiet f n sc h = each-quiet f n sc h

reduced-quiet : (m : Meaning) (sc : Scope) → IsQuiet m sc → IsQuiet (T.reduce R.And m) sc
unfolding T.reduce
reduced-quiet m sc h = one-quiet m sc h

-- the function reads what its result does
function-quiet : (f : VFunction) (name : Name) (n : ℕ) (ins : List VLocal) (m : Meaning) (sc : Scope) → Gives f name n ins m → IsQuiet m (scope_in f sc) → (callee_of sc f).reads ≡ []
unfolding assignment name_target
function-quiet f name n ins m sc g h =
    ap (λ (d : Doing). of_signals (d.reads (scope_in f sc))) g.4 ∙ both-quiet (m.reads (scope_in f sc)) [] h refl

abbrev nowhere-held : Valuation
nowhere-held q = X

pub quiet : (kind : HelperKind) (w : ℕ) (f : VFunction) (name rest : Name) (sc : Scope) → 0 < w → HasBits kind → name ≡ 115 ∷ rest
    → Gives f name (result_width kind w) (inputs_for kind w) (value_of kind w) → (callee_of sc f).reads ≡ []
quiet Cast w f name rest sc some sizes is g =
    let b = one-bound f name w (value_of Cast w) some sc nowhere-held w (replicate w X) some (no-vector name rest is) g (length-x w) in
    function-quiet f name w (inputs_for Cast w) (value_of Cast w) sc g (local-quiet vector b.own b.number w [] (scope_in f sc) b.is b.local refl)
quiet TwoState w f name rest sc some sizes is g =
    let b = one-bound f name w (value_of TwoState w) some sc nowhere-held w (replicate w X) some (no-vector name rest is) g (length-x w) in
    function-quiet f name w (inputs_for TwoState w) (value_of TwoState w) sc g
    (joined-quiet is_set w (scope_in f sc) (λ i. equal-quiet (bit vector i) (T.literal (One ∷ [])) (scope_in f sc)
    (local-quiet vector b.own b.number w (decimal_base i None ∷ []) (scope_in f sc) b.is b.local refl) (literal-quiet One (scope_in f sc))))
quiet (Select part index) w f name rest sc some sizes is g =
    let b = first-bound f name part (value_of (Select part index) w) sizes.0 sc nowhere-held w index (replicate w X) (replicate index X) some sizes.1 (no-vector name rest is) (no-other name rest is) g (length-x w) (length-x index) in
    let c = second-bound f name part (value_of (Select part index) w) sizes.0 sc nowhere-held w index (replicate w X) (replicate index X) some sizes.1 (no-vector name rest is) (no-other name rest is) g (length-x w) (length-x index) in
    let o = signing-quiet (T.reference other []) (scope_in f sc) (local-quiet other c.own c.number index [] (scope_in f sc) c.is c.local refl) in
    function-quiet f name part (inputs_for (Select part index) w) (value_of (Select part index) w) sc g
    (local-quiet vector b.own b.number w (expression_base (T.signing true (T.reference other [])) (Some (Up part)) ∷ []) (scope_in f sc) b.is b.local
    (both-quiet ((T.signing true (T.reference other [])).reads (scope_in f sc)) [] o refl))
quiet WildEq w f name rest sc some sizes is g =
    let b = first-bound f name 1 (value_of WildEq w) (omega arith) sc nowhere-held w w (replicate w X) (replicate w X) some some (no-vector name rest is) (no-other name rest is) g (length-x w) (length-x w) in
    let c = second-bound f name 1 (value_of WildEq w) (omega arith) sc nowhere-held w w (replicate w X) (replicate w X) some some (no-vector name rest is) (no-other name rest is) g (length-x w) (length-x w) in
    let v_bit : (i : ℕ) → IsQuiet (bit vector i) (scope_in f sc) = λ i. local-quiet vector b.own b.number w (decimal_base i None ∷ []) (scope_in f sc) b.is b.local refl in
    let o_bit : (i : ℕ) → IsQuiet (bit other i) (scope_in f sc) = λ i. local-quiet other c.own c.number w (decimal_base i None ∷ []) (scope_in f sc) c.is c.local refl in
    function-quiet f name 1 (inputs_for WildEq w) (value_of WildEq w) sc g
    (reduced-quiet (T.concatenation (each matching w)) (scope_in f sc) (joined-quiet matching w (scope_in f sc)
    (λ i. or-quiet (T.equal Case (T.unary U.Not (bit other i)) (T.literal (X ∷ []))) (T.binary B.Xnor (bit vector i) (bit other i)) (scope_in f sc)
    (equal-quiet (T.unary U.Not (bit other i)) (T.literal (X ∷ [])) (scope_in f sc) (not-quiet (bit other i) (scope_in f sc) (o_bit i)) (literal-quiet X (scope_in f sc)))
    (xnor-quiet (bit vector i) (bit other i) (scope_in f sc) (v_bit i) (o_bit i)))))

pub all-quiet : {E : Type 0} (kind : HelperKind) (w : ℕ) (name : Name) (r : Result VFunction E) → 0 < w → HasBits kind → name ≡ helper_text (record { kind = kind; width = w })
    → IfOk r (λ f. Gives f name (result_width kind w) (inputs_for kind w) (value_of kind w)) → IfOk r (λ f. (sc : Scope) → (callee_of sc f).reads ≡ [])
all-quiet kind w name (Ok f) some sizes is g =
    λ sc. quiet kind w f name (drop 1 (helper_text (record { kind = kind; width = w }))) sc some sizes (is ∙ starts (record { kind = kind; width = w })) g
all-quiet kind w name (Err e) some sizes is g = g
