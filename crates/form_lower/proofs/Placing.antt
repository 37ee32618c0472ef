-- What is assigned to members, elements and formals.
use Rattle.std.proofs.Common.{◌≡◌, ℕ, zero, suc, ◌+◌, ◌-◌, ◌<◌, ◌≤◌, max, Bool, true, false, List, [], ◌∷◌, ◌++◌, append-nil, append_assoc, length, length-append, map, take, drop, get_or, reverse, replicate, Some, refl, arith, ap, sym, ◌∙◌, subst}
use Rattle.std.specs.Prelude.{⊤, slice_get}
use Rattle.std.proofs.Math.Seq.{drop-cons}
use Rattle.std.proofs.lemmas.List.{take-replicate, reverse-append}
use Rattle.b4_core.specs.declared.bit.Bit4.{Bit4}
use Rattle.b4_core.specs.declared.bit.Bit4.TheVariants.{Zero, One, X, Z}
use Rattle.b4_core.specs.Vectors.{ext, top_bit}
use Rattle.row_machine.specs.Valuation.{Valuation}
use Rattle.sv_types.specs.declared.types.SvType.{SvType}
use Rattle.sv_types.specs.declared.expression.Expr.{Expr}
use Rattle.sv_types.specs.Layouts.{Layout, layout, width_of, stored, stored_bit, stacked}
use Rattle.sv_types.specs.Surroundings.{Around, Parameter}
use Rattle.sv_types.specs.Meanings as S
use Rattle.sv_types.specs.Operators as O
use Rattle.sv_types.specs.Operators.{assigned_to, parts_of}
use Rattle.sv_types.specs.Expressions.{meaning}
use Rattle.sv_types.proofs.OperatorLengths.{length-ext}
use Rattle.sv_types.proofs.Stored.{length-stored}
use Rattle.v_tree.specs.Names.{Name}
use Rattle.v_tree.specs.declared.names.Helper.{Helper}
use Rattle.v_tree.specs.declared.expressions.VExpr.{VExpr}
use Rattle.v_build.specs.Trees.{meanings}
use Rattle.v_meaning.specs.Scopes.{Scope}
use Rattle.v_meaning.specs.Values as T
use Rattle.eval_parts.specs.Answers.{assigned}
use Rattle.eval_parts.specs.Targets.{marks_of_parts, marks_of_formals}
use Rattle.eval_parts.proofs.Assigned.{parts-assigned}
use Rattle.eval_forms.specs.Narrow.{AllNarrowAt}
use Rattle.lowering_laws.specs.Helpers.{AreArguments, widths}
use Rattle.lowering_laws.specs.Same.{Same, HasBits}
use Rattle.lowering_laws.proofs.Constants.{number-same, signed-same, bits-alone}
use Rattle.lowering_laws.proofs.Extensions.{ext-at, ext-cut, ext-then-cut, take-whole}
use Rattle.path_flatten.specs.Helping.{EachHelps, Grows}
use Rattle.path_flatten.specs.Naming.{SameNumbers}
use Rattle.path_flatten.specs.Storing.{signed_as}
use Rattle.path_flatten.proofs.Helping.{helps-before, grows-none, grows-both}
use Rattle.path_flatten.proofs.Naming.{same-by, same-itself, same-then, same-joined}
use Rattle.path_reads.specs.Running.{KeepsBits}
use Rattle.form_lower.specs.Calls.{Calls}
use Rattle.form_lower.specs.Assigned.{cutter, Assigns, Keeps, Fits}
use Rattle.form_lower.specs.Places.{IsItem, IsPut, Gives, AllGive, Puts, AllPut, bits_of_first, Patterns, StandsForCallee, passed_beside, CallsNamed}
use Rattle.form_lower.proofs.Casting.{cut-has, call-names, like-signed}

-- what has bits, in a context
pub stands-in : (e : S.Meaning) (w : ℕ) (s : Bool) (a : Around) (b : Bool) (m : T.Meaning) (c : List Bit4) (sc : Scope) (v : Valuation) → HasBits m c sc v → S.wide e ≤ length c → length c ≤ max w (S.wide e)
    → e.value w s a ≡ ext w s c → S.signed e ≡ b → Same e w s a (signed_as b m) sc v
stands-in e w s a true m c sc v has least most value sign = subst (λ b. Same e w s a (T.signing b m) sc v) sign (signed-same e c w s a m sc v has least most (sym value))
stands-in e w s a false m c sc v has least most value sign = number-same e c w s a m sc v has least most (sym value) sign

-- what has bits wherever it stands has them at a place
given-bits : (m : T.Meaning) (x : List Bit4) (n : ℕ) (sc : Scope) (v : Valuation) → HasBits m x sc v → length x ≡ n → T.given m n sc v ≡ x
given-bits m x n sc v has long =
    let wide = has.width in
    let larger : max n (m.width sc) ≡ n = omega arith in
    ap (λ k. take n (m.value k m.signed sc v)) larger ∙ ap (take n) (has.value n m.signed ∙ ext-at n m.signed x long) ∙ take-whole n x (omega arith)

put-bits : (joined : Bool) (m : T.Meaning) (c : List Bit4) (sc : Scope) (v : Valuation) → HasBits m c sc v → IsPut joined m c sc v
put-bits true m c sc v has = record { width = has.width; value = bits-alone m c sc v has }
put-bits false m c sc v has = given-bits m c (length c) sc v has refl

-- an expression as it is, one of as many bits as the place, and one that is cut or extended
kept-at : (joined : Bool) (n : ℕ) (e : S.Meaning) (a : Around) (m : T.Meaning) (sc : Scope) (v : Valuation) → (joined ≡ true → S.wide e ≡ n) → Gives n e a m sc v → IsPut joined m (e.given n a) sc v
kept-at true n e a m sc v exact g = g.alone (exact refl)
kept-at false n e a m sc v exact g = ap (λ k. T.given m k sc v) g.long ∙ g.value

pub puts-kept : (joined : Bool) (t : SvType) (e : S.Meaning) (m : T.Meaning) (hs : List Helper) → KeepsBits t → (joined ≡ true → S.wide e ≡ width_of t) → Puts joined (layout t).two_state e m hs m
puts-kept joined t e m hs keeps exact = record {
  bits = λ a sc v all g. subst (λ c. IsPut joined m c sc v) (sym (keeps (e.given (width_of t) a) g.long)) (kept-at joined (width_of t) e a m sc v exact g);
  names = λ sc. same-by (T.all_names (m ∷ []) sc) (m.names sc) (append-nil (m.names sc));
}

pub puts-whole : (joined : Bool) (t : SvType) (e : S.Meaning) (m : T.Meaning) (hs : List Helper) (r : T.Meaning) → 1 ≤ width_of t → S.wide e ≡ width_of t → Keeps t m hs r → Puts joined (layout t).two_state e m hs r
puts-whole joined t e m hs r some exact kept = record {
  bits = λ a sc v all g.
      let item = g.alone exact in
      put-bits joined r (assigned_to (layout t).two_state e a) sc v (kept.bits (e.given (width_of t) a) sc v all item.width item.value g.long some);
  names = kept.names;
}

pub puts-assigned : (joined : Bool) (two_state : List Bool) (e : S.Meaning) (m : T.Meaning) (hs : List Helper) (r : T.Meaning) → Assigns two_state m hs r → Puts joined two_state e m hs r
puts-assigned joined two_state e m hs r h = record {
  bits = λ a sc v all g. put-bits joined r (assigned_to two_state e a) sc v (h.bits (e.given (length two_state) a) sc v all g.value g.long);
  names = h.names;
}

-- the items have the bits that are assigned
abbrev AllItems : List T.Meaning → List (List Bit4) → Scope → Valuation → Type 0
AllItems [] [] sc v = ⊤
AllItems [] (c ∷ cs) sc v = ⊥
AllItems (m ∷ ms) [] sc v = ⊥
AllItems (m ∷ ms) (c ∷ cs) sc v = IsItem m c sc v × AllItems ms cs sc v

all-items : (bs : List (List Bool)) (es : List S.Meaning) (a : Around) (ms rs : List T.Meaning) (hs : List Helper) (sc : Scope) (v : Valuation) → EachHelps hs sc → AllPut true bs es ms hs rs → AllGive bs es a ms sc v
    → AllItems rs (assigned bs es a) sc v
all-items [] es a [] [] hs sc v all h g = tt
all-items [] es a [] (r ∷ rs) hs sc v all h g = absurd h
all-items [] es a (m ∷ ms) rs hs sc v all h g = absurd g
all-items (b ∷ bs) [] a [] [] hs sc v all h g = tt
all-items (b ∷ bs) [] a [] (r ∷ rs) hs sc v all h g = absurd h
all-items (b ∷ bs) [] a (m ∷ ms) rs hs sc v all h g = absurd g
all-items (b ∷ bs) (e ∷ es) a [] rs hs sc v all h g = absurd g
all-items (b ∷ bs) (e ∷ es) a (m ∷ ms) [] hs sc v all h g = absurd h
all-items (b ∷ bs) (e ∷ es) a (m ∷ ms) (r ∷ rs) hs sc v all h g = (h.0.bits a sc v all g.0, all-items bs es a ms rs hs sc v all h.1 g.1)

items-width : (ms : List T.Meaning) (cs : List (List Bit4)) (sc : Scope) (v : Valuation) → AllItems ms cs sc v → T.joined_width ms sc ≡ length (stacked cs)
items-width [] [] sc v h = refl
items-width [] (c ∷ cs) sc v h = absurd h
items-width (m ∷ ms) [] sc v h = absurd h
items-width (m ∷ ms) (c ∷ cs) sc v h =
    let one = h.0.width in
    let rest = items-width ms cs sc v h.1 in
    let all = length-append (stacked cs) c in
    omega arith

items-joined : (ms : List T.Meaning) (cs : List (List Bit4)) (sc : Scope) (v : Valuation) → AllItems ms cs sc v → T.joined ms sc v ≡ stacked cs
items-joined [] [] sc v h = refl
items-joined [] (c ∷ cs) sc v h = absurd h
items-joined (m ∷ ms) [] sc v h = absurd h
items-joined (m ∷ ms) (c ∷ cs) sc v h = λ i. items-joined ms cs sc v h.1 i ++ h.0.value i

items-bits : (ms : List T.Meaning) (cs : List (List Bit4)) (sc : Scope) (v : Valuation) → AllItems ms cs sc v → HasBits (T.concatenation ms) (stacked cs) sc v
unfolding T.concatenation
items-bits ms cs sc v h = record {
  width = items-width ms cs sc v h;
  unsigned = refl;
  value = λ w s. ap (ext w s) (items-joined ms cs sc v h);
}

-- and name what the expressions name
pub all-named : (joined : Bool) (bs : List (List Bool)) (es : List S.Meaning) (ms rs : List T.Meaning) (hs : List Helper) (sc : Scope) → AllPut joined bs es ms hs rs → SameNumbers (T.all_names ms sc) (T.all_names rs sc)
all-named joined bs es [] [] hs sc h = same-itself []
all-named joined bs es [] (r ∷ rs) hs sc h = absurd h
all-named joined bs es (m ∷ ms) [] hs sc h = absurd h
all-named joined [] es (m ∷ ms) (r ∷ rs) hs sc h = absurd h
all-named joined (b ∷ bs) [] (m ∷ ms) (r ∷ rs) hs sc h = absurd h
all-named joined (b ∷ bs) (e ∷ es) (m ∷ ms) (r ∷ rs) hs sc h =
    same-joined (m.names sc) (r.names sc) (T.all_names ms sc) (T.all_names rs sc) (subst (λ l. SameNumbers l (r.names sc)) (append-nil (m.names sc)) (h.0.names sc)) (all-named joined bs es ms rs hs sc h.1)

-- how many bits they have
stacked-long : (bs : List (List Bool)) (es : List S.Meaning) (a : Around) (ms : List T.Meaning) (sc : Scope) (v : Valuation) → AllGive bs es a ms sc v → length (stacked (assigned bs es a)) ≡ bits_of_first (length ms) bs
stacked-long [] es a [] sc v g = refl
stacked-long [] es a (m ∷ ms) sc v g = absurd g
stacked-long (b ∷ bs) [] a [] sc v g = refl
stacked-long (b ∷ bs) [] a (m ∷ ms) sc v g = absurd g
stacked-long (b ∷ bs) (e ∷ es) a [] sc v g = absurd g
stacked-long (b ∷ bs) (e ∷ es) a (m ∷ ms) sc v g =
    let one = length-stored b (e.given (length b) a) g.0.long in
    let rest = stacked-long bs es a ms sc v g.1 in
    length-append (stacked (assigned bs es a)) (assigned_to b e a) ∙ omega arith

-- Bits that a context takes.
filled-shorter : (w n : ℕ) (c : List Bit4) (b : Bit4) → w ≤ n → take w (take n c ++ replicate (n - length c) b) ≡ take w c ++ replicate (w - length c) b
filled-shorter zero n c b h = (let none : zero - length c ≡ 0 = omega arith in sym (ap (λ k. take zero c ++ replicate k b) none ∙ append-nil (take zero c) ∙ nothing c) ∙ refl)
  where
    nothing : (x : List Bit4) → take zero x ≡ []
    nothing [] = refl
    nothing (y ∷ x) = refl
filled-shorter (suc w) zero c b h = absurd (omega arith)
filled-shorter (suc w) (suc n) [] b h =
    let left : suc n - 0 ≡ suc n = omega arith in
    let right : suc w - 0 ≡ suc w = omega arith in
    ap (λ k. take (suc w) (replicate k b)) left ∙ take-replicate (suc w) (suc n) b h ∙ sym (ap (λ k. replicate k b) right)
filled-shorter (suc w) (suc n) (y ∷ c) b h =
    let left : suc n - suc (length c) ≡ n - length c = omega arith in
    let right : suc w - suc (length c) ≡ w - length c = omega arith in
    (λ i. y ∷ take w (take n c ++ replicate (left i) b)) ∙ ap (λ x. y ∷ x) (filled-shorter w n c b (omega arith)) ∙ sym (λ i. y ∷ (take w c ++ replicate (right i) b))

ext-shorter : (w n : ℕ) (s t : Bool) (c : List Bit4) → w ≤ n → ext w s (ext n t c) ≡ ext w t c
ext-shorter w n s t c h = (let long = length-ext n t c in ext-cut w s (ext n t c) (omega arith)) ∙ by t
  where
    by : (b : Bool) → take w (ext n b c) ≡ ext w b c
    by true = filled-shorter w n c (top_bit c) h
    by false = filled-shorter w n c Zero h

signing-cut : (n : ℕ) (s : Bool) (m : T.Meaning) (c : List Bit4) (sc : Scope) (v : Valuation) → HasBits m c sc v → T.given (T.signing s m) n sc v ≡ ext n s c
unfolding T.signing
signing-cut n s m c sc v has =
    ap (λ k. take n (ext (max n k) s (T.alone m sc v))) has.width ∙ ap (λ x. take n (ext (max n (length c)) s x)) (bits-alone m c sc v has) ∙ ext-then-cut n (length c) s c refl

signing-named : (s : Bool) (m : T.Meaning) (sc : Scope) → (T.signing s m).names sc ≡ m.names sc ++ []
unfolding T.signing
signing-named s m sc = refl

pub fits-whole : (whole : Bool) (m : T.Meaning) (to : ℕ) (s : Bool) (hs : List Helper) → whole ≡ true → Fits whole m to s hs m
fits-whole whole m to s hs is = record {
  bits = λ c n sc v all has long some few. (let size = long is in (c, has, omega arith, omega arith, λ w h. refl));
  names = λ sc. same-by (T.all_names (m ∷ []) sc) (m.names sc) (append-nil (m.names sc));
}

pub fits-cut : (whole : Bool) (m : T.Meaning) (to : ℕ) (s : Bool) (hs : List Helper) (k r : T.Meaning) → k ≡ T.signing s m → Calls (cutter to) (k ∷ []) hs r → Fits whole m to s hs r
fits-cut whole m to s hs k r is call = record {
  bits = λ c n sc v all has long some few. (
      let size = length-ext to s c in (
        ext to s c,
        cut-has to k hs r call (ext to s c) sc v some all (ap (λ (y : T.Meaning). T.given y to sc v) is ∙ signing-cut to s m c sc v has) size,
        omega arith,
        omega arith,
        λ w h. ext-shorter w to s s c h,
      ));
  names = λ sc.
      subst (λ l. SameNumbers l (r.names sc)) (ap (λ (y : T.Meaning). y.names sc ++ []) is ∙ ap (λ l. l ++ []) (signing-named s m sc) ∙ append-nil (m.names sc ++ []))
      (call-names (cutter to) (k ∷ []) hs r call sc);
}

-- patterns
concatenation-named : (ms : List T.Meaning) (sc : Scope) → (T.concatenation ms).names sc ≡ T.all_names ms sc
unfolding T.concatenation
concatenation-named ms sc = refl

pattern-in : (of : Layout) (at : ℕ) (es : List S.Meaning) (w : ℕ) (s : Bool) (a : Around) (m : T.Meaning) (d : List Bit4) (sc : Scope) (v : Valuation) → HasBits m d sc v → length of.two_state ≤ length d
    → length d ≤ max w (length of.two_state) → ext w s d ≡ ext w s (stacked (assigned (marks_of_parts (parts_of of)) es a)) → Same (O.pattern of at es) w s a (signed_as of.signed m) sc v
unfolding O.pattern
pattern-in of at es w s a m d sc v has least most value =
    stands-in (O.pattern of at es) w s a of.signed m d sc v has least most (ap (λ x. ext w s (stacked x)) (parts-assigned (parts_of of) es a) ∙ sym value) refl

pub patterns : (t : SvType) (w : ℕ) (s whole b : Bool) (es : List S.Meaning) (ms rs : List T.Meaning) (old hs : List Helper) (n k r : T.Meaning) → 1 ≤ width_of t
    → (whole ≡ true → bits_of_first (length ms) (marks_of_parts (parts_of (layout t))) ≡ width_of t) → AllPut true (marks_of_parts (parts_of (layout t))) es ms old rs → Grows old hs → n ≡ T.concatenation rs
    → Fits whole n (max w (width_of t)) s hs k → b ≡ (layout t).signed → r ≡ signed_as b k → Patterns t w s es ms hs r
patterns t w s whole b es ms rs old hs n k r some all_bits items grows joined fits sign is =
    let marks = marks_of_parts (parts_of (layout t)) in
    record {
      same = λ at a sc v helps give.
          let c = stacked (assigned marks es a) in
          let has = subst (λ (y : T.Meaning). HasBits y c sc v) (sym joined) (items-bits rs (assigned marks es a) sc v (all-items marks es a ms rs old sc v (helps-before old hs sc grows helps) items give)) in
          let f = fits.bits c (width_of t) sc v helps has (λ h. stacked-long marks es a ms sc v give ∙ all_bits h) (omega arith) (omega arith) in
          subst (λ (y : T.Meaning). Same (O.pattern (layout t) at es) w s a y sc v) (sym (is ∙ ap (λ c. signed_as c k) sign)) (pattern-in (layout t) at es w s a k f.0 sc v f.1 f.2 f.3 (f.4 w (omega arith)));
      names = λ sc.
          let all = all-named true marks es ms rs old sc items in
          let one = subst (λ l. SameNumbers l (k.names sc)) (ap (λ (y : T.Meaning). y.names sc ++ []) joined ∙ ap (λ l. l ++ []) (concatenation-named rs sc) ∙ append-nil (T.all_names rs sc)) (fits.names sc) in
          same-then (T.all_names ms sc) (k.names sc) (r.names sc) (same-then (T.all_names ms sc) (T.all_names rs sc) (k.names sc) all one) (like-signed b k r is sc);
    }

-- calls
arguments-are : (ps : List Parameter) (es : List S.Meaning) (a : Around) (ms rs : List T.Meaning) (hs : List Helper) (sc : Scope) (v : Valuation) → length es ≡ length ps → EachHelps hs sc
    → AllPut false (marks_of_formals ps) es ms hs rs → AllGive (marks_of_formals ps) es a ms sc v → T.arguments (widths ps) rs sc v ≡ O.passed ps es a
arguments-are [] [] a ms rs hs sc v count all h g = refl
arguments-are [] (e ∷ es) a ms rs hs sc v count all h g = absurd (omega arith)
arguments-are (p ∷ ps) [] a ms rs hs sc v count all h g = absurd (omega arith)
arguments-are (p ∷ ps) (e ∷ es) a [] rs hs sc v count all h g = absurd g
arguments-are (p ∷ ps) (e ∷ es) a (m ∷ ms) [] hs sc v count all h g = absurd h
arguments-are (p ∷ ps) (e ∷ es) a (m ∷ ms) (r ∷ rs) hs sc v count all h g =
    let long = length-stored p.two_state (e.given (length p.two_state) a) g.0.long in
    let one : T.given r (length p.two_state) sc v ≡ assigned_to p.two_state e a = ap (λ k. T.given r k sc v) (sym long) ∙ h.0.bits a sc v all g.0 in
    let rest = arguments-are ps es a ms rs hs sc v (omega arith) all h.1 g.1 in
    λ i. one i ∷ rest i

stored-twice : (bs : List Bool) (x : List Bit4) → stored bs (stored bs x) ≡ stored bs x
stored-twice [] x = refl
stored-twice (b ∷ bs) [] = refl
stored-twice (b ∷ bs) (y ∷ x) = λ i. bit b y i ∷ stored-twice bs x i
  where
    bit : (c : Bool) (z : Bit4) → stored_bit c (stored_bit c z) ≡ stored_bit c z
    bit false z = refl
    bit true Zero = refl
    bit true One = refl
    bit true X = refl
    bit true Z = refl

are-arguments : (ps : List Parameter) (es : List S.Meaning) (a : Around) (ms : List T.Meaning) (sc : Scope) (v : Valuation) → length es ≡ length ps → AllGive (marks_of_formals ps) es a ms sc v
    → AreArguments ps (O.passed ps es a)
are-arguments [] [] a ms sc v count g = tt
are-arguments [] (e ∷ es) a ms sc v count g = absurd (omega arith)
are-arguments (p ∷ ps) [] a ms sc v count g = absurd (omega arith)
are-arguments (p ∷ ps) (e ∷ es) a [] sc v count g = absurd g
are-arguments (p ∷ ps) (e ∷ es) a (m ∷ ms) sc v count g =
    ((length-stored p.two_state (e.given (length p.two_state) a) g.0.long, stored-twice p.two_state (e.given (length p.two_state) a)), are-arguments ps es a ms sc v (omega arith) g.1)

call-has : (name : Name) (rs : List T.Meaning) (is : List ℕ) (xs : List (List Bit4)) (y : List Bit4) (sc : Scope) (v : Valuation) → (sc.callee name).inputs ≡ is → T.arguments is rs sc v ≡ xs
    → (sc.callee name).run v xs ≡ y → (sc.callee name).width ≡ length y → HasBits (T.call name rs) y sc v
unfolding T.call
call-has name rs is xs y sc v inputs args run width =
    let g = sc.callee name in
    record {
      width = width;
      unsigned = refl;
      value = λ w s. ap (λ l. ext w s (g.run v (T.arguments l rs sc v))) inputs ∙ ap (λ l. ext w s (g.run v l)) args ∙ ap (ext w s) run;
    }

call-in : (of : Layout) (at f w : ℕ) (s : Bool) (es : List S.Meaning) (a : Around) (m : T.Meaning) (sc : Scope) (v : Valuation)
    → HasBits m ((a.callee f).run (O.passed (a.callee f).formals es a)).result sc v → length ((a.callee f).run (O.passed (a.callee f).formals es a)).result ≡ length of.two_state
    → Same (O.call of at f es) w s a (signed_as of.signed m) sc v
unfolding O.call
call-in of at f w s es a m sc v has long =
    stands-in (O.call of at f es) w s a of.signed m ((a.callee f).run (O.passed (a.callee f).formals es a)).result sc v has (omega arith) (omega arith) refl refl

called-named : (name : Name) (ms : List T.Meaning) (sc : Scope) → (T.call name ms).names sc ≡ T.all_names ms sc
unfolding T.call
called-named name ms sc = refl

-- a function without formals, which is given 0
zero-given : (sc : Scope) (v : Valuation) → T.given (T.literal (Zero ∷ [])) 1 sc v ≡ Zero ∷ []
unfolding T.literal
zero-given sc v = refl

zero-named : (sc : Scope) → (T.literal (Zero ∷ [])).names sc ≡ []
unfolding T.literal
zero-named sc = refl

none-put : (es : List S.Meaning) (a : Around) (ms rs : List T.Meaning) (hs : List Helper) (sc : Scope) (v : Valuation) → AllPut false [] es ms hs rs → AllGive [] es a ms sc v → rs ≡ []
none-put es a [] [] hs sc v h g = refl
none-put es a [] (r ∷ rs) hs sc v h g = absurd h
none-put es a (m ∷ ms) rs hs sc v h g = absurd g

-- what is passed names what the arguments do
beside-named : (formals : List Parameter) (rs : List T.Meaning) (sc : Scope) → T.all_names (rs ++ passed_beside formals) sc ≡ T.all_names rs sc
beside-named [] [] sc = ap (λ l. l ++ []) (zero-named sc)
beside-named (p ∷ ps) [] sc = refl
beside-named formals (r ∷ rs) sc = ap (λ l. r.names sc ++ l) (beside-named formals rs sc)

-- a call has the bits that the function gives
called-has : (formals : List Parameter) (name : Name) (es : List S.Meaning) (a : Around) (f : ℕ) (wide : ℕ) (ms rs : List T.Meaning) (hs : List Helper) (sc : Scope) (v : Valuation) → (a.callee f).formals ≡ formals
    → length es ≡ length formals → EachHelps hs sc → AllPut false (marks_of_formals formals) es ms hs rs → AllGive (marks_of_formals formals) es a ms sc v → StandsForCallee formals (a.callee f) wide (sc.callee name)
    → HasBits (T.call name (rs ++ passed_beside formals)) ((a.callee f).run (O.passed formals es a)).result sc v × (length ((a.callee f).run (O.passed formals es a)).result ≡ wide)
called-has [] name es a f wide ms rs hs sc v same count helps items give stands =
    let none = none-put es a ms rs hs sc v items give in
    let args : T.arguments (1 ∷ []) (rs ++ T.literal (Zero ∷ []) ∷ []) sc v ≡ (Zero ∷ []) ∷ [] =
    ap (λ l. T.arguments (1 ∷ []) (l ++ T.literal (Zero ∷ []) ∷ []) sc v) none ∙ ap (λ x. x ∷ []) (zero-given sc v) in
    (call-has name (rs ++ T.literal (Zero ∷ []) ∷ []) (1 ∷ []) ((Zero ∷ []) ∷ []) ((a.callee f).run []).result sc v stands.inputs args (stands.run v) (stands.width ∙ sym stands.long), stands.long)
called-has (p ∷ ps) name es a f wide ms rs hs sc v same count helps items give stands =
    let formals = p ∷ ps in
    let xs = O.passed formals es a in
    let args = are-arguments formals es a ms sc v count give in
    let own = subst (λ l. AreArguments l xs) (sym same) args in
    let long = stands.long xs own in
    let inputs = stands.inputs ∙ ap widths same in
    let has = call-has name rs (widths formals) xs ((a.callee f).run xs).result sc v inputs (arguments-are formals es a ms rs hs sc v count helps items give) (stands.run v xs own) (stands.width ∙ sym long) in
    (subst (λ l. HasBits (T.call name l) ((a.callee f).run xs).result sc v) (sym (append-nil rs)) has, long)

pub calls-named : (t : SvType) (name : Name) (formals : List Parameter) (b : Bool) (es : List S.Meaning) (ms rs : List T.Meaning) (hs : List Helper) (all : List T.Meaning) (k r : T.Meaning)
    → AllPut false (marks_of_formals formals) es ms hs rs → all ≡ rs ++ passed_beside formals → k ≡ T.call name all → b ≡ (layout t).signed → r ≡ signed_as b k → CallsNamed t name formals es ms hs r
calls-named t name formals b es ms rs hs all k r items passed call sign is =
    let made : k ≡ T.call name (rs ++ passed_beside formals) = call ∙ ap (T.call name) passed in
    record {
      same = λ at f w s a sc v helps same count stands give.
          let has = called-has formals name es a f (width_of t) ms rs hs sc v same count helps items give stands in
          let own = subst (λ l. HasBits (T.call name (rs ++ passed_beside formals)) ((a.callee f).run (O.passed l es a)).result sc v × (length ((a.callee f).run (O.passed l es a)).result ≡ width_of t)) (sym same) has in
          subst (λ (y : T.Meaning). Same (O.call (layout t) at f es) w s a y sc v) (sym (is ∙ (λ i. signed_as (sign i) (made i)))) (call-in (layout t) at f w s es a (T.call name (rs ++ passed_beside formals)) sc v own.0 own.1);
      names = λ sc.
          same-then (T.all_names ms sc) (k.names sc) (r.names sc)
          (subst (SameNumbers (T.all_names ms sc)) (sym (ap (λ (y : T.Meaning). y.names sc) made ∙ called-named name (rs ++ passed_beside formals) sc ∙ beside-named formals rs sc))
          (all-named false (marks_of_formals formals) es ms rs hs sc items))
          (like-signed b k r is sc);
    }

-- Something stands for the last parts, from the end on.
pub record IsDone (joined : Bool) (marks : List (List Bool)) (items : List Expr) (parts rest : List VExpr) (old hs : List Helper) (made : List VExpr) : Type 0 where
  pub done : List VExpr
  pub split : rest ++ done ≡ parts
  pub grows : Grows old hs
  pub all : AllPut joined (drop (length rest) marks) (map meaning (drop (length rest) items)) (meanings done) hs (meanings (reverse made))

pub done-none : (joined : Bool) (marks : List (List Bool)) (items : List Expr) (parts : List VExpr) (hs : List Helper) → IsDone joined marks items parts parts hs hs []
done-none joined marks items parts hs = record { done = []; split = append-nil parts; grows = grows-none hs; all = tt }

more-helpers : (joined : Bool) (bs : List (List Bool)) (es : List S.Meaning) (ms rs : List T.Meaning) (old hs : List Helper) → Grows old hs → AllPut joined bs es ms old rs → AllPut joined bs es ms hs rs
more-helpers joined bs es [] [] old hs grows h = tt
more-helpers joined bs es [] (r ∷ rs) old hs grows h = absurd h
more-helpers joined bs es (m ∷ ms) [] old hs grows h = absurd h
more-helpers joined [] es (m ∷ ms) (r ∷ rs) old hs grows h = absurd h
more-helpers joined (b ∷ bs) [] (m ∷ ms) (r ∷ rs) old hs grows h = absurd h
more-helpers joined (b ∷ bs) (e ∷ es) (m ∷ ms) (r ∷ rs) old hs grows h = (
  record { bits = λ a sc v all g. h.0.bits a sc v (helps-before old hs sc grows all) g; names = h.0.names },
  more-helpers joined bs es ms rs old hs grows h.1,
)

pub done-next : (joined : Bool) (marks : List (List Bool)) (items : List Expr) (parts before rest : List VExpr) (part : VExpr) (item : Expr) (first old hs : List Helper) (made new : List VExpr) (r : VExpr)
    → IsDone joined marks items parts before first old made → before ≡ rest ++ part ∷ [] → length rest < length marks → length rest < length items → item ≡ get_or items (length rest) item → Grows old hs
    → Puts joined (get_or marks (length rest) []) (meaning item) (T.meaning part) hs (T.meaning r) → new ≡ made ++ r ∷ [] → IsDone joined marks items parts rest first hs new
done-next joined marks items parts before rest part item first old hs made new r h split there among at grows one more =
    let k = length rest in
    let long : length before ≡ suc k = ap length split ∙ length-append rest (part ∷ []) ∙ omega arith in
    let places : drop k marks ≡ get_or marks k [] ∷ drop (length before) marks = drop-cons marks k [] there ∙ ap (λ n. get_or marks k [] ∷ drop n marks) (sym long) in
    let same : drop k items ≡ item ∷ drop (length before) items = drop-cons items k item among ∙ (λ i. sym at i ∷ drop (sym long i) items) in
    let rests = drop (length before) marks in
    let all = more-helpers joined rests (map meaning (drop (length before) items)) (meanings h.done) (meanings (reverse made)) old hs grows h.all in
    record {
      done = part ∷ h.done;
      split = sym (append_assoc rest (part ∷ []) h.done) ∙ ap (λ l. l ++ h.done) (sym split) ∙ h.split;
      grows = grows-both first old hs h.grows grows;
      all = subst (λ bs. AllPut joined bs (map meaning (drop k items)) (T.meaning part ∷ meanings h.done) hs (meanings (reverse new))) (sym places)
          (subst (λ es. AllPut joined (get_or marks k [] ∷ rests) (map meaning es) (T.meaning part ∷ meanings h.done) hs (meanings (reverse new))) (sym same)
          (subst (λ l. AllPut joined (get_or marks k [] ∷ rests) (meaning item ∷ map meaning (drop (length before) items)) (T.meaning part ∷ meanings h.done) hs (meanings l)) (sym (ap reverse more ∙ reverse-append made (r ∷ [])))
          (one, all)));
    }

pub done-all : (joined : Bool) (marks : List (List Bool)) (items : List Expr) (parts rest : List VExpr) (first hs : List Helper) (made : List VExpr) (r : List VExpr) → IsDone joined marks items parts rest first hs made
    → rest ≡ [] → r ≡ reverse made → AllPut joined marks (map meaning items) (meanings parts) hs (meanings r)
done-all joined marks items parts rest first hs made r h none is =
    let bs : drop (length rest) marks ≡ marks = ap (λ l. drop (length l) marks) none ∙ whole marks in
    let es : drop (length rest) items ≡ items = ap (λ l. drop (length l) items) none ∙ whole items in
    subst (λ l. AllPut joined marks (map meaning items) (meanings parts) hs (meanings l)) (sym is)
    (subst (λ l. AllPut joined marks (map meaning items) (meanings l) hs (meanings (reverse made))) (ap (λ l. l ++ h.done) (sym none) ∙ h.split)
    (subst (λ l. AllPut joined marks (map meaning l) (meanings h.done) hs (meanings (reverse made))) es
    (subst (λ l. AllPut joined l (map meaning (drop (length rest) items)) (meanings h.done) hs (meanings (reverse made))) bs h.all)))
  where
    whole : {A : Type 0} (l : List A) → drop 0 l ≡ l
    whole [] = refl
    whole (b ∷ l) = refl

-- an item that is assigned to a place has no type of more than 2^22 bits
pub narrow-item : (bs : List (List Bool)) (es : List Expr) (i : ℕ) (e : Expr) → i < length bs → i < length es → e ≡ get_or es i e → AllNarrowAt bs es → (meaning e).widest ≤ 4194304
narrow-item [] es i e there among at h = absurd (omega arith)
narrow-item (b ∷ bs) [] i e there among at h = absurd (omega arith)
narrow-item (b ∷ bs) (x ∷ es) zero e there among at h = subst (λ y. (meaning y).widest ≤ 4194304) (sym at) h.0
narrow-item (b ∷ bs) (x ∷ es) (suc i) e there among at h = narrow-item bs es i e (omega arith) (omega arith) at h.1

-- one more place
pub first-more : (i : ℕ) (bs : List (List Bool)) (b : List Bool) → slice_get bs i ≡ Some b → bits_of_first (i + 1) bs ≡ bits_of_first i bs + length b
first-more i [] b h = absurd (cc)
first-more zero (c ∷ bs) b h = (let same : c ≡ b = some-same c b h in ap (λ x. length x + 0) same ∙ omega arith)
  where
    some-same : (x y : List Bool) → Some x ≡ Some y → x ≡ y
    some-same x y e = cc
first-more (suc i) (c ∷ bs) b h =
    let rest = first-more i bs b h in
    let next : suc i + 1 ≡ suc (i + 1) = omega arith in
    ap (λ k. bits_of_first k (c ∷ bs)) next ∙ omega arith

pub length-of-meanings : (es : List VExpr) → length (meanings es) ≡ length es
length-of-meanings [] = refl
length-of-meanings (e ∷ es) = ap suc (length-of-meanings es)
